use Rattle.std.proofs.Common.{refl}
use Rattle.body_forms.proofs.FileLaws.{moved}
use Rattle.live_bits.proofs.file.frame_of.Goals as goal

pub returns : goal.returns
returns c = moved _ _ _ _ _ (c.want.ensures.want c.args.live_gen c.base36-digits.ensures.digits) refl c.check.ensures
