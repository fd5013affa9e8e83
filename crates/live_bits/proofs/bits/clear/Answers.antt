use Rattle.live_bits.proofs.Editing.{clears}
use Rattle.live_bits.proofs.bits.clear.Goals as goal

pub returns : goal.returns
returns c = clears c.args.bits.now c.args.row c.requires
