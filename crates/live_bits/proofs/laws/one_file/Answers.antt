use Rattle.body_forms.proofs.FileLaws.{files_one_to_one}
use Rattle.live_bits.proofs.FileLaws.{live_kind}
use Rattle.live_bits.proofs.laws.one_file.Goals as goal

pub returns : goal.returns
returns c = λ id live_gen. files_one_to_one (live_kind id live_gen)
