use Rattle.live_bits.proofs.FileLaws.{live_one_to_one}
use Rattle.live_bits.proofs.laws.one_spelling.Goals as goal

pub returns : goal.returns
returns c = live_one_to_one
