use Rattle.copy_state.proofs.MetaLaws.{framed_readable}
use Rattle.copy_state.proofs.laws.framed_readable.Goals as goal

pub returns : goal.returns
returns c = framed_readable
