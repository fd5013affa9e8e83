use Rattle.lane_threads.proofs.PhaseLemmas.{ready_first}
use Rattle.lane_threads.proofs.laws.lane_begins.Goals as goal

pub returns : goal.returns
returns c = ready_first _ _ _
