use Rattle.lane_threads.proofs.WalkLemmas.{task_faults}
use Rattle.lane_threads.proofs.laws.task_keeps_faults_in_order.Goals as goal

pub returns : goal.returns
returns c = task_faults _ _ _ _ c.requires.faults c.requires.goes
