use Rattle.lane_threads.proofs.WalkLemmas.{faults_without_log}
use Rattle.lane_threads.proofs.laws.faults_fit_without_a_log.Goals as goal

pub returns : goal.returns
returns c = faults_without_log _ c.requires
