use Rattle.replica_node.proofs.Numbered.{point_runs}
use Rattle.replica_node.proofs.laws.point_runs.Goals as goal

pub returns : goal.returns
returns g c = point_runs
