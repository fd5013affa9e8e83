use Rattle.replica_node.proofs.Numbered.{copy_runs}
use Rattle.replica_node.proofs.laws.copy_runs.Goals as goal

pub returns : goal.returns
returns g c = copy_runs
