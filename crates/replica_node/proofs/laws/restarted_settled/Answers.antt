use Rattle.replica_opening.proofs.Settled.{restarted_settled}
use Rattle.replica_node.proofs.laws.restarted_settled.Goals as goal

pub returns : goal.returns
returns c = restarted_settled
