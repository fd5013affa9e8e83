use Rattle.replica_node.proofs.Sourced.{sourced_stands}
use Rattle.replica_node.proofs.laws.sourced_stands.Goals as goal

pub returns : goal.returns
returns c = sourced_stands
