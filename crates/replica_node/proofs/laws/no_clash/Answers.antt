use Rattle.replica_node.proofs.Sourced.{no_clash}
use Rattle.replica_node.proofs.laws.no_clash.Goals as goal

pub returns : goal.returns
returns c = no_clash
