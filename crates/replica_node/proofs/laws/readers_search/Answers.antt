use Rattle.replica_node.proofs.Documents.{readers_search}
use Rattle.replica_node.proofs.laws.readers_search.Goals as goal

pub returns : goal.returns
returns c = readers_search
