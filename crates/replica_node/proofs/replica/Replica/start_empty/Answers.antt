use Rattle.replica_node.proofs.Started.{back_same}
use Rattle.replica_node.proofs.replica.Replica.start_empty.Goals as goal

pub open_empty-requires : goal.open_empty-requires
open_empty-requires g c = c.requires.empty

pub of_opened-requires-clause-opened : goal.of_opened-requires-clause-opened
of_opened-requires-clause-opened g c = c.in-Ok.ensures.opened

pub of_opened-requires-clause-node : goal.of_opened-requires-clause-node
of_opened-requires-clause-node g c = c.in-Ok.ensures.node c.requires.settled

pub of_opened-requires-clause-names : goal.of_opened-requires-clause-names
of_opened-requires-clause-names g c = c.in-Ok.ensures.names

pub returns-in-Ok-clause-opened : goal.returns-in-Ok-clause-opened
returns-in-Ok-clause-opened g c = c.of_opened.ensures.opens c.args.dir (back_same _) c.in-Ok.ensures.opened.finds
