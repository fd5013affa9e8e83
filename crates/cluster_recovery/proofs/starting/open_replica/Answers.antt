use Rattle.cluster_recovery.proofs.FirstNodes.{empty_settled, is_opening}
use Rattle.cluster_recovery.proofs.starting.open_replica.Goals as goal

pub start_empty-requires-clause-empty : goal.start_empty-requires-clause-empty
start_empty-requires-clause-empty g c = c.requires.now

pub start_empty-requires-clause-settled : goal.start_empty-requires-clause-settled
start_empty-requires-clause-settled g c = empty_settled _ c.requires

pub returns-in-Ok : goal.returns-in-Ok
returns-in-Ok g c = is_opening g.D.Dir.cells c.args.dir c.in-Ok.replica c.requires c.in-Ok.ensures.opened
