use Rattle.merge_tasks.specs.Board.{open_merge, spread_at}
use Rattle.cluster_merges.specs.TaskMet.{mets}
use Rattle.cluster_merges.proofs.CopyFacts.{spread_some, slot_here}
use Rattle.cluster_merges.proofs.LostCopies.{gone_ends}
use Rattle.cluster_merges.proofs.TaskBehind.{as_many_met}
use Rattle.cluster_merges.proofs.KeptMerges.{same_tell, all_but}
use Rattle.cluster_merges.proofs.precopies.lose_there.Goals as goal

pub runs_in-requires : goal.runs_in-requires
runs_in-requires g c = slot_here g.D.Dir.cells c.args.ledger.now c.args.tasks.now c.args.places.now.items c.requires.shown c.args.n.0 c.requires.node

pub end_task-requires-clause-count : goal.end_task-requires-clause-count
end_task-requires-clause-count g c = as_many_met g.D.FaultDir.planned c.args.before.now c.args.places.now.items c.args.ledger.now.nodes c.requires.before c.requires.shown.0.count

pub end_task-requires-clause-places : goal.end_task-requires-clause-places
end_task-requires-clause-places g c = c.requires.shown.0.count

pub end_task-requires-clause-written : goal.end_task-requires-clause-written
end_task-requires-clause-written g c = spread_some (spread_at (open_merge c.args.seg.0 c.args.tasks.now.rows)) c.args.n.0 c.args.job c.requires.sent

pub returns-then-not-runs_in-clause-shown : goal.returns-then-not-runs_in-clause-shown
returns-then-not-runs_in-clause-shown g c =
    gone_ends g.D.Dir.cells c.args.ledger.now c.args.tasks.now c.args.places.now.items c.requires.shown c.requires.legal c.args.seg c.args.n c.args.job c.requires.node c.requires.sent
    c.args.at c.args.before.now (mets g.D.FaultDir.planned c.args.places.now.items) c.end_task.new.ledger c.end_task.new.tasks c.args.line c.args.by c.in_ok-end_task.ensures.ok (c.runs_in.ensures.gone c.if-not-runs_in.true)

pub end_there-requires-clause-runs : goal.end_there-requires-clause-runs
end_there-requires-clause-runs g c = c.runs_in.ensures.runs c.if-not-runs_in.false

pub returns-then-not-runs_in-clause-rest : goal.returns-then-not-runs_in-clause-rest
returns-then-not-runs_in-clause-rest g c = all_but c.args.n.0 c.args.job c.args.places.now.items c.args.places.now.items (same_tell c.args.places.now.items)
