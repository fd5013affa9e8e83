use Rattle.std.proofs.Common.{◌∙◌, ap}
use Rattle.merge_tasks.specs.Board.{open_merge, spread_at}
use Rattle.cluster_merges.specs.TaskMet.{mets}
use Rattle.cluster_merges.proofs.CopyFacts.{spread_some}
use Rattle.cluster_merges.proofs.LostCopies.{drop_ends, may_end}
use Rattle.cluster_merges.proofs.TaskBehind.{as_many_met}
use Rattle.replica_node.specs.declared.parts.ReplicaParts.{ReplicaParts}
use Rattle.cluster_state.specs.CallsLeft.{stage_calls}
use Rattle.cluster_state.specs.JobsIn.{job_files}
use Rattle.replica_node.specs.declared.merges.MergeCopies.{MergeCopies}
use Rattle.cluster_merges.proofs.KeptMerges.{but_ended_copy, replica_told}
use Rattle.cluster_merges.proofs.precopies.end_there.Goals as goal

pub drop_in-requires : goal.drop_in-requires
drop_in-requires g c = may_end g.D.Dir.cells c.args.ledger.now c.args.tasks.now c.args.places.now.items c.requires.shown c.args.seg c.args.n c.args.job c.requires.node c.requires.runs

pub end_task-requires-clause-count : goal.end_task-requires-clause-count
end_task-requires-clause-count g c = as_many_met g.D.FaultDir.planned c.args.before.now c.args.places.now.items c.args.ledger.now.nodes c.requires.before c.requires.shown.0.count

pub end_task-requires-clause-places : goal.end_task-requires-clause-places
end_task-requires-clause-places g c = c.drop_in.ensures.moves.count ∙ c.requires.shown.0.count

pub end_task-requires-clause-written : goal.end_task-requires-clause-written
end_task-requires-clause-written g c = spread_some (spread_at (open_merge c.args.seg.0 c.args.tasks.now.rows)) c.args.n.0 c.args.job c.requires.sent

pub returns-clause-shown : goal.returns-clause-shown
returns-clause-shown g c =
    drop_ends g.D.Dir.cells c.args.ledger.now c.args.tasks.now c.args.places.now.items c.requires.shown c.requires.legal c.args.seg c.args.n c.args.job c.requires.node c.requires.sent
    c.args.at c.args.before.now (mets g.D.FaultDir.planned c.drop_in.new.places.items) c.end_task.new.ledger c.end_task.new.tasks c.args.line c.args.by c.in_ok-end_task.ensures.ok c.requires.runs c.drop_in.new.places.items c.drop_in.ensures

pub returns-clause-rest : goal.returns-clause-rest
returns-clause-rest g c = replica_told c.args.n.0 c.args.job c.drop_in.ensures.replica c.args.places.now.items c.drop_in.new.places.items c.drop_in.ensures.at c.drop_in.ensures.moves (ap (λ (z : ReplicaParts _). stage_calls z.commits.stage) c.drop_in.ensures.step.others) (ap (λ (z : ReplicaParts _). job_files z.seen.0 z.job) c.drop_in.ensures.step.others)
    (but_ended_copy c.args.job c.drop_in.ensures.at.parts c.drop_in.ensures.replica (ap (λ (m : MergeCopies). m.running) c.drop_in.ensures.step.copies))
