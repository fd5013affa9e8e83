use Rattle.std.proofs.Common.{◌∙◌, inr, ap}
use Rattle.std.specs.Prelude.{⊤}
use Rattle.merge_tasks.specs.Board.{open_merge, spread_at}
use Rattle.cluster_nodes.specs.Places.{place_of}
use Rattle.node_merges.specs.declared.copies.CopyStep.TheVariants.{Complete}
use Rattle.cluster_merges.specs.TaskMet.{mets, behind}
use Rattle.cluster_merges.proofs.CopyFacts.{spread_some, place_misses, may_settle}
use Rattle.cluster_merges.proofs.CopyPaths.{settle_path, lost_path}
use Rattle.cluster_merges.proofs.TaskBehind.{primary_behind, all_behind, as_many_met, went_done, went_failed}
use Rattle.replica_node.specs.declared.parts.ReplicaParts.{ReplicaParts}
use Rattle.cluster_state.specs.CallsLeft.{stage_calls}
use Rattle.cluster_state.specs.JobsIn.{job_files}
use Rattle.replica_node.specs.declared.merges.MergeCopies.{MergeCopies}
use Rattle.cluster_merges.proofs.KeptMerges.{replica_told, but_ended_copy, but_settled}
use Rattle.cluster_merges.proofs.precopies.settle_copy.Goals as goal

pub settle_in-requires : goal.settle_in-requires
settle_in-requires g c = may_settle g.D.Dir.cells c.args.ledger.now c.args.tasks.now c.args.places.now.items c.requires.shown c.args.n.0 c.args.seg.0 c.args.job c.requires.node c.requires.step

-- ---- the disk did not fail

pub end_task-requires-clause-count : goal.end_task-requires-clause-count
end_task-requires-clause-count g c = as_many_met g.D.FaultDir.planned c.args.before.now c.args.places.now.items c.args.ledger.now.nodes c.requires.before c.requires.shown.0.count

pub end_task-requires-clause-places : goal.end_task-requires-clause-places
end_task-requires-clause-places g c = (went_done _ _ _ _ c.in-Done.is c.in_ok-settle_in.ensures).moves.count ∙ c.requires.shown.0.count

pub end_task-requires-clause-written : goal.end_task-requires-clause-written
end_task-requires-clause-written g c = spread_some (spread_at (open_merge c.args.seg.0 c.args.tasks.now.rows)) c.args.n.0 c.args.job c.requires.sent

pub returns-in_ok-end_task-in-Done-clause-shown : goal.returns-in_ok-end_task-in-Done-clause-shown
returns-in_ok-end_task-in-Done-clause-shown g c =
    settle_path g.D.Dir.cells (behind c.args.at c.args.before.now (mets g.D.FaultDir.planned c.settle_in.new.places.items) c.args.ledger.now) c.end_task.new.ledger c.args.tasks.now c.args.places.now.items c.settle_in.new.places.items
    (all_behind c.args.at c.args.before.now (mets g.D.FaultDir.planned c.settle_in.new.places.items) g.D.Dir.cells c.args.ledger.now c.args.tasks.now c.args.places.now.items c.requires.shown) c.args.p c.requires.source (primary_behind c.args.at c.args.before.now (mets g.D.FaultDir.planned c.settle_in.new.places.items) c.args.ledger.now.log c.args.p c.requires.primary) c.args.line c.args.seg c.args.n c.args.job c.requires.node c.args.by c.end_task.new.tasks c.requires.sent c.in_ok-end_task-in-Done.ensures.ok c.requires.step (went_done _ _ _ _ c.in-Done.is c.in_ok-settle_in.ensures)

pub returns-in_ok-end_task-in-Done-clause-turn : goal.returns-in_ok-end_task-in-Done-clause-turn
returns-in_ok-end_task-in-Done-clause-turn g c = place_misses c.args.seg.0 c.args.job Complete (place_of c.args.places.now.items c.args.n.0) c.requires.step

-- ---- it failed

pub fail_task-requires-clause-count : goal.fail_task-requires-clause-count
fail_task-requires-clause-count g c = as_many_met g.D.FaultDir.planned c.args.before.now c.args.places.now.items c.args.ledger.now.nodes c.requires.before c.requires.shown.0.count

pub fail_task-requires-clause-places : goal.fail_task-requires-clause-places
fail_task-requires-clause-places g c = (went_failed _ _ _ c.in-Failed.is c.in_ok-settle_in.ensures).moves.count ∙ c.requires.shown.0.count

pub fail_task-requires-clause-written : goal.fail_task-requires-clause-written
fail_task-requires-clause-written g c = spread_some (spread_at (open_merge c.args.seg.0 c.args.tasks.now.rows)) c.args.n.0 c.args.job c.requires.sent

pub returns-in_ok-fail_task-in-Failed-clause-shown : goal.returns-in_ok-fail_task-in-Failed-clause-shown
returns-in_ok-fail_task-in-Failed-clause-shown g c =
    lost_path g.D.Dir.cells (behind c.args.at c.args.before.now (mets g.D.FaultDir.planned c.settle_in.new.places.items) c.args.ledger.now) c.fail_task.new.ledger c.args.tasks.now c.args.places.now.items c.settle_in.new.places.items
    (all_behind c.args.at c.args.before.now (mets g.D.FaultDir.planned c.settle_in.new.places.items) g.D.Dir.cells c.args.ledger.now c.args.tasks.now c.args.places.now.items c.requires.shown) c.args.p c.requires.source (primary_behind c.args.at c.args.before.now (mets g.D.FaultDir.planned c.settle_in.new.places.items) c.args.ledger.now.log c.args.p c.requires.primary) c.args.line c.args.seg c.args.n c.args.job c.requires.node c.args.by c.fail_task.new.tasks c.requires.sent c.in_ok-fail_task-in-Failed.ensures.ok.ends (λ source. ⊤) tt (went_failed _ _ _ c.in-Failed.is c.in_ok-settle_in.ensures)
    ((may_settle g.D.Dir.cells c.args.ledger.now c.args.tasks.now c.args.places.now.items c.requires.shown c.args.n.0 c.args.seg.0 c.args.job c.requires.node c.requires.step).may (went_failed _ _ _ c.in-Failed.is c.in_ok-settle_in.ensures).at.parts (went_failed _ _ _ c.in-Failed.is c.in_ok-settle_in.ensures).at.held (went_failed _ _ _ c.in-Failed.is c.in_ok-settle_in.ensures).at.there).runs

pub returns-in_ok-fail_task-in-Failed-clause-ok : goal.returns-in_ok-fail_task-in-Failed-clause-ok
returns-in_ok-fail_task-in-Failed-clause-ok g c = inr c.in_ok-fail_task-in-Failed.ensures.ok

pub returns-in_ok-end_task-in-Done-clause-cut : goal.returns-in_ok-end_task-in-Done-clause-cut
returns-in_ok-end_task-in-Done-clause-cut g c = c.in_ok-end_task-in-Done.ensures.ok.cut

pub returns-in_ok-end_task-in-Done-clause-rest : goal.returns-in_ok-end_task-in-Done-clause-rest
returns-in_ok-end_task-in-Done-clause-rest g c = replica_told c.args.n.0 c.args.job (went_done _ _ _ _ c.in-Done.is c.in_ok-settle_in.ensures).replica c.args.places.now.items c.settle_in.new.places.items (went_done _ _ _ _ c.in-Done.is c.in_ok-settle_in.ensures).at (went_done _ _ _ _ c.in-Done.is c.in_ok-settle_in.ensures).moves (ap (λ (z : ReplicaParts _). stage_calls z.commits.stage) (went_done _ _ _ _ c.in-Done.is c.in_ok-settle_in.ensures).step.others) (ap (λ (z : ReplicaParts _). job_files z.seen.0 z.job) (went_done _ _ _ _ c.in-Done.is c.in_ok-settle_in.ensures).step.others)
    (but_settled g.D.Dir.cells c.args.job (went_done _ _ _ _ c.in-Done.is c.in_ok-settle_in.ensures).at.parts (went_done _ _ _ _ c.in-Done.is c.in_ok-settle_in.ensures).replica ((may_settle g.D.Dir.cells c.args.ledger.now c.args.tasks.now c.args.places.now.items c.requires.shown c.args.n.0 c.args.seg.0 c.args.job c.requires.node c.requires.step).may (went_done _ _ _ _ c.in-Done.is c.in_ok-settle_in.ensures).at.parts (went_done _ _ _ _ c.in-Done.is c.in_ok-settle_in.ensures).at.held (went_done _ _ _ _ c.in-Done.is c.in_ok-settle_in.ensures).at.there).runs (went_done _ _ _ _ c.in-Done.is c.in_ok-settle_in.ensures).step)

pub returns-in_ok-fail_task-in-Failed-clause-cut : goal.returns-in_ok-fail_task-in-Failed-clause-cut
returns-in_ok-fail_task-in-Failed-clause-cut g c = c.in_ok-fail_task-in-Failed.ensures.ok.ends.cut

pub returns-in_ok-fail_task-in-Failed-clause-rest : goal.returns-in_ok-fail_task-in-Failed-clause-rest
returns-in_ok-fail_task-in-Failed-clause-rest g c = replica_told c.args.n.0 c.args.job (went_failed _ _ _ c.in-Failed.is c.in_ok-settle_in.ensures).replica c.args.places.now.items c.settle_in.new.places.items (went_failed _ _ _ c.in-Failed.is c.in_ok-settle_in.ensures).at (went_failed _ _ _ c.in-Failed.is c.in_ok-settle_in.ensures).moves (ap (λ (z : ReplicaParts _). stage_calls z.commits.stage) (went_failed _ _ _ c.in-Failed.is c.in_ok-settle_in.ensures).step.others) (ap (λ (z : ReplicaParts _). job_files z.seen.0 z.job) (went_failed _ _ _ c.in-Failed.is c.in_ok-settle_in.ensures).step.others)
    (but_ended_copy c.args.job (went_failed _ _ _ c.in-Failed.is c.in_ok-settle_in.ensures).at.parts (went_failed _ _ _ c.in-Failed.is c.in_ok-settle_in.ensures).replica (ap (λ (m : MergeCopies). m.running) (went_failed _ _ _ c.in-Failed.is c.in_ok-settle_in.ensures).step.copies))
