use Rattle.std.proofs.Common.{◌∙◌, refl, ap}
use Rattle.merge_tasks.specs.Board.{open_merge, spread_at}
use Rattle.cluster_merges.specs.TaskMet.{mets, behind}
use Rattle.cluster_merges.proofs.InsideSteps.{all_is}
use Rattle.cluster_merges.proofs.CopyFacts.{spread_some, slot_here}
use Rattle.cluster_merges.proofs.CopyCalls.{may_take, taken_all, lost_all}
use Rattle.cluster_merges.proofs.TaskBehind.{all_behind, as_many_met, went_done, went_failed}
use Rattle.replica_node.specs.declared.parts.ReplicaParts.{ReplicaParts}
use Rattle.cluster_state.specs.CallsLeft.{stage_calls}
use Rattle.cluster_state.specs.JobsIn.{job_files}
use Rattle.replica_node.specs.declared.merges.MergeCopies.{MergeCopies}
use Rattle.cluster_merges.proofs.KeptMerges.{but_ended_copy, but_taken, replica_told, same_tell, all_but}
use Rattle.cluster_merges.proofs.precopies.take_there.Goals as goal

pub runs_in-requires : goal.runs_in-requires
runs_in-requires g c = slot_here g.D.Dir.cells c.args.ledger.now c.args.tasks.now c.args.places.now.items c.requires.shown c.args.n.0 c.requires.node

-- ---- it does not run

pub show_task_met-requires-clause-count : goal.show_task_met-requires-clause-count
show_task_met-requires-clause-count g c = as_many_met g.D.FaultDir.planned c.args.before.now c.args.places.now.items c.args.ledger.now.nodes c.requires.before c.requires.shown.0.count

pub show_task_met-requires-clause-places : goal.show_task_met-requires-clause-places
show_task_met-requires-clause-places g c = c.requires.shown.0.count

pub returns-then-not-runs_in-clause-shown : goal.returns-then-not-runs_in-clause-shown
returns-then-not-runs_in-clause-shown g c = all_is g.D.Dir.cells (behind c.args.at c.args.before.now (mets g.D.FaultDir.planned c.args.places.now.items) c.args.ledger.now) c.show_task_met.new.ledger c.args.tasks.now c.args.places.now.items c.in_ok-show_task_met.ensures.log c.show_task_met.ensures.nodes c.show_task_met.ensures.cut (all_behind c.args.at c.args.before.now (mets g.D.FaultDir.planned c.args.places.now.items) g.D.Dir.cells c.args.ledger.now c.args.tasks.now c.args.places.now.items c.requires.shown)

pub returns-then-not-runs_in-clause-ok : goal.returns-then-not-runs_in-clause-ok
returns-then-not-runs_in-clause-ok g c = record { log = c.in_ok-show_task_met.ensures.log; nodes = c.show_task_met.ensures.nodes; cut = c.show_task_met.ensures.cut; board_is = refl }

-- ---- it has the part

pub take_merged_in-requires-clause-may : goal.take_merged_in-requires-clause-may
take_merged_in-requires-clause-may g c = may_take g.D.Dir.cells c.args.ledger.now c.args.tasks.now c.args.places.now.items c.requires.shown c.requires.legal c.args.seg c.args.n c.args.job c.requires.node (c.if-not-runs_in.ensures.runs refl) c.args.part c.requires.out c.requires.meta

pub show_task_met-requires-in-Done-clause-count : goal.show_task_met-requires-in-Done-clause-count
show_task_met-requires-in-Done-clause-count g c = as_many_met g.D.FaultDir.planned c.args.before.now c.args.places.now.items c.args.ledger.now.nodes c.requires.before c.requires.shown.0.count

pub show_task_met-requires-in-Done-clause-places : goal.show_task_met-requires-in-Done-clause-places
show_task_met-requires-in-Done-clause-places g c = (went_done _ _ _ _ c.in-Done.is c.in_ok-take_merged_in.ensures).moves.count ∙ c.requires.shown.0.count

pub returns-in_ok-show_task_met-in-Done-clause-shown : goal.returns-in_ok-show_task_met-in-Done-clause-shown
returns-in_ok-show_task_met-in-Done-clause-shown g c =
    all_is g.D.Dir.cells (behind c.args.at c.args.before.now (mets g.D.FaultDir.planned c.take_merged_in.new.places.items) c.args.ledger.now) c.show_task_met-in-Done.new.ledger c.args.tasks.now c.take_merged_in.new.places.items c.in_ok-show_task_met-in-Done.ensures.log c.show_task_met-in-Done.ensures.nodes c.show_task_met-in-Done.ensures.cut
    (all_behind c.args.at c.args.before.now (mets g.D.FaultDir.planned c.take_merged_in.new.places.items) g.D.Dir.cells c.args.ledger.now c.args.tasks.now c.take_merged_in.new.places.items (taken_all g.D.Dir.cells c.args.ledger.now c.args.tasks.now c.args.places.now.items c.requires.shown c.requires.legal c.args.seg c.args.n c.args.job c.requires.node (c.if-not-runs_in.ensures.runs refl) c.args.part c.requires.out c.requires.meta c.take_merged_in.new.places.items (went_done _ _ _ _ c.in-Done.is c.in_ok-take_merged_in.ensures)))

pub returns-in_ok-show_task_met-in-Done-clause-ok : goal.returns-in_ok-show_task_met-in-Done-clause-ok
returns-in_ok-show_task_met-in-Done-clause-ok g c = record { log = c.in_ok-show_task_met-in-Done.ensures.log; nodes = c.show_task_met-in-Done.ensures.nodes; cut = c.show_task_met-in-Done.ensures.cut; board_is = refl }

-- ---- the disk failed

pub fail_task-requires-clause-count : goal.fail_task-requires-clause-count
fail_task-requires-clause-count g c = as_many_met g.D.FaultDir.planned c.args.before.now c.args.places.now.items c.args.ledger.now.nodes c.requires.before c.requires.shown.0.count

pub fail_task-requires-clause-places : goal.fail_task-requires-clause-places
fail_task-requires-clause-places g c = (went_failed _ _ _ c.in-Failed.is c.in_ok-take_merged_in.ensures).moves.count ∙ c.requires.shown.0.count

pub fail_task-requires-clause-written : goal.fail_task-requires-clause-written
fail_task-requires-clause-written g c = spread_some (spread_at (open_merge c.args.seg.0 c.args.tasks.now.rows)) c.args.n.0 c.args.job c.requires.sent

pub returns-in_ok-fail_task-in-Failed-clause-shown : goal.returns-in_ok-fail_task-in-Failed-clause-shown
returns-in_ok-fail_task-in-Failed-clause-shown g c =
    lost_all g.D.Dir.cells c.args.ledger.now c.args.tasks.now c.args.places.now.items c.requires.shown c.requires.legal c.args.seg c.args.n c.args.job c.requires.node (c.if-not-runs_in.ensures.runs refl) c.args.part c.requires.out c.requires.meta c.args.at c.args.before.now (mets g.D.FaultDir.planned c.take_merged_in.new.places.items) c.fail_task.new.ledger c.fail_task.new.tasks c.args.line c.args.by c.take_merged_in.new.places.items c.requires.sent c.in_ok-fail_task-in-Failed.ensures.ok.ends (went_failed _ _ _ c.in-Failed.is c.in_ok-take_merged_in.ensures)

pub returns-in_ok-fail_task-in-Failed-clause-ok : goal.returns-in_ok-fail_task-in-Failed-clause-ok
returns-in_ok-fail_task-in-Failed-clause-ok g c = c.in_ok-fail_task-in-Failed.ensures.ok

pub returns-then-not-runs_in-clause-cut : goal.returns-then-not-runs_in-clause-cut
returns-then-not-runs_in-clause-cut g c = c.show_task_met.ensures.cut

pub returns-then-not-runs_in-clause-rest : goal.returns-then-not-runs_in-clause-rest
returns-then-not-runs_in-clause-rest g c = all_but c.args.n.0 c.args.job c.args.places.now.items c.args.places.now.items (same_tell c.args.places.now.items)

pub returns-in_ok-show_task_met-in-Done-clause-cut : goal.returns-in_ok-show_task_met-in-Done-clause-cut
returns-in_ok-show_task_met-in-Done-clause-cut g c = c.show_task_met-in-Done.ensures.cut

pub returns-in_ok-show_task_met-in-Done-clause-rest : goal.returns-in_ok-show_task_met-in-Done-clause-rest
returns-in_ok-show_task_met-in-Done-clause-rest g c = replica_told c.args.n.0 c.args.job (went_done _ _ _ _ c.in-Done.is c.in_ok-take_merged_in.ensures).replica c.args.places.now.items c.take_merged_in.new.places.items (went_done _ _ _ _ c.in-Done.is c.in_ok-take_merged_in.ensures).at (went_done _ _ _ _ c.in-Done.is c.in_ok-take_merged_in.ensures).moves (ap (λ (z : ReplicaParts _). stage_calls z.commits.stage) (went_done _ _ _ _ c.in-Done.is c.in_ok-take_merged_in.ensures).step.others) (ap (λ (z : ReplicaParts _). job_files z.seen.0 z.job) (went_done _ _ _ _ c.in-Done.is c.in_ok-take_merged_in.ensures).step.others)
    (but_taken g.D.Dir.cells c.args.job c.args.part (went_done _ _ _ _ c.in-Done.is c.in_ok-take_merged_in.ensures).at.parts (went_done _ _ _ _ c.in-Done.is c.in_ok-take_merged_in.ensures).replica ((may_take g.D.Dir.cells c.args.ledger.now c.args.tasks.now c.args.places.now.items c.requires.shown c.requires.legal c.args.seg c.args.n c.args.job c.requires.node (c.if-not-runs_in.ensures.runs refl) c.args.part c.requires.out c.requires.meta).may (went_done _ _ _ _ c.in-Done.is c.in_ok-take_merged_in.ensures).at.parts (went_done _ _ _ _ c.in-Done.is c.in_ok-take_merged_in.ensures).at.held (went_done _ _ _ _ c.in-Done.is c.in_ok-take_merged_in.ensures).at.there).runs (went_done _ _ _ _ c.in-Done.is c.in_ok-take_merged_in.ensures).step)

pub returns-in_ok-fail_task-in-Failed-clause-cut : goal.returns-in_ok-fail_task-in-Failed-clause-cut
returns-in_ok-fail_task-in-Failed-clause-cut g c = c.in_ok-fail_task-in-Failed.ensures.ok.ends.cut

pub returns-in_ok-fail_task-in-Failed-clause-rest : goal.returns-in_ok-fail_task-in-Failed-clause-rest
returns-in_ok-fail_task-in-Failed-clause-rest g c = replica_told c.args.n.0 c.args.job (went_failed _ _ _ c.in-Failed.is c.in_ok-take_merged_in.ensures).replica c.args.places.now.items c.take_merged_in.new.places.items (went_failed _ _ _ c.in-Failed.is c.in_ok-take_merged_in.ensures).at (went_failed _ _ _ c.in-Failed.is c.in_ok-take_merged_in.ensures).moves (ap (λ (z : ReplicaParts _). stage_calls z.commits.stage) (went_failed _ _ _ c.in-Failed.is c.in_ok-take_merged_in.ensures).step.others) (ap (λ (z : ReplicaParts _). job_files z.seen.0 z.job) (went_failed _ _ _ c.in-Failed.is c.in_ok-take_merged_in.ensures).step.others)
    (but_ended_copy c.args.job (went_failed _ _ _ c.in-Failed.is c.in_ok-take_merged_in.ensures).at.parts (went_failed _ _ _ c.in-Failed.is c.in_ok-take_merged_in.ensures).replica (ap (λ (m : MergeCopies). m.running) (went_failed _ _ _ c.in-Failed.is c.in_ok-take_merged_in.ensures).step.copies))
