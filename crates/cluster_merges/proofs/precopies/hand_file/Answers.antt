use Rattle.std.proofs.Common.{◌≡◌, ◌⊎◌, ◌∷◌, ◌∙◌, ℕ, true, None, inl, refl, ap, sym, subst}
use Rattle.codec_frame.specs.Bytes.{AreBytes}
use Rattle.history_rules.specs.Nodes.{IsNode, IsReplica}
use Rattle.history_rules.specs.Lines.{last_of_line}
use Rattle.history_rules.specs.Rules.{is_merging}
use Rattle.history_book.specs.Log.{Log, printed, kept}
use Rattle.link_model.specs.declared.fate.Fate.TheVariants.{Whole}
use Rattle.history_book.specs.declared.inner.Inner.TheVariants.{FileOut}
use Rattle.merge_tasks.specs.Board.{open_merge, spread_at}
use Rattle.merge_tasks.specs.Fates.{fate_due}
use Rattle.cluster_nodes.specs.Places.{place_of}
use Rattle.node_merges.specs.declared.copies.CopyStep.TheVariants.{Wants}
use Rattle.cluster_state.specs.DueFaults.{with_due}
use Rattle.cluster_merges.specs.TaskMet.{mets, behind}
use Rattle.cluster_merges.proofs.CopyFacts.{spread_some, place_misses, no_job, next_file, may_read}
use Rattle.cluster_merges.proofs.CopyPaths.{handed_all, handed_file, drop_there, drop_path}
use Rattle.cluster_merges.proofs.DueFiles.{behind_due, all_due, primary_due, replica_behind, merges_behind, misses_replica}
use Rattle.cluster_merges.proofs.TaskBehind.{primary_behind, all_behind, as_many_met, went_done, went_failed}
use Rattle.replica_node.specs.declared.parts.ReplicaParts.{ReplicaParts}
use Rattle.cluster_state.specs.CallsLeft.{stage_calls}
use Rattle.cluster_state.specs.JobsIn.{job_files}
use Rattle.replica_node.specs.declared.merges.MergeCopies.{MergeCopies}
use Rattle.cluster_merges.proofs.KeptMerges.{but_ended_copy, replica_told, primary_all, told_then}
use Rattle.index_primary.specs.declared.parts.PrimaryParts.{PrimaryParts}
use Rattle.cluster_nodes.specs.Given.{merge_sizes}
use Rattle.cluster_merges.proofs.precopies.hand_file.Goals as goal

pub read_in-requires : goal.read_in-requires
read_in-requires g c = may_read g.D.Dir.cells c.args.ledger.now c.args.tasks.now c.args.places.now.items c.requires.shown c.args.p c.requires.source c.requires.primary c.args.name c.args.meta (next_file g.D.Dir.cells c.args.ledger.now c.args.tasks.now c.args.places.now.items c.requires.shown c.args.p c.requires.source c.requires.primary c.args.n.0 c.args.seg.0 c.args.job c.args.name c.args.meta c.requires.node c.requires.step)

-- ---- it was read

pub show_task_met-requires-clause-count : goal.show_task_met-requires-clause-count
show_task_met-requires-clause-count g c = as_many_met g.D.FaultDir.planned c.args.before.now c.args.places.now.items c.args.ledger.now.nodes c.requires.before c.requires.shown.0.count

pub show_task_met-requires-clause-places : goal.show_task_met-requires-clause-places
show_task_met-requires-clause-places g c = (went_done _ _ _ c.in-Done.source c.in-Done.is c.in_ok-source.ensures.went).moves.count ∙ c.requires.shown.0.count

pub show_task_due-fate-requires-clause-node : goal.show_task_due-fate-requires-clause-node
show_task_due-fate-requires-clause-node g c = subst (λ (k : ℕ). IsNode k c.args.n.0) (sym c.show_task_met.ensures.nodes) c.requires.node

pub show_task_due-fate-requires-clause-replica : goal.show_task_due-fate-requires-clause-replica
show_task_due-fate-requires-clause-replica g c =
    subst (λ (l : Log). IsReplica (printed l) c.args.n.0) (sym c.in_ok-show_task_met-in-Done.ensures.log)
    (replica_behind c.args.at c.args.n.0 c.args.before.now (mets g.D.FaultDir.planned c.read_in.new.places.items) c.args.ledger.now.log
    (misses_replica g.D.Dir.cells c.args.ledger.now c.args.tasks.now c.args.places.now.items c.requires.shown c.args.n.0 c.args.seg.0 c.args.job c.args.name c.args.meta c.requires.node c.requires.step))

pub show_task_due-fate-requires-clause-merges : goal.show_task_due-fate-requires-clause-merges
show_task_due-fate-requires-clause-merges g c =
    subst (λ (l : Log). (fate_due c.args.n.0 l ≡ Whole) ⊎ (is_merging (last_of_line c.args.at (printed l)) ≡ true)) (sym c.in_ok-show_task_met-in-Done.ensures.log)
    (merges_behind c.args.at c.args.n.0 c.args.before.now (mets g.D.FaultDir.planned c.read_in.new.places.items) c.args.ledger.now.log c.in_ok-must_merge-in-Done.ensures)

pub returns-in_ok-show_task_met-in-Done-clause-shown : goal.returns-in_ok-show_task_met-in-Done-clause-shown
returns-in_ok-show_task_met-in-Done-clause-shown g c =
    handed_all g.D.Dir.cells (behind_due c.args.at c.args.n.0 (behind c.args.at c.args.before.now (mets g.D.FaultDir.planned c.read_in.new.places.items) c.args.ledger.now)) c.keep.new.self c.args.tasks.now c.args.places.now.items c.read_in.new.places.items
    (all_due g.D.Dir.cells (behind c.args.at c.args.before.now (mets g.D.FaultDir.planned c.read_in.new.places.items) c.args.ledger.now) c.args.tasks.now c.args.places.now.items (all_behind c.args.at c.args.before.now (mets g.D.FaultDir.planned c.read_in.new.places.items) g.D.Dir.cells c.args.ledger.now c.args.tasks.now c.args.places.now.items c.requires.shown) c.args.at c.args.n.0) c.args.p c.requires.source (primary_due c.args.at c.args.n.0 (behind c.args.at c.args.before.now (mets g.D.FaultDir.planned c.read_in.new.places.items) c.args.ledger.now).log c.args.p (primary_behind c.args.at c.args.before.now (mets g.D.FaultDir.planned c.read_in.new.places.items) c.args.ledger.now.log c.args.p c.requires.primary)) c.args.line c.args.seg c.args.n c.args.job c.requires.node
    c.args.name c.args.meta c.in-Done.source c.in_ok-copy-in-Done.copy c.show_task_due-fate.result c.requires.step (went_done _ _ _ c.in-Done.source c.in-Done.is c.in_ok-source.ensures.went) c.in_ok-copy-in-Done.ensures
    (c.keep.ensures.log ∙ ap (λ (l : Log). kept (FileOut c.args.line c.args.n c.args.job c.args.name c.in_ok-copy-in-Done.copy c.show_task_due-fate.result None) ∷ l) (c.show_task_due-fate.ensures.log ∙ ap (with_due true c.args.at c.args.n.0) c.in_ok-show_task_met-in-Done.ensures.log)) (c.keep.ensures.nodes ∙ (c.show_task_due-fate.ensures.nodes ∙ c.show_task_met.ensures.nodes)) (c.keep.ensures.cut ∙ (c.show_task_due-fate.ensures.cut ∙ c.show_task_met.ensures.cut))

pub returns-in_ok-show_task_met-in-Done-clause-ok : goal.returns-in_ok-show_task_met-in-Done-clause-ok
returns-in_ok-show_task_met-in-Done-clause-ok g c =
    handed_file g.D.Dir.cells (behind_due c.args.at c.args.n.0 (behind c.args.at c.args.before.now (mets g.D.FaultDir.planned c.read_in.new.places.items) c.args.ledger.now)) c.keep.new.self c.args.tasks.now c.args.places.now.items c.read_in.new.places.items
    (all_due g.D.Dir.cells (behind c.args.at c.args.before.now (mets g.D.FaultDir.planned c.read_in.new.places.items) c.args.ledger.now) c.args.tasks.now c.args.places.now.items (all_behind c.args.at c.args.before.now (mets g.D.FaultDir.planned c.read_in.new.places.items) g.D.Dir.cells c.args.ledger.now c.args.tasks.now c.args.places.now.items c.requires.shown) c.args.at c.args.n.0) c.args.p c.requires.source (primary_due c.args.at c.args.n.0 (behind c.args.at c.args.before.now (mets g.D.FaultDir.planned c.read_in.new.places.items) c.args.ledger.now).log c.args.p (primary_behind c.args.at c.args.before.now (mets g.D.FaultDir.planned c.read_in.new.places.items) c.args.ledger.now.log c.args.p c.requires.primary)) c.args.line c.args.seg c.args.n c.args.job c.requires.node
    c.args.name c.args.meta c.in-Done.source c.in_ok-copy-in-Done.copy c.show_task_due-fate.result c.requires.step (went_done _ _ _ c.in-Done.source c.in-Done.is c.in_ok-source.ensures.went) c.in_ok-copy-in-Done.ensures
    (c.keep.ensures.log ∙ ap (λ (l : Log). kept (FileOut c.args.line c.args.n c.args.job c.args.name c.in_ok-copy-in-Done.copy c.show_task_due-fate.result None) ∷ l) (c.show_task_due-fate.ensures.log ∙ ap (with_due true c.args.at c.args.n.0) c.in_ok-show_task_met-in-Done.ensures.log)) (c.keep.ensures.nodes ∙ (c.show_task_due-fate.ensures.nodes ∙ c.show_task_met.ensures.nodes)) c.args.at (behind c.args.at c.args.before.now (mets g.D.FaultDir.planned c.read_in.new.places.items) c.args.ledger.now) refl refl (c.show_task_due-fate.ensures.fate ∙ ap (fate_due c.args.n.0) c.in_ok-show_task_met-in-Done.ensures.log) (subst AreBytes c.as_slice.ensures c.are_bytes.ensures)

pub returns-in_ok-show_task_met-in-Done-clause-turn : goal.returns-in_ok-show_task_met-in-Done-clause-turn
returns-in_ok-show_task_met-in-Done-clause-turn g c = (
  place_misses c.args.seg.0 c.args.job (Wants c.args.name c.args.meta) (place_of c.args.places.now.items c.args.n.0) c.requires.step,
  no_job g.D.Dir.cells c.args.ledger.now c.args.tasks.now c.args.places.now.items c.requires.shown c.args.n.0 c.args.seg.0 c.args.job c.args.name c.args.meta c.requires.node c.requires.step,
)

-- ---- the disk failed

pub drop_in-requires : goal.drop_in-requires
drop_in-requires g c = drop_there g.D.Dir.cells c.args.ledger.now c.args.tasks.now c.args.places.now.items c.read_in.new.places.items c.requires.shown c.args.p c.requires.source c.args.seg c.args.n c.args.job c.requires.node c.args.name c.args.meta c.requires.step (went_failed _ _ _ c.in-Failed.is c.in_ok-source.ensures.went)

pub fail_task-requires-clause-count : goal.fail_task-requires-clause-count
fail_task-requires-clause-count g c = as_many_met g.D.FaultDir.planned c.args.before.now c.args.places.now.items c.args.ledger.now.nodes c.requires.before c.requires.shown.0.count

pub fail_task-requires-clause-places : goal.fail_task-requires-clause-places
fail_task-requires-clause-places g c = c.drop_in.ensures.moves.count ∙ ((went_failed _ _ _ c.in-Failed.is c.in_ok-source.ensures.went).moves.count ∙ c.requires.shown.0.count)

pub fail_task-requires-clause-written : goal.fail_task-requires-clause-written
fail_task-requires-clause-written g c = spread_some (spread_at (open_merge c.args.seg.0 c.args.tasks.now.rows)) c.args.n.0 c.args.job c.requires.sent

pub returns-in_ok-fail_task-in-Failed-clause-shown : goal.returns-in_ok-fail_task-in-Failed-clause-shown
returns-in_ok-fail_task-in-Failed-clause-shown g c =
    drop_path g.D.Dir.cells (behind c.args.at c.args.before.now (mets g.D.FaultDir.planned c.drop_in.new.places.items) c.args.ledger.now) c.args.tasks.now c.args.places.now.items c.read_in.new.places.items
    (all_behind c.args.at c.args.before.now (mets g.D.FaultDir.planned c.drop_in.new.places.items) g.D.Dir.cells c.args.ledger.now c.args.tasks.now c.args.places.now.items c.requires.shown) c.args.p c.requires.source c.args.seg c.args.n c.args.job c.requires.node c.args.name c.args.meta c.requires.step (went_failed _ _ _ c.in-Failed.is c.in_ok-source.ensures.went)
    c.fail_task.new.ledger c.fail_task.new.tasks c.drop_in.new.places.items c.args.line c.args.by (primary_behind c.args.at c.args.before.now (mets g.D.FaultDir.planned c.drop_in.new.places.items) c.args.ledger.now.log c.args.p c.requires.primary) c.requires.sent c.in_ok-fail_task-in-Failed.ensures.ok.ends c.drop_in.ensures

pub returns-in_ok-fail_task-in-Failed-clause-ok : goal.returns-in_ok-fail_task-in-Failed-clause-ok
returns-in_ok-fail_task-in-Failed-clause-ok g c = inl c.in_ok-fail_task-in-Failed.ensures.ok

pub returns-in_ok-show_task_met-in-Done-clause-cut : goal.returns-in_ok-show_task_met-in-Done-clause-cut
returns-in_ok-show_task_met-in-Done-clause-cut g c = c.keep.ensures.cut ∙ (c.show_task_due-fate.ensures.cut ∙ c.show_task_met.ensures.cut)

pub returns-in_ok-show_task_met-in-Done-clause-rest : goal.returns-in_ok-show_task_met-in-Done-clause-rest
returns-in_ok-show_task_met-in-Done-clause-rest g c = primary_all c.args.p.0 (went_done _ _ _ c.in-Done.source c.in-Done.is c.in_ok-source.ensures.went).primary c.args.places.now.items c.read_in.new.places.items (went_done _ _ _ c.in-Done.source c.in-Done.is c.in_ok-source.ensures.went).at (went_done _ _ _ c.in-Done.source c.in-Done.is c.in_ok-source.ensures.went).moves (ap (λ (z : PrimaryParts _). z.commits) (went_done _ _ _ c.in-Done.source c.in-Done.is c.in_ok-source.ensures.went).alters.others) (ap (λ (z : PrimaryParts _). merge_sizes z) (went_done _ _ _ c.in-Done.source c.in-Done.is c.in_ok-source.ensures.went).alters.others)

pub returns-in_ok-fail_task-in-Failed-clause-cut : goal.returns-in_ok-fail_task-in-Failed-clause-cut
returns-in_ok-fail_task-in-Failed-clause-cut g c = c.in_ok-fail_task-in-Failed.ensures.ok.ends.cut

pub returns-in_ok-fail_task-in-Failed-clause-rest : goal.returns-in_ok-fail_task-in-Failed-clause-rest
returns-in_ok-fail_task-in-Failed-clause-rest g c = told_then c.args.n.0 c.args.job c.args.places.now.items c.read_in.new.places.items c.drop_in.new.places.items (primary_all c.args.p.0 (went_failed _ _ _ c.in-Failed.is c.in_ok-source.ensures.went).primary c.args.places.now.items c.read_in.new.places.items (went_failed _ _ _ c.in-Failed.is c.in_ok-source.ensures.went).at (went_failed _ _ _ c.in-Failed.is c.in_ok-source.ensures.went).moves (ap (λ (z : PrimaryParts _). z.commits) (went_failed _ _ _ c.in-Failed.is c.in_ok-source.ensures.went).alters.others) (ap (λ (z : PrimaryParts _). merge_sizes z) (went_failed _ _ _ c.in-Failed.is c.in_ok-source.ensures.went).alters.others))
    (replica_told c.args.n.0 c.args.job c.drop_in.ensures.replica c.read_in.new.places.items c.drop_in.new.places.items c.drop_in.ensures.at c.drop_in.ensures.moves (ap (λ (z : ReplicaParts _). stage_calls z.commits.stage) c.drop_in.ensures.step.others) (ap (λ (z : ReplicaParts _). job_files z.seen.0 z.job) c.drop_in.ensures.step.others)
    (but_ended_copy c.args.job c.drop_in.ensures.at.parts c.drop_in.ensures.replica (ap (λ (m : MergeCopies). m.running) c.drop_in.ensures.step.copies)))
