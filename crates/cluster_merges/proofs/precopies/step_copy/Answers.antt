use Rattle.std.proofs.Common.{refl, subst}
use Rattle.merge_tasks.specs.Board.{open_merge, spread_at}
use Rattle.cluster_nodes.specs.Places.{place_of}
use Rattle.node_merges.specs.declared.copies.CopyStep.TheVariants.{Gone, Waits}
use Rattle.node_merges.specs.MergePlaces.{IsStepAt}
use Rattle.cluster_merges.specs.TaskMet.{mets, behind}
use Rattle.cluster_merges.proofs.EndedCopies.{end_path}
use Rattle.cluster_merges.proofs.CopyFacts.{spread_some, slot_here, place_misses, job_runs, copy_gone}
use Rattle.cluster_merges.proofs.TaskBehind.{all_behind, as_many_met}
use Rattle.cluster_merges.proofs.KeptMerges.{same_tell, all_but}
use Rattle.cluster_merges.proofs.precopies.step_copy.Goals as goal

pub step_in-requires : goal.step_in-requires
step_in-requires g c = slot_here g.D.Dir.cells c.args.ledger.now c.args.tasks.now c.args.places.now.items c.requires.shown c.args.n.0 c.requires.node

-- ---- it waits

pub returns-in-Waits-clause-shown : goal.returns-in-Waits-clause-shown
returns-in-Waits-clause-shown g c = c.requires.shown

pub returns-in-Waits-clause-ok : goal.returns-in-Waits-clause-ok
returns-in-Waits-clause-ok g c = (refl, refl, job_runs g.D.Dir.cells c.args.ledger.now c.args.tasks.now c.args.places.now.items c.requires.shown c.args.n.0 c.args.seg.0 c.args.job c.requires.node (subst (IsStepAt c.args.seg.0 c.args.job (place_of c.args.places.now.items c.args.n.0)) c.in-Waits.is c.in_ok-step_in.ensures))

pub returns-in-Waits-clause-turn : goal.returns-in-Waits-clause-turn
returns-in-Waits-clause-turn g c = (
  place_misses c.args.seg.0 c.args.job Waits (place_of c.args.places.now.items c.args.n.0) (subst (IsStepAt c.args.seg.0 c.args.job (place_of c.args.places.now.items c.args.n.0)) c.in-Waits.is c.in_ok-step_in.ensures),
  job_runs g.D.Dir.cells c.args.ledger.now c.args.tasks.now c.args.places.now.items c.requires.shown c.args.n.0 c.args.seg.0 c.args.job c.requires.node (subst (IsStepAt c.args.seg.0 c.args.job (place_of c.args.places.now.items c.args.n.0)) c.in-Waits.is c.in_ok-step_in.ensures),
)

-- ---- it does not run any more

pub end_task-requires-clause-count : goal.end_task-requires-clause-count
end_task-requires-clause-count g c = as_many_met g.D.FaultDir.planned c.args.before.now c.args.places.now.items c.args.ledger.now.nodes c.requires.before c.requires.shown.0.count

pub end_task-requires-clause-places : goal.end_task-requires-clause-places
end_task-requires-clause-places g c = c.requires.shown.0.count

pub end_task-requires-clause-written : goal.end_task-requires-clause-written
end_task-requires-clause-written g c = spread_some (spread_at (open_merge c.args.seg.0 c.args.tasks.now.rows)) c.args.n.0 c.args.job c.requires.sent

pub returns-in_ok-end_task-in-Gone-clause-shown : goal.returns-in_ok-end_task-in-Gone-clause-shown
returns-in_ok-end_task-in-Gone-clause-shown g c =
    end_path g.D.Dir.cells (behind c.args.at c.args.before.now (mets g.D.FaultDir.planned c.args.places.now.items) c.args.ledger.now) c.end_task.new.ledger c.args.places.now.items c.args.tasks.now c.end_task.new.tasks c.args.line c.args.seg c.args.by c.args.n c.args.job c.in_ok-end_task-in-Gone.ensures.ok c.requires.sent
    (copy_gone g.D.Dir.cells c.args.ledger.now c.args.tasks.now c.args.places.now.items c.requires.shown c.args.p c.requires.source c.requires.primary c.args.n.0 c.args.seg.0 c.args.job (subst (IsStepAt c.args.seg.0 c.args.job (place_of c.args.places.now.items c.args.n.0)) c.in-Gone.is c.in_ok-step_in.ensures)) (all_behind c.args.at c.args.before.now (mets g.D.FaultDir.planned c.args.places.now.items) g.D.Dir.cells c.args.ledger.now c.args.tasks.now c.args.places.now.items c.requires.shown)

pub returns-in_ok-end_task-in-Gone-clause-turn : goal.returns-in_ok-end_task-in-Gone-clause-turn
returns-in_ok-end_task-in-Gone-clause-turn g c = place_misses c.args.seg.0 c.args.job Gone (place_of c.args.places.now.items c.args.n.0) (subst (IsStepAt c.args.seg.0 c.args.job (place_of c.args.places.now.items c.args.n.0)) c.in-Gone.is c.in_ok-step_in.ensures)

-- ---- it misses nothing, or a file

pub settle_copy-requires-clause-step : goal.settle_copy-requires-clause-step
settle_copy-requires-clause-step g c = (subst (IsStepAt c.args.seg.0 c.args.job (place_of c.args.places.now.items c.args.n.0)) c.in-Complete.is c.in_ok-step_in.ensures)

pub hand_file-requires-clause-step : goal.hand_file-requires-clause-step
hand_file-requires-clause-step g c = (subst (IsStepAt c.args.seg.0 c.args.job (place_of c.args.places.now.items c.args.n.0)) c.in-Wants.is c.in_ok-step_in.ensures)

pub returns-in-Waits-clause-cut : goal.returns-in-Waits-clause-cut
returns-in-Waits-clause-cut g c = refl

pub returns-in-Waits-clause-rest : goal.returns-in-Waits-clause-rest
returns-in-Waits-clause-rest g c = same_tell c.args.places.now.items

pub returns-in_ok-end_task-in-Gone-clause-cut : goal.returns-in_ok-end_task-in-Gone-clause-cut
returns-in_ok-end_task-in-Gone-clause-cut g c = c.in_ok-end_task-in-Gone.ensures.ok.cut

pub returns-in_ok-end_task-in-Gone-clause-rest : goal.returns-in_ok-end_task-in-Gone-clause-rest
returns-in_ok-end_task-in-Gone-clause-rest g c = all_but c.args.n.0 c.args.job c.args.places.now.items c.args.places.now.items (same_tell c.args.places.now.items)
