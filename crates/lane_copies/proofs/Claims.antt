-- What is known of a task stays so, whatever is appended.
use Rattle.std.proofs.Common.{◌≡◌, Bool, List, [], ◌∷◌, ◌++◌, Some, ap, ◌∙◌, subst, ℕ}
use Rattle.nrt_base.specs.declared.numbers.SegNo.{SegNo}
use Rattle.disk_model.specs.Disk.{Name}
use Rattle.seg_reader.specs.Shown.{Shown as Segment}
use Rattle.seg_merge.specs.declared.task.MergeTask.{MergeTask}
use Rattle.seg_merge.specs.declared.task.Merged.{Merged}
use Rattle.seg_merge.specs.Merging.{IsMergedOf}
use Rattle.history_book.specs.declared.inner.Mark.TheVariants.{Shown, TaskFault, Kept}
use Rattle.history_book.specs.Log.{Log}
use Rattle.lane_threads.specs.Walks.{GrowsByOthers}
use Rattle.merge_tasks.specs.declared.tasks.Task.{Task}
use Rattle.merge_tasks.specs.declared.tasks.TaskKind.TheVariants.{Merge}
use Rattle.merge_tasks.specs.TaskLog.{inputs_by, inputs_out, carries_as, carried_out}
use Rattle.merge_tasks.specs.Board.{IsToldKind}
use Rattle.merge_tasks.proofs.TaskFrames.{first_stays}
use Rattle.cluster_state.specs.Merging.{IsFitKind}
use Rattle.cluster_merges.specs.MergePaths.{IsMergedOut}
use Rattle.lane_copies.specs.Taken.{IsTaskIn, IsMergeIn}

inputs_stay : (seg : ℕ) (inputs : List Segment) (more old : Log) → inputs_out seg old ≡ Some inputs → inputs_out seg (more ++ old) ≡ Some inputs
inputs_stay seg inputs [] old is = is
inputs_stay seg inputs (Kept i ∷ more) old is = first_stays (inputs_out seg (more ++ old)) (inputs_by seg i) inputs (inputs_stay seg inputs more old is)
inputs_stay seg inputs (Shown e ∷ more) old is = inputs_stay seg inputs more old is
inputs_stay seg inputs (TaskFault e ∷ more) old is = inputs_stay seg inputs more old is

carried_stays : (q : Name) (bytes : List ℕ) (more old : Log) → carried_out q old ≡ Some bytes → carried_out q (more ++ old) ≡ Some bytes
carried_stays q bytes [] old is = is
carried_stays q bytes (Kept i ∷ more) old is = first_stays (carried_out q (more ++ old)) (carries_as q i) bytes (carried_stays q bytes more old is)
carried_stays q bytes (Shown e ∷ more) old is = carried_stays q bytes more old is
carried_stays q bytes (TaskFault e ∷ more) old is = carried_stays q bytes more old is

module _ {logged : Bool} (lane : ℕ) (old new : Log) (grows : GrowsByOthers logged lane old new) where
  -- a segment that was made of what was handed out
  pub merged_stays : (seg : SegNo) (merged : Merged) → IsMergedOut old seg merged → IsMergedOut new seg merged
  merged_stays seg merged m =
      record { inputs = m.inputs; out = ap (inputs_out seg.0) grows.log ∙ inputs_stay seg.0 m.inputs grows.more old m.out; of = m.of }

  -- the bytes of a file that was handed out
  pub source_stays : (q : Name) (bytes : List ℕ) → carried_out q old ≡ Some bytes → carried_out q new ≡ Some bytes
  source_stays q bytes is = ap (carried_out q) grows.log ∙ carried_stays q bytes grows.more old is

-- a task to build a segment
pub task_builds : (task : Task) (work : MergeTask) (log : Log) → task.kind ≡ Merge work → IsTaskIn task log → IsMergeIn work task.seg log
task_builds task work log is known =
    let told : IsToldKind log task.seg (Merge work) = subst (IsToldKind log task.seg) is known.told in
    record { inputs = told.0; task = told.1; fit = subst IsFitKind is known.fit }

-- what is made for it is made of what was handed out
pub made_out : (work : MergeTask) (seg : SegNo) (merged : Merged) (log : Log) → IsMergeIn work seg log → IsMergedOf work merged → IsMergedOut log seg merged
made_out work seg merged log known of =
    record { inputs = work.inputs; out = known.inputs; of = subst (λ (t : MergeTask). IsMergedOf t merged) known.task of }
