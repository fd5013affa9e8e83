-- What the steps of a merge make of a cluster.
use Rattle.std.specs.Prelude.{ℕ, ◌≡◌, ◌≤◌, ◌<◌, ◌⊎◌, ◌∷◌, ◌++◌, [], List, map, Bool, true, false, Option, Some, None}
use Rattle.nrt_base.specs.SegNumbers.{segments_of_generation}
use Rattle.nrt_base.specs.declared.numbers.At.{At}
use Rattle.nrt_base.specs.declared.numbers.LineNo.{LineNo}
use Rattle.nrt_base.specs.declared.numbers.NodeNo.{NodeNo}
use Rattle.nrt_base.specs.declared.numbers.SegNo.{SegNo}
use Rattle.codec_frame.specs.Checking.{HasFooter}
use Rattle.copy_state.specs.Meta.{IsMetaOf}
use Rattle.copy_state.specs.declared.state.CopyState.{CopyState}
use Rattle.seg_reader.specs.Shown.{Shown}
use Rattle.merge_choice.specs.Choice.{IsFirstRange, HasNoRange}
use Rattle.seg_merge.specs.declared.task.Merged.{Merged}
use Rattle.seg_merge.specs.Merging.{IsMergedOf}
use Rattle.script_serving.specs.Refusals.{put_publishes}
use Rattle.history_rules.specs.declared.cause.Cause.{Cause}
use Rattle.history_rules.specs.declared.cause.Cause.TheVariants.{Nothing, NamesSpent}
use Rattle.history_rules.specs.declared.entry.Event.TheVariants.{Merging}
use Rattle.history_rules.specs.Points.{names_drawn}
use Rattle.history_book.specs.declared.inner.Inner.TheVariants.{MergeOut, MergeEnd, JobBegun, FileOut, TaskOut, TaskEnd}
use Rattle.history_book.specs.declared.inner.Step.{Step}
use Rattle.history_book.specs.declared.inner.Step.TheVariants.{Merge as MergeStep, PreCopy as PreCopyStep, Cut as CutStep}
use Rattle.history_book.specs.Chosen.{TakesFirst}
use Rattle.history_book.specs.Log.{Log, printed, shown, kept}
use Rattle.merge_tasks.specs.Merging.{merge_on, cut_after, next_name}
use Rattle.merge_tasks.specs.Fates.{fate_due}
use Rattle.merge_tasks.specs.declared.tasks.OpenMerge.{OpenMerge}
use Rattle.merge_tasks.specs.declared.tasks.Posted.{Posted}
use Rattle.merge_tasks.specs.declared.tasks.Task.{Task}
use Rattle.merge_tasks.specs.declared.tasks.Sent.{Sent}
use Rattle.merge_tasks.specs.TaskLog.{inputs_out, merge_task, carried_out}
use Rattle.merge_tasks.specs.Board.{open_merge, spread_at, with_spread, without_merge, sent_left, sent_less, posts_of, post_after, posted_merge, step_of, IsToldKind}
use Rattle.cluster_nodes.specs.declared.tasks.FileTask.{FileTask}
use Rattle.cluster_state.specs.Run.{Run, IsNow}
use Rattle.cluster_state.specs.DueFaults.{with_due}
use Rattle.cluster_state.specs.GivesUp.{task_met_log, disk_failed, PrimaryFails}
use Rattle.cluster_state.specs.Settles.{AreReplicas}
use Rattle.cluster_state.specs.Merging.{IsFitKind}
use Rattle.cluster_merges.specs.MergeSizes.{without_range, SizesEnd}

-- the call has ended well, and these are the log, the merges in flight and the posted tasks now
pub record IsBoard (old new : Run) (now : Log) (rows : List OpenMerge) (posted : List Posted) : Type 0 where
  pub is : IsNow old new now
  pub rows_are : new.rest.tasks.rows ≡ rows
  pub posted_are : new.rest.tasks.posted ≡ posted

-- the call has ended well, and nothing has changed
abbrev pub IsAsBefore : Run → Run → Type 0
IsAsBefore old new = IsBoard old new old.log old.rest.tasks.rows old.rest.tasks.posted

-- A merge starts into the next segment, of as many neighbours as the factor, the first that can be chosen, and a name was left for it: its inputs stand
-- in the log, with the sizes of which they were chosen, and the task to build it is posted; they have no size any more. There are no more of them
-- than publishes had puts.
pub record BeginsMerge (at : At) (factor : ℕ) (old new : Run) : Type 0 where
  pub seg : SegNo
  pub inputs : List Shown
  pub named : seg.0 ≡ next_name (printed old.log)
  pub takes : TakesFirst factor old.rest.sizes inputs
  pub unspent : names_drawn (printed old.log) < segments_of_generation
  pub few : factor ≤ put_publishes (printed old.log)
  pub held : new.rest.sizes ≡ without_range takes.from factor old.rest.sizes
  pub begins : IsBoard old new (kept (MergeOut at.line seg inputs old.rest.sizes) ∷ shown at (Merging seg) ∷ old.log)
      (old.rest.tasks.rows ++ record { seg = seg; line = at.line; spread = None } ∷ []) (old.rest.tasks.posted ++ posted_merge seg at.line (merge_task seg inputs) ∷ [])

-- A merge starts; or no inputs can be chosen; or some can, and the generation has drawn all its names.
abbrev pub StartsMergeFor : At → ℕ → Run → Run → Option Cause → Type 0
StartsMergeFor at factor old new None = BeginsMerge at factor old new
StartsMergeFor at factor old new (Some Nothing) = IsAsBefore old new × HasNoRange factor old.rest.sizes
StartsMergeFor at factor old new (Some NamesSpent) =
    IsAsBefore old new × ((from : ℕ) × IsFirstRange factor old.rest.sizes from) × (names_drawn (printed old.log) ≡ segments_of_generation)
StartsMergeFor at factor old new (Some cause) = ⊥

-- the task that was posted first was taken, by this drain line or by none
pub record HandsTask (by : Option At) (old new : Run) (task : Task) : Type 0 where
  pub rest : List Posted
  pub first : old.rest.tasks.posted ≡ record { seg = task.seg; line = task.line; kind = task.kind } ∷ rest
  pub taker : task.by ≡ by
  pub told : IsToldKind new.log task.seg task.kind
  pub fit : IsFitKind task.kind
  pub taken : IsBoard old new (kept (TaskOut task.line task.seg by (step_of task.kind)) ∷ old.log) old.rest.tasks.rows rest

-- a task was taken, or none is posted
abbrev pub TakesTask : Option At → Run → Run → Option Task → Type 0
TakesTask by old new (Some task) = HandsTask by old new task
TakesTask by old new None = IsAsBefore old new × (old.rest.tasks.posted ≡ [])

-- the merged segment was made of what was handed out of its merge
pub record IsMergedOut (log : Log) (seg : SegNo) (merged : Merged) : Type 0 where
  pub inputs : List Shown
  pub out : inputs_out seg.0 log ≡ Some inputs
  pub of : IsMergedOf (merge_task seg inputs) merged

-- the copies of a merged segment begin, in order
abbrev pub begun_log : LineNo → List Sent → Log → Log
begun_log line [] log = log
begun_log line (s ∷ sent) log = begun_log line sent (kept (JobBegun line s.node s.job None None) ∷ log)

-- A merge of which nothing was written is written now: a copy of it has begun to each replica that runs, in order, and a task is posted for each,
-- or, where none runs, the one to cut over; behind the faults of disks that the task met, which are of the line of the merge.
pub record WritesMerge (line : LineNo) (seg : SegNo) (by : Option At) (old new : Run) : Type 0 where
  pub at : At
  pub on : merge_on seg.0 old.log ≡ Some at
  pub state : CopyState
  pub sent : List Sent
  pub replicas : AreReplicas old.nodes (printed old.log) (map (λ s. s.node) sent)
  pub writes : IsBoard old new (kept (TaskEnd line seg by MergeStep true) ∷ begun_log line sent (task_met_log at old new))
      (with_spread seg.0 (Some (record { state = state; left = sent; all = true })) old.rest.tasks.rows)
      ((old.rest.tasks.posted ++ posts_of seg line sent) ++ post_after seg line sent)

-- a copy has ended, and its task counts; the last one posts the task to cut over; behind the faults of disks that the task met, which are of the
-- line of the merge
pub record EndsCopyTask (line : LineNo) (seg : SegNo) (by : Option At) (n : NodeNo) (job : ℕ) (old new : Run) : Type 0 where
  pub at : At
  pub on : merge_on seg.0 old.log ≡ Some at
  pub ends : IsBoard old new (kept (TaskEnd line seg by (PreCopyStep n job) true) ∷ task_met_log at old new)
      (with_spread seg.0 (sent_less n.0 job (spread_at (open_merge seg.0 old.rest.tasks.rows))) old.rest.tasks.rows)
      (old.rest.tasks.posted ++ post_after seg line (sent_left (sent_less n.0 job (spread_at (open_merge seg.0 old.rest.tasks.rows)))))

-- a file of the merged segment was handed out, with its metadata and what becomes of it; it ends in a footer; behind the faults of disks that its
-- task met, and those that the file meets, which are of the line of the merge
pub record HandsMergedFile (line : LineNo) (seg : SegNo) (n : NodeNo) (job : ℕ) (old new : Run) (file : FileTask) : Type 0 where
  pub at : At
  pub on : merge_on seg.0 old.log ≡ Some at
  pub hands : IsBoard old new (kept (FileOut line n job file.name file.source file.fate None) ∷ with_due true at n.0 (task_met_log at old new))
      old.rest.tasks.rows old.rest.tasks.posted
  pub fate : file.fate ≡ fate_due n.0 (task_met_log at old new)
  pub out : carried_out file.name new.log ≡ Some file.source
  pub meta : IsMetaOf file.source file.meta
  pub footer : HasFooter file.source

-- the faults that a task of the merge met stand there, and nothing else changed
pub record MeetsFaults (seg : SegNo) (old new : Run) : Type 0 where
  pub at : At
  pub on : merge_on seg.0 old.log ≡ Some at
  pub meets : IsBoard old new (task_met_log at old new) old.rest.tasks.rows old.rest.tasks.posted

-- a merge has ended, cut over or not, and its task, which counts, behind the faults of disks that the task met; they are of the line of the merge
pub record EndsMerge (line : LineNo) (seg : SegNo) (by : Option At) (step : Step) (cut : Bool) (old new : Run) : Type 0 where
  pub at : At
  pub on : merge_on seg.0 old.log ≡ Some at
  pub ends : IsBoard old new (kept (TaskEnd line seg by step true) ∷ kept (MergeEnd seg cut) ∷ task_met_log at old new) (without_merge seg.0 old.rest.tasks.rows) old.rest.tasks.posted
  pub cut_is : new.rest.cut ≡ cut_after cut old.rest.cut
  pub sizes : SizesEnd cut old.rest.sizes new.rest.sizes

-- a copy has ended, as the disk of the primary or of its node failed
abbrev pub FailsCopy : LineNo → SegNo → Option At → NodeNo → ℕ → Run → Run → Type 0
FailsCopy line seg by n job old new = EndsCopyTask line seg by n job old new × (PrimaryFails old new ⊎ (disk_failed n.0 old new ≡ true))

-- a merge was given up, as the primary's disk failed
pub record GivesUp (line : LineNo) (seg : SegNo) (by : Option At) (step : Step) (old new : Run) : Type 0 where
  pub merge : EndsMerge line seg by step false old new
  pub disk : PrimaryFails old new

-- a merge was cut over, or given up
abbrev pub CutsOver : LineNo → SegNo → Option At → Run → Run → Type 0
CutsOver line seg by old new = EndsMerge line seg by CutStep true old new ⊎ GivesUp line seg by CutStep old new

-- the task to build the segment has ended, as its files are written or as the merge was given up; or it had before
abbrev pub EndsBuild : LineNo → SegNo → Option At → Run → Run → Bool → Type 0
EndsBuild line seg by old new true = WritesMerge line seg by old new ⊎ GivesUp line seg by MergeStep old new
EndsBuild line seg by old new false = IsAsBefore old new
