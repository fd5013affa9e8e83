-- What a lane or a worker knows of a task that it took, and what it does with it.
use Rattle.std.specs.Prelude.{ℕ, ◌≡◌, ◌≢◌, ◌++◌, Bool, Option, Some, None, ⊤}
use Rattle.std.specs.List.{AllByRecursion}
use Rattle.nrt_base.specs.declared.numbers.At.{At}
use Rattle.nrt_base.specs.declared.numbers.SegNo.{SegNo}
use Rattle.copy_state.specs.Meta.{IsMetaOf}
use Rattle.codec_frame.specs.Checking.{HasFooter}
use Rattle.seg_merge.specs.declared.task.MergeTask.{MergeTask}
use Rattle.history_book.specs.declared.inner.Mark.{Mark}
use Rattle.history_book.specs.declared.inner.Mark.TheVariants.{Shown, TaskFault, Kept}
use Rattle.history_book.specs.Log.{Log, lane_name, name_inside}
use Rattle.index_primary.specs.StartCalls.{IsFitTask}
use Rattle.merge_tasks.specs.declared.tasks.Task.{Task}
use Rattle.merge_tasks.specs.TaskLog.{inputs_out, merge_task, carried_out}
use Rattle.merge_tasks.specs.Board.{IsToldKind}
use Rattle.cluster_nodes.specs.declared.tasks.FileTask.{FileTask}
use Rattle.hist_lock.specs.declared.grows.Grows.{Ghosts}
use Rattle.hist_lock.specs.declared.lock.HistLock.{HistLock}
use Rattle.hist_lock.specs.declared.lock.LaneSeat.{LaneSeat}
use Rattle.lane_threads.specs.Owes.{FaultsFit}
use Rattle.lane_threads.specs.Seats.{log_seen, IsLaneSeat}
use Rattle.cluster_state.specs.declared.turn.Turn.{Turn}
use Rattle.cluster_state.specs.declared.turn.Turn.TheVariants.{Work, Done, Busy}
use Rattle.cluster_site.specs.Sites.{SiteRun}
use Rattle.cluster_state.specs.Merging.{IsFitKind}

-- the task is what the entries show that was handed out, and is fit to be done
pub record IsTaskIn (task : Task) (log : Log) : Type 0 where
  pub told : IsToldKind log task.seg task.kind
  pub fit : IsFitKind task.kind

-- what is merged into the segment is what the entries show that was handed out, and is fit to be merged
pub record IsMergeIn (work : MergeTask) (seg : SegNo) (log : Log) : Type 0 where
  pub inputs : inputs_out seg.0 log ≡ Some work.inputs
  pub task : work ≡ merge_task seg work.inputs
  pub fit : IsFitTask work

-- a file of a merged segment that was handed out
pub record IsCarriedIn (file : FileTask) (log : Log) : Type 0 where
  pub out : carried_out file.name log ≡ Some file.source
  pub meta : IsMetaOf file.source file.meta
  pub footer : HasFooter file.source

-- whoever takes tasks takes them for this line, or for none
abbrev pub IsTakerAt : At → Option At → Type 0
IsTakerAt at None = ⊤
IsTakerAt at (Some by) = by ≡ at

-- The entry is no printed one of the lane, and where tasks are taken for no line it is none that the lane's seat appended.
abbrev pub IsSilent : ℕ → Option At → Mark → Type 0
IsSilent lane by (Shown e) = lane_name e.at.lane.0 ≢ lane_name lane
IsSilent lane by (TaskFault e) = ⊤
IsSilent lane by (Kept i) = by ≡ None → name_inside i ≢ lane_name lane

-- the history goes on, and no line of the lane goes on in it
pub record GrowsSilently (logged : Bool) (lane : ℕ) (by : Option At) (old new : Log) : Type 0 where
  pub more : Log
  pub log : new ≡ more ++ old
  pub silent : AllByRecursion (IsSilent lane by) more
  pub faults : FaultsFit logged new

module _ {g : Ghosts SiteRun Mark} where
  -- The lane or worker of this number did work of tasks that were taken for a line or for none: its seat holds nothing, and none of its
  -- lines has gone on.
  pub record WorksOn (logged : Bool) (lock : HistLock SiteRun Mark) (lane : ℕ) (by : Option At) (before after : LaneSeat SiteRun Mark g) : Type 0 where
    pub seat : IsLaneSeat logged lock lane after
    pub grows : GrowsSilently logged lane by (log_seen before) (log_seen after)

  -- a task was taken, of which this is known; or none was posted
  abbrev pub TakesOn : Bool → HistLock SiteRun Mark → ℕ → Option At → LaneSeat SiteRun Mark g → LaneSeat SiteRun Mark g → Option Task → Type 0
  TakesOn logged lock lane by before after None = WorksOn logged lock lane by before after
  TakesOn logged lock lane by before after (Some task) = WorksOn logged lock lane by before after × IsTaskIn task (log_seen after) × (task.by ≡ by)

  -- a file was handed out, of which this is known; or nothing more is to be done, or the task waits
  abbrev pub HandsOn : Bool → HistLock SiteRun Mark → ℕ → Option At → LaneSeat SiteRun Mark g → LaneSeat SiteRun Mark g → Turn FileTask → Type 0
  HandsOn logged lock lane by before after (Work file) = WorksOn logged lock lane by before after × IsCarriedIn file (log_seen after)
  HandsOn logged lock lane by before after Done = WorksOn logged lock lane by before after
  HandsOn logged lock lane by before after Busy = WorksOn logged lock lane by before after
