-- What a lane knows of the job by which its line copies to a node.
use Rattle.std.specs.Prelude.{ℕ, ◌≡◌, ◌≢◌, ◌<◌, true, Bool, ⊤, Option, Some, None}
use Rattle.nrt_base.specs.declared.numbers.At.{At}
use Rattle.nrt_base.specs.declared.numbers.NodeNo.{NodeNo}
use Rattle.nrt_base.specs.declared.numbers.Version.{Version}
use Rattle.codec_frame.specs.Checking.{HasFooter}
use Rattle.copy_state.specs.Meta.{IsMetaOf}
use Rattle.history_rules.specs.declared.entry.Event.{Event}
use Rattle.history_rules.specs.declared.entry.Event.TheVariants.{Copying, Settling}
use Rattle.history_rules.specs.Lines.{start_entry, is_answered, highest_switched}
use Rattle.history_tables.specs.declared.jobs.JobRow.{JobRow}
use Rattle.history_tables.specs.Begins.{open_line}
use Rattle.history_book.specs.declared.inner.Mark.{Mark}
use Rattle.history_book.specs.Log.{Log, printed}
use Rattle.history_book.specs.Jobs.{job_of}
use Rattle.script_serving.specs.declared.script.LineCommand.{LineCommand}
use Rattle.hist_lock.specs.declared.grows.Grows.{Ghosts}
use Rattle.hist_lock.specs.declared.lock.LaneSeat.{LaneSeat}
use Rattle.hist_lock.specs.declared.lock.HistLock.{HistLock}
use Rattle.lane_threads.specs.Walks.{LineGoes}
use Rattle.lane_threads.specs.Seats.{log_seen, IsLaneSeat}
use Rattle.cluster_nodes.specs.declared.tasks.CopyTask.{CopyTask}
use Rattle.cluster_nodes.specs.declared.tasks.FileTask.{FileTask}
use Rattle.cluster_nodes.specs.declared.tasks.SettleTask.{SettleTask}
use Rattle.cluster_state.specs.Run.{Run}
use Rattle.cluster_state.specs.DueFaults.{MeetsFate}
use Rattle.cluster_state.specs.FilesOut.{file_out}
use Rattle.cluster_state.specs.Settles.{IsSettling}
use Rattle.cluster_state.specs.declared.turn.Turn.{Turn}
use Rattle.cluster_state.specs.declared.turn.Turn.TheVariants.{Work, Done, Busy}
use Rattle.cluster_state.specs.CopyCalls.{CopiesFor, AreFrom, IsBeingCopied}
use Rattle.cluster_site.specs.Sites.{SiteRun}

-- a line that has started so copies to the node of the job: as a copy, or as a settle
abbrev pub IsJobStart : ℕ → Option Event → Type 0
IsJobStart n (Some (Copying m v)) = m.0 ≡ n
IsJobStart n (Some (Settling v)) = ⊤
IsJobStart n begun = ⊥

-- a line that has started so is a copy
abbrev pub IsCopyStart : Option Event → Type 0
IsCopyStart (Some (Copying n v)) = ⊤
IsCopyStart begun = ⊥

-- The line copies by the last job that its lane began. Whether that has ended no seat can know: the end of a job names none.
pub record IsCopyingBy (at : At) (task : CopyTask) (log : Log) : Type 0 where
  pub row : JobRow
  pub last : job_of at.lane.0 log ≡ Some row
  pub at_is : row.job.at ≡ at
  pub node : row.job.node ≡ task.node
  pub number : row.job.number ≡ task.job
  pub line : task.line ≡ at.line
  pub started : IsJobStart task.node.0 (start_entry at (printed log))
  pub is_open : open_line at (printed log) ≢ None
  pub ordered : highest_switched at (printed log) < task.node.0

-- a file is out to the job, and the line has met what makes of it what becomes of it
pub record HasFileOut (at : At) (task : CopyTask) (file : FileTask) (log : Log) : Type 0 where
  pub copying : IsCopyingBy at task log
  pub out : file_out at task.node.0 task.job file.name log ≡ Some file.source
  pub met : MeetsFate file.fate at task.node.0 (printed log)
  pub meta : IsMetaOf file.source file.meta
  pub footer : HasFooter file.source

-- a line that is a copy has its reply
abbrev pub IsCopyReplied : At → Log → Type 0
IsCopyReplied at log = IsCopyStart (start_entry at (printed log)) → is_answered at (printed log) ≡ true

-- while the line has no reply it settles on with what was left, in a cluster of so many nodes
abbrev pub IsStillSettling : ℕ → At → SettleTask → Log → Type 0
IsStillSettling size at left log = open_line at (printed log) ≢ None → IsSettling size (printed log) at left

-- the line has begun to settle at the version
abbrev pub HasBegunToSettle : At → SettleTask → Log → Type 0
HasBegunToSettle at left log = start_entry at (printed log) ≡ Some (Settling left.version)

-- the line settles on with what is left
abbrev pub IsSettlingOn : ℕ → At → SettleTask → Log → Type 0
IsSettlingOn size at left log = IsSettling size (printed log) at left

-- a job for the newest version runs at some node
abbrev pub IsCopiedSomewhere : Log → Type 0
IsCopiedSomewhere log = (n : NodeNo) × IsBeingCopied log n.0

-- a copy to this node has begun its job
pub record BeginsCopy (at : At) (n : NodeNo) (task : CopyTask) (log : Log) : Type 0 where
  pub copying : IsCopyingBy at task log
  pub version : Version
  pub started : start_entry at (printed log) ≡ Some (Copying n version)

-- a settle has begun the job of the first replica that is left
pub record BeginsNextJob (size : ℕ) (at : At) (left : SettleTask) (task : CopyTask) (log : Log) : Type 0 where
  pub copying : IsCopyingBy at task log
  pub settling : IsSettling size (printed log) at left
  pub first : AreFrom task.node left.left.items

-- a call of a job left its line as it has started, and what a settle has left, and this is so now
pub record LeavesJob (at : At) (task : CopyTask) (holds : Log → Type 0) (old new : Run) : Type 0 where
  pub start : start_entry at (printed new.log) ≡ start_entry at (printed old.log)
  pub settles : (left : SettleTask) → IsSettling old.nodes (printed old.log) at left → AreFrom task.node left.left.items → IsStillSettling new.nodes at left new.log
  pub now : holds new.log

-- a call of a job handed out work, of which this is so; or the job has ended
abbrev pub LeavesJobAt : {W : Type 0} → (W → Log → Type 0) → At → CopyTask → Run → Run → Turn W → Type 0
LeavesJobAt out at task old new (Work w) = LeavesJob at task (out w) old new
LeavesJobAt out at task old new Done = LeavesJob at task (IsCopyReplied at) old new
LeavesJobAt out at task old new Busy = ⊥

module _ {g : Ghosts SiteRun Mark} where
  -- some of what the line asks for was done by a section of its job, in a cluster of so many nodes, and this is so of the entries that its seat has seen
  pub record StepsJob (logged : Bool) (size : ℕ) (lock : HistLock SiteRun Mark) (at : At) (task : CopyTask) (holds : Log → Type 0) (before after : LaneSeat SiteRun Mark g) : Type 0 where
    pub seat : IsLaneSeat logged lock at.lane.0 after
    pub goes : (command : LineCommand) → CopiesFor command (start_entry at (printed (log_seen before))) → LineGoes logged command at (log_seen before) (log_seen after)
    pub start : start_entry at (printed (log_seen after)) ≡ start_entry at (printed (log_seen before))
    pub settles : (left : SettleTask) → IsStillSettling size at left (log_seen before) → AreFrom task.node left.left.items → IsStillSettling size at left (log_seen after)
    pub now : holds (log_seen after)

  -- work was handed out to the job, of which this is so; or the job has ended
  abbrev pub TurnsJob : {W : Type 0} → Bool → (W → Log → Type 0) → ℕ → HistLock SiteRun Mark → At → CopyTask → LaneSeat SiteRun Mark g → LaneSeat SiteRun Mark g → Turn W → Type 0
  TurnsJob logged out size lock at task before after (Work w) = StepsJob logged size lock at task (out w) before after
  TurnsJob logged out size lock at task before after Done = StepsJob logged size lock at task (IsCopyReplied at) before after
  TurnsJob logged out size lock at task before after Busy = ⊥
