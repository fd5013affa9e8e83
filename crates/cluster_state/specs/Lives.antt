-- What commits, crashes and reopenings of nodes leave behind.
use Rattle.std.specs.Prelude.{ℕ, ◌≡◌, ◌≢◌, ◌+◌, [], ◌∷◌, Bool, true, false, Option, Some, None, ◌-◌, nat_lt, if◌then◌else◌}
use Rattle.nrt_base.specs.declared.numbers.At.{At}
use Rattle.nrt_base.specs.declared.numbers.NodeNo.{NodeNo}
use Rattle.nrt_base.specs.declared.numbers.Version.{Version}
use Rattle.history_rules.specs.declared.cause.Cause.TheVariants.{DiskFault}
use Rattle.history_rules.specs.declared.entry.Event.{Event}
use Rattle.history_rules.specs.declared.entry.Event.TheVariants.{Committing, Committed, Reopened, Refused}
use Rattle.history_rules.specs.Nodes.{version_of}
use Rattle.history_rules.specs.Commits.{is_stuck}
use Rattle.history_book.specs.Laws.{may_find}
use Rattle.history_book.specs.Log.{Log, printed, shown}
use Rattle.cluster_nodes.specs.declared.tasks.CommitTask.{CommitTask}
use Rattle.cluster_nodes.specs.declared.went.Went.{Went}
use Rattle.cluster_nodes.specs.declared.went.Went.TheVariants.{Done, Failed}
use Rattle.cluster_state.specs.GivesUp.{met_log, disk_failed}
use Rattle.cluster_state.specs.Run.{Run, calls_at, IsNow}
use Rattle.cluster_state.specs.Met.{with_met}

-- A line starts a commit of the version that the node searches: it needs six calls of the directory more than the one before it that
-- was stopped. Where the node is not stuck, there is none.
pub record BeginsCommit (at : At) (n : NodeNo) (old new : Run) (task : CommitTask) : Type 0 where
  pub node : task.node ≡ n
  pub version : task.version.0 ≡ version_of n.0 (printed old.log)
  pub now : IsNow old new (shown at (Committing n task.version) ∷ old.log)
  pub calls : calls_at n.0 new ≡ calls_at n.0 old + 6
  pub none : is_stuck n.0 (printed old.log) ≡ false → calls_at n.0 old ≡ 0

-- a call of its directory was made for the commit in flight at a node: it needs one less, and is not done
pub record MakesCall (n : ℕ) (old new : Run) : Type 0 where
  pub one : calls_at n old ≡ calls_at n new + 1
  pub more : calls_at n new ≢ 0

-- the last call was made, and the commit is acknowledged: for the version of the line's start where the node is not stuck
pub record MakesCommit (at : At) (n : NodeNo) (v : Version) (old new : Run) : Type 0 where
  pub version : Version
  pub now : IsNow old new (shown at (Committed n version) ∷ met_log at old new)
  pub exact : is_stuck n.0 (printed old.log) ≡ false → version ≡ v
  pub last : calls_at n.0 old ≡ 1

-- the calls that a commit needs once it is stopped: without those of the line's own that is still to begin
abbrev pub stopped_calls : ℕ → ℕ
stopped_calls k = if nat_lt 6 k then k - 6 else k

-- the disk of the node failed in this call: the line is refused, and the commit stays as it is
pub record StopsCommit (at : At) (n : NodeNo) (old new : Run) : Type 0 where
  pub now : IsNow old new (shown at (Refused DiskFault) ∷ met_log at old new)
  pub failed : disk_failed n.0 old new ≡ true
  pub calls : calls_at n.0 new ≡ stopped_calls (calls_at n.0 old)
  pub more : calls_at n.0 new ≢ 0

-- a call of the directory was made for a commit of a line that started at this version, the last one or not, or the disk failed
abbrev pub StepsCommit : At → NodeNo → Version → Run → Run → Went Bool → Type 0
StepsCommit at n v old new (Done false) = IsNow old new (met_log at old new) × MakesCall n.0 old new
StepsCommit at n v old new (Done true) = MakesCommit at n v old new
StepsCommit at n v old new Failed = StopsCommit at n old new

-- the log with the faults of disks in front that rose at one node
abbrev pub met_at : At → ℕ → ℕ × ℕ → ℕ × ℕ → Log → Log
met_at at n old new log = with_met false at n (old ∷ []) (new ∷ []) log

-- what a line is told that reopens a node: its version, or that its disk failed
abbrev pub reopen_reply : NodeNo → Option Version → Event
reopen_reply n (Some v) = Reopened n v
reopen_reply n None = Refused DiskFault

-- a reopening may find this version, and its disk met no fault; or its disk met one
abbrev pub MayReopenAt : ℕ → Option Version → Run → Run → Type 0
MayReopenAt n (Some v) old new = (may_find n v.0 (printed old.log) ≡ true) × (disk_failed n old new ≡ false)
MayReopenAt n None old new = disk_failed n old new ≡ true

-- the node reopened at a version at which it may, or its disk failed
pub record Reopens (at : At) (n : NodeNo) (old new : Run) : Type 0 where
  pub version : Option Version
  pub now : IsNow old new (shown at (reopen_reply n version) ∷ met_log at old new)
  pub found : MayReopenAt n.0 version old new
