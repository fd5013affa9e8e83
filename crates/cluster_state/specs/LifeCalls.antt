-- What the calls of lines do that commit, crash and reopen: the entries that they add, and what they hand out.
use Rattle.std.specs.Prelude.{ℕ, ◌≡◌, ◌≢◌, ◌&&◌, List, [], ◌∷◌, Bool, true, false, if◌then◌else◌, Option, None, ◌⊎◌}
use Rattle.nrt_base.specs.declared.numbers.At.{At}
use Rattle.nrt_base.specs.declared.numbers.NodeNo.{NodeNo}
use Rattle.nrt_base.specs.declared.numbers.Version.{Version}
use Rattle.disk_model.specs.Disk.{Name, Cells, Image, restarted}
use Rattle.disk_model.specs.Faults.{Plans, ended}
use Rattle.history_rules.specs.declared.cause.Cause.{Cause}
use Rattle.history_rules.specs.declared.cause.Cause.TheVariants.{Lost, Up}
use Rattle.history_rules.specs.declared.entry.Event.{Event}
use Rattle.history_rules.specs.declared.entry.Event.TheVariants.{Committing, Committed, Crashed, Refused, Reopened}
use Rattle.history_rules.specs.Nodes.{Past, is_running, is_at, primary_of}
use Rattle.history_rules.specs.Lines.{before_start, commit_in_flight}
use Rattle.history_rules.specs.Started.{is_lost}
use Rattle.history_book.specs.Log.{printed, shown}
use Rattle.merge_tasks.specs.Board.{Board}
use Rattle.script_serving.specs.Refusals.{when, without_node}
use Rattle.cluster_nodes.specs.declared.tasks.CommitTask.{CommitTask}
use Rattle.cluster_state.specs.Run.{Run, calls_at, IsNow}
use Rattle.cluster_state.specs.NodeDirs.{IsNodeDir}
use Rattle.cluster_state.specs.GivesUp.{met_log}
use Rattle.cluster_state.specs.Lives.{BeginsCommit, MakesCall, reopen_reply, MayReopenAt, MakesCommit, StopsCommit}
use Rattle.cluster_state.specs.declared.turn.Turn.{Turn}
use Rattle.cluster_state.specs.declared.turn.Turn.TheVariants.{Work, Done, Busy}
use Rattle.cluster_state.specs.Calls.{by_refusal, LineRefused, IsRefusedFor}

-- a commit starts: it is handed out, its node is down, or it waits while another line's commit is in flight at the node
abbrev pub CommitStarts : At → NodeNo → Run → Run → Turn CommitTask → Type 0
CommitStarts at n old new (Work task) = BeginsCommit at n old new task × (is_running n.0 (printed old.log) ≡ true) × (commit_in_flight n.0 (printed old.log) ≡ None)
CommitStarts at n old new Done = IsRefusedFor at (without_node n.0 (printed old.log)) old new
CommitStarts at n old new Busy = (new ≡ old) × (is_running n.0 (printed old.log) ≡ true) × (commit_in_flight n.0 (printed old.log) ≢ None)

-- how a commit ends, by whether its line is lost: it is refused so, or acknowledged with its last call, or refused where a disk failed
abbrev pub CommitEndsBy : Bool → At → NodeNo → Version → Run → Run → Type 0
CommitEndsBy true at n v old new = LineRefused at Lost old new
CommitEndsBy false at n v old new = MakesCommit at n v old new ⊎ StopsCommit at n old new

-- a disk call of a commit was made that is not its last, while its node has not crashed; or the commit has ended: its line is lost exactly
-- where its node has crashed since its start
abbrev pub CommitSteps : At → NodeNo → Version → Run → Run → Turn (Unit {0}) → Type 0
CommitSteps at n v old new (Work made) =
    IsNow old new (met_log at old new) × (is_lost (printed old.log) (before_start at (printed old.log)) (Committing n v) ≡ false) × MakesCall n.0 old new
CommitSteps at n v old new Done = CommitEndsBy (is_lost (printed old.log) (before_start at (printed old.log)) (Committing n v)) at n v old new
CommitSteps at n v old new Busy = ⊥

-- what a line does that crashes a node
abbrev pub crash_event : NodeNo → Past → Event
crash_event n past = by_refusal (without_node n.0 past) (Crashed n)

-- the faults that are planned for a node's disk, after a line that crashes it where it runs
abbrev pub crashed_plans : Bool → Plans → Plans
crashed_plans true old = ended old
crashed_plans false old = old

-- the directory of the node is what the crash with this number leaves of the one before, and callers are told the names of its files
pub record CrashesDir {D : Type 0} (cells : D → Cells) (names : D → List Name) (leaves : D → ℕ → Image) (n pick : ℕ) (old new : Run) : Type 0 where
  pub dir : D
  pub was : IsNodeDir cells names old n dir
  pub now : D
  pub is : IsNodeDir cells names new n now
  pub left : cells now ≡ restarted (leaves dir pick)

-- the same of a line that crashes a node where it runs
abbrev pub CrashesDirBy : {D : Type 0} → Bool → (D → Cells) → (D → List Name) → (D → ℕ → Image) → (n pick : ℕ) → Run → Run → Type 0
CrashesDirBy true cells names leaves n pick old new = CrashesDir cells names leaves n pick old new
CrashesDirBy false cells names leaves n pick old new = Unit {0}

-- the tasks of merges after a crash: none is posted and no merge is in flight where the primary crashed
abbrev pub crashed_tasks : Bool → Board → Board
crashed_tasks true old = record old { posted = []; rows = [] }
crashed_tasks false old = old

-- the running primary is this node
abbrev pub is_primary : ℕ → Past → Bool
is_primary n past = is_running n past && is_at (primary_of past) n

-- the node runs
abbrev pub with_node : ℕ → Past → Option Cause
with_node n past = when (is_running n past) Up

-- a line reopens a node that is down, at a version that a reopening may find, or is refused, as the node's disk failed; or the node runs
pub record ReopensNode (at : At) (n : NodeNo) (old new : Run) : Type 0 where
  pub version : Option Version
  pub now : IsNow old new (shown at (by_refusal (with_node n.0 (printed old.log)) (reopen_reply n version)) ∷ met_log at old new)
  pub found : is_running n.0 (printed old.log) ≡ false → MayReopenAt n.0 version old new
