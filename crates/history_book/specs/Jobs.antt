-- The jobs that copy points to nodes, as the entries of inner work show them, and in which turn these come.
use Rattle.std.specs.Prelude.{ℕ, ◌≡◌, ◌≢◌, ◌≤◌, ◌<◌, List, [], ◌∷◌, Bool, true, false, Option, Some, None, ⊤, ◌==◌, length, nat_le}
use Rattle.nrt_base.specs.declared.numbers.At.{At}
use Rattle.nrt_base.specs.declared.numbers.Version.{Version}
use Rattle.history_rules.specs.declared.entry.Event.{Event}
use Rattle.history_rules.specs.declared.entry.Event.TheVariants.{Copying, Settling}
use Rattle.history_rules.specs.Nodes.{Past, IsNode, IsReplica, is_running, primary_of, newest_version, is_made_in_generation}
use Rattle.history_rules.specs.Lines.{start_entry, before_start, NodeSurvives, SourceSurvives}
use Rattle.history_rules.specs.declared.cause.FaultKind.TheVariants.{Link, Damage}
use Rattle.history_rules.specs.Faults.{same_kind, has_fault}
use Rattle.history_rules.specs.Rules.{MayCancel}
use Rattle.history_tables.specs.declared.jobs.Job.{Job}
use Rattle.history_tables.specs.declared.jobs.JobRow.{JobRow}
use Rattle.history_tables.specs.declared.jobs.JobStep.{JobStep}
use Rattle.history_tables.specs.declared.jobs.JobStep.TheVariants.{Begins, Ends, Passes}
use Rattle.history_tables.specs.declared.jobs.KeyedJob.{KeyedJob}
use Rattle.history_tables.specs.Begins.{open_line}
use Rattle.history_tables.specs.NodeRows.{crashed_at}
use Rattle.history_tables.specs.Numbering.{primary_crashed}
use Rattle.history_tables.specs.JobRows.{last_job_by, while_going, row_under}
use Rattle.history_book.specs.declared.inner.Inner.{Inner}
use Rattle.history_book.specs.declared.inner.Inner.TheVariants.{JobBegun, FileOut, JobEnd}
use Rattle.link_model.specs.declared.fate.Fate.{Fate}
use Rattle.link_model.specs.declared.fate.Fate.TheVariants.{Whole, Fail, Damage as DamageFate}
use Rattle.history_book.specs.declared.inner.Mark.TheVariants.{Kept}
use Rattle.history_book.specs.Log.{Log, printed}

-- what an entry of inner work does to the jobs that copy points
abbrev pub job_step : Inner → JobStep
job_step (JobBegun line n number (Some v) (Some at)) = Begins (record { at = at; node = n; number = number; version = v })
job_step (JobEnd line n number) = Ends line n number
job_step i = Passes

-- what is remembered of the last job that began for a line of a lane, or at a node
abbrev pub last_job : Bool → ℕ → Log → Option JobRow
last_job lanes k [] = None
last_job lanes k (Kept i ∷ log) = last_job_by lanes k (job_step i) (length (printed log)) (last_job lanes k log)
last_job lanes k (m ∷ log) = last_job lanes k log

-- the job that runs at a node: the last one, unless it has ended, or the node or a primary has crashed since
abbrev pub job_at : ℕ → Log → Option Job
job_at n log = while_going n (printed log) (last_job false n log)

-- the last job that a line of a lane began, and how far it has come
abbrev pub job_of : ℕ → Log → Option JobRow
job_of lane log = last_job true lane log

-- a line that started so copies to this node: as a copy at this version, or as a settle, when the node was a replica
abbrev pub StartsJob : Past → ℕ → ℕ → Option Event → Type 0
StartsJob start n v (Some (Copying m w)) = (m.0 ≡ n) × (w.0 ≡ v)
StartsJob start n v (Some (Settling w)) = IsReplica start n
StartsJob start n v e = ⊥

-- the job that runs, if one does, is for an older version
abbrev pub IsOlder : ℕ → Option Job → Type 0
IsOlder v None = ⊤
IsOlder v (Some job) = job.version.0 < v

-- a job of a line begins: the line is open and copies to the node, neither that nor the primary has crashed since its
-- start, the version is the newest, and the job that runs at the node is for an older one
pub record MayBeginJob (size : ℕ) (log : Log) (at : At) (n v : ℕ) : Type 0 where
  pub node : IsNode size n
  pub is_open : open_line at (printed log) ≢ None
  pub started : StartsJob (before_start at (printed log)) n v (start_entry at (printed log))
  pub newest : v ≡ newest_version (printed log)
  pub survives : NodeSurvives (printed log) at n
  pub source : SourceSurvives (printed log) at
  pub older : IsOlder v (job_at n log)

-- the fault that makes this of a file for the node stands there, of the line
abbrev pub FollowsFault : Fate → At → ℕ → Past → Type 0
FollowsFault Whole at n past = ⊤
FollowsFault Fail at n past = has_fault (λ m. m == n) (same_kind Link) at past ≡ true
FollowsFault (DamageFate byte) at n past = has_fault (λ m. m == n) (same_kind Damage) at past ≡ true

-- an entry of inner work comes in its turn
abbrev pub IsInside : ℕ → Log → Inner → Type 0
IsInside size log (JobBegun line n number (Some v) (Some at)) = (line ≡ at.line) × MayBeginJob size log at n.0 v.0
IsInside size log (FileOut line n number name source fate (Some at)) = FollowsFault fate at n.0 (printed log)
IsInside size log i = ⊤

-- each entry of inner work came in its turn
abbrev pub AreInside : ℕ → Log → Type 0
AreInside size [] = ⊤
AreInside size (Kept i ∷ log) = IsInside size log i × AreInside size log
AreInside size (m ∷ log) = AreInside size log

-- a line that started so may be refused as cancelled by a job for this version
abbrev pub IsCancelled : ℕ → Past → At → Version → Option Event → Type 0
IsCancelled size past at v None = ⊥
IsCancelled size past at v (Some begun) = MayCancel size past at (before_start at past) begun v

-- what the log shows of the last job that a lane began: its line copies to the node, for a version that its start did not
-- pass; while the primary has not crashed that is of the present generation; where the job was overtaken, and the node has
-- not crashed either, its line may be cancelled
pub record LaneJobShows (size : ℕ) (past : Past) (row : JobRow) : Type 0 where
  pub node : IsNode size row.job.node.0
  pub started : StartsJob (before_start row.job.at past) row.job.node.0 row.job.version.0 (start_entry row.job.at past)
  pub newest : newest_version (before_start row.job.at past) ≤ row.job.version.0
  pub before : length (before_start row.job.at past) ≤ row.before
  pub made : SourceSurvives past row.job.at → 1 < row.job.version.0 → is_made_in_generation row.job.version.0 past ≡ true
  pub later : (v : Version) → row.later ≡ Some v → NodeSurvives past row.job.at row.job.node.0 → SourceSurvives past row.job.at
      → IsCancelled size past row.job.at v (start_entry row.job.at past)

-- A job that began behind so many printed entries: its node runs, and a primary does, as long as neither has crashed since.
pub record JobRests (past : Past) (n before : ℕ) : Type 0 where
  pub low : before ≤ length past
  pub node : nat_le (crashed_at n past) before ≡ true → is_running n past ≡ true
  pub source : nat_le (primary_crashed past) before ≡ true → primary_of past ≢ None

-- entries of inner work came in their turn, and what is remembered of jobs is what they show
pub record HoldsJobs (size : ℕ) (log : Log) (nodes lanes : List KeyedJob) : Type 0 where
  pub turns : AreInside size log
  pub nodes_tell : (k : ℕ) → row_under nodes k ≡ last_job false k log
  pub lanes_tell : (k : ℕ) → row_under lanes k ≡ last_job true k log
