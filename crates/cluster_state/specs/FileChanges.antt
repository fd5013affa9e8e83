-- What entries leave of the jobs and of the commits that the log shows.
use Rattle.std.specs.Prelude.{ℕ, ◌≡◌, ◌≢◌, ◌≤◌, ◌==◌, List, Bool, true, false, not, Option, Some, None}
use Rattle.nrt_base.specs.declared.numbers.At.{At}
use Rattle.disk_model.specs.Disk.{Name}
use Rattle.history_rules.specs.declared.entry.Event.{Event}
use Rattle.history_rules.specs.declared.entry.Event.TheVariants.{Copying, Switched, Committing, Committed, Crashed, Reopened, Promoted}
use Rattle.history_rules.specs.Nodes.{newest_version, version_of}
use Rattle.history_rules.specs.Lines.{start_entry, before_start, copy_in_flight}
use Rattle.history_rules.specs.Commits.{is_passed}
use Rattle.history_tables.specs.declared.jobs.Job.{Job}
use Rattle.history_book.specs.Log.{Log, printed}
use Rattle.history_book.specs.declared.inner.Inner.{Inner}
use Rattle.history_book.specs.declared.inner.Inner.TheVariants.{JobBegun, FileOut, JobEnd}
use Rattle.history_book.specs.Jobs.{job_at}
use Rattle.merge_tasks.specs.TaskLog.{carried_out}
use Rattle.cluster_state.specs.FilesOut.{file_out}
use Rattle.cluster_state.specs.Disks.{PointsStay}

-- the entry leaves what the log shows of the job at a replica: it starts no copy to it and does not switch it, and nothing crashes or
-- is promoted
abbrev pub keeps_jobs : Event → ℕ → Bool
keeps_jobs (Copying m v) n = not (m.0 == n)
keeps_jobs (Switched m v) n = not (m.0 == n)
keeps_jobs (Reopened m v) n = not (m.0 == n)
keeps_jobs (Crashed m) n = false
keeps_jobs (Promoted m g f v) n = false
keeps_jobs e n = true

-- the line started as a commit
abbrev pub is_commit_line : Option Event → Bool
is_commit_line (Some (Committing n v)) = true
is_commit_line e = false

-- the entry starts no commit of the node and ends none, and neither does the node crash nor reopen
abbrev pub keeps_commits : Event → ℕ → Bool
keeps_commits (Committing m v) n = not (m.0 == n)
keeps_commits (Committed m v) n = not (m.0 == n)
keeps_commits (Crashed m) n = not (m.0 == n)
keeps_commits (Reopened m v) n = not (m.0 == n)
keeps_commits e n = true

-- the entry of inner work is about no job at the node
abbrev pub leaves_job : Inner → ℕ → Bool
leaves_job (JobBegun line m number v by) n = not (m.0 == n)
leaves_job (FileOut line m number name source fate by) n = not (m.0 == n)
leaves_job (JobEnd line m number) n = not (m.0 == n)
leaves_job i n = true

-- no more was handed out of merged files
abbrev pub CarriesNoMore : Log → Log → Type 0
CarriesNoMore log now = (q : Name) (bytes : List ℕ) → carried_out q now ≡ Some bytes → carried_out q log ≡ Some bytes

-- what the log shows of the job at a node is what it showed: no copy to the node came, and of the newest version none that was not in flight
pub record SameJob (log now : Log) (n : ℕ) : Type 0 where
  pub job : job_at n now ≡ job_at n log
  pub points : PointsStay (printed log) (printed now)
  pub latest : (v : ℕ) → is_passed n v (printed log) ≡ false → is_passed n v (printed now) ≡ false
  pub version : version_of n (printed now) ≡ version_of n (printed log)
  pub start : (job : Job) → job_at n log ≡ Some job → start_entry job.at (printed log) ≢ None
      → (start_entry job.at (printed now) ≢ None) × (before_start job.at (printed now) ≡ before_start job.at (printed log))
  pub flight : (at : At) → copy_in_flight n (newest_version (printed now)) (printed now) ≡ Some at
      → (copy_in_flight n (newest_version (printed log)) (printed log) ≡ Some at) × (newest_version (printed now) ≡ newest_version (printed log))
  pub handed : (job : Job) (q : Name) → job_at n log ≡ Some job → file_out job.at n job.number q now ≡ file_out job.at n job.number q log
