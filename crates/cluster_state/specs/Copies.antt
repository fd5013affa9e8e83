-- What copies hand out, take back and end with.
use Rattle.std.specs.Prelude.{ℕ, ◌≡◌, ◌≢◌, ◌<◌, List, [], ◌∷◌, false, not, Bool, true, Option, Some, None, ⊤, ◌⊎◌}
use Rattle.std.specs.List.{filter}
use Rattle.nrt_base.specs.declared.numbers.At.{At}
use Rattle.nrt_base.specs.declared.numbers.NodeNo.{NodeNo}
use Rattle.nrt_base.specs.declared.numbers.Version.{Version}
use Rattle.disk_model.specs.Disk.{Name, same, is_among}
use Rattle.codec_frame.specs.Checking.{HasFooter}
use Rattle.copy_state.specs.Meta.{IsMetaOf}
use Rattle.history_rules.specs.declared.entry.Event.{Event}
use Rattle.history_rules.specs.declared.entry.Event.TheVariants.{Copying, Switched, Copied, Refused}
use Rattle.history_rules.specs.declared.cause.Cause.{Cause}
use Rattle.history_rules.specs.declared.cause.Cause.TheVariants.{DiskFault}
use Rattle.history_rules.specs.Nodes.{Past, generation_of, newest_version}
use Rattle.history_rules.specs.Lines.{start_entry, highest_switched, NodeSurvives, SourceSurvives}
use Rattle.history_rules.specs.Started.{is_copy}
use Rattle.history_tables.specs.declared.jobs.JobRow.{JobRow}
use Rattle.history_tables.specs.declared.jobs.Job.{Job}
use Rattle.history_tables.specs.Begins.{open_line}
use Rattle.history_book.specs.Log.{Log, printed, shown, kept}
use Rattle.history_book.specs.Jobs.{job_of}
use Rattle.history_book.specs.declared.inner.Inner.TheVariants.{JobBegun, JobEnd}
use Rattle.cluster_nodes.specs.declared.tasks.CopyTask.{CopyTask}
use Rattle.cluster_nodes.specs.declared.tasks.FileTask.{FileTask}
use Rattle.merge_tasks.specs.Fates.{fate_due}
use Rattle.cluster_state.specs.DueFaults.{MeetsFate, handed_log}
use Rattle.cluster_state.specs.Run.{JobFiles, Run, files_at, IsNow}
use Rattle.cluster_state.specs.GivesUp.{met_log, disk_failed, PrimaryFails}

-- the newest version
abbrev pub newest_of : Past → Version
newest_of past = record { 0 = newest_version past }

-- A line copies by this job: the line has no reply, the job is the last one of its lane and has no end, and the line has switched
-- no node as high.
pub record IsCopying (at : At) (log : Log) (task : CopyTask) : Type 0 where
  pub row : JobRow
  pub last : job_of at.lane.0 log ≡ Some row
  pub at_is : row.job.at ≡ at
  pub node : row.job.node ≡ task.node
  pub number : row.job.number ≡ task.job
  pub line : task.line ≡ at.line
  pub unended : row.ended ≡ false
  pub is_open : open_line at (printed log) ≢ None
  pub ordered : highest_switched at (printed log) < task.node.0

-- the last job of a lane runs: it has no end, no later one began at its node, and neither that nor the source has crashed since
-- the line's start
pub record JobRuns (log : Log) (row : JobRow) : Type 0 where
  pub last : job_of row.job.at.lane.0 log ≡ Some row
  pub unended : row.ended ≡ false
  pub alone : row.later ≡ None
  pub survives : NodeSurvives (printed log) row.job.at row.job.node.0
  pub source : SourceSurvives (printed log) row.job.at

-- A job of this generation that begins takes over what the one before it has brought over, where the node had seen the generation: it
-- lacks none of these files. The node has seen it now.
pub record TakesOver (generation : ℕ) (old new : JobFiles) : Type 0 where
  pub seen : new.seen ≡ generation
  pub takes : old.seen ≡ generation → (q : Name) → is_among old.brought q ≡ true → is_among new.missing q ≡ false

-- a job of the newest version began for the line at the node, behind these entries, and runs; the line copies by it, and the job took
-- over what the one before it had brought over
pub record BeginsJob (at : At) (n : NodeNo) (old new : Run) (log : Log) (task : CopyTask) : Type 0 where
  pub now : IsNow old new (kept (JobBegun at.line n task.job (Some (newest_of (printed old.log))) (Some at)) ∷ log)
  pub node : task.node ≡ n
  pub copying : IsCopying at new.log task
  pub runs : JobRuns new.log copying.row
  pub takes : TakesOver (generation_of (printed old.log)) (files_at n.0 old) (files_at n.0 new)

-- the name is the first of these
abbrev pub IsFirstOf : List Name → Name → Type 0
IsFirstOf [] q = ⊥
IsFirstOf (p ∷ ps) q = p ≡ q

-- a file was handed out to the job, the first that it lacks, with its metadata and what becomes of it, behind the faults that were met; it
-- ends in a footer
pub record HandsFile (job : Job) (old new : Run) (file : FileTask) : Type 0 where
  pub now : IsNow old new (handed_log job file (met_log job.at old new))
  pub fate : file.fate ≡ fate_due job.node.0 (met_log job.at old new)
  pub met : MeetsFate file.fate job.at job.node.0 (printed new.log)
  pub first : IsFirstOf (files_at job.node.0 old).missing file.name
  pub files : files_at job.node.0 new ≡ files_at job.node.0 old
  pub meta : IsMetaOf file.source file.meta
  pub footer : HasFooter file.source

-- a job lacks a file no more, which it has brought over where it lacked it; what it had it has still
pub record BringsFile (name : Name) (old new : JobFiles) : Type 0 where
  pub seen : new.seen ≡ old.seen
  pub missing : new.missing ≡ filter (λ q. not (same q name)) old.missing
  pub brought : is_among old.missing name ≡ true → is_among new.brought name ≡ true
  pub stays : (q : Name) → is_among old.brought q ≡ true → is_among new.brought q ≡ true

-- the line started as a copy
abbrev pub is_copy_start : Option Event → Bool
is_copy_start None = false
is_copy_start (Some begun) = is_copy begun

-- the node switched to the job's version, and the job has ended; where its line is a copy, that has its reply
abbrev pub ended_log : Job → Option Event → Log → Log
ended_log job (Some (Copying n v)) log =
    kept (JobEnd job.at.line job.node job.number) ∷ shown job.at (Copied n v) ∷ shown job.at (Switched job.node job.version) ∷ log
ended_log job begun log = kept (JobEnd job.at.line job.node job.number) ∷ shown job.at (Switched job.node job.version) ∷ log

-- a job goes on: the next file is handed out, or none is missing and it has ended, behind the faults of disks that it met
abbrev pub GoesOn : Job → Run → Run → Option FileTask → Type 0
GoesOn job old new (Some file) = HandsFile job old new file
GoesOn job old new None = IsNow old new (ended_log job (start_entry job.at (printed old.log)) (met_log job.at old new))

-- where the cause is a disk, that of the primary or of the node failed in this very call
abbrev pub FailsFor : NodeNo → Cause → Run → Run → Type 0
FailsFor n DiskFault old new = PrimaryFails old new ⊎ (disk_failed n.0 old new ≡ true)
FailsFor n cause old new = ⊤

-- the line of a job was refused for this cause, behind the faults of disks that it met, and the job has ended; its node keeps the files that
-- it has brought over for the next one
pub record JobRefused (job : Job) (cause : Cause) (old new : Run) : Type 0 where
  pub now : IsNow old new (kept (JobEnd job.at.line job.node job.number) ∷ shown job.at (Refused cause) ∷ met_log job.at old new)
  pub files : files_at job.node.0 new ≡ files_at job.node.0 old
  pub failed : FailsFor job.node cause old new

-- a line was refused as the disk of its source failed in this call, behind these entries: no job began at the node, and the one that is there
-- has the files that it had
pub record BeginsNoJob (at : At) (n : NodeNo) (old new : Run) (log : Log) : Type 0 where
  pub now : IsNow old new (shown at (Refused DiskFault) ∷ log)
  pub files : files_at n.0 new ≡ files_at n.0 old
  pub failed : PrimaryFails old new
