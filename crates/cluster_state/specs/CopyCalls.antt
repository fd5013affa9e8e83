-- What the calls of lines that copy and settle do: the entries that they add, and what they hand out.
use Rattle.std.specs.Prelude.{ℕ, ◌≡◌, ◌≢◌, ◌≤◌, ◌<◌, ◌∷◌, ◌==◌, Bool, true, false, not, if◌then◌else◌, List, Option, Some, None, IsSomeAnd, ⊤, ◌⊎◌}
use Rattle.std.specs.List.{All}
use Rattle.nrt_base.specs.declared.numbers.At.{At}
use Rattle.nrt_base.specs.declared.numbers.NodeNo.{NodeNo}
use Rattle.nrt_base.specs.declared.numbers.Version.{Version}
use Rattle.link_model.specs.declared.fate.Fate.TheVariants.{Whole}
use Rattle.history_rules.specs.declared.cause.Cause.{Cause}
use Rattle.history_rules.specs.declared.cause.Cause.TheVariants.{Lost, Cancelled, DiskFault}
use Rattle.history_rules.specs.declared.entry.Event.{Event}
use Rattle.history_rules.specs.declared.entry.Event.TheVariants.{Copying, Copied, Settling, Settled, Refused}
use Rattle.history_rules.specs.Legal.{KeepsRule}
use Rattle.history_rules.specs.Nodes.{Past, IsNode, IsReplica, primary_of, crashes, newest_version, version_of}
use Rattle.history_rules.specs.Lines.{before_start, highest_switched}
use Rattle.history_rules.specs.Started.{is_lost}
use Rattle.history_tables.specs.declared.jobs.Job.{Job}
use Rattle.history_tables.specs.declared.jobs.JobRow.{JobRow}
use Rattle.history_tables.specs.Begins.{open_line}
use Rattle.history_book.specs.Log.{Log, printed, shown}
use Rattle.history_book.specs.Told.{IsSo}
use Rattle.history_book.specs.Jobs.{job_at, job_of, IsOlder}
use Rattle.script_serving.specs.declared.script.LineCommand.{LineCommand}
use Rattle.script_serving.specs.declared.script.LineCommand.TheVariants.{Copy, Settle}
use Rattle.script_serving.specs.Refusals.{refusal}
use Rattle.cluster_nodes.specs.declared.tasks.CopyTask.{CopyTask}
use Rattle.cluster_nodes.specs.declared.tasks.FileTask.{FileTask}
use Rattle.cluster_nodes.specs.declared.tasks.SettleTask.{SettleTask}
use Rattle.cluster_state.specs.Run.{Run, files_at, IsNow}
use Rattle.cluster_state.specs.Copies.{newest_of, JobRuns, BeginsJob, BeginsNoJob, BringsFile, GoesOn, JobRefused}
use Rattle.cluster_state.specs.DueFaults.{fate_cause}
use Rattle.cluster_state.specs.GivesUp.{met_log}
use Rattle.cluster_state.specs.Settles.{IsSettling, WaitsFor}
use Rattle.cluster_state.specs.declared.standing.Standing.{Standing}
use Rattle.cluster_state.specs.declared.standing.Standing.TheVariants.{Runs, Passed, Ends}
use Rattle.cluster_state.specs.declared.turn.Turn.{Turn}
use Rattle.cluster_state.specs.declared.turn.Turn.TheVariants.{Work, Done, Busy}
use Rattle.cluster_state.specs.Calls.{LineRefused, IsRefusedFor}

-- a line that has started so asks for copies
abbrev pub CopiesFor : LineCommand → Option Event → Type 0
CopiesFor (Copy n) (Some (Copying m v)) = m ≡ n
CopiesFor Settle (Some (Settling v)) = ⊤
CopiesFor command begun = ⊥

-- ---- copies

-- the entries before those of a copy's end: it started, behind the faults of disks that it met
abbrev pub copying_log : At → NodeNo → Run → Run → Log
copying_log at n old new = shown at (Copying n (newest_of (printed old.log))) ∷ met_log at old new

-- a copy had nothing to do where its node searches the newest version, or else the disk of its source failed
abbrev pub CopyEnds : Bool → At → NodeNo → Run → Run → Type 0
CopyEnds true at n old new = IsNow old new (shown at (Copied n (newest_of (printed old.log))) ∷ shown at (Copying n (newest_of (printed old.log))) ∷ old.log)
CopyEnds false at n old new = BeginsNoJob at n old new (copying_log at n old new)

-- a copy was refused for the cause that holds, or it ended at once
abbrev pub CopyAnswered : At → NodeNo → Option Cause → Run → Run → Type 0
CopyAnswered at n (Some cause) old new = LineRefused at cause old new
CopyAnswered at n None old new = CopyEnds (version_of n.0 (printed old.log) == newest_version (printed old.log)) at n old new

-- the job that runs at the node is not for an older version than the newest
abbrev pub IsUpToDate : ℕ → Log → Type 0
IsUpToDate n log = IsOlder (newest_version (printed log)) (job_at n log) → ⊥

-- a copy starts: a job begins, it is answered at once, or waits while a job for the newest version runs at the node
abbrev pub CopyStarts : At → NodeNo → Run → Run → Turn CopyTask → Type 0
CopyStarts at n old new (Work task) = BeginsJob at n old new (copying_log at n old new) task
CopyStarts at n old new Done = CopyAnswered at n (refusal (Copy n) at.lane.0 (printed old.log)) old new
CopyStarts at n old new Busy = (new ≡ old) × IsUpToDate n.0 old.log

-- this is the source of a copy to the node, which is not refused
pub record IsSourceFor (n : NodeNo) (r : Run) (p : NodeNo) : Type 0 where
  pub node : IsNode r.nodes p.0
  pub primary : primary_of (printed r.log) ≡ Some p
  pub replica : IsReplica (printed r.log) n.0
  pub unrefused : (lane : ℕ) → refusal (Copy n) lane (printed r.log) ≡ None

-- a job for the newest version runs at the node
abbrev pub IsBeingCopied : Log → ℕ → Type 0
IsBeingCopied log n = IsSomeAnd (job_at n log) (λ job. job.version.0 ≡ newest_version (printed log))

-- none runs there
abbrev pub IsNotBeingCopied : Log → ℕ → Type 0
IsNotBeingCopied log n = IsBeingCopied log n → ⊥

-- the copy is not refused, and its node is behind the newest version
pub record IsBehind (at : At) (n : NodeNo) (past : Past) : Type 0 where
  pub unrefused : refusal (Copy n) at.lane.0 past ≡ None
  pub behind : version_of n.0 past < newest_version past

-- When a copy starts so: a job begins and it waits only at a node that is behind; it waits exactly where a job for the newest version
-- runs there, and does not end where it would wait.
abbrev pub CopyStartsWhen : At → NodeNo → Log → Turn CopyTask → Type 0
CopyStartsWhen at n log (Work task) = IsBehind at n (printed log) × IsNotBeingCopied log n.0
CopyStartsWhen at n log Done = IsBehind at n (printed log) → IsNotBeingCopied log n.0
CopyStartsWhen at n log Busy = IsBehind at n (printed log) × IsBeingCopied log n.0

-- ---- jobs

-- the job is the last one of its lane and has no end; its line has no reply, and has switched no node as high
pub record IsOpenJob (log : Log) (row : JobRow) : Type 0 where
  pub last : job_of row.job.at.lane.0 log ≡ Some row
  pub unended : row.ended ≡ false
  pub is_open : open_line row.job.at (printed log) ≢ None
  pub ordered : highest_switched row.job.at (printed log) < row.job.node.0

-- the node of a job has crashed since the start of its line
abbrev pub is_node_lost : Past → Job → Bool
is_node_lost past job = not (crashes job.node.0 past == crashes job.node.0 (before_start job.at past))

-- where a job stands that a later one may have overtaken
abbrev pub overtaken : Option Version → Standing
overtaken None = Runs
overtaken (Some v) = Ends (Cancelled v)

-- where a job stands whose line started so: the line is lost; or a settle passes the node, which has crashed; or a later job has
-- overtaken it; or it runs
abbrev pub standing_of : Event → JobRow → Past → Standing
standing_of begun row past =
    if is_lost past (before_start row.job.at past) begun then Ends Lost
    else if is_node_lost past row.job then Passed
    else overtaken row.later

-- where its line is refused, that keeps the rule
abbrev pub MayEnd : ℕ → Past → At → Standing → Type 0
MayEnd size past at (Ends cause) = KeepsRule size past at (Refused cause)
MayEnd size past at standing = ⊤

-- and tells what is so
abbrev pub TellsEnd : Log → At → Standing → Type 0
TellsEnd log at (Ends cause) = IsSo log at (Refused cause)
TellsEnd log at standing = ⊤

-- the log behind a job that does not go on, where it does not
abbrev pub log_after : At → Standing → Log → Option Log
log_after at Runs log = None
log_after at Passed log = Some log
log_after at (Ends cause) log = Some (shown at (Refused cause) ∷ log)

-- so it is for a job whose line started so
abbrev pub stopped_log : Event → JobRow → Log → Option Log
stopped_log begun row log = log_after row.job.at (standing_of begun row (printed log)) log

-- a job runs, and all is as before
pub record RunsOn (row : JobRow) (old new : Run) : Type 0 where
  pub now : IsNow old new old.log
  pub runs : JobRuns old.log row

-- a job was stopped, and this is the log now; or it runs, and all is as before
abbrev pub Stops : Option Log → JobRow → Run → Run → Bool → Type 0
Stops (Some log) row old new stopped = (stopped ≡ true) × IsNow old new log
Stops None row old new stopped = (stopped ≡ false) × RunsOn row old new

-- the job was stopped, and this is the log now
abbrev pub StopsTurn : {W : Type 0} → Log → Run → Run → Turn W → Type 0
StopsTurn log old new turn = (turn ≡ Done) × IsNow old new log

-- a job that runs goes on: the next file is handed out, or none is missing and it has ended, or a disk failed
abbrev pub JobGoesOn : Job → Run → Run → Turn FileTask → Type 0
JobGoesOn job old new (Work file) = GoesOn job old new (Some file)
JobGoesOn job old new Done = GoesOn job old new None ⊎ JobRefused job DiskFault old new
JobGoesOn job old new Busy = ⊥

-- the next step of a job: it was stopped, or it goes on
abbrev pub JobSteps : Option Log → Job → Run → Run → Turn FileTask → Type 0
JobSteps (Some log) job old new turn = StopsTurn log old new turn
JobSteps None job old new turn = JobGoesOn job old new turn

-- a job that runs has the file now, which came whole, and nothing was added but the faults of disks that were met; or its line is refused, for
-- what became of the file or for the disk of its node
abbrev pub JobTakes : Job → FileTask → Run → Run → Turn (Unit {0}) → Type 0
JobTakes job file old new (Work done) = (file.fate ≡ Whole) × IsNow old new (met_log job.at old new) × BringsFile file.name (files_at job.node.0 old) (files_at job.node.0 new)
JobTakes job file old new Done = JobRefused job (fate_cause file.fate file.name) old new
JobTakes job file old new Busy = ⊥

-- a part of a file arrives, or what kept it back: its job was stopped, or takes it
abbrev pub PartArrives : Job → FileTask → Option Log → Run → Run → Turn (Unit {0}) → Type 0
PartArrives job file (Some log) old new turn = StopsTurn log old new turn
PartArrives job file None old new turn = JobTakes job file old new turn

-- none of these nodes is below this one
abbrev pub AreFrom : NodeNo → List NodeNo → Type 0
AreFrom n nodes = All (λ m. n.0 ≤ m.0) nodes

-- ---- settles

-- a settle starts at the newest version, or no primary runs
abbrev pub SettleStarts : At → Run → Run → Turn SettleTask → Type 0
SettleStarts at old new (Work task) = IsNow old new (shown at (Settling (newest_of (printed old.log))) ∷ old.log)
    × IsSettling new.nodes (printed new.log) at task × (refusal Settle at.lane.0 (printed old.log) ≡ None)
SettleStarts at old new Done = IsRefusedFor at (refusal Settle at.lane.0 (printed old.log)) old new
SettleStarts at old new Busy = ⊥

-- how a settle ends: it is lost exactly where its source has crashed since its start
abbrev pub settle_end_event : At → Version → Past → Event
settle_end_event at v past = if is_lost past (before_start at past) (Settling v) then Refused Lost else Settled v

-- a settle waits for this node, while its source runs on
pub record SettleWaits (at : At) (left : SettleTask) (old : Run) (n : NodeNo) : Type 0 where
  pub unlost : is_lost (printed old.log) (before_start at (printed old.log)) (Settling left.version) ≡ false
  pub waits : WaitsFor old.nodes (printed old.log) at left.version.0 n
  pub first : AreFrom n left.left.items

-- the line of a settle is answered
abbrev pub SettleEnds : At → Run → Run → SettleTask → Type 0
SettleEnds at old new left = (e : Event) × IsNow old new (shown at e ∷ old.log) × (e ≡ settle_end_event at left.version (printed old.log))

-- a settle was refused as the disk of its source failed, where a job was to begin at the first replica that it waits for
pub record SettleFails (at : At) (old new : Run) (left : SettleTask) : Type 0 where
  pub n : NodeNo
  pub begins : BeginsNoJob at n old new (met_log at old new)
  pub waits : SettleWaits at left old n
  pub free : IsNotBeingCopied old.log n.0

-- a settle goes on: the job of the first replica that it waits for begins, where none for the newest version runs there, or it waits
-- while one does, or its line is answered, or a disk failed
abbrev pub SettleGoesOn : At → Run → Run → SettleTask → Turn CopyTask → Type 0
SettleGoesOn at old new left (Work task) = BeginsJob at task.node old new (met_log at old new) task × IsSettling new.nodes (printed new.log) at left × SettleWaits at left old task.node
    × IsNotBeingCopied old.log task.node.0
SettleGoesOn at old new left Done = SettleEnds at old new left ⊎ SettleFails at old new left
SettleGoesOn at old new left Busy = (new ≡ old) × ((n : NodeNo) × IsUpToDate n.0 old.log × IsBeingCopied old.log n.0 × SettleWaits at left old n)

-- while the line has no reply it settles on with what was left
abbrev pub SettlesOn : At → SettleTask → Run → Type 0
SettlesOn at left r = open_line at (printed r.log) ≢ None → IsSettling r.nodes (printed r.log) at left
