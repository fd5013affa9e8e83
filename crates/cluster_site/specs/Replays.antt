-- What a promotion accepts again: the records of the log that its point lacks.
use Rattle.std.specs.Prelude.{ℕ, ◌≡◌, ◌≢◌, ◌+◌, ◌∷◌, Bool, List, [], true, ⊤, Option, Some, None, drop, length}
use Rattle.nrt_base.specs.declared.numbers.At.{At}
use Rattle.nrt_base.specs.declared.numbers.NodeNo.{NodeNo}
use Rattle.documents.specs.declared.operation.Op.{Op}
use Rattle.history_rules.specs.declared.entry.Event.{Event}
use Rattle.history_rules.specs.declared.entry.Event.TheVariants.{Accepted, Promoted}
use Rattle.history_rules.specs.Nodes.{Past, primary_of, accepted_count}
use Rattle.history_rules.specs.Lines.{is_answered, start_entry}
use Rattle.history_rules.specs.Points.{operations_at}
use Rattle.history_book.specs.Log.{Log, printed, shown}
use Rattle.script_serving.specs.declared.script.Force.{Force}
use Rattle.script_serving.specs.declared.script.LineCommand.TheVariants.{Promote}
use Rattle.script_serving.specs.Replays.{logged_operations, replay_due, due}
use Rattle.script_serving.specs.Serves.{is_newest_at}
use Rattle.trans_log.specs.declared.record.LogOp.{LogOp}
use Rattle.lane_threads.specs.Owes.{GoesByLine}
use Rattle.disk_model.specs.Disk.{Cells}
use Rattle.script_serving.specs.Refusals.{refusal}
use Rattle.cluster_state.specs.Run.{Run, IsNow}
use Rattle.cluster_state.specs.GivesUp.{met_log}
use Rattle.cluster_core.specs.Given.{PromoteTells, promote_event}
use Rattle.cluster_site.specs.Sites.{operations_in}

-- the version of the point that an event promotes a node to
abbrev pub version_promoted : Event → Option ℕ
version_promoted (Promoted n g f v) = Some v.0
version_promoted e = None

-- the same of the newest entry
abbrev pub newest_promoted : Past → Option ℕ
newest_promoted [] = None
newest_promoted (e ∷ past) = version_promoted e.event

-- these are the records that the point of the newest promotion lacks
abbrev pub LacksBehind : List LogOp → Past → Option ℕ → List LogOp → Type 0
LacksBehind records past None found = ⊥
LacksBehind records past (Some v) found = found ≡ drop (length (operations_at past v)) records

-- the records to accept again: none where there is no log, or the newest entry is no promotion
abbrev pub Lacks : Option (List LogOp) → Past → Option (List LogOp) → Type 0
Lacks None past found = found ≡ None
Lacks (Some records) past None = newest_promoted past ≡ None
Lacks (Some records) past (Some found) = LacksBehind records past (newest_promoted past) found

-- the line may accept again: its reply is the newest entry, it has no start entry, and a primary runs
pub record MayAcceptAgain (at : At) (past : Past) : Type 0 where
  pub newest : is_newest_at at past ≡ true
  pub replied : is_answered at past ≡ true
  pub begun : start_entry at past ≡ None
  pub primary : primary_of past ≢ None

-- behind a promotion the line may accept again what these records have beyond the point's operations, and just this is due
abbrev pub OwesRecords : At → Past → List LogOp → Option ℕ → Type 0
OwesRecords at past records None = ⊤
OwesRecords at past records (Some v) = MayAcceptAgain at past × (replay_due past ≡ operations_in (drop (length (operations_at past v)) records))

-- so it is where there is a log
abbrev pub OwesLacking : At → Past → Option (List LogOp) → Type 0
OwesLacking at past None = ⊤
OwesLacking at past (Some records) = OwesRecords at past records (newest_promoted past)

-- the log once the line has accepted these operations behind it, each numbered one above the last
abbrev pub with_accepted : At → List Op → Log → Log
with_accepted at [] log = log
with_accepted at (op ∷ ops) log = with_accepted at ops (shown at (Accepted (accepted_count (printed log) + 1) op) ∷ log)

-- the log once the line has accepted behind it all that is due to be accepted again
abbrev pub with_replay : At → Bool → Log → Log
with_replay at logged log = with_accepted at (due logged (printed log)) log

-- the log with what a line does that promotes a node, behind the faults of disks that were met from the one to the other, and all that is then
-- due to be accepted again
abbrev pub with_promotion : At → NodeNo → Force → Bool → Run → Run → Log
with_promotion at n force logged old new = with_replay at logged (shown at (promote_event at.lane.0 n force (printed old.log)) ∷ met_log at old new)

-- What callers are told beside the log, behind a line that promotes a node at a cluster that may have a log: just what they are told behind the
-- promotion alone, as operations that are accepted again change none of it.
pub record PromotesThen {D : Type 0} (cells : D → Cells) (at : At) (n : NodeNo) (force : Force) (old new : Run) : Type 0 where
  pub mid : Run
  pub behind : IsNow old mid (shown at (promote_event at.lane.0 n force (printed old.log)) ∷ met_log at old mid)
  pub tells : PromoteTells cells (refusal (Promote n force) at.lane.0 (printed old.log)) n.0 old mid
  pub rest : new.rest ≡ mid.rest

-- since this log the line of a promotion has accepted again, and these operations are left of what was due there
pub record ReplaysTo (at : At) (base now : Log) (left : List Op) : Type 0 where
  pub may : MayAcceptAgain at (printed now)
  pub due : replay_due (printed now) ≡ left
  pub whole : with_accepted at left now ≡ with_replay at true base
  pub logged : logged_operations (printed now) ≡ logged_operations (printed base)
  pub goes : (n : NodeNo) (force : Force) → GoesByLine true (Promote n force) at base now

-- the line has accepted again what was due behind a promotion; without one nothing changed
abbrev pub AcceptsRecords : At → Log → Log → Option ℕ → Type 0
AcceptsRecords at old new None = new ≡ old
AcceptsRecords at old new (Some v) = ReplaysTo at old new []

-- so it has where there is a log
abbrev pub AcceptsLacking : At → Log → Log → Option (List LogOp) → Type 0
AcceptsLacking at old new None = new ≡ old
AcceptsLacking at old new (Some records) = AcceptsRecords at old new (newest_promoted (printed old))
