-- A cluster and the log of what it accepts: what callers see of both, what is true of them, and what a call does.
use Rattle.std.specs.Prelude.{◌≡◌, ◌+◌, List, [], ◌∷◌, ◌++◌, Bool, false, if◌then◌else◌, Option, Some, None, ⊤, map, is_some}
use Rattle.nrt_base.specs.declared.numbers.At.{At}
use Rattle.documents.specs.declared.operation.Op.{Op}
use Rattle.disk_model.specs.Disk.{Cells}
use Rattle.disk_model.specs.Faults.{Plans}
use Rattle.history_rules.specs.Nodes.{Past, accepted_count, generation_of, primary_of}
use Rattle.history_book.specs.Log.{printed, name_by}
use Rattle.script_serving.specs.declared.script.LineCommand.{LineCommand}
use Rattle.script_serving.specs.Replays.{logged_operations, replay_due}
use Rattle.trans_log.specs.declared.record.LogOp.{LogOp}
use Rattle.trans_log.specs.declared.log.TransLog.{TransLog}
use Rattle.trans_log.specs.Logs.{IsOpenLog, IsLogSafe, IsCalm}
use Rattle.lane_threads.specs.Owes.{GoesByLine, GoesByTask, FaultsFit}
use Rattle.lane_threads.specs.Idle.{TellsNone}
use Rattle.lane_threads.specs.Firsts.{TellsFirst}
use Rattle.cluster_state.specs.Run.{Run}

-- what callers see: the cluster, and the records of its log where it has one
pub record SiteRun : Type 0 where
  pub run : Run
  pub kept : Option (List LogOp)

-- it has a log
abbrev pub is_logged : SiteRun → Bool
is_logged s = is_some s.kept

-- the operations of records
abbrev pub operations_in : List LogOp → List Op
operations_in records = map (λ (r : LogOp). r.op) records

-- these records have just the operations that were accepted as replies, in order, and nothing is left to accept again
pub record AreLogged (records : List LogOp) (past : Past) : Type 0 where
  pub operations : operations_in records ≡ logged_operations past
  pub replayed : replay_due past ≡ []

-- so it is where there is a log
abbrev pub IsInStep : Option (List LogOp) → Past → Type 0
IsInStep None past = ⊤
IsInStep (Some records) past = AreLogged records past

-- the records of a log, where there is one
abbrev pub records_of : {D : Type 0} → Option (TransLog D) → Option (List LogOp)
records_of None = None
records_of (Some l) = Some l.records.items

-- the records with one more, where there is a log
abbrev pub with_record : LogOp → Option (List LogOp) → Option (List LogOp)
with_record r None = None
with_record r (Some records) = Some (records ++ r ∷ [])

-- the record of an operation that is accepted next: with the generation and the number of its entry
abbrev pub next_record : Op → Past → LogOp
next_record op past = record { generation = record { 0 = generation_of past }; seq = accepted_count past + 1; op = op }

-- the records behind a line that writes: one more where a primary runs
abbrev pub with_next : Op → Past → Option (List LogOp) → Option (List LogOp)
with_next op past kept = if is_some (primary_of past) then with_record (next_record op past) kept else kept

module _ {D : Type 0} (cells : D → Cells) (plans : D → Option Plans) where
  -- the log goes on: the files of its directory are its records, a crash leaves them, and no fault is planned there
  pub record LogGoesOn (l : TransLog D) : Type 0 where
    pub unended : l.ended ≡ false
    pub files : IsOpenLog (cells l.dir) l.records.items
    pub safe : IsLogSafe (cells l.dir) l.records.items None
    pub calm : IsCalm (plans l.dir)

  -- so it is where there is one
  abbrev pub LogStands : Option (TransLog D) → Type 0
  LogStands None = ⊤
  LogStands (Some l) = LogGoesOn l

  -- what is true of a cluster and its log: the faults of merges' tasks are in order; and while the cluster has not ended, the log is in
  -- step with what happened, and its directory with the log
  pub record SiteStands (r : Run) (log : Option (TransLog D)) : Type 0 where
    pub faults : FaultsFit (is_some (records_of log)) r.log
    pub in_step : r.ended ≡ false → IsInStep (records_of log) (printed r.log)
    pub stands : r.ended ≡ false → LogStands log

-- a call of a line did some of what its command asks for; where it answers `none` to a publish, that is so, and where it starts a merge, that
-- takes the first range that is due
pub record DoesAtSite (command : LineCommand) (at : At) (old new : SiteRun) : Type 0 where
  pub running : new.run.ended ≡ false
  pub nodes : new.run.nodes ≡ old.run.nodes
  pub logged : is_logged new ≡ is_logged old
  pub goes : GoesByLine (is_logged old) command at old.run.log new.run.log
  pub none : TellsNone command old.run.log new.run.log
  pub first : TellsFirst command old.run.log new.run.log

-- a call of a task did some of its work, for the drain line that took it or for none
pub record DoesTaskAtSite (by : Option At) (old new : SiteRun) : Type 0 where
  pub running : new.run.ended ≡ false
  pub nodes : new.run.nodes ≡ old.run.nodes
  pub logged : is_logged new ≡ is_logged old
  pub goes : GoesByTask (is_logged old) (name_by by) old.run.log new.run.log
