-- What a call of a line may append, and what is true of the faults of merges' tasks in every list of entries.
use Rattle.std.specs.Prelude.{ℕ, ◌≡◌, ◌⊎◌, List, [], ◌∷◌, ◌++◌, Bool, false, ⊤, Some}
use Rattle.nrt_base.specs.declared.numbers.At.{At}
use Rattle.documents.specs.declared.operation.Op.{Op}
use Rattle.history_rules.specs.declared.entry.Event.{Event}
use Rattle.history_rules.specs.declared.entry.Event.TheVariants.{Fault}
use Rattle.history_rules.specs.Nodes.{Past}
use Rattle.history_rules.specs.Lines.{is_answered, last_of_line}
use Rattle.script_serving.specs.declared.script.LineCommand.{LineCommand}
use Rattle.script_serving.specs.Replays.{due}
use Rattle.script_serving.specs.Serves.{Suits, FitsReplay}
use Rattle.history_book.specs.declared.inner.Mark.TheVariants.{Shown, TaskFault, Kept}
use Rattle.history_book.specs.Log.{Log, printed, name_inside, lane_name, FollowsMerging, FaultsFollow}

-- the entry is one that the command asks for, after the line's newest one; a fault comes before the line's reply
abbrev pub SuitsOrFault : LineCommand → At → Past → Event → Type 0
SuitsOrFault command at past (Fault n kind) = is_answered at past ≡ false
SuitsOrFault command at past e = Suits command at past (last_of_line at past) e

-- so it is, and while operations are due to be accepted again, the entry accepts the first of them
abbrev pub SuitsOrReplays : List Op → LineCommand → At → Past → Event → Type 0
SuitsOrReplays [] command at past e = SuitsOrFault command at past e
SuitsOrReplays (op ∷ ops) command at past e = FitsReplay op past at (Some command) e

-- the entries that a call of a line adds, each at its place: printed ones of the line, faults of merges' tasks while
-- nothing is due to be accepted again, and inner ones that name the line's lane or no seat
abbrev pub AddsEntries : Bool → LineCommand → At → Log → Log → Type 0
AddsEntries logged command at [] old = ⊤
AddsEntries logged command at (Shown e ∷ more) old =
    (e.at ≡ at) × SuitsOrReplays (due logged (printed (more ++ old))) command at (printed (more ++ old)) e.event × AddsEntries logged command at more old
AddsEntries logged command at (TaskFault e ∷ more) old =
    FollowsMerging e.at e.event (printed (more ++ old)) × (due logged (printed (more ++ old)) ≡ []) × AddsEntries logged command at more old
AddsEntries logged command at (Kept i ∷ more) old = ((name_inside i ≡ lane_name at.lane.0) ⊎ (name_inside i ≡ 0)) × AddsEntries logged command at more old

-- a call of a line went on with the entries by such as the line may add
pub record GoesByLine (logged : Bool) (command : LineCommand) (at : At) (old new : Log) : Type 0 where
  pub more : Log
  pub log : new ≡ more ++ old
  pub adds : AddsEntries logged command at more old

-- the entries that the work of a task adds, which no lane owes: faults of merges' tasks while nothing is due to be
-- accepted again, and inner ones that name this seat or none
abbrev pub AddsByTask : Bool → ℕ → Log → Log → Type 0
AddsByTask logged seat [] old = ⊤
AddsByTask logged seat (Shown e ∷ more) old = ⊥
AddsByTask logged seat (TaskFault e ∷ more) old =
    FollowsMerging e.at e.event (printed (more ++ old)) × (due logged (printed (more ++ old)) ≡ []) × AddsByTask logged seat more old
AddsByTask logged seat (Kept i ∷ more) old = ((name_inside i ≡ seat) ⊎ (name_inside i ≡ 0)) × AddsByTask logged seat more old

-- a call of a task went on with the entries by such as it may add
pub record GoesByTask (logged : Bool) (seat : ℕ) (old new : Log) : Type 0 where
  pub more : Log
  pub log : new ≡ more ++ old
  pub adds : AddsByTask logged seat more old

-- no fault of a merge's task comes while operations are due to be accepted again
abbrev pub FaultsWait : Bool → Log → Type 0
FaultsWait logged [] = ⊤
FaultsWait logged (TaskFault e ∷ log) = (due logged (printed log) ≡ []) × FaultsWait logged log
FaultsWait logged (m ∷ log) = FaultsWait logged log

-- each fault of a merge's task follows the start of its merge, and none comes while operations are due
pub record FaultsFit (logged : Bool) (log : Log) : Type 0 where
  pub follow : FaultsFollow log
  pub wait : FaultsWait logged log

-- so it is, and nothing is due: what holds of the entries whenever the lock is free
pub record IsSettledLog (logged : Bool) (log : Log) : Type 0 where
  pub faults : FaultsFit logged log
  pub replayed : due logged (printed log) ≡ []
