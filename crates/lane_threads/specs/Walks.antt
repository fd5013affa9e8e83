-- What a lane owes for a part of the history, what a line of it did, and what others leave as it was.
use Rattle.std.specs.Prelude.{ℕ, ◌≡◌, ◌≢◌, List, [], ◌∷◌, ◌++◌, Bool, true, false, ◌==◌, ⊤, IsTrue, take, drop, Option, Some, None}
use Rattle.std.specs.List.{AllByRecursion, list_all}
use Rattle.nrt_base.specs.declared.numbers.At.{At}
use Rattle.history_rules.specs.declared.entry.Entry.{Entry}
use Rattle.history_rules.specs.Nodes.{Past}
use Rattle.history_rules.specs.Lines.{is_answered, last_of_line, start_entry, before_start, entries_of_line}
use Rattle.script_serving.specs.declared.script.Line.{Line}
use Rattle.script_serving.specs.declared.script.LineCommand.{LineCommand}
use Rattle.script_serving.specs.Lines.{command_at, all_answered, earlier_answered}
use Rattle.script_serving.specs.Form.{are_ascending}
use Rattle.script_serving.specs.Replays.{due}
use Rattle.script_serving.specs.Serves.{Fits}
use Rattle.history_book.specs.declared.inner.Mark.{Mark}
use Rattle.history_book.specs.declared.inner.Mark.TheVariants.{Shown, TaskFault, Kept}
use Rattle.history_book.specs.Log.{Log, printed, name_of, lane_name}
use Rattle.lane_threads.specs.Owes.{FaultsFit}
use Rattle.lane_threads.specs.Idle.{NoneIsSo}
use Rattle.lane_threads.specs.Firsts.{FirstIsSo}

-- this is owed of an entry that is the lane's
abbrev pub OnLane : Bool → Type 0 → Type 0
OnLane true P = P
OnLane false P = ⊤

-- none of these entries is appended by this lane's seat
abbrev pub NoneOf : ℕ → Log → Type 0
NoneOf lane more = AllByRecursion (λ m. name_of m ≢ lane_name lane) more

-- the entry is one that its line among these asks for, in the line's turn or in a replay; where it answers `none` to a publish, that is so, and
-- where it starts a merge, the entry behind it hands out the first range that is due
abbrev pub FitsLog : Bool → List Line → Option Mark → Log → Entry → Type 0
FitsLog logged lines behind log e =
    Fits (due logged (printed log)) lines (printed log) e.at (command_at lines e.at) e.event × NoneIsSo (command_at lines e.at) log e.event
    × FirstIsSo (command_at lines e.at) behind e.at e.event

-- each entry of the lane among the newer ones is one that its line among these asks for; the last of them has this one behind it, or none
abbrev pub ServesSince : Bool → ℕ → List Line → Option Mark → Log → Log → Type 0
ServesSince logged lane lines behind [] old = ⊤
ServesSince logged lane lines behind (Shown e ∷ more) old =
    OnLane (e.at.lane.0 == lane) (FitsLog logged lines behind (more ++ old) e) × ServesSince logged lane lines (Some (Shown e)) more old
ServesSince logged lane lines behind (TaskFault e ∷ more) old = ServesSince logged lane lines (Some (TaskFault e)) more old
ServesSince logged lane lines behind (Kept i ∷ more) old = ServesSince logged lane lines (Some (Kept i)) more old

-- the newer entries begin with the older ones
pub record Includes (old new : Log) : Type 0 where
  pub more : Log
  pub log : new ≡ more ++ old

-- the history goes on, and what is new of the lane are entries that these lines ask for
pub record GrowsByLane (logged : Bool) (lane : ℕ) (lines : List Line) (old new : Log) : Type 0 where
  pub more : Log
  pub log : new ≡ more ++ old
  pub serves : ServesSince logged lane lines None more old
  pub faults : FaultsFit logged new

-- the history goes on by others
pub record GrowsByOthers (logged : Bool) (lane : ℕ) (old new : Log) : Type 0 where
  pub more : Log
  pub log : new ≡ more ++ old
  pub apart : NoneOf lane more
  pub faults : FaultsFit logged new

-- others leave a line where it is
pub record LineStays (at : At) (old new : Log) : Type 0 where
  pub last : last_of_line at (printed new) ≡ last_of_line at (printed old)
  pub replied : is_answered at (printed new) ≡ is_answered at (printed old)
  pub start : start_entry at (printed new) ≡ start_entry at (printed old)
  pub before : before_start at (printed new) ≡ before_start at (printed old)
  pub fresh : entries_of_line at (printed old) ≡ [] → entries_of_line at (printed new) ≡ []

-- some of what the line asks for was done, and others went on
pub record LineGoes (logged : Bool) (command : LineCommand) (at : At) (old new : Log) : Type 0 where
  pub more : Log
  pub log : new ≡ more ++ old
  pub faults : FaultsFit logged new
  -- whatever lines the lane has, where this one has the command and is in its turn
  pub serves : (lines : List Line) → command_at lines at ≡ Some command → earlier_answered lines at (printed old) ≡ true
      → ServesSince logged at.lane.0 lines None more old

-- others went on, and the line has no entry yet
pub record StillFresh (logged : Bool) (command : LineCommand) (at : At) (old new : Log) : Type 0 where
  pub goes : LineGoes logged command at old new
  pub fresh : entries_of_line at (printed new) ≡ []

-- the line was done
pub record LineRan (logged : Bool) (command : LineCommand) (at : At) (old new : Log) : Type 0 where
  pub goes : LineGoes logged command at old new
  pub replied : is_answered at (printed new) ≡ true

-- these lines have no entry yet
abbrev pub AreUnbegun : List Line → Past → Type 0
AreUnbegun lines past = AllByRecursion (λ l. entries_of_line l.at past ≡ []) lines

-- lines of one lane, whose numbers ascend
pub record ArePart (lane : ℕ) (lines : List Line) : Type 0 where
  pub own : IsTrue (list_all (λ line. line.at.lane.0 == lane) lines)
  pub ascending : IsTrue (are_ascending lines)

-- the first i lines of a lane's part were done, and the others have no entry
pub record Going (logged : Bool) (lane : ℕ) (lines : List Line) (i : ℕ) (initial now : Log) : Type 0 where
  pub goes : GrowsByLane logged lane lines initial now
  pub answered : all_answered (take i lines) (printed now) ≡ true
  pub fresh : AreUnbegun (drop i lines) (printed now)

-- all lines of a lane's part were done
pub record LinesRan (logged : Bool) (lane : ℕ) (lines : List Line) (old new : Log) : Type 0 where
  pub goes : GrowsByLane logged lane lines old new
  pub answered : all_answered lines (printed new) ≡ true
