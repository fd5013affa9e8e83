-- What a lane or a worker does in a phase.
use Rattle.std.specs.Prelude.{ℕ, ◌≡◌, ◌<◌, List, Bool, false, IsTrue}
use Rattle.std.specs.List.{list_all}
use Rattle.script_serving.specs.declared.script.Line.{Line}
use Rattle.script_serving.specs.declared.script.LineCommand.{LineCommand}
use Rattle.script_serving.specs.declared.script.Phase.{Phase}
use Rattle.script_serving.specs.Lines.{lines_under}
use Rattle.hist_lock.specs.declared.grows.Grows.{Ghosts}
use Rattle.hist_lock.specs.declared.lock.HistLock.{HistLock}
use Rattle.hist_lock.specs.declared.lock.LaneSeat.{LaneSeat}
use Rattle.hist_lock.specs.Seats.{own_entries}
use Rattle.history_book.specs.declared.inner.Mark.{Mark}
use Rattle.history_book.specs.Log.{printed}
use Rattle.lane_threads.specs.Walks.{GrowsByOthers, AreUnbegun, ArePart, LinesRan}
use Rattle.lane_threads.specs.Seats.{log_seen, IsLaneSeat}
use Rattle.lane_threads.specs.declared.lane.Lane.{Lane}

-- each of these lines has a command that is run
abbrev pub all_run : (LineCommand → Bool) → List Line → Bool
all_run runs lines = list_all (λ line. runs line.command) lines

module _ {T : Type 0} {g : Ghosts T Mark} where
  -- the lane's seat holds nothing
  abbrev pub IsIdleLane : Bool → HistLock T Mark → Lane T Mark g → Type 0
  IsIdleLane logged lock l = IsLaneSeat logged lock l.number.0 l.seat

  -- the lane or worker has heard of what others did, and did nothing itself
  pub record HasHeard (logged : Bool) (lock : HistLock T Mark) (before after : Lane T Mark g) : Type 0 where
    pub number : after.number ≡ before.number
    pub idle : IsIdleLane logged lock after
    pub apart : GrowsByOthers logged before.number.0 (log_seen before.seat) (log_seen after.seat)
    pub own : own_entries after.seat ≡ own_entries before.seat

  -- lines of a lane were done, and its seat holds nothing
  pub record EndsItsPart (logged : Bool) (lock : HistLock T Mark) (lane : ℕ) (lines : List Line) (before after : LaneSeat T Mark g) : Type 0 where
    pub seat : IsLaneSeat logged lock lane after
    pub ran : LinesRan logged lane lines (log_seen before) (log_seen after)

  -- the lane may run its lines of the phase
  pub record MayRunPart (logged : Bool) (lock : HistLock T Mark) (runs : LineCommand → Bool) (phase : Phase) (l : Lane T Mark g) : Type 0 where
    pub idle : IsIdleLane logged lock l
    pub part : ArePart l.number.0 (lines_under l.number.0 phase.lanes)
    pub run : IsTrue (all_run runs (lines_under l.number.0 phase.lanes))
    pub fresh : AreUnbegun (lines_under l.number.0 phase.lanes) (printed (log_seen l.seat))

  -- the lane has run them, where it did not fail
  pub record RunsPart (logged : Bool) (lock : HistLock T Mark) (phase : Phase) (before after : Lane T Mark g) : Type 0 where
    pub number : after.number ≡ before.number
    pub ran : after.failed ≡ false → EndsItsPart logged lock before.number.0 (lines_under before.number.0 phase.lanes) before.seat after.seat

  -- the lane has run them, and a worker that did not fail has appended nothing of its own
  pub record TakesTurn (logged : Bool) (lock : HistLock T Mark) (phase : Phase) (before after : Lane T Mark g) : Type 0 where
    pub part : RunsPart logged lock phase before after
    pub worker : 8 < before.number.0 → after.failed ≡ false → own_entries after.seat ≡ own_entries before.seat
