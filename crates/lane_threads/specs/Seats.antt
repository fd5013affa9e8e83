-- What a lane's seat has seen of the entries of a run, and what a section of one line did.
use Rattle.std.specs.Prelude.{ℕ, ◌≡◌, ◌+◌, ◌≤◌, [], Bool, reverse}
use Rattle.nrt_base.specs.declared.numbers.At.{At}
use Rattle.script_serving.specs.declared.script.LineCommand.{LineCommand}
use Rattle.hist_lock.specs.declared.grows.Grows.{Ghosts}
use Rattle.hist_lock.specs.declared.lock.LaneSeat.{LaneSeat}
use Rattle.hist_lock.specs.declared.lock.HistLock.{HistLock}
use Rattle.hist_lock.specs.Seats.{history_seen, number_of, joined_seats, room_of, IsFree, IsInside, IsSeatOf}
use Rattle.history_book.specs.declared.inner.Mark.{Mark}
use Rattle.history_book.specs.Log.{Log}
use Rattle.lane_threads.specs.Owes.{FaultsFit, IsSettledLog}
use Rattle.lane_threads.specs.Walks.{GrowsByOthers, LineStays, LineGoes, LineRan}

module _ {T : Type 0} {g : Ghosts T Mark} where
  -- what the seat has seen, newest first
  abbrev pub log_seen : LaneSeat T Mark g → Log
  log_seen s = reverse (history_seen s)

  -- the seat of a lane, which holds nothing
  pub record IsLaneSeat (logged : Bool) (lock : HistLock T Mark) (lane : ℕ) (s : LaneSeat T Mark g) : Type 0 where
    pub table : IsSeatOf lock s
    pub free : IsFree s
    pub number : number_of s ≡ lane
    pub first : 1 ≤ lane
    pub alone : joined_seats s ≡ []
    pub room : room_of s ≡ 1
    pub faults : FaultsFit logged (log_seen s)

  -- the seat of a lane, which holds the lock
  pub record IsLaneInside (lock : HistLock T Mark) (lane : ℕ) (s : LaneSeat T Mark g) : Type 0 where
    pub table : IsSeatOf lock s
    pub inside : IsInside s
    pub number : number_of s ≡ lane
    pub first : 1 ≤ lane
    pub alone : joined_seats s ≡ []
    pub room : room_of s + 1 ≡ 1

  -- the lock was taken for a line: others have gone on since, the line is where it was, and nothing is due to be accepted again
  pub record HasEntered (logged : Bool) (lock : HistLock T Mark) (at : At) (before after : LaneSeat T Mark g) (found : Log) : Type 0 where
    pub inside : IsLaneInside lock at.lane.0 after
    pub seen : history_seen after ≡ reverse found
    pub settled : IsSettledLog logged found
    pub apart : GrowsByOthers logged at.lane.0 (log_seen before) found
    pub stays : LineStays at (log_seen before) found

  -- some of what a line asks for was done, and the seat holds nothing
  pub record TakesLineOn (logged : Bool) (lock : HistLock T Mark) (command : LineCommand) (at : At) (before after : LaneSeat T Mark g) : Type 0 where
    pub seat : IsLaneSeat logged lock at.lane.0 after
    pub goes : LineGoes logged command at (log_seen before) (log_seen after)

  -- a line was done, and the seat holds nothing
  pub record EndsItsLine (logged : Bool) (lock : HistLock T Mark) (command : LineCommand) (at : At) (before after : LaneSeat T Mark g) : Type 0 where
    pub seat : IsLaneSeat logged lock at.lane.0 after
    pub ran : LineRan logged command at (log_seen before) (log_seen after)
