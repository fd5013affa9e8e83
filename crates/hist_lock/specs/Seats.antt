-- What contracts say of a seat.
use Rattle.std.specs.Prelude.{◌≡◌, ℕ, ◌+◌, ◌<◌, ◌≤◌, List, [], ◌∷◌, ◌++◌, true, None}
use Rattle.hist_lock.specs.declared.view.SeatTurn.TheVariants.{Idle, Inside}
use Rattle.hist_lock.specs.declared.view.JoinedSeat.{JoinedSeat}
use Rattle.hist_lock.specs.declared.view.View.{View}
use Rattle.hist_lock.specs.declared.grows.Grows.{Ghosts}
use Rattle.hist_lock.specs.declared.lock.LaneSeat.{LaneSeat}
use Rattle.hist_lock.specs.declared.lock.HistLock.{HistLock}
use Rattle.hist_lock.specs.History.{entries_by, entries_added}
use Rattle.hist_lock.specs.Views.{all_room, seats_under}

module _ {T E : Type 0} {g : Ghosts T E} where
  -- all that the seat knows
  abbrev pub view_of : LaneSeat T E g → View E
  view_of s = s.seat.me.0

  -- the beginning of the history that the seat has seen
  abbrev pub history_seen : LaneSeat T E g → List E
  history_seen s = s.seat.me.0.seen

  -- its number: 0 for the first seat, and k for the k-th that was split off
  abbrev pub number_of : LaneSeat T E g → ℕ
  number_of s = s.seat.me.0.number

  -- the entries that it appended under its number, in order
  abbrev pub own_entries : LaneSeat T E g → List E
  own_entries s = s.seat.me.0.own

  -- the seats that were joined to it, each with its number and its own entries
  abbrev pub joined_seats : LaneSeat T E g → List (JoinedSeat E)
  joined_seats s = s.seat.me.0.joined

  -- what a seat leaves to the one that it is joined to: its own entries, and the seats that were joined to it
  abbrev pub left_by : LaneSeat T E g → List (JoinedSeat E)
  left_by s = seats_under s.seat.me.0

  -- how many seats it has split off
  abbrev pub split_count : LaneSeat T E g → ℕ
  split_count s = s.seat.me.0.splits

  -- how many tickets it, the seats joined to it and those that it may still split off could draw at once
  abbrev pub room_of : LaneSeat T E g → ℕ
  room_of s = s.seat.me.0.room

  -- it is the seat that may split off others
  abbrev pub IsFirst : LaneSeat T E g → Type 0
  IsFirst s = s.seat.me.0.is_first ≡ true

  -- it holds nothing
  abbrev pub IsFree : LaneSeat T E g → Type 0
  IsFree s = (s.seat.me.0.turn ≡ Idle) × (s.seat.me.1 ≡ []) × (1 ≤ room_of s)

  -- it holds the lock, and its value was given out
  abbrev pub IsInside : LaneSeat T E g → Type 0
  IsInside s = ((t : ℕ) × (s.seat.me.0.turn ≡ Inside t)) × (s.seat.me.1 ≡ (0, None) ∷ [])

  -- it holds nothing, and every other seat was joined to it
  abbrev pub IsLast : LaneSeat T E g → Type 0
  IsLast s = IsFree s × (room_of s ≡ all_room)

  -- the seat is of this lock
  abbrev pub IsSeatOf : HistLock T E → LaneSeat T E g → Type 0
  IsSeatOf lock s = s.seat.table_id ≡ lock.table.shared.table_id

  -- the same seat with the same numbers and entries, though what it has seen and what it holds may differ
  pub record IsSame (before after : LaneSeat T E g) : Type 0 where
    pub table : after.seat.table_id ≡ before.seat.table_id
    pub number : number_of after ≡ number_of before
    pub own : own_entries after ≡ own_entries before
    pub joined : joined_seats after ≡ joined_seats before
    pub is_first : after.seat.me.0.is_first ≡ before.seat.me.0.is_first
    pub splits : split_count after ≡ split_count before

  -- the same seat, which holds nothing and has the same room, though it may have seen more
  pub record IsStillFree (before after : LaneSeat T E g) : Type 0 where
    pub same : IsSame before after
    pub free : IsFree after
    pub room : room_of after ≡ room_of before

  -- the seat that a new lock gives: the first, which is also the last, and has seen nothing
  pub record IsOpeningSeat (lock : HistLock T E) (s : LaneSeat T E g) : Type 0 where
    pub table : IsSeatOf lock s
    pub is_first : IsFirst s
    pub is_last : IsLast s
    pub number : number_of s ≡ 0
    pub splits : split_count s ≡ 0
    pub seen : history_seen s ≡ []
    pub joined : joined_seats s ≡ []

  -- the first seat has split off one more, for which it gave room, and is else as before
  pub record HasSplit (lock : HistLock T E) (before after : LaneSeat T E g) : Type 0 where
    pub table : IsSeatOf lock after
    pub free : IsFree after
    pub is_first : IsFirst after
    pub splits : split_count after ≡ split_count before + 1
    pub room : room_of after + 1 ≡ room_of before
    pub seen : history_seen after ≡ history_seen before
    pub number : number_of after ≡ number_of before
    pub own : own_entries after ≡ own_entries before
    pub joined : joined_seats after ≡ joined_seats before

  -- the seat that the first split off last: it has the next number, has seen what the first had, and has no entries
  pub record IsNewSeat (lock : HistLock T E) (first new : LaneSeat T E g) : Type 0 where
    pub table : IsSeatOf lock new
    pub free : IsFree new
    pub number : number_of new ≡ split_count first
    pub room : room_of new ≡ 1
    pub seen : history_seen new ≡ history_seen first
    pub own : own_entries new ≡ []
    pub joined : joined_seats new ≡ []

  -- the seat answers for another that was joined to it, has its room too, and is else the same seat
  pub record HasTakenIn (lock : HistLock T E) (before other after : LaneSeat T E g) : Type 0 where
    pub table : IsSeatOf lock after
    pub free : IsFree after
    pub is_first : IsFirst before → IsFirst after
    pub joined : joined_seats after ≡ joined_seats before ++ left_by other
    pub room : room_of after ≡ room_of before + room_of other
    pub number : number_of after ≡ number_of before
    pub own : own_entries after ≡ own_entries before
    pub splits : split_count after ≡ split_count before

  -- the seat has left the lock: it holds nothing, has its room again, and is else the same seat
  pub record HasLeft (lock : HistLock T E) (before after : LaneSeat T E g) : Type 0 where
    pub table : IsSeatOf lock after
    pub free : IsFree after
    pub is_first : IsFirst before → IsFirst after
    pub room : room_of after ≡ room_of before + 1
    pub number : number_of after ≡ number_of before
    pub joined : joined_seats after ≡ joined_seats before
    pub splits : split_count after ≡ split_count before

  -- the seat's own entries are all that name it in the history: those from before, and those that were added
  pub record HasAppended (names : E → ℕ) (history : List E) (before after : LaneSeat T E g) : Type 0 where
    pub all : own_entries after ≡ entries_by names (number_of before) history
    pub more : 0 < number_of before → own_entries after ≡ own_entries before ++ entries_by names (number_of before) (entries_added (history_seen before) history)
