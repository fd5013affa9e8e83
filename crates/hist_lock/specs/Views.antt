-- What seats know, at first and after each kind of step.
use Rattle.std.specs.Prelude.{ℕ, ◌+◌, ◌-◌, List, [], ◌∷◌, ◌++◌, true, false}
use Rattle.hist_lock.specs.declared.view.SeatTurn.{SeatTurn}
use Rattle.hist_lock.specs.declared.view.SeatTurn.TheVariants.{Idle, Waiting, Inside}
use Rattle.hist_lock.specs.declared.view.JoinedSeat.{JoinedSeat}
use Rattle.hist_lock.specs.declared.view.View.{View}
use Rattle.hist_lock.specs.History.{longer_of, shorter_of, entries_by}

-- how many tickets may be out at once, over all seats: 2^32 - 1
abbrev pub all_room : ℕ
all_room = 4294967295

-- the ticket of a seat that waits or is inside
abbrev pub turn_ticket : SeatTurn → ℕ
turn_ticket (Waiting t) = t
turn_ticket (Inside t) = t
turn_ticket Idle = 0

module _ {E : Type 0} where
  -- the first seat of a lock has number 0, all the room, and has seen an empty history
  abbrev pub first_view : View E
  first_view = record { seen = []; told = []; number = 0; own = []; joined = []; is_first = true; splits = 0; room = all_room; turn = Idle }

  -- the seat that splits off another counts one more, and has room for one fewer
  abbrev pub splitter_view : View E → View E
  splitter_view v = record v { splits = v.splits + 1; room = v.room - 1 }

  -- the seat that is split off has the next number, has seen the same, and has no entries
  abbrev pub new_seat_view : View E → View E
  new_seat_view v = record { seen = v.seen; told = []; number = v.splits + 1; own = []; joined = []; is_first = false; splits = 0; room = 1; turn = Idle }

  -- a note has seen what its maker has seen, and can draw no ticket
  abbrev pub note_view : View E → View E
  note_view v = record { seen = v.seen; told = []; number = 0; own = []; joined = []; is_first = false; splits = 0; room = 0; turn = Idle }

  -- a seat that was joined to another knows nothing any more
  abbrev pub spent_view : View E
  spent_view = record { seen = []; told = []; number = 0; own = []; joined = []; is_first = false; splits = 0; room = 0; turn = Idle }

  -- the seats for which a seat answers: itself, and those joined to it
  abbrev pub seats_under : View E → List (JoinedSeat E)
  seats_under v = record { number = v.number; own = v.own } ∷ v.joined

  -- the seat that takes in another has seen the longer of both, and keeps the other's entries as final
  abbrev pub joiner_view : View E → View E → View E
  joiner_view v w = record v { seen = longer_of v.seen w.seen; told = shorter_of v.seen w.seen; joined = v.joined ++ seats_under w; room = v.room + w.room }

  -- the seat that hears a note has seen the longer of both
  abbrev pub hearer_view : View E → View E → View E
  hearer_view v w = record v { seen = longer_of v.seen w.seen; told = shorter_of v.seen w.seen }

  -- the seat has drawn this ticket, which takes room for one
  abbrev pub waiting_view : View E → ℕ → View E
  waiting_view v t = record v { room = v.room - 1; turn = Waiting t }

  -- the seat's ticket is served, and it has found this history
  abbrev pub inside_view : View E → ℕ → List E → View E
  inside_view v t log = record v { seen = log; turn = Inside t }

  -- the seat has given the value back with this history, of which it has seen all
  abbrev pub outside_view : (E → ℕ) → View E → List E → View E
  outside_view names v log = record v { seen = log; own = entries_by names v.number log; room = v.room + 1; turn = Idle }
