-- What a thread of the tests appends, and the seat that it has.
use Rattle.std.specs.Prelude.{◌≡◌, ℕ, suc, zero, List, [], ◌∷◌, ◌++◌}
use Rattle.hist_lock.specs.declared.grows.Grows.{Ghosts}
use Rattle.hist_lock.specs.declared.lock.LaneSeat.{LaneSeat}
use Rattle.hist_lock.specs.declared.lock.HistLock.{HistLock}
use Rattle.hist_lock.specs.Seats.{history_seen, number_of, own_entries, joined_seats, room_of, IsFree, IsSeatOf}

-- the numbers below n in order, each beside the seat's number
abbrev pub pairs_below : ℕ → ℕ → List (ℕ × ℕ)
pairs_below by zero = []
pairs_below by (suc n) = pairs_below by n ++ (by, n) ∷ []

module _ {T E : Type 0} {g : Ghosts T E} where
  -- the seat has this number, is of the lock, and holds nothing
  pub record IsFreeSeat (lock : HistLock T E) (number : ℕ) (s : LaneSeat T E g) : Type 0 where
    pub table : IsSeatOf lock s
    pub free : IsFree s
    pub is : number_of s ≡ number

  -- the seat has seen nothing, and has no entries
  pub record IsUnused (s : LaneSeat T E g) : Type 0 where
    pub own : own_entries s ≡ []
    pub seen : history_seen s ≡ []

  -- the seat has as much room as before, and the same seats joined to it
  pub record HasSameRoom (before after : LaneSeat T E g) : Type 0 where
    pub room : room_of after ≡ room_of before
    pub joined : joined_seats after ≡ joined_seats before
