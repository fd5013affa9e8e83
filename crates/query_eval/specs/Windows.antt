-- Windows of 64 rows: which rows are answered, and how often words and phrases stand in them. Rows are numbers that a u32 can tell.
use Rattle.std.specs.Prelude.{◌≡◌, ℕ, ◌+◌, ◌-◌, ◌^◌, ◌<◌, ◌≤◌, Bool, true, false, ◌&&◌, ◌||◌, not, List, length, slice_index, min, max, Option, Some, None}
use Rattle.std.specs.Int.{bit_at}

-- 1 where it holds, and else 0
abbrev pub bit_of : Bool → ℕ
bit_of true = 1
bit_of false = 0

-- bit i tells whether the row i rows behind the start is answered
abbrev pub IsMarked : (ℕ → Bool) → (start marks : ℕ) → Type 0
IsMarked answered start marks = (i : ℕ) → i < 64 → start + i < 2 ^ 32 → bit_at marks i ≡ bit_of (answered (start + i))

-- to the number at place i was added how often they stand in the row i rows behind the start, as far as a u32 can tell
pub record AddsTimes (times : ℕ → ℕ) (start : ℕ) (old new : List ℕ) : Type 0 where
  pub len : length new ≡ length old
  pub each : (i : ℕ) → i < 64 → start + i < 2 ^ 32 → min (slice_index new i) (2 ^ 32 - 1) ≡ min (slice_index old i + times (start + i)) (2 ^ 32 - 1)

-- one bit was set
pub record SetsBit (place old new : ℕ) : Type 0 where
  pub here : bit_at new place ≡ 1
  pub others : (i : ℕ) → (i ≡ place → ⊥) → bit_at new i ≡ bit_at old i

-- one number grew, as far as a u32 can tell
pub record AddsAt (place count : ℕ) (old new : List ℕ) : Type 0 where
  pub len : length new ≡ length old
  pub here : slice_index new place ≡ min (slice_index old place + count) (2 ^ 32 - 1)
  pub others : (i : ℕ) → (i ≡ place → ⊥) → slice_index new i ≡ slice_index old i

-- a row in which something stands so often was marked and counted; where it does not stand there nothing changed
pub record MarksRow (place count old new : ℕ) (before after : List ℕ) : Type 0 where
  pub some : 0 < count → SetsBit place old new × AddsAt place count before after
  pub none : count ≡ 0 → (new ≡ old) × (after ≡ before)

-- from this row on both say the same
abbrev pub StaysFrom : {A : Type 0} → (row : ℕ) → (old new : ℕ → A) → Type 0
StaysFrom row old new = (x : ℕ) → row ≤ x → new x ≡ old x

-- no row from this one on and below the bound is answered; none at all where there is no bound
abbrev pub IsBound : (ℕ → Bool) → (row : ℕ) → Option ℕ → Type 0
IsBound answered row None = (x : ℕ) → row ≤ x → answered x ≡ false
IsBound answered row (Some bound) = (row ≤ bound) × ((x : ℕ) → row ≤ x → x < bound → answered x ≡ false)

-- the lesser of two rows, or the one that there is
abbrev pub least_row : Option ℕ → Option ℕ → Option ℕ
least_row None b = b
least_row (Some a) None = Some a
least_row (Some a) (Some b) = Some (min a b)

-- the greater of two rows, where there are both
abbrev pub greater_row : Option ℕ → Option ℕ → Option ℕ
greater_row None b = None
greater_row (Some a) None = None
greater_row (Some a) (Some b) = Some (max a b)

-- the rows that both answer
abbrev pub both : (first second : ℕ → Bool) → ℕ → Bool
both first second row = first row && second row

-- the rows that either answers
abbrev pub either : (first second : ℕ → Bool) → ℕ → Bool
either first second row = first row || second row

-- the rows that are not answered
abbrev pub others : (ℕ → Bool) → ℕ → Bool
others answered row = not (answered row)

-- how often they stand in a row together
abbrev pub sum_of : (first second : ℕ → ℕ) → ℕ → ℕ
sum_of first second row = first row + second row

-- the lowest bits are set, so many of them as there are, and no other
pub record AreFirstBits (count bits : ℕ) : Type 0 where
  pub set : (i : ℕ) → i < 64 → i < count → bit_at bits i ≡ 1
  pub clear : (i : ℕ) → i < 64 → count ≤ i → bit_at bits i ≡ 0

-- a row from this one on and below a number, such that none between is answered
pub record IsWindowStart (answered : ℕ → Bool) (row rows start : ℕ) : Type 0 where
  pub from : row ≤ start
  pub below : start < rows
  pub between : (x : ℕ) → row ≤ x → x < start → answered x ≡ false

-- A window that was marked: its rows are marked, how often they stand in them is added, and the rows behind it stay.
pub record HasMarked (answered after : ℕ → Bool) (ranks moved : ℕ → ℕ) (start marks : ℕ) (old new : List ℕ) : Type 0 where
  pub rows : IsMarked answered start marks
  pub times : AddsTimes ranks start old new
  pub rows_stay : StaysFrom (start + 64) answered after
  pub times_stay : StaysFrom (start + 64) ranks moved

-- a bound was found from a row on, and the rows from it on stay
pub record HasBound (answered after : ℕ → Bool) (ranks moved : ℕ → ℕ) (row : ℕ) (found : Option ℕ) : Type 0 where
  pub bound : IsBound answered row found
  pub rows_stay : StaysFrom row answered after
  pub times_stay : StaysFrom row ranks moved
