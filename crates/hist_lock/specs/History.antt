-- Histories as lists of entries, of which each names the seat that may append it, or 0.
use Rattle.std.specs.Prelude.{◌≡◌, ℕ, ◌<◌, ◌⊎◌, List, [], ◌∷◌, ◌++◌, length, drop, cond, nat_lt, true, ◌==◌}
use Rattle.std.specs.List.{filter}
use mathlib.Core.List.{IsPrefix}
use Rattle.hist_lock.specs.declared.view.JoinedSeat.{JoinedSeat}
use Rattle.hist_lock.specs.declared.view.View.{View}

-- P holds of each element, as one fact for each, so that it computes at a list whose elements are known
abbrev pub Each : {X : Type 0} → (X → Type 0) → List X → Type 0
Each P [] = Unit {0}
Each P (x ∷ xs) = P x × Each P xs

module _ {E : Type 0} where
  -- the longer of two beginnings of a history, the first where they are as long
  abbrev pub longer_of : List E → List E → List E
  longer_of xs ys = cond (nat_lt (length xs) (length ys)) ys xs

  -- the other of the two
  abbrev pub shorter_of : List E → List E → List E
  shorter_of xs ys = cond (nat_lt (length xs) (length ys)) xs ys

  -- a history that begins with either of two, and is the longer of them
  pub record HasBoth (one two history : List E) : Type 0 where
    pub longer : history ≡ longer_of one two
    pub begins_with_one : IsPrefix one history
    pub begins_with_two : IsPrefix two history

  -- what was added to the history since it was found
  abbrev pub entries_added : List E → List E → List E
  entries_added found now = drop (length found) now

module _ {E : Type 0} (names : E → ℕ) where
  -- the entries that name this number, in order
  abbrev pub entries_by : ℕ → List E → List E
  entries_by n es = filter (λ e. names e == n) es

  -- the entry names this number, or 0: the seat of this number may append it
  abbrev pub MayAppend : ℕ → E → Type 0
  MayAppend n e = (names e ≡ n) ⊎ (names e ≡ 0)

  -- the history goes on from what was found, by entries that the seat of this number may append
  abbrev pub Extends : ℕ → List E → List E → Type 0
  Extends n found now = (more : List E) × (now ≡ found ++ more) × Each (MayAppend n) more

  -- the entries that name the number of a joined seat are just its own
  abbrev pub HasJust : List E → JoinedSeat E → Type 0
  HasJust history j = 0 < j.number → entries_by j.number history ≡ j.own

  -- the history goes on from what a seat knows: it begins with all that the seat has seen, and has under the seat's number just the entries that it appended, and under that of each seat joined to it just those of that seat. If the seat is the first, no entry has a number that was never given out
  pub record Continues (v : View E) (history : List E) : Type 0 where
    pub seen : IsPrefix v.seen history
    pub own : 0 < v.number → entries_by v.number history ≡ v.own
    pub joined : Each (HasJust history) v.joined
    pub others : v.is_first ≡ true → (n : ℕ) → v.splits < n → entries_by n history ≡ []
