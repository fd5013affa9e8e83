-- The rule of the lock's table, which has two words, one slot, and the views of all seats.
use Rattle.std.specs.Prelude.{◌≡◌, ◌≢◌, ℕ, ◌+◌, ◌%◌, ◌^◌, ◌<◌, ◌≤◌, ◌⊎◌, List, [], ◌∷◌, Option, Some, true, sum_by}
use mathlib.Core.Option.{some, none}
use mathlib.Core.List.{IsPrefix}
use lib.ListN.{get_elem?}
use Rattle.atomic_table.specs.Table.{State}
use Rattle.hist_lock.specs.declared.view.SeatTurn.{SeatTurn}
use Rattle.hist_lock.specs.declared.view.SeatTurn.TheVariants.{Idle, Waiting, Inside}
use Rattle.hist_lock.specs.declared.view.JoinedSeat.{JoinedSeat}
use Rattle.hist_lock.specs.declared.view.View.{View}
use Rattle.hist_lock.specs.History.{Each, entries_by}
use Rattle.hist_lock.specs.Views.{all_room}

-- what the rule knows beside the table, as at a counter where tickets are drawn
pub record Desk (E : Type 0) : Type 0 where
  -- the one history
  pub log : List E
  -- how many tickets were drawn, counted without end
  pub drawn : ℕ
  -- how many were served
  pub served : ℕ
  -- the least ticket that may still enter
  pub next : ℕ
  -- how many seats were split off
  pub splits : ℕ
  -- the seat that splits off others
  pub first : ℕ
  -- the seat that drew a ticket
  pub holder : ℕ → ℕ
  -- the seat that answers for a number
  pub owner : ℕ → ℕ

module _ {E : Type 0} (names : E → ℕ) where
  -- the seat has seen all that it appended
  abbrev pub RecallsOwn : View E → Type 0
  RecallsOwn v = 0 < v.number → entries_by names v.number v.seen ≡ v.own

  -- the seat `at` answers for the number, which was given out, and these are all entries that name it
  abbrev pub Owns : Desk E → ℕ → ℕ → List E → Type 0
  Owns d at n own = (0 < n) × (n ≤ d.splits) × (d.owner n ≡ at) × (entries_by names n d.log ≡ own)

  -- the seat `at`, which has number n, answers for a seat that was joined to it
  abbrev pub AnswersFor : Desk E → ℕ → ℕ → JoinedSeat E → Type 0
  AnswersFor d at n j = 0 < j.number → Owns d at j.number j.own × (j.number ≢ n)

  -- a ticket that waits is the seat's own and was not served yet; the seat that is inside has the ticket being served, and has seen all
  abbrev pub HoldsTicket : Desk E → ℕ → List E → SeatTurn → Type 0
  HoldsTicket d at seen Idle = Unit {0}
  HoldsTicket d at seen (Waiting t) = (d.next ≤ t) × (t < d.drawn) × (d.holder t ≡ at)
  HoldsTicket d at seen (Inside t) = (t ≡ d.served) × (t < d.drawn) × (d.holder t ≡ at) × (seen ≡ d.log)

  -- what the seat `at` knows is true of the desk
  pub record Fits (d : Desk E) (at : ℕ) (v : View E) : Type 0 where
    pub seen : IsPrefix v.seen d.log
    pub told : IsPrefix v.told d.log
    pub turn : HoldsTicket d at v.seen v.turn
    pub own : 0 < v.number → Owns d at v.number v.own
    pub recalls : RecallsOwn v
    pub joined : Each (AnswersFor d at v.number) v.joined
    pub is_first : v.is_first ≡ true → (at ≡ d.first) × (v.splits ≡ d.splits)

  -- so it is for every seat
  abbrev pub EachFits : Desk E → List (View E) → Type 0
  EachFits d views = (at : ℕ) (v : View E) → get_elem? views at ≡ some v → Fits d at v

module _ {T E : Type 0} (history : T → List E) (names : E → ℕ) where
  -- the value is at home, and its history is the one history
  abbrev pub IsHome : Desk E → State (Option T) (View E) → Type 0
  IsHome d s = (value : T) × (s.homes ≡ some (Some value) ∷ []) × (history value ≡ d.log) × (d.next ≡ d.served)

  -- the seat that is inside has the value
  abbrev pub IsOut : Desk E → State (Option T) (View E) → Type 0
  IsOut d s = (s.homes ≡ none ∷ []) × (d.next ≡ d.served + 1)

  -- the rule: there is one history that every seat's knowledge fits, and the words count the tickets drawn and served
  pub record IsKept (s : State (Option T) (View E)) : Type 0 where
    pub desk : Desk E
    pub words : s.words ≡ (desk.drawn % 2 ^ 64) ∷ (desk.served % 2 ^ 64) ∷ []
    -- each ticket that is out takes room for one
    pub room : sum_by (λ (v : View E). v.room) s.views + desk.drawn ≡ all_room + desk.served
    pub in_order : desk.next ≤ desk.drawn
    -- no entry has a number that was never given out
    pub fresh : (n : ℕ) → desk.splits < n → entries_by names n desk.log ≡ []
    pub slot : IsHome desk s ⊎ IsOut desk s
    pub seats : EachFits names desk s.views
