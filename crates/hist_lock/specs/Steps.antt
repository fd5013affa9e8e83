-- What each kind of step tells the seat that takes it. Each is a relation of the step, the seat before, the number found and the seat after; a seat is its view and the slots that it holds.
use Rattle.std.specs.Prelude.{◌≡◌, ◌≢◌, ℕ, ◌%◌, ◌^◌, List, [], ◌∷◌, Option, Some}
use mathlib.Core.List.{IsPrefix}
use Rattle.atomic_table.specs.Table.{Step, Me}
use Rattle.hist_lock.specs.declared.view.View.{View}
use Rattle.hist_lock.specs.Views.{turn_ticket, waiting_view, inside_view, outside_view}
use Rattle.hist_lock.specs.History.{Continues}
use Rattle.hist_lock.specs.Rule.{RecallsOwn}

module _ {T E : Type 0} (history : T → List E) (names : E → ℕ) where
  -- a seat at the lock's table
  abbrev pub Sitter : Type 0
  Sitter = Me (Option T) (View E)

  -- the seat has drawn the ticket that it found, modulo 2^64
  abbrev pub DrewTicket : Step (Option T) → Sitter → ℕ → Sitter → Type 0
  DrewTicket st m r n = (t : ℕ) × (r ≡ t % 2 ^ 64) × (n ≡ (waiting_view m.0 t, m.1))

  -- the seat has the value, whose history continues what it knew
  abbrev pub FoundValue : Sitter → ℕ → Sitter → Type 0
  FoundValue m t n = (value : T) × (n ≡ (inside_view m.0 t (history value), (0, Some value) ∷ m.1)) × Continues names m.0 (history value)

  -- where its ticket is being served the seat has the value, and else nothing changes
  abbrev pub Looked : Step (Option T) → Sitter → ℕ → Sitter → Type 0
  Looked st m r n = (r ≡ turn_ticket m.0.turn % 2 ^ 64 → FoundValue m (turn_ticket m.0.turn) n) × (r ≢ turn_ticket m.0.turn % 2 ^ 64 → n ≡ m)

  -- the seat has given the value back, and has seen its whole history
  abbrev pub ServedNext : Step (Option T) → Sitter → ℕ → Sitter → Type 0
  ServedNext st m r n = (value : T) → m.1 ≡ (0, Some value) ∷ [] → n ≡ (outside_view names m.0 (history value), [])

  -- nothing changes. What was told is a beginning of what was seen, which has all that the seat appended
  abbrev pub Compared : Step (Option T) → Sitter → ℕ → Sitter → Type 0
  Compared st m r n = (n ≡ m) × IsPrefix m.0.told m.0.seen × RecallsOwn names m.0
