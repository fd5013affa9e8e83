-- Open tickets by their numbers.
use Rattle.std.specs.Prelude.{◌==◌, ℕ, suc, if◌then◌else◌, List, [], ◌∷◌, ◌++◌, Option, Some, None}
use Rattle.disk_model.specs.Disk.{Name}
use Rattle.searcher_switch.specs.declared.open.Open.{Open}

module _ {R : Type 0} where
  -- the ticket with the number
  abbrev pub ticket_at : ℕ → List (Open R) → Option (Open R)
  ticket_at number [] = None
  ticket_at number (t ∷ ts) = if t.number == number then Some t else ticket_at number ts

  -- the tickets without the one of this number
  abbrev pub tickets_without : ℕ → List (Open R) → List (Open R)
  tickets_without number [] = []
  tickets_without number (t ∷ ts) = if t.number == number then ts else t ∷ tickets_without number ts

  -- the place of the ticket with the number, or the length
  abbrev pub ticket_place : ℕ → List (Open R) → ℕ
  ticket_place number [] = 0
  ticket_place number (t ∷ ts) = if t.number == number then 0 else suc (ticket_place number ts)

  -- the names that tickets hold
  abbrev pub ticket_names : List (Open R) → List Name
  ticket_names [] = []
  ticket_names (t ∷ ts) = t.point.names ++ ticket_names ts
