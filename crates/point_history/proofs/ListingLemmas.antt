-- Ascending names, and what open tickets hold.
use Rattle.std.proofs.Common.{◌≡◌, ℕ, ◌≤◌, List, [], ◌∷◌, length, take, refl, arith}
use Rattle.std.specs.Prelude.{true, reverse}
use Rattle.std.proofs.lemmas.List.{take_all}
use Rattle.file_names.specs.Names.{is_ascending}
use Rattle.history_rules.specs.Nodes.{Past}
use Rattle.history_facts.specs.Openings.{was_opened, HoldsNone}
use Rattle.history_facts.proofs.TicketLemmas.{held_was_opened}

-- one name alone is in order
pub short_ascending : (names : List (List ℕ)) → length names ≤ 1 → is_ascending names ≡ true
short_ascending [] few = refl
short_ascending (a ∷ []) few = refl
short_ascending (a ∷ b ∷ names) few = absurd (omega arith)

-- where none of the tickets that were opened holds documents, no ticket does
pub none_held : (entries : Past) (k n : ℕ) → length entries ≤ k
    → HoldsNone (reverse entries) n (λ lane t. was_opened lane t (reverse (take k entries))) → HoldsNone (reverse entries) n (λ lane t. true)
none_held entries k n all none lane t v such held has =
    let same : take k entries ≡ entries = take_all k entries all in
    none lane t v (rw same (held_was_opened lane t n v (reverse entries) held)) held has
