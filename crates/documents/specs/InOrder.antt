-- Lists in an order.
use Rattle.std.specs.Prelude.{List, [], ◌∷◌, if◌then◌else◌}
use Rattle.std.specs.Ordering.{is_lt}
use Rattle.std.specs.declared.cmp.Ordering.{Ordering}

-- items in order, with one more in its place
abbrev pub with_item : {X : Type 0} → (X → X → Ordering) → List X → X → List X
with_item cmp [] item = item ∷ []
with_item cmp (x ∷ items) item =
    if is_lt (cmp x item) then x ∷ with_item cmp items item else item ∷ x ∷ items

-- items in order
abbrev pub in_order : {X : Type 0} → (X → X → Ordering) → List X → List X
in_order cmp [] = []
in_order cmp (item ∷ items) = with_item cmp (in_order cmp items) item
