-- Places of a word in a row, read forward.
use Rattle.std.specs.Prelude.{◌≡◌, ℕ, ◌≤◌, List, [], ◌∷◌, Bool, nat_eq, nat_lt, if◌then◌else◌, Option, Some, None}
use Rattle.std.specs.List.{list_any}

-- the place is among these
abbrev pub has_place : List ℕ → ℕ → Bool
has_place places place = list_any (λ p. nat_eq p place) places

-- the places that are left, by the next one and those after it
abbrev pub all_left : Option ℕ → List ℕ → List ℕ
all_left None rest = []
all_left (Some next) rest = next ∷ rest

-- the places from the first one on that is this or above
abbrev pub from_place : ℕ → List ℕ → List ℕ
from_place place [] = []
from_place place (p ∷ places) = if nat_lt p place then from_place place places else p ∷ places

-- from the least place on, both have the same
abbrev pub AreSameFrom : (least : ℕ) → List ℕ → List ℕ → Type 0
AreSameFrom least a b = (place : ℕ) → least ≤ place → has_place a place ≡ has_place b place
