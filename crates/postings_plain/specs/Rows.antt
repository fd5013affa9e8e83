-- The hits of a term that were not passed.
use Rattle.std.specs.Prelude.{◌≡◌, ℕ, ◌≤◌, List, [], ◌∷◌, length, Option, Some, None, nat_lt, if◌then◌else◌}
use Rattle.std.specs.List.{All, Any}
use Rattle.postings_plain.specs.Postings.{Hit, row_of, positions_in}

-- the hits from the first one on whose row is this or above
abbrev pub from_row : ℕ → List Hit → List Hit
from_row row [] = []
from_row row (h ∷ hs) = if nat_lt (row_of h) row then from_row row hs else h ∷ hs

-- x is the least row at or above this one that a hit has
pub record IsLeastFrom (row : ℕ) (hs : List Hit) (x : ℕ) : Type 0 where
  pub there : Any (λ h. row_of h ≡ x) hs
  pub from : row ≤ x
  pub least : All (λ h. row ≤ row_of h → x ≤ row_of h) hs

-- the row of the first hit
abbrev pub first_row : List Hit → Option ℕ
first_row [] = None
first_row (h ∷ hs) = Some (row_of h)

-- the positions in the first hit
abbrev pub first_positions : List Hit → List ℕ
first_positions [] = []
first_positions (h ∷ hs) = positions_in h

-- the first hit, by its row and how many positions are in it
abbrev pub first_hit : List Hit → Option (ℕ × ℕ)
first_hit [] = None
first_hit (h ∷ hs) = Some (row_of h, length (positions_in h))

-- the hits after the first
abbrev pub after_first : List Hit → List Hit
after_first [] = []
after_first (h ∷ hs) = hs
