-- The sizes of the primary's segments, of which merges are chosen, where a merge starts and where it ends.
use Rattle.std.specs.Prelude.{ℕ, zero, suc, ◌≡◌, ◌++◌, ◌∷◌, [], Bool, true, false, List, Option, Some, None, length, ⊤}
use Rattle.std.specs.List.{AllZip, list_any}

-- the sizes where so many from a place on are told no more, as a merge has these segments
abbrev pub without_range : (from count : ℕ) → List (Option ℕ) → List (Option ℕ)
without_range zero zero sizes = sizes
without_range zero (suc n) [] = []
without_range zero (suc n) (s ∷ sizes) = None ∷ without_range zero n sizes
without_range (suc k) n [] = []
without_range (suc k) n (s ∷ sizes) = s ∷ without_range k n sizes

-- a size that was told is told still
abbrev pub IsToldStill : Option ℕ → Option ℕ → Type 0
IsToldStill None size = ⊤
IsToldStill (Some k) size = size ≡ Some k

-- the sizes of the segments that are none of these
abbrev pub beside_inputs : List Bool → List (Option ℕ) → List (Option ℕ)
beside_inputs [] sizes = sizes
beside_inputs (b ∷ inputs) [] = []
beside_inputs (true ∷ inputs) (s ∷ sizes) = beside_inputs inputs sizes
beside_inputs (false ∷ inputs) (s ∷ sizes) = s ∷ beside_inputs inputs sizes

-- the sizes where these segments leave, the first of which gives its place to the merged one
abbrev pub in_their_place : List (Option ℕ) → List Bool → List (Option ℕ) → List (Option ℕ)
in_their_place merged [] sizes = sizes
in_their_place merged (b ∷ inputs) [] = []
in_their_place merged (true ∷ inputs) (s ∷ sizes) = merged ++ beside_inputs inputs sizes
in_their_place merged (false ∷ inputs) (s ∷ sizes) = s ∷ in_their_place merged inputs sizes

-- the size of a merged segment of so many live rows, which is left out where none is live
abbrev pub merged_size : ℕ → List (Option ℕ)
merged_size zero = []
merged_size (suc k) = Some (suc k) ∷ []

-- A merge was cut over: the merged segment, of so many live rows, stands in the place of its inputs, of which there are some, and of none of which a size
-- was told.
pub record CutsSizes (old new : List (Option ℕ)) : Type 0 where
  pub inputs : List Bool
  pub count : length inputs ≡ length old
  pub some : list_any (λ b. b) inputs ≡ true
  pub untold : AllZip (λ b s. b ≡ true → s ≡ None) inputs old
  pub live : ℕ
  pub are : new ≡ in_their_place (merged_size live) inputs old

-- the sizes where a merge ends: it was cut over, or given up, and its inputs may be chosen again
abbrev pub SizesEnd : Bool → List (Option ℕ) → List (Option ℕ) → Type 0
SizesEnd true old new = CutsSizes old new
SizesEnd false old new = AllZip IsToldStill old new
