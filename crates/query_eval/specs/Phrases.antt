-- The rows of a word and those of a phrase, by the hits of words.
use Rattle.std.specs.Prelude.{◌≡◌, ℕ, ◌+◌, ◌≤◌, ◌<◌, List, [], ◌∷◌, map, Bool, true, false, ◌&&◌, nat_eq, nat_lt, count_by, if◌then◌else◌, Option, Some, None}
use Rattle.std.specs.List.{list_any}
use Rattle.postings_plain.specs.Postings.{Hit, row_of, positions_in}
use Rattle.postings_plain.specs.Rows.{first_positions}
use Rattle.query_eval.specs.Places.{has_place}

-- a hit is in the row
abbrev pub has_row : List Hit → ℕ → Bool
has_row hits row = list_any (λ h. nat_eq (row_of h) row) hits

-- the positions in the row: none where no hit is in it
abbrev pub places_in : ℕ → List Hit → List ℕ
places_in row [] = []
places_in row (h ∷ hits) = if nat_eq (row_of h) row then positions_in h else places_in row hits

-- the first list has this place, the second the next one, and so on
abbrev pub follow : ℕ → List (List ℕ) → Bool
follow place [] = true
follow place (places ∷ rest) = has_place places place && follow (place + 1) rest

-- how many places of the first list have the next ones behind them, one in each of the others
abbrev pub times_together : List (List ℕ) → ℕ
times_together [] = 0
times_together (places ∷ rest) = count_by (λ p. follow (p + 1) rest) places

-- how often the words of a phrase, given by their hits, stand together in the row
abbrev pub phrase_times : List (List Hit) → ℕ → ℕ
phrase_times words row = times_together (map (places_in row) words)

-- they do so at least once
abbrev pub phrase_in : List (List Hit) → ℕ → Bool
phrase_in words row = nat_lt 0 (phrase_times words row)

-- each word has the row
abbrev pub all_have : List (List Hit) → ℕ → Bool
all_have [] row = true
all_have (hits ∷ words) row = has_row hits row && all_have words row

-- hits that were passed are below this row: the rows from it on stay, and none comes that was not there
pub record IsMoved (row : ℕ) (old new : List Hit) : Type 0 where
  pub rows : (x : ℕ) → row ≤ x → has_row new x ≡ has_row old x
  pub places : (x : ℕ) → row ≤ x → places_in x new ≡ places_in x old
  pub fewer : (x : ℕ) → has_row old x ≡ false → has_row new x ≡ false

-- the hits of each word were moved so
abbrev pub AreMoved : ℕ → (old new : List (List Hit)) → Type 0
AreMoved row [] [] = Unit {0}
AreMoved row [] (n ∷ new) = ⊥
AreMoved row (o ∷ old) [] = ⊥
AreMoved row (o ∷ old) (n ∷ new) = IsMoved row o n × AreMoved row old new

-- the words stand at this row, as what each has left begins with it
abbrev pub StandAt : ℕ → List (List Hit) → Type 0
StandAt row words = map first_positions words ≡ map (places_in row) words

-- the words were moved to a row at or above this one, and no row between has them all; where it is this one, all have it
abbrev pub IsPass : (old new : List (List Hit)) → ℕ → Option ℕ → Type 0
IsPass old new row None = (x : ℕ) → row ≤ x → all_have old x ≡ false
IsPass old new row (Some found) =
    (row ≤ found) × AreMoved found old new × ((x : ℕ) → row ≤ x → x < found → all_have old x ≡ false)
    × (row ≡ found → (all_have old row ≡ true) × StandAt row new)

-- the words were moved to the first row at or above this one that all have
abbrev pub AreAligned : (old new : List (List Hit)) → ℕ → Option ℕ → Type 0
AreAligned old new row None = (x : ℕ) → row ≤ x → all_have old x ≡ false
AreAligned old new row (Some found) =
    (row ≤ found) × AreMoved found old new × ((x : ℕ) → row ≤ x → x < found → all_have old x ≡ false)
    × (all_have old found ≡ true) × StandAt found new

-- none comes that was not there
abbrev pub AreFewer : (old new : List (List Hit)) → Type 0
AreFewer old new = (x : ℕ) → all_have old x ≡ false → all_have new x ≡ false
