-- Lists of numbers that are bytes, and lists that differ in one place.
use Rattle.std.specs.Prelude.{◌≡◌, ◌≢◌, ℕ, ◌<◌, List, ◌∷◌, ◌++◌, slice_index}

-- each number is a byte
abbrev pub AreBytes : List ℕ → Type 0
AreBytes bytes = (i : ℕ) → slice_index bytes i < 256

-- the two lists are as long as each other, and differ in exactly one place
abbrev pub DifferInOne : List ℕ → List ℕ → Type 0
DifferInOne a b = (front : List ℕ) × (back : List ℕ) × (x : ℕ) × (y : ℕ) × (a ≡ front ++ x ∷ back) × (b ≡ front ++ y ∷ back) × (x ≢ y)
