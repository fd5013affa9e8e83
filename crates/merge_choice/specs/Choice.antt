-- Classes of sizes, and ranges of neighbours of one class.
use Rattle.std.specs.Prelude.{ℕ, ◌+◌, ◌^◌, ◌<◌, ◌≤◌, max, List, length, slice_index_or, Option}
use Rattle.std.specs.Option.{IsSomeAnd}

-- the greatest class whose power of the factor is at most the size; 0 has the class 0
pub record IsClass (factor size class : ℕ) : Type 0 where
  pub reaches : factor ^ class ≤ max size 1
  pub below : size < factor ^ (class + 1)

-- the neighbours from one place up to another all have sizes, of one class
pub record IsRange (factor : ℕ) (sizes : List (Option ℕ)) (from to : ℕ) : Type 0 where
  pub within : to ≤ length sizes
  pub class : ℕ
  pub each : (k : ℕ) (d : Option ℕ) → from ≤ k → k < to → IsSomeAnd (slice_index_or sizes k d) (λ size. IsClass factor size class)

-- as many neighbours as the factor are a range, and no earlier ones are
pub record IsFirstRange (factor : ℕ) (sizes : List (Option ℕ)) (at : ℕ) : Type 0 where
  pub is : IsRange factor sizes at (at + factor)
  pub first : (earlier : ℕ) → earlier < at → IsRange factor sizes earlier (earlier + factor) → ⊥

-- no neighbours, as many as the factor, are a range
abbrev pub HasNoRange : ℕ → List (Option ℕ) → Type 0
HasNoRange factor sizes = (at : ℕ) → IsRange factor sizes at (at + factor) → ⊥
