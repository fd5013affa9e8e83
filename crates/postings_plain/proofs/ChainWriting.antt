-- A loop that writes the items of a chain.
use Rattle.std.proofs.Common.{◌≡◌, ℕ, List, ◌++◌, drop}
use Rattle.body_forms.specs.Format.{chain, ChainFits}

-- i of the items are written: with the others, which come after k and fit there, the whole chain stands behind `before`
pub record IsWritten {K X : Type 0} (spell : K → X → List ℕ) (Fits : K → X → Type 0) (next : X → K) (start : K) (before : List ℕ) (xs : List X) (i : ℕ) (k : K) (out : List ℕ) : Type 0 where
  pub whole : out ++ chain spell next k (drop i xs) ≡ before ++ chain spell next start xs
  pub fit : ChainFits Fits next k (drop i xs)
