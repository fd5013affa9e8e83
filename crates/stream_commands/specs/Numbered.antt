-- Words that are the name of a command and a number.
use Rattle.std.specs.Prelude.{ℕ, ◌≡◌, ◌≤◌, List, [], ◌∷◌}
use Rattle.std.specs.Fmt.{decimal}

-- the words are this name and this number, from 1 to that one, in decimal digits without a leading zero
pub record AreNameAndNumber (name : List ℕ) (most : ℕ) (words : List (List ℕ)) (n : ℕ) : Type 0 where
  pub is : words ≡ name ∷ decimal n ∷ []
  pub low : 1 ≤ n
  pub high : n ≤ most

-- the words are this name and such a number
abbrev pub AreNameAndSome : List ℕ → ℕ → List (List ℕ) → Type 0
AreNameAndSome name most words = (n : ℕ) × AreNameAndNumber name most words n
