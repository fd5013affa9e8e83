-- Eight bytes as a number.
use Rattle.std.specs.Prelude.{ℕ, ◌+◌, ◌*◌, List, [], ◌∷◌}

-- the number that bytes are, the first the highest, where they follow those of `n`
abbrev pub word_after : ℕ → List ℕ → ℕ
word_after n [] = n
word_after n (b ∷ bytes) = word_after (n * 256 + b) bytes

-- the number that bytes are, the first the highest
abbrev pub word_of : List ℕ → ℕ
word_of bytes = word_after 0 bytes
