-- What was read of a source.
use Rattle.std.specs.Prelude.{ℕ, ◌≤◌, ◌<◌, List, length, Option}
use Rattle.std.specs.Io.KnownBytes.{Consumes, IsAtEnd}

-- the greatest number of bytes of a script
abbrev pub longest : ℕ
longest = 16777216

-- the source was read to its end, and gave these bytes
pub record ReadWhole (before after : Option (List ℕ)) (bytes : List ℕ) : Type 0 where
  pub taken : Consumes before after bytes
  pub ended : IsAtEnd after
  pub within : length bytes ≤ longest

-- so many bytes were taken from the source as a script may have, or fewer
pub record TakesWithin (before after : Option (List ℕ)) : Type 0 where
  pub bytes : List ℕ
  pub taken : Consumes before after bytes
  pub within : length bytes ≤ longest

-- one byte more was taken from the source than a script may have, or several
pub record TakesMore (before after : Option (List ℕ)) : Type 0 where
  pub bytes : List ℕ
  pub taken : Consumes before after bytes
  pub beyond : longest < length bytes
