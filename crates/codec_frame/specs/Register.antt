-- The remainder of the division as it is computed: a register of 32 bits, in which bit 0 is the coefficient of
-- x ^ 31. Only contracts of private functions speak of it.
use Rattle.std.specs.Prelude.{ℕ, zero, suc, ◌*◌, ◌/◌, ◌%◌, List, [], ◌∷◌, bit_xor}

-- one more place of the dividend: the lowest bit goes, and where it is 1 the divisor is taken away
unfoldable pub step : ℕ → ℕ
step v = bit_xor (v / 2) (v % 2 * 0xedb88320)

-- so many places more
unfoldable pub steps : ℕ → ℕ → ℕ
steps zero v = v
steps (suc n) v = steps n (step v)

-- the register after it has taken in the bytes
unfoldable pub taken_in : ℕ → List ℕ → ℕ
taken_in s [] = s
taken_in s (b ∷ bytes) = taken_in (steps 8 (bit_xor s b)) bytes
