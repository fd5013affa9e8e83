-- CRC-32 as the remainder of a division. A polynomial over the field of two elements is the list of its
-- coefficients, highest power first.
use Rattle.std.specs.Prelude.{◌≡◌, ℕ, zero, suc, ◌+◌, ◌*◌, ◌/◌, ◌%◌, ◌^◌, Bool, true, false, not, ◌==◌, List, [], ◌∷◌, ◌++◌, length, map, replicate}
use Rattle.std.specs.List.{flat_map}

-- the n lowest bits of a number, lowest first
abbrev pub low_bits : ℕ → ℕ → List Bool
low_bits zero v = []
low_bits (suc n) v = (v % 2 == 1) ∷ low_bits n (v / 2)

-- the n lowest bits of a number, highest first
abbrev pub high_bits : ℕ → ℕ → List Bool
high_bits zero v = []
high_bits (suc n) v = (v / 2 ^ n % 2 == 1) ∷ high_bits n v

-- the first n coefficients the other way round
abbrev pub invert_first : ℕ → List Bool → List Bool
invert_first zero p = p
invert_first (suc n) [] = []
invert_first (suc n) (b ∷ p) = not b ∷ invert_first n p

-- the sum of two coefficients
abbrev pub xor : Bool → Bool → Bool
xor true b = not b
xor false b = b

-- the sum of two polynomials of one length; a longer one goes on as it is
abbrev pub plus : List Bool → List Bool → List Bool
plus [] q = q
plus (a ∷ p) [] = a ∷ p
plus (a ∷ p) (b ∷ q) = xor a b ∷ plus p q

-- a coefficient times a polynomial
abbrev pub scaled : Bool → List Bool → List Bool
scaled true p = p
scaled false p = map (λ _. false) p

-- what the divisor has below x ^ 32
abbrev pub divisor_below : List Bool
divisor_below = high_bits 32 0x04c11db7

-- the divisor: x ^ 32 and the powers below it
abbrev pub divisor : List Bool
divisor = true ∷ divisor_below

-- a polynomial times the divisor
abbrev pub times_divisor : List Bool → List Bool
times_divisor [] = replicate 32 false
times_divisor (b ∷ q) = plus (scaled b divisor ++ replicate (length q) false) (false ∷ times_divisor q)

-- dividing p by the divisor leaves r, which has only the powers below x ^ 32
pub record IsRemainder (p r : List Bool) : Type 0 where
  pub quotient : List Bool
  pub whole : p ≡ plus (times_divisor quotient) (replicate (length quotient) false ++ r)
  pub below : length r ≡ 32

-- division as it is done by hand, for n places: where the highest coefficient is 1 the divisor is taken away
-- there, and the next place is the highest
abbrev pub divided : ℕ → List Bool → List Bool
divided zero p = p
divided (suc n) [] = []
divided (suc n) (b ∷ p) = divided n (plus (scaled b divisor_below) p)

-- what is divided: the bytes' bits, each byte lowest first, then 32 zero bits, the first 32 of all inverted
abbrev pub dividend : List ℕ → List Bool
dividend bytes = invert_first 32 (flat_map (low_bits 8) bytes ++ replicate 32 false)

-- a coefficient as a bit
abbrev pub bit : Bool → ℕ
bit true = 1
bit false = 0

-- the number whose bits are these, lowest first
abbrev pub bits_value : List Bool → ℕ
bits_value [] = 0
bits_value (b ∷ p) = bits_value p * 2 + bit b

-- c is the CRC-32 of the bytes: the remainder, inverted, its coefficient of x ^ 31 being bit 0
abbrev pub IsCrc : List ℕ → ℕ → Type 0
IsCrc bytes c = (r : List Bool) × IsRemainder (dividend bytes) r × (c ≡ bits_value (invert_first 32 r))

-- the CRC-32 of the bytes
unfoldable pub crc_of : List ℕ → ℕ
crc_of bytes = bits_value (invert_first 32 (divided (8 * length bytes) (dividend bytes)))
