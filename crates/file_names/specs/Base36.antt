-- Numbers in base 36: the digits are 0 to 9 and a to z, and the highest stands first.
use Rattle.std.specs.Prelude.{ℕ, ◌≡◌, zero, suc, ◌+◌, ◌-◌, ◌*◌, ◌/◌, ◌%◌, ◌^◌, ◌<◌, ◌≤◌, List, [], ◌∷◌, ◌++◌, length, position, Option, Bool, true, false, not, ◌&&◌, ◌==◌, nat_lt, nat_le, slice_index, if◌then◌else◌, IsTrue}
use Rattle.std.specs.List.{list_all}
use Rattle.nrt_base.specs.Bytes.{is_between, is_word_byte}

-- a digit of base 36: 0 to 9, then a to z
abbrev pub is_base36_digit : ℕ → Bool
is_base36_digit b = is_word_byte b

-- the number below 36 that a digit stands for
abbrev pub digit_value : ℕ → ℕ
digit_value b = if nat_le b 57 then b - 48 else b - 87

-- the digit of a number below 36
abbrev pub digit_of : ℕ → ℕ
digit_of d = if nat_lt d 10 then 48 + d else 87 + d

-- the number that digits spell where they follow those of `n`
abbrev pub value_after : ℕ → List ℕ → ℕ
value_after n [] = n
value_after n (b ∷ digits) = value_after (n * 36 + digit_value b) digits

-- the number that digits spell
abbrev pub base36_value : List ℕ → ℕ
base36_value digits = value_after 0 digits

-- a zero stands before other digits
abbrev pub has_leading_zero : List ℕ → Bool
has_leading_zero bytes = nat_lt 1 (length bytes) && (slice_index bytes 0 == 48)

-- the place of the first byte that is no digit
abbrev pub first_not_digit : List ℕ → Option ℕ
first_not_digit bytes = position (λ b. not (is_base36_digit b)) bytes

-- the bytes are digits alone, and a zero stands before others
abbrev pub IsLedByZero : List ℕ → Type 0
IsLedByZero bytes = IsTrue (list_all is_base36_digit bytes) × IsTrue (has_leading_zero bytes)

-- the bytes spell the number: digits alone, at least one, without leading zeros
pub record SpellsBase36 (bytes : List ℕ) (n : ℕ) : Type 0 where
  pub some : 0 < length bytes
  pub digits : list_all is_base36_digit bytes ≡ true
  pub leading : has_leading_zero bytes ≡ false
  pub value : base36_value bytes ≡ n

-- the bytes spell a number above 2^64 - 1
abbrev pub SpellsTooLarge : List ℕ → Type 0
SpellsTooLarge bytes = (n : ℕ) × SpellsBase36 bytes n × (2 ^ 64 ≤ n)

-- the spelling of a number, with at most `more` digits before the last
unfoldable pub base36_within : ℕ → ℕ → List ℕ
base36_within zero n = digit_of n ∷ []
base36_within (suc more) n = if nat_lt n 36 then digit_of n ∷ [] else base36_within more (n / 36) ++ digit_of (n % 36) ∷ []

-- the spelling of a number below 2^64
abbrev pub base36_of : ℕ → List ℕ
base36_of n = base36_within 12 n

-- 1 to 13 digits
abbrev pub is_base36 : List ℕ → Bool
is_base36 bytes = is_between 1 13 (length bytes) && list_all is_base36_digit bytes
