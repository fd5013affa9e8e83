-- vInts: numbers of seven bits a byte, the lowest first; a byte of 128 or above says that another follows.
use Rattle.std.specs.Prelude.{ℕ, ◌≡◌, zero, suc, ◌+◌, ◌-◌, ◌*◌, ◌/◌, ◌%◌, ◌^◌, ◌≤◌, ◌<◌, List, [], ◌∷◌, length, take, Bool, true, false, nat_lt, nat_le, slice_index, if◌then◌else◌, Result, Ok, Err}
use Rattle.std.specs.List.{list_all}
use Rattle.body_forms.specs.declared.vint.VIntFault.{VIntFault}
use Rattle.body_forms.specs.declared.vint.VIntFault.TheVariants.{Short, Long}

-- another byte follows
abbrev pub goes_on : ℕ → Bool
goes_on b = nat_le 128 b

-- every byte but the last says that another follows
abbrev pub is_vint : List ℕ → Bool
is_vint [] = false
is_vint (b ∷ bytes) = if goes_on b then is_vint bytes else nat_le (length bytes) 0

-- the number that the bytes hold
abbrev pub vint_value : List ℕ → ℕ
vint_value [] = 0
vint_value (b ∷ bytes) = b % 128 + 128 * vint_value bytes

-- the bytes are a form of the number, the shortest or a longer one of up to five bytes
pub record SpellsVInt (bytes : List ℕ) (n : ℕ) : Type 0 where
  pub whole : is_vint bytes ≡ true
  pub few : length bytes ≤ 5
  pub value : vint_value bytes ≡ n
  pub fits : n < 2 ^ 32

-- so many bytes at the front are a form of the number
pub record BeginsWithVInt (bytes : List ℕ) (n taken : ℕ) : Type 0 where
  pub within : taken ≤ length bytes
  pub spelled : SpellsVInt (take taken bytes) n

-- there are at most four bytes, and each says that another follows
pub record EndsWithinVInt (bytes : List ℕ) : Type 0 where
  pub few : length bytes < 5
  pub unended : list_all goes_on bytes ≡ true

-- four bytes say that another follows, and the fifth is above 15
pub record PassesVInt (bytes : List ℕ) : Type 0 where
  pub unended : list_all goes_on (take 4 bytes) ≡ true
  pub fifth : 15 < slice_index bytes 4

-- the shortest form of a number, with at most `more` bytes after the first
unfoldable pub vint_within : ℕ → ℕ → List ℕ
vint_within zero n = n ∷ []
vint_within (suc more) n = if nat_lt n 128 then n ∷ [] else (128 + n % 128) ∷ vint_within more (n / 128)

-- the shortest form of a number below 2^32
abbrev pub vint : ℕ → List ℕ
vint n = vint_within 4 n

-- the bound on a number with at most `more` bytes after the first
abbrev pub vint_limit : ℕ → ℕ
vint_limit more = 16 * 128 ^ more

-- a number of which this is the first byte, and the rest was read
abbrev pub with_first_byte : ℕ → Result (ℕ × ℕ) VIntFault → Result (ℕ × ℕ) VIntFault
with_first_byte b (Ok high) = Ok (b - 128 + 128 * high.0, high.1 + 1)
with_first_byte b (Err fault) = Err fault

-- the number at the front and how many bytes it takes, at most `more` after the first
unfoldable pub vint_read : ℕ → List ℕ → Result (ℕ × ℕ) VIntFault
vint_read more [] = Err Short
vint_read zero (b ∷ rest) = if nat_lt b 16 then Ok (b, 1) else Err Long
vint_read (suc more) (b ∷ rest) = if nat_lt b 128 then Ok (b, 1) else with_first_byte b (vint_read more rest)
