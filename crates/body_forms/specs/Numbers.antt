-- Fixed numbers, vInts in their shortest form, strings, and ascending numbers by their differences.
use Rattle.std.specs.Prelude.{ℕ, ◌+◌, ◌-◌, ◌^◌, ◌<◌, ◌≤◌, List, ◌++◌, length, take, drop, Some, None, Result, Ok, Err, nat_lt, ◌==◌, if◌then◌else◌}
use Rattle.std.specs.Int.{w32, w64, to_be_bytes, from_be_bytes}
use Rattle.body_forms.specs.VInts.{vint, vint_read}
use Rattle.body_forms.specs.declared.vint.VIntFault.{VIntFault}
use Rattle.body_forms.specs.Format.{Read, ◌>>=◌, chain, ChainFits, chain_at, counted_at}

-- a number of 32 bits in four bytes, the highest first
abbrev pub u32_bytes : ℕ → List ℕ
u32_bytes n = to_be_bytes w32 n

unfoldable pub u32_at : List ℕ → Read ℕ
u32_at bytes = if nat_lt (length bytes) 4 then None else Some (from_be_bytes w32 (take 4 bytes), drop 4 bytes)

-- a number of 64 bits in eight bytes, the highest first
abbrev pub u64_bytes : ℕ → List ℕ
u64_bytes n = to_be_bytes w64 n

unfoldable pub u64_at : List ℕ → Read ℕ
u64_at bytes = if nat_lt (length bytes) 8 then None else Some (from_be_bytes w64 (take 8 bytes), drop 8 bytes)

-- what was read as a vInt, where its form is the shortest: the number and the bytes after it
abbrev pub shortest_of : List ℕ → Result (ℕ × ℕ) VIntFault → Read ℕ
shortest_of bytes (Ok x) = if x.1 == length (vint x.0) then Some (x.0, drop x.1 bytes) else None
shortest_of bytes (Err fault) = None

-- the vInt at the front, in its shortest form; a longer form is not read
unfoldable pub vint_at : List ℕ → Read ℕ
vint_at bytes = shortest_of bytes (vint_read 4 bytes)

-- a string: its length, then its bytes
abbrev pub string : List ℕ → List ℕ
string text = vint (length text) ++ text

unfoldable pub string_at : List ℕ → Read (List ℕ)
string_at bytes = vint_at bytes >>= λ n. if nat_lt (length n.1) n.0 then None else Some (take n.0 n.1, drop n.0 n.1)

-- Numbers in strictly ascending order. k is 0 before the first, and after a number one above it: so k is the least that
-- may come, and k - 1 is what the difference is counted from.
abbrev pub difference : ℕ → ℕ → List ℕ
difference k x = vint (x - (k - 1))

abbrev pub MayCome : ℕ → ℕ → Type 0
MayCome k x = (k ≤ x) × (x < 2 ^ 32)

abbrev pub above : ℕ → ℕ
above x = x + 1

unfoldable pub difference_at : ℕ → List ℕ → Read ℕ
difference_at k bytes = vint_at bytes >>= λ d.
    if nat_lt (k - 1 + d.0) k then None
    else if nat_lt (k - 1 + d.0) (2 ^ 32) then Some (k - 1 + d.0, d.1) else None

-- a number that is not 0
unfoldable pub positive_at : List ℕ → Read ℕ
positive_at bytes = vint_at bytes >>= λ n. if nat_lt 0 n.0 then Some n else None

-- places, or rows of a key: how many, then their differences
abbrev pub ascending : List ℕ → List ℕ
ascending xs = vint (length xs) ++ chain difference above 0 xs

abbrev pub Ascend : List ℕ → Type 0
Ascend xs = ChainFits MayCome above 0 xs

abbrev pub ascending_at : List ℕ → Read (List ℕ)
ascending_at bytes = counted_at positive_at (λ n. chain_at difference_at above n 0) bytes
