-- Live rows: the body of their file, and the file.
use Rattle.std.specs.Prelude.{◌≡◌, ℕ, ◌+◌, ◌/◌, ◌%◌, ◌<◌, ◌≤◌, ◌^◌, ◌==◌, List, ◌++◌, length, slice_index, slice_index_or, Bool, true, false, codes, Some}
use Rattle.std.specs.List.{count_by}
use Rattle.std.specs.Int.{bit_at}
use Rattle.file_names.specs.Base36.{base36_of}
use Rattle.codec_frame.specs.Bytes.{AreBytes}
use Rattle.body_forms.specs.Numbers.{u32_bytes}
use Rattle.body_forms.specs.File.{IsFile}
use Rattle.codec_frame.specs.Frame.{Wanted}

-- whether bit i modulo 8, the lowest first, of byte i / 8 is set
abbrev pub has_bit : List ℕ → ℕ → Bool
has_bit bits i = bit_at (slice_index bits (i / 8)) (i % 8) == 1

-- how many rows are live
abbrev pub live_rows : List Bool → ℕ
live_rows live = count_by (λ row. row) live

-- no row at or above this one is live
abbrev pub AreDeadFrom : ℕ → List Bool → Type 0
AreDeadFrom least live = (i : ℕ) → least ≤ i → slice_index_or live i false ≡ false

-- the row is the first live one at or above a row
pub record IsFirstLive (least : ℕ) (live : List Bool) (row : ℕ) : Type 0 where
  pub above : least ≤ row
  pub within : row < length live
  pub is_live : slice_index_or live row false ≡ true
  pub dead : (i : ℕ) → least ≤ i → i < row → slice_index_or live i false ≡ false

-- one bit for each row, set where it is live; the last byte's other bits are not set
pub record IsPacked (bits : List ℕ) (live : List Bool) : Type 0 where
  pub bytes : AreBytes bits
  pub enough : length bits ≡ (length live + 7) / 8
  pub each : (i : ℕ) → has_bit bits i ≡ slice_index_or live i false

-- the bytes are the body of these rows: how many there are, how many are live, and their bits
pub record SpellsLiveRows (body : List ℕ) (live : List Bool) : Type 0 where
  pub few : length live < 2 ^ 32
  pub bits : List ℕ
  pub packed : IsPacked bits live
  pub whole : body ≡ u32_bytes (length live) ++ (u32_bytes (live_rows live) ++ bits)

-- what is wanted of the file of a segment's live rows at a live generation
abbrev pub live_wanted : List ℕ → ℕ → Wanted
live_wanted id live_gen = record { name = codes "NrtLive"; min = 1; max = 1; id = Some id; suffix = base36_of live_gen }

-- the bytes are the file of these rows: their body, framed
abbrev pub IsLiveFile : List ℕ → ℕ → List Bool → List ℕ → Type 0
IsLiveFile id live_gen live bytes = IsFile SpellsLiveRows (live_wanted id live_gen) id live bytes
