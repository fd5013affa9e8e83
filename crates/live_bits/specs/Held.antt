-- Live rows as they are held: their bits, how many they are, and how many are live.
use Rattle.std.specs.Prelude.{◌≡◌, ℕ, ◌<◌, ◌^◌, List, ◌++◌, length, map, Bool, false}
use Rattle.std.specs.List.{range_with_len}
use Rattle.codec_frame.specs.Bytes.{AreBytes}
use Rattle.body_forms.specs.Numbers.{u32_bytes}
use Rattle.live_bits.specs.LiveRows.{has_bit, live_rows, IsPacked}

-- the first n rows of the bits
unfoldable pub rows_in : ℕ → List ℕ → List Bool
rows_in n bits = map (has_bit bits) (range_with_len 0 n)

-- the bits are those of n rows, of which so many are live
pub record HoldsRows (bits : List ℕ) (n live : ℕ) : Type 0 where
  pub few : n < 2 ^ 32
  pub packed : IsPacked bits (rows_in n bits)
  pub count : live ≡ live_rows (rows_in n bits)

-- the body is these parts: how many rows there are, how many are live, and their bits
pub record AreParts (body : List ℕ) (rows live : ℕ) (bits : List ℕ) : Type 0 where
  pub held : HoldsRows bits rows live
  pub whole : body ≡ u32_bytes rows ++ (u32_bytes live ++ bits)

-- the bit of one row was cleared, and nothing else was changed
pub record ClearsBit (old new : List ℕ) (row : ℕ) : Type 0 where
  pub long : length new ≡ length old
  pub here : has_bit new row ≡ false
  pub others : (i : ℕ) → (i ≡ row → ⊥) → has_bit new i ≡ has_bit old i
  pub fits : AreBytes old → AreBytes new
