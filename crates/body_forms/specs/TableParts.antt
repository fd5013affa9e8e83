-- A table of items that is being written: its offsets and its area, apart.
use Rattle.std.specs.Prelude.{◌≡◌, ℕ, ◌<◌, ◌^◌, List, ◌++◌, length}
use Rattle.std.specs.List.{flat_map}
use Rattle.body_forms.specs.Numbers.{u32_bytes}
use Rattle.body_forms.specs.ItemTable.{starts, concat, IsItemTable}

-- the offsets and the area are those of the items
pub record ArePartsOf (items : List (List ℕ)) (offsets area : List ℕ) : Type 0 where
  pub offsets_are : offsets ≡ flat_map u32_bytes (starts 0 items)
  pub area_is : area ≡ concat items
  pub small : length area < 2 ^ 32

-- a table of these items, of fewer than 2^32 bytes, was added
pub record IsTableAdded (items : List (List ℕ)) (old new : List ℕ) : Type 0 where
  pub table : List ℕ
  pub added : new ≡ old ++ table
  pub is_table : IsItemTable table items
  pub small : length table < 2 ^ 32

-- the table was added of each list of so many items that have these offsets and this area
abbrev pub AddsTable : (count : ℕ) (offsets area old new : List ℕ) → Type 0
AddsTable count offsets area old new = (items : List (List ℕ)) → length items ≡ count → ArePartsOf items offsets area → IsTableAdded items old new
