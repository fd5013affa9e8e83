-- The names of the files in a directory.
use Rattle.std.specs.Prelude.{◌≡◌, List, is_some}
use Rattle.std.specs.List.Sorted.{IsStrictlySortedBy}
use Rattle.std.specs.Cmp.Lexicographic.{slice_cmp}
use Rattle.std.specs.Ordering.{nat_cmp}
use Rattle.disk_model.specs.Disk.{Name, Cells, is_among}

-- the names are just those that stand in the directory, ascending
pub record AreNamesOf (cells : Cells) (names : List Name) : Type 0 where
  pub told : (q : Name) → is_among names q ≡ is_some (cells q).now
  pub ascending : IsStrictlySortedBy (slice_cmp nat_cmp) names
