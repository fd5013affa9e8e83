-- The names of the memory disk, each with what it holds there.
use Rattle.std.specs.Prelude.{◌≡◌, ℕ, true, List, [], ◌∷◌, Option, Some, None, is_some, Result, Ok, Err, if◌then◌else◌}
use Rattle.std.specs.Cmp.Lexicographic.{slice_cmp}
use Rattle.std.specs.Ordering.{nat_cmp}
use Rattle.std.specs.BTreeMap.{is_at}
use Rattle.std.specs.Map.{lookup}
use Rattle.disk_model.specs.declared.dir.DirFault.{DirFault}
use Rattle.disk_model.specs.declared.dir.DirFault.TheVariants.{Failed}
use Rattle.disk_model.specs.Disk.{Name, Content, Cells, put, is_among}
use Rattle.disk_memory.specs.declared.state.State.TheVariants.{Absent, Loose}
use Rattle.disk_memory.specs.declared.state.Outcome.TheVariants.{Gone, Any}
use Rattle.disk_memory.specs.Held.{Held, untouched, content_of, has_file, outcome_of, cell, set_to, with_outcome, held_flushed, held_settled}

-- a disk: what is held under each name
abbrev pub Table : Type 0
Table = Name → Held

-- what is held where a name has an entry; without one, it is untouched
abbrev pub held_at : Option Held → Held
held_at None = untouched
held_at (Some h) = h

-- what the entries, by their names, hold under each name
abbrev pub held_in : List (Name × Held) → Table
held_in entries q = held_at (lookup (is_at (slice_cmp nat_cmp q)) entries)

-- the names under which a file exists, in the order of the entries
abbrev pub names_in : List (Name × Held) → List Name
names_in [] = []
names_in (e ∷ entries) = if has_file e.1 then e.0 ∷ names_in entries else names_in entries

-- the table as a directory
abbrev pub cells_of : Table → Cells
cells_of table q = cell (table q)

-- what reads under a name
abbrev pub reads_in : List (Name × Held) → Name → Content
reads_in entries q = content_of (held_in entries q).state

-- a file exists under the name
abbrev pub HasFile : List (Name × Held) → Name → Type 0
HasFile entries q = is_some (reads_in entries q) ≡ true

-- ---- changes of the table
-- what is held under this name is changed so, and all else is as before
abbrev pub ChangesAt : (old new : List (Name × Held)) → Name → (Held → Held) → Type 0
ChangesAt old new name change = held_in new ≡ put (held_in old) name (change (held_in old name))

-- what is held under each name is as before
abbrev pub IsUnchanged : (old new : List (Name × Held)) → Type 0
IsUnchanged old new = held_in new ≡ held_in old

-- a file was renamed: its state is under the new name, and nothing is under the old one
abbrev pub renamed_table : Table → Name → Name → Table
renamed_table table from to = put (put table to (set_to (table from).state (table to))) from (set_to Absent (table from))

-- a rename failed: the new name may have the file's outcome, and the old one nothing
abbrev pub half_renamed_table : Table → Name → Name → Table
half_renamed_table table from to = put (put table to (with_outcome (outcome_of (table from).state) (table to))) from (with_outcome Gone (table from))

-- the bytes under these names are synced
abbrev pub flushed_table : Table → List Name → Table
flushed_table table names q = if is_among names q then held_flushed (table q) else table q

-- the past outcomes under each name are over
abbrev pub settled_table : Table → Table
settled_table table q = held_settled (table q)

-- ---- what each call does to the table, by its answer; one that answers neither Ok nor Failed leaves it as before
module _ {T : Type 0} where
  -- after a write
  abbrev pub table_after_write : Table → Name → List ℕ → Result T DirFault → Table
  table_after_write table name bytes (Ok _) = put table name (set_to (Loose bytes) (table name))
  table_after_write table name bytes (Err Failed) = put table name (with_outcome (Any bytes) (table name))
  table_after_write table name bytes (Err e) = table

  -- after a removal
  abbrev pub table_after_remove : Table → Name → Result T DirFault → Table
  table_after_remove table name (Ok _) = put table name (set_to Absent (table name))
  table_after_remove table name (Err Failed) = put table name (with_outcome Gone (table name))
  table_after_remove table name (Err e) = table

  -- after a rename
  abbrev pub table_after_rename : Table → Name → Name → Result T DirFault → Table
  table_after_rename table from to (Ok _) = renamed_table table from to
  table_after_rename table from to (Err Failed) = half_renamed_table table from to
  table_after_rename table from to (Err e) = table

  -- after a sync of these names
  abbrev pub table_after_sync : Table → List Name → Result T DirFault → Table
  table_after_sync table names (Ok _) = flushed_table table names
  table_after_sync table names (Err e) = table

  -- after a sync of the names
  abbrev pub table_after_sync_names : Table → Result T DirFault → Table
  table_after_sync_names table (Ok _) = settled_table table
  table_after_sync_names table (Err e) = table
