-- What the memory disk shows: the entries of its names in ascending order, the table of what it holds, and its plans.
use Rattle.std.specs.Prelude.{ℕ, List, Option, Some}
use Rattle.disk_model.specs.Disk.{Name, Image, Cells}
use Rattle.disk_model.specs.Faults.{Plans, faults_met}
use Rattle.disk_memory.specs.declared.memory.MemDir.{MemDir}
use Rattle.disk_memory.specs.Held.{Held}
use Rattle.disk_memory.specs.Table.{Table, held_in, names_in, cells_of}
use Rattle.disk_memory.specs.Crash.{image_picked}

-- the names that exist or have a past, in ascending order, each with what is held there
abbrev pub entries_of : MemDir → List (Name × Held)
entries_of m = m.slots

-- what is held under each name
abbrev pub table_of : MemDir → Table
table_of m = held_in (entries_of m)

-- the faults that are planned
abbrev pub plans_of : MemDir → Plans
plans_of m = m.plans

-- the memory disk as a directory
abbrev pub cells_in : MemDir → Cells
cells_in m = cells_of (table_of m)

-- how many faults it has met
abbrev pub faults_in : MemDir → ℕ
faults_in m = faults_met (plans_of m)

-- its plans, which are known
abbrev pub known_plans : MemDir → Option Plans
known_plans m = Some (plans_of m)

-- the image that a crash of it with this number leaves
abbrev pub image_in : MemDir → ℕ → Image
image_in m pick = image_picked pick (entries_of m)

-- the names under which a file exists, in ascending order
abbrev pub names_on : MemDir → List Name
names_on m = names_in (entries_of m)
