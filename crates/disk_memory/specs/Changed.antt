-- Which names of the memory disk may have a past.
use Rattle.std.specs.Prelude.{◌≡◌, ℕ, Bool, false, ◌||◌, List, []}
use Rattle.disk_model.specs.Disk.{Name, is_among}
use Rattle.disk_memory.specs.declared.changed.Changed.{Changed}
use Rattle.disk_memory.specs.Held.{Held}
use Rattle.disk_memory.specs.Table.{held_in}

-- the test whether a name is noted as changed
abbrev pub has_changed : Changed → Name → Bool
has_changed c q = c.all || is_among c.names.items q

-- each name that has a past is noted
abbrev pub AreAllNoted : Changed → List (Name × Held) → Type 0
AreAllNoted c entries = (q : Name) → has_changed c q ≡ false → (held_in entries q).past ≡ []
