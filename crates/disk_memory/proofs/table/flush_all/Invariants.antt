use Rattle.std.proofs.Common.{◌≡◌, take, is_some, ℕ, List, if◌then◌else◌}
use Rattle.disk_model.specs.Disk.{is_among}
use Rattle.disk_memory.specs.Held.{content_of, held_flushed}
use Rattle.disk_memory.specs.Table.{held_in}
use Rattle.disk_memory.proofs.table.flush_all.Given as goal

-- the names so far are synced
abbrev pub invariant-loop-name : goal.invariant-loop-name
invariant-loop-name l = record {
  held : (q : List ℕ) → held_in l.slots.entries q ≡ (if is_among (take l.name-index l.names) q then held_flushed (held_in l.initial.slots.entries q) else held_in l.initial.slots.entries q);
  there : (q : List ℕ) → is_some (content_of (held_in l.slots.entries q).state) ≡ is_some (content_of (held_in l.initial.slots.entries q).state);
}
