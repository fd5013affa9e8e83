use Rattle.std.proofs.Common.{◌≡◌, take, ℕ, List, if◌then◌else◌}
use Rattle.disk_model.specs.Disk.{is_among}
use Rattle.disk_memory.specs.Held.{held_settled}
use Rattle.disk_memory.specs.Table.{held_in}
use Rattle.disk_memory.proofs.table.settle_these.Given as goal

-- the names so far are settled
abbrev pub invariant-loop-name : goal.invariant-loop-name
invariant-loop-name l = (q : List ℕ) → held_in l.slots.entries q ≡ (if is_among (take l.name-index l.names) q then held_settled (held_in l.initial.slots.entries q) else held_in l.initial.slots.entries q)
