use Rattle.std.proofs.Common.{◌≡◌, true, take, All, is_some}
use Rattle.disk_memory.specs.Held.{content_of}
use Rattle.disk_memory.specs.Table.{held_in}
use Rattle.disk_memory.proofs.table.has_all.Given as goal

-- the names so far are there
abbrev pub invariant-loop-name : goal.invariant-loop-name
invariant-loop-name l = All (λ q. is_some (content_of (held_in l.slots.entries q).state) ≡ true) (take l.name-index l.names)
