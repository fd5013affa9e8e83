use Rattle.std.proofs.Common.{◌≡◌, ◌++◌}
use Rattle.disk_memory.specs.Table.{names_in}
use Rattle.disk_memory.proofs.table.names.Given as goal

abbrev pub invariant-loop-name : goal.invariant-loop-name
invariant-loop-name l = l.names.items ++ names_in l.name-iterator ≡ names_in l.slots.entries
