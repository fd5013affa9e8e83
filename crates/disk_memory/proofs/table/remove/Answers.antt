use Rattle.std.proofs.Common.{rules}
use Rattle.disk_memory.specs.declared.state.State.TheVariants.{Absent}
use Rattle.disk_memory.specs.Held.{set_to}
use Rattle.disk_memory.proofs.TableLemmas.{held_changed}
use Rattle.disk_memory.proofs.table.remove.Goals as goal

pub returns-in-Some : goal.returns-in-Some
returns-in-Some c = held_changed c.args.slots.now (c.get_mut.follows.lender c.remove.new.self) c.args.name.now (set_to Absent) c.in-Some.slot.now c.remove.new.self c.in-Some.ensures.value c.remove.ensures ((c.get_mut.follows.holds c.remove.new.self).3 (search rules))
