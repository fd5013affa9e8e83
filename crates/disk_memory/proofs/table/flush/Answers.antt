use Rattle.std.proofs.Common.{rules}
use Rattle.disk_memory.specs.Held.{held_flushed}
use Rattle.disk_memory.proofs.TableLemmas.{held_changed}
use Rattle.disk_memory.proofs.table.flush.Goals as goal

pub returns-in-Some : goal.returns-in-Some
returns-in-Some c = held_changed c.args.slots.now (c.get_mut.follows.lender c.flush.new.self) c.args.name.now held_flushed c.in-Some.slot.now c.flush.new.self c.in-Some.ensures.value c.flush.ensures ((c.get_mut.follows.holds c.flush.new.self).3 (search rules))
