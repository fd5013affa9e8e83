use Rattle.std.proofs.Common.{rules}
use Rattle.disk_memory.specs.Held.{held_settled}
use Rattle.disk_memory.proofs.TableLemmas.{held_changed}
use Rattle.disk_memory.proofs.table.settle_slot.Goals as goal

pub returns-in-Some-clause-held : goal.returns-in-Some-clause-held
returns-in-Some-clause-held c = held_changed c.args.slots.now (c.get_mut.follows.lender c.settle.new.self) c.args.name.now held_settled c.in-Some.slot.now c.settle.new.self c.in-Some.ensures.value c.settle.ensures ((c.get_mut.follows.holds c.settle.new.self).3 (search rules))
