use Rattle.std.proofs.Common.{rules}
use Rattle.disk_memory.specs.declared.state.Outcome.TheVariants.{Gone}
use Rattle.disk_memory.specs.Held.{with_outcome}
use Rattle.disk_memory.proofs.TableLemmas.{held_changed}
use Rattle.disk_memory.proofs.table.half_remove.Goals as goal

pub returns-in-Some : goal.returns-in-Some
returns-in-Some c = held_changed c.args.slots.now (c.get_mut.follows.lender c.half_remove.new.self) c.args.name.now (with_outcome Gone) c.in-Some.slot.now c.half_remove.new.self c.in-Some.ensures.value c.half_remove.ensures ((c.get_mut.follows.holds c.half_remove.new.self).3 (search rules))
