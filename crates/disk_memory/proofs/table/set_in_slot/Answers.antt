use Rattle.std.proofs.Common.{rules}
use Rattle.disk_memory.specs.Held.{set_to}
use Rattle.disk_memory.proofs.TableLemmas.{held_changed, held_same, on_err}
use Rattle.disk_memory.proofs.table.set_in_slot.Goals as goal

pub returns-clause-ok : goal.returns-clause-ok
returns-clause-ok c = held_changed c.args.slots.now (c.get_mut.follows.lender c.set.new.self) c.args.name.now (set_to c.args.state) c.in-Some.slot.now c.set.new.self c.in-Some.ensures.value c.in_ok-set-in-Some.ensures.ok ((c.get_mut.follows.holds c.set.new.self).3 (search rules))

pub returns-in_err-set-in-Some-clause-err : goal.returns-in_err-set-in-Some-clause-err
returns-in_err-set-in-Some-clause-err c = on_err _ (held_same c.args.slots.now (c.get_mut.follows.lender c.set.new.self) c.args.name.now c.in-Some.slot.now c.set.new.self c.in-Some.ensures.value c.in_err-set-in-Some.ensures.err (c.get_mut.follows.holds c.set.new.self).0)
