use Rattle.std.proofs.Common.{rules}
use Rattle.disk_memory.specs.Held.{with_outcome, outcome_of}
use Rattle.disk_memory.proofs.TableLemmas.{held_changed, held_same, on_err}
use Rattle.disk_memory.proofs.table.half_set_in_slot.Goals as goal

pub returns-clause-ok : goal.returns-clause-ok
returns-clause-ok c = held_changed c.args.slots.now (c.get_mut.follows.lender c.half_set.new.self) c.args.name.now (with_outcome (outcome_of c.args.state)) c.in-Some.slot.now c.half_set.new.self c.in-Some.ensures.value c.in_ok-half_set-in-Some.ensures.ok ((c.get_mut.follows.holds c.half_set.new.self).3 (search rules))

pub returns-in_err-half_set-in-Some-clause-err : goal.returns-in_err-half_set-in-Some-clause-err
returns-in_err-half_set-in-Some-clause-err c = on_err _ (held_same c.args.slots.now (c.get_mut.follows.lender c.half_set.new.self) c.args.name.now c.in-Some.slot.now c.half_set.new.self c.in-Some.ensures.value c.in_err-half_set-in-Some.ensures.err (c.get_mut.follows.holds c.half_set.new.self).0)
