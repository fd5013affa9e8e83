use Rattle.disk_memory.specs.Held.{set_to}
use Rattle.disk_memory.specs.Table.{held_in}
use Rattle.disk_memory.proofs.SettleLemmas.{noted_on}
use Rattle.disk_memory.proofs.slots.Slots.set.Goals as goal

pub invariant_of-self : goal.invariant_of-self
invariant_of-self c =
    noted_on c.self.inside.changed c.note-has_slot.new.changed c.self.inside.by_name.entries c.set.new.slots.entries c.self.invariant c.note-has_slot.ensures.kept c.set.result c.args.name.now (set_to c.args.state (held_in c.self.inside.by_name.entries c.args.name.now)) c.note-has_slot.ensures.here c.set.ensures.ok c.set.ensures.err
