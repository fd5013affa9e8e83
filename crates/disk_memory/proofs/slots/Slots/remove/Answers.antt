use Rattle.disk_memory.specs.declared.state.State.TheVariants.{Absent}
use Rattle.disk_memory.specs.Held.{set_to}
use Rattle.disk_memory.specs.Table.{held_in}
use Rattle.disk_memory.proofs.SettleLemmas.{noted_change}
use Rattle.disk_memory.proofs.slots.Slots.remove.Goals as goal

pub invariant_of-self : goal.invariant_of-self
invariant_of-self c =
    noted_change c.self.inside.changed c.note.new.changed c.self.inside.by_name.entries c.remove.new.slots.entries c.self.invariant c.note.ensures.kept c.args.name.now (set_to Absent (held_in c.self.inside.by_name.entries c.args.name.now)) c.note.ensures.here c.remove.ensures
