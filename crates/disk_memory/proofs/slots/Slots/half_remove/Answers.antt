use Rattle.disk_memory.specs.declared.state.Outcome.TheVariants.{Gone}
use Rattle.disk_memory.specs.Held.{with_outcome}
use Rattle.disk_memory.specs.Table.{held_in}
use Rattle.disk_memory.proofs.SettleLemmas.{noted_change}
use Rattle.disk_memory.proofs.slots.Slots.half_remove.Goals as goal

pub invariant_of-self : goal.invariant_of-self
invariant_of-self c =
    noted_change c.self.inside.changed c.note.new.changed c.self.inside.by_name.entries c.half_remove.new.slots.entries c.self.invariant c.note.ensures.kept c.args.name.now (with_outcome Gone (held_in c.self.inside.by_name.entries c.args.name.now)) c.note.ensures.here c.half_remove.ensures
