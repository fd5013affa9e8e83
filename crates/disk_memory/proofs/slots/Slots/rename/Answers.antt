use Rattle.disk_memory.specs.declared.state.State.TheVariants.{Absent}
use Rattle.disk_memory.specs.Held.{set_to}
use Rattle.disk_memory.specs.Table.{held_in}
use Rattle.disk_memory.proofs.SettleLemmas.{noted_on_both}
use Rattle.disk_memory.proofs.slots.Slots.rename.Goals as goal

pub invariant_of-self : goal.invariant_of-self
invariant_of-self c =
    noted_on_both c.self.inside.changed c.note-has_slot.new.changed c.self.inside.by_name.entries c.rename.new.slots.entries c.self.invariant (λ q e. c.note-has_slot.ensures.kept q (c.note.ensures.kept q e)) c.rename.result c.args.from.now c.args.to.now
    (set_to (held_in c.self.inside.by_name.entries c.args.from.now).state (held_in c.self.inside.by_name.entries c.args.to.now)) (set_to Absent (held_in c.self.inside.by_name.entries c.args.from.now))
    (c.note-has_slot.ensures.kept c.args.from.now c.note.ensures.here) c.note-has_slot.ensures.here c.rename.ensures.ok c.rename.ensures.err
