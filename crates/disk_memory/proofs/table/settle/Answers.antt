use Rattle.std.proofs.Common.{sym, ◌∙◌}
use Rattle.disk_memory.specs.Table.{held_in}
use Rattle.disk_memory.proofs.SettleLemmas.{settled_away}
use Rattle.disk_memory.proofs.table.settle.Goals as goal

pub returns-then-not-settle_slot : goal.returns-then-not-settle_slot
returns-then-not-settle_slot c =
    settled_away (held_in c.args.slots.now.entries) (held_in c.settle_slot.new.slots.entries) (held_in c.forget.new.slots.entries) c.args.name.now c.settle_slot.ensures.held (sym c.settle_slot.ensures.there ∙ c.if-not-settle_slot.true) c.forget.ensures
