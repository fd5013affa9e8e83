use Rattle.disk_memory.proofs.SettleLemmas.{held_forgotten}
use Rattle.disk_memory.proofs.table.forget.Goals as goal

pub returns : goal.returns
returns c = held_forgotten c.args.slots.now c.remove.new.self c.args.name.now c.remove.ensures.updates
