use Rattle.std.proofs.Common.{refl}
use Rattle.disk_memory.specs.Held.{held_settled}
use Rattle.disk_memory.specs.Table.{held_in}
use Rattle.disk_memory.proofs.FlushLemmas.{change_more}
use Rattle.disk_memory.proofs.table.settle_these.Goals as goal

pub loop-name-preserved : goal.loop-name-preserved
loop-name-preserved c =
    change_more held_settled (λ h. refl) (held_in c.args.slots.now.entries) (held_in c.loop-name.slots.entries) (held_in c.settle.new.slots.entries) c.args.names.now c.loop-name.name-index c.name-item.result c.loop-name-test.true c.name-item.is c.settle.ensures c.loop-name.invariant
