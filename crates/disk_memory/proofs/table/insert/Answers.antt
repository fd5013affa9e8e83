use Rattle.disk_memory.proofs.TableLemmas.{held_put}
use Rattle.disk_memory.proofs.table.insert.Goals as goal

pub returns-clause-ok : goal.returns-clause-ok
returns-clause-ok c = held_put c.args.slots.now c.insert.new.self c.args.name c.args.slot c.in_ok-insert.ensures.updates
