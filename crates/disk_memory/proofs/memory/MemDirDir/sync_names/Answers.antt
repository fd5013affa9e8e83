use Rattle.std.proofs.Common.{Ok, ap, ◌∙◌}
use Rattle.disk_memory.specs.Table.{Table, cells_of}
use Rattle.disk_memory.specs.Memory.{table_of}
use Rattle.disk_memory.proofs.CellBridge.{settled_cells}
use Rattle.disk_memory.proofs.memory.MemDirDir.sync_names.Goals as goal

pub returns-clause-table : goal.returns-clause-table
returns-clause-table c = λ i q. c.settle_all.ensures q i

pub returns-clause-cells : goal.returns-clause-cells
returns-clause-cells c = ap (λ (table : Table). cells_of table) (λ i q. c.settle_all.ensures q i) ∙ settled_cells (table_of c.args.self.now) (Ok (tt {0}))
