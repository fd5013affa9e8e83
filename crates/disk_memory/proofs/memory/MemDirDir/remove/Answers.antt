use Rattle.std.proofs.Common.{Ok, Err, ap, ◌∙◌}
use Rattle.disk_model.specs.declared.dir.DirFault.TheVariants.{Failed}
use Rattle.disk_memory.specs.Table.{Table, cells_of}
use Rattle.disk_memory.specs.Memory.{table_of}
use Rattle.disk_memory.proofs.CellBridge.{removed_cells}
use Rattle.disk_memory.proofs.memory.MemDirDir.remove.Goals as goal

pub returns-clause-cells : goal.returns-clause-cells
returns-clause-cells c = ap (λ (table : Table). cells_of table) c.remove.ensures ∙ removed_cells (table_of c.args.self.now) c.args.name.now (Ok (tt {0}))

pub returns-then-is_met-clause-cells : goal.returns-then-is_met-clause-cells
returns-then-is_met-clause-cells c = ap (λ (table : Table). cells_of table) c.half_remove.ensures ∙ removed_cells {T = Unit {0}} (table_of c.args.self.now) c.args.name.now (Err Failed)
