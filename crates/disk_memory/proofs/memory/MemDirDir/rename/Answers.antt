use Rattle.std.proofs.Common.{Ok, Err, ap, ◌∙◌}
use Rattle.disk_model.specs.declared.dir.DirFault.TheVariants.{Failed}
use Rattle.disk_memory.specs.Table.{Table, cells_of}
use Rattle.disk_memory.specs.Memory.{table_of}
use Rattle.disk_memory.proofs.CellBridge.{renamed_cells}
use Rattle.disk_memory.proofs.memory.MemDirDir.rename.Goals as goal

pub returns-clause-cells : goal.returns-clause-cells
returns-clause-cells c = ap (λ (table : Table). cells_of table) c.in_ok-rename.ensures.ok ∙ renamed_cells (table_of c.args.self.now) c.args.from.now c.args.to.now (Ok (tt {0}))

pub returns-then-is_met-clause-cells : goal.returns-then-is_met-clause-cells
returns-then-is_met-clause-cells c = ap (λ (table : Table). cells_of table) c.in_ok-half_rename.ensures.ok ∙ renamed_cells {T = Unit {0}} (table_of c.args.self.now) c.args.from.now c.args.to.now (Err Failed)
