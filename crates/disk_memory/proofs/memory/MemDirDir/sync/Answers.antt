use Rattle.std.proofs.Common.{◌≡◌, true, All, is_some, Ok, ap, ◌∙◌, rules}
use Rattle.disk_memory.specs.Held.{content_of}
use Rattle.disk_memory.specs.Table.{Table, cells_of}
use Rattle.disk_memory.specs.Memory.{table_of}
use Rattle.disk_memory.proofs.CellBridge.{synced_cells}
use Rattle.disk_memory.proofs.memory.MemDirDir.sync.Goals as goal

pub returns-clause-cells : goal.returns-clause-cells
returns-clause-cells c =
    let every : All (λ q. is_some (content_of (table_of c.args.self.now q).state) ≡ true) c.args.names.now = search rules in
    ap (λ (table : Table). cells_of table) (λ i q. c.flush_all.ensures q i) ∙ synced_cells (table_of c.args.self.now) c.args.names.now (Ok (tt {0})) every
