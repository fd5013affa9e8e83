-- A directory in memory without a file.
use Rattle.std.proofs.Common.{◌≡◌, ap}
use Rattle.disk_model.specs.Disk.{Name}
use Rattle.disk_memory.specs.Held.{Held, untouched, cell}
use Rattle.disk_memory.specs.Table.{Table, cells_of}
use Rattle.commit_steps.proofs.TestLaws.{shows_nothing}
use Rattle.node_tests.specs.Seeing.{IsEmpty}

pub empty_table : (table : Table) → ((q : Name) → table q ≡ untouched) → IsEmpty (cells_of table)
empty_table table none = record { none = λ q. ap (λ (h : Held). (cell h).now) (none q); images = shows_nothing table none }
