use Rattle.std.proofs.Common.{sym}
use Rattle.replica_node.proofs.Overlaps.{named_there}
use Rattle.replica_node.proofs.overlapping.is_wanted.Goals as goal

pub returns-then-eq : goal.returns-then-eq
returns-then-eq c = named_there c.args.files.now c.loop-file.file-index c.file-item.result c.loop-file-test.true c.file-item.is c.args.name.now (sym c.if-eq.ensures)
