use Rattle.std.proofs.Common.{◌≡◌, ◌++◌}
use Rattle.std.specs.Vec.Iter.{into_iter_items}
use Rattle.disk_model.specs.Disk.{reads_of}
use Rattle.disk_memory.specs.Memory.{cells_in}
use Rattle.index_check.specs.Directory.{directory_with}
use Rattle.index_check.proofs.directory.put_files.Given as goal

abbrev pub invariant-loop-name : goal.invariant-loop-name
invariant-loop-name l = record {
  reads : reads_of (cells_in l.dir) ≡ directory_with l.yielded;
  left : l.fn.files.items ≡ l.yielded ++ into_iter_items l.name-iterator;
}
