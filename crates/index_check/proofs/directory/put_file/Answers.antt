use Rattle.disk_memory.specs.Memory.{cells_in}
use Rattle.index_check.proofs.Filling.{file_put}
use Rattle.index_check.proofs.directory.put_file.Goals as goal

pub returns-in-Ok : goal.returns-in-Ok
returns-in-Ok c = file_put (cells_in c.args.dir.now) (cells_in c.write_new.new.self) c.args.name.now c.args.bytes c.in-Ok.ensures.cells
