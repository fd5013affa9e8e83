use Rattle.std.proofs.Common.{◌≡◌, take}
use Rattle.disk_model.specs.Disk.{reads_of}
use Rattle.index_check.specs.ImagesNow.{ArePutOff, AreReadAs}
use Rattle.index_check.proofs.image.read_files.Given as goal

abbrev pub invariant-loop-name : goal.invariant-loop-name
invariant-loop-name g l = (g.D.Dir.cells l.dir ≡ g.D.Dir.cells l.initial.dir)
    × AreReadAs (reads_of (g.D.Dir.cells l.initial.dir)) (take l.name-index l.names) l.files.items
    × ArePutOff l.name-index (g.D.FaultDir.planned l.dir)
