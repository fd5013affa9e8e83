use Rattle.std.proofs.Common.{◌≡◌, ◌≤◌, take}
use Rattle.disk_model.specs.Disk.{reads_of}
use Rattle.replica_opening.specs.Readers.{AreReaders}
use Rattle.replica_opening.proofs.sharing.readers_of.Given as goal

abbrev pub invariant-loop-record : goal.invariant-loop-record
invariant-loop-record g l = record {
  readers : AreReaders (reads_of (g.D.Dir.cells l.initial.dir)) (take l.record-index l.records) l.segs.items;
  cells : g.D.Dir.cells l.dir ≡ g.D.Dir.cells l.initial.dir;
  later : g.D.Dir.faults l.initial.dir ≤ g.D.Dir.faults l.dir;
}
