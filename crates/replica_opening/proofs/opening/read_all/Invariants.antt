use Rattle.std.proofs.Common.{◌≡◌, ◌≤◌, take, length}
use Rattle.disk_model.specs.Disk.{reads_of}
use Rattle.replica_opening.specs.Readers.{AreReaders, IsFirstRefusedSegment}
use Rattle.std.specs.List.{flat_map}
use Rattle.segment_infos.specs.Files.{files_of_segment}
use Rattle.replica_opening.specs.Known.{KnowsFiles}
use Rattle.segment_infos.specs.declared.infos.SegRecord.{SegRecord}
use Rattle.seg_reader.specs.declared.parts.SegFault.{SegFault}
use Rattle.replica_opening.proofs.opening.read_all.Given as goal

abbrev pub invariant-loop-record : goal.invariant-loop-record
invariant-loop-record g l = record {
  readers : AreReaders (reads_of (g.D.Dir.cells l.initial.dir)) (take l.record-index l.records) l.point.segs;
  known : KnowsFiles (reads_of (g.D.Dir.cells l.initial.dir)) (flat_map files_of_segment (take l.record-index l.records)) l.point.known;
  behind : (r : SegRecord) (fault : SegFault) (h : IsFirstRefusedSegment (reads_of (g.D.Dir.cells l.initial.dir)) l.records r fault) → l.record-index ≤ length h.front;
  cells : g.D.Dir.cells l.dir ≡ g.D.Dir.cells l.initial.dir;
  later : g.D.Dir.faults l.initial.dir ≤ g.D.Dir.faults l.dir;
}
