-- A point over calls that leave its files.
use Rattle.std.proofs.Common.{◌≡◌, ◌<◌}
use Rattle.disk_model.specs.Disk.{Name, Cells, reads_of}
use Rattle.file_deleter.specs.Holdings.{times}
use Rattle.segment_infos.specs.declared.infos.Infos.{Infos}
use Rattle.seg_reader.specs.Shown.{Shown}
use Rattle.searcher_switch.specs.declared.open.SearchPoint.{SearchPoint}
use Rattle.searcher_switch.proofs.Standing.{segments_along}
use Rattle.replica_node.specs.Replica.{IsPointOf}
use Rattle.replica_node.proofs.Named.{file_counted}

-- a point whose files are held reads the same
pub point_along : (a b : Cells) (infos : Infos) (point : SearchPoint Shown) → IsPointOf (reads_of a) infos point → ((q : Name) → 0 < times point.names q → (b q).now ≡ (a q).now) → IsPointOf (reads_of b) infos point
point_along a b infos point is same = record {
  version = is.version;
  names = is.names;
  readers = segments_along (reads_of a) (reads_of b) infos.segs point.readers (λ q named. same q (file_counted infos point.names is.names q named)) is.readers;
}
