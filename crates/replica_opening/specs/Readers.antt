-- What the readers of a point show of its files.
use Rattle.std.specs.Prelude.{◌≡◌, List, ◌∷◌, ◌++◌}
use Rattle.std.specs.List.{AllZip}
use Rattle.disk_model.specs.Disk.{Name, Content}
use Rattle.segment_infos.specs.declared.infos.SegRecord.{SegRecord}
use Rattle.seg_reader.specs.declared.parts.SegParts.{SegParts}
use Rattle.seg_reader.specs.declared.parts.SegFault.{SegFault}
use Rattle.seg_reader.specs.Shown.{Shown}
use Rattle.seg_reader.specs.Faults.{IsSegmentFault}
use Rattle.seg_reader.specs.Stands.{ArePartsIn, IsSegmentIn}

-- the readers are those of the segments, whose files read so, in order
abbrev pub AreReaders : (Name → Content) → List SegRecord → List Shown → Type 0
AreReaders reads records segs = AllZip (IsSegmentIn reads) records segs

-- the segment's files read so, and are refused with this fault
pub record IsRefusedIn (reads : Name → Content) (r : SegRecord) (fault : SegFault) : Type 0 where
  pub parts : SegParts
  pub files : ArePartsIn reads r parts
  pub refused : IsSegmentFault parts r fault

-- this is the first of the segments whose files are refused
pub record IsFirstRefusedSegment (reads : Name → Content) (records : List SegRecord) (r : SegRecord) (fault : SegFault) : Type 0 where
  pub front : List SegRecord
  pub rest : List SegRecord
  pub are : records ≡ front ++ r ∷ rest
  pub segs : List Shown
  pub read : AreReaders reads front segs
  pub refused : IsRefusedIn reads r fault
