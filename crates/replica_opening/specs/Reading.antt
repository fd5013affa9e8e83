-- What reading a segment answers.
use Rattle.std.specs.Prelude.{◌≡◌, ◌⊎◌}
use Rattle.disk_model.specs.Disk.{Name, Content}
use Rattle.segment_infos.specs.declared.infos.SegRecord.{SegRecord}
use Rattle.seg_reader.specs.Files.{IsSegmentOf}
use Rattle.seg_reader.specs.Stands.{ArePartsIn, IsSegmentIn}
use Rattle.replica_opening.specs.declared.reading.LoadFault.{LoadFault}
use Rattle.replica_opening.specs.declared.reading.SegmentRead.{SegmentRead}
use Rattle.replica_opening.specs.declared.reading.LoadFault.TheVariants.{Memory, Failed, Refused}
use Rattle.seg_reader.specs.declared.parts.SegFault.{SegFault}
use Rattle.seg_reader.specs.declared.parts.SegFault.TheVariants.{Memory as SegMemory, File, Disagrees}
use Rattle.replica_opening.specs.Readers.{IsRefusedIn}

-- the bytes are those of the segment's files, and the segment is what they show
pub record IsReadFrom (reads : Name → Content) (r : SegRecord) (read : SegmentRead) : Type 0 where
  pub parts : ArePartsIn reads r read.parts
  pub files : IsSegmentOf read.parts r read.segment
  pub segment : IsSegmentIn reads r read.segment

-- the reading was cut off: out of memory, or the disk failed
abbrev pub IsReadCutOff : LoadFault → Type 0
IsReadCutOff Memory = Unit {0}
IsReadCutOff Failed = Unit {0}
IsReadCutOff (Refused fault) = ⊥

-- the reading was cut off, or the segment's files are refused so
abbrev pub IsReadRefusal : (Name → Content) → SegRecord → LoadFault → Type 0
IsReadRefusal reads r (Refused fault) = IsRefusedIn reads r fault
IsReadRefusal reads r Memory = Unit {0}
IsReadRefusal reads r Failed = Unit {0}

-- the reading was cut off, or refused with this fault
abbrev pub IsReadCutOffOr : SegFault → LoadFault → Type 0
IsReadCutOffOr fault why = IsReadCutOff why ⊎ (why ≡ Refused fault)

-- a fault of a segment, as one of its reading
abbrev pub refusal_of : SegFault → LoadFault
refusal_of SegMemory = Memory
refusal_of (File part fault) = Refused (File part fault)
refusal_of (Disagrees part want found) = Refused (Disagrees part want found)
