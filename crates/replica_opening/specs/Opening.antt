-- What an opening finds, and what it leaves.
use Rattle.std.specs.Prelude.{◌≡◌, ◌⊎◌, ℕ, List, [], ◌∷◌, ◌++◌, Option, Some, None, Result, Ok, Err}
use Rattle.disk_model.specs.Disk.{Name, Content, Image}
use Rattle.segment_infos.specs.declared.infos.SegRecord.{SegRecord}
use Rattle.segment_infos.specs.declared.infos.Infos.{Infos}
use Rattle.seg_reader.specs.declared.parts.SegFault.{SegFault}
use Rattle.nrt_base.specs.declared.numbers.SegNo.{SegNo}
use Rattle.seg_reader.specs.Shown.{Shown}
use Rattle.seg_reader.specs.Stands.{IsSegmentIn}
use Rattle.commit_steps.specs.declared.states.Commit.{Commit}
use Rattle.commit_steps.specs.declared.recovery.RecoverFault.{RecoverFault}
use Rattle.commit_steps.specs.declared.recovery.RecoverFault.TheVariants.{Memory as RecoverMemory, Failed as RecoverFailed, Broken, Gone}
use Rattle.commit_steps.specs.Found.{ShowsNothing, ShowsCommit}
use Rattle.commit_steps.specs.Recovery.{IsWholeCommit, IsBrokenCommit, IsGone}
use Rattle.replica_opening.specs.declared.fault.StartFault.{StartFault}
use Rattle.replica_opening.specs.declared.fault.StartFault.TheVariants.{Memory, Recover, Segment, Failed}
use Rattle.replica_opening.specs.Readers.{AreReaders, IsRefusedIn, IsFirstRefusedSegment}

-- ---- points
-- the point at which a node stands that finds no commit
abbrev pub opening_infos : Infos
opening_infos = record { generation = record { 0 = 1 }; version = record { 0 = 1 }; counter = 0; segs = [] }

-- the point that a directory gives: the opening point where it shows nothing, and else that of the commit that it shows
abbrev pub FindsPoint : Image → Option ℕ → Infos → Type 0
FindsPoint image None infos = ShowsNothing image × (infos ≡ opening_infos)
FindsPoint image (Some n) infos = ShowsCommit image n infos

-- the number of the last commit, where there is one
abbrev pub number_of_last : Option Commit → Option ℕ
number_of_last None = None
number_of_last (Some c) = Some c.number

-- ---- faults
-- the disk failed, at a list, a load or a removal
abbrev pub IsDiskFault : StartFault → Type 0
IsDiskFault Failed = Unit {0}
IsDiskFault (Recover RecoverFailed) = Unit {0}
IsDiskFault fault = ⊥

-- the opening was cut off: out of memory, or the disk failed
abbrev pub IsStartCutOff : StartFault → Type 0
IsStartCutOff Memory = Unit {0}
IsStartCutOff Failed = Unit {0}
IsStartCutOff (Recover RecoverFailed) = Unit {0}
IsStartCutOff (Recover fault) = ⊥
IsStartCutOff (Segment seg fault) = ⊥

-- the commit that is shown is whole, and this is the first of its segments whose files are refused
pub record HasRefusedSegment (image : Image) (seg : SegNo) (fault : SegFault) : Type 0 where
  pub number : ℕ
  pub infos : Infos
  pub whole : IsWholeCommit image number infos
  pub segment : SegRecord
  pub seg_is : seg ≡ segment.seg
  pub first : IsFirstRefusedSegment image infos.segs segment fault

-- the directory is refused so: its commit is broken, or lacks a file, or a segment of it is refused
abbrev pub IsStartRefusal : Image → StartFault → Type 0
IsStartRefusal image (Recover (Broken name fault)) = IsBrokenCommit image name fault
IsStartRefusal image (Recover (Gone name)) = IsGone image name
IsStartRefusal image (Recover fault) = ⊥
IsStartRefusal image (Segment seg fault) = HasRefusedSegment image seg fault
IsStartRefusal image Memory = ⊥
IsStartRefusal image Failed = ⊥

-- the opening was cut off, or refused with the fault that is due
abbrev pub IsCutOffOr : StartFault → StartFault → Type 0
IsCutOffOr due given = IsStartCutOff given ⊎ (given ≡ due)

-- an opening is refused as the directory is, unless it is cut off
abbrev pub IsStartFaultOf : Image → StartFault → Type 0
IsStartFaultOf image given = IsStartCutOff given ⊎ IsStartRefusal image given

-- a whole commit is shown, and each of its segments reads
pub record OpensCommit (image : Image) : Type 0 where
  pub number : ℕ
  pub infos : Infos
  pub whole : IsWholeCommit image number infos
  pub segs : List Shown
  pub read : AreReaders image infos.segs segs

-- the directory opens: it shows nothing, or a whole commit of which each segment reads
abbrev pub CanOpen : Image → Type 0
CanOpen image = ShowsNothing image ⊎ OpensCommit image

-- what a recovery answers of a directory that opens: it is cut off, or each segment of the commit that it answers reads
abbrev pub RecoversOpen : Image → Result (Option (ℕ × Infos)) StartFault → Type 0
RecoversOpen image (Ok None) = Unit {0}
RecoversOpen image (Ok (Some x)) = (segs : List Shown) × AreReaders image x.1.segs segs
RecoversOpen image (Err fault) = IsStartCutOff fault

-- ---- steps
-- one segment more was read
pub record IsReadNext (reads : Name → Content) (r : SegRecord) (old new : List Shown) : Type 0 where
  pub shown : Shown
  pub more : new ≡ old ++ shown ∷ []
  pub segment : IsSegmentIn reads r shown

-- the reading of a segment was cut off, or its files are refused
abbrev pub IsRefusedNext : (Name → Content) → SegRecord → StartFault → Type 0
IsRefusedNext reads r (Segment seg fault) = (seg ≡ r.seg) × IsRefusedIn reads r fault
IsRefusedNext reads r (Recover fault) = ⊥
IsRefusedNext reads r Memory = Unit {0}
IsRefusedNext reads r Failed = Unit {0}

-- the reading was cut off, or this is the first of the segments that is refused
abbrev pub IsRefusedAmong : (Name → Content) → List SegRecord → StartFault → Type 0
IsRefusedAmong reads records (Segment seg fault) = (r : SegRecord) × (seg ≡ r.seg) × IsFirstRefusedSegment reads records r fault
IsRefusedAmong reads records (Recover fault) = ⊥
IsRefusedAmong reads records Memory = Unit {0}
IsRefusedAmong reads records Failed = Unit {0}

-- this fault is that of the first of the segments that is refused
pub record IsOfFirstRefused (reads : Name → Content) (records : List SegRecord) (due : StartFault) : Type 0 where
  pub segment : SegRecord
  pub fault : SegFault
  pub due_is : due ≡ Segment segment.seg fault
  pub first : IsFirstRefusedSegment reads records segment fault

-- what a recovery finds: nothing, or a whole commit
abbrev pub IsRecovered : Image → Option (ℕ × Infos) → Type 0
IsRecovered image None = ShowsNothing image
IsRecovered image (Some x) = IsWholeCommit image x.0 x.1

-- what a recovery answers where a fault is due: never nothing, a commit only where the fault is one of its segments, and else this fault unless it is cut off
abbrev pub IsRecoveredBefore : Image → StartFault → Result (Option (ℕ × Infos)) StartFault → Type 0
IsRecoveredBefore image due (Ok None) = ⊥
IsRecoveredBefore image due (Ok (Some x)) = IsOfFirstRefused image x.1.segs due
IsRecoveredBefore image due (Err given) = IsCutOffOr due given

-- why no commit is recovered, as a fault of an opening
abbrev pub start_fault_of : RecoverFault → StartFault
start_fault_of RecoverMemory = Memory
start_fault_of RecoverFailed = Recover RecoverFailed
start_fault_of (Broken name fault) = Recover (Broken name fault)
start_fault_of (Gone name) = Recover (Gone name)
