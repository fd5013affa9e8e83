-- What the steps of reading a segment answer.
use Rattle.std.specs.Prelude.{◌≡◌, ℕ, ◌↔◌, ◌⊎◌, List, replicate, Bool, true, Option, Some, None, Result, Ok, Err}
use Rattle.codec_frame.specs.declared.frame.FileFault.{FileFault}
use Rattle.segment_infos.specs.declared.infos.SegRecord.{SegRecord}
use Rattle.seg_reader.specs.declared.parts.SegParts.{SegParts}
use Rattle.seg_reader.specs.declared.parts.SegFile.{SegFile}
use Rattle.seg_reader.specs.declared.parts.SegFile.TheVariants.{Live}
use Rattle.seg_reader.specs.declared.parts.SegFault.{SegFault}
use Rattle.seg_reader.specs.declared.parts.SegFault.TheVariants.{Memory, File, Disagrees}
use Rattle.seg_reader.specs.declared.reading.Contents.{Contents}
use Rattle.seg_reader.specs.Shown.{Shown}
use Rattle.seg_reader.specs.Files.{IsSegmentOf}
use Rattle.seg_reader.specs.Faults.{HasLiveFault, SaysLive, HaveContents, IsFirstOutside, Number, IsSegmentFault}

-- this was answered, unless memory ran out
abbrev pub IsOr : {X : Type 0} → Result X SegFault → Result X SegFault → Type 0
IsOr result due = (result ≡ Err Memory) ⊎ (result ≡ due)

-- reading the live file, where there is one
pub record IsLiveRead (bytes : Option (List ℕ)) (r : SegRecord) (result : Result (Option (List Bool)) SegFault) : Type 0 where
  pub value : (live : Option (List Bool)) → result ≡ Ok live → SaysLive bytes r live
  pub fault : (fault : FileFault) → (result ≡ Err (File Live fault)) ↔ HasLiveFault bytes r fault
  pub each_value : (live : Option (List Bool)) → SaysLive bytes r live → IsOr result (Ok live)
  pub only : (fault : SegFault) → result ≡ Err fault → (fault ≡ Memory) ⊎ ((f : FileFault) × (fault ≡ File Live f))

-- reading all files
pub record IsRead (parts : SegParts) (r : SegRecord) (result : Result Contents SegFault) : Type 0 where
  pub value : (contents : Contents) → result ≡ Ok contents → HaveContents parts r contents
  pub fault : (part : SegFile) (fault : FileFault) → result ≡ Err (File part fault) → IsFirstOutside parts r part fault
  pub only : (part : SegFile) (want found : ℕ) → result ≡ Err (Disagrees part want found) → ⊥
  pub each_value : (contents : Contents) → HaveContents parts r contents → IsOr result (Ok contents)
  pub each_fault : (part : SegFile) (fault : FileFault) → IsFirstOutside parts r part fault → IsOr result (Err (File part fault))

-- comparing the numbers: the first that differs is refused
abbrev pub compared : Option Number → Result (Unit {0}) SegFault
compared None = Ok tt
compared (Some n) = Err (Disagrees n.part n.want n.found)

-- reading a segment
pub record IsSegmentAnswer (parts : SegParts) (r : SegRecord) (result : Result Shown SegFault) : Type 0 where
  pub segment : (shown : Shown) → result ≡ Ok shown → IsSegmentOf parts r shown
  pub fault : (fault : SegFault) → result ≡ Err fault → (fault ≡ Memory) ⊎ IsSegmentFault parts r fault
  pub each_segment : (shown : Shown) → IsSegmentOf parts r shown → IsOr result (Ok shown)
  pub each_fault : (fault : SegFault) → IsSegmentFault parts r fault → IsOr result (Err fault)

-- the live rows of the file, or all rows where there is none
abbrev pub IsLiveOrAll : ℕ → Option (List Bool) → List Bool → Type 0
IsLiveOrAll rows None live = live ≡ replicate rows true
IsLiveOrAll rows (Some given) live = live ≡ given
