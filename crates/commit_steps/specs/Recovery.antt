-- What an opening finds.
use Rattle.std.specs.Prelude.{◌≡◌, ◌⊎◌, ℕ, List, Option, Some, None, Result, Ok, Err}
use Rattle.disk_model.specs.Disk.{Name, Image, first_missing}
use Rattle.file_names.specs.Names.{commit_name_of}
use Rattle.codec_frame.specs.Checking.{IsFirstFault}
use Rattle.codec_frame.specs.declared.frame.FileFault.{FileFault}
use Rattle.codec_frame.specs.declared.frame.FileFault.TheVariants.{Frame, Body}
use Rattle.segment_infos.specs.Infos.{infos_wanted, IsOfNoInfos}
use Rattle.segment_infos.specs.Files.{AreFilesOf}
use Rattle.segment_infos.specs.declared.infos.Infos.{Infos}
use Rattle.commit_steps.specs.declared.recovery.RecoverFault.{RecoverFault}
use Rattle.commit_steps.specs.declared.recovery.RecoverFault.TheVariants.{Memory, Failed, Broken, Gone}
use Rattle.commit_steps.specs.Found.{ShowsNothing, IsNewest, ShowsCommit}

-- bytes are refused as a file of infos, with this fault
abbrev pub IsRefused : List ℕ → FileFault → Type 0
IsRefused bytes (Frame fault) = IsFirstFault infos_wanted bytes fault
IsRefused bytes Body = IsOfNoInfos bytes

-- the commit that is shown is whole: each file that its infos name is there
pub record IsWholeCommit (image : Image) (n : ℕ) (infos : Infos) : Type 0 where
  pub shown : ShowsCommit image n infos
  pub files : List Name
  pub named : AreFilesOf infos files
  pub there : first_missing image files ≡ None

-- the newest `segments_N` has this name, and its bytes are refused
pub record IsBrokenCommit (image : Image) (name : Name) (fault : FileFault) : Type 0 where
  pub number : ℕ
  pub bytes : List ℕ
  pub newest : IsNewest image number bytes
  pub name_is : name ≡ commit_name_of number
  pub refused : IsRefused bytes fault

-- the commit that is shown lacks this file, the first in ascending order
pub record IsGone (image : Image) (name : Name) : Type 0 where
  pub number : ℕ
  pub infos : Infos
  pub shown : ShowsCommit image number infos
  pub files : List Name
  pub named : AreFilesOf infos files
  pub first : first_missing image files ≡ Some name

-- the call was cut off: out of memory, or the disk failed
abbrev pub IsCutOff : RecoverFault → Type 0
IsCutOff Memory = Unit {0}
IsCutOff Failed = Unit {0}
IsCutOff (Broken name fault) = ⊥
IsCutOff (Gone name) = ⊥

-- this is answered, unless the call was cut off
abbrev pub IsAnswered : {X : Type 0} → (result answer : Result X RecoverFault) → Type 0
IsAnswered result answer = (result ≡ Err Memory) ⊎ ((result ≡ Err Failed) ⊎ (result ≡ answer))

-- a refusal says how the directory is broken, if it is not one of memory or of the disk
abbrev pub SaysHowBroken : Image → RecoverFault → Type 0
SaysHowBroken image (Broken name fault) = IsBrokenCommit image name fault
SaysHowBroken image (Gone name) = IsGone image name
SaysHowBroken image Memory = Unit {0}
SaysHowBroken image Failed = Unit {0}

-- an opening answers what the directory shows, or how it is broken
abbrev pub Recovers : Image → Result (Option (ℕ × Infos)) RecoverFault → Type 0
Recovers image (Ok None) = ShowsNothing image
Recovers image (Ok (Some x)) = IsWholeCommit image x.0 x.1
Recovers image (Err fault) = SaysHowBroken image fault

-- reading the file of commit N answers the infos that are shown, or why it is refused, unless it is cut off
pub record IsLoaded (image : Image) (n : ℕ) (result : Result Infos RecoverFault) : Type 0 where
  pub each_infos : (infos : Infos) → ShowsCommit image n infos → IsAnswered result (Ok infos)
  pub each_fault : (name : Name) (fault : FileFault) → IsBrokenCommit image name fault → IsAnswered result (Err (Broken name fault))

-- an opening answers what the directory shows, or how it is broken, and each such thing unless it is cut off
pub record IsRecoverAnswer (image : Image) (result : Result (Option (ℕ × Infos)) RecoverFault) : Type 0 where
  pub recovers : Recovers image result
  pub none : ShowsNothing image → IsAnswered result (Ok None)
  pub whole : (n : ℕ) (infos : Infos) → IsWholeCommit image n infos → IsAnswered result (Ok (Some (n, infos)))
  pub broken : (name : Name) (fault : FileFault) → IsBrokenCommit image name fault → IsAnswered result (Err (Broken name fault))
  pub gone : (name : Name) → IsGone image name → IsAnswered result (Err (Gone name))
