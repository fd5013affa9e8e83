-- What a copy of a file answers.
use Rattle.std.specs.Prelude.{◌≡◌, ◌≢◌, ℕ, ◌-◌, ◌==◌, ◌≤◌, if◌then◌else◌, List, length, take, Option, Some, None, Result, Ok, Err}
use Rattle.nrt_base.specs.Causes.{Rose}
use Rattle.codec_frame.specs.Division.{crc_of}
use Rattle.codec_frame.specs.Checking.{be64_at}
use Rattle.copy_state.specs.declared.meta.FileMetaData.{FileMetaData}
use Rattle.link_model.specs.Carrying.{carried_by, is_handed_out, CountsDamages}
use Rattle.link_model.specs.declared.fate.Fate.{Fate}
use Rattle.link_model.specs.declared.fate.Fate.TheVariants.{Whole, Fail, Damage}
use Rattle.link_model.specs.declared.link.LinkFault.{LinkFault}
use Rattle.link_model.specs.declared.link.LinkFault.TheVariants.{Memory as LinkMemory, Failed}
use Rattle.copy_job.specs.declared.copying.Part.{Part}
use Rattle.copy_job.specs.declared.fault.JobFault.{JobFault}
use Rattle.copy_job.specs.declared.fault.JobFault.TheVariants.{Memory, LinkFailed, Damaged, DirFailed, NameClash}
use Rattle.disk_model.specs.Disk.{Name}

-- a fault of a link, as a fault of a job
abbrev pub IsOfLink : LinkFault → JobFault → Type 0
IsOfLink LinkMemory fault = fault ≡ Memory
IsOfLink Failed fault = fault ≡ LinkFailed

-- the front of a file has arrived, as it is carried; damages rose where the altered byte is in it
pub record HasReceived (altered : Option (ℕ × ℕ)) (file : List ℕ) (before now : ℕ) (bytes : List ℕ) : Type 0 where
  pub within : length bytes ≤ length file
  pub bytes_are : bytes ≡ take (length bytes) (carried_by altered file)
  pub damages : CountsDamages (is_handed_out altered 0 (length bytes)) before now

-- the CRC-32 of the bytes before their checksum
abbrev pub computed_of : List ℕ → ℕ
computed_of bytes = crc_of (take (length bytes - 8) bytes)

-- the checksum that stands at the end
abbrev pub written_in : List ℕ → ℕ
written_in bytes = be64_at bytes (length bytes - 8)

-- both are the wanted one, or this is the first that is not
abbrev pub IsDifference : List ℕ → ℕ → Option ℕ → Type 0
IsDifference bytes want None = (computed_of bytes ≡ want) × (written_in bytes ≡ want)
IsDifference bytes want (Some found) = (found ≢ want) × (found ≡ (if computed_of bytes == want then written_in bytes else computed_of bytes))

-- the part is the file of this name
pub record IsPartOf (name : Name) (source : List ℕ) (meta : FileMetaData) (part : Part) : Type 0 where
  pub name_is : part.name ≡ name
  pub bytes_are : part.bytes ≡ source
  pub meta_is : part.meta ≡ meta

-- The link failed in this call exactly where the answer is LinkFailed; where it did not, damages rose exactly where the answer is
-- Damaged, with the name, the checksum of the metadata and another number. Want of memory may come before damage shows.
abbrev pub HasCopyCause : Name → FileMetaData → (faults faults_now damages damages_now : ℕ) → Result Part JobFault → Type 0
HasCopyCause name meta faults faults_now damages damages_now (Ok part) = (faults_now ≡ faults) × (damages_now ≡ damages)
HasCopyCause name meta faults faults_now damages damages_now (Err Memory) = faults_now ≡ faults
HasCopyCause name meta faults faults_now damages damages_now (Err LinkFailed) = Rose faults faults_now
HasCopyCause name meta faults faults_now damages damages_now (Err (Damaged its_name want found)) =
    (faults_now ≡ faults) × Rose damages damages_now × (its_name ≡ name) × (want ≡ meta.checksum) × (found ≢ want)
HasCopyCause name meta faults faults_now damages damages_now (Err DirFailed) = ⊥
HasCopyCause name meta faults faults_now damages damages_now (Err (NameClash its_name ours theirs)) = ⊥

-- where a copy is damaged it tells what these bytes show: the first of their two checksums that is not the wanted one
abbrev pub TellsDifference : (arrived : List ℕ) → (want : ℕ) → Result Part JobFault → Type 0
TellsDifference arrived want (Err (Damaged name its_want found)) = IsDifference arrived want (Some found)
TellsDifference arrived want r = Unit {0}

-- where the fate of the file is known, this comes, or want of memory
abbrev pub ArrivesByFate : Option Fate → Result Part JobFault → Type 0
ArrivesByFate None r = Unit {0}
ArrivesByFate (Some fate) (Err Memory) = Unit {0}
ArrivesByFate (Some Whole) (Ok part) = Unit {0}
ArrivesByFate (Some Fail) (Err LinkFailed) = Unit {0}
ArrivesByFate (Some (Damage at)) (Err (Damaged name want found)) = Unit {0}
ArrivesByFate (Some fate) r = ⊥
