-- The commit that a directory shows, with its documents.
use Rattle.std.specs.Prelude.{◌≡◌, ◌⊎◌, ℕ, List, Option, Some, None, Result, Err, IsOkAnd, IsSomeAnd, Vec}
use Rattle.std.specs.Global.{Global}
use Rattle.nrt_base.specs.declared.doc.Doc.{Doc}
use Rattle.disk_model.specs.Disk.{Image}
use Rattle.segment_infos.specs.declared.infos.Infos.{Infos}
use Rattle.seg_reader.specs.Stands.{StandsFor}
use Rattle.commit_steps.specs.Found.{ShowsNothing, ShowsCommit}
use Rattle.commit_steps.specs.Recovery.{IsBrokenCommit}
use Rattle.commit_steps.specs.declared.recovery.RecoverFault.{RecoverFault}
use Rattle.commit_steps.specs.declared.recovery.RecoverFault.TheVariants.{Memory as NoMemory, Failed as DiskFailed, Broken, Gone}
use Rattle.index_check.specs.declared.commit.Found.{Found}
use Rattle.index_check.specs.declared.fault.CheckFault.{CheckFault}
use Rattle.index_check.specs.declared.fault.CheckFault.TheVariants.{Memory, Failed, NoFile, File}
use Rattle.index_check.specs.Checked.{IsWrong}

-- what the directory shows: no commit, or this one, with the documents that it stands for
abbrev pub ShowsFound : Image → Option Found → Type 0
ShowsFound reads None = ShowsNothing reads
ShowsFound reads (Some found) = ShowsCommit reads found.number found.infos × StandsFor reads found.infos found.docs

-- the file of the newest commit is refused
abbrev pub HasBrokenInfos : Image → CheckFault → Type 0
HasBrokenInfos reads (File name fault) = IsBrokenCommit reads name fault
HasBrokenInfos reads other = ⊥

-- a fault of the call that reads infos, as the check tells it
abbrev pub fault_of_infos : RecoverFault → CheckFault
fault_of_infos NoMemory = Memory
fault_of_infos DiskFailed = Failed
fault_of_infos (Broken name fault) = File name fault
fault_of_infos (Gone name) = NoFile name

-- the directory shows a commit, and this is wrong with it
pub record ShowsWrong (reads : Image) (fault : CheckFault) : Type 0 where
  pub number : ℕ
  pub infos : Infos
  pub shown : ShowsCommit reads number infos
  pub wrong : IsWrong reads infos fault

-- why the commit that a directory shows is not read
abbrev pub IsCommitFault : Image → CheckFault → Type 0
IsCommitFault reads fault = HasBrokenInfos reads fault ⊎ ShowsWrong reads fault

-- what a call that reads the commit answers: that there is none, or its number, its infos and the documents
abbrev pub IsCommitRead : Image → Option (ℕ × Infos × Vec Doc Global) → Type 0
IsCommitRead reads None = ShowsNothing reads
IsCommitRead reads (Some x) = ShowsCommit reads x.0 x.1 × StandsFor reads x.1 x.2.items

-- this commit with these documents is answered, unless the call was cut off
abbrev pub IsDueCommit : Result (Option (ℕ × Infos × Vec Doc Global)) CheckFault → ℕ → Infos → List Doc → Type 0
IsDueCommit result n infos docs =
    (result ≡ Err Memory) ⊎ ((result ≡ Err Failed) ⊎ IsOkAnd result (λ found. IsSomeAnd found (λ x. (x.0 ≡ n) × (x.1 ≡ infos) × (x.2.items ≡ docs))))
