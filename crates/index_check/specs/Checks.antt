-- What a check of an image says.
use Rattle.std.specs.Prelude.{◌≡◌, ◌⊎◌, ℕ, List, Option, Some, None, Result, Ok, Err, IfOk}
use Rattle.nrt_base.specs.declared.doc.Doc.{Doc}
use Rattle.disk_model.specs.Disk.{Image}
use Rattle.segment_infos.specs.declared.infos.Infos.{Infos}
use Rattle.seg_reader.specs.Stands.{StandsFor}
use Rattle.commit_steps.specs.Found.{ShowsNothing, ShowsCommit}
use Rattle.index_check.specs.Images.{NamedFile, IsImageOf}
use Rattle.index_check.specs.declared.fault.CheckFault.{CheckFault}
use Rattle.index_check.specs.Commit.{IsCommitFault}
use Rattle.index_check.specs.declared.checking.Checked.{Checked}
use Rattle.index_check.specs.Directory.{directory_with}
use Rattle.index_check.specs.Lines.{none_line, commit_line, name_and_number, fault_line}

-- the directory shows a commit and stands for its documents, and the line has its numbers
pub record TellsCommit (reads : Image) (line : List ℕ) : Type 0 where
  pub number : ℕ
  pub infos : Infos
  pub docs : List Doc
  pub shown : ShowsCommit reads number infos
  pub stands : StandsFor reads infos docs
  pub line_is : line ≡ commit_line number infos docs

-- this is wrong with the commit that the directory shows, and the line names the file and the fault
pub record TellsFault (reads : Image) (fault : CheckFault) (line : List ℕ) : Type 0 where
  pub wrong : IsCommitFault reads fault
  pub name : List ℕ
  pub number : ℕ
  pub called : name_and_number fault ≡ Some (name, number)
  pub line_is : line ≡ fault_line name number

-- what is found in a directory, and the line that says so: no commit, or a commit, or what is wrong with it
abbrev pub IsToldOf : Image → Option CheckFault → List ℕ → Type 0
IsToldOf reads None line = (ShowsNothing reads × (line ≡ none_line)) ⊎ TellsCommit reads line
IsToldOf reads (Some fault) line = TellsFault reads fault line

-- the directory is told of so: what is wrong with it, if anything is, and the line
abbrev pub IsCheckOf : Image → Checked → Type 0
IsCheckOf reads checked = IsToldOf reads checked.fault checked.line

-- there is no commit, and the line says so
pub record TellsNoCommit (checked : Checked) : Type 0 where
  pub fault_is : checked.fault ≡ None
  pub line_is : checked.line ≡ none_line

-- nothing is wrong, and the line has the numbers of this commit
pub record TellsNumbers (n : ℕ) (infos : Infos) (docs : List Doc) (checked : Checked) : Type 0 where
  pub fault_is : checked.fault ≡ None
  pub line_is : checked.line ≡ commit_line n infos docs

-- the line names the file and the number of this fault
pub record IsRefusalOf (fault : CheckFault) (checked : Checked) : Type 0 where
  pub fault_is : checked.fault ≡ Some fault
  pub name : List ℕ
  pub number : ℕ
  pub called : name_and_number fault ≡ Some (name, number)
  pub line_is : checked.line ≡ fault_line name number

-- the bytes are the image of files, and this is what a check of their directory says
pub record IsCheckOfImage (bytes : List ℕ) (checked : Checked) : Type 0 where
  pub files : List NamedFile
  pub image : IsImageOf bytes files
  pub is : IsCheckOf (directory_with files) checked

-- a check of a directory: what it says is so, and whatever is so it says, unless memory runs out
pub record IsExactCheck {E : Type 0} (memory : E) (reads : Image) (result : Result Checked E) : Type 0 where
  pub told : IfOk result (IsCheckOf reads)
  pub each : (checked : Checked) → IsCheckOf reads checked → (result ≡ Err memory) ⊎ (result ≡ Ok checked)
