-- What a commit is, and what a typed state's call answers.
use Rattle.std.specs.Prelude.{◌≡◌, ℕ, ◌<◌, ◌^◌, List, [], ◌∷◌, ◌++◌, Some, Result, Ok, Err}
use Rattle.disk_model.specs.Disk.{Name, Content}
use Rattle.disk_model.specs.declared.dir.DirFault.{DirFault}
use Rattle.file_names.specs.Names.{commit_name_of, pending_name_of}
use Rattle.segment_infos.specs.Files.{AreFilesOf}
use Rattle.segment_infos.specs.Infos.{IsInfosFile}
use Rattle.commit_steps.specs.declared.states.Commit.{Commit}
use Rattle.commit_steps.specs.declared.states.Flight.{Flight}
use Rattle.commit_steps.specs.declared.states.Stopped.{Stopped}
use Rattle.commit_steps.specs.declared.states.CommitFault.{CommitFault}
use Rattle.commit_steps.specs.declared.states.CommitFault.TheVariants.{Memory, Failed}
use Rattle.disk_model.specs.declared.dir.DirFault.TheVariants.{Memory as DirMemory, Failed as DirFailed}

-- the name of a commit's file
abbrev pub own_name : Commit → Name
own_name c = commit_name_of c.number

-- the name that a commit's file has before
abbrev pub pending_name : Commit → Name
pending_name c = pending_name_of c.number

-- a commit has a number that a name can carry, the files that its infos name, and it holds these and its own
pub record IsCommit (c : Commit) : Type 0 where
  pub some : 0 < c.number
  pub below : c.number < 2 ^ 62
  pub files : AreFilesOf c.infos c.files
  pub names : c.names ≡ c.files ++ own_name c ∷ []

-- a content is bytes that spell the commit's infos
pub record Spells (c : Commit) (content : Content) : Type 0 where
  pub bytes : List ℕ
  pub is : content ≡ Some bytes
  pub spelled : IsInfosFile c.infos bytes

-- a commit in flight has the bytes that spell its infos
pub record IsFlight (f : Flight) : Type 0 where
  pub commit : IsCommit f.commit
  pub spelled : IsInfosFile f.commit.infos f.bytes

-- a fault of a commit, as a fault of the directory
abbrev pub fault_of : CommitFault → DirFault
fault_of Memory = DirMemory
fault_of Failed = DirFailed

-- what the directory answered to a typed state's call
abbrev pub call_answer : {S E : Type 0} → Result S (Stopped E) → Result (Unit {0}) DirFault
call_answer (Ok s) = Ok tt
call_answer (Err s) = Err (fault_of s.fault)
