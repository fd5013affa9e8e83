-- The states that tests make.
use Rattle.std.specs.Prelude.{◌≡◌, ◌<◌, ◌≤◌, List, Some, length}
use Rattle.std.specs.List.{All}
use Rattle.disk_model.specs.Disk.{Name}
use Rattle.copy_state.specs.declared.meta.FileMetaData.{FileMetaData}
use Rattle.file_deleter.specs.Holdings.{times}
use Rattle.copy_state.specs.Meta.{IsMetaOf}
use Rattle.copy_state.specs.States.{meta_names, meta_in}
use Rattle.copy_job.specs.declared.copying.Part.{Part}
use Rattle.copy_job.specs.Jobs.{Job}

-- the files have these names, which are short
pub record HaveShortNames (names : List Name) (files : List (Name × FileMetaData)) : Type 0 where
  pub names_are : meta_names files ≡ names
  pub short : All (λ q. length q ≤ 46) names

-- the job lacks the part, whose name is short, and wants the metadata that its bytes have
pub record IsDuePart (j : Job) (part : Part) : Type 0 where
  pub missing : 0 < times j.missing part.name
  pub wanted : meta_in j.want.files part.name ≡ Some part.meta
  pub meta_is : IsMetaOf part.bytes part.meta
  pub short : length part.name ≤ 46
