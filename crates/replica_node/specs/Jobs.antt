-- A job that begins, and why none begins.
use Rattle.std.specs.Prelude.{◌≡◌, ◌≢◌, ◌<◌, ◌==◌, ℕ, nat_lt, if◌then◌else◌, true, false, List, [], ◌∷◌, ◌++◌, Option, Some, None, filter}
use Rattle.std.specs.List.{All}
use Rattle.disk_model.specs.Disk.{Name, Content}
use Rattle.file_deleter.specs.Holdings.{Holdings, count_of}
use Rattle.copy_state.specs.declared.meta.FileMetaData.{FileMetaData}
use Rattle.copy_state.specs.declared.state.CopyState.{CopyState}
use Rattle.copy_state.specs.States.{meta_names}
use Rattle.copy_job.specs.declared.part.JobKind.TheVariants.{Point as PointKind, Merge as MergeKind}
use Rattle.copy_job.specs.declared.fault.JobFault.{JobFault}
use Rattle.copy_job.specs.declared.fault.JobFault.TheVariants.{Memory, LinkFailed, Damaged, DirFailed, NameClash}
use Rattle.copy_job.specs.Jobs.{Job, taken_over}
use Rattle.replica_opening.specs.Known.{HasMeta}
use Rattle.replica_node.specs.declared.job.PointJob.{PointJob}
use Rattle.replica_node.specs.Replica.{IsPointState}

-- the job that begins with this number on a state: it lacks the state's files that nobody holds, and reuses the others
abbrev pub job_on : ℕ → CopyState → Holdings → Job
job_on number state holdings = record {
  number = number;
  kind = PointKind;
  want = state;
  missing = filter (λ q. count_of holdings q == 0) (meta_names state.files);
  parts = [];
  reused = filter (λ q. nat_lt 0 (count_of holdings q)) (meta_names state.files);
}

-- the same of a merged segment
abbrev pub merge_job_on : ℕ → CopyState → Holdings → Job
merge_job_on number state holdings = record (job_on number state holdings) { kind = MergeKind }

-- a job with the parts that it takes over from an older one, where there is one
abbrev pub job_taking : Option PointJob → Job → Job
job_taking None j = j
job_taking (Some old) j = taken_over j old.copy

-- the job where it does not go on
abbrev pub stopped_job : PointJob → PointJob
stopped_job j = record j { stopped = true }

-- the job of a newer point, where it runs
abbrev pub running_point : Option PointJob → Option PointJob
running_point None = None
running_point (Some j) = if j.stopped then None else Some j

-- what is left of the job where a generation is told: a stopped one is gone, where it is above the greatest that was seen
abbrev pub job_seen : (seen generation : ℕ) → Option PointJob → Option PointJob
job_seen seen generation job = if nat_lt seen generation then running_point job else job

-- the job that begins with this number on a state and takes over parts of an older one, with the infos of the state's point
pub record IsPointJob (number : ℕ) (state : CopyState) (holdings : Holdings) (old : Option PointJob) (j : PointJob) : Type 0 where
  pub copy : j.copy ≡ job_taking old (job_on number state holdings)
  pub state_is : IsPointState state j.infos
  pub runs : j.stopped ≡ false

-- where a file is held, it has the metadata that is wanted of it
abbrev pub Agrees : (Name → Content) → Holdings → Name × FileMetaData → Type 0
Agrees reads holdings f = 0 < count_of holdings f.0 → HasMeta reads f.0 f.1

-- the first of the files that is held with other metadata is this one: what is held of it, and what is wanted
pub record IsFirstOther (reads : Name → Content) (holdings : Holdings) (files : List (Name × FileMetaData)) (name : Name) (ours theirs : FileMetaData) : Type 0 where
  pub front : List (Name × FileMetaData)
  pub rest : List (Name × FileMetaData)
  pub files_are : files ≡ front ++ (name, theirs) ∷ rest
  pub agreed : All (Agrees reads holdings) front
  pub held : 0 < count_of holdings name
  pub has : HasMeta reads name ours
  pub other : ours ≢ theirs

-- no job begins on these files: memory is wanting, or this is the first that is held with other metadata
abbrev pub IsStartingFault : (Name → Content) → Holdings → List (Name × FileMetaData) → JobFault → Type 0
IsStartingFault reads holdings files Memory = Unit {0}
IsStartingFault reads holdings files (NameClash name ours theirs) = IsFirstOther reads holdings files name ours theirs
IsStartingFault reads holdings files LinkFailed = ⊥
IsStartingFault reads holdings files (Damaged name want found) = ⊥
IsStartingFault reads holdings files DirFailed = ⊥
