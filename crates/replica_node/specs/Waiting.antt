-- The parts of a job while they arrive.
use Rattle.std.specs.Prelude.{◌≡◌, ◌⊎◌, ◌<◌, ◌^◌, ℕ, List, Some}
use Rattle.file_names.specs.Names.{temp_name_of}
use Rattle.disk_model.specs.Disk.{Name}
use Rattle.file_deleter.specs.Holdings.{Holdings, count_of, times}
use Rattle.copy_job.specs.declared.part.JobPart.{JobPart}
use Rattle.copy_job.specs.Parts.{part_at}
use Rattle.copy_job.specs.Jobs.{Job}

-- none of the names is a temporary one
pub record HasNoTemporary (names : List Name) : Type 0 where
  pub each : (name : Name) (job : ℕ) → times names (temp_name_of name job) ≡ 0

-- a part that has the temporary name that a job gave it: the job that has it alone holds it, and nobody holds a file of its own name
pub record IsLoose (holdings : Holdings) (p : JobPart) : Type 0 where
  pub job : ℕ
  pub small : job < 2 ^ 64
  pub temporary : p.now ≡ temp_name_of p.own job
  pub once : count_of holdings p.now ≡ 1
  pub free : count_of holdings p.own ≡ 0

-- a job whose parts have their own names or are loose, and nobody holds a file that is still missing
pub record IsWaiting (holdings : Holdings) (j : Job) : Type 0 where
  pub each : (place : ℕ) (p : JobPart) → part_at j.parts place ≡ Some p → (p.now ≡ p.own) ⊎ IsLoose holdings p
  pub missing : (q : Name) → 0 < times j.missing q → count_of holdings q ≡ 0
