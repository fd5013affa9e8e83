-- What a call makes of a copy, and of the list in which it stands.
use Rattle.std.specs.Prelude.{◌≡◌, ℕ, List, [], ◌∷◌, length, Some, Result, OnOk, OnErr, slice_set}
use Rattle.file_names.specs.Names.{temp_name_of}
use Rattle.disk_model.specs.Disk.{Name, Cells}
use Rattle.file_deleter.specs.Holdings.{Holdings}
use Rattle.file_deleter.specs.Moves.{MovesCounts}
use Rattle.copy_job.specs.Parts.{ArePlaceable}
use Rattle.copy_job.specs.Placing.{Places}
use Rattle.copy_job.specs.Jobs.{Job, IsJob, job_names, with_part}
use Rattle.replica_node.specs.Merges.{copies_with}

-- the job has one part more, which has its temporary name; or it is as before
pub record PartComes {T E : Type 0} (c now : Job) (name : Name) (bytes : List ℕ) (old new : Holdings) (before after : Cells) (result : Result T E) : Type 0 where
  pub is : IsJob now
  pub ok : OnOk result (now ≡ with_part c name)
  pub err : OnErr result (now ≡ c)
  pub reads : OnOk result ((after (temp_name_of name c.number)).now ≡ Some bytes)
  pub moves : MovesCounts (temp_name_of name c.number ∷ []) (job_names c) (job_names now) old new before after

-- the first parts of the job have their own names; all of them, where nothing was refused
pub record PartsPlaced {T E : Type 0} (c now : Job) (old new : Holdings) (before after : Cells) (result : Result T E) : Type 0 where
  pub is : IsJob now
  pub same : now ≡ record c { parts = now.parts }
  pub ok : OnOk result (Places (length c.parts) c.parts now.parts old new before after)
  pub err : OnErr result ((count : ℕ) × Places count c.parts now.parts old new before after)
  pub able : ArePlaceable new now.parts

-- the copy at this place is another one, and this is true of it
pub record SetsCopy (P : Job → Type 0) (at : ℕ) (was now : List Job) : Type 0 where
  pub copy : Job
  pub all : now ≡ slice_set was at copy
  pub is : P copy

-- the copy of this number is another one, and this is true of it
pub record ChangesCopy (P : Job → Type 0) (number : ℕ) (was now : List Job) : Type 0 where
  pub copy : Job
  pub all : now ≡ copies_with number copy was
  pub is : P copy
