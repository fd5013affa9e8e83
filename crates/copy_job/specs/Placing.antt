-- What giving parts their own names does.
use Rattle.std.specs.Prelude.{◌≡◌, ◌≢◌, ◌⊎◌, ℕ, List, [], ◌∷◌, ◌++◌, Some, slice_set}
use Rattle.disk_model.specs.Disk.{Name, Cells}
use Rattle.file_deleter.specs.Holdings.{Holdings, count_of}
use Rattle.file_deleter.specs.Moves.{KeepsFiles, RenamesCount, MovesCounts}
use Rattle.copy_job.specs.declared.part.JobPart.{JobPart}
use Rattle.copy_job.specs.declared.fault.JobFault.{JobFault}
use Rattle.copy_job.specs.declared.fault.JobFault.TheVariants.{Memory, LinkFailed, Damaged, DirFailed, NameClash}
use Rattle.copy_job.specs.Parts.{placed, part_at, present_names, written_names, placed_to}

-- only want of memory and a failure of the disk come
abbrev pub IsPlacingFault : JobFault → Type 0
IsPlacingFault Memory = Unit {0}
IsPlacingFault DirFailed = Unit {0}
IsPlacingFault LinkFailed = ⊥
IsPlacingFault (Damaged name want found) = ⊥
IsPlacingFault (NameClash name ours theirs) = ⊥

-- the part at a place has its own name, with the bytes that it had
pub record PlacesOne (place : ℕ) (parts now : List JobPart) (old new : Holdings) (before after : Cells) : Type 0 where
  pub part : JobPart
  pub at : part_at parts place ≡ Some part
  pub parts_are : now ≡ slice_set parts place (placed part)
  pub moved : ((part.now ≡ part.own) × (new ≡ old) × (after ≡ before)) ⊎ ((part.now ≢ part.own) × RenamesCount part.now part.own old new)
  pub reads : (after part.own).now ≡ (before part.now).now
  pub keeps : KeepsFiles (part.now ∷ part.own ∷ []) old new before after

-- the part at a place was not renamed
pub record PlacesNone (place : ℕ) (parts now : List JobPart) (old new : Holdings) (before after : Cells) : Type 0 where
  pub part : JobPart
  pub at : part_at parts place ≡ Some part
  pub apart : part.now ≢ part.own
  pub parts_are : now ≡ parts
  pub same : (q : Name) → count_of new q ≡ count_of old q
  pub keeps : KeepsFiles (part.now ∷ part.own ∷ []) old new before after

-- the first parts have their own names, with the bytes that they had; counts went with the names, and all else is kept
pub record Places (count : ℕ) (parts now : List JobPart) (old new : Holdings) (before after : Cells) : Type 0 where
  pub parts_are : now ≡ placed_to count parts
  pub moves : MovesCounts (written_names parts) (present_names parts) (present_names now) old new before after
  pub reads : (place : ℕ) (was is : JobPart) → part_at parts place ≡ Some was → part_at now place ≡ Some is → (after is.now).now ≡ (before was.now).now

-- names that ended in those of the parts end in those that the parts have now
abbrev pub KeepsNames : List JobPart → List Name → List JobPart → List Name → Type 0
KeepsNames parts names now new = (front : List Name) → names ≡ front ++ present_names parts → new ≡ front ++ present_names now
