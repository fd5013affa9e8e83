-- What is left of a copy whose parts get their own names.
use Rattle.std.specs.Prelude.{◌≡◌, ◌<◌, ◌++◌, ℕ, length, OnOk, Result}
use Rattle.disk_model.specs.Disk.{Name, Cells, reads_of}
use Rattle.file_deleter.specs.Holdings.{times}
use Rattle.copy_state.specs.States.{meta_names}
use Rattle.copy_job.specs.Parts.{placed_to}
use Rattle.copy_job.specs.Jobs.{Job, reads_under, present_of}
use Rattle.replica_node.specs.declared.parts.ReplicaParts.{ReplicaParts}
use Rattle.replica_node.specs.Merges.{copies_with, copies_without}

module _ {D : Type 0} where
  -- the copy of this number runs on, its first parts under their own names, and the pending files are those from before
  pub record StillCopies (number : ℕ) (c : Job) (old new : ReplicaParts D) : Type 0 where
    pub placed : ℕ
    pub copies : new.copies ≡ record old.copies { running = copies_with number (record c { parts = placed_to placed c.parts }) old.copies.running }

  -- the first parts of the copy of this number have their own names, all of them where nothing was refused, and each file reads what it read
  pub record PlacesCopy {T E : Type 0} (cells : D → Cells) (number : ℕ) (c : Job) (old new : ReplicaParts D) (result : Result T E) : Type 0 where
    pub placed : ℕ
    pub copies : new.copies ≡ record old.copies { running = copies_with number (record c { parts = placed_to placed c.parts }) old.copies.running }
    pub all : OnOk result (placed ≡ length c.parts)
    pub reads : (q : Name) → 0 < times (meta_names c.want.files) q → (cells new.dir (present_of (placed_to placed c.parts) q)).now ≡ reads_under c.parts (reads_of (cells old.dir)) q

  -- the copy has ended, and its files are pending
  pub record SettlesCopy (number : ℕ) (c : Job) (old new : ReplicaParts D) : Type 0 where
    pub copies : new.copies ≡ record { running = copies_without number old.copies.running; pending = record old.copies.pending { files = old.copies.pending.files ++ c.want.files } }

  -- the copy has ended, and the pending files are those from before
  pub record EndsCopy (number : ℕ) (old new : ReplicaParts D) : Type 0 where
    pub copies : new.copies ≡ record old.copies { running = copies_without number old.copies.running }
