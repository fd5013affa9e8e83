-- What a call leaves that ends a job or copies.
use Rattle.std.specs.Prelude.{ℕ, ◌≤◌}
use Rattle.disk_model.specs.Disk.{Name, Cells}
use Rattle.file_deleter.specs.Holdings.{count_of}
use Rattle.searcher_switch.specs.Node.{KeepsBytes}
use Rattle.searcher_switch.specs.Appearing.{NoneAppears}
use Rattle.replica_node.specs.declared.parts.ReplicaParts.{ReplicaParts}
use Rattle.replica_node.specs.Replica.{IsWholeReplica, AreStanding}
use Rattle.replica_node.specs.Sources.{KeepsSource, HoldsOnly}

-- The replica gives files back and does no more: it is whole, and stands and is of its source where it did; no file is counted more often, what is
-- held reads as before, no file appears, and no fault is forgotten.
pub record GivesFilesBack {D : Type 0} (cells : D → Cells) (faults : D → ℕ) (old new : ReplicaParts D) : Type 0 where
  pub whole : IsWholeReplica cells new
  pub standing : AreStanding cells old → AreStanding cells new
  pub sourced : KeepsSource cells old new
  pub held : HoldsOnly old new
  pub fewer : (q : Name) → count_of new.files q ≤ count_of old.files q
  pub stays : KeepsBytes old.files new.files (cells old.dir) (cells new.dir)
  pub appears : NoneAppears (cells old.dir) (cells new.dir)
  pub later : faults old.dir ≤ faults new.dir
