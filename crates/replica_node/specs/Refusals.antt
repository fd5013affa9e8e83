-- An opening that was refused.
use Rattle.std.specs.Prelude.{ℕ}
use Rattle.nrt_base.specs.Causes.{Rose}
use Rattle.disk_model.specs.Disk.{Cells, reads_of}
use Rattle.replica_node.specs.declared.replica.Refused.{Refused}
use Rattle.replica_opening.specs.Opening.{IsDiskFault, IsStartFaultOf}
use Rattle.replica_opening.specs.Opened.{IsHandedBack}

-- The opening was refused as the directory is, or cut off; what the directory shows stays, and where the disk failed its faults rose.
pub record IsHandedOut {D : Type 0} (cells : D → Cells) (faults : D → ℕ) (dir : D) (r : Refused D) : Type 0 where
  pub fault : IsStartFaultOf (reads_of (cells dir)) r.fault
  pub back : IsHandedBack (cells dir) (cells r.dir)
  pub failed : IsDiskFault r.fault → Rose (faults dir) (faults r.dir)
