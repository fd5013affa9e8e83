-- A replica apart from what is known of its files.
use Rattle.std.specs.Prelude.{IfSome}
use Rattle.disk_model.specs.Disk.{Cells, reads_of}
use Rattle.segment_infos.specs.Infos.{CanSpell}
use Rattle.searcher_switch.specs.Node.{IsWholeNode}
use Rattle.searcher_switch.specs.Searching.{searcher_names}
use Rattle.replica_node.specs.declared.parts.ReplicaParts.{ReplicaParts}
use Rattle.replica_node.specs.Waiting.{HasNoTemporary, IsWaiting}
use Rattle.replica_node.specs.Replica.{IsPointOf, IsJobAbove, replica_names}

-- the files, the point and the job of a replica
pub record IsCore {D : Type 0} (cells : D → Cells) (p : ReplicaParts D) : Type 0 where
  pub node : IsWholeNode (cells p.dir) p.files (replica_names p) p.commits
  pub point : IsPointOf (reads_of (cells p.dir)) p.infos p.searchers.point
  pub spelled : CanSpell p.infos
  pub lasting : HasNoTemporary (searcher_names p.searchers)
  pub newer : IfSome p.job (IsJobAbove p.searchers.point.version.0)
  pub waits : IfSome p.job (λ j. IsWaiting p.files j.copy)
