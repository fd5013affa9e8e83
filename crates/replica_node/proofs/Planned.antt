-- A replica whose directory shows the same.
use Rattle.replica_node.proofs.Cores.{IsCore}
use Rattle.std.proofs.Common.{◌≡◌, sym, subst}
use Rattle.disk_model.specs.Disk.{Cells, reads_of}
use Rattle.searcher_switch.specs.Node.{IsWholeNode}
use Rattle.searcher_switch.specs.Standing.{StandsForSome, IsStanding}
use Rattle.replica_node.specs.declared.parts.ReplicaParts.{ReplicaParts}
use Rattle.replica_node.specs.Replica.{IsPointOf, AreStanding, replica_names}

module _ {D : Type 0} (cells : D → Cells) (p : ReplicaParts D) (dir : D) (same : cells dir ≡ cells p.dir) where
  pub planned : IsCore cells p → IsCore cells (record p { dir = dir })
  planned is = record {
    node = subst (λ (k : Cells). IsWholeNode k p.files (replica_names p) p.commits) (sym same) is.node;
    point = subst (λ (k : Cells). IsPointOf (reads_of k) p.infos p.searchers.point) (sym same) is.point;
    spelled = is.spelled;
    lasting = is.lasting;
    newer = is.newer;
    waits = is.waits;
  }

  pub standing_planned : AreStanding cells p → AreStanding cells (record p { dir = dir })
  standing_planned h = record {
    point = subst (λ (k : Cells). StandsForSome (reads_of k) p.infos) (sym same) h.point;
    commits = subst (λ (k : Cells). IsStanding (reads_of k) p.commits) (sym same) h.commits;
  }
