-- What a plan for the disk of a node leaves.
use Rattle.std.specs.Prelude.{◌≡◌}
use Rattle.disk_model.specs.Disk.{Cells}
use Rattle.index_primary.specs.Primary.{IsPrimary}
use Rattle.replica_node.specs.Replica.{IsWholeReplica, AreStanding}
use Rattle.replica_node.specs.Sources.{KeepsSource}
use Rattle.cluster_nodes.specs.declared.nodes.Node.{Node}
use Rattle.cluster_nodes.specs.declared.nodes.Node.TheVariants.{Primary, Replica, Down}

module _ {D : Type 0} where
  -- the node is as before but for its directory, in which the same stands
  abbrev pub KeepsButDir : (D → Cells) → Node D → Node D → Type 0
  KeepsButDir cells (Primary p) (Primary q) = (q ≡ record p { dir = q.dir }) × (cells q.dir ≡ cells p.dir) × IsPrimary cells q
  KeepsButDir cells (Replica r) (Replica s) = (s ≡ record r { dir = s.dir }) × (cells s.dir ≡ cells r.dir) × IsWholeReplica cells s × (AreStanding cells r → AreStanding cells s) × KeepsSource cells r s
  KeepsButDir cells (Down d) (Down e) = cells e ≡ cells d
  KeepsButDir cells old new = ⊥
