-- The directories of a cluster's nodes, as callers see the cluster.
use Rattle.std.specs.Prelude.{ℕ, ◌≡◌, true, List, Option, Some}
use Rattle.disk_model.specs.Disk.{Name, Cells, Image}
use Rattle.segment_infos.specs.declared.infos.Infos.{Infos}
use Rattle.seg_reader.specs.Stands.{StandsFor}
use Rattle.replica_node.specs.Given.{FindsPoint}
use Rattle.history_rules.specs.Nodes.{Past}
use Rattle.history_rules.specs.Points.{documents_at}
use Rattle.history_book.specs.Laws.{may_find}
use Rattle.cluster_nodes.specs.declared.nodes.NodePlace.{NodePlace}
use Rattle.cluster_nodes.specs.Places.{place_of, dir_of}
use Rattle.cluster_state.specs.Met.{ClusterStands}
use Rattle.cluster_state.specs.Run.{Run, names_at}

-- nodes stand in their places as this cluster shows them, the directory is that of the one of this number, and callers are told the names of
-- its files
pub record IsNodeDir {D : Type 0} (cells : D → Cells) (names : D → List Name) (r : Run) (n : ℕ) (dir : D) : Type 0 where
  pub places : List (Option (NodePlace D))
  pub stands : ClusterStands cells r.nodes places r.rest.cut r.rest.tasks r.log
  pub place : NodePlace D
  pub there : place_of places n ≡ Some place
  pub is : dir ≡ dir_of place.node
  pub told : names_at n r ≡ names dir

-- the directory shows a commit, or none, of a version that a reopening of the node may find, and stands for the documents of that version
pub record FindsVersion (past : Past) (n : ℕ) (reads : Image) : Type 0 where
  pub number : Option ℕ
  pub infos : Infos
  pub finds : FindsPoint reads number infos
  pub found : may_find n infos.version.0 past ≡ true
  pub stands : StandsFor reads infos (documents_at past infos.version.0)
