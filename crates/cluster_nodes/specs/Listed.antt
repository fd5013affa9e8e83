-- The names of the files in a node's directory.
use Rattle.std.specs.Prelude.{List, Option, Some, None}
use Rattle.disk_model.specs.Disk.{Name, Cells}
pub use Rattle.disk_model.specs.Listed.{AreNamesOf}
use Rattle.cluster_nodes.specs.declared.nodes.NodePlace.{NodePlace}
use Rattle.cluster_nodes.specs.Places.{dir_of}

module _ {D : Type 0} where
  -- the names are those of the node that is there
  abbrev pub AreNamesAt : (D → Cells) → Option (NodePlace D) → List Name → Type 0
  AreNamesAt cells None names = ⊥
  AreNamesAt cells (Some place) names = AreNamesOf (cells (dir_of place.node)) names
