-- The names of the files in the directories of a cluster's nodes.
use Rattle.std.specs.Prelude.{List, [], map, Option, Some, None}
use Rattle.disk_model.specs.Disk.{Name}
use Rattle.cluster_nodes.specs.declared.nodes.NodePlace.{NodePlace}
use Rattle.cluster_nodes.specs.Places.{dir_of}

module _ {D : Type 0} (names : D → List Name) where
  -- those in the directory of the node in a place
  abbrev pub place_names : Option (NodePlace D) → List Name
  place_names None = []
  place_names (Some place) = names (dir_of place.node)

  -- the same of each node, in order
  abbrev pub names_in : List (Option (NodePlace D)) → List (List Name)
  names_in places = map place_names places
