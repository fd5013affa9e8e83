-- The faults that are planned for the disks of a cluster's nodes.
use Rattle.std.specs.Prelude.{List, map, Option, Some, None}
use Rattle.disk_model.specs.Faults.{Plans}
use Rattle.cluster_nodes.specs.declared.nodes.NodePlace.{NodePlace}
use Rattle.cluster_nodes.specs.Places.{dir_of}
use Rattle.cluster_state.specs.Run.{no_plans}

module _ {D : Type 0} (planned : D → Plans) where
  -- those for the disk of the node in a place
  abbrev pub place_plans : Option (NodePlace D) → Plans
  place_plans None = no_plans
  place_plans (Some place) = planned (dir_of place.node)

  -- the same of each node, in order
  abbrev pub plans_in : List (Option (NodePlace D)) → List Plans
  plans_in places = map place_plans places
