-- The sizes of the primary's segments, of which merges are chosen.
use Rattle.std.specs.Prelude.{ℕ, List, [], ◌∷◌, Option, Some, None}
use Rattle.cluster_nodes.specs.Given.{merge_sizes}
use Rattle.cluster_nodes.specs.declared.nodes.Node.{Node}
use Rattle.cluster_nodes.specs.declared.nodes.Node.TheVariants.{Primary, Replica, Down}
use Rattle.cluster_nodes.specs.declared.nodes.NodePlace.{NodePlace}

module _ {D : Type 0} where
  -- those of this node, where it is the primary
  abbrev pub node_sizes : Node D → List (Option ℕ)
  node_sizes (Primary p) = merge_sizes p
  node_sizes (Replica r) = []
  node_sizes (Down d) = []

  -- those of the primary, where it is there: no two nodes are
  abbrev pub sizes_in : List (Option (NodePlace D)) → List (Option ℕ)
  sizes_in [] = []
  sizes_in (None ∷ places) = sizes_in places
  sizes_in (Some place ∷ places) = elim place.node [ Primary p ↦ merge_sizes p | Replica r ↦ sizes_in places | Down d ↦ sizes_in places ]
