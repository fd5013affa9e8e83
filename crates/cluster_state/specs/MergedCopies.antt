-- The copies of merged segments that run at nodes, as callers see them.
use Rattle.std.specs.Prelude.{true, false, List, [], ◌∷◌, map, Option, Some, None}
use Rattle.copy_job.specs.Jobs.{Job}
use Rattle.cluster_nodes.specs.declared.nodes.Node.TheVariants.{Primary, Replica, Down}
use Rattle.cluster_nodes.specs.declared.nodes.NodePlace.{NodePlace}
use Rattle.cluster_state.specs.Run.{MergedCopy}

-- what callers see of a copy
abbrev pub told_copy : Job → MergedCopy
told_copy c = record {
  number = c.number;
  first = elim c.want.files [ [] ↦ None | f ∷ fs ↦ Some f.0 ];
  misses = elim c.missing [ [] ↦ false | q ∷ qs ↦ true ];
}

module _ {D : Type 0} where
  -- the copies at the node in a place: none where that is no replica
  abbrev pub place_copies : Option (NodePlace D) → List MergedCopy
  place_copies None = []
  place_copies (Some place) = elim place.node [ Primary p ↦ [] | Replica r ↦ map told_copy r.copies.running | Down d ↦ [] ]

  -- the same of each node, in order
  abbrev pub copies_in : List (Option (NodePlace D)) → List (List MergedCopy)
  copies_in places = map place_copies places
