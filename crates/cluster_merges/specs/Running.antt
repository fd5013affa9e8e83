-- What is true of a cluster that runs, over what a path has in hand.
use Rattle.std.specs.Prelude.{List, Option}
use Rattle.disk_model.specs.Disk.{Cells}
use Rattle.merge_tasks.specs.Merging.{Sheet}
use Rattle.merge_tasks.specs.Board.{Board}
use Rattle.cluster_nodes.specs.declared.nodes.NodePlace.{NodePlace}
use Rattle.cluster_state.specs.State.{Shows}
use Rattle.cluster_state.specs.Files.{FilesShow}
use Rattle.cluster_state.specs.Merging.{MergesStand}

-- the ledger, the merges in flight and the nodes are those of one cluster that runs
abbrev pub AllShown : {D : Type 0} → (D → Cells) → Sheet → Board → List (Option (NodePlace D)) → Type 0
AllShown cells b board places = Shows cells b.log b.nodes places × FilesShow cells b.log b.nodes places × MergesStand b.log b.cut b.nodes board places
