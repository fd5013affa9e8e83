-- Merges in the terms of places.
use Rattle.std.specs.Prelude.{ℕ, ◌≡◌, true, List, Option, Some, None, Result, Vec, IsSome, IsSomeAnd}
use Rattle.std.specs.Global.{Global}
use Rattle.nrt_base.specs.declared.numbers.SegNo.{SegNo}
use Rattle.disk_model.specs.Disk.{Cells}
use Rattle.copy_state.specs.declared.state.CopyState.{CopyState}
use Rattle.copy_job.specs.declared.copying.Part.{Part}
use Rattle.seg_merge.specs.declared.task.MergeTask.{MergeTask}
use Rattle.seg_merge.specs.declared.task.Merged.{Merged}
use Rattle.index_primary.specs.declared.parts.PrimaryParts.{PrimaryParts}
use Rattle.index_primary.specs.declared.parts.PublishFault.{PublishFault}
use Rattle.cluster_nodes.specs.Given.{IsMadeFor, merge_sizes}
use Rattle.cluster_nodes.specs.declared.held.HeldTicket.{HeldTicket}
use Rattle.cluster_nodes.specs.declared.nodes.Node.TheVariants.{Primary, Replica, Down}
use Rattle.cluster_nodes.specs.declared.nodes.NodePlace.{NodePlace}
use Rattle.cluster_nodes.specs.Places.{place_of, IsSlot, HasPrimary}
use Rattle.cluster_nodes.specs.JobChanges.{HasReplica}
use Rattle.cluster_nodes.specs.JobPlaces.{IsPrimaryAt, IsReplicaAt, MovesOne}
use Rattle.replica_node.specs.declared.parts.ReplicaParts.{ReplicaParts}
use Rattle.replica_node.specs.Merges.{copy_at}
use Rattle.node_merges.specs.declared.copies.CopyStep.{CopyStep}
use Rattle.node_merges.specs.declared.copies.CopyStep.TheVariants.{Gone}
use Rattle.node_merges.specs.MergeChanges.{is_copy_of, AsksMerge, ReadiesMerge, MayCut, CutsMerge, MaySend, SendsMerged, IsStepOf, MayTakeMerged, TakesMerged, MaySettle, SettlesMerged, DropsMerged}

module _ {D : Type 0} where
  -- the primary stands in this place, and whatever it is, this is so
  pub record IsPrimaryIn (P : PrimaryParts D → Type 0) (p : ℕ) (places : List (Option (NodePlace D))) : Type 0 where
    pub slot : IsSlot places p
    pub primary : HasPrimary (place_of places p)
    pub may : (q : PrimaryParts D) (held : Vec HeldTicket Global) → place_of places p ≡ Some (record { node = Primary q; held = held }) → P q

  -- the same of a replica
  pub record IsReplicaIn (P : ReplicaParts D → Type 0) (n : ℕ) (places : List (Option (NodePlace D))) : Type 0 where
    pub slot : IsSlot places n
    pub replica : HasReplica (place_of places n)
    pub may : (r : ReplicaParts D) (held : Vec HeldTicket Global) → place_of places n ≡ Some (record { node = Replica r; held = held }) → P r

  -- the primary in this place moved so, and no other node did
  pub record MovesPrimary (Step : PrimaryParts D → PrimaryParts D → Type 0) (p : ℕ) (old new : List (Option (NodePlace D))) : Type 0 where
    pub at : IsPrimaryAt old p
    pub primary : PrimaryParts D
    pub moves : MovesOne p (record { node = Primary primary; held = at.held }) old new
    pub step : Step at.parts primary

  -- the replica in this place moved so, and no other node did
  pub record MovesReplica (Step : ReplicaParts D → ReplicaParts D → Type 0) (n : ℕ) (old new : List (Option (NodePlace D))) : Type 0 where
    pub at : IsReplicaAt old n
    pub replica : ReplicaParts D
    pub moves : MovesOne n (record { node = Replica replica; held = at.held }) old new
    pub step : Step at.parts replica

  -- these are the sizes of the segments of the primary that is there
  abbrev pub AreSizesAt : Option (NodePlace D) → List (Option ℕ) → Type 0
  AreSizesAt None sizes = ⊥
  AreSizesAt (Some place) sizes = elim place.node [ Primary p ↦ sizes ≡ merge_sizes p | Replica r ↦ ⊥ | Down d ↦ ⊥ ]

  -- what is next to do for a copy at the node that is there: nothing, where that is no replica
  abbrev pub IsStepAt : ℕ → ℕ → Option (NodePlace D) → CopyStep → Type 0
  IsStepAt seg number None step = step ≡ Gone
  IsStepAt seg number (Some place) step = elim place.node [ Primary p ↦ step ≡ Gone | Replica r ↦ IsStepOf seg number r step | Down d ↦ step ≡ Gone ]

  -- a copy of this segment runs there under this number
  abbrev pub RunsCopyOf : ℕ → ℕ → Option (NodePlace D) → Type 0
  RunsCopyOf seg number None = ⊥
  RunsCopyOf seg number (Some place) = elim place.node [ Primary p ↦ ⊥ | Replica r ↦ IsSomeAnd (copy_at number r.copies.running) (λ c. is_copy_of seg c ≡ true) | Down d ↦ ⊥ ]
