-- What a crash, and a reopening, make of a node in its place.
use Rattle.std.specs.Prelude.{ℕ, ◌≡◌, [], List, Option, Some, Vec, IsSomeAnd}
use Rattle.std.specs.Global.{Global}
use Rattle.nrt_base.specs.Causes.{Rose}
use Rattle.nrt_base.specs.declared.numbers.Version.{Version}
use Rattle.disk_model.specs.Disk.{Cells, Image, HasCrashed, restarted}
use Rattle.disk_model.specs.Faults.{Plans, ended}
use Rattle.replica_opening.specs.Opened.{IsHandedBack}
use Rattle.replica_node.specs.declared.parts.ReplicaParts.{ReplicaParts}
use Rattle.replica_node.specs.Starting.{OpensOn}
use Rattle.cluster_nodes.specs.declared.held.HeldTicket.{HeldTicket}
use Rattle.cluster_nodes.specs.declared.nodes.Node.TheVariants.{Replica, Down}
use Rattle.cluster_nodes.specs.declared.nodes.NodePlace.{NodePlace}
use Rattle.cluster_nodes.specs.Places.{place_of, dir_of}
use Rattle.cluster_nodes.specs.JobPlaces.{MovesOne}

module _ {D : Type 0} where
  -- the node crashed: its directory is what a crash leaves of it, nothing is held of it any more, and the other nodes are as before
  pub record CrashesIn (cells : D → Cells) (n : ℕ) (old new : List (Option (NodePlace D))) : Type 0 where
    pub place : NodePlace D
    pub there : place_of old n ≡ Some place
    pub dir : D
    pub held : Vec HeldTicket Global
    pub none : held.items ≡ []
    pub crashed : HasCrashed (cells (dir_of place.node)) (cells dir)
    pub moves : MovesOne n (record { node = Down dir; held = held }) old new

  -- the faults that were planned for the node's disk ended with it
  abbrev pub EndsPlansIn : (D → Plans) → ℕ → List (Option (NodePlace D)) → List (Option (NodePlace D)) → Type 0
  EndsPlansIn planned n old new = IsSomeAnd (place_of old n) (λ x. IsSomeAnd (place_of new n) (λ y. planned (dir_of y.node) ≡ ended (planned (dir_of x.node))))

  -- the node's directory is what a crash with this number leaves of it
  abbrev pub CrashesByPick : (D → Cells) → (D → ℕ → Image) → (n pick : ℕ) → List (Option (NodePlace D)) → List (Option (NodePlace D)) → Type 0
  CrashesByPick cells leaves n pick old new = IsSomeAnd (place_of old n) (λ x. IsSomeAnd (place_of new n) (λ y. cells (dir_of y.node) ≡ restarted (leaves (dir_of x.node) pick)))

  -- the node that was down opened on its directory, at this version; what was held of it is held
  pub record ReopensIn (cells : D → Cells) (n : ℕ) (v : Version) (old new : List (Option (NodePlace D))) : Type 0 where
    pub place : NodePlace D
    pub there : place_of old n ≡ Some place
    pub replica : ReplicaParts D
    pub opens : OpensOn cells (dir_of place.node) replica
    pub version : replica.searchers.point.version ≡ v
    pub moves : MovesOne n (record { node = Replica replica; held = place.held }) old new

  -- the node stays down, as its disk failed: its directory shows what it showed, and what was held of it is held
  pub record StaysDownIn (cells : D → Cells) (faults : D → ℕ) (n : ℕ) (old new : List (Option (NodePlace D))) : Type 0 where
    pub place : NodePlace D
    pub there : place_of old n ≡ Some place
    pub dir : D
    pub back : IsHandedBack (cells (dir_of place.node)) (cells dir)
    pub rose : Rose (faults (dir_of place.node)) (faults dir)
    pub moves : MovesOne n (record { node = Down dir; held = place.held }) old new
