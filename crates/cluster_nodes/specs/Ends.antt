-- What a crash of a node makes of the others: with the primary the jobs of all replicas stop, and with a replica the copy state of its job ends.
use Rattle.std.specs.Prelude.{ℕ, ◌≡◌, ◌==◌, Bool, true, false, List, Option, Some, None, IfSome, IsSomeAnd, length, Vec}
use Rattle.std.specs.Option.{option_map}
use Rattle.std.specs.Global.{Global}
use Rattle.nrt_base.specs.declared.numbers.NodeNo.{NodeNo}
use Rattle.disk_model.specs.Disk.{Cells}
use Rattle.history_rules.specs.Nodes.{is_at}
use Rattle.index_primary.specs.declared.parts.PrimaryParts.{PrimaryParts}
use Rattle.index_primary.specs.declared.states.Out.{Out}
use Rattle.index_primary.specs.States.{is_out}
use Rattle.replica_node.specs.declared.parts.ReplicaParts.{ReplicaParts}
use Rattle.replica_node.specs.Jobs.{stopped_job}
use Rattle.cluster_nodes.specs.declared.held.HeldTicket.{HeldTicket}
use Rattle.cluster_nodes.specs.declared.nodes.Node.{Node}
use Rattle.cluster_nodes.specs.declared.nodes.Node.TheVariants.{Primary, Replica}
use Rattle.cluster_nodes.specs.declared.nodes.NodePlace.{NodePlace}
use Rattle.cluster_nodes.specs.Places.{place_of, IsSlot, HasPrimary}
use Rattle.cluster_nodes.specs.Outs.{want_at}
use Rattle.cluster_nodes.specs.JobChanges.{given_back, AltersStates, AltersJob}
use Rattle.cluster_nodes.specs.JobPlaces.{IsPrimaryAt, MovesOne}

module _ {D : Type 0} where
  -- the replica's job of a point does not go on, where it has one, and keeps its parts; the replica is as before otherwise
  pub record StopsJob (cells : D → Cells) (old new : ReplicaParts D) : Type 0 where
    pub alters : AltersJob cells old new
    pub stops : new.job ≡ option_map stopped_job old.job
    pub dir : new.dir ≡ old.dir
    pub files : new.files ≡ old.files
    pub jobs : new.jobs ≡ old.jobs
    pub seen : new.seen ≡ old.seen
    pub copies : new.copies ≡ old.copies

  -- so it is of a node that is a replica, and any other is as before
  abbrev pub StopsNodeJob : (D → Cells) → Node D → Node D → Type 0
  StopsNodeJob cells (Replica r) (Replica s) = StopsJob cells r s
  StopsNodeJob cells old new = new ≡ old

  -- so it is of the node that is there; what is held of it is held
  abbrev pub StopsPlaceJob : (D → Cells) → Option (NodePlace D) → Option (NodePlace D) → Type 0
  StopsPlaceJob cells None new = new ≡ None
  StopsPlaceJob cells (Some x) new = IsSomeAnd new (λ y. (y.held ≡ x.held) × StopsNodeJob cells x.node y.node)

  -- the primary took a copy state back, where there was one
  pub record TakesBack (cells : D → Cells) (state : Option Out) (old new : PrimaryParts D) : Type 0 where
    pub alters : AltersStates cells old new
    pub states : new.states ≡ given_back state old.states

  -- so it is of a node, which is the primary
  abbrev pub TakesNodeBack : (D → Cells) → Option Out → Node D → Node D → Type 0
  TakesNodeBack cells state (Primary p) (Primary q) = TakesBack cells state p q
  TakesNodeBack cells state old new = ⊥

  -- the primary stands there, and the copy state of the other node's job, where it has one, is out
  pub record CanTakeBack (p n : ℕ) (places : List (Option (NodePlace D))) : Type 0 where
    pub slot : IsSlot places p
    pub primary : HasPrimary (place_of places p)
    pub out : (q : PrimaryParts D) (held : Vec HeldTicket Global) → place_of places p ≡ Some (record { node = Primary q; held = held }) → IfSome (want_at (place_of places n)) (λ s. is_out s q.states ≡ true)

  -- it took that state back
  pub record TakesBackIn (cells : D → Cells) (p n : ℕ) (old new : List (Option (NodePlace D))) : Type 0 where
    pub at : IsPrimaryAt old p
    pub primary : PrimaryParts D
    pub moves : MovesOne p (record { node = Primary primary; held = at.held }) old new
    pub back : TakesBack cells (want_at (place_of old n)) at.parts primary

  -- the same of the running primary, where one runs
  abbrev pub CanEnd : Option NodeNo → ℕ → List (Option (NodePlace D)) → Type 0
  CanEnd primary n places = IfSome primary (λ p. CanTakeBack p.0 n places)

  -- What becomes of another node: where the primary crashes its job stops, where a replica crashes the primary takes the state of its
  -- job back, and any other is as before.
  abbrev pub NodeOutlives : (D → Cells) → (crashed this : Bool) → Option Out → Node D → Node D → Type 0
  NodeOutlives cells true this state old new = StopsNodeJob cells old new
  NodeOutlives cells false true state old new = TakesNodeBack cells state old new
  NodeOutlives cells false false state old new = new ≡ old

  -- the same of its place; what is held of it is held
  pub record Outlives (cells : D → Cells) (crashed this : Bool) (state : Option Out) (old new : NodePlace D) : Type 0 where
    pub held : new.held ≡ old.held
    pub node : NodeOutlives cells crashed this state old.node new.node

  -- the same of what is there
  abbrev pub PlaceOutlives : (D → Cells) → (crashed this : Bool) → Option Out → Option (NodePlace D) → Option (NodePlace D) → Type 0
  PlaceOutlives cells crashed this state None new = new ≡ None
  PlaceOutlives cells crashed this state (Some x) new = IsSomeAnd new (Outlives cells crashed this state x)

  -- what becomes of all places but that of the node
  abbrev pub OthersOutlive : (D → Cells) → Option NodeNo → ℕ → List (Option (NodePlace D)) → List (Option (NodePlace D)) → Type 0
  OthersOutlive cells primary n old new = (m : ℕ) → (n == m) ≡ false
      → PlaceOutlives cells (is_at primary n) (is_at primary m) (want_at (place_of old n)) (place_of old m) (place_of new m)

  -- so it is, and the node itself is as before
  pub record EndsWith (cells : D → Cells) (primary : Option NodeNo) (n : ℕ) (old new : List (Option (NodePlace D))) : Type 0 where
    pub count : length new ≡ length old
    pub here : place_of new n ≡ place_of old n
    pub others : OthersOutlive cells primary n old new
