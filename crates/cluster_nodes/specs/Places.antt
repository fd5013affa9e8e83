-- Nodes by their numbers, from 1, and what they search.
use Rattle.std.specs.Prelude.{ℕ, zero, suc, ◌≡◌, ◌≤◌, List, [], Option, Some, None, IsSomeAnd, length, ⊤}
use Rattle.std.specs.List.{slice_get}
use Rattle.seg_reader.specs.Shown.{Shown}
use Rattle.commit_steps.specs.declared.stage.CommitBook.{CommitBook}
use Rattle.searcher_switch.specs.declared.open.Open.{Open}
use Rattle.searcher_switch.specs.declared.searchers.Searchers.{Searchers}
use Rattle.cluster_nodes.specs.declared.nodes.Node.{Node}
use Rattle.cluster_nodes.specs.declared.nodes.Node.TheVariants.{Primary, Replica, Down}
use Rattle.cluster_nodes.specs.declared.nodes.NodePlace.{NodePlace}

-- what a crash and a reopening ask of a node: its commits where it runs, else its directory
pub record Disk (D : Type 0) : Type 0 where
  pub book : Option CommitBook
  pub dir : Option D

module _ {D : Type 0} where
  abbrev pub unwrapped : Option (Option (NodePlace D)) → Option (NodePlace D)
  unwrapped None = None
  unwrapped (Some place) = place

  -- the node of this number with what goes with it, where it is in its place
  abbrev pub place_of : List (Option (NodePlace D)) → ℕ → Option (NodePlace D)
  place_of places zero = None
  place_of places (suc k) = unwrapped (slice_get places k)

  -- there is a place of this number
  abbrev pub IsSlot : List (Option (NodePlace D)) → ℕ → Type 0
  IsSlot places n = (1 ≤ n) × (n ≤ length places)

  -- the primary is there
  abbrev pub HasPrimary : Option (NodePlace D) → Type 0
  HasPrimary None = ⊥
  HasPrimary (Some place) = elim place.node [ Primary p ↦ ⊤ | Replica r ↦ ⊥ | Down d ↦ ⊥ ]

  -- a running node is there
  abbrev pub HasRunning : Option (NodePlace D) → Type 0
  HasRunning None = ⊥
  HasRunning (Some place) = elim place.node [ Primary p ↦ ⊤ | Replica r ↦ ⊤ | Down d ↦ ⊥ ]

  -- what a node searches, where it runs
  abbrev pub searchers_of : Node D → Option (Searchers Shown)
  searchers_of (Primary p) = Some p.searchers
  searchers_of (Replica r) = Some r.searchers
  searchers_of (Down d) = None

  -- these are the segments that the node in a place searches
  abbrev pub AreReadersAt : Option (NodePlace D) → List Shown → Type 0
  AreReadersAt None segs = ⊥
  AreReadersAt (Some place) segs = IsSomeAnd (searchers_of place.node) (λ s. segs ≡ s.point.readers)

  -- its directory
  abbrev pub dir_of : Node D → D
  dir_of (Primary p) = p.dir
  dir_of (Replica r) = r.dir
  dir_of (Down d) = d

  abbrev pub disk_of : Node D → Disk D
  disk_of (Primary p) = record { book = Some p.commits; dir = None }
  disk_of (Replica r) = record { book = Some r.commits; dir = None }
  disk_of (Down d) = record { book = None; dir = Some d }

  -- that of the node in a place
  abbrev pub disk_at : Option (NodePlace D) → Option (Disk D)
  disk_at None = None
  disk_at (Some place) = Some (disk_of place.node)

  -- its open tickets
  abbrev pub tickets_of : Node D → List (Open Shown)
  tickets_of (Primary p) = p.searchers.tickets
  tickets_of (Replica r) = r.searchers.tickets
  tickets_of (Down d) = []
