-- What ends at the other nodes where one crashes, and with the primary of the merges: their copies of merged segments at all nodes.
use Rattle.std.specs.Prelude.{ℕ, ◌≡◌, ◌==◌, true, false, Bool, List, [], Option, Some, None, IsSomeAnd, length}
use Rattle.std.specs.List.{list_any}
use Rattle.nrt_base.specs.declared.numbers.NodeNo.{NodeNo}
use Rattle.disk_model.specs.Disk.{Cells}
use Rattle.history_rules.specs.Nodes.{is_at}
use Rattle.searcher_switch.specs.Appearing.{NoneAppears}
use Rattle.replica_node.specs.declared.parts.ReplicaParts.{ReplicaParts}
use Rattle.replica_node.specs.Merges.{copy_at}
use Rattle.replica_node.specs.Replica.{IsWholeReplica, AreStanding}
use Rattle.replica_node.specs.Sources.{KeepsSource}
use Rattle.merge_tasks.specs.declared.tasks.OpenMerge.{OpenMerge}
use Rattle.merge_tasks.specs.declared.tasks.Sent.{Sent}
use Rattle.merge_tasks.specs.declared.tasks.Spread.{Spread}
use Rattle.merge_tasks.specs.Board.{Board, is_sent_to}
use Rattle.cluster_nodes.specs.declared.nodes.Node.{Node}
use Rattle.cluster_nodes.specs.declared.nodes.Node.TheVariants.{Replica}
use Rattle.cluster_nodes.specs.declared.nodes.NodePlace.{NodePlace}
use Rattle.cluster_nodes.specs.Ends.{EndsWith}
use Rattle.cluster_nodes.specs.Places.{place_of}
use Rattle.cluster_state.specs.Merging.{RunsNoOther}

-- one of these merges sent a copy under this number to the node
abbrev pub are_sent : ℕ → ℕ → List OpenMerge → Bool
are_sent n job rows = list_any (λ r. is_sent_to n job r.spread) rows

module _ {D : Type 0} where
  -- a replica lost copies of merged segments, and nothing else
  pub record LosesCopies (cells : D → Cells) (old new : ReplicaParts D) : Type 0 where
    pub others : new ≡ record old { dir = new.dir; files = new.files; copies = new.copies }
    pub runs : RunsNoOther old.copies.running new.copies.running
    pub whole : IsWholeReplica cells new
    pub standing : AreStanding cells old → AreStanding cells new
    pub sourced : KeepsSource cells old new
    pub appears : NoneAppears (cells old.dir) (cells new.dir)

  -- this copy does not run any more, where it was sent to the replica, which lost nothing but copies
  pub record EndsSent (cells : D → Cells) (n : ℕ) (sent : Sent) (old new : ReplicaParts D) : Type 0 where
    pub loses : LosesCopies cells old new
    pub gone : (sent.node.0 == n) ≡ true → copy_at sent.job new.copies.running ≡ None

  -- so it is of each copy that a merge sent
  pub record EndsSpread (cells : D → Cells) (n : ℕ) (spread : Option Spread) (old new : ReplicaParts D) : Type 0 where
    pub loses : LosesCopies cells old new
    pub gone : (k : ℕ) → is_sent_to n k spread ≡ true → copy_at k new.copies.running ≡ None

  -- no copy that these merges sent to the replica runs any more, and it lost nothing but copies
  pub record EndsCopies (cells : D → Cells) (n : ℕ) (rows : List OpenMerge) (old new : ReplicaParts D) : Type 0 where
    pub loses : LosesCopies cells old new
    pub gone : (k : ℕ) → are_sent n k rows ≡ true → copy_at k new.copies.running ≡ None

  -- so it is of a node that is a replica, and any other is as before
  abbrev pub NodeLoses : (D → Cells) → ℕ → List OpenMerge → Node D → Node D → Type 0
  NodeLoses cells n rows (Replica r) (Replica s) = EndsCopies cells n rows r s
  NodeLoses cells n rows old new = new ≡ old

  -- so it is of the node that is there; what is held of it is held
  abbrev pub PlaceLoses : (D → Cells) → ℕ → List OpenMerge → Option (NodePlace D) → Option (NodePlace D) → Type 0
  PlaceLoses cells n rows None new = new ≡ None
  PlaceLoses cells n rows (Some x) new = IsSomeAnd new (λ y. (y.held ≡ x.held) × NodeLoses cells n rows x.node y.node)

  -- the same of all nodes
  pub record AllLose (cells : D → Cells) (rows : List OpenMerge) (old new : List (Option (NodePlace D))) : Type 0 where
    pub count : length new ≡ length old
    pub each : (m : ℕ) → PlaceLoses cells m rows (place_of old m) (place_of new m)

  -- no merge is in flight any more, no task is posted, and no copy of a merge runs
  pub record Falls (cells : D → Cells) (board now : Board) (old new : List (Option (NodePlace D))) : Type 0 where
    pub lose : AllLose cells board.rows old new
    pub rows : now.rows ≡ []
    pub posted : now.posted ≡ []
    pub counts : now.counts ≡ board.counts

  -- All that ends where a node crashes, and then its disk does. With the primary the jobs of all replicas stop; then the copies of merged segments end
  -- at all nodes, no merge is in flight any more, and no task is posted. With a replica the primary takes back the copy state of its job. The
  -- node itself is as before.
  pub record EndsAll (cells : D → Cells) (primary : Option NodeNo) (n : ℕ) (board now : Board) (old new : List (Option (NodePlace D))) : Type 0 where
    pub mid : List (Option (NodePlace D))
    pub jobs : EndsWith cells primary n old mid
    pub falls : is_at primary n ≡ true → Falls cells board now mid new
    pub stays : is_at primary n ≡ false → (now ≡ board) × (new ≡ mid)
    pub here : place_of new n ≡ place_of old n
