-- The sending of a merged segment to replicas.
use Rattle.std.specs.Prelude.{ℕ, ◌≡◌, ◌<◌, false, List, Option, Some, map}
use Rattle.std.specs.List.{All, AllPairs}
use Rattle.nrt_base.specs.declared.numbers.NodeNo.{NodeNo}
use Rattle.disk_model.specs.Disk.{Cells}
use Rattle.copy_state.specs.declared.state.CopyState.{CopyState}
use Rattle.history_rules.specs.Nodes.{IsNode, generation_of}
use Rattle.history_book.specs.Log.{printed}
use Rattle.merge_tasks.specs.Merging.{Sheet}
use Rattle.merge_tasks.specs.declared.tasks.Sent.{Sent}
use Rattle.merge_tasks.specs.declared.tasks.Spread.{Spread}
use Rattle.merge_tasks.specs.Board.{Board, open_merge, spread_at, with_spread, sent_more}
use Rattle.cluster_nodes.specs.declared.nodes.NodePlace.{NodePlace}
use Rattle.node_merges.specs.MergeChanges.{MaySend, SendsMerged}
use Rattle.node_merges.specs.MergePlaces.{IsReplicaIn, MovesReplica}
use Rattle.cluster_merges.specs.Running.{AllShown}
use Rattle.cluster_merges.specs.SentTold.{TellsSends}

-- the files of a merge are written, and these copies of them have begun, which are not all
abbrev pub spread_to : CopyState → List Sent → Spread
spread_to state sent = record { state = state; left = sent; all = false }

module _ {D : Type 0} where
  -- a copy to this node has begun, and it is noted in the row of its merge
  pub record SendsOne (cells : D → Cells) (seg : ℕ) (state : CopyState) (n : NodeNo) (sent : Sent) (board after : Board) (old new : List (Option (NodePlace D))) : Type 0 where
    pub node : sent.node ≡ n
    pub moves : MovesReplica (SendsMerged cells state sent.job) n.0 old new
    pub rows : after.rows ≡ with_spread seg (sent_more n sent.job (spread_at (open_merge seg board.rows))) board.rows
    pub posted : after.posted ≡ board.posted
    pub counts : after.counts ≡ board.counts

  -- these are replicas, ascending, and the copy state can be sent to each
  pub record MaySendAll (state : CopyState) (nodes : List NodeNo) (places : List (Option (NodePlace D))) : Type 0 where
    pub each : All (λ n. IsReplicaIn (MaySend state) n.0 places) nodes
    pub ascending : AllPairs (λ m n. m.0 < n.0) nodes

  -- A copy to each of these nodes has begun, in order, and it is noted in the row of its merge. What is true of a cluster that runs is true again,
  -- and callers are told of the copies.
  pub record SendsAll (cells : D → Cells) (seg : ℕ) (state : CopyState) (nodes : List NodeNo) (sent : List Sent) (board after : Board) (old new : List (Option (NodePlace D))) : Type 0 where
    pub to : map (λ s. s.node) sent ≡ nodes
    pub rows : after.rows ≡ with_spread seg (Some (spread_to state sent)) board.rows
    pub posted : after.posted ≡ board.posted
    pub counts : after.counts ≡ board.counts
    pub shown : (b : Sheet) → state.primary_gen.0 ≡ generation_of (printed b.log) → All (λ n. IsNode b.nodes n.0) nodes → AllShown cells b board old → AllShown cells b after new
    pub told : (b : Sheet) → state.primary_gen.0 ≡ generation_of (printed b.log) → All (λ n. IsNode b.nodes n.0) nodes → AllShown cells b board old → TellsSends b.log state sent old new
