-- A copy of a merged segment that ends, as not all of a file of it came: all is true of the cluster again.
use Rattle.std.proofs.Common.{◌≡◌, ◌≢◌, ℕ, true, true≢false, List, Some, None, Option, refl, ap, ◌∙◌, sym}
use Rattle.std.specs.Prelude.{IsSome, ⊤}
use Rattle.nrt_base.specs.declared.numbers.At.{At}
use Rattle.nrt_base.specs.declared.numbers.LineNo.{LineNo}
use Rattle.nrt_base.specs.declared.numbers.NodeNo.{NodeNo}
use Rattle.nrt_base.specs.declared.numbers.SegNo.{SegNo}
use Rattle.disk_model.specs.Disk.{Cells}
use Rattle.replica_node.specs.declared.parts.ReplicaParts.{ReplicaParts}
use Rattle.replica_node.specs.Merges.{copy_at}
use Rattle.history_rules.specs.Nodes.{IsNode, primary_of}
use Rattle.history_rules.specs.Legal.{IsLegalPast}
use Rattle.history_book.specs.Log.{printed}
use Rattle.link_model.specs.declared.fate.Fate.{Fate}
use Rattle.link_model.specs.declared.fate.Fate.TheVariants.{Whole, Fail, Damage}
use Rattle.merge_tasks.specs.Merging.{Sheet}
use Rattle.merge_tasks.specs.declared.tasks.OpenMerge.{OpenMerge}
use Rattle.merge_tasks.specs.Board.{Board, open_merge, spread_at, has_copy_task}
use Rattle.cluster_nodes.specs.declared.nodes.NodePlace.{NodePlace}
use Rattle.cluster_nodes.specs.Places.{place_of}
use Rattle.node_merges.specs.declared.copies.CopyStep.TheVariants.{Gone}
use Rattle.node_merges.specs.MergeChanges.{DropsMerged}
use Rattle.node_merges.specs.MergePlaces.{IsReplicaIn, MovesReplica, IsStepAt, RunsCopyOf}
use Rattle.cluster_state.specs.Run.{Run}
use Rattle.cluster_state.proofs.BookLaws.{primary_node}
use Rattle.cluster_merges.specs.Running.{AllShown}
use Rattle.cluster_merges.specs.CopyTurns.{EndsCopyOf}
use Rattle.cluster_merges.specs.MergePaths.{EndsCopyTask}
use Rattle.cluster_merges.specs.TaskCalls.{LosesCopy}
use Rattle.cluster_merges.specs.TaskMet.{behind}
use Rattle.cluster_merges.proofs.TaskBehind.{primary_behind, all_behind}
use Rattle.cluster_merges.proofs.EndedCopies.{end_path}
use Rattle.cluster_merges.proofs.MovedCopies.{drop_loses}
use Rattle.cluster_merges.proofs.CopyFacts.{at_replica, slot_here, copy_gone}
use Rattle.cluster_merges.proofs.CopyPaths.{lost_path}
use Rattle.cluster_merges.proofs.CopyCalls.{RunsThere, runs_there, replica_there, some_is}

module _ {D : Type 0} (cells : D → Cells) (b : Sheet) (board : Board) (places : List (Option (NodePlace D))) (all : AllShown cells b board places) (legal : IsLegalPast b.nodes (printed b.log)) (seg : SegNo) (n : NodeNo) (number : ℕ) (node : IsNode b.nodes n.0)
    (has : has_copy_task n.0 number (spread_at (open_merge seg.0 board.rows)) ≡ true) where
  -- a primary runs, since without one no merge is in flight
  record HasSource : Type 0 where
    source : NodeNo
    node_is : IsNode b.nodes source.0
    is : primary_of (printed b.log) ≡ Some source

  has_source : HasSource
  has_source = by (primary_of (printed b.log)) refl
    where
      by : (o : Option NodeNo) → primary_of (printed b.log) ≡ o → HasSource
      by None none = absurd (true≢false (sym has ∙ ap (λ (rows : List OpenMerge). has_copy_task n.0 number (spread_at (open_merge seg.0 rows))) (all.2.vacant none).1.1))
      by (Some p) is = record { source = p; node_is = primary_node b.nodes (printed b.log) p all.0.some legal is; is = is }

  module _ (at : At) (olds news : List (ℕ × ℕ)) (b2 : Sheet) (after : Board) (line : LineNo) (by : Option At) (ends : EndsCopyOf line seg by n number (behind at olds news b) b2 board after) where
    behind_all : AllShown cells (behind at olds news b) board places
    behind_all = all_behind at olds news cells b board places all

    -- the copy does not run any more
    pub gone_ends : IsStepAt seg.0 number (place_of places n.0) Gone → AllShown cells b2 after places
    gone_ends step =
        end_path cells (behind at olds news b) b2 places board after line seg by n number ends has
        (copy_gone cells b board places all has_source.source has_source.node_is has_source.is n.0 seg.0 number step) behind_all

    -- it runs, and was ended
    pub drop_ends : RunsCopyOf seg.0 number (place_of places n.0) → (new : List (Option (NodePlace D))) → MovesReplica (DropsMerged cells number) n.0 places new → AllShown cells b2 after new
    drop_ends runs new w =
        lost_path cells (behind at olds news b) b2 board places new behind_all has_source.source has_source.node_is (primary_behind at olds news b.log has_source.source has_source.is) line seg n number node by after has ends
        (λ source. ⊤) tt (record { at = w.at; replica = w.replica; moves = w.moves; step = drop_loses cells number w.at.parts w.replica w.step })
        (some_is (copy_at number w.at.parts.copies.running) t.copy (at_replica (λ (q : ReplicaParts D). copy_at number q.copies.running ≡ Some t.copy) places n.0 t.parts w.at.parts t.held w.at.held t.there w.at.there t.runs))
      where
        t : RunsThere seg.0 number n.0 places
        t = runs_there seg.0 number n.0 places runs

-- a copy that runs can be ended
pub may_end : {D : Type 0} (cells : D → Cells) (b : Sheet) (board : Board) (places : List (Option (NodePlace D))) → AllShown cells b board places → (seg : SegNo) (n : NodeNo) (number : ℕ) → IsNode b.nodes n.0 → RunsCopyOf seg.0 number (place_of places n.0)
    → IsReplicaIn (λ r. IsSome (copy_at number r.copies.running)) n.0 places
may_end cells b board places all seg n number node runs = record {
  slot = slot_here cells b board places all n.0 node;
  replica = replica_there places n.0 t.parts t.held t.there;
  may = λ r held there. some_is (copy_at number r.copies.running) t.copy (at_replica (λ q. copy_at number q.copies.running ≡ Some t.copy) places n.0 t.parts r t.held held t.there there t.runs);
}
  where
    t : RunsThere seg.0 number n.0 places
    t = runs_there seg.0 number n.0 places runs

-- what callers see of it
pub loses_copy : (fate : Fate) (line : LineNo) (seg : SegNo) (by : Option At) (n : NodeNo) (job : ℕ) (old new : Run) → fate ≢ Whole → EndsCopyTask line seg by n job old new → LosesCopy fate line seg by n job old new
loses_copy Whole line seg by n job old new broken ends = absurd (broken refl)
loses_copy Fail line seg by n job old new broken ends = ends
loses_copy (Damage byte) line seg by n job old new broken ends = ends
