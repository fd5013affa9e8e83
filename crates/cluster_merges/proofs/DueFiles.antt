-- The faults that a file of a merged segment meets: that its line may meet them, behind those of disks too, and what stays true.
use Rattle.std.proofs.Common.{◌≡◌, ◌≢◌, ◌&&◌, ◌⊎◌, inl, inr, ℕ, true, List, Some, None, Option, refl, ap, ◌∙◌}
use Rattle.std.specs.Prelude.{not}
use Rattle.std.proofs.lemmas.Bool.{or_right, and_from}
use Rattle.nrt_base.specs.declared.numbers.At.{At}
use Rattle.nrt_base.specs.declared.numbers.NodeNo.{NodeNo}
use Rattle.disk_model.specs.Disk.{Cells, Name}
use Rattle.copy_state.specs.declared.meta.FileMetaData.{FileMetaData}
use Rattle.history_rules.specs.Nodes.{Past, IsNode, IsReplica, is_at, is_running, primary_of}
use Rattle.history_rules.specs.Lines.{same_at, before_start, last_of_line, start_entry}
use Rattle.history_rules.specs.Rules.{copies_to, fetches_at, is_merging}
use Rattle.history_rules.proofs.FaultLaws.{both}
use Rattle.history_book.specs.Log.{Log, printed}
use Rattle.link_model.specs.declared.fate.Fate.TheVariants.{Whole}
use Rattle.merge_tasks.specs.Merging.{Sheet}
use Rattle.merge_tasks.specs.Board.{Board}
use Rattle.merge_tasks.specs.Fates.{fate_by, fate_due}
use Rattle.cluster_nodes.specs.declared.nodes.Node.{Node}
use Rattle.cluster_nodes.specs.declared.nodes.Node.TheVariants.{Primary, Replica, Down}
use Rattle.cluster_nodes.specs.declared.nodes.NodePlace.{NodePlace}
use Rattle.cluster_nodes.specs.Places.{place_of}
use Rattle.node_merges.specs.declared.copies.CopyStep.TheVariants.{Wants}
use Rattle.node_merges.specs.MergePlaces.{IsStepAt}
use Rattle.cluster_state.specs.DueFaults.{with_due}
use Rattle.cluster_state.specs.Met.{with_met}
use Rattle.cluster_state.specs.State.{NodeShows, PlaceShows}
use Rattle.cluster_state.proofs.Faulted.{met_has}
use Rattle.cluster_state.proofs.FilesDue.{due_has, due_stands, plans_still}
use Rattle.cluster_state.proofs.Frames.{some_at}
use Rattle.cluster_merges.specs.Running.{AllShown}
use Rattle.cluster_merges.proofs.CopyFacts.{not_wants}

-- a fault that is due is of a merge's line
pub merges_then : (at : At) (n : ℕ) (log : Log) → (fate_due n log ≡ Whole) ⊎ (is_merging (last_of_line at (printed log)) ≡ true) → fate_due n log ≢ Whole → is_merging (last_of_line at (printed log)) ≡ true
merges_then at n log (inl whole) broken = absurd (broken whole)
merges_then at n log (inr merges) broken = merges

-- files are copied to each replica for a merge
pub fetches_merge : (size : ℕ) (at : At) (past : Past) (n : ℕ) → is_merging (last_of_line at past) ≡ true → IsReplica past n → fetches_at size at past n ≡ true
fetches_merge size at past n merges replica =
    or_right (copies_to size (before_start at past) (start_entry at past) n) ((is_merging (last_of_line at past) && is_running n past) && not (is_at (primary_of past) n))
    (and_from (is_merging (last_of_line at past) && is_running n past) (not (is_at (primary_of past) n)) (and_from (is_merging (last_of_line at past)) (is_running n past) merges replica.running) (ap not replica.other))

-- so it is behind faults of disks that a task met
pub merges_behind : (at : At) (n : ℕ) (olds news : List (ℕ × ℕ)) (log : Log) → (fate_due n log ≡ Whole) ⊎ (is_merging (last_of_line at (printed log)) ≡ true)
    → (fate_due n (with_met true at 1 olds news log) ≡ Whole) ⊎ (is_merging (last_of_line at (printed (with_met true at 1 olds news log))) ≡ true)
merges_behind at n olds news log (inl whole) = inl (ap fate_by (plans_still true n at olds news log) ∙ whole)
merges_behind at n olds news log (inr merges) =
    inr (met_has (λ l. is_merging (last_of_line at (printed l)) ≡ true) true at (λ m kind l was. ap is_merging (both (same_at at at) (last_of_line at (printed l))) ∙ was) 1 olds news log merges)

pub replica_behind : (at : At) (n : ℕ) (olds news : List (ℕ × ℕ)) (log : Log) → IsReplica (printed log) n → IsReplica (printed (with_met true at 1 olds news log)) n
replica_behind at n olds news log is = met_has (λ l. IsReplica (printed l) n) true at (λ m kind l was. record { running = was.running; other = was.other }) 1 olds news log is

pub primary_due : (at : At) (n : ℕ) (log : Log) (p : NodeNo) → primary_of (printed log) ≡ Some p → primary_of (printed (with_due true at n log)) ≡ Some p
primary_due at n log p is = due_has (λ l. primary_of (printed l) ≡ Some p) true at (λ m kind l was. was) n log is

-- the ledger behind the faults that a file meets
abbrev pub behind_due : At → ℕ → Sheet → Sheet
behind_due at n b = record b { log = with_due true at n b.log }

module _ {D : Type 0} (cells : D → Cells) (b : Sheet) (board : Board) (places : List (Option (NodePlace D))) (all : AllShown cells b board places) where
  pub all_due : (at : At) (n : ℕ) → AllShown cells (behind_due at n b) board places
  all_due at n = due_stands cells b.nodes places b.cut board true at n b.log all

  -- a node whose copy misses a file is a replica
  pub misses_replica : (n seg number : ℕ) (q : Name) (meta : FileMetaData) → IsNode b.nodes n → IsStepAt seg number (place_of places n) (Wants q meta) → IsReplica (printed b.log) n
  misses_replica n seg number q meta node is = by (place_of places n) refl is
    where
      shows : (z : NodePlace D) → place_of places n ≡ Some z → NodeShows cells b.log n z.node
      shows z there = (some_at (PlaceShows cells b.log n) (place_of places n) z there (all.0.each n node)).node_shows

      of_node : (z : NodePlace D) (x : Node D) → z.node ≡ x → NodeShows cells b.log n x → IsStepAt seg number (Some (record { node = x; held = z.held })) (Wants q meta) → IsReplica (printed b.log) n
      of_node z (Primary p) e s step = absurd (not_wants q meta step)
      of_node z (Replica r) e s step = record { running = s.running; other = s.other }
      of_node z (Down d) e s step = absurd (not_wants q meta step)

      by : (o : Option (NodePlace D)) → place_of places n ≡ o → IsStepAt seg number o (Wants q meta) → IsReplica (printed b.log) n
      by None there step = absurd (not_wants q meta step)
      by (Some z) there step = of_node z z.node refl (shows z there) step
