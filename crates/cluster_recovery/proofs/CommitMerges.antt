-- Merges stand over the calls of a commit, which leave all that they are about.
use Rattle.std.proofs.Common.{◌≡◌, ◌≤◌, ℕ, Bool, true, List, ◌∷◌, Some, Option, Vec, Global, refl, ap}
use Rattle.nrt_base.specs.declared.numbers.At.{At}
use Rattle.disk_model.specs.Disk.{Cells}
use Rattle.segment_infos.specs.declared.infos.Infos.{Infos}
use Rattle.commit_steps.specs.declared.stage.CommitBook.{CommitBook}
use Rattle.index_primary.specs.declared.parts.PrimaryParts.{PrimaryParts}
use Rattle.index_primary.specs.declared.states.Out.{Out}
use Rattle.replica_node.specs.declared.parts.ReplicaParts.{ReplicaParts}
use Rattle.history_rules.specs.declared.entry.Event.{Event}
use Rattle.history_rules.specs.Nodes.{IsNode, primary_of}
use Rattle.history_book.specs.Log.{Log, printed, shown}
use Rattle.merge_tasks.specs.Board.{Board}
use Rattle.merge_tasks.specs.TaskLog.{leaves_merges}
use Rattle.merge_tasks.proofs.TaskFrames.{tasks_still}
use Rattle.cluster_nodes.specs.declared.held.HeldTicket.{HeldTicket}
use Rattle.cluster_nodes.specs.declared.nodes.Node.{Node}
use Rattle.cluster_nodes.specs.declared.nodes.Node.TheVariants.{Primary, Replica, Down}
use Rattle.cluster_nodes.specs.declared.nodes.NodePlace.{NodePlace}
use Rattle.cluster_nodes.specs.Outs.{want_of, want_at}
use Rattle.cluster_nodes.specs.Commits.{AltersCommits, CommitsIn}
use Rattle.cluster_state.specs.Merging.{KeepsMerges, KeepAllMerges, MergesStand}
use Rattle.cluster_state.proofs.MergingStill.{primary_keeps, replica_keeps, one_keeps, stand_moved, vacant_left}

module _ {D : Type 0} (cells : D → Cells) (Step : Infos → CommitBook → CommitBook → Type 0) where
  -- a node's job is as it was
  commit_want : (x y : Node D) (held : Vec HeldTicket Global) → AltersCommits Step cells x y → want_at (Some (record { node = y; held = held })) ≡ want_at (Some (record { node = x; held = held }))
  commit_want (Primary p) (Primary q) held alters = refl
  commit_want (Replica r) (Replica s) held alters = ap (λ (z : ReplicaParts D). want_of z.job) alters.0.others
  commit_want (Primary p) (Replica s) held alters = absurd alters
  commit_want (Primary p) (Down e) held alters = absurd alters
  commit_want (Replica r) (Primary q) held alters = absurd alters
  commit_want (Replica r) (Down e) held alters = absurd alters
  commit_want (Down d) y held alters = absurd alters

  -- and so are its merges
  commit_leaves : (x y : Node D) → AltersCommits Step cells x y → (jobs count : Out → ℕ) → ((s : Out) → count s ≤ jobs s) → KeepsMerges jobs count x y
  commit_leaves (Primary p) (Primary q) alters jobs count low =
      primary_keeps jobs count p q (ap (λ (z : PrimaryParts D). z.merges) alters.0.others) (ap (λ (z : PrimaryParts D). z.has_cut_over) alters.0.others) (ap (λ (z : PrimaryParts D). z.states) alters.0.others) low
  commit_leaves (Replica r) (Replica s) alters jobs count low = replica_keeps jobs count r s (ap (λ (z : ReplicaParts D). z.copies.running) alters.0.others)
  commit_leaves (Primary p) (Replica s) alters jobs count low = absurd alters
  commit_leaves (Primary p) (Down e) alters jobs count low = absurd alters
  commit_leaves (Replica r) (Primary q) alters jobs count low = absurd alters
  commit_leaves (Replica r) (Down e) alters jobs count low = absurd alters
  commit_leaves (Down d) y alters jobs count low = absurd alters

  module _ (size : ℕ) (log : Log) (cut : Bool) (board : Board) (old new : List (Option (NodePlace D))) (n : ℕ) (node : IsNode size n) (commits : CommitsIn Step cells n old new) (was : MergesStand log cut size board old) where
    all_leave : KeepAllMerges size old new
    all_leave = one_keeps size board log cut old new n (record { node = commits.node; held = commits.place.held }) commits.place commits.moves node commits.there
        (commit_want commits.place.node commits.node commits.place.held commits.alters) (commit_leaves commits.place.node commits.node commits.alters) was

    -- merges stand where nothing was appended
    pub commit_stands : MergesStand log cut size board new
    commit_stands = stand_moved log log cut size board old new (λ seg inputs is. is) was.tasks (λ none. none) all_leave was

    -- and where an entry was
    pub commit_shown : (at : At) (e : Event) → leaves_merges e (primary_of (printed log)) ≡ true → MergesStand (shown at e ∷ log) cut size board new
    commit_shown at e leaves = stand_moved log (shown at e ∷ log) cut size board old new (λ seg inputs is. is) (tasks_still size log board at e leaves was.tasks) (vacant_left e (primary_of (printed log)) leaves) all_leave was
