-- Merges stand where a node reopens: it was down, and runs no copy of a merged segment.
use Rattle.std.proofs.Common.{◌≡◌, ◌≤◌, ◌∙◌, ℕ, Bool, false, true, true≢false, List, ◌∷◌, Some, None, Option, Vec, Global, refl, ap, sym}
use Rattle.nrt_base.specs.declared.numbers.At.{At}
use Rattle.nrt_base.specs.declared.numbers.NodeNo.{NodeNo}
use Rattle.nrt_base.specs.declared.numbers.Version.{Version}
use Rattle.disk_model.specs.Disk.{Cells}
use Rattle.index_primary.specs.declared.states.Out.{Out}
use Rattle.replica_node.specs.declared.merges.MergeCopies.{MergeCopies}
use Rattle.replica_node.specs.declared.parts.ReplicaParts.{ReplicaParts}
use Rattle.replica_node.specs.Merges.{no_copies}
use Rattle.history_rules.specs.declared.entry.Event.TheVariants.{Reopened}
use Rattle.history_rules.specs.Nodes.{IsNode, is_running}
use Rattle.history_book.specs.Log.{Log, printed, shown}
use Rattle.merge_tasks.specs.Merging.{Sheet}
use Rattle.merge_tasks.specs.Board.{Board}
use Rattle.cluster_nodes.specs.declared.held.HeldTicket.{HeldTicket}
use Rattle.cluster_nodes.specs.declared.nodes.Node.{Node}
use Rattle.cluster_nodes.specs.declared.nodes.Node.TheVariants.{Primary, Replica, Down}
use Rattle.cluster_nodes.specs.declared.nodes.NodePlace.{NodePlace}
use Rattle.cluster_nodes.specs.Places.{place_of}
use Rattle.cluster_nodes.specs.Outs.{want_of, want_at}
use Rattle.cluster_nodes.specs.Lives.{ReopensIn}
use Rattle.cluster_state.specs.Run.{Run, Rest}
use Rattle.cluster_state.specs.State.{NodeShows, PlaceShows, Shows}
use Rattle.cluster_state.specs.Merging.{KeepsMerges, MergesStand}
use Rattle.cluster_state.proofs.Frames.{some_at}
use Rattle.cluster_state.proofs.Ledgers.{asked_of, asked_size}
use Rattle.cluster_state.proofs.MergingStill.{one_keeps, stand_shown}

module _ {D : Type 0} (cells : D → Cells) (log : Log) (n : ℕ) (s : ReplicaParts D) (down : is_running n (printed log) ≡ false) where
  -- neither it nor the node that was down has a job
  reopened_want : (x : Node D) (held : Vec HeldTicket Global) → NodeShows cells log n x → s.job ≡ None → want_at (Some (record { node = Replica s; held = held })) ≡ want_at (Some (record { node = x; held = held }))
  reopened_want (Primary p) held shows none = absurd (true≢false (sym shows.running ∙ down))
  reopened_want (Replica r) held shows none = absurd (true≢false (sym shows.running ∙ down))
  reopened_want (Down d) held shows none = ap want_of none

  -- and none runs a copy
  reopened_runs : (x : Node D) → NodeShows cells log n x → s.copies ≡ no_copies → (jobs count : Out → ℕ) → ((o : Out) → count o ≤ jobs o) → KeepsMerges jobs count x (Replica s)
  reopened_runs (Primary p) shows none jobs count low = absurd (true≢false (sym shows.running ∙ down))
  reopened_runs (Replica r) shows none jobs count low = absurd (true≢false (sym shows.running ∙ down))
  reopened_runs (Down d) shows none jobs count low = ap (λ (c : MergeCopies). c.running) none

module _ {D : Type 0} (cells : D → Cells) where
  pub reopened_stands : (board : Board) (r : Run) (ended : Bool) (b0 b1 b2 : Sheet) (old new : List (Option (NodePlace D))) (n : NodeNo) (v : Version) (at : At) {rest : Rest} → record { ended = ended; nodes = b0.nodes; log = b0.log; rest = rest } ≡ r → r.ended ≡ false
      → (ended ≡ false → Shows cells b0.log b0.nodes old) → b1.log ≡ b0.log → b1.nodes ≡ b0.nodes → b1.cut ≡ b0.cut → b2.log ≡ shown at (Reopened n v) ∷ b1.log → b2.nodes ≡ b1.nodes → b2.cut ≡ b1.cut
      → IsNode r.nodes n.0 → is_running n.0 (printed r.log) ≡ false → ReopensIn cells n.0 v old new → MergesStand b0.log b0.cut b0.nodes board old → MergesStand b2.log b2.cut b2.nodes board new
  reopened_stands board r ended b0 b1 b2 old new n v at view running shows e1 n1 c1 e2 n2 c2 node down reopens was =
      let there : IsNode b0.nodes n.0 = asked_size (λ (k : ℕ). IsNode k n.0) view refl node in
      let off : is_running n.0 (printed b0.log) ≡ false = asked_of (λ (l : Log). is_running n.0 (printed l) ≡ false) view refl down in
      let is : PlaceShows cells b0.log n.0 reopens.place = some_at (PlaceShows cells b0.log n.0) (place_of old n.0) reopens.place reopens.there ((shows (ap (λ (x : Run). x.ended) view ∙ running)).each n.0 there) in
      stand_shown board old new b0 b1 b2 at (Reopened n v) e1 n1 c1 e2 n2 c2 refl
      (one_keeps b0.nodes board b0.log b0.cut old new n.0 (record { node = Replica reopens.replica; held = reopens.place.held }) reopens.place reopens.moves there reopens.there
      (reopened_want cells b0.log n.0 reopens.replica off reopens.place.node reopens.place.held is.node_shows reopens.opens.fresh.job)
      (reopened_runs cells b0.log n.0 reopens.replica off reopens.place.node is.node_shows reopens.opens.fresh.copies) was) was
