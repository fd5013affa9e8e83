-- What each path of tickets and searches leaves of files and jobs, from what its calls say.
use Rattle.std.proofs.Common.{◌≡◌, Bool, false, List, ◌∷◌, Some, Option, refl}
use Rattle.nrt_base.specs.declared.numbers.At.{At}
use Rattle.nrt_base.specs.declared.numbers.NodeNo.{NodeNo}
use Rattle.nrt_base.specs.declared.numbers.TicketNo.{TicketNo}
use Rattle.nrt_base.specs.declared.numbers.Version.{Version}
use Rattle.disk_model.specs.Disk.{Cells}
use Rattle.history_rules.specs.declared.entry.Event.TheVariants.{Opened, Asking}
use Rattle.history_rules.specs.Legal.{KeepsRule, IsLegalPast}
use Rattle.history_rules.specs.Tickets.{open_ticket}
use Rattle.history_tables.specs.declared.tickets.Opening.{Opening}
use Rattle.history_tables.specs.Openings.{ticket_of}
use Rattle.history_book.specs.Log.{printed, shown}
use Rattle.merge_tasks.specs.Merging.{Sheet}
use Rattle.history_book.specs.Laws.{IsFresh}
use Rattle.history_book.specs.Turns.{AreInTurn}
use Rattle.cluster_nodes.specs.declared.nodes.NodePlace.{NodePlace}
use Rattle.cluster_nodes.specs.Places.{place_of}
use Rattle.cluster_state.specs.Run.{Rest, Run}
use Rattle.cluster_state.specs.State.{Shows}
use Rattle.cluster_state.specs.Files.{FilesShow}
use Rattle.cluster_nodes.specs.KeptFiles.{KeepsNodeFiles}
use Rattle.cluster_nodes.specs.declared.held.HeldKey.{HeldKey}
use Rattle.cluster_nodes.specs.Changes.{KeepsNode, HoldsMore}
use Rattle.cluster_state.proofs.Frames.{PutsBack, place_at}
use Rattle.cluster_documents.proofs.PointNames.{opened_holds}
use Rattle.cluster_state.proofs.FileFrames.{flights_of, files_noted, files_moved}
use Rattle.cluster_documents.proofs.TicketPaths.{may_ask}
use Rattle.cluster_state.proofs.Turning.{fresh_turn, past_has}

module _ {D : Type 0} (cells : D → Cells) where
  pub opened_files : (r : Run) (ended : Bool) (b0 b1 b2 : Sheet) (old mid new : List (Option (NodePlace D))) (at : At) (n : NodeNo) (t : TicketNo) (v : Version) (x y : NodePlace D)
      → {left : Rest} → record { ended = ended; nodes = b0.nodes; log = b0.log; rest = left } ≡ r → r.ended ≡ false → (ended ≡ false → Shows cells b0.log b0.nodes old) → (ended ≡ false → FilesShow cells b0.log b0.nodes old)
      → b1.log ≡ b0.log → b1.nodes ≡ b0.nodes → b2.log ≡ shown at (Opened n t v) ∷ b1.log → b2.nodes ≡ b1.nodes → IsLegalPast b1.nodes (printed b1.log) → AreInTurn (printed b1.log)
      → IsFresh at (printed b0.log) → KeepsRule r.nodes (printed r.log) at (Opened n t v)
      → PutsBack cells old mid new n.0 y → place_of old n.0 ≡ Some x → KeepsNodeFiles cells x.node y.node → KeepsNode cells x.node y.node → (key : HeldKey) → HoldsMore key x y → FilesShow cells b2.log b2.nodes new
  opened_files r ended b0 b1 b2 old mid new at n t v x y view running shows files e1 n1 e2 n2 legal turns fresh keeps put there kept node key holds =
      files_moved cells r ended b0 b1 b2 old mid new at (Opened n t v) n.0 y x view running shows files e1 n1 e2 n2 legal turns keeps
      (fresh_turn (printed r.log) at (Opened n t v) (past_has (IsFresh at) r ended b0 view fresh) tt) (λ m. refl) (λ m. refl)
      (flights_of cells r ended b0 b1 at view e1 n1 legal turns (past_has (IsFresh at) r ended b0 view fresh).begun) put keeps.node there kept
      (opened_holds cells (printed (shown at (Opened n t v) ∷ r.log)) r.log n.0 key x y (place_at cells r ended b0.nodes n.0 b0.log old x view running shows keeps.node there).node_shows node holds)

  pub ask_files : (r : Run) (ended : Bool) (b0 b1 b2 : Sheet) (places : List (Option (NodePlace D))) (at : At) (t : TicketNo) (o : Opening)
      → {left : Rest} → record { ended = ended; nodes = b0.nodes; log = b0.log; rest = left } ≡ r → r.ended ≡ false → (ended ≡ false → Shows cells b0.log b0.nodes places) → (ended ≡ false → FilesShow cells b0.log b0.nodes places)
      → b1.log ≡ b0.log → b1.nodes ≡ b0.nodes → b2.log ≡ shown at (Asking o.node t o.version) ∷ b1.log → b2.nodes ≡ b1.nodes → IsLegalPast b0.nodes (printed b0.log)
      → IsLegalPast b1.nodes (printed b1.log) → AreInTurn (printed b1.log) → IsFresh at (printed b0.log) → open_ticket at.lane.0 t.0 (printed r.log) ≡ Some (ticket_of o) → FilesShow cells b2.log b2.nodes places
  ask_files r ended b0 b1 b2 places at t o view running shows files e1 n1 e2 n2 legal later_legal later_turns fresh held =
      files_noted cells r ended b0 b1 b2 places at (Asking o.node t o.version) view running shows files e1 n1 e2 n2 later_legal later_turns (may_ask r ended b0 at t o view legal fresh held)
      (fresh_turn (printed r.log) at (Asking o.node t o.version) (past_has (IsFresh at) r ended b0 view fresh) tt) (λ m. refl) (λ m. refl)
      (flights_of cells r ended b0 b1 at view e1 n1 later_legal later_turns (past_has (IsFresh at) r ended b0 view fresh).begun)
