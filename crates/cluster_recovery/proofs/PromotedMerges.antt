-- Merges stand where a replica is promoted: none is in flight.
use Rattle.std.proofs.Common.{◌≡◌, ◌∙◌, ℕ, Bool, false, List, ◌∷◌, None, Option, refl, ap, sym, subst}
use Rattle.nrt_base.specs.declared.numbers.At.{At}
use Rattle.nrt_base.specs.declared.numbers.Gen.{Gen}
use Rattle.nrt_base.specs.declared.numbers.NodeNo.{NodeNo}
use Rattle.nrt_base.specs.declared.numbers.Version.{Version}
use Rattle.disk_model.specs.Disk.{Cells}
use Rattle.history_rules.specs.declared.entry.Event.TheVariants.{Promoted}
use Rattle.history_rules.specs.Nodes.{IsNode, primary_of}
use Rattle.history_book.specs.Log.{Log, printed, shown}
use Rattle.merge_tasks.specs.Merging.{Sheet}
use Rattle.merge_tasks.specs.Board.{Board}
use Rattle.cluster_nodes.specs.declared.nodes.NodePlace.{NodePlace}
use Rattle.cluster_nodes.specs.Promoting.{PromotesIn}
use Rattle.cluster_state.specs.Run.{Run, Rest}
use Rattle.cluster_state.specs.State.{Shows}
use Rattle.cluster_state.specs.Files.{FilesShow}
use Rattle.cluster_state.specs.Merging.{MergesStand}
use Rattle.cluster_state.proofs.Ledgers.{asked_of, asked_size}
use Rattle.cluster_state.proofs.MergingPaths.{stand_promoted}

module _ {D : Type 0} (cells : D → Cells) where
  pub promoted_stands : (board : Board) (r : Run) (ended : Bool) (b0 b1 b2 : Sheet) (old new : List (Option (NodePlace D))) (n : NodeNo) (at : At) (generation : Gen) (forced v : Version) {rest : Rest} → record { ended = ended; nodes = b0.nodes; log = b0.log; rest = rest } ≡ r
      → r.ended ≡ false → (ended ≡ false → Shows cells b0.log b0.nodes old) → b1.log ≡ b0.log → b1.nodes ≡ b0.nodes → b1.cut ≡ b0.cut → b2.log ≡ shown at (Promoted n generation forced v) ∷ b1.log → b2.nodes ≡ b1.nodes → b2.cut ≡ b1.cut
      → IsNode r.nodes n.0 → primary_of (printed r.log) ≡ None → PromotesIn cells generation forced n.0 old new → FilesShow cells b2.log b2.nodes new → MergesStand b0.log b0.cut b0.nodes board old → MergesStand b2.log b2.cut b2.nodes board new
  promoted_stands board r ended b0 b1 b2 old new n at generation forced v view running shows e1 n1 c1 e2 n2 c2 node vacant promotes files was =
      let log : b2.log ≡ shown at (Promoted n generation forced v) ∷ b0.log = e2 ∙ ap (λ (l : Log). shown at (Promoted n generation forced v) ∷ l) e1 in
      subst (λ (z : Log × (Bool × ℕ)). MergesStand z.0 z.1.0 z.1.1 board new) (λ i. (sym log i, (sym (c2 ∙ c1) i, sym (n2 ∙ n1) i)))
      (stand_promoted cells b0.nodes b0.log b0.cut board old new n.0 promotes.primary promotes.at.held promotes.moves (asked_size (λ (k : ℕ). IsNode k n.0) view refl node)
      (shows (ap (λ (x : Run). x.ended) view ∙ running)) was at n generation forced v (asked_of (λ (l : Log). primary_of (printed l) ≡ None) view refl vacant) promotes.becomes.has_cut_over promotes.becomes.merges
      (subst (λ (z : Log × ℕ). FilesShow cells z.0 z.1 new) (λ i. (log i, (n2 ∙ n1) i)) files))
