-- The primary stands in its place, where a cluster runs.
use Rattle.std.proofs.Common.{◌≡◌, ◌∙◌, ℕ, Bool, true, false, true≢false, List, Some, None, Option, Vec, Global, refl, ap, sym, subst}
use Rattle.std.specs.Prelude.{IsSomeAnd}
use Rattle.std.proofs.lemmas.Bool.{eq-eqb}
use Rattle.nrt_base.specs.declared.numbers.NodeNo.{NodeNo}
use Rattle.disk_model.specs.Disk.{Cells}
use Rattle.history_rules.specs.Nodes.{IsNode, is_at, primary_of}
use Rattle.history_book.specs.Log.{Log, printed}
use Rattle.merge_tasks.specs.Merging.{Sheet}
use Rattle.cluster_nodes.specs.declared.held.HeldTicket.{HeldTicket}
use Rattle.cluster_nodes.specs.declared.nodes.Node.{Node}
use Rattle.cluster_nodes.specs.declared.nodes.Node.TheVariants.{Primary, Replica, Down}
use Rattle.cluster_nodes.specs.declared.nodes.NodePlace.{NodePlace}
use Rattle.cluster_nodes.specs.Places.{place_of, HasPrimary}
use Rattle.cluster_state.specs.Run.{Run, Rest}
use Rattle.cluster_state.specs.State.{NodeShows, PlaceShows, Shows}

module _ {D : Type 0} (cells : D → Cells) where
  pub primary_in_place : (log : Log) (size n : ℕ) (places : List (Option (NodePlace D))) → is_at (primary_of (printed log)) n ≡ true → IsNode size n → Shows cells log size places → HasPrimary (place_of places n)
  primary_in_place log size n places here node shows = by (place_of places n) (shows.each n node)
    where
      of_node : (x : Node D) (held : Vec HeldTicket Global) → NodeShows cells log n x → HasPrimary (Some (record { node = x; held = held }))
      of_node (Primary p) held showing = tt
      of_node (Replica r) held showing = absurd (true≢false (sym here ∙ showing.other))
      of_node (Down d) held showing = absurd (true≢false (sym here ∙ showing.other))

      by : (o : Option (NodePlace D)) → IsSomeAnd o (PlaceShows cells log n) → HasPrimary o
      by None none = absurd none
      by (Some z) is = of_node z.node z.held is.node_shows

  pub has_primary_at : (r : Run) (b : Sheet) (places : List (Option (NodePlace D))) (p : NodeNo) {ended : Bool} {left : Rest} → record { ended = ended; nodes = b.nodes; log = b.log; rest = left } ≡ r → r.ended ≡ false → (ended ≡ false → Shows cells b.log b.nodes places)
      → IsNode r.nodes p.0 → primary_of (printed r.log) ≡ Some p → HasPrimary (place_of places p.0)
  has_primary_at r b places p view running shows node primary =
      primary_in_place b.log b.nodes p.0 places (ap (λ (o : Option NodeNo). is_at o p.0) (ap (λ (x : Run). primary_of (printed x.log)) view ∙ primary) ∙ eq-eqb p.0 p.0 refl)
      (subst (λ (k : ℕ). IsNode k p.0) (sym (ap (λ (x : Run). x.nodes) view)) node) (shows (ap (λ (x : Run). x.ended) view ∙ running))
