-- The sizes that are told are those of the primary's segments.
use Rattle.std.proofs.Common.{◌≡◌, ◌<◌, ◌==◌, ℕ, zero, suc, true, false, true≢false, List, [], ◌∷◌, length, Some, None, Option, Vec, Global, slice_get, refl, ap, ◌∙◌, sym, arith}
use Rattle.std.specs.Prelude.{IsSomeAnd, ⊤}
use Rattle.std.proofs.lemmas.Bool.Decides.{nat_tests}
use Rattle.std.proofs.lemmas.List.{length-map}
use Rattle.disk_model.specs.Disk.{Cells}
use Rattle.history_rules.specs.Nodes.{IsNode, is_at, primary_of}
use Rattle.history_book.specs.Log.{Log, printed}
use Rattle.segment_steps.specs.Starting.{size_by}
use Rattle.index_primary.specs.declared.parts.PrimaryParts.{PrimaryParts}
use Rattle.index_primary.specs.Merges.{merge_inputs}
use Rattle.cluster_nodes.specs.declared.held.HeldTicket.{HeldTicket}
use Rattle.cluster_nodes.specs.declared.nodes.Node.{Node}
use Rattle.cluster_nodes.specs.declared.nodes.Node.TheVariants.{Primary, Replica, Down}
use Rattle.cluster_nodes.specs.declared.nodes.NodePlace.{NodePlace}
use Rattle.cluster_nodes.specs.Given.{merge_sizes}
use Rattle.cluster_nodes.specs.Places.{place_of, unwrapped}
use Rattle.cluster_state.specs.Sizes.{sizes_in}
use Rattle.cluster_state.specs.State.{NodeShows, PlaceShows, Shows}

module _ {D : Type 0} where
  abbrev is_beside : Node D → Type 0
  is_beside (Primary p) = ⊥
  is_beside x = ⊤

  abbrev is_none_beside : Option (NodePlace D) → Type 0
  is_none_beside None = ⊤
  is_none_beside (Some z) = is_beside z.node

  sizes_found : (places : List (Option (NodePlace D))) (k : ℕ) (z : NodePlace D) (p : PrimaryParts D) → unwrapped (slice_get places k) ≡ Some z → z.node ≡ Primary p → ((j : ℕ) → j < k → is_none_beside (unwrapped (slice_get places j))) → sizes_in places ≡ merge_sizes p
  sizes_found [] k z p is there apart = absurd (clash is)
    where
      clash : ◌≡◌ {A = Option (NodePlace D)} None (Some z) → ⊥
      clash e = absurd (cc)
  sizes_found (None ∷ places) zero z p is there apart = absurd (clash is)
    where
      clash : ◌≡◌ {A = Option (NodePlace D)} None (Some z) → ⊥
      clash e = absurd (cc)
  sizes_found (None ∷ places) (suc k) z p is there apart = sizes_found places k z p is there (λ j low. apart (suc j) (omega (arith, low)))
  sizes_found (Some y ∷ places) zero z p is there apart =
      let same : ◌≡◌ {A = NodePlace D} y z = cc in
      ap (λ (x : Node D). elim x [ Primary q ↦ merge_sizes q | Replica r ↦ sizes_in places | Down d ↦ sizes_in places ]) (ap (λ (x : NodePlace D). x.node) same ∙ there)
  sizes_found (Some y ∷ places) (suc k) z p is there apart = by y.node (apart zero (omega arith)) (sizes_found places k z p is there (λ j low. apart (suc j) (omega (arith, low))))
    where
      by : (x : Node D) → is_beside x → sizes_in places ≡ merge_sizes p → elim x [ Primary q ↦ merge_sizes q | Replica r ↦ sizes_in places | Down d ↦ sizes_in places ] ≡ merge_sizes p
      by (Primary q) none found = absurd none
      by (Replica r) none found = found
      by (Down d) none found = found

  beside_primary : (cells : D → Cells) (log : Log) (m : ℕ) (o : Option (NodePlace D)) → is_at (primary_of (printed log)) m ≡ false → IsSomeAnd o (PlaceShows cells log m) → is_none_beside o
  beside_primary cells log m None away none = tt
  beside_primary cells log m (Some z) away is = by z.node is.node_shows
    where
      by : (x : Node D) → NodeShows cells log m x → is_beside x
      by (Primary p) showing = absurd (true≢false (sym showing.primary ∙ away))
      by (Replica r) showing = tt
      by (Down d) showing = tt

  pub sizes_at : (cells : D → Cells) (log : Log) (size n : ℕ) (places : List (Option (NodePlace D))) (p : PrimaryParts D) (held : Vec HeldTicket Global) → IsNode size n → place_of places n ≡ Some (record { node = Primary p; held = held })
      → ((m : ℕ) → (n == m) ≡ false → is_at (primary_of (printed log)) m ≡ false) → Shows cells log size places → sizes_in places ≡ merge_sizes p
  sizes_at cells log size zero places p held node there others shows = absurd (omega (arith, node.0))
  sizes_at cells log size (suc k) places p held node there others shows = sizes_found places k (record { node = Primary p; held = held }) p there refl
      (λ j low. beside_primary cells log (suc j) (place_of places (suc j)) (others (suc j) (apart j low)) (shows.each (suc j) (omega arith, (let most = node.1 in omega (arith, low, most)))))
    where
      apart : (j : ℕ) → j < k → (suc k == suc j) ≡ false
      apart j low = grind (arith, nat_tests, low)

  -- as many are told as there are segments
  pub sizes_count : (cells : D → Cells) (log : Log) (size n : ℕ) (places : List (Option (NodePlace D))) (p : PrimaryParts D) (held : Vec HeldTicket Global) → IsNode size n → place_of places n ≡ Some (record { node = Primary p; held = held })
      → ((m : ℕ) → (n == m) ≡ false → is_at (primary_of (printed log)) m ≡ false) → Shows cells log size places → length (sizes_in places) ≡ length p.infos.segs
  sizes_count cells log size n places p held node there others shows =
      ap length (sizes_at cells log size n places p held node there others shows) ∙ length-map p.infos.segs (size_by (merge_inputs p.merges))
