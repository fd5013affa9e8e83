-- The names that are told of a node are those in its directory.
use Rattle.std.proofs.Common.{◌≡◌, ◌∷◌, ◌∙◌, ℕ, List, Some, None, Option, ap, sym, subst}
use Rattle.std.specs.List.{Contains}
use Rattle.std.specs.Ordering.{nat_cmp}
use Rattle.std.specs.Cmp.Lexicographic.{slice_cmp}
use Rattle.std.proofs.lemmas.Cmp.{nat_list_cmp_total}
use Rattle.nrt_base.specs.declared.numbers.At.{At}
use Rattle.nrt_base.specs.declared.numbers.NodeNo.{NodeNo}
use Rattle.disk_model.specs.Disk.{Name, Cells, is_among}
use Rattle.commit_steps.proofs.Safe.{contains_of, among_of}
use Rattle.segment_infos.proofs.SortedLists.{one_sorted_list}
use Rattle.history_rules.specs.declared.entry.Event.TheVariants.{Files}
use Rattle.history_book.specs.Log.{shown}
use Rattle.cluster_nodes.specs.declared.nodes.NodePlace.{NodePlace}
use Rattle.cluster_nodes.specs.Listed.{AreNamesOf, AreNamesAt}
use Rattle.cluster_nodes.specs.Places.{place_of}
use Rattle.cluster_state.specs.NamesIn.{place_names, names_in}
use Rattle.cluster_state.specs.Run.{Run, names_at, IsNow}
use Rattle.cluster_state.specs.Lists.{TellsFiles}
use Rattle.cluster_state.proofs.NodeDirs.{names_are}

-- the names in a directory are one list
names_once : (cells : Cells) (names others : List Name) → AreNamesOf cells names → AreNamesOf cells others → names ≡ others
names_once cells names others a b =
    one_sorted_list Name (slice_cmp nat_cmp) nat_list_cmp_total names others a.ascending b.ascending
    (λ q. (λ here. contains_of others q (b.told q ∙ (sym (a.told q) ∙ among_of names q here)), λ here. contains_of names q (a.told q ∙ (sym (b.told q) ∙ among_of others q here))))

module _ {D : Type 0} (cells : D → Cells) (names : D → List Name) where
  -- those that stand at a node are those that its directory tells
  names_at_place : (o : Option (NodePlace D)) (told : List Name) → AreNamesAt cells o told → AreNamesAt cells o (place_names names o) → told ≡ place_names names o
  names_at_place None told none are = absurd none
  names_at_place (Some place) told named are = names_once _ told _ named are

  -- and a line that tells them tells what callers see
  pub tells : (at : At) (n : NodeNo) (old new : Run) (places : List (Option (NodePlace D))) (told : List Name) → old.rest.names ≡ names_in names places → AreNamesAt cells (place_of places n.0) told → AreNamesAt cells (place_of places n.0) (place_names names (place_of places n.0))
      → IsNow old new (shown at (Files n told) ∷ old.log) → TellsFiles at n old new
  tells at n old new places told is named are now =
      subst (λ (l : List Name). IsNow old new (shown at (Files n l) ∷ old.log)) (names_at_place (place_of places n.0) told named are ∙ sym (names_are names n.0 old places is)) now
