-- The nodes of a cluster that has just started, one after the other.
use Rattle.std.proofs.Common.{◌≡◌, ◌≤◌, ◌+◌, ◌++◌, ℕ, List, [], ◌∷◌, Some, None, Option, length, length-append, ap, ◌∙◌, sym, subst, arith}
use Rattle.std.proofs.lemmas.List.Elements.{All-get_or, All-tail}
use Rattle.std.specs.List.{All}
use Rattle.std.specs.Prelude.{IsSomeAnd}
use Rattle.std.specs.Iterator.{Yields}
use Rattle.std.specs.Vec.Iter.{into_iter_items, into_iter_steps}
use Rattle.std.specs.declared.vec.IntoIter.{IntoIter}
use Rattle.disk_model.specs.Disk.{Cells}
use Rattle.history_rules.specs.Nodes.{IsNode}
use Rattle.history_book.specs.Log.{Log}
use Rattle.cluster_nodes.specs.declared.nodes.NodePlace.{NodePlace}
use Rattle.cluster_nodes.specs.Places.{place_of}
use Rattle.cluster_state.specs.State.{PlaceShows, Shows}
use Rattle.cluster_state.specs.Files.{FilesShow}
use Rattle.cluster_state.specs.Starting.{OpensPlace}
use Rattle.cluster_recovery.proofs.FirstNodes.{place_more, first_shows, first_sources}

-- what the iterator of a vector has given is a front of its items
taken_front : {X A : Type 0} (s : IntoIter X A) (xs : List X) (t : IntoIter X A) → Yields into_iter_steps s xs t → into_iter_items s ≡ xs ++ into_iter_items t
taken_front s [] t y = ap into_iter_items y
taken_front s (x ∷ xs) t y = y.1.0 ∙ ap (λ ys. x ∷ ys) (taken_front y.0 xs t y.2)

all_there : {X : Type 0} (P : X → Type 0) (xs : List X) (x : X) (rest : List X) → All P (xs ++ x ∷ rest) → P x
all_there P [] x rest all = All-get_or P (x ∷ rest) 0 x (omega arith) all
all_there P (y ∷ xs) x rest all = all_there P xs x rest (All-tail P y (xs ++ x ∷ rest) all)

-- what holds of each item holds of the one that is given
pub given_has : {X A : Type 0} (P : X → Type 0) (items : List X) (s t u : IntoIter X A) (done : List X) (x : X) → into_iter_items s ≡ items → Yields into_iter_steps s done t → into_iter_items t ≡ x ∷ into_iter_items u
    → All P items → P x
given_has P items s t u done x is given next all =
    all_there P done x (into_iter_items u) (subst (All P) (sym is ∙ (taken_front s done t given ∙ ap (λ ys. done ++ ys) next)) all)

module _ {D : Type 0} (cells : D → Cells) where
  pub more_count : {X : Type 0} (places new : List (Option (NodePlace D))) (done : List X) (d : X) (x : NodePlace D) → new ≡ places ++ Some x ∷ [] → length places ≡ length done → length new ≡ length (done ++ d ∷ [])
  more_count places new done d x is count =
      ap length is ∙ (length-append places (Some x ∷ []) ∙ (ap (λ (k : ℕ). k + 1) count ∙ sym (length-append done (d ∷ []))))

  pub more_each : {X : Type 0} (places new : List (Option (NodePlace D))) (done : List X) (d : X) (x : NodePlace D) (k : ℕ) → new ≡ places ++ Some x ∷ [] → length places ≡ length done
      → ((n : ℕ) → IsNode (length done) n → IsSomeAnd (place_of places n) (OpensPlace cells n)) → OpensPlace cells k x → k ≡ length places + 1
      → (n : ℕ) → IsNode (length (done ++ d ∷ [])) n → IsSomeAnd (place_of new n) (OpensPlace cells n)
  more_each places new done d x k is count was mine number n node =
      place_more cells (OpensPlace cells) places new x is (λ m there. was m (subst (λ (j : ℕ). IsNode j m) count there)) (subst (λ (j : ℕ). OpensPlace cells j x) number mine) n
      (subst (λ (j : ℕ). IsNode j n) (sym (more_count places new done d x is count)) node)

  shown : (n : ℕ) (o : Option (NodePlace D)) → IsSomeAnd o (OpensPlace cells n) → IsSomeAnd o (PlaceShows cells [] n)
  shown n None is = is
  shown n (Some place) is = is.shows

  pub first_state : (log : Log) (size n : ℕ) (places : List (Option (NodePlace D))) → log ≡ [] → size ≡ n → 1 ≤ n → length places ≡ n
      → ((m : ℕ) → IsNode n m → IsSomeAnd (place_of places m) (OpensPlace cells m)) → Shows cells log size places × FilesShow cells log size places
  first_state log size n places none same some count each =
      let all : (m : ℕ) → IsNode size m → IsSomeAnd (place_of places m) (OpensPlace cells m) = λ m node. each m (subst (λ (j : ℕ). IsNode j m) same node) in
      (first_shows cells log size places none (omega (arith, same, some)) (count ∙ sym same) (λ m node. shown m (place_of places m) (all m node)), first_sources cells log size places none all)
