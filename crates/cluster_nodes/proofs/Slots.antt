-- Places by their numbers: one that is read, and one that is written.
use Rattle.std.proofs.Common.{◌≡◌, ◌<◌, ◌-◌, ◌==◌, inl, inr, ℕ, zero, suc, Bool, true, false, List, [], ◌∷◌, Some, None, Option, length, get_or, set, refl, ap, ◌∙◌, sym, arith, if◌then◌else◌}
use Rattle.std.specs.List.{slice_get}
use Rattle.std.proofs.lemmas.Bool.{eq-eqb}
use Rattle.std.proofs.lemmas.Bool.Decides.{nat_tests, eqb_tells}
use Rattle.std.proofs.lemmas.Option.{slice_get-get_or}
use Rattle.cluster_nodes.specs.declared.nodes.NodePlace.{NodePlace}
use Rattle.cluster_nodes.specs.Places.{unwrapped, place_of, IsSlot}

next_test : (k j : ℕ) → (suc k == suc j) ≡ (k == j)
next_test k j = elim (eqb_tells k j) [
  | inl here ↦ eq-eqb (suc k) (suc j) (ap suc here.1) ∙ sym here.0
  | inr other ↦ let apart : (suc k == suc j) ≡ false = (let d = other.1 in grind (arith, nat_tests)) in apart ∙ sym other.0
]

get_of_set : {X : Type 0} (xs : List X) (k j : ℕ) (x : X) → k < length xs → slice_get (set xs k x) j ≡ (if k == j then Some x else slice_get xs j)
get_of_set [] k j x within = absurd (omega (arith, within))
get_of_set (y ∷ xs) zero zero x within = refl
get_of_set (y ∷ xs) zero (suc j) x within = let apart : (0 == suc j) ≡ false = grind (arith, nat_tests) in ap (λ (b : Bool). if b then Some x else slice_get xs j) (sym apart)
get_of_set (y ∷ xs) (suc k) zero x within = let apart : (suc k == 0) ≡ false = grind (arith, nat_tests) in ap (λ (b : Bool). if b then Some x else Some y) (sym apart)
get_of_set (y ∷ xs) (suc k) (suc j) x within = get_of_set xs k j x (omega (arith, within)) ∙ ap (λ (b : Bool). if b then Some x else slice_get xs j) (sym (next_test k j))

module _ {D : Type 0} where
  unwrapped_by : (b : Bool) (x : Option (NodePlace D)) (old : Option (Option (NodePlace D))) → unwrapped (if b then Some x else old) ≡ (if b then x else unwrapped old)
  unwrapped_by true x old = refl
  unwrapped_by false x old = refl

  -- the place that is read
  pub place_read : (places : List (Option (NodePlace D))) (n : ℕ) (x d : Option (NodePlace D)) → IsSlot places n → x ≡ get_or places (n - 1) d → place_of places n ≡ x
  place_read places zero x d slot is = absurd (let f = slot.0 in omega arith)
  place_read places (suc k) x d slot is =
      let before : suc k - 1 ≡ k = omega arith in
      ap unwrapped (slice_get-get_or places k d (let l = slot.1 in omega (arith, l))) ∙ (ap (λ (j : ℕ). get_or places j d) (sym before) ∙ sym is)

  written : (places : List (Option (NodePlace D))) (k : ℕ) (x : Option (NodePlace D)) → k < length places → (m : ℕ) → place_of (set places k x) m ≡ (if suc k == m then x else place_of places m)
  written places k x within zero = let apart : (suc k == 0) ≡ false = grind (arith, nat_tests) in ap (λ (b : Bool). if b then x else None) (sym apart)
  written places k x within (suc j) = ap unwrapped (get_of_set places k j x within) ∙ (unwrapped_by (k == j) x (slice_get places j) ∙ ap (λ (b : Bool). if b then x else unwrapped (slice_get places j)) (sym (next_test k j)))

  -- the places after one is written
  pub place_set : (places : List (Option (NodePlace D))) (n : ℕ) (x : Option (NodePlace D)) → IsSlot places n → (m : ℕ) → place_of (set places (n - 1) x) m ≡ (if n == m then x else place_of places m)
  place_set places zero x slot m = absurd (let f = slot.0 in omega arith)
  place_set places (suc k) x slot m =
      let before : suc k - 1 ≡ k = omega arith in
      ap (λ (j : ℕ). place_of (set places j x) m) before ∙ written places k x (let l = slot.1 in omega (arith, l)) m
