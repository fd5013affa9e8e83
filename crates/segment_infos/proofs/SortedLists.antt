-- A list in strictly ascending order is told by its elements.
use Rattle.std.proofs.Common.{◌≡◌, zero, suc, ◌⊎◌, List, [], ◌∷◌, refl, sym, subst, ◌∙◌, arith, inl, inr}
use Rattle.std.specs.List.{Contains, AllByRecursion}
use Rattle.std.specs.List.Sorted.{IsStrictlySortedBy}
use Rattle.std.specs.Ordering.{ordering_reverse}
use Rattle.std.specs.Cmp.{IsTotalOrder}
use Rattle.std.specs.declared.cmp.Ordering.{Ordering}
use Rattle.std.specs.declared.cmp.Ordering.TheVariants.{Less, Equal, Greater}
use Rattle.file_names.proofs.Given.{contains_later, contains_cases}

module _ (K : Type 0) (order : K → K → Ordering) (total : IsTotalOrder order) where
  is_first : (x : K) (xs : List K) → Contains (x ∷ xs) x
  is_first x xs = (0, omega arith, refl)

  below_each : (x y : K) (xs : List K) → AllByRecursion (λ z. order x z ≡ Less) xs → Contains xs y → order x y ≡ Less
  below_each x y [] h (k, lt, e) = absurd (omega (arith, lt))
  below_each x y (z ∷ xs) h (zero, lt, e) = subst (λ (n : K). order x n ≡ Less) e h.0
  below_each x y (z ∷ xs) h (suc k, lt, e) = below_each x y xs h.1 (k, omega (arith, lt), e)

  never_below_itself : (x : K) → order x x ≡ Less → ⊥
  never_below_itself x h = clash (order x x) h (total.antisymm x x)
    where
      clash : (a : Ordering) → a ≡ Less → a ≡ ordering_reverse a → ⊥
      clash Less e f = cc
      clash Equal e f = cc
      clash Greater e f = cc

  not_below_each_other : (x y : K) → order x y ≡ Less → order y x ≡ Less → ⊥
  not_below_each_other x y h k = never_below_itself x (total.trans x y x h k)

  abbrev SameElements : List K → List K → Type 0
  SameElements xs ys = (z : K) → (Contains xs z → Contains ys z) × (Contains ys z → Contains xs z)

  cells : (x y : K) (xs ys : List K) → x ≡ y → xs ≡ ys → x ∷ xs ≡ y ∷ ys
  cells x y xs ys e f = cc

  same_first : (x y : K) (xs ys : List K) → IsStrictlySortedBy order (x ∷ xs) → IsStrictlySortedBy order (y ∷ ys) → SameElements (x ∷ xs) (y ∷ ys) → x ≡ y
  unfolding IsStrictlySortedBy
  same_first x y xs ys h k same =
      elim (contains_cases y x ys ((same x).0 (is_first x xs))) [
        | inl e ↦ sym e
        | inr later ↦
            elim (contains_cases x y xs ((same y).1 (is_first y ys))) [
              | inl e ↦ e
              | inr after ↦ absurd (not_below_each_other y x (below_each y x ys k.0 later) (below_each x y xs h.0 after))
            ]
      ]

  rest_in : (x y : K) (xs ys : List K) → x ≡ y → AllByRecursion (λ z. order x z ≡ Less) xs → (z : K) → Contains (y ∷ ys) z → Contains xs z → Contains ys z
  rest_in x y xs ys e below z there here =
      elim (contains_cases y z ys there) [
        | inl f ↦ absurd (never_below_itself x (subst (λ (n : K). order x n ≡ Less) (sym (e ∙ f)) (below_each x z xs below here)))
        | inr later ↦ later
      ]

  pub one_sorted_list : (xs ys : List K) → IsStrictlySortedBy order xs → IsStrictlySortedBy order ys → SameElements xs ys → xs ≡ ys
  unfolding IsStrictlySortedBy
  one_sorted_list [] [] h k same = refl
  one_sorted_list [] (y ∷ ys) h k same = let none = (same y).1 (is_first y ys) in absurd (omega (arith, none.1))
  one_sorted_list (x ∷ xs) [] h k same = let none = (same x).0 (is_first x xs) in absurd (omega (arith, none.1))
  one_sorted_list (x ∷ xs) (y ∷ ys) h k same =
      let e = same_first x y xs ys h k same in
      cells x y xs ys e (one_sorted_list xs ys h.1 k.1 (λ z. (
        λ here. rest_in x y xs ys e h.0 z ((same z).0 (contains_later x z xs here)) here,
        λ there. rest_in y x ys xs (sym e) k.0 z ((same z).1 (contains_later y z ys there)) there,
      )))
