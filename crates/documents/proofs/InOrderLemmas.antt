-- Items in order: the same order in whatever turn they come, and hits in theirs.
use Rattle.std.proofs.Common.{◌≡◌, ℕ, zero, suc, ◌+◌, ◌<◌, List, [], ◌∷◌, length, get_or, set, Bool, true, false, refl, sym, ap, ◌∙◌, arith, add-one}
use Rattle.std.specs.Prelude.{if◌then◌else◌}
use Rattle.std.specs.List.{swap}
use Rattle.std.specs.List.Sorted.{IsPermutation, IsSorted}
use Rattle.std.specs.Ordering.{is_lt, nat_cmp, ordering_reverse}
use Rattle.std.specs.Cmp.{IsTotalOrder}
use Rattle.std.specs.Cmp.Lexicographic.{texts_ties}
use Rattle.std.specs.declared.cmp.Ordering.{Ordering}
use Rattle.std.specs.declared.cmp.Ordering.TheVariants.{Less, Equal, Greater}
use Rattle.std.proofs.lemmas.Cmp.{ranked, nat_cmp_total, nat_list_cmp_total, on_total, back_total, then_total}
use Rattle.std.proofs.lemmas.List.Sorted.{IsPermutation-keeps}
use Rattle.std.proofs.lemmas.Slice.Eq.{bytes_eq-Decides}
use Rattle.nrt_base.proofs.Plain.{both_equal}
use Rattle.documents.specs.declared.answer.Hit.{Hit}
use Rattle.documents.specs.Documents.{key_cmp}
use Rattle.documents.specs.InOrder.{with_item, in_order}
use Rattle.documents.specs.Ranking.{hit_cmp}

-- a relation that is reflexive and transitive, goes under a head and over two heads in turn holds along each permutation
module _ {X : Type 0} (R : List X → List X → Type 0) (same : (xs : List X) → R xs xs)
    (skip : (x : X) (xs ys : List X) → R xs ys → R (x ∷ xs) (x ∷ ys))
    (turn : (x y : X) (xs : List X) → R (x ∷ y ∷ xs) (y ∷ x ∷ xs))
    (chain : (xs ys zs : List X) → R xs ys → R ys zs → R xs zs) where
  to_head : (xs : List X) (j : ℕ) (x d : X) → j < length xs → R (x ∷ xs) (get_or xs j d ∷ set xs j x)
  to_head [] j x d lt = absurd (omega (arith, lt))
  to_head (y ∷ xs) zero x d lt = turn x y xs
  to_head (y ∷ xs) (suc j) x d lt =
      chain _ _ _ (turn x y xs) (chain _ _ _ (skip y _ _ (to_head xs j x d (omega (arith, lt)))) (turn y (get_or xs j d) (set xs j x)))

  exchanged : (xs : List X) (i j : ℕ) (d : X) → i < length xs → j < length xs → R xs (set (set xs i (get_or xs j d)) j (get_or xs i d))
  exchanged [] i j d p q = absurd (omega (arith, p))
  exchanged (x ∷ xs) zero zero d p q = same (x ∷ xs)
  exchanged (x ∷ xs) zero (suc j) d p q = to_head xs j x d (omega (arith, q))
  exchanged (x ∷ xs) (suc i) zero d p q = to_head xs i x d (omega (arith, p))
  exchanged (x ∷ xs) (suc i) (suc j) d p q = skip x _ _ (exchanged xs i j d (omega (arith, p)) (omega (arith, q)))

  swapped : (xs : List X) (i j : ℕ) → i < length xs → j < length xs → R xs (swap xs i j)
  swapped [] i j p q = same []
  swapped (x ∷ xs) i j p q = exchanged (x ∷ xs) i j x p q

  pub along_permutation : (xs ys : List X) → IsPermutation xs ys → R xs ys
  along_permutation xs = IsPermutation-keeps xs (R xs) (same xs) (λ l i j p q h. chain xs l _ h (swapped l i j p q))

module _ {X : Type 0} (cmp : X → X → Ordering) (total : IsTotalOrder cmp) where
  less_of : (o : Ordering) → is_lt o ≡ true → o ≡ Less
  less_of Less e = refl
  less_of Equal e = absurd cc
  less_of Greater e = absurd cc

  -- what is before is not behind
  pub not_behind : (a b : X) → is_lt (cmp a b) ≡ true → is_lt (cmp b a) ≡ false
  not_behind a b e = ap is_lt (total.antisymm b a ∙ ap ordering_reverse (less_of (cmp a b) e))

  -- what is not behind an item stands before all that the item does
  pub before_too : (a b c : X) → is_lt (cmp b a) ≡ false → is_lt (cmp b c) ≡ true → is_lt (cmp a c) ≡ true
  before_too a b c le lt = by_case (cmp b a) refl
    where
      by_case : (o : Ordering) → cmp b a ≡ o → is_lt (cmp a c) ≡ true
      by_case Less e = let bad : true ≡ false = sym (ap is_lt e) ∙ le in absurd cc
      by_case Equal e = ap is_lt (sym (total.congr b a c e)) ∙ lt
      by_case Greater e = ap is_lt (total.trans a b c (total.antisymm a b ∙ ap ordering_reverse e) (less_of (cmp b c) lt))

  module _ (ties : (a b : X) → cmp a b ≡ Equal → a ≡ b) where
    -- which of two comes first
    tied : (a b : X) → is_lt (cmp a b) ≡ false → is_lt (cmp b a) ≡ false → a ≡ b
    tied a b le ge = by_case (cmp a b) refl
      where
        by_case : (o : Ordering) → cmp a b ≡ o → a ≡ b
        by_case Less e = let bad : true ≡ false = sym (ap is_lt e) ∙ le in absurd cc
        by_case Equal e = ties a b e
        by_case Greater e = let bad : true ≡ false = sym (ap is_lt (total.antisymm b a ∙ ap ordering_reverse e)) ∙ ge in absurd cc

    two : (a b : X) (items : List X) → (if is_lt (cmp a b) then a ∷ b ∷ items else b ∷ a ∷ items) ≡ (if is_lt (cmp b a) then b ∷ a ∷ items else a ∷ b ∷ items)
    two a b items = by_test (is_lt (cmp a b)) (is_lt (cmp b a)) refl refl
      where
        by_test : (s t : Bool) → is_lt (cmp a b) ≡ s → is_lt (cmp b a) ≡ t
            → (if is_lt (cmp a b) then a ∷ b ∷ items else b ∷ a ∷ items) ≡ (if is_lt (cmp b a) then b ∷ a ∷ items else a ∷ b ∷ items)
        by_test true true e f = let bad : true ≡ false = sym f ∙ not_behind a b e in absurd cc
        by_test true false e f = rw (e, f) refl
        by_test false true e f = rw (e, f) refl
        by_test false false e f = let same : a ≡ b = tied a b e f in rw (e, f) (ap (λ (y : X). b ∷ y ∷ items) same ∙ ap (λ (y : X). y ∷ b ∷ items) (sym same))

    -- two more items make one list in either turn
    pub with_two : (items : List X) (a b : X) → with_item cmp (with_item cmp items a) b ≡ with_item cmp (with_item cmp items b) a
    with_two [] a b = two a b []
    with_two (x ∷ items) a b = by_test (is_lt (cmp x a)) (is_lt (cmp x b)) refl refl (with_two items a b)
      where
        by_test : (s t : Bool) → is_lt (cmp x a) ≡ s → is_lt (cmp x b) ≡ t → with_item cmp (with_item cmp items a) b ≡ with_item cmp (with_item cmp items b) a
            → with_item cmp (with_item cmp (x ∷ items) a) b ≡ with_item cmp (with_item cmp (x ∷ items) b) a
        by_test true true e f h = rw (e, f, e) (ap (λ ys. x ∷ ys) h)
        by_test true false e f h = rw (e, f, before_too b x a f e, e) refl
        by_test false true e f h = rw (e, f, before_too a x b e f, e) refl
        by_test false false e f h = rw (e, f, e) (two a b (x ∷ items))

    next_of : (x : X) (items : List X) (k : ℕ) (d : X) → get_or (x ∷ items) (k + 1) d ≡ get_or items k d
    next_of x items k d = rw add-one refl

    sorted_rest : (x : X) (items : List X) → IsSorted cmp (x ∷ items) → IsSorted cmp items
    sorted_rest x items sorted k d low less =
        ap (λ (y : X). is_lt (cmp y (get_or items k d))) (sym (next_of x items (k + 1) d))
        ∙ ap (λ (y : X). is_lt (cmp (get_or (x ∷ items) (k + 1 + 1) d) y)) (sym (next_of x items k d))
        ∙ sorted (k + 1) d (omega arith) (omega (arith, less))

    -- sorted items are in order
    pub in_order-sorted : (items : List X) → IsSorted cmp items → in_order cmp items ≡ items
    in_order-sorted [] sorted = refl
    in_order-sorted (x ∷ []) sorted = refl
    in_order-sorted (x ∷ y ∷ items) sorted =
        let first : is_lt (cmp y x) ≡ false = sorted 0 x (omega arith) (omega arith) in
        rw (in_order-sorted (y ∷ items) (sorted_rest x (y ∷ items) sorted), first) refl

    -- in whatever turn items come, they are in one order
    pub in_order-permutation : (items others : List X) → IsPermutation items others → in_order cmp items ≡ in_order cmp others
    in_order-permutation = along_permutation (λ items others. in_order cmp items ≡ in_order cmp others)
        (λ items. refl) (λ x items others e. ap (λ ys. with_item cmp ys x) e) (λ x y items. with_two (in_order cmp items) y x) (λ items others last e f. e ∙ f)

    -- items that were sorted are in order
    pub in_order-from_sort : (items sorted : List X) → IsPermutation items sorted → IsSorted cmp sorted → sorted ≡ in_order cmp items
    in_order-from_sort items sorted moved ascending = sym (in_order-permutation items sorted moved ∙ in_order-sorted sorted ascending)

same_key : (a b : List ℕ) → key_cmp a b ≡ Equal → a ≡ b
same_key a b e = (bytes_eq-Decides a b).0 (texts_ties a b ∙ rw e refl)

pub hit_cmp_total : IsTotalOrder hit_cmp
hit_cmp_total = then_total (back_total (on_total (λ (h : Hit). h.rank) nat_cmp_total)) (on_total (λ (h : Hit). h.key) nat_list_cmp_total)

pub hit_ties : (a b : Hit) → hit_cmp a b ≡ Equal → a ≡ b
hit_ties a b e =
    let both = both_equal (nat_cmp b.rank a.rank) (key_cmp a.key b.key) e in
    same_parts a.key b.key a.rank b.rank (same_key a.key b.key both.1) (ranked b.rank a.rank Equal (sym both.0))
  where
    same_parts : (k l : List ℕ) (m n : ℕ) → k ≡ l → n ≡ m → ◌≡◌ {A = Hit} (record { key = k; rank = m }) (record { key = l; rank = n })
    same_parts k l m n f g = cc

-- the same hits in another turn make one answer
pub hits-permutation : (hits others : List Hit) → IsPermutation hits others → in_order hit_cmp hits ≡ in_order hit_cmp others
hits-permutation = in_order-permutation hit_cmp hit_cmp_total hit_ties
