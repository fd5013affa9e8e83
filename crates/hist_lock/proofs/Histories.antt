-- Lists of views, beginnings of histories, and the entries of one number.
use Rattle.std.proofs.Common.{◌≡◌, ◌≢◌, ℕ, zero, suc, ◌+◌, ◌<◌, ◌≤◌, ◌⊎◌, List, [], ◌∷◌, ◌++◌, length, set, cond, Bool, true, false, eqb, ne_eqb, nat_lt, refl, sym, ap, ◌∙◌, subst, inl, inr, ⊎_elim, arith, append_assoc}
use Rattle.std.specs.Prelude.{sum_by}
use Rattle.std.proofs.lemmas.List.{append-nil}
use Rattle.std.proofs.lemmas.List.Elements.{filter-append}
use Rattle.std.proofs.lemmas.List.Sums.{sum_by-cons}
use mathlib.Core.Option.{some, some-injective, some-ne-none}
use mathlib.Core.List.{IsPrefix}
use lib.ListN.{get_elem?}
use borrow.Author.Tests.{ltb-true, ltb-false}
use Rattle.hist_lock.specs.History.{Each, longer_of, shorter_of, entries_by, MayAppend}

module _ {A : Type 0} where
  -- the sum after one element is put in the place of another
  pub sum_by-set_at : (f : A → ℕ) (l : List A) (i : ℕ) (v w : A) → get_elem? l i ≡ some v → sum_by f (set l i w) + f v ≡ sum_by f l + f w
  sum_by-set_at f [] i v w e = absurd (some-ne-none v (sym e))
  sum_by-set_at f (x ∷ xs) zero v w e = let s = ap f (some-injective x v e) in omega (arith, sum_by-cons f x xs, sum_by-cons f w xs)
  sum_by-set_at f (x ∷ xs) (suc i) v w e = let s = sum_by-set_at f xs i v w e in omega (arith, sum_by-cons f x xs, sum_by-cons f x (set xs i w))

  -- one element is within the sum
  pub sum_by-at : (f : A → ℕ) (l : List A) (i : ℕ) (v : A) → get_elem? l i ≡ some v → f v ≤ sum_by f l
  sum_by-at f [] i v e = absurd (some-ne-none v (sym e))
  sum_by-at f (x ∷ xs) zero v e = let s = ap f (some-injective x v e) in omega (arith, sum_by-cons f x xs)
  sum_by-at f (x ∷ xs) (suc i) v e = let s = sum_by-at f xs i v e in omega (arith, sum_by-cons f x xs)

  pub at_end : (l : List A) (a b : A) (j : ℕ) → get_elem? (l ++ a ∷ []) j ≡ some b → (get_elem? l j ≡ some b) ⊎ ((j ≡ length l) × (a ≡ b))
  at_end [] a b zero e = inr (refl, some-injective a b e)
  at_end [] a b (suc j) e = absurd (some-ne-none b (sym e))
  at_end (x ∷ xs) a b zero e = inl e
  at_end (x ∷ xs) a b (suc j) e = ⊎_elim inl (λ t. inr (ap suc t.0, t.1)) (at_end xs a b j e)

  pub at_below : (l : List A) (j : ℕ) (b : A) → get_elem? l j ≡ some b → j < length l
  at_below [] j b e = absurd (some-ne-none b (sym e))
  at_below (x ∷ xs) zero b e = omega arith
  at_below (x ∷ xs) (suc j) b e = let s = at_below xs j b e in omega arith

  pub each_map : (P Q : A → Type 0) → ((a : A) → P a → Q a) → (l : List A) → Each P l → Each Q l
  each_map P Q f [] h = tt
  each_map P Q f (x ∷ xs) h = (f x h.0, each_map P Q f xs h.1)

  pub each-append : (P : A → Type 0) → (l m : List A) → Each P l → Each P m → Each P (l ++ m)
  each-append P [] m h k = k
  each-append P (x ∷ xs) m h k = (h.0, each-append P xs m h.1 k)

  pub prefix_refl : (l : List A) → IsPrefix l l
  prefix_refl l = ([], append-nil l)

  pub prefix_more : (l m n : List A) → IsPrefix l m → IsPrefix l (m ++ n)
  prefix_more l m n h = (h.0 ++ n, sym (append_assoc l h.0 n) ∙ ap (λ z. z ++ n) h.1)

  pub prefix_trans : (l m n : List A) → IsPrefix l m → IsPrefix m n → IsPrefix l n
  prefix_trans l m n h k = (h.0 ++ k.0, sym (append_assoc l h.0 k.0) ∙ (ap (λ z. z ++ k.0) h.1 ∙ k.1))

  -- of two beginnings of one list the shorter begins the longer
  pub prefix_both : (l m n : List A) → IsPrefix l n → IsPrefix m n → length l ≤ length m → IsPrefix l m
  prefix_both [] m n h k le = (m, refl)
  prefix_both (x ∷ xs) [] n h k le = absurd (omega arith)
  prefix_both (x ∷ xs) (y ∷ ys) [] h k le = absurd (cc (h.1))
  prefix_both (x ∷ xs) (y ∷ ys) (z ∷ zs) h k le =
      let heads : x ≡ y = cc (h.1, k.1) in
      let rest = prefix_both xs ys zs (h.0, cc (h.1)) (k.0, cc (k.1)) (omega arith) in
      (rest.0, cc (heads, rest.1))

  pub longer_prefix : (l m n : List A) → IsPrefix l n → IsPrefix m n → IsPrefix (longer_of l m) n
  longer_prefix l m n h k = elim (nat_lt (length l) (length m)) as (λ b. IsPrefix (cond b m l) n) [ true ↦ k | false ↦ h ]

  pub shorter_prefix : (l m n : List A) → IsPrefix l n → IsPrefix m n → IsPrefix (shorter_of l m) n
  shorter_prefix l m n h k = elim (nat_lt (length l) (length m)) as (λ b. IsPrefix (cond b l m) n) [ true ↦ h | false ↦ k ]

  pub shorter_length : (l m : List A) → length (shorter_of l m) ≤ length (longer_of l m)
  shorter_length l m = elim_lt (nat_lt (length l) (length m)) refl
    where
      elim_lt : (b : Bool) → nat_lt (length l) (length m) ≡ b → length (cond b l m) ≤ length (cond b m l)
      elim_lt true e = let h = ltb-true (length l) (length m) e in omega arith
      elim_lt false e = let h = ltb-false (length l) (length m) e in omega arith

  longer_length : (l m : List A) → length l ≤ length (longer_of l m)
  longer_length l m = elim_lt (nat_lt (length l) (length m)) refl
    where
      elim_lt : (b : Bool) → nat_lt (length l) (length m) ≡ b → length l ≤ length (cond b m l)
      elim_lt true e = let h = ltb-true (length l) (length m) e in omega arith
      elim_lt false e = omega arith

  pub longer_first : (l m n : List A) → IsPrefix l n → IsPrefix m n → IsPrefix l (longer_of l m)
  longer_first l m n h k = prefix_both l (longer_of l m) n h (longer_prefix l m n h k) (longer_length l m)

  -- where the shorter begins the longer, both do
  pub both_begin : (l m : List A) → IsPrefix (shorter_of l m) (longer_of l m) → IsPrefix l (longer_of l m) × IsPrefix m (longer_of l m)
  both_begin l m = elim (nat_lt (length l) (length m)) as (λ b. IsPrefix (cond b l m) (cond b m l) → IsPrefix l (cond b m l) × IsPrefix m (cond b m l))
      [ true ↦ λ h. (h, prefix_refl m) | false ↦ λ h. (prefix_refl l, h) ]

module _ {E : Type 0} (names : E → ℕ) where
  -- entries of another seat have none of this number
  pub none_by : (n m : ℕ) → 0 < n → n ≢ m → (es : List E) → Each (MayAppend names m) es → entries_by names n es ≡ []
  none_by n m pos other [] h = refl
  none_by n m pos other (e ∷ es) h = let not : names e ≢ n = λ is. ⊎_elim (λ a. other (sym is ∙ a)) (λ b. absurd (omega arith)) h.0 in
      subst (λ b. cond b (e ∷ entries_by names n es) (entries_by names n es) ≡ []) (sym (ne_eqb (names e) n not)) (none_by n m pos other es h.1)

  pub by_same : (n m : ℕ) → 0 < n → n ≢ m → (log more : List E) → Each (MayAppend names m) more → entries_by names n (log ++ more) ≡ entries_by names n log
  by_same n m pos other log more h = filter-append (λ e. eqb (names e) n) log more ∙ (ap (λ z. entries_by names n log ++ z) (none_by n m pos other more h) ∙ append-nil (entries_by names n log))

  pub by_prefix : (n : ℕ) (l m : List E) → IsPrefix l m → IsPrefix (entries_by names n l) (entries_by names n m)
  by_prefix n l m h = (entries_by names n h.0, sym (filter-append (λ e. eqb (names e) n) l h.0) ∙ ap (entries_by names n) h.1)

  -- a beginning of a history that has none of a number has none either
  pub by_none : (n : ℕ) (l m : List E) → IsPrefix l m → entries_by names n m ≡ [] → entries_by names n l ≡ []
  by_none n l m h none_there = nothing (entries_by names n l) (subst (λ z. IsPrefix (entries_by names n l) z) none_there (by_prefix n l m h))
    where
      nothing : (l : List E) → IsPrefix l [] → l ≡ []
      nothing [] h = refl
      nothing (x ∷ xs) h = absurd (cc (h.1))

  -- what stands between two histories with the same entries of a number has the same
  pub by_between : (n : ℕ) (own l m log : List E) → entries_by names n l ≡ own → entries_by names n log ≡ own → IsPrefix l m → IsPrefix m log → entries_by names n m ≡ own
  by_between n own l m log less more h k =
      let p = subst (λ z. IsPrefix z (entries_by names n m)) less (by_prefix n l m h) in
      let q = subst (λ z. IsPrefix (entries_by names n m) z) more (by_prefix n m log k) in
      both_ways (entries_by names n m) own q p
    where
      both_ways : (a b : List E) → IsPrefix a b → IsPrefix b a → a ≡ b
      both_ways [] [] h k = refl
      both_ways [] (y ∷ ys) h k = absurd (cc (k.1))
      both_ways (x ∷ xs) [] h k = absurd (cc (h.1))
      both_ways (x ∷ xs) (y ∷ ys) h k = let rest = both_ways xs ys (h.0, cc (h.1)) (k.0, cc (k.1)) in cc (h.1, rest)
