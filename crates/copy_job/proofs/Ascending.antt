-- Names and parts that ascend.
use Rattle.std.proofs.Common.{◌≡◌, ◌≢◌, ℕ, zero, suc, ◌+◌, ◌<◌, ◌≤◌, ◌||◌, Bool, true, false, not, List, [], ◌∷◌, length, filter, get_or, Result, Ok, Err, refl, sym, ap, subst, ◌∙◌, arith, cond, true≢false, is_ok}
use Rattle.std.specs.Prelude.{insert, map, take_while}
use Rattle.std.proofs.lemmas.List.{length-map, get_or-map}
use Rattle.std.specs.List.{AllByRecursion, HoldsAt}
use Rattle.std.specs.List.Sorted.{IsStrictlySortedBy, IsBinarySearchResult, IsNonDecreasingBy, IsSearchInRange}
use Rattle.std.specs.Ordering.{nat_cmp, is_eq, ordering_index, ordering_reverse}
use Rattle.std.specs.Cmp.Lexicographic.{slice_cmp}
use Rattle.std.specs.declared.cmp.Ordering.{Ordering}
use Rattle.std.specs.declared.cmp.Ordering.TheVariants.{Less, Equal, Greater}
use Rattle.std.proofs.lemmas.Cmp.{nat_list_cmp_total}
use Rattle.std.proofs.lemmas.List.Sums.{take_while-cons}
use Rattle.std.proofs.lemmas.Map.Keys.{sorted_head, sorted_tail}
use Rattle.std.proofs.lemmas.Map.Text.{is_eq-slice_cmp}
use Rattle.file_names.specs.Names.{is_less}
use Rattle.disk_model.specs.Disk.{Name, same, is_among}
use Rattle.file_deleter.specs.Holdings.{times}
use Rattle.file_deleter.proofs.NameLemmas.{found_nowhere, found_at, times-cons, same_self, among_times}
use Rattle.copy_job.specs.declared.part.JobPart.{JobPart}
use Rattle.copy_job.specs.Parts.{own_names, parts_below, insert_part}

-- ---- parts that pass a test
all_kept : (P : Name → Type 0) (w : JobPart → Bool) (ps : List JobPart) → AllByRecursion P (own_names ps) → AllByRecursion P (own_names (filter w ps))
all_kept P w [] all = all
all_kept P w (p ∷ ps) all = by (all_kept P w ps all.1) (w p)
  where
    by : AllByRecursion P (own_names (filter w ps)) → (b : Bool) → AllByRecursion P (own_names (cond b (p ∷ filter w ps) (filter w ps)))
    by rest true = (all.0, rest)
    by rest false = rest

-- a list of names with one below all of them in front
sorted-cons : (q : Name) (names : List Name) → AllByRecursion (λ y. slice_cmp nat_cmp q y ≡ Less) names → IsStrictlySortedBy (slice_cmp nat_cmp) names → IsStrictlySortedBy (slice_cmp nat_cmp) (q ∷ names)
unfolding IsStrictlySortedBy
sorted-cons q names first rest = (first, rest)

pub sorted_kept : (w : JobPart → Bool) (ps : List JobPart) → IsStrictlySortedBy (slice_cmp nat_cmp) (own_names ps) → IsStrictlySortedBy (slice_cmp nat_cmp) (own_names (filter w ps))
sorted_kept w [] up = up
sorted_kept w (p ∷ ps) up = by (sorted_kept w ps (sorted_tail (slice_cmp nat_cmp) p.own (own_names ps) up)) (w p)
  where
    by : IsStrictlySortedBy (slice_cmp nat_cmp) (own_names (filter w ps)) → (b : Bool) → IsStrictlySortedBy (slice_cmp nat_cmp) (own_names (cond b (p ∷ filter w ps) (filter w ps)))
    by rest true = sorted-cons p.own (own_names (filter w ps)) (all_kept (λ y. slice_cmp nat_cmp p.own y ≡ Less) w ps (sorted_head (slice_cmp nat_cmp) p.own (own_names ps) up)) rest
    by rest false = rest

-- ---- a part that is put in behind those below it
all_put : (P : Name → Type 0) (ps : List JobPart) (k : ℕ) (x : JobPart) → P x.own → AllByRecursion P (own_names ps) → AllByRecursion P (own_names (insert ps k x))
all_put P [] zero x here all = (here, all)
all_put P [] (suc k) x here all = (here, all)
all_put P (p ∷ ps) zero x here all = (here, all)
all_put P (p ∷ ps) (suc k) x here all = (all.0, all_put P ps k x here all.1)

all_above : (x y : Name) (names : List Name) → slice_cmp nat_cmp x y ≡ Less → AllByRecursion (λ z. slice_cmp nat_cmp y z ≡ Less) names → AllByRecursion (λ z. slice_cmp nat_cmp x z ≡ Less) names
all_above x y [] low all = all
all_above x y (z ∷ names) low all = (nat_list_cmp_total.trans x y z low all.0, all_above x y names low all.1)

-- of two other names, one is below the other
turned : (x y : Name) → same y x ≡ false → (o : Ordering) → slice_cmp nat_cmp y x ≡ o → is_less o ≡ false → slice_cmp nat_cmp x y ≡ Less
turned x y other Less e above = absurd (true≢false above)
turned x y other Equal e above = absurd (true≢false (sym (sym (is_eq-slice_cmp y x) ∙ ap is_eq e) ∙ other))
turned x y other Greater e above = nat_list_cmp_total.antisymm x y ∙ ap ordering_reverse e

below-cons : (x : Name) (p : JobPart) (ps : List JobPart) → parts_below x (p ∷ ps) ≡ cond (is_less (slice_cmp nat_cmp p.own x)) (suc (parts_below x ps)) 0
below-cons x p ps = ap length (take_while-cons (λ (q : JobPart). is_less (slice_cmp nat_cmp q.own x)) p ps) ∙ by (is_less (slice_cmp nat_cmp p.own x))
  where
    by : (b : Bool) → length (cond b (p ∷ take_while (λ (q : JobPart). is_less (slice_cmp nat_cmp q.own x)) ps) []) ≡ cond b (suc (parts_below x ps)) 0
    by true = refl
    by false = refl

no_times : (q x : Name) (names : List Name) → times (q ∷ names) x ≡ 0 → (same q x ≡ false) × (times names x ≡ 0)
no_times q x names none = by (same q x) refl
  where
    by : (b : Bool) → same q x ≡ b → (same q x ≡ false) × (times names x ≡ 0)
    by true e = absurd (let one : times (q ∷ names) x ≡ 1 + times names x = times-cons q names x ∙ ap (λ b. cond b 1 0 + times names x) e in omega (arith, one, none))
    by false e = (e, omega (arith, times-cons q names x, none))

pub sorted_put : (x : JobPart) (ps : List JobPart) → times (own_names ps) x.own ≡ 0 → IsStrictlySortedBy (slice_cmp nat_cmp) (own_names ps) → IsStrictlySortedBy (slice_cmp nat_cmp) (own_names (insert_part x ps))
sorted_put x [] none up = sorted-cons x.own [] tt up
sorted_put x (p ∷ ps) none up = subst (λ (k : ℕ). IsStrictlySortedBy (slice_cmp nat_cmp) (own_names (insert (p ∷ ps) k x))) (sym (below-cons x.own p ps))
    (by (sorted_put x ps apart.1 (sorted_tail (slice_cmp nat_cmp) p.own (own_names ps) up)) (is_less (slice_cmp nat_cmp p.own x.own)) refl)
  where
    apart : (same p.own x.own ≡ false) × (times (own_names ps) x.own ≡ 0)
    apart = no_times p.own x.own (own_names ps) none

    head : AllByRecursion (λ y. slice_cmp nat_cmp p.own y ≡ Less) (own_names ps)
    head = sorted_head (slice_cmp nat_cmp) p.own (own_names ps) up

    low : (o : Ordering) → is_less o ≡ true → o ≡ Less
    low Less e = refl
    low Equal e = absurd (true≢false (sym e))
    low Greater e = absurd (true≢false (sym e))

    by : IsStrictlySortedBy (slice_cmp nat_cmp) (own_names (insert_part x ps)) → (b : Bool) → is_less (slice_cmp nat_cmp p.own x.own) ≡ b
        → IsStrictlySortedBy (slice_cmp nat_cmp) (own_names (insert (p ∷ ps) (cond b (suc (parts_below x.own ps)) 0) x))
    by rest true e = sorted-cons p.own (own_names (insert_part x ps)) (all_put (λ y. slice_cmp nat_cmp p.own y ≡ Less) ps (parts_below x.own ps) x (low (slice_cmp nat_cmp p.own x.own) e) head) rest
    by rest false e =
        let first : slice_cmp nat_cmp x.own p.own ≡ Less = turned x.own p.own apart.0 (slice_cmp nat_cmp p.own x.own) refl e in
        sorted-cons x.own (own_names (p ∷ ps)) (first, all_above x.own p.own (own_names ps) first head) up

-- ---- searches by name
among_at : (names : List Name) (i : ℕ) (d q : Name) → i < length names → slice_cmp nat_cmp (get_or names i d) q ≡ Equal → is_among names q ≡ true
among_at [] i d q lt e = absurd (omega (arith, lt))
among_at (x ∷ names) zero d q lt e = ap (λ b. b || is_among names q) (sym (is_eq-slice_cmp x q) ∙ ap is_eq e)
among_at (x ∷ names) (suc i) d q lt e = by (among_at names i d q (omega (arith, lt)) e) (same x q)
  where
    by : is_among names q ≡ true → (b : Bool) → (b || is_among names q) ≡ true
    by more true = refl
    by more false = more

module _ {X : Type 0} (f : X → Name) (q : Name) where
  -- what a search of items by their names does not find, one among the names does not
  pub search_names : (xs : List X) (i : ℕ) → i ≤ length xs → IsBinarySearchResult (λ x. slice_cmp nat_cmp (f x) q) xs (Err i) → IsBinarySearchResult (λ y. slice_cmp nat_cmp y q) (map f xs) (Err i)
  search_names [] i low h = λ up. (λ k d from to. absurd (omega (arith, low, to)), λ k d from to. absurd (omega (arith, to)))
  search_names (x ∷ xs) i low h = λ up.
      let size : length (map f (x ∷ xs)) ≡ length (x ∷ xs) = length-map (x ∷ xs) f in
      let cut = h (λ a b d le lt.
      let first : ordering_index (slice_cmp nat_cmp (get_or (map f (x ∷ xs)) a (f d)) q) ≤ ordering_index (slice_cmp nat_cmp (get_or (map f (x ∷ xs)) b (f d)) q) = up a b (f d) le (omega (arith, lt, size)) in
      subst (λ (n : Name). ordering_index (slice_cmp nat_cmp n q) ≤ ordering_index (slice_cmp nat_cmp (f (get_or (x ∷ xs) b d)) q)) (get_or-map f (x ∷ xs) a d (f d) (omega (arith, le, lt)))
      (subst (λ (n : Name). ordering_index (slice_cmp nat_cmp (get_or (map f (x ∷ xs)) a (f d)) q) ≤ ordering_index (slice_cmp nat_cmp n q)) (get_or-map f (x ∷ xs) b d (f d) lt) first)) in (
        λ k d from to. subst (λ (n : Name). slice_cmp nat_cmp n q ≡ Less) (sym (get_or-map f (x ∷ xs) k x d (omega (arith, to, low)))) (cut.0 k x from to),
        λ k d from to. subst (λ (n : Name). slice_cmp nat_cmp n q ≡ Greater) (sym (get_or-map f (x ∷ xs) k x d (omega (arith, to, size)))) (cut.1 k x from (omega (arith, to, size))),
      )

  pub searched_by : (xs : List X) (r : Result ℕ ℕ) → IsStrictlySortedBy (slice_cmp nat_cmp) (map f xs) → IsSearchInRange r (length xs) → IsBinarySearchResult (λ x. slice_cmp nat_cmp (f x) q) xs r → is_ok r ≡ is_among (map f xs) q
  searched_by xs (Err i) up low h = sym (found_nowhere (map f xs) q i up (search_names xs i low h))
  searched_by [] (Ok i) up lt h = absurd (omega (arith, lt))
  searched_by (x ∷ xs) (Ok i) up lt h =
      sym (among_at (map f (x ∷ xs)) i (f x) q (omega (arith, lt, length-map (x ∷ xs) f)) (subst (λ (n : Name). slice_cmp nat_cmp n q ≡ Equal) (sym (get_or-map f (x ∷ xs) i x (f x) lt)) (h x)))

pub named_by : (names : List Name) (q : Name) (r : Result ℕ ℕ) → IsStrictlySortedBy (slice_cmp nat_cmp) names → IsSearchInRange r (length names) → IsBinarySearchResult (λ y. slice_cmp nat_cmp y q) names r → is_ok r ≡ is_among names q
named_by names q (Ok i) up lt h = sym (among_at names i q q lt (h q))
named_by names q (Err i) up low h = sym (found_nowhere names q i up h)

own_map : (ps : List JobPart) → map (λ (p : JobPart). p.own) ps ≡ own_names ps
own_map [] = refl
own_map (p ∷ ps) = ap (λ (ns : List Name). p.own ∷ ns) (own_map ps)

pub own_by : (ps : List JobPart) (q : Name) (r : Result ℕ ℕ) → IsSearchInRange r (length ps) → IsBinarySearchResult (λ (p : JobPart). slice_cmp nat_cmp p.own q) ps r → IsStrictlySortedBy (slice_cmp nat_cmp) (own_names ps) → is_ok r ≡ is_among (own_names ps) q
own_by ps q r low h up = searched_by (λ (p : JobPart). p.own) q ps r (subst (IsStrictlySortedBy (slice_cmp nat_cmp)) (sym (own_map ps)) up) low h ∙ ap (λ (ns : List Name). is_among ns q) (own_map ps)
