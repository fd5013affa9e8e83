-- Names in lists of names.
use Rattle.std.proofs.Common.{◌≡◌, ◌≢◌, ℕ, zero, suc, ◌+◌, ◌<◌, ◌≤◌, ◌||◌, ◌&&◌, not, Bool, true, false, List, [], ◌∷◌, ◌++◌, length, take, drop, get_or, refl, sym, ap, subst, ◌∙◌, cond, arith, true≢false, is_some, All, filter, Option, Some, None, inl, inr, add-one, Err}
use Rattle.std.proofs.lemmas.List.Elements.{All-cons}
use Rattle.std.specs.List.{dedup, dedup_from, remove, HoldsAt}
use Rattle.std.specs.Cmp.Lexicographic.{slice_cmp, nat_list_cmp_total}
use Rattle.std.specs.Ordering.{nat_cmp, is_eq, is_lt, ordering_reverse}
use Rattle.std.specs.declared.cmp.Ordering.TheVariants.{Less, Equal, Greater}
use Rattle.std.specs.List.{AllByRecursion}
use Rattle.std.specs.List.Sorted.{IsSorted, IsStrictlySortedBy, IsPermutation, IsBinarySearchResult, IsPartitionPoint}
use Rattle.std.proofs.lemmas.Bool.{lt-ltb, cases_lt}
use Rattle.std.proofs.lemmas.Cmp.{nat_list_eq_equiv}
use Rattle.std.proofs.lemmas.List.{take-append-drop}
use Rattle.std.proofs.lemmas.List.Folds.{list_any-append, Any-from_list_any}
use Rattle.std.proofs.lemmas.List.Kept.{IsStrictlySortedBy-dedup}
use Rattle.std.proofs.lemmas.List.Sorted.{sum_by-IsPermutation, IsPermutation-remove, searchable_from_sorted}
use Rattle.std.specs.Map.{lookup, keys_of}
use Rattle.std.proofs.lemmas.List.Sums.{sum_by-cons, sum_by-append, count_by_more_yes}
use Rattle.std.proofs.lemmas.Map.Text.{is_eq-slice_cmp}
use Rattle.std.proofs.lemmas.Map.Views.{any-filter_same}
use Rattle.std.proofs.Math.Dec.{ltb as nat_lt}
use Rattle.disk_model.specs.Disk.{Name, Cells, same, is_among, reads_of, first_missing}
use Rattle.disk_model.proofs.CellLemmas.{same_true, same_apart, never_less}
use Rattle.file_deleter.specs.Holdings.{times, IsThere, AreThere}

pub same_self : (q : Name) → same q q ≡ true
same_self q = nat_list_eq_equiv.refl q

pub among_first : (x : Name) (xs : List Name) → is_among (x ∷ xs) x ≡ true
among_first x xs = ap (λ b. b || is_among xs x) (same_self x)

-- a name that the test finds another is another
pub unlike : (a q : Name) → same a q ≡ false → a ≢ q
unlike a q e i = true≢false (sym (same_self q) ∙ ap (λ (n : Name). same n q) (sym i) ∙ e)

-- ---- how often a name stands in a list
pub times-cons : (x : Name) (xs : List Name) (q : Name) → times (x ∷ xs) q ≡ cond (same x q) 1 0 + times xs q
times-cons x xs q = sum_by-cons (λ (y : Name). cond (same y q) 1 0) x xs

pub times-append : (xs ys : List Name) (q : Name) → times (xs ++ ys) q ≡ times xs q + times ys q
times-append xs ys q = sum_by-append (λ (y : Name). cond (same y q) 1 0) xs ys

pub times_one : (name q : Name) → times (name ∷ []) q ≡ cond (same name q) 1 0
times_one name q = times-cons name [] q ∙ grind arith

pub times_apart : (n q : Name) → n ≢ q → times (n ∷ []) q ≡ 0
times_apart n q apart = times_one n q ∙ ap (λ b. cond b 1 0) (same_apart n q apart)

pub times-permutation : (xs ys : List Name) (q : Name) → IsPermutation xs ys → times ys q ≡ times xs q
times-permutation xs ys q h = sum_by-IsPermutation (λ (y : Name). cond (same y q) 1 0) xs ys h

-- a place that is not among the first i is counted beside them
pub times_within : (names : List Name) (i : ℕ) (d : Name) → i < length names → times (take i names) (get_or names i d) + 1 ≤ times names (get_or names i d)
times_within names i d lt =
    let x : Name = get_or names i d in
    let more : times (take (i + 1) names) x ≡ times (take i names) x + 1 = count_by_more_yes (λ (y : Name). same y x) names i d lt (same_self x) in
    let parts : times names x ≡ times (take (i + 1) names) x + times (drop (i + 1) names) x = ap (λ ns. times ns x) (sym (take-append-drop (i + 1) names)) ∙ times-append (take (i + 1) names) (drop (i + 1) names) x in
    omega (arith, more, parts)

-- ---- a name is in a list exactly where it stands there at least once
pub among_times : (names : List Name) (q : Name) → is_among names q ≡ true → 0 < times names q
among_times [] q h = absurd (true≢false (sym h))
among_times (x ∷ xs) q h = by (among_times xs q) (same x q) refl h
  where
    by : (is_among xs q ≡ true → 0 < times xs q) → (b : Bool) → same x q ≡ b → (b || is_among xs q) ≡ true → 0 < times (x ∷ xs) q
    by more true e h = let c : times (x ∷ xs) q ≡ 1 + times xs q = times-cons x xs q ∙ ap (λ b. cond b 1 0 + times xs q) e in omega (arith, c)
    by more false e h = let c : times (x ∷ xs) q ≡ 0 + times xs q = times-cons x xs q ∙ ap (λ b. cond b 1 0 + times xs q) e in omega (arith, c, more h)

pub not_among_times : (names : List Name) (q : Name) → is_among names q ≡ false → times names q ≡ 0
not_among_times [] q h = refl
not_among_times (x ∷ xs) q h = by (not_among_times xs q) (same x q) refl h
  where
    by : (is_among xs q ≡ false → times xs q ≡ 0) → (b : Bool) → same x q ≡ b → (b || is_among xs q) ≡ false → times (x ∷ xs) q ≡ 0
    by more true e h = absurd (true≢false h)
    by more false e h = let c : times (x ∷ xs) q ≡ 0 + times xs q = times-cons x xs q ∙ ap (λ b. cond b 1 0 + times xs q) e in omega (arith, c, more h)

pub among_is : (names : List Name) (q : Name) → is_among names q ≡ nat_lt 0 (times names q)
among_is names q = by (is_among names q) refl
  where
    by : (b : Bool) → is_among names q ≡ b → is_among names q ≡ nat_lt 0 (times names q)
    by true e = e ∙ sym (lt-ltb 0 (times names q) (among_times names q e))
    by false e = e ∙ sym (ap (nat_lt 0) (not_among_times names q e))

pub among_of_times : (xs ys : List Name) (q : Name) → times xs q ≡ times ys q → is_among xs q ≡ is_among ys q
among_of_times xs ys q e = among_is xs q ∙ ap (nat_lt 0) e ∙ sym (among_is ys q)

pub not_among_of_times : (xs : List Name) (q : Name) → times xs q ≡ 0 → is_among xs q ≡ false
not_among_of_times xs q e = among_is xs q ∙ ap (nat_lt 0) e

pub among-append : (xs ys : List Name) (q : Name) → is_among (xs ++ ys) q ≡ (is_among xs q || is_among ys q)
among-append xs ys q = list_any-append (λ (x : Name). same x q) xs ys

pub among-filter : (p : Name → Bool) (xs : List Name) (q : Name) → is_among (filter p xs) q ≡ (p q && is_among xs q)
among-filter p xs q = any-filter_same (λ (x : Name). same x q) p (p q) (λ k e. ap p (same_true k q e)) xs

-- what is apart from a list of one name
pub apart_of : (name q : Name) → is_among (name ∷ []) q ≡ false → name ≢ q
apart_of name q h e = let t : same name q ≡ true = ap (λ (x : Name). same x q) e ∙ same_self q in true≢false (sym (ap (λ b. b || false) t) ∙ h)

pub both_apart : (a b q : Name) → is_among (a ∷ b ∷ []) q ≡ false → (a ≢ q) × (b ≢ q)
both_apart a b q h = by (same a q) (same b q) refl refl h
  where
    by : (s t : Bool) → same a q ≡ s → same b q ≡ t → (s || (t || false)) ≡ false → (a ≢ q) × (b ≢ q)
    by true t e f h = absurd (true≢false h)
    by false true e f h = absurd (true≢false h)
    by false false e f h = (λ i. true≢false (sym (ap (λ (x : Name). same x q) i ∙ same_self q) ∙ e), λ i. true≢false (sym (ap (λ (x : Name). same x q) i ∙ same_self q) ∙ f))

-- each name of a list that the directory has is there
pub all_there : (cells : Cells) (names : List Name) (q : Name) → All (IsThere cells) names → is_among names q ≡ true → IsThere cells q
all_there cells [] q all h = absurd (true≢false (sym h))
all_there cells (x ∷ xs) q all h = by (all_there cells xs q (λ k d lt. all (suc k) d (omega (arith, lt)))) (same x q) refl h
  where
    by : (is_among xs q ≡ true → IsThere cells q) → (b : Bool) → same x q ≡ b → (b || is_among xs q) ≡ true → IsThere cells q
    by more true e h = subst (λ (k : Name). IsThere cells k) (same_true x q e) (all 0 x (omega arith))
    by more false e h = more h

-- ---- names that ascend stand once each, and names that stand once each and are sorted ascend
above_apart : (x q : Name) (xs : List Name) → same x q ≡ true → AllByRecursion (λ y. slice_cmp nat_cmp x y ≡ Less) xs → times xs q ≡ 0
above_apart x q [] e h = refl
above_apart x q (y ∷ ys) e h = by (above_apart x q ys e h.1) (same y q) refl
  where
    by : times ys q ≡ 0 → (b : Bool) → same y q ≡ b → times (y ∷ ys) q ≡ 0
    by rest true f =
        let i : x ≡ y = same_true x q e ∙ sym (same_true y q f) in
        absurd (true≢false (sym (same_self y) ∙ ap (λ (n : Name). same n y) (sym i) ∙ sym (is_eq-slice_cmp x y) ∙ ap is_eq h.0))
    by rest false f = times-cons y ys q ∙ ap (λ b. cond b 1 0 + times ys q) f ∙ ap (λ n. 0 + n) rest

pub once : (xs : List Name) (q : Name) → IsStrictlySortedBy (slice_cmp nat_cmp) xs → times xs q ≤ 1
unfolding IsStrictlySortedBy
once [] q h = let e : times [] q ≡ 0 = refl in omega (arith, e)
once (x ∷ xs) q h = by (once xs q h.1) (same x q) refl
  where
    by : times xs q ≤ 1 → (b : Bool) → same x q ≡ b → times (x ∷ xs) q ≤ 1
    by rest true e = let c : times (x ∷ xs) q ≡ 1 + times xs q = times-cons x xs q ∙ ap (λ b. cond b 1 0 + times xs q) e in omega (arith, c, above_apart x q xs e h.0)
    by rest false e = let c : times (x ∷ xs) q ≡ 0 + times xs q = times-cons x xs q ∙ ap (λ b. cond b 1 0 + times xs q) e in omega (arith, c, rest)

twice : (x y : Name) (ys : List Name) → same y x ≡ true → 2 ≤ times (x ∷ y ∷ ys) x
twice x y ys e =
    let a : times (x ∷ y ∷ ys) x ≡ 1 + times (y ∷ ys) x = times-cons x (y ∷ ys) x ∙ ap (λ b. cond b 1 0 + times (y ∷ ys) x) (same_self x) in
    let c : times (y ∷ ys) x ≡ 1 + times ys x = times-cons y ys x ∙ ap (λ b. cond b 1 0 + times ys x) e in
    omega (arith, a, c)

pub fewer : (x : Name) (xs : List Name) → ((q : Name) → times (x ∷ xs) q ≤ 1) → (q : Name) → times xs q ≤ 1
fewer x xs one q = omega (arith, times-cons x xs q, one q)

kept_from : (x : Name) (xs : List Name) → ((q : Name) → times (x ∷ xs) q ≤ 1) → dedup_from same x xs ≡ x ∷ xs
kept_from x [] one = refl
kept_from x (y ∷ ys) one = by (kept_from y ys (fewer x (y ∷ ys) one)) (same y x) refl
  where
    by : dedup_from same y ys ≡ y ∷ ys → (b : Bool) → same y x ≡ b → dedup_from same x (y ∷ ys) ≡ x ∷ y ∷ ys
    by rest true e = absurd (omega (arith, twice x y ys e, one x))
    by rest false e = ap (λ b. cond b (dedup_from same x ys) (x ∷ dedup_from same y ys)) e ∙ ap (λ ns. x ∷ ns) rest

kept_all : (xs : List Name) → ((q : Name) → times xs q ≤ 1) → dedup same xs ≡ xs
kept_all [] one = refl
kept_all (x ∷ xs) one = kept_from x xs one

pub ascending : (xs : List Name) → IsSorted (slice_cmp nat_cmp) xs → ((q : Name) → times xs q ≤ 1) → IsStrictlySortedBy (slice_cmp nat_cmp) xs
ascending xs sorted one = subst (IsStrictlySortedBy (slice_cmp nat_cmp)) (kept_all xs one) (IsStrictlySortedBy-dedup nat_list_cmp_total (λ a b. sym (is_eq-slice_cmp a b)) xs sorted)

-- ---- the place of a name, and a list without it
sorted_of : (xs : List Name) → IsStrictlySortedBy (slice_cmp nat_cmp) xs → IsSorted (slice_cmp nat_cmp) xs
unfolding IsStrictlySortedBy
sorted_of [] up = λ k d low high. absurd (omega (arith, high))
sorted_of (x ∷ []) up = λ k d low high. absurd (omega (arith, high))
sorted_of (x ∷ y ∷ ys) up = λ k d low high. by k d high (sorted_of (y ∷ ys) up.1)
  where
    by : (k : ℕ) (d : Name) → k + 1 < length (x ∷ y ∷ ys) → IsSorted (slice_cmp nat_cmp) (y ∷ ys) → is_lt (slice_cmp nat_cmp (get_or (x ∷ y ∷ ys) (k + 1) d) (get_or (x ∷ y ∷ ys) k d)) ≡ false
    by zero d high rest = ap is_lt (nat_list_cmp_total.antisymm y x ∙ ap ordering_reverse up.0.0)
    by (suc k) d high rest =
        let now : is_lt (slice_cmp nat_cmp (get_or (y ∷ ys) (k + 1) d) (get_or (y ∷ ys) k d)) ≡ false = rest k d (omega arith) (omega (arith, high)) in
        subst (λ n. is_lt (slice_cmp nat_cmp (get_or (x ∷ y ∷ ys) n d) (get_or (y ∷ ys) k d)) ≡ false) (sym (add-one (suc k)))
        (subst (λ n. is_lt (slice_cmp nat_cmp (get_or (y ∷ ys) n d) (get_or (y ∷ ys) k d)) ≡ false) (add-one k) now)

-- where a name was found, and where none was
pub found_at : (xs : List Name) (q : Name) (i : ℕ) → HoldsAt (λ y. slice_cmp nat_cmp y q ≡ Equal) xs i → q ≡ get_or xs i q
found_at xs q i h = sym (same_true (get_or xs i q) q (sym (is_eq-slice_cmp (get_or xs i q) q) ∙ ap is_eq (h q)))

never_greater : (q : Name) → slice_cmp nat_cmp q q ≡ Greater → ⊥
never_greater q e = true≢false (sym (same_self q) ∙ sym (is_eq-slice_cmp q q) ∙ ap is_eq e)

pub found_nowhere : (xs : List Name) (q : Name) (i : ℕ) → IsStrictlySortedBy (slice_cmp nat_cmp) xs → IsBinarySearchResult (λ y. slice_cmp nat_cmp y q) xs (Err i) → is_among xs q ≡ false
found_nowhere xs q i up h = by (is_among xs q) refl
  where
    cut : IsPartitionPoint (λ y. slice_cmp nat_cmp y q ≡ Less) (λ y. slice_cmp nat_cmp y q ≡ Greater) xs i
    cut = h (searchable_from_sorted nat_list_cmp_total (λ (n : Name). n) xs q (sorted_of xs up))

    by : (b : Bool) → is_among xs q ≡ b → is_among xs q ≡ false
    by false e = e
    by true e =
        let at = Any-from_list_any (λ (x : Name). same x q) xs e in
        let is : get_or xs at.0 at.1 ≡ q = at.3 ∙ same_true at.1 q at.4 in
        elim (cases_lt at.0 i) [
          | inl before ↦ absurd (never_less q (sym (ap (λ (n : Name). slice_cmp nat_cmp n q) is) ∙ cut.0 at.0 at.1 (omega arith) before))
          | inr behind ↦ absurd (never_greater q (sym (ap (λ (n : Name). slice_cmp nat_cmp n q) is) ∙ cut.1 at.0 at.1 behind at.2))
        ]

pub times-remove : (xs : List Name) (i : ℕ) (x q : Name) → i < length xs → x ≡ get_or xs i x → times xs q ≡ cond (same x q) 1 0 + times (remove xs i) q
times-remove xs i x q lt is = sym (times-permutation xs (x ∷ remove xs i) q (IsPermutation-remove xs i x lt is)) ∙ times-cons x (remove xs i) q

all_remove : (P : Name → Type 0) (xs : List Name) (i : ℕ) → AllByRecursion P xs → AllByRecursion P (remove xs i)
all_remove P [] zero every = tt
all_remove P [] (suc i) every = tt
all_remove P (x ∷ xs) zero every = every.1
all_remove P (x ∷ xs) (suc i) every = (every.0, all_remove P xs i every.1)

pub ascend_remove : (xs : List Name) (i : ℕ) → IsStrictlySortedBy (slice_cmp nat_cmp) xs → IsStrictlySortedBy (slice_cmp nat_cmp) (remove xs i)
unfolding IsStrictlySortedBy
ascend_remove [] zero up = tt
ascend_remove [] (suc i) up = tt
ascend_remove (x ∷ xs) zero up = up.1
ascend_remove (x ∷ xs) (suc i) up = (all_remove (λ y. slice_cmp nat_cmp x y ≡ Less) xs i up.0, ascend_remove xs i up.1)

-- ---- a sorted list without repeats
again : (a b : Bool) → (a || b) ≡ (a || (a || b))
again true b = refl
again false b = refl

among-dedup_from : (k : Name) (xs : List Name) (q : Name) → is_among (dedup_from same k xs) q ≡ (same k q || is_among xs q)
among-dedup_from k [] q = refl
among-dedup_from k (x ∷ xs) q = by (same x k) refl (among-dedup_from k xs q) (among-dedup_from x xs q)
  where
    by : (b : Bool) → same x k ≡ b → is_among (dedup_from same k xs) q ≡ (same k q || is_among xs q) → is_among (dedup_from same x xs) q ≡ (same x q || is_among xs q)
        → is_among (dedup_from same k (x ∷ xs)) q ≡ (same k q || (same x q || is_among xs q))
    by true e one two =
        ap (λ b. is_among (cond b (dedup_from same k xs) (k ∷ dedup_from same x xs)) q) e ∙ one ∙ again (same k q) (is_among xs q)
        ∙ ap (λ (n : Name). same k q || (same n q || is_among xs q)) (sym (same_true x k e))
    by false e one two = ap (λ b. is_among (cond b (dedup_from same k xs) (k ∷ dedup_from same x xs)) q) e ∙ ap (λ b. same k q || b) two

pub among-dedup : (xs : List Name) (q : Name) → is_among (dedup same xs) q ≡ is_among xs q
among-dedup [] q = refl
among-dedup (x ∷ xs) q = among-dedup_from x xs q

pub among-permutation : (xs ys : List Name) (q : Name) → IsPermutation xs ys → is_among ys q ≡ is_among xs q
among-permutation xs ys q h = among_of_times ys xs q (times-permutation xs ys q h)

pub dedup_ascends : (xs : List Name) → IsSorted (slice_cmp nat_cmp) xs → IsStrictlySortedBy (slice_cmp nat_cmp) (dedup same xs)
dedup_ascends xs sorted = IsStrictlySortedBy-dedup nat_list_cmp_total (λ a b. sym (is_eq-slice_cmp a b)) xs sorted

-- ---- the names of a table
pub same_turned : (a b : Name) → same a b ≡ same b a
same_turned a b = by (same a b) (same b a) refl refl
  where
    by : (s t : Bool) → same a b ≡ s → same b a ≡ t → same a b ≡ same b a
    by true t e f = e ∙ sym (same_self b) ∙ ap (λ (n : Name). same b n) (sym (same_true a b e))
    by false true e f = absurd (true≢false (sym (same_self a) ∙ ap (λ (n : Name). same a n) (sym (same_true b a f)) ∙ e))
    by false false e f = e ∙ sym f

pub among-keys : {X : Type 0} (entries : List (Name × X)) (q : Name) → is_among (keys_of entries) q ≡ is_some (lookup (same q) entries)
among-keys [] q = refl
among-keys {X} (e ∷ es) q = ap (λ b. b || is_among (keys_of es) q) (same_turned e.0 q) ∙ by (same q e.0) (among-keys es q)
  where
    by : (b : Bool) → is_among (keys_of es) q ≡ is_some (lookup (same q) es) → (b || is_among (keys_of es) q) ≡ is_some (cond b (Some e.1) (lookup (same q) es))
    by true rest = refl
    by false rest = rest

-- ---- names that are all there
not_found : (b : Bool) (x : Name) (rest : Option Name) → cond (not b) (Some x) rest ≡ None → (b ≡ true) × (rest ≡ None)
not_found true x rest e = (refl, e)
not_found false x rest e = cc

all_found : (cells : Cells) (names : List Name) → first_missing (reads_of cells) names ≡ None → All (IsThere cells) names
all_found cells [] e = λ k d lt. absurd (omega (arith, lt))
all_found cells (x ∷ xs) e = let h = not_found (is_some (cells x).now) x (first_missing (reads_of cells) xs) e in All-cons (IsThere cells) x xs h.0 (all_found cells xs h.1)

pub none_missing : (cells : Cells) (names : List Name) → first_missing (reads_of cells) names ≡ None → AreThere cells names
none_missing cells names e = record { each = all_found cells names e }
