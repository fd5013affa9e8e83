-- Lists of merges in flight: the one of a number, those without it, and those where it was made.
use Rattle.std.proofs.Common.{◌≡◌, ◌≢◌, ◌<◌, ◌+◌, ◌⊎◌, inl, inr, ◌==◌, if◌then◌else◌, ◌++◌, ℕ, suc, Bool, true, false, is_some, List, [], ◌∷◌, length, map, ◌||◌, Option, Some, None, slice_get, slice_set, get_or, refl, sym, ap, subst, ◌∙◌, arith, true≢false}
use Rattle.std.specs.List.{AllByRecursion, Contains, list_any, remove, zip}
use Rattle.std.proofs.lemmas.Bool.{eqb-true, eqb-false, ne_eqb, or_right}
use Rattle.std.proofs.lemmas.List.Folds.{list_any-append}
use Rattle.nrt_base.specs.declared.doc.Doc.{Doc}
use Rattle.nrt_base.specs.declared.numbers.SegNo.{SegNo}
use Rattle.nrt_base.proofs.Plain.{contains_later, contains_cases}
use Rattle.disk_model.specs.Disk.{Name, Content}
use Rattle.file_deleter.specs.Holdings.{times}
use Rattle.file_deleter.proofs.NameLemmas.{times-append}
use Rattle.segment_infos.specs.declared.infos.SegRecord.{SegRecord}
use Rattle.segment_steps.specs.Given.{Shown, Merged}
use Rattle.segment_steps.specs.CutOver.{Part, is_one_of, inputs_in, IsMergeOf}
use Rattle.index_primary.specs.declared.states.Merging.{Merging}
use Rattle.index_primary.specs.Merges.{merge_names, merge_loose, merge_filled, merge_inputs, merge_of, merge_place, merges_without, merges_with, IsMadeBy, IsMerging, AreOtherMerges, AreApartMerges}
use Rattle.index_primary.proofs.Writing.{among_at}

-- ---- merges over calls that leave them as they are
made_kept : (before after : Name → Content) (m : Merging) (o : Option Merged) → IsMadeBy before m o → ((q : Name) → 0 < times m.names q → after q ≡ before q) → IsMadeBy after m o
made_kept before after m None made same = tt
made_kept before after m (Some merged) made same = record {
  of = made.of;
  held = made.held;
  reads_so = λ k d lt. same (get_or merged.files.files k d).0 (made.held (get_or merged.files.files k d).0 (among_at merged.files.files k d lt)) ∙ made.reads_so k d lt;
}

pub merging_kept : (before after : Name → Content) (records : List SegRecord) (segs : List Shown) (ms : List Merging) → AllByRecursion (IsMerging before records segs) ms
    → ((q : Name) → 0 < times (merge_names ms) q → after q ≡ before q) → AllByRecursion (IsMerging after records segs) ms
merging_kept before after records segs [] all same = tt
merging_kept before after records segs (m ∷ ms) all same = (
  record { flight = all.0.flight; made = made_kept before after m m.merged all.0.made (λ q some. same q (omega (arith, some, times-append m.names (merge_names ms) q))) },
  merging_kept before after records segs ms all.1 (λ q some. same q (omega (arith, some, times-append m.names (merge_names ms) q))),
)

-- ---- what is filled with one merge in front
filled_put : (m : Merging) (ms : List Merging) (k : ℕ) (b : Bool) → is_some m.merged ≡ b → Contains (if b then m.task.seg.0 ∷ merge_filled ms else merge_filled ms) k → Contains (merge_filled (m ∷ ms)) k
filled_put m ms k b e c = subst (λ (x : Bool). Contains (if x then m.task.seg.0 ∷ merge_filled ms else merge_filled ms) k) (sym e) c

filled_get : (m : Merging) (ms : List Merging) (k : ℕ) (b : Bool) → is_some m.merged ≡ b → Contains (merge_filled (m ∷ ms)) k → Contains (if b then m.task.seg.0 ∷ merge_filled ms else merge_filled ms) k
filled_get m ms k b e c = subst (λ (x : Bool). Contains (if x then m.task.seg.0 ∷ merge_filled ms else merge_filled ms) k) e c

-- ---- a filled number is loose
pub filled_loose : (ms : List Merging) (k : ℕ) → Contains (merge_filled ms) k → Contains (merge_loose ms) k
filled_loose [] k c = c
filled_loose (m ∷ ms) k c = by (is_some m.merged) (filled_loose ms k) c
  where
    by : (b : Bool) → (Contains (merge_filled ms) k → Contains (merge_loose ms) k) → Contains (if b then m.task.seg.0 ∷ merge_filled ms else merge_filled ms) k → Contains (merge_loose (m ∷ ms)) k
    by true more d = elim (contains_cases m.task.seg.0 k (merge_filled ms) d) [ inl e ↦ (0, omega arith, e) | inr rest ↦ contains_later m.task.seg.0 k (merge_loose ms) (more rest) ]
    by false more d = contains_later m.task.seg.0 k (merge_loose ms) (more d)

-- ---- the merge of a number
pub record MergeAt (n : ℕ) (ms : List Merging) : Type 0 where
  pub within : merge_place n ms < length ms
  pub rest : remove ms (merge_place n ms) ≡ merges_without n ms
  pub item : slice_get ms (merge_place n ms) ≡ merge_of n ms
  pub set : (merged : Merged) (names : List Name) (m : Merging) → merged.files.seg.0 ≡ n → merge_of n ms ≡ Some m
      → slice_set ms (merge_place n ms) (record m { merged = Some merged; names = names }) ≡ merges_with merged names ms

pub merge_at : (n : ℕ) (ms : List Merging) → is_some (merge_of n ms) ≡ true → MergeAt n ms
merge_at n [] there = absurd (true≢false (sym there))
merge_at n (m ∷ ms) there = let all = by (m.task.seg.0 == n) refl (merge_at n ms) there in record { within = all.0; rest = all.1; item = all.2; set = all.3 }
  where
    chosen : (merged : Merged) (names : List Name) (b : Bool) → merged.files.seg.0 ≡ n → (m.task.seg.0 == n) ≡ b
        → (if b then record m { merged = Some merged; names = names } ∷ ms else m ∷ merges_with merged names ms) ≡ merges_with merged names (m ∷ ms)
    chosen merged names b number e = ap (λ (c : Bool). if c then record m { merged = Some merged; names = names } ∷ ms else m ∷ merges_with merged names ms) (sym e ∙ ap (λ (k : ℕ). m.task.seg.0 == k) (sym number))

    by : (b : Bool) → (m.task.seg.0 == n) ≡ b → (is_some (merge_of n ms) ≡ true → MergeAt n ms) → is_some (if b then Some m else merge_of n ms) ≡ true
        → ((if b then 0 else suc (merge_place n ms)) < length (m ∷ ms)) × (remove (m ∷ ms) (if b then 0 else suc (merge_place n ms)) ≡ (if b then ms else m ∷ merges_without n ms))
        × (slice_get (m ∷ ms) (if b then 0 else suc (merge_place n ms)) ≡ (if b then Some m else merge_of n ms))
        × ((merged : Merged) (names : List Name) (x : Merging) → merged.files.seg.0 ≡ n → (if b then Some m else merge_of n ms) ≡ Some x
        → slice_set (m ∷ ms) (if b then 0 else suc (merge_place n ms)) (record x { merged = Some merged; names = names }) ≡ merges_with merged names (m ∷ ms))
    by true e more h = (
      omega arith,
      refl,
      refl,
      λ merged names x number is. let same : m ≡ x = cc in ap (λ (y : Merging). record y { merged = Some merged; names = names } ∷ ms) (sym same) ∙ chosen merged names true number e,
    )
    by false e more h = let at = more h in (
      omega (arith, at.within),
      ap (λ (l : List Merging). m ∷ l) at.rest,
      at.item,
      λ merged names x number is. ap (λ (l : List Merging). m ∷ l) (at.set merged names x number is) ∙ chosen merged names false number e,
    )

-- it has the number
pub number_of : (n : ℕ) (ms : List Merging) (m : Merging) → merge_of n ms ≡ Some m → m.task.seg.0 ≡ n
number_of n [] m is = absurd cc
number_of n (x ∷ ms) m is = by (x.task.seg.0 == n) refl (number_of n ms m) is
  where
    by : (b : Bool) → (x.task.seg.0 == n) ≡ b → (merge_of n ms ≡ Some m → m.task.seg.0 ≡ n) → (if b then Some x else merge_of n ms) ≡ Some m → m.task.seg.0 ≡ n
    by true e more found = let same : x ≡ m = cc in ap (λ (y : Merging). y.task.seg.0) (sym same) ∙ eqb-true x.task.seg.0 n e
    by false e more found = more found

-- what is true of all is true of it, and of those without it
pub all_at : (P : Merging → Type 0) (n : ℕ) (ms : List Merging) (m : Merging) → AllByRecursion P ms → merge_of n ms ≡ Some m → P m
all_at P n [] m all is = absurd cc
all_at P n (x ∷ ms) m all is = by (x.task.seg.0 == n) (all_at P n ms m all.1) is
  where
    by : (b : Bool) → (merge_of n ms ≡ Some m → P m) → (if b then Some x else merge_of n ms) ≡ Some m → P m
    by true more found = let same : x ≡ m = cc in subst P same all.0
    by false more found = more found

pub all_without : (P : Merging → Type 0) (n : ℕ) (ms : List Merging) → AllByRecursion P ms → AllByRecursion P (merges_without n ms)
all_without P n [] all = tt
all_without P n (m ∷ ms) all = by (m.task.seg.0 == n) (all_without P n ms all.1)
  where
    by : (b : Bool) → AllByRecursion P (merges_without n ms) → AllByRecursion P (if b then ms else m ∷ merges_without n ms)
    by true more = all.1
    by false more = (all.0, more)

pub apart_without : (n : ℕ) (ms : List Merging) → AreApartMerges ms → AreApartMerges (merges_without n ms)
apart_without n [] apart = tt
apart_without n (m ∷ ms) apart = by (m.task.seg.0 == n) (apart_without n ms apart.1)
  where
    by : (b : Bool) → AreApartMerges (merges_without n ms) → AreApartMerges (if b then ms else m ∷ merges_without n ms)
    by true more = apart.1
    by false more = (all_without (AreOtherMerges m) n ms apart.0, more)

-- the names that it holds, and those that the others do
pub names_split : (n : ℕ) (ms : List Merging) (m : Merging) (q : Name) → merge_of n ms ≡ Some m → times (merge_names ms) q ≡ times m.names q + times (merge_names (merges_without n ms)) q
names_split n [] m q is = absurd cc
names_split n (x ∷ ms) m q is = by (x.task.seg.0 == n) (names_split n ms m q) is
  where
    by : (b : Bool) → (merge_of n ms ≡ Some m → times (merge_names ms) q ≡ times m.names q + times (merge_names (merges_without n ms)) q) → (if b then Some x else merge_of n ms) ≡ Some m → times (x.names ++ merge_names ms) q ≡ times m.names q + times (merge_names (if b then ms else x ∷ merges_without n ms)) q
    by true more found = let same : x ≡ m = cc in let e : times x.names q ≡ times m.names q = ap (λ (y : Merging). times y.names q) same in omega (arith, e, times-append x.names (merge_names ms) q)
    by false more found = omega (arith, more found, times-append x.names (merge_names ms) q, times-append x.names (merge_names (merges_without n ms)) q)

-- ---- the others
reversed : (m x : Merging) → AreOtherMerges m x → AreOtherMerges x m
reversed m x h = record { number = λ e. h.number (sym e); inputs = λ n there. by n there (list_any (λ (seg : SegNo). seg.0 == n) m.inputs) refl }
  where
    by : (n : ℕ) → list_any (λ (seg : SegNo). seg.0 == n) x.inputs ≡ true → (b : Bool) → list_any (λ (seg : SegNo). seg.0 == n) m.inputs ≡ b → list_any (λ (seg : SegNo). seg.0 == n) m.inputs ≡ false
    by n there true e = absurd (true≢false (sym there ∙ h.inputs n e))
    by n there false e = e

all_reversed : (m : Merging) (ms : List Merging) → AllByRecursion (AreOtherMerges m) ms → AllByRecursion (λ x. AreOtherMerges x m) ms
all_reversed m [] all = tt
all_reversed m (x ∷ ms) all = (reversed m x all.0, all_reversed m ms all.1)

pub others_at : (n : ℕ) (ms : List Merging) (m : Merging) → AreApartMerges ms → merge_of n ms ≡ Some m → AllByRecursion (λ x. AreOtherMerges x m) (merges_without n ms)
others_at n [] m apart is = absurd cc
others_at n (x ∷ ms) m apart is = by (x.task.seg.0 == n) (others_at n ms m apart.1) is
  where
    by : (b : Bool) → (merge_of n ms ≡ Some m → AllByRecursion (λ y. AreOtherMerges y m) (merges_without n ms)) → (if b then Some x else merge_of n ms) ≡ Some m → AllByRecursion (λ y. AreOtherMerges y m) (if b then ms else x ∷ merges_without n ms)
    by true more found = let same : x ≡ m = cc in subst (λ (y : Merging). AllByRecursion (λ z. AreOtherMerges z y) ms) same (all_reversed x ms apart.0)
    by false more found = (all_at (AreOtherMerges x) n ms m apart.0 found, more found)

-- ---- its number
pub loose_at : (n : ℕ) (ms : List Merging) (m : Merging) → merge_of n ms ≡ Some m → Contains (merge_loose ms) n
loose_at n [] m is = absurd cc
loose_at n (x ∷ ms) m is = by (x.task.seg.0 == n) refl (loose_at n ms m) is
  where
    by : (b : Bool) → (x.task.seg.0 == n) ≡ b → (merge_of n ms ≡ Some m → Contains (merge_loose ms) n) → (if b then Some x else merge_of n ms) ≡ Some m → Contains (x.task.seg.0 ∷ merge_loose ms) n
    by true e more found = (0, omega arith, eqb-true x.task.seg.0 n e)
    by false e more found = contains_later x.task.seg.0 n (merge_loose ms) (more found)

pub loose_without : (n : ℕ) (ms : List Merging) (k : ℕ) → Contains (merge_loose (merges_without n ms)) k → Contains (merge_loose ms) k
loose_without n [] k c = c
loose_without n (m ∷ ms) k c = by (m.task.seg.0 == n) (loose_without n ms k) c
  where
    by : (b : Bool) → (Contains (merge_loose (merges_without n ms)) k → Contains (merge_loose ms) k) → Contains (merge_loose (if b then ms else m ∷ merges_without n ms)) k → Contains (m.task.seg.0 ∷ merge_loose ms) k
    by true more d = contains_later m.task.seg.0 k (merge_loose ms) d
    by false more d = elim (contains_cases m.task.seg.0 k (merge_loose (merges_without n ms)) d) [ inl e ↦ (0, omega arith, e) | inr rest ↦ contains_later m.task.seg.0 k (merge_loose ms) (more rest) ]

-- no other merge has it
none_has : (m : Merging) (ms : List Merging) (k : ℕ) → AllByRecursion (λ x. AreOtherMerges x m) ms → m.task.seg.0 ≡ k → Contains (merge_loose ms) k → ⊥
none_has m [] k all e c = absurd (omega (arith, c.1))
none_has m (x ∷ ms) k all e c = elim (contains_cases x.task.seg.0 k (merge_loose ms) c) [ inl is ↦ all.0.number (is ∙ sym e) | inr rest ↦ none_has m ms k all.1 e rest ]

pub loose_gone : (n : ℕ) (ms : List Merging) (m : Merging) → AreApartMerges ms → merge_of n ms ≡ Some m → Contains (merge_loose (merges_without n ms)) n → ⊥
loose_gone n ms m apart is = none_has m (merges_without n ms) n (others_at n ms m apart is) (number_of n ms m is)

-- where nothing was made of it, its number is not filled
pub unfilled_at : (n : ℕ) (ms : List Merging) (m : Merging) → AreApartMerges ms → merge_of n ms ≡ Some m → m.merged ≡ None → Contains (merge_filled ms) n → ⊥
unfilled_at n [] m apart is none c = absurd (omega (arith, c.1))
unfilled_at n (x ∷ ms) m apart is none c = by (x.task.seg.0 == n) (is_some x.merged) refl refl (λ found d. unfilled_at n ms m apart.1 found none d) is c
  where
    by : (b f : Bool) → (x.task.seg.0 == n) ≡ b → is_some x.merged ≡ f → (merge_of n ms ≡ Some m → Contains (merge_filled ms) n → ⊥) → (if b then Some x else merge_of n ms) ≡ Some m → Contains (if f then x.task.seg.0 ∷ merge_filled ms else merge_filled ms) n → ⊥
    by true true e f more found d = let same : x ≡ m = cc in let no : is_some x.merged ≡ false = ap (λ (y : Merging). is_some y.merged) same ∙ ap is_some none in absurd (true≢false (sym f ∙ no))
    by true false e f more found d = none_has x ms n (all_reversed x ms apart.0) (eqb-true x.task.seg.0 n e) (filled_loose ms n d)
    by false true e f more found d = elim (contains_cases x.task.seg.0 n (merge_filled ms) d) [ inl is ↦ eqb-false x.task.seg.0 n e is | inr rest ↦ more found rest ]
    by false false e f more found d = more found d

-- the filled ones are its own number and those of the others
pub filled_or : (n : ℕ) (ms : List Merging) (k : ℕ) → Contains (merge_filled ms) k → (n ≡ k) ⊎ Contains (merge_filled (merges_without n ms)) k
filled_or n [] k c = inr c
filled_or n (m ∷ ms) k c = by (m.task.seg.0 == n) (is_some m.merged) refl refl (filled_or n ms k) c
  where
    by : (b f : Bool) → (m.task.seg.0 == n) ≡ b → is_some m.merged ≡ f → (Contains (merge_filled ms) k → (n ≡ k) ⊎ Contains (merge_filled (merges_without n ms)) k) → Contains (if f then m.task.seg.0 ∷ merge_filled ms else merge_filled ms) k
        → (n ≡ k) ⊎ Contains (merge_filled (if b then ms else m ∷ merges_without n ms)) k
    by true true e f more d = elim (contains_cases m.task.seg.0 k (merge_filled ms) d) [ inl is ↦ inl (sym (eqb-true m.task.seg.0 n e) ∙ is) | inr rest ↦ inr rest ]
    by true false e f more d = inr d
    by false true e f more d = elim (contains_cases m.task.seg.0 k (merge_filled ms) d) [
      | inl is ↦ inr (filled_put m (merges_without n ms) k true f (0, omega arith, is))
      | inr rest ↦ (elim (more rest) [ inl own ↦ inl own | inr left ↦ inr (filled_put m (merges_without n ms) k true f (contains_later m.task.seg.0 k (merge_filled (merges_without n ms)) left)) ])
    ]
    by false false e f more d = elim (more d) [ inl own ↦ inl own | inr left ↦ inr (filled_put m (merges_without n ms) k false f left) ]

pub filled_without : (n : ℕ) (ms : List Merging) (k : ℕ) → Contains (merge_filled (merges_without n ms)) k → Contains (merge_filled ms) k
filled_without n [] k c = c
filled_without n (m ∷ ms) k c = by (m.task.seg.0 == n) (is_some m.merged) refl (filled_without n ms k) c
  where
    by : (b f : Bool) → is_some m.merged ≡ f → (Contains (merge_filled (merges_without n ms)) k → Contains (merge_filled ms) k) → Contains (merge_filled (if b then ms else m ∷ merges_without n ms)) k → Contains (if f then m.task.seg.0 ∷ merge_filled ms else merge_filled ms) k
    by true true f more d = contains_later m.task.seg.0 k (merge_filled ms) d
    by true false f more d = d
    by false true f more d = elim (contains_cases m.task.seg.0 k (merge_filled (merges_without n ms)) (filled_get m (merges_without n ms) k true f d)) [ inl is ↦ (0, omega arith, is) | inr rest ↦ contains_later m.task.seg.0 k (merge_filled ms) (more rest) ]
    by false false f more d = more (filled_get m (merges_without n ms) k false f d)

-- ---- what was made of it
module _ (merged : Merged) (names : List Name) where
  abbrev made_of : Merging → Merging
  made_of m = record m { merged = Some merged; names = names }

  pub names_with : (ms : List Merging) (m : Merging) (q : Name) → merge_of merged.files.seg.0 ms ≡ Some m → times (merge_names (merges_with merged names ms)) q + times m.names q ≡ times (merge_names ms) q + times names q
  names_with [] m q is = absurd cc
  names_with (x ∷ ms) m q is = by (x.task.seg.0 == merged.files.seg.0) (names_with ms m q) is
    where
      by : (b : Bool) → (merge_of merged.files.seg.0 ms ≡ Some m → times (merge_names (merges_with merged names ms)) q + times m.names q ≡ times (merge_names ms) q + times names q) → (if b then Some x else merge_of merged.files.seg.0 ms) ≡ Some m
          → times (merge_names (if b then made_of x ∷ ms else x ∷ merges_with merged names ms)) q + times m.names q ≡ times (x.names ++ merge_names ms) q + times names q
      by true more found = let same : x ≡ m = cc in let e : times x.names q ≡ times m.names q = ap (λ (y : Merging). times y.names q) same in
          omega (arith, e, times-append names (merge_names ms) q, times-append x.names (merge_names ms) q)
      by false more found = omega (arith, more found, times-append x.names (merge_names (merges_with merged names ms)) q, times-append x.names (merge_names ms) q)

  pub loose_with : (ms : List Merging) → merge_loose (merges_with merged names ms) ≡ merge_loose ms
  loose_with [] = refl
  loose_with (m ∷ ms) = by (m.task.seg.0 == merged.files.seg.0) (loose_with ms)
    where
      by : (b : Bool) → merge_loose (merges_with merged names ms) ≡ merge_loose ms → merge_loose (if b then made_of m ∷ ms else m ∷ merges_with merged names ms) ≡ m.task.seg.0 ∷ merge_loose ms
      by true more = refl
      by false more = ap (λ (l : List ℕ). m.task.seg.0 ∷ l) more

  pub filled_with : (ms : List Merging) (k : ℕ) → Contains (merge_filled ms) k → Contains (merge_filled (merges_with merged names ms)) k
  filled_with [] k c = c
  filled_with (m ∷ ms) k c = by (m.task.seg.0 == merged.files.seg.0) (is_some m.merged) refl (filled_with ms k) c
    where
      by : (b f : Bool) → is_some m.merged ≡ f → (Contains (merge_filled ms) k → Contains (merge_filled (merges_with merged names ms)) k) → Contains (if f then m.task.seg.0 ∷ merge_filled ms else merge_filled ms) k → Contains (merge_filled (if b then made_of m ∷ ms else m ∷ merges_with merged names ms)) k
      by true true f more d = d
      by true false f more d = contains_later m.task.seg.0 k (merge_filled ms) d
      by false true f more d = filled_put m (merges_with merged names ms) k true f (elim (contains_cases m.task.seg.0 k (merge_filled ms) d) [
        | inl is ↦ (0, omega arith, is)
        | inr rest ↦ contains_later m.task.seg.0 k (merge_filled (merges_with merged names ms)) (more rest)
      ])
      by false false f more d = filled_put m (merges_with merged names ms) k false f (more d)

  pub filled_own : (ms : List Merging) (m : Merging) → merge_of merged.files.seg.0 ms ≡ Some m → Contains (merge_filled (merges_with merged names ms)) merged.files.seg.0
  filled_own [] m is = absurd cc
  filled_own (x ∷ ms) m is = by (x.task.seg.0 == merged.files.seg.0) (is_some x.merged) refl refl (filled_own ms m) is
    where
      by : (b f : Bool) → (x.task.seg.0 == merged.files.seg.0) ≡ b → is_some x.merged ≡ f → (merge_of merged.files.seg.0 ms ≡ Some m → Contains (merge_filled (merges_with merged names ms)) merged.files.seg.0) → (if b then Some x else merge_of merged.files.seg.0 ms) ≡ Some m
          → Contains (merge_filled (if b then made_of x ∷ ms else x ∷ merges_with merged names ms)) merged.files.seg.0
      by true f e g more found = (0, omega arith, eqb-true x.task.seg.0 merged.files.seg.0 e)
      by false true e g more found = filled_put x (merges_with merged names ms) merged.files.seg.0 true g (contains_later x.task.seg.0 merged.files.seg.0 (merge_filled (merges_with merged names ms)) (more found))
      by false false e g more found = filled_put x (merges_with merged names ms) merged.files.seg.0 false g (more found)

  -- where it is one more, it was not filled before
  pub filled_new : (ms : List Merging) (k : ℕ) → Contains (merge_filled (merges_with merged names ms)) k → (merged.files.seg.0 ≡ k) ⊎ Contains (merge_filled ms) k
  filled_new [] k c = inr c
  filled_new (m ∷ ms) k c = by (m.task.seg.0 == merged.files.seg.0) (is_some m.merged) refl refl (filled_new ms k) c
    where
      by : (b f : Bool) → (m.task.seg.0 == merged.files.seg.0) ≡ b → is_some m.merged ≡ f → (Contains (merge_filled (merges_with merged names ms)) k → (merged.files.seg.0 ≡ k) ⊎ Contains (merge_filled ms) k) → Contains (merge_filled (if b then made_of m ∷ ms else m ∷ merges_with merged names ms)) k
          → (merged.files.seg.0 ≡ k) ⊎ Contains (if f then m.task.seg.0 ∷ merge_filled ms else merge_filled ms) k
      by true true e f more d = inr d
      by true false e f more d = elim (contains_cases m.task.seg.0 k (merge_filled ms) d) [ inl is ↦ inl (sym (eqb-true m.task.seg.0 merged.files.seg.0 e) ∙ is) | inr rest ↦ inr rest ]
      by false true e f more d = elim (contains_cases m.task.seg.0 k (merge_filled (merges_with merged names ms)) (filled_get m (merges_with merged names ms) k true f d)) [
        | inl is ↦ inr (0, omega arith, is)
        | inr rest ↦ (elim (more rest) [ inl own ↦ inl own | inr left ↦ inr (contains_later m.task.seg.0 k (merge_filled ms) left) ])
      ]
      by false false e f more d = more (filled_get m (merges_with merged names ms) k false f d)

  pub all_with : (P : Merging → Type 0) (ms : List Merging) (m : Merging) → AllByRecursion P ms → merge_of merged.files.seg.0 ms ≡ Some m → P (made_of m) → AllByRecursion P (merges_with merged names ms)
  all_with P [] m all is one = tt
  all_with P (x ∷ ms) m all is one = by (x.task.seg.0 == merged.files.seg.0) (λ found. all_with P ms m all.1 found one) is
    where
      by : (b : Bool) → (merge_of merged.files.seg.0 ms ≡ Some m → AllByRecursion P (merges_with merged names ms)) → (if b then Some x else merge_of merged.files.seg.0 ms) ≡ Some m → AllByRecursion P (if b then made_of x ∷ ms else x ∷ merges_with merged names ms)
      by true more found = let same : x ≡ m = cc in (subst (λ (y : Merging). P (made_of y)) (sym same) one, all.1)
      by false more found = (all.0, more found)

  -- the numbers and the inputs stay, so they stay apart
  others_with : (m : Merging) (ms : List Merging) → AllByRecursion (AreOtherMerges m) ms → AllByRecursion (AreOtherMerges m) (merges_with merged names ms)
  others_with m [] all = tt
  others_with m (x ∷ ms) all = by (x.task.seg.0 == merged.files.seg.0) (others_with m ms all.1)
    where
      by : (b : Bool) → AllByRecursion (AreOtherMerges m) (merges_with merged names ms) → AllByRecursion (AreOtherMerges m) (if b then made_of x ∷ ms else x ∷ merges_with merged names ms)
      by true more = (record { number = all.0.number; inputs = all.0.inputs }, all.1)
      by false more = (all.0, more)

  made_others : (m : Merging) (ms : List Merging) → AllByRecursion (AreOtherMerges m) ms → AllByRecursion (AreOtherMerges (made_of m)) ms
  made_others m [] all = tt
  made_others m (x ∷ ms) all = (record { number = all.0.number; inputs = all.0.inputs }, made_others m ms all.1)

  pub apart_with : (ms : List Merging) → AreApartMerges ms → AreApartMerges (merges_with merged names ms)
  apart_with [] apart = tt
  apart_with (m ∷ ms) apart = by (m.task.seg.0 == merged.files.seg.0) (apart_with ms apart.1)
    where
      by : (b : Bool) → AreApartMerges (merges_with merged names ms) → AreApartMerges (if b then made_of m ∷ ms else m ∷ merges_with merged names ms)
      by true more = (made_others m ms apart.0, apart.1)
      by false more = (others_with m ms apart.0, more)

-- ---- one more behind
pub names_behind : (ms : List Merging) (m : Merging) (q : Name) → times (merge_names (ms ++ m ∷ [])) q ≡ times (merge_names ms) q + times m.names q
names_behind [] m q = times-append m.names [] q ∙ grind arith
names_behind (x ∷ ms) m q = omega (arith, names_behind ms m q, times-append x.names (merge_names (ms ++ m ∷ [])) q, times-append x.names (merge_names ms) q)

pub loose_behind : (ms : List Merging) (m : Merging) (k : ℕ) → Contains (merge_loose (ms ++ m ∷ [])) k → (m.task.seg.0 ≡ k) ⊎ Contains (merge_loose ms) k
loose_behind [] m k c = contains_cases m.task.seg.0 k [] c
loose_behind (x ∷ ms) m k c = elim (contains_cases x.task.seg.0 k (merge_loose (ms ++ m ∷ [])) c) [
  | inl is ↦ inr (0, omega arith, is)
  | inr rest ↦ (elim (loose_behind ms m k rest) [ inl own ↦ inl own | inr more ↦ inr (contains_later x.task.seg.0 k (merge_loose ms) more) ])
]

pub filled_behind : (ms : List Merging) (m : Merging) → m.merged ≡ None → merge_filled (ms ++ m ∷ []) ≡ merge_filled ms
filled_behind [] m none = ap (λ (o : Option Merged). if is_some o then m.task.seg.0 ∷ [] else []) none
filled_behind (x ∷ ms) m none = by (is_some x.merged) (filled_behind ms m none)
  where
    by : (b : Bool) → merge_filled (ms ++ m ∷ []) ≡ merge_filled ms → (if b then x.task.seg.0 ∷ merge_filled (ms ++ m ∷ []) else merge_filled (ms ++ m ∷ [])) ≡ (if b then x.task.seg.0 ∷ merge_filled ms else merge_filled ms)
    by true more = ap (λ (l : List ℕ). x.task.seg.0 ∷ l) more
    by false more = more

pub all_behind : (P : Merging → Type 0) (ms : List Merging) (m : Merging) → AllByRecursion P ms → P m → AllByRecursion P (ms ++ m ∷ [])
all_behind P [] m all one = (one, tt)
all_behind P (x ∷ ms) m all one = (all.0, all_behind P ms m all.1 one)

pub apart_behind : (ms : List Merging) (m : Merging) → AreApartMerges ms → AllByRecursion (λ x. AreOtherMerges x m) ms → AreApartMerges (ms ++ m ∷ [])
apart_behind [] m apart others = (tt, tt)
apart_behind (x ∷ ms) m apart others = (all_behind (AreOtherMerges x) ms m apart.0 others.0, apart_behind ms m apart.1 others.1)

-- ---- inputs
all_weaker : (P Q : Merging → Type 0) → ((m : Merging) → P m → Q m) → (ms : List Merging) → AllByRecursion P ms → AllByRecursion Q ms
all_weaker P Q f [] all = tt
all_weaker P Q f (m ∷ ms) all = (f m all.0, all_weaker P Q f ms all.1)

-- each input of a merge is one of them all
pub inputs_within : (ms : List Merging) → AllByRecursion (λ (m : Merging). (n : ℕ) → list_any (λ (seg : SegNo). seg.0 == n) m.inputs ≡ true → list_any (λ (seg : SegNo). seg.0 == n) (merge_inputs ms) ≡ true) ms
inputs_within [] = tt
inputs_within (m ∷ ms) = (
  λ n there. list_any-append (λ (seg : SegNo). seg.0 == n) m.inputs (merge_inputs ms) ∙ ap (λ (b : Bool). b || list_any (λ (seg : SegNo). seg.0 == n) (merge_inputs ms)) there,
  all_weaker (λ (x : Merging). (n : ℕ) → list_any (λ (seg : SegNo). seg.0 == n) x.inputs ≡ true → list_any (λ (seg : SegNo). seg.0 == n) (merge_inputs ms) ≡ true)
      (λ (x : Merging). (n : ℕ) → list_any (λ (seg : SegNo). seg.0 == n) x.inputs ≡ true → list_any (λ (seg : SegNo). seg.0 == n) (merge_inputs (m ∷ ms)) ≡ true)
      (λ x within n there. list_any-append (λ (seg : SegNo). seg.0 == n) m.inputs (merge_inputs ms) ∙ or_right (list_any (λ (seg : SegNo). seg.0 == n) m.inputs) (list_any (λ (seg : SegNo). seg.0 == n) (merge_inputs ms)) (within n there)) ms (inputs_within ms),
)

-- what is none of them is an input of none
pub none_within : (n : ℕ) (ms : List Merging) → list_any (λ (seg : SegNo). seg.0 == n) (merge_inputs ms) ≡ false → AllByRecursion (λ (m : Merging). list_any (λ (seg : SegNo). seg.0 == n) m.inputs ≡ false) ms
none_within n [] none = tt
none_within n (m ∷ ms) none = let both = neither (list_any (λ (seg : SegNo). seg.0 == n) m.inputs) (list_any (λ (seg : SegNo). seg.0 == n) (merge_inputs ms)) (sym (list_any-append (λ (seg : SegNo). seg.0 == n) m.inputs (merge_inputs ms)) ∙ none) in
    (both.0, none_within n ms both.1)
  where
    neither : (a b : Bool) → (a || b) ≡ false → (a ≡ false) × (b ≡ false)
    neither true b e = absurd (true≢false e)
    neither false b e = (refl, e)

pub parts_of : (P : SegRecord → Type 0) (rs : List SegRecord) (ss : List Shown) → AllByRecursion P rs → AllByRecursion (λ (p : Part). P p.0) (zip rs ss)
parts_of P [] ss all = tt
parts_of P (r ∷ rs) [] all = tt
parts_of P (r ∷ rs) (s ∷ ss) all = (all.0, parts_of P rs ss all.1)

-- a number that no segment has is no input of a merge in flight
none_here : (n : ℕ) (inputs : List SegNo) (ps : List Part) → AllByRecursion (λ (p : Part). p.0.seg.0 ≢ n) ps → list_any (λ (seg : SegNo). seg.0 == n) (map (λ (p : Part). p.0.seg) (inputs_in inputs ps)) ≡ false
none_here n inputs [] all = refl
none_here n inputs (p ∷ ps) all = by (is_one_of inputs p) (none_here n inputs ps all.1)
  where
    by : (b : Bool) → list_any (λ (seg : SegNo). seg.0 == n) (map (λ (q : Part). q.0.seg) (inputs_in inputs ps)) ≡ false → list_any (λ (seg : SegNo). seg.0 == n) (map (λ (q : Part). q.0.seg) (if b then p ∷ inputs_in inputs ps else inputs_in inputs ps)) ≡ false
    by true more = ap (λ (b : Bool). b || list_any (λ (seg : SegNo). seg.0 == n) (map (λ (q : Part). q.0.seg) (inputs_in inputs ps))) (ne_eqb p.0.seg.0 n all.0) ∙ more
    by false more = more

pub no_input : (n : ℕ) (rs : List SegRecord) (ss : List Shown) (inputs : List SegNo) (docs : List (List Doc)) (noted : List (List Bool)) → IsMergeOf (zip rs ss) inputs docs noted → AllByRecursion (λ (r : SegRecord). r.seg.0 ≢ n) rs
    → list_any (λ (seg : SegNo). seg.0 == n) inputs ≡ false
no_input n rs ss inputs docs noted flight all = subst (λ (ns : List SegNo). list_any (λ (seg : SegNo). seg.0 == n) ns ≡ false) flight.numbers (none_here n inputs (zip rs ss) (parts_of (λ (r : SegRecord). r.seg.0 ≢ n) rs ss all))
