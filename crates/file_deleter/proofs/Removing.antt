-- Removals in a row: how they are joined, and what they do at one name.
use Rattle.std.proofs.Common.{◌≡◌, ◌≢◌, ◌⊎◌, ℕ, suc, ◌+◌, ◌<◌, ◌≤◌, ◌||◌, Bool, true, false, List, [], ◌∷◌, ◌++◌, length, take, drop, get_or, set, length-set, add-one, drop-cons, Some, None, Result, Ok, Err, refl, sym, ap, subst, ◌∙◌, cond, arith, inl, inr, true≢false, is_none}
use Rattle.std.proofs.lemmas.List.{take_more, take_more_set, drop-set-lt, append-nil}
use Rattle.disk_model.specs.Given.{Rose}
use Rattle.disk_model.specs.Disk.{Name, Content, Cell, Cells, same, is_among, may_leave, left_by, removed, half_removed}
use Rattle.disk_model.specs.declared.dir.DirFault.{DirFault}
use Rattle.disk_model.specs.declared.dir.DirFault.TheVariants.{Missing, Failed}
use Rattle.disk_model.proofs.CellLemmas.{same_true, same_apart, put_here}
use Rattle.disk_model.proofs.DirectoryLaw.{remove_others}
use Rattle.file_deleter.specs.Holdings.{times}
use Rattle.file_deleter.specs.Removals.{Directory, Removes, Removals}
use Rattle.file_deleter.specs.Removals.Removals.{no_more, gone, absent, stays}
use Rattle.file_deleter.specs.Moves.{Retries}
use Rattle.file_deleter.proofs.NameLemmas.{times-cons, times_one, among_times, not_among_times, not_among_of_times, same_self, fewer, unlike}
use Rattle.std.specs.List.{AllByRecursion}
use Rattle.std.specs.List.Sorted.{IsStrictlySortedBy}
use Rattle.std.specs.Cmp.Lexicographic.{slice_cmp}
use Rattle.std.specs.Ordering.{nat_cmp}
use Rattle.std.specs.declared.cmp.Ordering.TheVariants.{Less}

-- ---- in a row
pub removals_then : (xs ys fs gs : List Name) (a b c : Directory) → Removals xs fs a b → Removals ys gs b c → Removals (xs ++ ys) (fs ++ gs) a c
removals_then xs ys fs gs a b c (no_more here) t = t
removals_then xs ys fs gs a b c (gone name names failed s u v r rest) t = gone name (names ++ ys) (failed ++ gs) s u c r (removals_then names ys failed gs u v c rest t)
removals_then xs ys fs gs a b c (absent name names failed s u v r rest) t = absent name (names ++ ys) (failed ++ gs) s u c r (removals_then names ys failed gs u v c rest t)
removals_then xs ys fs gs a b c (stays name names failed s u v r rest) t = stays name (names ++ ys) (failed ++ gs) s u c r (removals_then names ys failed gs u v c rest t)

-- ---- names that are tried in place: those that failed are moved to the front
-- the first i of the names were tried, those that failed stand in the first k places, and the rest is as it was
pub record Tried (all names : List Name) (i k : ℕ) (before after : Directory) : Type 0 where
  pub kept : k ≤ i
  pub within : i ≤ length all
  pub len : length names ≡ length all
  pub rest : drop i names ≡ drop i all
  pub tried : Removals (take i all) (take k names) before after

-- the name at i, and what is behind it
heads : (all names : List Name) (i : ℕ) (x : Name) → i < length all → i < length names → drop i names ≡ drop i all → x ≡ get_or names i x → (x ≡ get_or all i x) × (drop (i + 1) names ≡ drop (i + 1) all)
heads all names i x a b rest is =
    let cut : get_or names i x ∷ drop (suc i) names ≡ get_or all i x ∷ drop (suc i) all = sym (drop-cons names i x b) ∙ rest ∙ drop-cons all i x a in
    let one : get_or names i x ≡ get_or all i x = cc in
    let more : drop (suc i) names ≡ drop (suc i) all = cc in
    (is ∙ one, ap (λ n. drop n names) (add-one i) ∙ more ∙ ap (λ n. drop n all) (sym (add-one i)))

pub tried_none : (all : List Name) (here : Directory) → Tried all all 0 0 here here
tried_none all here = record { kept = omega arith; within = omega arith; len = refl; rest = refl; tried = no_more here }

pub tried_stays : (all names : List Name) (i k : ℕ) (x : Name) (a b c : Directory) → Tried all names i k a b → i < length all → x ≡ get_or names i x → Removes x (Err Failed) b c → Tried all (set names k x) (i + 1) (k + 1) a c
tried_stays all names i k x a b c t lt is r =
    let here : i < length names = omega (arith, lt, t.len) in
    let front : k < length names = omega (arith, here, t.kept) in
    let h = heads all names i x lt here t.rest is in
    let one : Removals (x ∷ []) (x ∷ []) b c = stays x [] [] b c c r (no_more c) in
    let more : take (i + 1) all ≡ take i all ++ x ∷ [] = take_more all i x lt ∙ ap (λ (n : Name). take i all ++ n ∷ []) (sym h.0) in
    let moved : take (k + 1) (set names k x) ≡ take k names ++ x ∷ [] = take_more_set names k x front in
    let all_tried : Removals (take i all ++ x ∷ []) (take k names ++ x ∷ []) a c = removals_then (take i all) (x ∷ []) (take k names) (x ∷ []) a b c t.tried one in
    record {
      kept = omega (arith, t.kept);
      within = omega (arith, lt);
      len = length-set names k x ∙ t.len;
      rest = drop-set-lt (i + 1) names k x (omega (arith, t.kept)) ∙ h.1;
      tried = subst (λ (ns : List Name). Removals ns (take (k + 1) (set names k x)) a c) (sym more) (subst (λ (ns : List Name). Removals (take i all ++ x ∷ []) ns a c) (sym moved) all_tried);
    }

pub tried_gone : (all names : List Name) (i k : ℕ) (x : Name) (a b c : Directory) → Tried all names i k a b → i < length all → x ≡ get_or names i x → (Removes x (Ok tt) b c) ⊎ (Removes x (Err Missing) b c) → Tried all names (i + 1) k a c
tried_gone all names i k x a b c t lt is r =
    let here : i < length names = omega (arith, lt, t.len) in
    let h = heads all names i x lt here t.rest is in
    let one : Removals (x ∷ []) [] b c = elim r [ inl done ↦ gone x [] [] b c c done (no_more c) | inr none ↦ absent x [] [] b c c none (no_more c) ] in
    let more : take (i + 1) all ≡ take i all ++ x ∷ [] = take_more all i x lt ∙ ap (λ (n : Name). take i all ++ n ∷ []) (sym h.0) in
    let all_tried : Removals (take i all ++ x ∷ []) (take k names ++ []) a c = removals_then (take i all) (x ∷ []) (take k names) [] a b c t.tried one in
    record {
      kept = omega (arith, t.kept);
      within = omega (arith, lt);
      len = t.len;
      rest = h.1;
      tried = subst (λ (ns : List Name). Removals ns (take k names) a c) (sym more) (subst (λ (ns : List Name). Removals (take i all ++ x ∷ []) ns a c) (append-nil (take k names)) all_tried);
    }

-- ---- what removals of names that stand once each do at one name
-- a removal of a name, at this name
failed_at : (c : Cell) (o : Content) → may_leave (half_removed c) o ≡ true → (may_leave c o ≡ true) ⊎ (o ≡ None)
failed_at c o h = by (c.past o) (is_none o) (left_by c.now c.synced o) (none_is o) h
  where
    none_is : (o : Content) → is_none o ≡ true → o ≡ None
    none_is None e = refl
    none_is (Some bytes) e = absurd (true≢false (sym e))

    by : (past none own : Bool) → (none ≡ true → o ≡ None) → ((past || none) || own) ≡ true → ((past || own) ≡ true) ⊎ (o ≡ None)
    by true none own is h = inl refl
    by false true own is h = inr (is refl)
    by false false own is h = inl h

done_at : (c : Cell) (o : Content) → may_leave (removed c) o ≡ true → (may_leave c o ≡ true) ⊎ (o ≡ None)
done_at c o h = by (may_leave c o) o h
  where
    none_is : (o : Content) → is_none o ≡ true → o ≡ None
    none_is None e = refl
    none_is (Some bytes) e = absurd (true≢false (sym e))

    by : (was : Bool) (o : Content) → (was || is_none o) ≡ true → (was ≡ true) ⊎ (o ≡ None)
    by true o h = inl refl
    by false o h = inr (none_is o h)

-- a removal that left this name as it is, or was of another
same_cell : (name q : Name) (r : Result (Unit {0}) DirFault) (a b : Directory) → Removes name r a b → name ≢ q → b.cells q ≡ a.cells q
same_cell name q r a b h apart = ap (λ (c : Cells). c q) h.cells ∙ remove_others a.cells name r q apart

pub times_failed : (names failed : List Name) (a b : Directory) → Removals names failed a b → (q : Name) → times failed q ≤ times names q
times_failed names failed a b (no_more here) q = let e : times [] q ≡ 0 = refl in omega (arith, e)
times_failed names failed a b (gone x ns fs s u v r rest) q = let e = times-cons x ns q in omega (arith, e, times_failed ns fs u b rest q)
times_failed names failed a b (absent x ns fs s u v r rest) q = let e = times-cons x ns q in omega (arith, e, times_failed ns fs u b rest q)
times_failed names failed a b (stays x ns fs s u v r rest) q = let e = times-cons x ns q in let f = times-cons x fs q in omega (arith, e, f, times_failed ns fs u b rest q)

-- a name that failed was tried
pub among_failed : (names failed : List Name) (a b : Directory) → Removals names failed a b → (q : Name) → is_among failed q ≡ true → is_among names q ≡ true
among_failed names failed a b r q h = by (is_among names q) refl
  where
    by : (t : Bool) → is_among names q ≡ t → is_among names q ≡ true
    by true e = e
    by false e = absurd (omega (arith, among_times failed q h, times_failed names failed a b r q, not_among_times names q e))

-- names that failed ascend where those that were tried do
all_failed : (P : Name → Type 0) (names failed : List Name) (a b : Directory) → Removals names failed a b → AllByRecursion P names → AllByRecursion P failed
all_failed P names failed a b (no_more here) every = tt
all_failed P names failed a b (gone x ns fs s u v r rest) every = all_failed P ns fs u b rest every.1
all_failed P names failed a b (absent x ns fs s u v r rest) every = all_failed P ns fs u b rest every.1
all_failed P names failed a b (stays x ns fs s u v r rest) every = (every.0, all_failed P ns fs u b rest every.1)

pub ascend_failed : (names failed : List Name) (a b : Directory) → Removals names failed a b → IsStrictlySortedBy (slice_cmp nat_cmp) names → IsStrictlySortedBy (slice_cmp nat_cmp) failed
unfolding IsStrictlySortedBy
ascend_failed names failed a b (no_more here) up = tt
ascend_failed names failed a b (gone x ns fs s u v r rest) up = ascend_failed ns fs u b rest up.1
ascend_failed names failed a b (absent x ns fs s u v r rest) up = ascend_failed ns fs u b rest up.1
ascend_failed names failed a b (stays x ns fs s u v r rest) up = (all_failed (λ y. slice_cmp nat_cmp x y ≡ Less) ns fs u b rest up.0, ascend_failed ns fs u b rest up.1)

-- a name that is not among names is neither the first nor among the rest
parts : (x : Name) (names : List Name) (q : Name) → is_among (x ∷ names) q ≡ false → (x ≢ q) × (is_among names q ≡ false)
parts x names q out = by (same x q) refl out
  where
    by : (b : Bool) → same x q ≡ b → (b || is_among names q) ≡ false → (x ≢ q) × (is_among names q ≡ false)
    by true e out = absurd (true≢false out)
    by false e out = (λ i. true≢false (sym (same_self q) ∙ ap (λ (n : Name). same n q) (sym i) ∙ e), out)

-- names that do not name it leave it as it is
pub untouched : (names failed : List Name) (a b : Directory) → Removals names failed a b → (q : Name) → is_among names q ≡ false → b.cells q ≡ a.cells q
untouched names failed a b (no_more here) q out = refl
untouched names failed a b (gone x ns fs s u v r rest) q out = let o = parts x ns q out in untouched ns fs u b rest q o.1 ∙ same_cell x q (Ok tt) a u r o.0
untouched names failed a b (absent x ns fs s u v r rest) q out = let o = parts x ns q out in untouched ns fs u b rest q o.1 ∙ same_cell x q (Err Missing) a u r o.0
untouched names failed a b (stays x ns fs s u v r rest) q out = let o = parts x ns q out in untouched ns fs u b rest q o.1 ∙ same_cell x q (Err Failed) a u r o.0

-- the faults do not fall, and rise where a removal failed
pub faults_later : (names failed : List Name) (a b : Directory) → Removals names failed a b → a.faults ≤ b.faults
faults_later names failed a b (no_more here) = omega arith
faults_later names failed a b (gone x ns fs s u v r rest) = omega (arith, r.faults.later, faults_later ns fs u b rest)
faults_later names failed a b (absent x ns fs s u v r rest) = omega (arith, r.faults.later, faults_later ns fs u b rest)
faults_later names failed a b (stays x ns fs s u v r rest) = omega (arith, r.faults.later, faults_later ns fs u b rest)

pub faults_rise : (names failed : List Name) (a b : Directory) → Removals names failed a b → 0 < length failed → Rose a.faults b.faults
faults_rise names failed a b (no_more here) some = absurd (omega (arith, some))
faults_rise names failed a b (gone x ns fs s u v r rest) some = omega (arith, r.faults.later, faults_rise ns fs u b rest some)
faults_rise names failed a b (absent x ns fs s u v r rest) some = omega (arith, r.faults.later, faults_rise ns fs u b rest some)
faults_rise names failed a b (stays x ns fs s u v r rest) some = omega (arith, r.faults.failed refl, faults_later ns fs u b rest)

at_most_one : (b : Bool) (n : ℕ) → n ≡ cond b 1 0 → n ≤ 1
at_most_one true n e = omega (arith, e)
at_most_one false n e = omega (arith, e)

-- one name over a step that leaves it, and then over others
beside : (had has more now : Bool) (x y z : Cell) → more ≡ had → now ≡ has → y ≡ x → Retries had has y z → Retries more now x z
beside had has more now x y z e f g t = subst (λ (h : Bool). Retries h now x z) (sym e) (subst (λ (h : Bool). Retries had h x z) (sym f) (subst (λ (c : Cell). Retries had has c z) g t))

-- a name that stands first, and not among the others
module _ (x : Name) (names failed : List Name) (a b c : Directory) (rest : Removals names failed b c) (one : (q : Name) → times (x ∷ names) q ≤ 1) where
  no_more_of : times names x ≡ 0
  no_more_of = let e : times (x ∷ names) x ≡ 1 + times names x = times-cons x names x ∙ ap (λ t. cond t 1 0 + times names x) (same_self x) in omega (arith, e, one x)

  first : is_among (x ∷ names) x ≡ true
  first = ap (λ t. t || is_among names x) (same_self x)

  not_failed : is_among failed x ≡ false
  not_failed = not_among_of_times failed x (omega (arith, no_more_of, times_failed names failed b c rest x))

  as_left : c.cells x ≡ b.cells x
  as_left = untouched names failed b c rest x (not_among_of_times names x no_more_of)

  was_due : {P : Type 0} → is_among (x ∷ names) x ≡ false → P
  was_due e = absurd (true≢false (sym first ∙ e))

  first_gone : Removes x (Ok tt) a b → Retries (is_among (x ∷ names) x) (is_among failed x) (a.cells x) (c.cells x)
  first_gone r =
      let is : c.cells x ≡ removed (a.cells x) = as_left ∙ ap (λ (k : Cells). k x) r.cells ∙ put_here a.cells x (removed (a.cells x)) in
      record { kept = was_due; tried = λ e. inl (not_failed, ap (λ (k : Cell). k.now) is); crash = λ o h. done_at (a.cells x) o (sym (ap (λ (k : Cell). may_leave k o) is) ∙ h) }

  first_absent : Removes x (Err Missing) a b → Retries (is_among (x ∷ names) x) (is_among failed x) (a.cells x) (c.cells x)
  first_absent r =
      let is : c.cells x ≡ a.cells x = as_left ∙ ap (λ (k : Cells). k x) r.cells in
      record { kept = was_due; tried = λ e. inl (not_failed, ap (λ (k : Cell). k.now) is ∙ r.missing.0 refl); crash = λ o h. inl (sym (ap (λ (k : Cell). may_leave k o) is) ∙ h) }

  first_stays : Removes x (Err Failed) a b → Retries (is_among (x ∷ names) x) (is_among (x ∷ failed) x) (a.cells x) (c.cells x)
  first_stays r =
      let is : c.cells x ≡ half_removed (a.cells x) = as_left ∙ ap (λ (k : Cells). k x) r.cells ∙ put_here a.cells x (half_removed (a.cells x)) in
      record { kept = was_due; tried = λ e. inr (ap (λ t. t || is_among failed x) (same_self x), ap (λ (k : Cell). k.now) is); crash = λ o h. failed_at (a.cells x) o (sym (ap (λ (k : Cell). may_leave k o) is) ∙ h) }

-- removals of names that stand once each, at one name
pub retries : (names failed : List Name) (a b : Directory) → Removals names failed a b → ((q : Name) → times names q ≤ 1) → (q : Name) → Retries (is_among names q) (is_among failed q) (a.cells q) (b.cells q)
retries names failed a b (no_more here) one q = record { kept = λ e. (refl, refl); tried = λ e. absurd (true≢false (sym e)); crash = λ c h. inl h }
retries names failed a b (gone x ns fs s u v r rest) one q = by (same x q) refl (retries ns fs u b rest (fewer x ns one) q)
  where
    by : (t : Bool) → same x q ≡ t → Retries (is_among ns q) (is_among fs q) (u.cells q) (b.cells q) → Retries (is_among (x ∷ ns) q) (is_among fs q) (a.cells q) (b.cells q)
    by true e more = subst (λ (n : Name). Retries (is_among (x ∷ ns) n) (is_among fs n) (a.cells n) (b.cells n)) (same_true x q e) (first_gone x ns fs a u b rest one r)
    by false e more = beside (is_among ns q) (is_among fs q) (is_among (x ∷ ns) q) (is_among fs q) (a.cells q) (u.cells q) (b.cells q) (ap (λ t. t || is_among ns q) e) refl (same_cell x q (Ok tt) a u r (unlike x q e)) more
retries names failed a b (absent x ns fs s u v r rest) one q = by (same x q) refl (retries ns fs u b rest (fewer x ns one) q)
  where
    by : (t : Bool) → same x q ≡ t → Retries (is_among ns q) (is_among fs q) (u.cells q) (b.cells q) → Retries (is_among (x ∷ ns) q) (is_among fs q) (a.cells q) (b.cells q)
    by true e more = subst (λ (n : Name). Retries (is_among (x ∷ ns) n) (is_among fs n) (a.cells n) (b.cells n)) (same_true x q e) (first_absent x ns fs a u b rest one r)
    by false e more = beside (is_among ns q) (is_among fs q) (is_among (x ∷ ns) q) (is_among fs q) (a.cells q) (u.cells q) (b.cells q) (ap (λ t. t || is_among ns q) e) refl (same_cell x q (Err Missing) a u r (unlike x q e)) more
retries names failed a b (stays x ns fs s u v r rest) one q = by (same x q) refl (retries ns fs u b rest (fewer x ns one) q)
  where
    by : (t : Bool) → same x q ≡ t → Retries (is_among ns q) (is_among fs q) (u.cells q) (b.cells q) → Retries (is_among (x ∷ ns) q) (is_among (x ∷ fs) q) (a.cells q) (b.cells q)
    by true e more = subst (λ (n : Name). Retries (is_among (x ∷ ns) n) (is_among (x ∷ fs) n) (a.cells n) (b.cells n)) (same_true x q e) (first_stays x ns fs a u b rest one r)
    by false e more = beside (is_among ns q) (is_among fs q) (is_among (x ∷ ns) q) (is_among (x ∷ fs) q) (a.cells q) (u.cells q) (b.cells q) (ap (λ t. t || is_among ns q) e) (ap (λ t. t || is_among fs q) e) (same_cell x q (Err Failed) a u r (unlike x q e)) more

-- a name where nothing changed
pub retries_same : (due : Bool) (c : Cell) → Retries due due c c
retries_same due c = record { kept = λ e. (e, refl); tried = λ e. inr (e, refl); crash = λ o h. inl h }

-- a removal of one due name
pub tries_one : (name : Name) (failed : List Name) (a b : Directory) (had has : Name → Bool) → Removals (name ∷ []) failed a b
    → had name ≡ true → has name ≡ is_among failed name → ((q : Name) → name ≢ q → has q ≡ had q) → (q : Name) → Retries (had q) (has q) (a.cells q) (b.cells q)
tries_one name failed a b had has r was now others q = by (same name q) refl
  where
    alone : (q : Name) → times (name ∷ []) q ≤ 1
    alone q = at_most_one (same name q) (times (name ∷ []) q) (times_one name q)

    first_is : is_among (name ∷ []) name ≡ true
    first_is = ap (λ t. t || false) (same_self name)

    here : Retries (had name) (has name) (a.cells name) (b.cells name)
    here = beside (is_among (name ∷ []) name) (is_among failed name) (had name) (has name) (a.cells name) (a.cells name) (b.cells name) (was ∙ sym first_is) now refl (retries (name ∷ []) failed a b r alone name)

    by : (t : Bool) → same name q ≡ t → Retries (had q) (has q) (a.cells q) (b.cells q)
    by true e = subst (λ (n : Name). Retries (had n) (has n) (a.cells n) (b.cells n)) (same_true name q e) here
    by false e =
        let still : b.cells q ≡ a.cells q = untouched (name ∷ []) failed a b r q (ap (λ t. t || false) e) in
        subst (λ (h : Bool). Retries (had q) h (a.cells q) (b.cells q)) (sym (others q (unlike name q e))) (subst (λ (c : Cell). Retries (had q) (had q) (a.cells q) c) (sym still) (retries_same (had q) (a.cells q)))

-- a single removal, as a row of one
pub one_stays : (name : Name) (a b : Directory) → Removes name (Err Failed) a b → Removals (name ∷ []) (name ∷ []) a b
one_stays name a b r = stays name [] [] a b b r (no_more b)

pub one_gone : (name : Name) (a b : Directory) → (Removes name (Ok tt) a b) ⊎ (Removes name (Err Missing) a b) → Removals (name ∷ []) [] a b
one_gone name a b (inl r) = gone name [] [] a b b r (no_more b)
one_gone name a b (inr r) = absent name [] [] a b b r (no_more b)

pub one_untouched : (name : Name) (failed : List Name) (a b : Directory) → Removals (name ∷ []) failed a b → (q : Name) → name ≢ q → b.cells q ≡ a.cells q
one_untouched name failed a b r q apart = untouched (name ∷ []) failed a b r q (ap (λ t. t || false) (same_apart name q apart))
