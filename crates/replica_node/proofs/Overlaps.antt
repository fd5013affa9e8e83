-- Copies that end because they copy a file which a newer point copies.
use Rattle.std.proofs.Common.{◌≡◌, ℕ, zero, suc, ◌+◌, ◌<◌, ◌≤◌, ◌^◌, Bool, true, false, ◌||◌, List, [], ◌∷◌, length, get_or, Option, Some, None, is_some, cond, refl, sym, ap, subst, ◌∙◌, arith, true≢false}
use Rattle.std.specs.Prelude.{◌==◌, not, if◌then◌else◌}
use Rattle.std.specs.List.{AllByRecursion, list_any}
use Rattle.std.proofs.lemmas.Bool.Decides.{nat_tests}
use Rattle.file_names.specs.Names.{temp_name_of}
use Rattle.disk_model.specs.Disk.{Name, Cells, same, is_among}
use Rattle.disk_model.proofs.CellLemmas.{same_true}
use Rattle.file_deleter.specs.Holdings.{Holdings, times, AreCounted}
use Rattle.file_deleter.specs.Moves.{LetsGo, MovesCounts}
use Rattle.file_deleter.proofs.Keeping.{keeps_then}
use Rattle.file_deleter.proofs.NameLemmas.{times-append, times_one, not_among_times}
use Rattle.copy_state.specs.declared.meta.FileMetaData.{FileMetaData}
use Rattle.copy_state.specs.States.{meta_names}
use Rattle.copy_job.specs.declared.part.JobPart.{JobPart}
use Rattle.copy_job.specs.Parts.{own_names}
use Rattle.copy_job.specs.Jobs.{Job, job_names}
use Rattle.replica_node.specs.Merges.{copy_at, copies_without, copied_names, running_names, SharesNone, CopyApart, AreCopiesApart}
use Rattle.replica_node.specs.Replica.{IsMergeCopy}
use Rattle.replica_node.proofs.Foreign.{apart_back, merge_foreign, running_foreign}
use Rattle.replica_node.proofs.Merging.{all_map, all_both, names-without}
use Rattle.replica_node.specs.Overlapping.{overlaps, first_overlapping, copies_beside}

-- ---- the names of files
pub named_there : (files : List (Name × FileMetaData)) (i : ℕ) (d : Name × FileMetaData) → i < length files → d ≡ get_or files i d → (q : Name) → same d.0 q ≡ true → true ≡ is_among (meta_names files) q
named_there [] i d lt e q t = absurd (omega (arith, lt))
named_there (x ∷ xs) zero d lt e q t = sym (ap (λ b. b || is_among (meta_names xs) q) (ap (λ (f : Name × FileMetaData). same f.0 q) (sym e) ∙ t))
named_there (x ∷ xs) (suc i) d lt e q t = by (named_there xs i d (omega (arith, lt)) e q t) (same x.0 q)
  where
    by : true ≡ is_among (meta_names xs) q → (b : Bool) → true ≡ (b || is_among (meta_names xs) q)
    by more true = refl
    by more false = more

-- ---- the first one runs
pub first_runs : (names : List Name) (cs : List Job) (number : ℕ) → first_overlapping names cs ≡ Some number → is_some (copy_at number cs) ≡ true
first_runs names [] number e = cc
first_runs names (x ∷ xs) number e = by (first_runs names xs number) (overlaps names x) e
  where
    here : (b : Bool) → (x.number == number) ≡ b → (is_some (copy_at number xs) ≡ true) → is_some (if b then Some x else copy_at number xs) ≡ true
    here true f more = refl
    here false f more = more

    first : x.number ≡ number → (b : Bool) → (x.number == number) ≡ b → is_some (if b then Some x else copy_at number xs) ≡ true
    first named true f = refl
    first named false f = absurd (grind (arith, nat_tests, named, f))

    by : (first_overlapping names xs ≡ Some number → is_some (copy_at number xs) ≡ true) → (b : Bool) → (if b then Some x.number else first_overlapping names xs) ≡ Some number → is_some (copy_at number (x ∷ xs)) ≡ true
    by more true g = let named : x.number ≡ number = cc in first named (x.number == number) refl
    by more false g = here (x.number == number) refl (more g)

-- ---- the others are the same without it
-- a copy of the number in a list of which each is apart from this one
not_number : (c : Job) (number : ℕ) (cs : List Job) → AllByRecursion (CopyApart c) cs → is_some (copy_at number cs) ≡ true → (c.number == number) ≡ true → ⊥
not_number c number [] h there e = true≢false (sym there)
not_number c number (x ∷ xs) h there e = by (λ g. not_number c number xs h.1 g e) (x.number == number) refl there
  where
    by : (is_some (copy_at number xs) ≡ true → ⊥) → (b : Bool) → (x.number == number) ≡ b → is_some (if b then Some x else copy_at number xs) ≡ true → ⊥
    by more true f g = h.0.numbers (grind (arith, nat_tests, e, f))
    by more false f g = more g

pub beside_without : (names : List Name) (cs : List Job) (number : ℕ) → AreCopiesApart cs → first_overlapping names cs ≡ Some number → copies_beside names (copies_without number cs) ≡ copies_beside names cs
beside_without names [] number apart e = cc
beside_without names (x ∷ xs) number apart e = by (beside_without names xs number apart.1) (overlaps names x) refl e
  where
    later : (first_overlapping names xs ≡ Some number → copies_beside names (copies_without number xs) ≡ copies_beside names xs) → (b : Bool) → (x.number == number) ≡ b → first_overlapping names xs ≡ Some number
        → copies_beside names (if b then xs else x ∷ copies_without number xs) ≡ copies_beside names (x ∷ xs)
    later more true f g = absurd (not_number x number xs apart.0 (first_runs names xs number g) f)
    later more false f g = ap (λ (ys : List Job). cond (not (overlaps names x)) (x ∷ ys) ys) (more g)

    here : (b : Bool) → (x.number == number) ≡ b → x.number ≡ number → overlaps names x ≡ true → copies_beside names (if b then xs else x ∷ copies_without number xs) ≡ copies_beside names (x ∷ xs)
    here true f same one = sym (ap (λ b. cond (not b) (x ∷ copies_beside names xs) (copies_beside names xs)) one)
    here false f same one = absurd (grind (arith, nat_tests, f, same))

    by : (first_overlapping names xs ≡ Some number → copies_beside names (copies_without number xs) ≡ copies_beside names xs) → (b : Bool) → overlaps names x ≡ b → (if b then Some x.number else first_overlapping names xs) ≡ Some number
        → copies_beside names (copies_without number (x ∷ xs)) ≡ copies_beside names (x ∷ xs)
    by more true f g = let named : x.number ≡ number = cc in here (x.number == number) refl named f
    by more false f g = later more (x.number == number) refl g

pub fewer_without : (number : ℕ) (cs : List Job) → is_some (copy_at number cs) ≡ true → length (copies_without number cs) < length cs
fewer_without number [] there = absurd (true≢false (sym there))
fewer_without number (x ∷ xs) there = by (fewer_without number xs) (x.number == number) there
  where
    by : (is_some (copy_at number xs) ≡ true → length (copies_without number xs) < length xs) → (b : Bool) → is_some (if b then Some x else copy_at number xs) ≡ true → length (if b then xs else x ∷ copies_without number xs) < length (x ∷ xs)
    by more true g = omega arith
    by more false g = let few : length (copies_without number xs) < length xs = more g in omega (arith, few)

-- ---- where there is none
pub not_none : (n : ℕ) → ◌≡◌ {A = Option ℕ} (Some n) None → ⊥
not_none n e = cc

pub none_beside : (names : List Name) (cs : List Job) → first_overlapping names cs ≡ None → copies_beside names cs ≡ cs
none_beside names [] e = refl
none_beside names (x ∷ xs) e = by (none_beside names xs) (overlaps names x) refl e
  where
    by : (first_overlapping names xs ≡ None → copies_beside names xs ≡ xs) → (b : Bool) → overlaps names x ≡ b → (if b then Some x.number else first_overlapping names xs) ≡ None → copies_beside names (x ∷ xs) ≡ x ∷ xs
    by more true f g = absurd (not_none x.number g)
    by more false f g = ap (λ (b : Bool). cond (not b) (x ∷ copies_beside names xs) (copies_beside names xs)) f ∙ ap (λ (ys : List Job). x ∷ ys) (more g)

-- ---- those that stay share no name
none_any : (names others : List Name) → list_any (is_among names) others ≡ false → (q : Name) → 0 < times others q → times names q ≡ 0
none_any names [] e q some = absurd (let n : times [] q ≡ 0 = refl in omega (arith, some, n))
none_any names (x ∷ xs) e q some = by (λ h. none_any names xs h q) (is_among names x) refl (same x q) refl e
  where
    by : (list_any (is_among names) xs ≡ false → 0 < times xs q → times names q ≡ 0) → (b : Bool) → is_among names x ≡ b → (t : Bool) → same x q ≡ t → (b || list_any (is_among names) xs) ≡ false → times names q ≡ 0
    by more true f t g h = absurd (true≢false h)
    by more false f true g h = subst (λ (y : Name). times names y ≡ 0) (same_true x q g) (not_among_times names x f)
    by more false f false g h =
        let one : times (x ∷ []) q ≡ 0 = times_one x q ∙ ap (λ t. cond t 1 0) g in
        more h (omega (arith, some, one, times-append (x ∷ []) xs q))

none_own : (names : List Name) (ps : List JobPart) → list_any (λ p. is_among names p.own) ps ≡ list_any (is_among names) (own_names ps)
none_own names [] = refl
none_own names (p ∷ ps) = ap (λ b. is_among names p.own || b) (none_own names ps)

shares_none : (names : List Name) (c : Job) → overlaps names c ≡ false → SharesNone (copied_names c) names
shares_none names c e = by (list_any (is_among names) c.missing) refl e
  where
    by : (b : Bool) → list_any (is_among names) c.missing ≡ b → (b || list_any (λ p. is_among names p.own) c.parts) ≡ false → SharesNone (copied_names c) names
    by true f g = absurd (true≢false g)
    by false f g = λ q some. both q some (times c.missing q) refl
      where
        both : (q : Name) → 0 < times (copied_names c) q → (n : ℕ) → times c.missing q ≡ n → times names q ≡ 0
        both q some zero z = none_any names (own_names c.parts) (sym (none_own names c.parts) ∙ g) q (omega (arith, some, z, times-append c.missing (own_names c.parts) q))
        both q some (suc n) z = none_any names c.missing f q (omega (arith, z))

pub beside_apart : (names : List Name) (cs : List Job) → AllByRecursion (λ c. SharesNone (copied_names c) names) (copies_beside names cs)
beside_apart names [] = tt
beside_apart names (x ∷ xs) = by (beside_apart names xs) (overlaps names x) refl
  where
    by : AllByRecursion (λ c. SharesNone (copied_names c) names) (copies_beside names xs) → (b : Bool) → overlaps names x ≡ b
        → AllByRecursion (λ c. SharesNone (copied_names c) names) (cond (not b) (x ∷ copies_beside names xs) (copies_beside names xs))
    by more true f = more
    by more false f = (shares_none names x f, more)

-- ---- the copies that end, and those that stay
pub counted_here : (number : ℕ) (cs : List Job) (c : Job) (files : Holdings) → copy_at number cs ≡ Some c → AreCounted (running_names cs) files → AreCounted (job_names c) files
counted_here number cs c files e counted = record { each = λ q. omega (arith, names-without number cs c q e, counted.each q) }

pub counted_without : (number : ℕ) (cs rest : List Job) (c : Job) (old new : Holdings) (a b : Cells) → copy_at number cs ≡ Some c → rest ≡ copies_without number cs → AreCounted (running_names cs) old → LetsGo (job_names c) old new a b
    → AreCounted (running_names rest) new
counted_without number cs rest c old new a b e is counted lets_go = record {
  each = λ q.
      let r : times (running_names rest) q ≡ times (running_names (copies_without number cs)) q = ap (λ (xs : List Job). times (running_names xs) q) is in
      omega (arith, r, names-without number cs c q e, counted.each q, lets_go.counts q);
}

pub moved_without : (was : List Job) (number : ℕ) (cs rest : List Job) (c : Job) (h0 h1 h2 : Holdings) (a b d : Cells) → copy_at number cs ≡ Some c → rest ≡ copies_without number cs → MovesCounts [] (running_names was) (running_names cs) h0 h1 a b
    → LetsGo (job_names c) h1 h2 b d → MovesCounts [] (running_names was) (running_names rest) h0 h2 a d
moved_without was number cs rest c h0 h1 h2 a b d e is moves lets_go = record {
  balance = λ q.
      let r : times (running_names rest) q ≡ times (running_names (copies_without number cs)) q = ap (λ (xs : List Job). times (running_names xs) q) is in
      omega (arith, r, names-without number cs c q e, moves.balance q, lets_go.counts q);
  keeps = keeps_then [] [] h0 h1 h2 a b d moves.keeps lets_go.keeps (λ q had has. omega (arith, has, lets_go.counts q));
}

pub all_beside : (P : Job → Type 0) (names : List Name) (cs : List Job) → AllByRecursion P cs → AllByRecursion P (copies_beside names cs)
all_beside P names [] all = tt
all_beside P names (x ∷ xs) all = by (all_beside P names xs all.1) (overlaps names x)
  where
    by : AllByRecursion P (copies_beside names xs) → (b : Bool) → AllByRecursion P (cond (not b) (x ∷ copies_beside names xs) (copies_beside names xs))
    by rest true = rest
    by rest false = (all.0, rest)

pub copies_apart : (names : List Name) (cs : List Job) → AreCopiesApart cs → AreCopiesApart (copies_beside names cs)
copies_apart names [] apart = tt
copies_apart names (x ∷ xs) apart = by (copies_apart names xs apart.1) (overlaps names x)
  where
    by : AreCopiesApart (copies_beside names xs) → (b : Bool) → AreCopiesApart (cond (not b) (x ∷ copies_beside names xs) (copies_beside names xs))
    by rest true = rest
    by rest false = (all_beside (CopyApart x) names xs apart.0, rest)

pub beside_fewer : (names : List Name) (cs : List Job) (q : Name) → times (running_names (copies_beside names cs)) q ≤ times (running_names cs) q
beside_fewer names [] q = omega arith
beside_fewer names (x ∷ xs) q = by (beside_fewer names xs q) (overlaps names x)
  where
    by : times (running_names (copies_beside names xs)) q ≤ times (running_names xs) q → (b : Bool) → times (running_names (cond (not b) (x ∷ copies_beside names xs) (copies_beside names xs))) q ≤ times (running_names (x ∷ xs)) q
    by rest true = omega (arith, rest, times-append (job_names x) (running_names xs) q)
    by rest false = omega (arith, rest, times-append (job_names x) (running_names xs) q, times-append (job_names x) (running_names (copies_beside names xs)) q)

-- no copy that ends holds a temporary file of what this one copies
abbrev pub HoldsSame : List Name → List Job → Job → Type 0
HoldsSame names cs c = (name : Name) (number : ℕ) → 0 < times (copied_names c) name → number < 2 ^ 64 → times (running_names (copies_beside names cs)) (temp_name_of name number) ≡ times (running_names cs) (temp_name_of name number)

-- so it is of each that stays
pub beside_same : (cells : Cells) (holdings : Holdings) (jobs : ℕ) (names : List Name) (cs : List Job) → AllByRecursion (IsMergeCopy cells holdings jobs) cs → AreCopiesApart cs → AllByRecursion (HoldsSame names cs) (copies_beside names cs)
beside_same cells holdings jobs names [] each apart = tt
beside_same cells holdings jobs names (x ∷ xs) each apart = by (beside_same cells holdings jobs names xs each.1 apart.1) (overlaps names x)
  where
    Same : Bool → Job → Type 0
    Same b c = (name : Name) (number : ℕ) → 0 < times (copied_names c) name → number < 2 ^ 64
        → times (running_names (cond (not b) (x ∷ copies_beside names xs) (copies_beside names xs))) (temp_name_of name number) ≡ times (running_names (x ∷ xs)) (temp_name_of name number)

    none_of : (name : Name) → 0 < times (copied_names x) name → (ds : List Job) → AllByRecursion (CopyApart x) ds → AllByRecursion (λ d. times (copied_names d) name ≡ 0) ds
    none_of name copied ds all = all_map (CopyApart x) (λ d. times (copied_names d) name ≡ 0) ds (λ d h. h.files name copied) all

    first : Same false x
    first name number copied few =
        let t : Name = temp_name_of name number in
        omega (
          arith,
          running_foreign cells holdings jobs xs each.1 number few name (none_of name copied xs apart.0),
          running_foreign cells holdings jobs (copies_beside names xs) (all_beside (IsMergeCopy cells holdings jobs) names xs each.1) number few name (none_of name copied (copies_beside names xs) (all_beside (CopyApart x) names xs apart.0)),
          times-append (job_names x) (running_names xs) t,
          times-append (job_names x) (running_names (copies_beside names xs)) t,
        )

    by : AllByRecursion (HoldsSame names xs) (copies_beside names xs) → (b : Bool) → AllByRecursion (Same b) (cond (not b) (x ∷ copies_beside names xs) (copies_beside names xs))
    by more true = all_map (λ c. HoldsSame names xs c × CopyApart x c) (Same true) (copies_beside names xs)
        (λ c h name number copied few. omega (
          arith,
          h.0 name number copied few,
          merge_foreign cells holdings jobs x each.0 number few name (apart_back x c h.1 name copied),
          times-append (job_names x) (running_names xs) (temp_name_of name number),
        ))
        (all_both (HoldsSame names xs) (CopyApart x) (copies_beside names xs) more (all_beside (CopyApart x) names xs apart.0))
    by more false = (
      first,
      all_map (HoldsSame names xs) (Same false) (copies_beside names xs)
          (λ c h name number copied few. omega (
            arith,
            h name number copied few,
            times-append (job_names x) (running_names xs) (temp_name_of name number),
            times-append (job_names x) (running_names (copies_beside names xs)) (temp_name_of name number),
          )) more,
    )
