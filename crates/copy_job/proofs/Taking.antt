-- Parts that a job takes over from an older one.
use Rattle.std.proofs.Common.{◌≡◌, ℕ, zero, suc, ◌+◌, ◌-◌, ◌<◌, ◌≤◌, ◌||◌, ◌&&◌, ◌==◌, Bool, true, false, true≢false, not, List, [], ◌∷◌, ◌++◌, length, take, drop, get_or, filter, Option, Some, None, refl, sym, ap, subst, ◌∙◌, arith, cond, length-append, append-nil, append_assoc}
use Rattle.std.specs.Prelude.{slice_set}
use Rattle.std.specs.List.Sorted.{IsStrictlySortedBy}
use Rattle.std.specs.Ordering.{nat_cmp}
use Rattle.std.specs.Cmp.Lexicographic.{slice_cmp}
use Rattle.std.proofs.lemmas.List.Kept.{IsStrictlySortedBy-filter}
use Rattle.std.proofs.lemmas.Bool.{and_parts, and_from, eqb-true, eq-eqb}
use Rattle.std.proofs.lemmas.List.{take-append-drop, take_more, take_more_set}
use Rattle.std.proofs.lemmas.List.Elements.{filter-append}
use Rattle.disk_model.specs.Disk.{Name, Cells, same, is_among}
use Rattle.disk_model.proofs.CellLemmas.{same_true}
use Rattle.file_deleter.specs.Holdings.{Holdings, count_of, times, AreCounted}
use Rattle.file_deleter.specs.Moves.{LetsGo, MovesCounts}
use Rattle.file_deleter.proofs.NameLemmas.{same_self, same_turned, times-cons, times-append, among_times, not_among_times, once as once_name}
use Rattle.copy_state.specs.declared.meta.FileMetaData.{FileMetaData}
use Rattle.copy_state.specs.States.{meta_names, meta_in}
use Rattle.copy_job.specs.declared.part.JobPart.{JobPart}
use Rattle.copy_job.specs.Parts.{part_at, present_names, own_names}
use Rattle.copy_job.specs.Jobs.{Job, IsJob, job_names, present_of, is_same_meta, is_still_wanted, is_taken, taken_parts, taken_over}
use Rattle.copy_job.specs.Taking.{PartGoes}
use Rattle.copy_job.proofs.Naming.{length-present_names, present_names-append, own_names-append}
use Rattle.copy_job.proofs.Ascending.{sorted_kept}
use Rattle.copy_job.proofs.Kept.{left_out, length-left_out}

-- ---- metadata
pub one_meta : (a b : FileMetaData) → is_same_meta (Some a) (Some b) ≡ true → a ≡ b
one_meta a b e =
    let p = and_parts (same a.header b.header) (same a.footer b.footer && ((a.length == b.length) && (a.checksum == b.checksum))) e in
    let q = and_parts (same a.footer b.footer) ((a.length == b.length) && (a.checksum == b.checksum)) p.1 in
    let r = and_parts (a.length == b.length) (a.checksum == b.checksum) q.1 in
    let h : a.header ≡ b.header = same_true a.header b.header p.0 in
    let f : a.footer ≡ b.footer = same_true a.footer b.footer q.0 in
    let l : a.length ≡ b.length = eqb-true a.length b.length r.0 in
    let s : a.checksum ≡ b.checksum = eqb-true a.checksum b.checksum r.1 in
    λ i. record { header = h i; footer = f i; length = l i; checksum = s i }

pub meta_self : (a : FileMetaData) → is_same_meta (Some a) (Some a) ≡ true
meta_self a = and_from (same a.header a.header) (same a.footer a.footer && ((a.length == a.length) && (a.checksum == a.checksum))) (same_self a.header)
    (and_from (same a.footer a.footer) ((a.length == a.length) && (a.checksum == a.checksum)) (same_self a.footer) (and_from (a.length == a.length) (a.checksum == a.checksum) (eq-eqb a.length a.length refl) (eq-eqb a.checksum a.checksum refl)))

-- the test answers whether both are one
pub tested_meta : (a b : FileMetaData) (r : Bool) → (r ≡ true → a ≡ b) → (a ≡ b → r ≡ true) → r ≡ is_same_meta (Some a) (Some b)
tested_meta a b true one back = sym (subst (λ (x : FileMetaData). is_same_meta (Some a) (Some x) ≡ true) (one refl) (meta_self a))
tested_meta a b false one back = by (is_same_meta (Some a) (Some b)) refl
  where
    by : (t : Bool) → is_same_meta (Some a) (Some b) ≡ t → false ≡ is_same_meta (Some a) (Some b)
    by true e = absurd (true≢false (sym (back (one_meta a b e))))
    by false e = sym e

-- ---- a walk over files
-- ---- names that are left out
times-filter : (test : Name → Bool) (ys : List Name) (q : Name) → times (filter test ys) q ≡ cond (test q) (times ys q) 0
times-filter test [] q = by (test q)
  where
    by : (b : Bool) → ◌≡◌ {A = ℕ} 0 (cond b 0 0)
    by true = refl
    by false = refl
times-filter test (y ∷ ys) q = by (times-filter test ys q) (test y) refl (same y q) refl
  where
    kept : List Name
    kept = filter test ys

    here : times (y ∷ ys) q ≡ cond (same y q) 1 0 + times ys q
    here = times-cons y ys q

    by : times kept q ≡ cond (test q) (times ys q) 0 → (b : Bool) → test y ≡ b → (s : Bool) → same y q ≡ s → times (filter test (y ∷ ys)) q ≡ cond (test q) (times (y ∷ ys) q) 0
    by rest true e true s =
        let t : test q ≡ true = ap test (sym (same_true y q s)) ∙ e in
        let a : times (filter test (y ∷ ys)) q ≡ cond (same y q) 1 0 + times kept q = ap (λ b. times (cond b (y ∷ kept) kept) q) e ∙ times-cons y kept q in
        let k : times kept q ≡ times ys q = rest ∙ ap (λ b. cond b (times ys q) 0) t in
        let z : times (filter test (y ∷ ys)) q ≡ times (y ∷ ys) q = omega (arith, a, k, here) in
        z ∙ sym (ap (λ b. cond b (times (y ∷ ys) q) 0) t)
    by rest true e false s =
        let a : times (filter test (y ∷ ys)) q ≡ 0 + times kept q = ap (λ b. times (cond b (y ∷ kept) kept) q) e ∙ times-cons y kept q ∙ ap (λ b. cond b 1 0 + times kept q) s in
        let n : times ys q ≡ times (y ∷ ys) q = (let h : times (y ∷ ys) q ≡ 0 + times ys q = here ∙ ap (λ b. cond b 1 0 + times ys q) s in omega (arith, h)) in
        let z : times (filter test (y ∷ ys)) q ≡ times kept q = omega (arith, a) in
        z ∙ rest ∙ ap (λ n. cond (test q) n 0) n
    by rest false e true s =
        let t : test q ≡ false = ap test (sym (same_true y q s)) ∙ e in
        ap (λ b. times (cond b (y ∷ kept) kept) q) e ∙ rest ∙ ap (λ b. cond b (times ys q) 0) t ∙ sym (ap (λ b. cond b (times (y ∷ ys) q) 0) t)
    by rest false e false s =
        let n : times ys q ≡ times (y ∷ ys) q = (let h : times (y ∷ ys) q ≡ 0 + times ys q = here ∙ ap (λ b. cond b 1 0 + times ys q) s in omega (arith, h)) in
        ap (λ b. times (cond b (y ∷ kept) kept) q) e ∙ rest ∙ ap (λ n. cond (test q) n 0) n

-- what is left of names was among them
pub still_among : (test : Name → Bool) (ys : List Name) (q : Name) → 0 < times (filter test ys) q → 0 < times ys q
still_among test ys q some = by (test q) refl
  where
    by : (b : Bool) → test q ≡ b → 0 < times ys q
    by true e = let a : times (filter test ys) q ≡ times ys q = times-filter test ys q ∙ ap (λ b. cond b (times ys q) 0) e in omega (arith, a, some)
    by false e = absurd (let a : times (filter test ys) q ≡ 0 = times-filter test ys q ∙ ap (λ b. cond b (times ys q) 0) e in omega (arith, a, some))

no_longer : (test : Name → Bool) (ys : List Name) → length (filter test ys) ≤ length ys
no_longer test [] = omega arith
no_longer test (y ∷ ys) = by (no_longer test ys) (test y) refl
  where
    by : length (filter test ys) ≤ length ys → (b : Bool) → test y ≡ b → length (filter test (y ∷ ys)) ≤ length (y ∷ ys)
    by rest true e = let a : length (filter test (y ∷ ys)) ≡ suc (length (filter test ys)) = ap (λ b. length (cond b (y ∷ filter test ys) (filter test ys))) e in omega (arith, a, rest)
    by rest false e = let a : length (filter test (y ∷ ys)) ≡ length (filter test ys) = ap (λ b. length (cond b (y ∷ filter test ys) (filter test ys))) e in omega (arith, a, rest)

-- to leave one name out, and then the others
two_filters : (x : Name) (xs ys : List Name) → filter (λ q. not (is_among (x ∷ xs) q)) ys ≡ filter (λ q. not (is_among xs q)) (filter (λ q. not (same q x)) ys)
two_filters x xs [] = refl
two_filters x xs (y ∷ ys) = by (two_filters x xs ys) (same x y) refl
  where
    all : List Name
    all = filter (λ q. not (is_among (x ∷ xs) q)) ys

    kept : List Name
    kept = filter (λ q. not (same q x)) ys

    rest_of : List Name → List Name
    rest_of ns = filter (λ q. not (is_among xs q)) ns

    by : all ≡ rest_of kept → (b : Bool) → same x y ≡ b → filter (λ q. not (is_among (x ∷ xs) q)) (y ∷ ys) ≡ rest_of (filter (λ q. not (same q x)) (y ∷ ys))
    by rest true e =
        let a : filter (λ q. not (is_among (x ∷ xs) q)) (y ∷ ys) ≡ all = ap (λ b. cond (not (b || is_among xs y)) (y ∷ all) all) e in
        let c : rest_of (filter (λ q. not (same q x)) (y ∷ ys)) ≡ rest_of kept = ap (λ b. rest_of (cond (not b) (y ∷ kept) kept)) (same_turned y x ∙ e) in
        a ∙ rest ∙ sym c
    by rest false e =
        let a : filter (λ q. not (is_among (x ∷ xs) q)) (y ∷ ys) ≡ cond (not (is_among xs y)) (y ∷ all) all = ap (λ b. cond (not (b || is_among xs y)) (y ∷ all) all) e in
        let c : rest_of (filter (λ q. not (same q x)) (y ∷ ys)) ≡ cond (not (is_among xs y)) (y ∷ rest_of kept) (rest_of kept) = ap (λ b. rest_of (cond (not b) (y ∷ kept) kept)) (same_turned y x ∙ e) in
        a ∙ ap (λ (zs : List Name). cond (not (is_among xs y)) (y ∷ zs) zs) rest ∙ sym c

-- names that are among others, each once, leave as many fewer of these
pub length-without : (xs ys : List Name) → ((q : Name) → times xs q ≤ 1) → ((q : Name) → times xs q ≤ times ys q) → length (filter (λ q. not (is_among xs q)) ys) + length xs ≤ length ys
length-without [] ys once sub = let a = no_longer (λ q. not (is_among [] q)) ys in omega (arith, a)
length-without (x ∷ xs) ys once sub =
    let first : times (x ∷ xs) x ≡ 1 + times xs x = times-cons x xs x ∙ ap (λ b. cond b 1 0 + times xs x) (same_self x) in
    let rest = length-without xs (filter (λ q. not (same q x)) ys) (λ q. omega (arith, once q, times-cons x xs q)) (λ q. by q first (same x q) refl) in
    let a : length (filter (λ q. not (is_among (x ∷ xs) q)) ys) ≡ length (filter (λ q. not (is_among xs q)) (filter (λ q. not (same q x)) ys)) = ap length (two_filters x xs ys) in
    omega (arith, rest, a, length-left_out ys x, sub x, first)
  where
    by : (q : Name) → times (x ∷ xs) x ≡ 1 + times xs x → (b : Bool) → same x q ≡ b → times xs q ≤ times (filter (λ n. not (same n x)) ys) q
    by q first true e =
        let z : times xs q ≡ times xs x = ap (times xs) (sym (same_true x q e)) in
        omega (arith, z, first, once x)
    by q first false e =
        let z : times (filter (λ n. not (same n x)) ys) q + 0 ≡ times ys q = ap (λ b. times (filter (λ n. not (same n x)) ys) q + cond b (times ys x) 0) (sym e) ∙ left_out ys x q in
        omega (arith, z, sub q, times-cons x xs q)

pub times-without : (xs ys : List Name) (q : Name) → ((q : Name) → times xs q ≤ 1) → ((q : Name) → times xs q ≤ times ys q) → times ys q ≤ 1 → times (filter (λ n. not (is_among xs n)) ys) q + times xs q ≡ times ys q
times-without xs ys q once sub low = by (is_among xs q) refl
  where
    by : (b : Bool) → is_among xs q ≡ b → times (filter (λ n. not (is_among xs n)) ys) q + times xs q ≡ times ys q
    by true e =
        let a : times (filter (λ n. not (is_among xs n)) ys) q ≡ 0 = times-filter (λ n. not (is_among xs n)) ys q ∙ ap (λ b. cond (not b) (times ys q) 0) e in
        omega (arith, a, among_times xs q e, sub q, low)
    by false e =
        let a : times (filter (λ n. not (is_among xs n)) ys) q ≡ times ys q = times-filter (λ n. not (is_among xs n)) ys q ∙ ap (λ b. cond (not b) (times ys q) 0) e in
        omega (arith, a, not_among_times xs q e)

-- ---- parts that are wanted
own_kept : (w : JobPart → Bool) (ps : List JobPart) (q : Name) → times (own_names (filter w ps)) q ≤ times (own_names ps) q
own_kept w [] q = omega arith
own_kept w (p ∷ ps) q = by (own_kept w ps q) (w p) refl
  where
    by : times (own_names (filter w ps)) q ≤ times (own_names ps) q → (b : Bool) → w p ≡ b → times (own_names (filter w (p ∷ ps))) q ≤ times (own_names (p ∷ ps)) q
    by rest true e =
        let a : times (own_names (filter w (p ∷ ps))) q ≡ cond (same p.own q) 1 0 + times (own_names (filter w ps)) q = ap (λ b. times (own_names (cond b (p ∷ filter w ps) (filter w ps))) q) e ∙ times-cons p.own (own_names (filter w ps)) q in
        omega (arith, a, rest, times-cons p.own (own_names ps) q)
    by rest false e =
        let a : times (own_names (filter w (p ∷ ps))) q ≡ times (own_names (filter w ps)) q = ap (λ b. times (own_names (cond b (p ∷ filter w ps) (filter w ps))) q) e in
        omega (arith, a, rest, times-cons p.own (own_names ps) q)

own_wanted : (w : JobPart → Bool) (missing : List Name) → ((p : JobPart) → w p ≡ true → is_among missing p.own ≡ true) → (ps : List JobPart) (q : Name) → 0 < times (own_names (filter w ps)) q → is_among missing q ≡ true
own_wanted w missing wants [] q some = absurd (omega (arith, some))
own_wanted w missing wants (p ∷ ps) q some = by (own_wanted w missing wants ps q) (w p) refl (same p.own q) refl
  where
    by : (0 < times (own_names (filter w ps)) q → is_among missing q ≡ true) → (b : Bool) → w p ≡ b → (s : Bool) → same p.own q ≡ s → is_among missing q ≡ true
    by rest true e true s = ap (is_among missing) (sym (same_true p.own q s)) ∙ wants p e
    by rest true e false s =
        let a : times (own_names (filter w (p ∷ ps))) q ≡ 0 + times (own_names (filter w ps)) q = ap (λ b. times (own_names (cond b (p ∷ filter w ps) (filter w ps))) q) e ∙ times-cons p.own (own_names (filter w ps)) q ∙ ap (λ b. cond b 1 0 + times (own_names (filter w ps)) q) s in
        rest (omega (arith, some, a))
    by rest false e t s =
        let a : times (own_names (filter w (p ∷ ps))) q ≡ times (own_names (filter w ps)) q = ap (λ b. times (own_names (cond b (p ∷ filter w ps) (filter w ps))) q) e in
        rest (omega (arith, some, a))

-- the wanted ones are among the missing ones
module _ (missing : List Name) (had wanted : List (Name × FileMetaData)) where
  abbrev w : JobPart → Bool
  w = is_still_wanted missing had wanted

  wants : (p : JobPart) → w p ≡ true → is_among missing p.own ≡ true
  wants p e = (and_parts (is_among missing p.own) (is_same_meta (meta_in had p.own) (meta_in wanted p.own)) e).0

  pub among_missing : (ps : List JobPart) → ((q : Name) → times (own_names ps) q ≤ 1) → (q : Name) → times (own_names (filter w ps)) q ≤ times missing q
  among_missing ps once q = by (times (own_names (filter w ps)) q) refl
    where
      by : (n : ℕ) → times (own_names (filter w ps)) q ≡ n → times (own_names (filter w ps)) q ≤ times missing q
      by zero e = omega (arith, e)
      by (suc n) e = let some = among_times missing q (own_wanted w missing wants ps q (omega (arith, e))) in omega (arith, some, once q, own_kept w ps q)

  pub among_wanted : (ps : List JobPart) (q : Name) → 0 < times (own_names (filter w ps)) q → 0 < times missing q
  among_wanted ps q some = among_times missing q (own_wanted w missing wants ps q some)

  pub once_kept : (ps : List JobPart) → ((q : Name) → times (own_names ps) q ≤ 1) → (q : Name) → times (own_names (filter w ps)) q ≤ 1
  once_kept ps once q = omega (arith, once q, own_kept w ps q)

  length-own_names : (ps : List JobPart) → length (own_names ps) ≡ length ps
  length-own_names [] = refl
  length-own_names (p ∷ ps) = ap suc (length-own_names ps)

  pub few_wanted : (ps : List JobPart) → ((q : Name) → times (own_names ps) q ≤ 1) → length (filter (λ q. not (is_among (own_names (filter w ps)) q)) missing) + length (filter w ps) ≤ length missing
  few_wanted ps once = omega (arith, length-without (own_names (filter w ps)) missing (once_kept ps once) (among_missing ps once), length-own_names (filter w ps))

  -- ---- one part after the other
  -- the first parts were taken over, or their names are to be given back
  pub record Took (ps : List JobPart) (start front : List Name) (parts : List JobPart) (names others : List Name) (kept : ℕ) : Type 0 where
    pub parts_are : parts ≡ filter w ps
    pub names_are : names ≡ start ++ present_names parts
    pub others_are : take kept others ≡ front ++ present_names (filter (λ p. not (w p)) ps)
    pub kept_is : kept + length parts ≡ length front + length ps

  pub took_none : (start front others : List Name) (parts : List JobPart) (kept : ℕ) → parts ≡ [] → take kept others ≡ front → kept ≡ length front → Took [] start front parts start others kept
  took_none start front others parts kept none is long = record {
    parts_are = none;
    names_are = sym (append-nil start) ∙ ap (λ (ps : List JobPart). start ++ present_names ps) (sym none);
    others_are = is ∙ sym (append-nil front);
    kept_is = (let e : length parts ≡ 0 = ap length none in omega (arith, e, long));
  }

  took_next : (ps : List JobPart) (p : JobPart) (start front : List Name) (parts now : List JobPart) (names new others rest : List Name) (kept next : ℕ) (b : Bool) → w p ≡ b → kept < length others
      → Took ps start front parts names others kept → PartGoes b p parts now names new others rest kept next → Took (ps ++ p ∷ []) start front now new rest next
  took_next ps p start front parts now names new others rest kept next true e lt was goes = record {
    parts_are = goes.0 ∙ ap (λ (xs : List JobPart). xs ++ p ∷ []) was.parts_are ∙ sym (filter-append w ps (p ∷ []) ∙ ap (λ b. filter w ps ++ cond b (p ∷ []) []) e);
    names_are = goes.1 ∙ ap (λ (xs : List Name). xs ++ p.now ∷ []) was.names_are ∙ append_assoc start (present_names parts) (p.now ∷ [])
        ∙ ap (λ (xs : List Name). start ++ xs) (sym (present_names-append parts (p ∷ [])) ∙ ap present_names (sym goes.0));
    others_are = (let a : take next rest ≡ take kept others = ap (λ k. take k rest) goes.3 ∙ ap (take kept) goes.2 in
        a ∙ was.others_are ∙ ap (λ (xs : List JobPart). front ++ present_names xs) (sym (filter-append (λ x. not (w x)) ps (p ∷ []) ∙ ap (λ b. filter (λ x. not (w x)) ps ++ cond (not b) (p ∷ []) []) e ∙ append-nil (filter (λ x. not (w x)) ps))));
    kept_is = omega (arith, goes.3, ap length goes.0, was.kept_is, length-append parts (p ∷ []), length-append ps (p ∷ []));
  }
  took_next ps p start front parts now names new others rest kept next false e lt was goes = record {
    parts_are = goes.0 ∙ was.parts_are ∙ sym (filter-append w ps (p ∷ []) ∙ ap (λ b. filter w ps ++ cond b (p ∷ []) []) e ∙ append-nil (filter w ps));
    names_are = goes.1 ∙ was.names_are ∙ ap (λ (xs : List JobPart). start ++ present_names xs) (sym goes.0);
    others_are = (let a : take next rest ≡ take kept others ++ p.now ∷ [] = ap (λ k. take k rest) goes.3 ∙ ap (take (kept + 1)) goes.2 ∙ take_more_set others kept p.now lt in
        let f : filter (λ x. not (w x)) (ps ++ p ∷ []) ≡ filter (λ x. not (w x)) ps ++ p ∷ [] = filter-append (λ x. not (w x)) ps (p ∷ []) ∙ ap (λ b. filter (λ x. not (w x)) ps ++ cond (not b) (p ∷ []) []) e in
        a ∙ ap (λ (xs : List Name). xs ++ p.now ∷ []) was.others_are ∙ append_assoc front (present_names (filter (λ x. not (w x)) ps)) (p.now ∷ [])
        ∙ ap (λ (xs : List Name). front ++ xs) (sym (present_names-append (filter (λ x. not (w x)) ps) (p ∷ [])) ∙ ap present_names (sym f)));
    kept_is = omega (arith, goes.3, ap length goes.0, was.kept_is, length-append ps (p ∷ []));
  }

  module _ (older : List JobPart) (i : ℕ) (p : JobPart) (lt : i < length older) (is : p ≡ get_or older i p) where
    pub so_far : take i older ++ p ∷ [] ≡ take (i + 1) older
    so_far = ap (λ (x : JobPart). take i older ++ x ∷ []) is ∙ sym (take_more older i p lt)

    once_so_far : ((q : Name) → times (own_names older) q ≤ 1) → (q : Name) → times (own_names (take i older ++ p ∷ [])) q ≤ 1
    once_so_far once q =
        let a : times (own_names (take i older ++ p ∷ [])) q ≡ times (own_names (take (i + 1) older)) q = ap (λ (xs : List JobPart). times (own_names xs) q) so_far in
        let b : times (own_names older) q ≡ times (own_names (take (i + 1) older) ++ own_names (drop (i + 1) older)) q =
        ap (λ (xs : List JobPart). times (own_names xs) q) (sym (take-append-drop (i + 1) older)) ∙ ap (λ (ns : List Name). times ns q) (own_names-append (take (i + 1) older) (drop (i + 1) older)) in
        omega (arith, a, b, times-append (own_names (take (i + 1) older)) (own_names (drop (i + 1) older)) q, once q)

    -- there is room for one part more
    pub room_next : ((q : Name) → times (own_names older) q ≤ 1) → (parts : List JobPart) → parts ≡ filter w (take i older) → (b : Bool) → b ≡ w p → b ≡ true → length parts < length missing
    room_next once parts parts_are b b_is yes_is =
        let all : length (filter w (take i older ++ p ∷ [])) ≡ length (filter w (take i older)) + 1 =
        ap length (filter-append w (take i older) (p ∷ []) ∙ ap (λ b. filter w (take i older) ++ cond b (p ∷ []) []) (sym b_is ∙ yes_is)) ∙ length-append (filter w (take i older)) (p ∷ []) in
        omega (arith, all, ap length parts_are, few_wanted (take i older ++ p ∷ []) (once_so_far once))

    pub took_more : (start front : List Name) (parts now : List JobPart) (names new others rest : List Name) (kept next : ℕ) (b : Bool) → b ≡ w p → kept < length others
        → Took (take i older) start front parts names others kept → PartGoes b p parts now names new others rest kept next → Took (take (i + 1) older) start front now new rest next
    took_more start front parts now names new others rest kept next b b_is below was goes =
        subst (λ (ps : List JobPart). Took ps start front now new rest next) so_far (took_next (take i older) p start front parts now names new others rest kept next b (sym b_is) below was goes)

-- ---- what callers ask of the parts that were taken over
-- a part of those that pass was one before, and passes
pub part_kept : (w : JobPart → Bool) (ps : List JobPart) (i : ℕ) (x : JobPart) → part_at (filter w ps) i ≡ Some x → (place : ℕ) × (part_at ps place ≡ Some x) × (w x ≡ true)
part_kept w [] i x at = absurd (cc)
part_kept w (p ∷ ps) i x at = by (λ k here. part_kept w ps k x here) (w p) refl i at
  where
    behind : (place : ℕ) × (part_at ps place ≡ Some x) × (w x ≡ true) → (place : ℕ) × (part_at (p ∷ ps) place ≡ Some x) × (w x ≡ true)
    behind h = (suc h.0, h.1, h.2)

    by : ((k : ℕ) → part_at (filter w ps) k ≡ Some x → (place : ℕ) × (part_at ps place ≡ Some x) × (w x ≡ true)) → (b : Bool) → w p ≡ b → (i : ℕ) → part_at (cond b (p ∷ filter w ps) (filter w ps)) i ≡ Some x
        → (place : ℕ) × (part_at (p ∷ ps) place ≡ Some x) × (w x ≡ true)
    by rest true e zero here = (0, here, (let f : p ≡ x = cc in ap w (sym f) ∙ e))
    by rest true e (suc k) here = behind (rest k here)
    by rest false e k here = behind (rest k here)

pub present_kept : (w : JobPart → Bool) (ps : List JobPart) (q : Name) → times (present_names (filter w ps)) q ≤ times (present_names ps) q
present_kept w [] q = omega arith
present_kept w (p ∷ ps) q = by (present_kept w ps q) (w p) refl
  where
    by : times (present_names (filter w ps)) q ≤ times (present_names ps) q → (b : Bool) → w p ≡ b → times (present_names (filter w (p ∷ ps))) q ≤ times (present_names (p ∷ ps)) q
    by rest true e =
        let a : times (present_names (filter w (p ∷ ps))) q ≡ cond (same p.now q) 1 0 + times (present_names (filter w ps)) q = ap (λ b. times (present_names (cond b (p ∷ filter w ps) (filter w ps))) q) e ∙ times-cons p.now (present_names (filter w ps)) q in
        omega (arith, a, rest, times-cons p.now (present_names ps) q)
    by rest false e =
        let a : times (present_names (filter w (p ∷ ps))) q ≡ times (present_names (filter w ps)) q = ap (λ b. times (present_names (cond b (p ∷ filter w ps) (filter w ps))) q) e in
        omega (arith, a, rest, times-cons p.now (present_names ps) q)

-- the present names of all parts are those of the parts that pass, and of those that do not
pub present_both : (w : JobPart → Bool) (ps : List JobPart) (q : Name) → times (present_names (filter w ps)) q + times (present_names (filter (λ p. not (w p)) ps)) q ≡ times (present_names ps) q
present_both w [] q = refl
present_both w (p ∷ ps) q = by (present_both w ps q) (w p) refl
  where
    yes_of : List JobPart
    yes_of = filter w ps

    no_of : List JobPart
    no_of = filter (λ x. not (w x)) ps

    by : times (present_names yes_of) q + times (present_names no_of) q ≡ times (present_names ps) q → (b : Bool) → w p ≡ b
        → times (present_names (filter w (p ∷ ps))) q + times (present_names (filter (λ x. not (w x)) (p ∷ ps))) q ≡ times (present_names (p ∷ ps)) q
    by rest true e =
        let a : times (present_names (filter w (p ∷ ps))) q ≡ cond (same p.now q) 1 0 + times (present_names yes_of) q = ap (λ b. times (present_names (cond b (p ∷ yes_of) yes_of)) q) e ∙ times-cons p.now (present_names yes_of) q in
        let c : times (present_names (filter (λ x. not (w x)) (p ∷ ps))) q ≡ times (present_names no_of) q = ap (λ b. times (present_names (cond (not b) (p ∷ no_of) no_of)) q) e in
        omega (arith, a, c, rest, times-cons p.now (present_names ps) q)
    by rest false e =
        let a : times (present_names (filter w (p ∷ ps))) q ≡ times (present_names yes_of) q = ap (λ b. times (present_names (cond b (p ∷ yes_of) yes_of)) q) e in
        let c : times (present_names (filter (λ x. not (w x)) (p ∷ ps))) q ≡ cond (same p.now q) 1 0 + times (present_names no_of) q = ap (λ b. times (present_names (cond (not b) (p ∷ no_of) no_of)) q) e ∙ times-cons p.now (present_names no_of) q in
        omega (arith, a, c, rest, times-cons p.now (present_names ps) q)

-- a part's file stands under the part's present name
pub present_at : (ps : List JobPart) (i : ℕ) (x : JobPart) → part_at ps i ≡ Some x → times (own_names ps) x.own ≤ 1 → present_of ps x.own ≡ x.now
present_at [] i x at once = absurd (cc)
present_at (p ∷ ps) zero x at once = let e : p ≡ x = cc in ap (λ b. cond b p.now (present_of ps x.own)) (ap (λ (y : JobPart). same y.own x.own) e ∙ same_self x.own) ∙ ap (λ (y : JobPart). y.now) e
present_at (p ∷ ps) (suc i) x at once = by (λ low. present_at ps i x at low) (same p.own x.own) refl
  where
    there : (qs : List JobPart) (k : ℕ) → part_at qs k ≡ Some x → 0 < times (own_names qs) x.own
    there [] k here = absurd (cc)
    there (y ∷ ys) zero here =
        let e : y ≡ x = cc in
        let one : cond (same y.own x.own) 1 0 ≡ 1 = ap (λ (b : Bool). let n : ℕ = cond b 1 0 in n) (ap (λ (z : JobPart). same z.own x.own) e ∙ same_self x.own) in
        omega (arith, one, times-cons y.own (own_names ys) x.own)
    there (y ∷ ys) (suc k) here = omega (arith, there ys k here, times-cons y.own (own_names ys) x.own)

    by : (times (own_names ps) x.own ≤ 1 → present_of ps x.own ≡ x.now) → (b : Bool) → same p.own x.own ≡ b → present_of (p ∷ ps) x.own ≡ x.now
    by rest true e =
        let one : cond (same p.own x.own) 1 0 ≡ 1 = ap (λ (b : Bool). let n : ℕ = cond b 1 0 in n) e in
        absurd (omega (arith, one, once, times-cons p.own (own_names ps) x.own, there ps i at))
    by rest false e =
        let none : cond (same p.own x.own) 1 0 ≡ 0 = ap (λ (b : Bool). let n : ℕ = cond b 1 0 in n) e in
        ap (λ b. cond b p.now (present_of ps x.own)) e ∙ rest (omega (arith, none, once, times-cons p.own (own_names ps) x.own))

-- where two lists have the same metadata of a file, what the one has the other has
pub same_listed : (a b : Option FileMetaData) (m : FileMetaData) → is_same_meta a b ≡ true → b ≡ Some m → a ≡ Some m
same_listed None b m e is = absurd (true≢false (sym e))
same_listed (Some x) None m e is = absurd (true≢false (sym e))
same_listed (Some x) (Some y) m e is = ap (λ (z : FileMetaData). Some z) (one_meta x y e) ∙ is

-- a part that is still wanted is of a missing file, and has the metadata that is wanted
pub wanted_missing : (missing : List Name) (had wanted : List (Name × FileMetaData)) (p : JobPart) → is_still_wanted missing had wanted p ≡ true → 0 < times missing p.own
wanted_missing missing had wanted p e = among_times missing p.own (and_parts (is_among missing p.own) (is_same_meta (meta_in had p.own) (meta_in wanted p.own)) e).0

pub wanted_same : (missing : List Name) (had wanted : List (Name × FileMetaData)) (p : JobPart) → is_still_wanted missing had wanted p ≡ true → is_same_meta (meta_in had p.own) (meta_in wanted p.own) ≡ true
wanted_same missing had wanted p e = (and_parts (is_among missing p.own) (is_same_meta (meta_in had p.own) (meta_in wanted p.own)) e).1

-- ---- the job that took parts over
pub own_once : (k : Job) → IsJob k → (q : Name) → times (own_names k.parts) q ≤ 1
own_once k h q = let low : times (meta_names k.want.files) q ≤ 1 = once_name (meta_names k.want.files) q h.state.files.ascending in omega (arith, low, h.each q)

module _ (j old : Job) (job : IsJob j) (was : IsJob old) (none : j.parts ≡ []) where
  pub taken_is : IsJob (taken_over j old)
  taken_is = record {
    state = job.state;
    each = λ q.
        let zero_parts : times (own_names j.parts) q ≡ 0 = ap (λ (ps : List JobPart). times (own_names ps) q) none in
        let wanted_once : times (meta_names j.want.files) q ≤ 1 = once_name (meta_names j.want.files) q job.state.files.ascending in
        let low : times j.missing q ≤ 1 = omega (arith, job.each q, wanted_once) in
        let rest = times-without (own_names (taken_parts j old)) j.missing q (once_kept j.missing old.want.files j.want.files old.parts (own_once old was)) (among_missing j.missing old.want.files j.want.files old.parts (own_once old was)) low in
        omega (arith, job.each q, zero_parts, rest);
    lacking = IsStrictlySortedBy-filter (slice_cmp nat_cmp) (λ q. not (is_among (own_names (taken_parts j old)) q)) j.missing job.lacking;
    ascending = sorted_kept (is_taken j old) old.parts was.ascending;
  }

  pub taken_room : length (taken_over j old).missing + length (taken_parts j old) ≤ length j.missing
  taken_room = few_wanted j.missing old.want.files j.want.files old.parts (own_once old was)

-- what the code has taken is what is said
pub taken_as : (j old : Job) (missing : List Name) (had wanted : List (Name × FileMetaData)) (parts : List JobPart) → missing ≡ j.missing → had ≡ old.want.files → wanted ≡ j.want.files → parts ≡ old.parts
    → filter (is_still_wanted missing had wanted) parts ≡ taken_parts j old
taken_as j old missing had wanted parts a b c d = λ i. filter (is_still_wanted (a i) (b i) (c i)) (d i)

pub left_as : (j old : Job) (missing : List Name) (had wanted : List (Name × FileMetaData)) (parts : List JobPart) → missing ≡ j.missing → had ≡ old.want.files → wanted ≡ j.want.files → parts ≡ old.parts
    → filter (λ p. not (is_still_wanted missing had wanted p)) parts ≡ filter (λ p. not (is_taken j old p)) old.parts
left_as j old missing had wanted parts a b c d = λ i. filter (λ p. not (is_still_wanted (a i) (b i) (c i) p)) (d i)

pub missing_as : (j old : Job) (names new : List Name) (parts slice : List JobPart) → new ≡ filter (λ q. not (is_among (own_names slice) q)) names → names ≡ j.missing → slice ≡ parts → parts ≡ taken_parts j old → new ≡ (taken_over j old).missing
missing_as j old names new parts slice is names_are slice_is parts_are =
    is ∙ ap (filter (λ q. not (is_among (own_names slice) q))) names_are ∙ ap (λ (ps : List JobPart). filter (λ q. not (is_among (own_names ps) q)) j.missing) (slice_is ∙ parts_are)

pub job_as : (j old now : Job) (missing : List Name) (parts : List JobPart) → j ≡ now → missing ≡ (taken_over j old).missing → parts ≡ taken_parts j old → (older : Job) → old ≡ older → record j { missing = missing; parts = parts } ≡ taken_over now older
job_as j old now missing parts now_is m p older older_is = (λ i. record j { missing = m i; parts = p i }) ∙ (λ i. taken_over (now_is i) (older_is i))

pub is_as : (j old : Job) (missing : List Name) (parts : List JobPart) → missing ≡ (taken_over j old).missing → parts ≡ taken_parts j old → IsJob (taken_over j old) → IsJob (record j { missing = missing; parts = parts })
is_as j old missing parts m p = subst IsJob (sym (λ i. record j { missing = m i; parts = p i }))

-- ---- what is given back
take_front : (front xs : List Name) (n : ℕ) → n ≡ length front → take n (front ++ xs) ≡ front
take_front [] xs zero e = refl
take_front [] xs (suc n) e = absurd (omega (arith, e))
take_front (x ∷ front) xs zero e = absurd (omega (arith, e))
take_front (x ∷ front) xs (suc n) e = ap (λ (ns : List Name). x ∷ ns) (take_front front xs n (omega (arith, e)))

pub front_of : (names reused : List Name) (parts slice : List JobPart) → names ≡ reused ++ present_names parts → slice ≡ parts → take (length names - length slice) names ≡ reused
front_of names reused parts slice e slice_is =
    let long : length names - length slice ≡ length reused = omega (arith, ap length e, length-append reused (present_names parts), length-present_names parts, ap length slice_is) in
    ap (λ k. take k names) long ∙ ap (take (length reused)) e ∙ take_front reused (present_names parts) (length reused) refl

pub given_back : (j old : Job) (list front : List Name) (left : List JobPart) → list ≡ front ++ present_names left → front ≡ old.reused → left ≡ filter (λ p. not (is_taken j old p)) old.parts
    → (q : Name) → times list q + times (present_names (taken_parts j old)) q ≡ times (job_names old) q
given_back j old list front left is front_is left_is q =
    let a : times list q ≡ times (old.reused ++ present_names (filter (λ p. not (is_taken j old p)) old.parts)) q = ap (λ (ns : List Name). times ns q) is ∙ (λ i. times (front_is i ++ present_names (left_is i)) q) in
    omega (arith, a, times-append old.reused (present_names (filter (λ p. not (is_taken j old p)) old.parts)) q, times-append (present_names old.parts) old.reused q, present_both (is_taken j old) old.parts q)

pub back_counted : (j old : Job) (list : List Name) (files : Holdings) → ((q : Name) → times list q + times (present_names (taken_parts j old)) q ≡ times (job_names old) q) → AreCounted (job_names j ++ job_names old) files → AreCounted list files
back_counted j old list files split counted = record { each = λ q. omega (arith, split q, counted.each q, times-append (job_names j) (job_names old) q) }

pub moves_taken : (j old now : Job) (list : List Name) (files new : Holdings) (a b : Cells) → j.parts ≡ [] → now ≡ taken_over j old → ((q : Name) → times list q + times (present_names (taken_parts j old)) q ≡ times (job_names old) q)
    → LetsGo list files new a b → MovesCounts [] (job_names j ++ job_names old) (job_names now) files new a b
moves_taken j old now list files new a b none is split lets_go = record {
  balance = λ q.
      let zero_parts : times (present_names j.parts) q ≡ 0 = ap (λ (ps : List JobPart). times (present_names ps) q) none in
      let e : times (job_names now) q ≡ times (job_names (taken_over j old)) q = ap (λ (k : Job). times (job_names k) q) is in
      omega (arith, e, zero_parts, lets_go.counts q, split q, times-append (job_names j) (job_names old) q, times-append (present_names j.parts) j.reused q, times-append (present_names (taken_parts j old)) j.reused q);
  keeps = lets_go.keeps;
}
