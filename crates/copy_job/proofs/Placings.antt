-- Parts that are given their own names.
use Rattle.std.proofs.Common.{◌≡◌, ◌≢◌, ◌⊎◌, ℕ, zero, suc, ◌+◌, ◌<◌, ◌≤◌, ◌||◌, Bool, true, false, List, [], ◌∷◌, length, Option, Some, refl, sym, ap, subst, ◌∙◌, arith, cond, inl, inr, true≢false}
use Rattle.std.specs.Prelude.{slice_set}
use Rattle.std.proofs.lemmas.Bool.{cases_eq}
use Rattle.disk_model.specs.Disk.{Name, Cells, same, is_among}
use Rattle.disk_model.proofs.CellLemmas.{same_true, same_apart}
use Rattle.file_deleter.specs.Holdings.{Holdings, count_of, times}
use Rattle.file_deleter.specs.Moves.{KeepsFiles}
use Rattle.file_deleter.proofs.NameLemmas.{unlike, times-cons, times_one, not_among_times, same_self, times_apart}
use Rattle.file_deleter.proofs.Keeping.{keeps_refl, renamed_once, keeps_within}
use Rattle.copy_job.specs.declared.part.JobPart.{JobPart}
use Rattle.copy_job.specs.Parts.{placed, part_at, present_names, own_names, written_names, IsPlaceable, ArePlaceable, placed_to}
use Rattle.copy_job.specs.Placing.{PlacesOne, PlacesNone, Places}

-- ---- lists of parts
at_set_same : (ps : List JobPart) (i : ℕ) (x p : JobPart) → part_at ps i ≡ Some p → part_at (slice_set ps i x) i ≡ Some x
at_set_same [] i x p h = cc
at_set_same (y ∷ ps) zero x p h = refl
at_set_same (y ∷ ps) (suc i) x p h = at_set_same ps i x p h

at_set_other : (ps : List JobPart) (i k : ℕ) (x : JobPart) → k ≢ i → part_at (slice_set ps i x) k ≡ part_at ps k
at_set_other [] i k x apart = refl
at_set_other (y ∷ ps) zero zero x apart = absurd (apart refl)
at_set_other (y ∷ ps) zero (suc k) x apart = refl
at_set_other (y ∷ ps) (suc i) zero x apart = refl
at_set_other (y ∷ ps) (suc i) (suc k) x apart = at_set_other ps i k x (λ e. apart (ap suc e))

own_set : (ps : List JobPart) (i : ℕ) (p : JobPart) → part_at ps i ≡ Some p → own_names (slice_set ps i (placed p)) ≡ own_names ps
own_set [] i p h = refl
own_set (y ∷ ps) zero p h = let e : y ≡ p = cc in ap (λ (x : JobPart). x.own ∷ own_names ps) (sym e)
own_set (y ∷ ps) (suc i) p h = ap (λ (ns : List Name). y.own ∷ ns) (own_set ps i p h)

present_set : (ps : List JobPart) (i : ℕ) (p : JobPart) (q : Name) → part_at ps i ≡ Some p
    → times (present_names (slice_set ps i (placed p))) q + times (p.now ∷ []) q ≡ times (present_names ps) q + times (p.own ∷ []) q
present_set [] i p q h = cc
present_set (y ∷ ps) zero p q h =
    let e : y ≡ p = cc in
    let f : times (y.now ∷ present_names ps) q ≡ times (p.now ∷ present_names ps) q = ap (λ (x : JobPart). times (x.now ∷ present_names ps) q) e in
    omega (arith, f, times-cons p.own (present_names ps) q, times-cons p.now (present_names ps) q, times_one p.own q, times_one p.now q)
present_set (y ∷ ps) (suc i) p q h = omega (arith, times-cons y.now (present_names (slice_set ps i (placed p))) q, times-cons y.now (present_names ps) q, present_set ps i p q h)

pub present_some : (ps : List JobPart) (i : ℕ) (p : JobPart) → part_at ps i ≡ Some p → 1 ≤ times (present_names ps) p.now
present_some [] i p h = cc
present_some (y ∷ ps) zero p h =
    let e : y ≡ p = cc in
    let f : times (present_names (y ∷ ps)) p.now ≡ 1 + times (present_names ps) p.now = times-cons y.now (present_names ps) p.now ∙ ap (λ b. cond b 1 0 + times (present_names ps) p.now) (ap (λ (x : JobPart). same x.now p.now) e ∙ same_self p.now) in
    omega (arith, f)
present_some (y ∷ ps) (suc i) p h = omega (arith, times-cons y.now (present_names ps) p.now, present_some ps i p h)

own_some : (ps : List JobPart) (i : ℕ) (p : JobPart) → part_at ps i ≡ Some p → 1 ≤ times (own_names ps) p.own
own_some [] i p h = cc
own_some (y ∷ ps) zero p h =
    let e : y ≡ p = cc in
    let f : times (own_names (y ∷ ps)) p.own ≡ 1 + times (own_names ps) p.own = times-cons y.own (own_names ps) p.own ∙ ap (λ b. cond b 1 0 + times (own_names ps) p.own) (ap (λ (x : JobPart). same x.own p.own) e ∙ same_self p.own) in
    omega (arith, f)
own_some (y ∷ ps) (suc i) p h = omega (arith, times-cons y.own (own_names ps) p.own, own_some ps i p h)

-- two parts of one name
present_twice : (ps : List JobPart) (i k : ℕ) (p r : JobPart) → part_at ps i ≡ Some p → part_at ps k ≡ Some r → k ≢ i → r.now ≡ p.now → 2 ≤ times (present_names ps) p.now
present_twice [] i k p r h l apart e = cc
present_twice (y ∷ ps) zero zero p r h l apart e = absurd (apart refl)
present_twice (y ∷ ps) zero (suc k) p r h l apart e =
    let f : y ≡ p = cc in
    let g : times (present_names (y ∷ ps)) p.now ≡ 1 + times (present_names ps) p.now = times-cons y.now (present_names ps) p.now ∙ ap (λ b. cond b 1 0 + times (present_names ps) p.now) (ap (λ (x : JobPart). same x.now p.now) f ∙ same_self p.now) in
    let m : times (present_names ps) r.now ≡ times (present_names ps) p.now = ap (λ (n : Name). times (present_names ps) n) e in
    omega (arith, g, m, present_some ps k r l)
present_twice (y ∷ ps) (suc i) zero p r h l apart e =
    let f : y ≡ r = cc in
    let g : times (present_names (y ∷ ps)) p.now ≡ 1 + times (present_names ps) p.now = times-cons y.now (present_names ps) p.now ∙ ap (λ b. cond b 1 0 + times (present_names ps) p.now) (ap (λ (x : JobPart). same x.now p.now) f ∙ ap (λ (n : Name). same n p.now) e ∙ same_self p.now) in
    omega (arith, g, present_some ps i p h)
present_twice (y ∷ ps) (suc i) (suc k) p r h l apart e = omega (arith, times-cons y.now (present_names ps) p.now, present_twice ps i k p r h l (λ x. apart (ap suc x)) e)

own_twice : (ps : List JobPart) (i k : ℕ) (p r : JobPart) → part_at ps i ≡ Some p → part_at ps k ≡ Some r → k ≢ i → r.own ≡ p.own → 2 ≤ times (own_names ps) p.own
own_twice [] i k p r h l apart e = cc
own_twice (y ∷ ps) zero zero p r h l apart e = absurd (apart refl)
own_twice (y ∷ ps) zero (suc k) p r h l apart e =
    let f : y ≡ p = cc in
    let g : times (own_names (y ∷ ps)) p.own ≡ 1 + times (own_names ps) p.own = times-cons y.own (own_names ps) p.own ∙ ap (λ b. cond b 1 0 + times (own_names ps) p.own) (ap (λ (x : JobPart). same x.own p.own) f ∙ same_self p.own) in
    let m : times (own_names ps) r.own ≡ times (own_names ps) p.own = ap (λ (n : Name). times (own_names ps) n) e in
    omega (arith, g, m, own_some ps k r l)
own_twice (y ∷ ps) (suc i) zero p r h l apart e =
    let f : y ≡ r = cc in
    let g : times (own_names (y ∷ ps)) p.own ≡ 1 + times (own_names ps) p.own = times-cons y.own (own_names ps) p.own ∙ ap (λ b. cond b 1 0 + times (own_names ps) p.own) (ap (λ (x : JobPart). same x.own p.own) f ∙ ap (λ (n : Name). same n p.own) e ∙ same_self p.own) in
    omega (arith, g, own_some ps i p h)
own_twice (y ∷ ps) (suc i) (suc k) p r h l apart e = omega (arith, times-cons y.own (own_names ps) p.own, own_twice ps i k p r h l (λ x. apart (ap suc x)) e)

-- the first parts, and one more
at_to : (ps : List JobPart) (n i : ℕ) → n ≤ i → part_at (placed_to n ps) i ≡ part_at ps i
at_to ps zero i le = refl
at_to [] (suc n) i le = refl
at_to (p ∷ ps) (suc n) zero le = absurd (omega (arith, le))
at_to (p ∷ ps) (suc n) (suc i) le = at_to ps n i (omega (arith, le))

to_more : (ps : List JobPart) (i : ℕ) (p : JobPart) → part_at ps i ≡ Some p → slice_set (placed_to i ps) i (placed p) ≡ placed_to (suc i) ps
to_more [] i p h = cc
to_more (y ∷ ps) zero p h = let e : y ≡ p = cc in ap (λ (x : JobPart). placed x ∷ ps) (sym e)
to_more (y ∷ ps) (suc i) p h = ap (λ (xs : List JobPart). placed y ∷ xs) (to_more ps i p h)

pub own_to : (ps : List JobPart) (n : ℕ) → own_names (placed_to n ps) ≡ own_names ps
own_to ps zero = refl
own_to [] (suc n) = refl
own_to (p ∷ ps) (suc n) = ap (λ (ns : List Name). p.own ∷ ns) (own_to ps n)

-- ---- one part
pub other_name : (holdings : Holdings) (p : JobPart) → IsPlaceable holdings p → p.now ≢ p.own → (count_of holdings p.now ≡ 1) × (count_of holdings p.own ≡ 0)
other_name holdings p (inl e) apart = absurd (apart e)
other_name holdings p (inr h) apart = h

set_same : (ps : List JobPart) (i : ℕ) (p : JobPart) → part_at ps i ≡ Some p → p.now ≡ p.own → ps ≡ slice_set ps i (placed p)
set_same [] i p h e = refl
set_same (y ∷ ps) zero p h e =
    let f : y ≡ p = cc in
    let k : p ≡ placed p = λ j. record { own = p.own; now = e j } in
    ap (λ (x : JobPart). x ∷ ps) (f ∙ k)
set_same (y ∷ ps) (suc i) p h e = ap (λ (xs : List JobPart). y ∷ xs) (set_same ps i p h e)

pub nothing_placed : (parts : List JobPart) (place : ℕ) (p : JobPart) (holdings : Holdings) (cells : Cells) → Some p ≡ part_at parts place → p.now ≡ p.own → PlacesOne place parts parts holdings holdings cells cells
nothing_placed parts place p holdings cells at same_names = record {
  part = p;
  at = sym at;
  parts_are = set_same parts place p (sym at) same_names;
  moved = inl (same_names, refl, refl);
  reads = ap (λ (n : Name). (cells n).now) (sym same_names);
  keeps = keeps_refl (p.now ∷ p.own ∷ []) holdings cells;
}

-- ---- names
among_some : (names : List Name) (q : Name) → 1 ≤ times names q → is_among names q ≡ true
among_some names q some = by (is_among names q) refl
  where
    by : (b : Bool) → is_among names q ≡ b → is_among names q ≡ true
    by true e = e
    by false e = let z : times names q ≡ 0 = not_among_times names q e in absurd (omega (arith, z, some))

-- the two names of a part that is renamed are written
no_more : (a b c : Bool) → (a || (b || c)) ≡ false → ((a || (b || false)) ≡ false) × (c ≡ false)
no_more true b c e = absurd (true≢false e)
no_more false true c e = absurd (true≢false e)
no_more false false c e = (refl, e)

pub two_among : (parts : List JobPart) (i : ℕ) (p : JobPart) → part_at parts i ≡ Some p → p.now ≢ p.own → (q : Name) → is_among (written_names parts) q ≡ false → is_among (p.now ∷ p.own ∷ []) q ≡ false
two_among [] i p at apart q out = cc
two_among (y ∷ ps) zero p at apart q out =
    let e : y ≡ p = cc in
    let f : same y.now y.own ≡ false = ap (λ (x : JobPart). same x.now x.own) e ∙ same_apart p.now p.own apart in
    let g : is_among (y.now ∷ y.own ∷ written_names ps) q ≡ false = sym (ap (λ b. is_among (cond b (written_names ps) (y.now ∷ y.own ∷ written_names ps)) q) f) ∙ out in
    ap (λ (x : JobPart). is_among (x.now ∷ x.own ∷ []) q) (sym e) ∙ (no_more (same y.now q) (same y.own q) (is_among (written_names ps) q) g).0
two_among (y ∷ ps) (suc i) p at apart q out = two_among ps i p at apart q (by (same y.now y.own) refl)
  where
    by : (b : Bool) → same y.now y.own ≡ b → is_among (written_names ps) q ≡ false
    by true e = sym (ap (λ t. is_among (cond t (written_names ps) (y.now ∷ y.own ∷ written_names ps)) q) e) ∙ out
    by false e = (no_more (same y.now q) (same y.own q) (is_among (written_names ps) q) (sym (ap (λ t. is_among (cond t (written_names ps) (y.now ∷ y.own ∷ written_names ps)) q) e) ∙ out)).1

-- what is written is one of the two names of a part that is renamed
pub record IsWritten (parts : List JobPart) (q : Name) : Type 0 where
  pub place : ℕ
  pub part : JobPart
  pub at : part_at parts place ≡ Some part
  pub apart : part.now ≢ part.own
  pub is : (part.now ≡ q) ⊎ (part.own ≡ q)

pub written_is : (parts : List JobPart) (q : Name) → is_among (written_names parts) q ≡ true → IsWritten parts q
written_is [] q h = absurd (true≢false (sym h))
written_is (y ∷ ps) q h = by (written_is ps q) (same y.now y.own) refl h
  where
    behind : IsWritten ps q → IsWritten (y ∷ ps) q
    behind w = record { place = suc w.place; part = w.part; at = w.at; apart = w.apart; is = w.is }

    here : (is_among (written_names ps) q ≡ true → IsWritten ps q) → y.now ≢ y.own → (s t : Bool) → same y.now q ≡ s → same y.own q ≡ t → (s || (t || is_among (written_names ps) q)) ≡ true → IsWritten (y ∷ ps) q
    here more apart true t e f h = record { place = zero; part = y; at = refl; apart = apart; is = inl (same_true y.now q e) }
    here more apart false true e f h = record { place = zero; part = y; at = refl; apart = apart; is = inr (same_true y.own q f) }
    here more apart false false e f h = behind (more h)

    by : (is_among (written_names ps) q ≡ true → IsWritten ps q) → (b : Bool) → same y.now y.own ≡ b → is_among (cond b (written_names ps) (y.now ∷ y.own ∷ written_names ps)) q ≡ true → IsWritten (y ∷ ps) q
    by more true e h = behind (more h)
    by more false e h = here more (unlike y.now y.own e) (same y.now q) (same y.own q) refl refl h

pub none_placed : (parts : List JobPart) (place : ℕ) (p : JobPart) (old new : Holdings) (before after : Cells) → Some p ≡ part_at parts place → p.now ≢ p.own → ((q : Name) → count_of new q ≡ count_of old q)
    → KeepsFiles (p.now ∷ p.own ∷ []) old new before after → PlacesNone place parts parts old new before after
none_placed parts place p old new before after at apart counts keeps = record {
  part = p;
  at = sym at;
  apart = apart;
  parts_are = refl;
  same = counts;
  keeps = keeps;
}

name_of : (n q : Name) → 1 ≤ times (n ∷ []) q → n ≡ q
name_of n q some = by (same n q) refl
  where
    by : (b : Bool) → same n q ≡ b → n ≡ q
    by true e = same_true n q e
    by false e = let z : times (n ∷ []) q ≡ 0 = times_one n q ∙ ap (λ b. cond b 1 0) e in absurd (omega (arith, z, some))

-- ---- one part more
module _ (parts now next : List JobPart) (i : ℕ) (old mid new : Holdings) (a b c : Cells) (first : ArePlaceable old parts) (able : ArePlaceable mid now) (done : Places i parts now old mid a b) (one : PlacesOne i now next mid new b c) where
  abbrev p : JobPart
  p = one.part

  at_first : part_at parts i ≡ Some p
  at_first = sym (at_to parts i i (omega arith)) ∙ ap (λ (xs : List JobPart). part_at xs i) (sym done.parts_are) ∙ one.at

  -- the count of a name moves
  count : (q : Name) → count_of new q + times (p.now ∷ []) q ≡ count_of mid q + times (p.own ∷ []) q
  count q = elim one.moved [
    | inl still ↦ ap (λ (h : Holdings). count_of h q + times (p.now ∷ []) q) still.1 ∙ ap (λ (n : Name). count_of mid q + times (n ∷ []) q) still.0
    | inr move ↦ (let has = other_name mid p (able.each i p one.at) move.0 in renamed_once p.now p.own mid new move.1 has.0 has.1 q)
  ]

  present : (q : Name) → times (present_names next) q + times (p.now ∷ []) q ≡ times (present_names now) q + times (p.own ∷ []) q
  present q = ap (λ (xs : List JobPart). times (present_names xs) q + times (p.now ∷ []) q) one.parts_are ∙ present_set now i p q one.at

  next_own : own_names next ≡ own_names now
  next_own = ap own_names one.parts_are ∙ own_set now i p one.at

  other_part : (k : ℕ) (r : JobPart) → k ≢ i → part_at next k ≡ Some r → part_at now k ≡ Some r
  other_part k r apart at = sym (ap (λ (xs : List JobPart). part_at xs k) one.parts_are ∙ at_set_other now i k (placed p) apart) ∙ at

  this_part : part_at next i ≡ Some (placed p)
  this_part = ap (λ (xs : List JobPart). part_at xs i) one.parts_are ∙ at_set_same now i (placed p) p one.at

  -- the other parts can still be placed
  still_able : (k : ℕ) (r : JobPart) → k ≢ i → part_at now k ≡ Some r → IsPlaceable mid r → IsPlaceable new r
  still_able k r apart at (inl e) = inl e
  still_able k r apart at (inr h) = elim one.moved [
    | inl still ↦ inr (ap (λ (x : Holdings). count_of x r.now) still.1 ∙ h.0, ap (λ (x : Holdings). count_of x r.own) still.1 ∙ h.1)
    | inr move ↦ (
        let has = other_name mid p (able.each i p one.at) move.0 in
        let x : p.now ≢ r.now = λ e. (let two : 2 ≤ times (present_names now) p.now = present_twice now i k p r one.at at apart (sym e) in omega (arith, two, able.counted p.now, has.0)) in
        let y : p.own ≢ r.now = λ e. (let z : count_of mid r.now ≡ 0 = ap (count_of mid) (sym e) ∙ has.1 in omega (arith, z, h.0)) in
        let u : p.now ≢ r.own = λ e. (let z : count_of mid r.own ≡ 1 = ap (count_of mid) (sym e) ∙ has.0 in omega (arith, z, h.1)) in
        let v : p.own ≢ r.own = λ e. (let two : 2 ≤ times (own_names now) p.own = own_twice now i k p r one.at at apart (sym e) in omega (arith, two, able.apart p.own)) in
        inr (omega (arith, count r.now, h.0, times_apart p.now r.now x, times_apart p.own r.now y), omega (arith, count r.own, h.1, times_apart p.now r.own u, times_apart p.own r.own v)))
  ]

  pub next_able : ArePlaceable new next
  next_able = record {
    each = λ k r at. elim (cases_eq k i) [
      | inl same_place ↦ inl (let e : ◌≡◌ {A = Option JobPart} (Some (placed p)) (Some r) = sym this_part ∙ ap (λ j. part_at next j) (sym same_place) ∙ at in let f : placed p ≡ r = cc in ap (λ (x : JobPart). x.now) (sym f) ∙ ap (λ (x : JobPart). x.own) f)
      | inr apart ↦ still_able k r apart (other_part k r apart at) (able.each k r (other_part k r apart at))
    ];
    counted = λ q. omega (arith, count q, present q, able.counted q);
    apart = λ q. let e : times (own_names next) q ≡ times (own_names now) q = ap (λ (ns : List Name). times ns q) next_own in omega (arith, e, able.apart q);
  }

  -- what is counted before and after is counted in between
  between : (q : Name) → 0 < count_of old q → 0 < count_of new q → 0 < count_of mid q
  between q had has = by (count_of mid q) refl
    where
      by : (n : ℕ) → count_of mid q ≡ n → 0 < count_of mid q
      by (suc n) e = omega (arith, e)
      by zero e = absurd (elim one.moved [
        | inl still ↦ (let z : count_of new q ≡ count_of mid q = ap (λ (h : Holdings). count_of h q) still.1 in omega (arith, z, e, has))
        | inr move ↦ (
            let is : p.own ≡ q = name_of p.own q (omega (arith, count q, e, has)) in
            let z : count_of old q ≡ 0 = ap (count_of old) (sym is) ∙ (other_name old p (first.each i p at_first) move.0).1 in
            omega (arith, z, had))
      ])

  pub one_more : Places (suc i) parts next old new a c
  one_more = record {
    parts_are = one.parts_are ∙ ap (λ (xs : List JobPart). slice_set xs i (placed p)) done.parts_are ∙ to_more parts i p at_first;
    moves = record {
      balance = λ q. omega (arith, done.moves.balance q, count q, present q);
      keeps = elim one.moved [
        | inl still ↦ subst (λ (x : Holdings). KeepsFiles (written_names parts) old x a c) (sym still.1) (subst (λ (x : Cells). KeepsFiles (written_names parts) old mid a x) (sym still.2) done.moves.keeps)
        | inr move ↦ keeps_within (written_names parts) (p.now ∷ p.own ∷ []) old mid new a b c done.moves.keeps one.keeps (two_among parts i p at_first move.0) between
      ];
    };
    reads = λ k was is at_was at_is. elim (cases_eq k i) [
      | inl same_place ↦ (
          let e : ◌≡◌ {A = Option JobPart} (Some (placed p)) (Some is) = sym this_part ∙ ap (λ j. part_at next j) (sym same_place) ∙ at_is in
          let f : placed p ≡ is = cc in
          ap (λ (x : JobPart). (c x.now).now) (sym f) ∙ one.reads ∙ done.reads i was p (ap (λ j. part_at parts j) (sym same_place) ∙ at_was) one.at)
      | inr apart ↦ (
          let at_now = other_part k is apart at_is in
          let had : 0 < count_of mid is.now = omega (arith, able.counted is.now, present_some now k is at_now) in
          let has : 0 < count_of new is.now = omega (arith, next_able.counted is.now, present_some next k is at_is) in
          one.keeps.reads is.now had has ∙ done.reads k was is at_was at_now)
    ];
  }

-- a part that is refused
pub refused_there : (parts now next : List JobPart) (i : ℕ) (old mid new : Holdings) (a b c : Cells) → ArePlaceable old parts → ArePlaceable mid now → Places i parts now old mid a b → PlacesNone i now next mid new b c → Places i parts next old new a c
refused_there parts now next i old mid new a b c first able done none = record {
  parts_are = none.parts_are ∙ done.parts_are;
  moves = record {
    balance = λ q. let e : times (present_names next) q ≡ times (present_names now) q = ap (λ (xs : List JobPart). times (present_names xs) q) none.parts_are in omega (arith, e, none.same q, done.moves.balance q);
    keeps = keeps_within (written_names parts) (none.part.now ∷ none.part.own ∷ []) old mid new a b c done.moves.keeps none.keeps
        (two_among parts i none.part (sym (at_to parts i i (omega arith)) ∙ ap (λ (xs : List JobPart). part_at xs i) (sym done.parts_are) ∙ none.at) none.apart) (λ q had has. omega (arith, none.same q, has));
  };
  reads = λ k was is at_was at_is.
      let at_now : part_at now k ≡ Some is = ap (λ (xs : List JobPart). part_at xs k) (sym none.parts_are) ∙ at_is in
      let had : 0 < count_of mid is.now = omega (arith, able.counted is.now, present_some now k is at_now) in
      none.keeps.reads is.now had (omega (arith, none.same is.now, had)) ∙ done.reads k was is at_was at_now;
}

pub placed_length : (parts : List JobPart) (n : ℕ) → length (placed_to n parts) ≡ length parts
placed_length parts zero = refl
placed_length [] (suc n) = refl
placed_length (p ∷ ps) (suc n) = ap suc (placed_length ps n)

-- what could be placed can be
pub able_still : (now next : List JobPart) (mid new : Holdings) (i : ℕ) (b c : Cells) → ArePlaceable mid now → PlacesNone i now next mid new b c → ArePlaceable new next
able_still now next mid new i b c able none = subst (ArePlaceable new) (sym none.parts_are) (record {
  each = λ k r at. by r (able.each k r at);
  counted = λ q. omega (arith, none.same q, able.counted q);
  apart = able.apart;
})
  where
    by : (r : JobPart) → IsPlaceable mid r → IsPlaceable new r
    by r (inl e) = inl e
    by r (inr h) = inr (none.same r.now ∙ h.0, none.same r.own ∙ h.1)
