-- The names of a publish are new, each once, and what is not written yet afterwards was not before.
use Rattle.std.proofs.lemmas.Bool.{or_cases, or_from}
use Rattle.std.proofs.Common.{◌≡◌, ◌≢◌, ◌⊎◌, ◌<◌, ◌≤◌, ◌+◌, ◌-◌, ◌*◌, ◌/◌, ◌^◌, ◌||◌, ◌++◌, ℕ, Bool, true, false, cond, List, [], ◌∷◌, Option, Some, None, refl, sym, ap, subst, ◌∙◌, arith, inl, inr, true≢false}
use Rattle.std.specs.Prelude.{IfSome, IsSomeAnd}
use Rattle.std.specs.List.{Contains, AllByRecursion}
use Rattle.file_names.specs.Names.{part_name_of, live_name_of}
use Rattle.file_names.specs.declared.composed.SegPart.{SegPart}
use Rattle.file_names.specs.declared.composed.SegPart.TheVariants.{Docs, Post, Info}
use Rattle.file_names.proofs.NameLaws.{part_name_apart, live_name_apart, part_name_not_live}
use Rattle.disk_model.specs.Disk.{Name, is_among, same}
use Rattle.disk_model.proofs.CellLemmas.{same_true, same_apart}
use Rattle.segment_infos.specs.declared.infos.SegRecord.{SegRecord}
use Rattle.segment_infos.specs.declared.infos.Infos.{Infos}
use Rattle.file_deleter.specs.Holdings.{times}
use Rattle.file_deleter.proofs.NameLemmas.{times-cons, times-append, not_among_times, among-append}
use Rattle.index_primary.specs.Held.{drawn_to, IsNextLive, IsUndrawn, IsOwnFile, part, live, next_live, next_infos}
use Rattle.index_primary.specs.NextNames.{Kept, New, IsIn, gen_after, new_gen, raised_names, new_names, AreApart, IsDrawn, AreNextNames}
use Rattle.segment_steps.specs.Next.{next_live_gen}

all_in : {X : Type 0} (P : X → Type 0) (x : X) (xs : List X) → AllByRecursion P xs → IsIn x xs → P x
all_in P x [] all i = absurd i
all_in P x (y ∷ ys) all (inl e) = subst P e all.0
all_in P x (y ∷ ys) all (inr i) = all_in P x ys all.1 i

same_kept : (k l : Kept) (ks : List Kept) → AreApart ks → IsIn k ks → IsIn l ks → k.0.seg.0 ≡ l.0.seg.0 → k ≡ l
same_kept k l [] apart i j e = absurd i
same_kept k l (x ∷ xs) apart (inl a) (inl b) e = sym a ∙ b
same_kept k l (x ∷ xs) apart (inl a) (inr j) e = absurd (all_in (λ (m : Kept). x.0.seg.0 ≢ m.0.seg.0) l xs apart.0 j (ap (λ (m : Kept). m.0.seg.0) a ∙ e))
same_kept k l (x ∷ xs) apart (inr i) (inl b) e = absurd (all_in (λ (m : Kept). x.0.seg.0 ≢ m.0.seg.0) k xs apart.0 i (ap (λ (m : Kept). m.0.seg.0) b ∙ sym e))
same_kept k l (x ∷ xs) apart (inr i) (inr j) e = same_kept k l xs apart.1 i j e

-- ---- names in lists
once_cons : (x : Name) (xs : List Name) (q : Name) → is_among xs x ≡ false → times xs q ≤ 1 → times (x ∷ xs) q ≤ 1
once_cons x xs q out le = by (same x q) refl
  where
    by : (b : Bool) → same x q ≡ b → times (x ∷ xs) q ≤ 1
    by true e =
        let zero_times : times xs q ≡ 0 = subst (λ (n : Name). times xs n ≡ 0) (same_true x q e) (not_among_times xs x out) in
        let c : times (x ∷ xs) q ≡ 1 + times xs q = times-cons x xs q ∙ ap (λ b. cond b 1 0 + times xs q) e in omega (arith, zero_times, c)
    by false e = let c : times (x ∷ xs) q ≡ 0 + times xs q = times-cons x xs q ∙ ap (λ b. cond b 1 0 + times xs q) e in omega (arith, le, c)

-- ---- the live files of those that stay
record IsRaised (g : ℕ) (ks : List Kept) (q : Name) : Type 0 where
  k : Kept
  there : IsIn k ks
  marked : k.1 ≡ true
  is : q ≡ live_name_of k.0.seg.0 (next_live_gen g k.0)

later : (g : ℕ) (x : Kept) (ks : List Kept) (q : Name) → IsRaised g ks q → IsRaised g (x ∷ ks) q
later g x ks q h = record { k = h.k; there = inr h.there; marked = h.marked; is = h.is }

among_raised : (g : ℕ) (ks : List Kept) (q : Name) → is_among (raised_names g ks) q ≡ true → IsRaised g ks q
among_raised g [] q h = absurd (true≢false (sym h))
among_raised g (x ∷ ks) q h = by (among_raised g ks q) x.1 refl h
  where
    by : (is_among (raised_names g ks) q ≡ true → IsRaised g ks q) → (b : Bool) → x.1 ≡ b → is_among (cond b (live_name_of x.0.seg.0 (next_live_gen g x.0) ∷ raised_names g ks) (raised_names g ks)) q ≡ true → IsRaised g (x ∷ ks) q
    by more true e h = elim (or_cases (same (live_name_of x.0.seg.0 (next_live_gen g x.0)) q) (is_among (raised_names g ks) q) h) [
      | inl here ↦ record { k = x; there = inl refl; marked = e; is = sym (same_true (live_name_of x.0.seg.0 (next_live_gen g x.0)) q here) }
      | inr rest ↦ later g x ks q (more rest)
    ]
    by more false e h = later g x ks q (more h)

abbrev Bounded : Infos → Kept → Type 0
Bounded infos k = (k.0.seg.0 < drawn_to infos) × (next_live_gen infos.generation.0 k.0 < 2 ^ 64)

raised_once : (infos : Infos) (ks : List Kept) → drawn_to infos < 2 ^ 64 → AllByRecursion (Bounded infos) ks → AreApart ks → (q : Name) → times (raised_names infos.generation.0 ks) q ≤ 1
raised_once infos [] small bounded apart q = let e : times [] q ≡ 0 = refl in omega (arith, e)
raised_once infos (x ∷ ks) small bounded apart q = rest (raised_once infos ks small bounded.1 apart.1 q) x.1
  where
    rest : times (raised_names infos.generation.0 ks) q ≤ 1 → (b : Bool) → times (cond b (live_name_of x.0.seg.0 (next_live_gen infos.generation.0 x.0) ∷ raised_names infos.generation.0 ks) (raised_names infos.generation.0 ks)) q ≤ 1
    rest more false = more
    rest more true = once_cons (live_name_of x.0.seg.0 (next_live_gen infos.generation.0 x.0)) (raised_names infos.generation.0 ks) q (out (is_among (raised_names infos.generation.0 ks) (live_name_of x.0.seg.0 (next_live_gen infos.generation.0 x.0))) refl) more
      where
        out : (b : Bool) → is_among (raised_names infos.generation.0 ks) (live_name_of x.0.seg.0 (next_live_gen infos.generation.0 x.0)) ≡ b → is_among (raised_names infos.generation.0 ks) (live_name_of x.0.seg.0 (next_live_gen infos.generation.0 x.0)) ≡ false
        out false e = e
        out true e =
            let h : IsRaised infos.generation.0 ks (live_name_of x.0.seg.0 (next_live_gen infos.generation.0 x.0)) = among_raised infos.generation.0 ks (live_name_of x.0.seg.0 (next_live_gen infos.generation.0 x.0)) e in
            let b : Bounded infos h.k = all_in (Bounded infos) h.k ks bounded.1 h.there in
            let s : x.0.seg.0 ≡ h.k.0.seg.0 = (live_name_apart x.0.seg.0 h.k.0.seg.0 (next_live_gen infos.generation.0 x.0) (next_live_gen infos.generation.0 h.k.0) (omega (arith, small, bounded.0.0)) (omega (arith, small, b.0)) bounded.0.1 b.1 h.is).0 in
            absurd (all_in (λ (m : Kept). x.0.seg.0 ≢ m.0.seg.0) h.k ks apart.0 h.there s)

-- ---- the files of the new one
data IsNewName (n : New) (q : Name) : Type 0 where
  new_part : (which : SegPart) → q ≡ part_name_of n.0 which → IsNewName n q
  new_live : n.1 ≡ true → q ≡ live_name_of n.0 1 → IsNewName n q

among_new : (n : New) (q : Name) → is_among (new_names (Some n)) q ≡ true → IsNewName n q
among_new n q h = by n.1 refl h
  where
    tail : (b : Bool) → n.1 ≡ b → is_among (cond b (live_name_of n.0 1 ∷ []) []) q ≡ true → IsNewName n q
    tail true e h = elim (or_cases (same (live_name_of n.0 1) q) false h) [ inl here ↦ new_live e (sym (same_true (live_name_of n.0 1) q here)) | inr more ↦ absurd (true≢false (sym more)) ]
    tail false e h = absurd (true≢false (sym h))

    by : (b : Bool) → n.1 ≡ b → (same (part_name_of n.0 Docs) q || (same (part_name_of n.0 Post) q || (same (part_name_of n.0 Info) q || is_among (cond b (live_name_of n.0 1 ∷ []) []) q))) ≡ true → IsNewName n q
    by b e h = elim (or_cases (same (part_name_of n.0 Docs) q) (same (part_name_of n.0 Post) q || (same (part_name_of n.0 Info) q || is_among (cond b (live_name_of n.0 1 ∷ []) []) q)) h) [
      | inl here ↦ new_part Docs (sym (same_true (part_name_of n.0 Docs) q here))
      | inr more ↦ elim (or_cases (same (part_name_of n.0 Post) q) (same (part_name_of n.0 Info) q || is_among (cond b (live_name_of n.0 1 ∷ []) []) q) more) [
        | inl here ↦ new_part Post (sym (same_true (part_name_of n.0 Post) q here))
        | inr last ↦ elim (or_cases (same (part_name_of n.0 Info) q) (is_among (cond b (live_name_of n.0 1 ∷ []) []) q) last) [
          | inl here ↦ new_part Info (sym (same_true (part_name_of n.0 Info) q here))
          | inr rest ↦ tail b e rest
        ]
      ]
    ]

new_once : (n : New) → n.0 < 2 ^ 64 → (q : Name) → times (new_names (Some n)) q ≤ 1
new_once n small q = by n.1
  where
    parts : (a b : SegPart) → a ≢ b → same (part_name_of n.0 a) (part_name_of n.0 b) ≡ false
    parts a b apart = same_apart (part_name_of n.0 a) (part_name_of n.0 b) (λ e. apart (part_name_apart n.0 n.0 a b small small e).1)

    part_live : (b : Bool) (which : SegPart) → is_among (cond b (live_name_of n.0 1 ∷ []) []) (part_name_of n.0 which) ≡ false
    part_live false which = refl
    part_live true which = or_from (same (live_name_of n.0 1) (part_name_of n.0 which)) false (same_apart (live_name_of n.0 1) (part_name_of n.0 which) (λ e. part_name_not_live n.0 n.0 1 which small small (omega arith) (sym e))) refl

    last : (b : Bool) → times (cond b (live_name_of n.0 1 ∷ []) []) q ≤ 1
    last false = let e : times [] q ≡ 0 = refl in omega (arith, e)
    last true = once_cons (live_name_of n.0 1) [] q refl (let e : times [] q ≡ 0 = refl in omega (arith, e))

    by : (b : Bool) → times (part_name_of n.0 Docs ∷ part_name_of n.0 Post ∷ part_name_of n.0 Info ∷ cond b (live_name_of n.0 1 ∷ []) []) q ≤ 1
    by b =
        let rest : List Name = cond b (live_name_of n.0 1 ∷ []) [] in
        once_cons (part_name_of n.0 Docs) (part_name_of n.0 Post ∷ part_name_of n.0 Info ∷ rest) q
        (or_from (same (part_name_of n.0 Post) (part_name_of n.0 Docs)) (same (part_name_of n.0 Info) (part_name_of n.0 Docs) || is_among rest (part_name_of n.0 Docs)) (parts Post Docs (λ e. cc))
        (or_from (same (part_name_of n.0 Info) (part_name_of n.0 Docs)) (is_among rest (part_name_of n.0 Docs)) (parts Info Docs (λ e. cc)) (part_live b Docs)))
        (once_cons (part_name_of n.0 Post) (part_name_of n.0 Info ∷ rest) q
        (or_from (same (part_name_of n.0 Info) (part_name_of n.0 Post)) (is_among rest (part_name_of n.0 Post)) (parts Info Post (λ e. cc)) (part_live b Post))
        (once_cons (part_name_of n.0 Info) rest q (part_live b Info) (last b)))

-- ---- all
module _ (infos : Infos) (loose still : List ℕ) (kept : List Kept) (new : Option New) (records : List SegRecord) (written : List Name) (h : AreNextNames infos loose still kept new records written) (filled : List ℕ) (unfilled : IfSome new (λ n. Contains filled n.0 → ⊥)) where
  bounds : (k : Kept) → IsIn k kept → Bounded infos k
  bounds k i = all_in (Bounded infos) k kept h.bounded i

  -- a written name is the new one's, or a new live file of one that stays
  written_cases : (o : Option New) → IfSome o (IsDrawn infos loose kept) → (q : Name) → is_among (new_names o ++ raised_names infos.generation.0 kept) q ≡ true
      → ((n : New) × (IsDrawn infos loose kept n × (o ≡ Some n) × IsNewName n q)) ⊎ IsRaised infos.generation.0 kept q
  written_cases None drawn q there = inr (among_raised infos.generation.0 kept q there)
  written_cases (Some n) drawn q there = elim (or_cases (is_among (new_names (Some n)) q) (is_among (raised_names infos.generation.0 kept) q) (sym (among-append (new_names (Some n)) (raised_names infos.generation.0 kept) q) ∙ there)) [
    | inl is ↦ inl (n, (drawn, refl, among_new n q is))
    | inr is ↦ inr (among_raised infos.generation.0 kept q is)
  ]

  cases_of : (q : Name) → is_among written q ≡ true → ((n : New) × (IsDrawn infos loose kept n × (new ≡ Some n) × IsNewName n q)) ⊎ IsRaised infos.generation.0 kept q
  cases_of q there = written_cases new h.drawn q (ap (λ (ns : List Name). is_among ns q) (sym h.written_are) ∙ there)

  unfilled_new : (n : New) → new ≡ Some n → Contains filled n.0 → ⊥
  unfilled_new n e = subst (λ (o : Option New). IfSome o (λ m. Contains filled m.0 → ⊥)) e unfilled

  undrawn_new : (n : New) (q : Name) → IsDrawn infos loose kept n → new ≡ Some n → IsNewName n q → IsUndrawn infos loose filled q
  undrawn_new n q d f (new_part which e) = part n.0 which (omega (arith, d.below, h.small), inr d.there) (unfilled_new n f) e
  undrawn_new n q d f (new_live marked e) = live n.0 1 (omega (arith, d.below, h.small), inr d.there) (omega arith) e

  undrawn_raised : (q : Name) → IsRaised infos.generation.0 kept q → IsUndrawn infos loose filled q
  undrawn_raised q r = next_live r.k.0 (next_live_gen infos.generation.0 r.k.0)
      (record { of = all_in (λ (k : Kept). Contains infos.segs k.0) r.k kept h.of r.there; above = omega arith; apart = omega arith; small = (bounds r.k r.there).1 }) r.is

  -- WHAT IS WRITTEN WAS NOT WRITTEN YET
  pub written_undrawn : (q : Name) → is_among written q ≡ true → IsUndrawn infos loose filled q
  written_undrawn q there = elim (cases_of q there) [ inl (n, (d, e, is)) ↦ undrawn_new n q d e is | inr r ↦ undrawn_raised q r ]

  -- AND IS OF A SEGMENT that was drawn
  own_new : (n : New) (q : Name) → IsDrawn infos loose kept n → IsNewName n q → IsOwnFile infos loose q
  own_new n q d (new_part which e) = (n.0, inl d.there, (omega (arith, d.below, h.small), inl (which, e)))
  own_new n q d (new_live marked e) = (n.0, inl d.there, (omega (arith, d.below, h.small), inr (1, omega arith, e)))

  own_raised : (q : Name) → IsRaised infos.generation.0 kept q → IsOwnFile infos loose q
  own_raised q r =
      let of : Contains infos.segs r.k.0 = all_in (λ (k : Kept). Contains infos.segs k.0) r.k kept h.of r.there in
      (r.k.0.seg.0, inr (r.k.0, of, refl), (omega (arith, (bounds r.k r.there).0, h.small), inr (next_live_gen infos.generation.0 r.k.0, (bounds r.k r.there).1, r.is)))

  pub written_own : (q : Name) → is_among written q ≡ true → IsOwnFile infos loose q
  written_own q there = elim (cases_of q there) [ inl (n, (d, e, is)) ↦ own_new n q d is | inr r ↦ own_raised q r ]

  -- the new one's names are none of the others'
  cross : (n : New) (q : Name) → IsDrawn infos loose kept n → IsNewName n q → IsRaised infos.generation.0 kept q → ⊥
  cross n q d (new_part which e) r = part_name_not_live n.0 r.k.0.seg.0 (next_live_gen infos.generation.0 r.k.0) which (omega (arith, d.below, h.small)) (omega (arith, (bounds r.k r.there).0, h.small)) (bounds r.k r.there).1 (sym e ∙ r.is)
  cross n q d (new_live marked e) r =
      let s = live_name_apart r.k.0.seg.0 n.0 (next_live_gen infos.generation.0 r.k.0) 1 (omega (arith, (bounds r.k r.there).0, h.small)) (omega (arith, d.below, h.small)) (bounds r.k r.there).1 (omega arith) (sym r.is ∙ e) in
      all_in (λ (k : Kept). k.0.seg.0 ≢ n.0) r.k kept d.apart r.there s.0

  once_of : (o : Option New) → IfSome o (IsDrawn infos loose kept) → (q : Name) → times (new_names o ++ raised_names infos.generation.0 kept) q ≤ 1
  once_of None drawn q = raised_once infos kept h.small h.bounded h.apart q
  once_of (Some n) d q = by (is_among (new_names (Some n)) q) (is_among (raised_names infos.generation.0 kept) q) refl refl
    where
      split : times (new_names (Some n) ++ raised_names infos.generation.0 kept) q ≡ times (new_names (Some n)) q + times (raised_names infos.generation.0 kept) q
      split = times-append (new_names (Some n)) (raised_names infos.generation.0 kept) q

      by : (a b : Bool) → is_among (new_names (Some n)) q ≡ a → is_among (raised_names infos.generation.0 kept) q ≡ b → times (new_names (Some n) ++ raised_names infos.generation.0 kept) q ≤ 1
      by true true e f = absurd (cross n q d (among_new n q e) (among_raised infos.generation.0 kept q f))
      by true false e f = omega (arith, split, new_once n (omega (arith, d.below, h.small)) q, not_among_times (raised_names infos.generation.0 kept) q f)
      by false b e f = omega (arith, split, not_among_times (new_names (Some n)) q e, raised_once infos kept h.small h.bounded h.apart q)

  -- EACH ONCE
  pub written_once : (q : Name) → times written q ≤ 1
  written_once q = let e : times written q ≡ times (new_names new ++ raised_names infos.generation.0 kept) q = ap (λ (ns : List Name). times ns q) h.written_are in omega (arith, e, once_of new h.drawn q)

  -- ---- what is not written yet afterwards
  not_among : (q : Name) → (is_among written q ≡ true → ⊥) → is_among written q ≡ false
  not_among q no_one = by (is_among written q) refl
    where
      by : (b : Bool) → is_among written q ≡ b → is_among written q ≡ false
      by true e = absurd (no_one e)
      by false e = e

  -- a part of an undrawn segment
  part_out : (seg : ℕ) (which : SegPart) (q : Name) → seg < 2 ^ 64 → ((n : New) → IsDrawn infos loose kept n → new ≡ Some n → seg ≡ n.0 → ⊥) → q ≡ part_name_of seg which → is_among written q ≡ true → ⊥
  part_out seg which q small not_new e there = elim (cases_of q there) [
    | inl (n, (d, f, is)) ↦ by n d f is
    | inr r ↦ part_name_not_live seg r.k.0.seg.0 (next_live_gen infos.generation.0 r.k.0) which small (omega (arith, (bounds r.k r.there).0, h.small)) (bounds r.k r.there).1 (sym e ∙ r.is)
  ]
    where
      by : (n : New) → IsDrawn infos loose kept n → new ≡ Some n → IsNewName n q → ⊥
      by n d f (new_part other i) = let s = part_name_apart seg n.0 which other small (omega (arith, d.below, h.small)) (sym e ∙ i) in not_new n d f s.0
      by n d f (new_live marked i) = part_name_not_live seg n.0 1 which small (omega (arith, d.below, h.small)) (omega arith) (sym e ∙ i)

  -- a live file of a segment, with a live generation that none of the written ones has
  live_out : (seg live_gen : ℕ) (q : Name) → seg < 2 ^ 64 → live_gen < 2 ^ 64 → q ≡ live_name_of seg live_gen
      → ((n : New) → IsDrawn infos loose kept n → new ≡ Some n → n.1 ≡ true → seg ≡ n.0 → live_gen ≡ 1 → ⊥)
      → ((k : Kept) → IsIn k kept → k.1 ≡ true → seg ≡ k.0.seg.0 → live_gen ≡ next_live_gen infos.generation.0 k.0 → ⊥) → is_among written q ≡ true → ⊥
  live_out seg live_gen q small small_gen e not_new not_raised there = elim (cases_of q there) [
    | inl (n, (d, f, is)) ↦ by n d f is
    | inr r ↦ (let s = live_name_apart seg r.k.0.seg.0 live_gen (next_live_gen infos.generation.0 r.k.0) small (omega (arith, (bounds r.k r.there).0, h.small)) small_gen (bounds r.k r.there).1 (sym e ∙ r.is) in
        not_raised r.k r.there r.marked s.0 s.1)
  ]
    where
      by : (n : New) → IsDrawn infos loose kept n → new ≡ Some n → IsNewName n q → ⊥
      by n d f (new_part other i) = part_name_not_live n.0 seg live_gen other (omega (arith, d.below, h.small)) small small_gen (sym i ∙ e)
      by n d f (new_live marked i) = let s = live_name_apart seg n.0 live_gen 1 small (omega (arith, d.below, h.small)) small_gen (omega arith) (sym e ∙ i) in not_new n d f marked s.0 s.1

  same_new : (n m : New) → new ≡ Some n → new ≡ Some m → n ≡ m
  same_new n m a b = let e : Some n ≡ Some m = sym a ∙ b in cc

  next_of_kept : (r : SegRecord) (live_gen : ℕ) (q : Name) (k : Kept) → IsNextLive (next_infos infos records) r live_gen → q ≡ live_name_of r.seg.0 live_gen → IsIn k kept → r.seg.0 ≡ k.0.seg.0 → r.live_gen ≡ gen_after infos.generation.0 k
      → IsUndrawn infos loose filled q × (is_among written q ≡ false)
  next_of_kept r live_gen q k is e there same_seg gen = (
    next_live k.0 live_gen (record {
      of = all_in (λ (x : Kept). Contains infos.segs x.0) k kept h.of there;
      above = (let le : k.0.live_gen ≤ gen_after infos.generation.0 k = least k.1 in omega (arith, le, gen, is.above));
      apart = subst (λ n. (infos.generation.0 - n / 1679616) * 4294967296 < live_gen) same_seg is.apart;
      small = is.small;
    }) (e ∙ ap (λ n. live_name_of n live_gen) same_seg),
    not_among q (live_out r.seg.0 live_gen q (omega (arith, same_seg, (bounds k there).0, h.small)) is.small e
        (λ n d f marked s one. all_in (λ (x : Kept). x.0.seg.0 ≢ n.0) k kept d.apart there (sym same_seg ∙ s))
        (λ l in' marked s g. let i : l ≡ k = same_kept l k kept h.apart in' there (sym s ∙ same_seg) in
        let m : k.1 ≡ true = sym (ap (λ (x : Kept). x.1) i) ∙ marked in
        let a : gen_after infos.generation.0 k ≡ next_live_gen infos.generation.0 k.0 = ap (λ b. cond b (next_live_gen infos.generation.0 k.0) k.0.live_gen) m in
        let c : next_live_gen infos.generation.0 l.0 ≡ next_live_gen infos.generation.0 k.0 = ap (λ (x : Kept). next_live_gen infos.generation.0 x.0) i in
        less_self live_gen (next_live_gen infos.generation.0 k.0) (g ∙ c) (subst (λ n. n < live_gen) (gen ∙ a) is.above))),
  )
    where
      least : (b : Bool) → k.0.live_gen ≤ cond b (next_live_gen infos.generation.0 k.0) k.0.live_gen
      least true = omega arith
      least false = omega arith

      less_self : (m n : ℕ) → m ≡ n → n < m → ⊥
      less_self m n e lt = omega (arith, e, lt)

  next_of_new : (r : SegRecord) (live_gen : ℕ) (q : Name) (n : New) → IsNextLive (next_infos infos records) r live_gen → q ≡ live_name_of r.seg.0 live_gen → IsDrawn infos loose kept n → new ≡ Some n → r.seg.0 ≡ n.0 → r.live_gen ≡ new_gen n
      → IsUndrawn infos loose filled q × (is_among written q ≡ false)
  next_of_new r live_gen q n is e d f same_seg gen = (
    live n.0 live_gen (omega (arith, d.below, h.small), inr d.there) is.small (e ∙ ap (λ m. live_name_of m live_gen) same_seg),
    not_among q (live_out r.seg.0 live_gen q (omega (arith, same_seg, d.below, h.small)) is.small e
        (λ m dm fm marked s one. let i : n ≡ m = same_new n m f fm in
        let a : new_gen n ≡ 1 = ap (λ b. cond b 1 0) (ap (λ (x : New). x.1) i ∙ marked) in omega (arith, a, gen, is.above, one))
        (λ k in' marked s g. all_in (λ (x : Kept). x.0.seg.0 ≢ n.0) k kept d.apart in' (sym s ∙ same_seg))),
  )

  new_case : (o : Option New) (r : SegRecord) → IfSome o (IsDrawn infos loose kept) → IsSomeAnd o (λ n. (r.seg.0 ≡ n.0) × (r.live_gen ≡ new_gen n)) → (n : New) × (IsDrawn infos loose kept n × (o ≡ Some n) × (r.seg.0 ≡ n.0) × (r.live_gen ≡ new_gen n))
  new_case None r d is = absurd is
  new_case (Some n) r d is = (n, (d, refl, is.0, is.1))

  not_still : (seg : ℕ) → Contains still seg → (n : New) → new ≡ Some n → seg ≡ n.0 → ⊥
  not_still seg c n f s = (subst (λ (o : Option New). IfSome o (λ m. m.0 ≢ seg)) f (h.still_apart seg c).1) (sym s)

  -- WHAT IS NOT WRITTEN YET AFTERWARDS WAS NOT BEFORE, AND IS NOT AMONG WHAT IS WRITTEN
  pub still_undrawn : (q : Name) → IsUndrawn (next_infos infos records) still filled q → IsUndrawn infos loose filled q × (is_among written q ≡ false)
  still_undrawn q (part seg which (small, inl le) out e) = (part seg which (small, inl le) out e, not_among q (part_out seg which q small (λ n d f s. omega (arith, s, le, d.below)) e))
  still_undrawn q (part seg which (small, inr c) out e) = (part seg which (small, inr (h.still_apart seg c).0) out e, not_among q (part_out seg which q small (λ n d f s. not_still seg c n f s) e))
  still_undrawn q (live seg live_gen (small, inl le) small_gen e) = (
    live seg live_gen (small, inl le) small_gen e,
    not_among q (live_out seg live_gen q small small_gen e (λ n d f marked s one. omega (arith, s, le, d.below)) (λ k in' marked s g. omega (arith, s, le, (bounds k in').0))),
  )
  still_undrawn q (live seg live_gen (small, inr c) small_gen e) = (
    live seg live_gen (small, inr (h.still_apart seg c).0) small_gen e,
    not_among q (live_out seg live_gen q small small_gen e (λ n d f marked s one. not_still seg c n f s) (λ k in' marked s g. all_in (λ (x : Kept). x.0.seg.0 ≢ seg) k kept (h.still_apart seg c).2 in' (sym s))),
  )
  still_undrawn q (next_live r live_gen is e) = elim (h.each r is.of) [
    | inl (k, (there, same_seg, gen)) ↦ next_of_kept r live_gen q k is e there same_seg gen
    | inr some ↦ (let c = new_case new r h.drawn some in next_of_new r live_gen q c.0 is e c.1.0 c.1.1 c.1.2 c.1.3)
  ]
