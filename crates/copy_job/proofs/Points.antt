-- The files of a job's point, once each part has its own name.
use Rattle.std.proofs.Common.{◌≡◌, ◌⊎◌, ℕ, zero, suc, ◌+◌, ◌<◌, ◌≤◌, ◌||◌, Bool, true, false, List, [], ◌∷◌, length, Some, refl, sym, ap, ◌∙◌, arith, cond, inl, inr, true≢false}
use Rattle.disk_model.specs.Disk.{Name, Cells, same, is_among}
use Rattle.disk_model.proofs.CellLemmas.{same_true}
use Rattle.file_deleter.specs.Holdings.{Holdings, count_of, times}
use Rattle.file_deleter.proofs.NameLemmas.{times-cons}
use Rattle.copy_job.specs.declared.part.JobPart.{JobPart}
use Rattle.copy_job.specs.Parts.{placed, part_at, present_names, own_names, written_names, placed_to}
use Rattle.copy_job.specs.Placing.{Places}
use Rattle.copy_job.specs.Jobs.{present_of}

-- a name is that of a part, or stands under itself
pub record IsOwn (parts : List JobPart) (q : Name) : Type 0 where
  pub place : ℕ
  pub part : JobPart
  pub at : part_at parts place ≡ Some part
  pub own : part.own ≡ q
  pub present : present_of parts q ≡ part.now

pub own_or_not : (parts : List JobPart) (q : Name) → IsOwn parts q ⊎ ((present_of parts q ≡ q) × (times (own_names parts) q ≡ 0))
own_or_not [] q = inr (refl, refl)
own_or_not (y ∷ ps) q = by (own_or_not ps q) (same y.own q) refl
  where
    by : IsOwn ps q ⊎ ((present_of ps q ≡ q) × (times (own_names ps) q ≡ 0)) → (b : Bool) → same y.own q ≡ b → IsOwn (y ∷ ps) q ⊎ ((present_of (y ∷ ps) q ≡ q) × (times (own_names (y ∷ ps)) q ≡ 0))
    by more true e = inl (record { place = zero; part = y; at = refl; own = same_true y.own q e; present = ap (λ b. cond b y.now (present_of ps q)) e })
    by (inl h) false e = inl (record { place = suc h.place; part = h.part; at = h.at; own = h.own; present = ap (λ b. cond b y.now (present_of ps q)) e ∙ h.present })
    by (inr h) false e = inr (ap (λ b. cond b y.now (present_of ps q)) e ∙ h.0, times-cons y.own (own_names ps) q ∙ ap (λ b. cond b 1 0 + times (own_names ps) q) e ∙ ap (λ n. 0 + n) h.1)

at_placed : (ps : List JobPart) (i : ℕ) (p : JobPart) → part_at ps i ≡ Some p → part_at (placed_to (length ps) ps) i ≡ Some (placed p)
at_placed [] i p h = cc
at_placed (y ∷ ps) zero p h = let e : y ≡ p = cc in ap (λ (x : JobPart). Some (placed x)) e
at_placed (y ∷ ps) (suc i) p h = at_placed ps i p h

-- each file of the point reads what it read under its present name
pub reads_placed : (parts now : List JobPart) (old new : Holdings) (before after : Cells) → Places (length parts) parts now old new before after → (reused : List Name) → ((q : Name) → times reused q ≤ count_of old q)
    → ((q : Name) → times reused q ≤ count_of new q) → (q : Name) → 0 < times (own_names parts) q + times reused q → (after q).now ≡ (before (present_of parts q)).now
reads_placed parts now old new before after done reused had has q some = elim (own_or_not parts q) [
  | inl h ↦ (
      let is : part_at now h.place ≡ Some (placed h.part) = ap (λ (xs : List JobPart). part_at xs h.place) done.parts_are ∙ at_placed parts h.place h.part h.at in
      ap (λ (n : Name). (after n).now) (sym h.own) ∙ done.reads h.place h.part (placed h.part) h.at is ∙ ap (λ (n : Name). (before n).now) (sym h.present))
  | inr h ↦ (
      let r : 0 < times reused q = omega (arith, some, h.1) in
      done.moves.keeps.reads q (omega (arith, r, had q)) (omega (arith, r, has q)) ∙ ap (λ (n : Name). (before n).now) (sym h.0))
]

-- names that are not written stand as often among the present ones
neither : (a b c : Bool) → (a || (b || c)) ≡ false → (a ≡ false) × (b ≡ false) × (c ≡ false)
neither true b c e = absurd (true≢false e)
neither false true c e = absurd (true≢false e)
neither false false c e = (refl, refl, e)

pub present_to : (parts : List JobPart) (n : ℕ) (q : Name) → is_among (written_names parts) q ≡ false → times (present_names (placed_to n parts)) q ≡ times (present_names parts) q
present_to parts zero q out = refl
present_to [] (suc n) q out = refl
present_to (y ∷ ps) (suc n) q out = by (λ rest. present_to ps n q rest) (same y.now y.own) refl
  where
    by : (is_among (written_names ps) q ≡ false → times (present_names (placed_to n ps)) q ≡ times (present_names ps) q) → (b : Bool) → same y.now y.own ≡ b → times (y.own ∷ present_names (placed_to n ps)) q ≡ times (y.now ∷ present_names ps) q
    by more true e =
        let rest : is_among (written_names ps) q ≡ false = sym (ap (λ t. is_among (cond t (written_names ps) (y.now ∷ y.own ∷ written_names ps)) q) e) ∙ out in
        let same_name : times (y.own ∷ present_names (placed_to n ps)) q ≡ times (y.now ∷ present_names (placed_to n ps)) q = ap (λ (x : Name). times (x ∷ present_names (placed_to n ps)) q) (sym (same_true y.now y.own e)) in
        omega (arith, same_name, times-cons y.now (present_names (placed_to n ps)) q, times-cons y.now (present_names ps) q, more rest)
    by more false e =
        let all = neither (same y.now q) (same y.own q) (is_among (written_names ps) q) (sym (ap (λ t. is_among (cond t (written_names ps) (y.now ∷ y.own ∷ written_names ps)) q) e) ∙ out) in
        let a : times (y.own ∷ present_names (placed_to n ps)) q ≡ 0 + times (present_names (placed_to n ps)) q = times-cons y.own (present_names (placed_to n ps)) q ∙ ap (λ b. cond b 1 0 + times (present_names (placed_to n ps)) q) all.1 in
        let b : times (y.now ∷ present_names ps) q ≡ 0 + times (present_names ps) q = times-cons y.now (present_names ps) q ∙ ap (λ b. cond b 1 0 + times (present_names ps) q) all.0 in
        omega (arith, a, b, more all.2)

pub all_placed : (ps : List JobPart) → present_names (placed_to (length ps) ps) ≡ own_names ps
all_placed [] = refl
all_placed (p ∷ ps) = ap (λ (ns : List Name). p.own ∷ ns) (all_placed ps)
