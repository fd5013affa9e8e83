-- What holds of what the files of a replica read, over its calls.
use Rattle.std.proofs.Common.{◌≡◌, ◌⊎◌, ℕ, zero, suc, ◌+◌, ◌<◌, ◌≤◌, Bool, true, false, List, [], ◌∷◌, Some, cond, not, refl, sym, ap, subst, ◌∙◌, arith, inl, inr, true≢false}
use Rattle.std.specs.Prelude.{filter, insert}
use Rattle.file_names.specs.Names.{temp_name_of}
use Rattle.disk_model.specs.Disk.{Name, Content, Cells, same}
use Rattle.disk_model.proofs.CellLemmas.{same_true}
use Rattle.file_deleter.specs.Holdings.{Holdings, count_of, times}
use Rattle.file_deleter.proofs.NameLemmas.{times-append, times-cons, times_one, same_self}
use Rattle.searcher_switch.specs.Node.{HoldsNoMore, KeepsBytes}
use Rattle.copy_state.specs.States.{meta_names}
use Rattle.copy_job.specs.declared.part.JobPart.{JobPart}
use Rattle.copy_job.specs.Parts.{placed, part_at, parts_below, insert_part, present_names, own_names, placed_to}
use Rattle.copy_job.specs.Jobs.{Job, IsJob, job_names, with_part, present_of}
use Rattle.copy_job.proofs.Placings.{present_some}
use Rattle.copy_job.proofs.Points.{own_or_not}
use Rattle.replica_opening.specs.Known.{IsLasting}

-- of each file of a segment that is held this holds of what it reads
pub record HeldReads (H : Name → Content → Type 0) (cells : Cells) (holdings : Holdings) : Type 0 where
  pub each : (q : Name) → IsLasting q → 0 < count_of holdings q → H q (cells q).now

-- of each file that the job has this holds of what it reads
pub record JobReads (J : Name → Content → Type 0) (cells : Cells) (j : Job) : Type 0 where
  pub each : (q : Name) → 0 < times (meta_names j.want.files) q → times j.missing q ≡ 0 → J q (cells (present_of j.parts q)).now

-- no file of a segment is held that was not
pub record HoldsNoOther (old new : Holdings) : Type 0 where
  pub each : (q : Name) → IsLasting q → count_of old q ≡ 0 → count_of new q ≡ 0

pub no_other : (old new : Holdings) → HoldsNoMore old new → HoldsNoOther old new
no_other old new h = record { each = λ q lasting none. h.each q lasting.commit lasting.pending none }

pub was_held : (old new : Holdings) → HoldsNoOther old new → (q : Name) → IsLasting q → 0 < count_of new q → 0 < count_of old q
was_held old new h q lasting some = by (count_of old q) refl
  where
    by : (n : ℕ) → count_of old q ≡ n → 0 < count_of old q
    by zero e = let none : count_of new q ≡ 0 = h.each q lasting e in absurd (omega (arith, none, some))
    by (suc n) e = omega (arith, e)

pub held_along : (H : Name → Content → Type 0) (a b : Cells) (old new : Holdings) → HoldsNoOther old new → KeepsBytes old new a b → HeldReads H a old → HeldReads H b new
held_along H a b old new only stays h = record {
  each = λ q lasting some.
      let had : 0 < count_of old q = was_held old new only q lasting some in
      subst (H q) (sym (stays.held q had some)) (h.each q lasting had);
}

-- ---- the present names of a job
-- a file that the job lacks no more stands under a name that it holds
pub present_held : (j : Job) → IsJob j → (q : Name) → 0 < times (meta_names j.want.files) q → times j.missing q ≡ 0 → 0 < times (job_names j) (present_of j.parts q)
present_held j is q wanted here = elim (own_or_not j.parts q) [
  | inl own ↦ (
      let some : 1 ≤ times (present_names j.parts) own.part.now = present_some j.parts own.place own.part own.at in
      subst (λ (x : Name). 0 < times (job_names j) x) (sym own.present) (omega (arith, some, times-append (present_names j.parts) j.reused own.part.now)))
  | inr not_own ↦ subst (λ (x : Name). 0 < times (job_names j) x) (sym not_own.0) (omega (arith, wanted, here, not_own.1, is.each q, times-append (present_names j.parts) j.reused q))
]

pub job_along : (J : Name → Content → Type 0) (a b : Cells) (j : Job) → IsJob j → ((q : Name) → 0 < times (job_names j) q → (b q).now ≡ (a q).now) → JobReads J a j → JobReads J b j
job_along J a b j is same_reads h = record { each = λ q wanted here. subst (J q) (sym (same_reads (present_of j.parts q) (present_held j is q wanted here))) (h.each q wanted here) }

-- a file that the job has and the next one of the same state lacks not is read under the same name
present_none : (ps : List JobPart) (q : Name) → times (own_names ps) q ≡ 0 → present_of ps q ≡ q
present_none ps q none = elim (own_or_not ps q) [
  | inl own ↦ absurd (let some : 0 < times (own_names ps) q = subst (λ (x : Name). 0 < times (own_names ps) x) own.own (own_there ps own.place own.part own.at) in omega (arith, some, none))
  | inr not_own ↦ not_own.0
]
  where
    own_there : (ps : List JobPart) (i : ℕ) (p : JobPart) → part_at ps i ≡ Some p → 0 < times (own_names ps) p.own
    own_there [] i p at = cc
    own_there (y ∷ ys) zero p at =
        let e : y ≡ p = cc in
        let one : times (y.own ∷ []) y.own ≡ 1 = times_one y.own y.own ∙ ap (λ b. cond b 1 0) (same_self y.own) in
        subst (λ (x : JobPart). 0 < times (y.own ∷ own_names ys) x.own) e (omega (arith, one, times-cons y.own (own_names ys) y.own, times_one y.own y.own))
    own_there (y ∷ ys) (suc i) p at = omega (arith, times-cons y.own (own_names ys) p.own, own_there ys i p at)

present_put : (ps : List JobPart) (k : ℕ) (p : JobPart) (q : Name) → times (own_names ps) q ≡ 0 → present_of (insert ps k p) q ≡ cond (same p.own q) p.now q
present_put [] zero p q none = refl
present_put [] (suc k) p q none = refl
present_put (y ∷ ys) zero p q none = ap (λ (n : Name). cond (same p.own q) p.now n) (present_none (y ∷ ys) q none)
present_put (y ∷ ys) (suc k) p q none = by (present_put ys k p q) (same y.own q) refl
  where
    by : (times (own_names ys) q ≡ 0 → present_of (insert ys k p) q ≡ cond (same p.own q) p.now q) → (b : Bool) → same y.own q ≡ b → cond (same y.own q) y.now (present_of (insert ys k p) q) ≡ cond (same p.own q) p.now q
    by rest true e = absurd (let z : times (y.own ∷ own_names ys) q ≡ 1 + times (own_names ys) q = times-cons y.own (own_names ys) q ∙ ap (λ b. cond b 1 0 + times (own_names ys) q) e in omega (arith, z, none))
    by rest false e =
        let z : times (y.own ∷ own_names ys) q ≡ 0 + times (own_names ys) q = times-cons y.own (own_names ys) q ∙ ap (λ b. cond b 1 0 + times (own_names ys) q) e in
        ap (λ b. cond b y.now (present_of (insert ys k p) q)) e ∙ rest (omega (arith, z, none))

present_kept : (ps : List JobPart) (k : ℕ) (p : JobPart) (q : Name) → same p.own q ≡ false → present_of (insert ps k p) q ≡ present_of ps q
present_kept [] zero p q other = ap (λ b. cond b p.now q) other
present_kept [] (suc k) p q other = ap (λ b. cond b p.now q) other
present_kept (y ∷ ys) zero p q other = ap (λ b. cond b p.now (present_of (y ∷ ys) q)) other
present_kept (y ∷ ys) (suc k) p q other = ap (λ (n : Name). cond (same y.own q) y.now n) (present_kept ys k p q other)

-- a name that is not the one that was taken out stands as often as before
not_taken : (names : List Name) (name q : Name) → same q name ≡ false → times (filter (λ x. not (same x name)) names) q ≡ times names q
not_taken [] name q other = refl
not_taken (x ∷ xs) name q other = by (not_taken xs name q other) (same x name) refl
  where
    differs : same x name ≡ true → (b : Bool) → same x q ≡ b → same x q ≡ false
    differs t true e = absurd (true≢false (sym (ap (λ (n : Name). same n name) (sym (same_true x q e)) ∙ t) ∙ other))
    differs t false e = e

    by : times (filter (λ x. not (same x name)) xs) q ≡ times xs q → (b : Bool) → same x name ≡ b → times (cond (not b) (x ∷ filter (λ x. not (same x name)) xs) (filter (λ x. not (same x name)) xs)) q ≡ times (x ∷ xs) q
    by rest true t =
        let z : times (x ∷ xs) q ≡ 0 + times xs q = times-cons x xs q ∙ ap (λ b. cond b 1 0 + times xs q) (differs t (same x q) refl) in
        omega (arith, rest, z)
    by rest false t = omega (arith, rest, times-cons x xs q, times-cons x (filter (λ x. not (same x name)) xs) q)

-- ---- a part arrives
module _ (J : Name → Content → Type 0) (a b : Cells) (j : Job) (is : IsJob j) (ascending : (q : Name) → times (meta_names j.want.files) q ≤ 1) (name : Name) (missing : 0 < times j.missing name)
    (same_reads : (q : Name) → 0 < times (job_names j) q → (b q).now ≡ (a q).now) (here : J name (b (temp_name_of name j.number)).now) where
  own_none : times (own_names j.parts) name ≡ 0
  own_none = omega (arith, is.each name, ascending name, missing)

  pub job_arrives : JobReads J a j → JobReads J b (with_part j name)
  job_arrives h = record { each = λ q wanted gone. at q wanted gone (same name q) refl }
    where
      flip : (q : Name) → same name q ≡ false → (t : Bool) → same q name ≡ t → same q name ≡ false
      flip q e true f = absurd (true≢false (sym (ap (same name) (same_true q name f) ∙ same_self name) ∙ e))
      flip q e false f = f

      at : (q : Name) → 0 < times (meta_names j.want.files) q → times (filter (λ x. not (same x name)) j.missing) q ≡ 0 → (t : Bool) → same name q ≡ t → J q (b (present_of (insert_part (record { own = name; now = temp_name_of name j.number }) j.parts) q)).now
      at q wanted gone true e =
          let one : name ≡ q = same_true name q e in
          let now : present_of (insert_part (record { own = name; now = temp_name_of name j.number }) j.parts) name ≡ temp_name_of name j.number = present_put j.parts (parts_below name j.parts) (record { own = name; now = temp_name_of name j.number }) name own_none ∙ ap (λ t. cond t (temp_name_of name j.number) name) (same_self name) in
          subst (λ (x : Name). J x (b (present_of (insert_part (record { own = name; now = temp_name_of name j.number }) j.parts) x)).now) one (subst (λ (x : Name). J name (b x).now) (sym now) here)
      at q wanted gone false e =
          let none : times j.missing q ≡ 0 = sym (not_taken j.missing name q (flip q e (same q name) refl)) ∙ gone in
          subst (λ (x : Name). J q (b x).now) (sym (present_kept j.parts (parts_below name j.parts) (record { own = name; now = temp_name_of name j.number }) q e)) (subst (J q) (sym (same_reads (present_of j.parts q) (present_held j is q wanted none))) (h.each q wanted none))

-- ---- a job begins
pub job_begins : (H J : Name → Content → Type 0) (cells : Cells) (holdings : Holdings) (j : Job) → j.parts ≡ [] → ((q : Name) → 0 < times (meta_names j.want.files) q → times j.missing q ≡ 0 → 0 < count_of holdings q)
    → ((q : Name) → 0 < times (meta_names j.want.files) q → IsLasting q) → ((q : Name) → 0 < times (meta_names j.want.files) q → 0 < count_of holdings q → H q (cells q).now → J q (cells q).now) → HeldReads H cells holdings → JobReads J cells j
job_begins H J cells holdings j empty reused lasting turns h = record {
  each = λ q wanted here.
      subst (λ (ps : List JobPart). J q (cells (present_of ps q)).now) (sym empty) (turns q wanted (reused q wanted here) (h.each q (lasting q wanted) (reused q wanted here)));
}

-- ---- the first parts get their own names
pub under_placed : (ps : List JobPart) (n : ℕ) (q : Name) (a b : Cells) → ((place : ℕ) (was is : JobPart) → part_at ps place ≡ Some was → part_at (placed_to n ps) place ≡ Some is → (b is.now).now ≡ (a was.now).now)
    → (times (own_names ps) q ≡ 0 → (b q).now ≡ (a q).now) → (b (present_of (placed_to n ps) q)).now ≡ (a (present_of ps q)).now
under_placed [] zero q a b reads rest = rest refl
under_placed [] (suc n) q a b reads rest = rest refl
under_placed (y ∷ ys) zero q a b reads rest = by (same y.own q) refl (under_placed ys zero q a b (λ place was is at now. reads (suc place) was is at now))
  where
    by : (t : Bool) → same y.own q ≡ t → ((times (own_names ys) q ≡ 0 → (b q).now ≡ (a q).now) → (b (present_of ys q)).now ≡ (a (present_of ys q)).now) → (b (cond (same y.own q) y.now (present_of ys q))).now ≡ (a (cond (same y.own q) y.now (present_of ys q))).now
    by true e more = ap (λ t. (b (cond t y.now (present_of ys q))).now) e ∙ reads 0 y y refl refl ∙ sym (ap (λ t. (a (cond t y.now (present_of ys q))).now) e)
    by false e more = ap (λ t. (b (cond t y.now (present_of ys q))).now) e
        ∙ more (λ none. rest (times-cons y.own (own_names ys) q ∙ ap (λ t. cond t 1 0 + times (own_names ys) q) e ∙ ap (λ n. 0 + n) none))
        ∙ sym (ap (λ t. (a (cond t y.now (present_of ys q))).now) e)
under_placed (y ∷ ys) (suc n) q a b reads rest = by (same y.own q) refl (under_placed ys n q a b (λ place was is at now. reads (suc place) was is at now))
  where
    by : (t : Bool) → same y.own q ≡ t → ((times (own_names ys) q ≡ 0 → (b q).now ≡ (a q).now) → (b (present_of (placed_to n ys) q)).now ≡ (a (present_of ys q)).now)
        → (b (cond (same y.own q) y.own (present_of (placed_to n ys) q))).now ≡ (a (cond (same y.own q) y.now (present_of ys q))).now
    by true e more = ap (λ t. (b (cond t y.own (present_of (placed_to n ys) q))).now) e ∙ reads 0 y (placed y) refl refl ∙ sym (ap (λ t. (a (cond t y.now (present_of ys q))).now) e)
    by false e more = ap (λ t. (b (cond t y.own (present_of (placed_to n ys) q))).now) e
        ∙ more (λ none. rest (times-cons y.own (own_names ys) q ∙ ap (λ t. cond t 1 0 + times (own_names ys) q) e ∙ ap (λ n. 0 + n) none))
        ∙ sym (ap (λ t. (a (cond t y.now (present_of ys q))).now) e)

-- a name under which a part stands then was one of a part, or is the part's own
pub placed_name : (ps : List JobPart) (n : ℕ) (q : Name) → 0 < times (present_names (placed_to n ps)) q → (0 < times (present_names ps) q) ⊎ (0 < times (own_names ps) q)
placed_name ps zero q some = inl some
placed_name [] (suc n) q some = inl some
placed_name (y ∷ ys) (suc n) q some = by (same y.own q) refl (placed_name ys n q)
  where
    by : (t : Bool) → same y.own q ≡ t → (0 < times (present_names (placed_to n ys)) q → (0 < times (present_names ys) q) ⊎ (0 < times (own_names ys) q)) → (0 < times (present_names (y ∷ ys)) q) ⊎ (0 < times (own_names (y ∷ ys)) q)
    by true e more = inr (let z : times (y.own ∷ own_names ys) q ≡ 1 + times (own_names ys) q = times-cons y.own (own_names ys) q ∙ ap (λ t. cond t 1 0 + times (own_names ys) q) e in omega (arith, z))
    by false e more =
        let z : times (y.own ∷ present_names (placed_to n ys)) q ≡ 0 + times (present_names (placed_to n ys)) q = times-cons y.own (present_names (placed_to n ys)) q ∙ ap (λ t. cond t 1 0 + times (present_names (placed_to n ys)) q) e in
        elim (more (omega (arith, some, z))) [
          | inl h ↦ inl (omega (arith, h, times-cons y.now (present_names ys) q))
          | inr h ↦ inr (omega (arith, h, times-cons y.own (own_names ys) q))
        ]
