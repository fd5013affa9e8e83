-- A name is settled or forgotten, and each name that has a past stays noted.
use Rattle.std.proofs.Common.{◌≡◌, Bool, true, false, ◌||◌, cond, is_some, List, [], ◌∷◌, ◌++◌, Option, None, Result, Ok, Err, refl, sym, ap, subst, ◌∙◌, true≢false}
use Rattle.std.specs.Prelude.{OnOk, OnErr}
use Rattle.std.proofs.Math.Bool.{or-true}
use Rattle.std.proofs.lemmas.Cmp.{nat_list_eq_equiv}
use Rattle.std.proofs.lemmas.List.Folds.{list_any-append}
use Rattle.std.specs.BTreeMap.{UpdatesBy, get}
use Rattle.std.specs.Cmp.Lexicographic.{slice_cmp}
use Rattle.std.specs.Ordering.{nat_cmp, is_eq}
use Rattle.std.proofs.lemmas.Map.Text.{is_eq-slice_cmp}
use Rattle.disk_model.specs.Disk.{Name, same, put, is_among}
use Rattle.disk_model.proofs.CellLemmas.{same_true, put_here}
use Rattle.disk_memory.specs.declared.changed.Changed.{Changed}
use Rattle.disk_memory.specs.Changed.{has_changed, AreAllNoted}
use Rattle.disk_memory.specs.Held.{Held, untouched, content_of, held_settled}
use Rattle.disk_memory.specs.Table.{Table, held_at, held_in}
use Rattle.disk_memory.proofs.TableLemmas.{Slots}
use Rattle.disk_memory.proofs.WalkLemmas.{settled_gone}

-- ---- one name is settled
held_at-none : (t : Bool) (rest : Option Held) → held_at (cond t None rest) ≡ cond t untouched (held_at rest)
held_at-none true rest = refl
held_at-none false rest = refl

-- an entry is taken away
pub held_forgotten : (old new : Slots) (name : Name) → UpdatesBy (slice_cmp nat_cmp) (slice_cmp nat_cmp name) old new None → held_in new.entries ≡ put (held_in old.entries) name untouched
held_forgotten old new name updates =
    λ i q. (ap held_at (updates.0 q) ∙ held_at-none (is_eq (slice_cmp nat_cmp name q)) (get (slice_cmp nat_cmp) old q) ∙ ap (λ t. cond t untouched (held_in old.entries q)) (is_eq-slice_cmp name q)) i

-- a name that is settled, and under which nothing is, may be forgotten
pub settled_away : (old mid new : Table) (name : Name) → mid ≡ put old name (held_settled (old name)) → is_some (content_of (mid name).state) ≡ false → new ≡ put mid name untouched
    → new ≡ put old name (held_settled (old name))
settled_away old mid new name first none second =
    let here : mid name ≡ held_settled (old name) = ap (λ (t : Table). t name) first ∙ put_here old name (held_settled (old name)) in
    let gone : held_settled (old name) ≡ untouched = settled_gone (old name) (ap (λ (h : Held). is_some (content_of h.state)) (sym here) ∙ none) in
    second ∙ ap (λ (t : Table). put t name untouched) first ∙ (λ i q. by (same name q) gone (old q) i)
  where
    by : (t : Bool) → held_settled (old name) ≡ untouched → (h : Held) → cond t untouched (cond t (held_settled (old name)) h) ≡ cond t (held_settled (old name)) h
    by true gone h = sym gone
    by false gone h = refl

-- ---- names that are noted
-- a name is noted
pub added_here : (all : Bool) (old new : List Name) (x : Name) → new ≡ old ++ x ∷ [] → (all || is_among new x) ≡ true
added_here true old new x e = refl
added_here false old new x e =
    ap (λ ns. is_among ns x) e ∙ list_any-append (λ y. same y x) old (x ∷ []) ∙ ap (λ t. is_among old x || (t || false)) (nat_list_eq_equiv.refl x) ∙ or-true (is_among old x)

not_before : (c d : Changed) (q : Name) → (has_changed c q ≡ true → has_changed d q ≡ true) → has_changed d q ≡ false → has_changed c q ≡ false
not_before c d q kept off = by (has_changed c q) refl
  where
    by : (t : Bool) → has_changed c q ≡ t → t ≡ false
    by true e = absurd (true≢false (sym (kept e) ∙ off))
    by false e = refl

module _ (c d : Changed) (old new : List (Name × Held)) (noted : AreAllNoted c old) (kept : (q : Name) → has_changed c q ≡ true → has_changed d q ≡ true) where
  -- nothing changes
  pub noted_still : held_in new ≡ held_in old → AreAllNoted d new
  noted_still is q off = ap (λ (t : Table). (t q).past) is ∙ noted q (not_before c d q (kept q) off)

  apart : (table : Table) (name : Name) (h : Held) (q : Name) → has_changed d name ≡ true → has_changed d q ≡ false → (put table name h q).past ≡ (table q).past
  apart table name h q here off = by (same name q) refl
    where
      by : (t : Bool) → same name q ≡ t → (cond t h (table q)).past ≡ (table q).past
      by true e = absurd (true≢false (sym (subst (λ (k : Name). has_changed d k ≡ true) (same_true name q e) here) ∙ off))
      by false e = refl

  -- a name that is noted changes
  pub noted_change : (name : Name) (h : Held) → has_changed d name ≡ true → held_in new ≡ put (held_in old) name h → AreAllNoted d new
  noted_change name h here is q off = ap (λ (t : Table). (t q).past) is ∙ apart (held_in old) name h q here off ∙ noted q (not_before c d q (kept q) off)

  -- two names that are noted change
  pub noted_changes : (from to : Name) (h k : Held) → has_changed d from ≡ true → has_changed d to ≡ true → held_in new ≡ put (put (held_in old) to h) from k → AreAllNoted d new
  noted_changes from to h k first second is q off =
      ap (λ (t : Table). (t q).past) is ∙ apart (put (held_in old) to h) from k q first off ∙ apart (held_in old) to h q second off ∙ noted q (not_before c d q (kept q) off)

  -- one may change, or nothing does
  pub noted_on : {T E : Type 0} (r : Result T E) (name : Name) (h : Held) → has_changed d name ≡ true → OnOk r (held_in new ≡ put (held_in old) name h) → OnErr r (held_in new ≡ held_in old) → AreAllNoted d new
  noted_on (Ok x) name h here ok err = noted_change name h here ok
  noted_on (Err e) name h here ok err = noted_still err

  -- two may change, or nothing does
  pub noted_on_both : {T E : Type 0} (r : Result T E) (from to : Name) (h k : Held) → has_changed d from ≡ true → has_changed d to ≡ true → OnOk r (held_in new ≡ put (put (held_in old) to h) from k) → OnErr r (held_in new ≡ held_in old) → AreAllNoted d new
  noted_on_both (Ok x) from to h k first second ok err = noted_changes from to h k first second ok
  noted_on_both (Err e) from to h k first second ok err = noted_still err
