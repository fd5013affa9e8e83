-- A line that is no mark goes to the script.
use Rattle.std.proofs.Common.{◌≡◌, ℕ, Bool, true, false, ◌==◌, List, [], ◌∷◌, ◌++◌, refl, sym, ap, subst, ◌∙◌, append_assoc, append-nil}
use Rattle.report_reading.proofs.LineLaws.{lines_joined}
use Rattle.report_reading.specs.Cuts.{first_line, behind_line}
use Rattle.report_judge.specs.Sources.{is_mark, before_mark, behind_mark}

-- within a line
goes_within : (bytes : List ℕ) → (before_mark false bytes ≡ first_line bytes ++ before_mark true (behind_line bytes)) × (behind_mark false bytes ≡ behind_mark true (behind_line bytes))
goes_within [] = (refl, refl)
goes_within (b ∷ bytes) = by_test (b == 10) refl (goes_within bytes)
  where
    by_test : (t : Bool) → (b == 10) ≡ t → (before_mark false bytes ≡ first_line bytes ++ before_mark true (behind_line bytes)) × (behind_mark false bytes ≡ behind_mark true (behind_line bytes))
        → (before_mark false (b ∷ bytes) ≡ first_line (b ∷ bytes) ++ before_mark true (behind_line (b ∷ bytes))) × (behind_mark false (b ∷ bytes) ≡ behind_mark true (behind_line (b ∷ bytes)))
    by_test true e ih = rw e (refl, refl)
    by_test false e ih = rw e (ap (λ (t : List ℕ). b ∷ t) ih.0, ih.1)

-- a line that is no mark goes to the script, and the rest is cut
pub goes_on : (bytes : List ℕ) → is_mark (first_line bytes) ≡ false
    → (before_mark true bytes ≡ first_line bytes ++ before_mark true (behind_line bytes)) × (behind_mark true bytes ≡ behind_mark true (behind_line bytes))
goes_on [] h = (refl, refl)
goes_on (b ∷ bytes) h = by_test (b == 10) refl (goes_within bytes)
  where
    by_test : (t : Bool) → (b == 10) ≡ t → (before_mark false bytes ≡ first_line bytes ++ before_mark true (behind_line bytes)) × (behind_mark false bytes ≡ behind_mark true (behind_line bytes))
        → (before_mark true (b ∷ bytes) ≡ first_line (b ∷ bytes) ++ before_mark true (behind_line (b ∷ bytes))) × (behind_mark true (b ∷ bytes) ≡ behind_mark true (behind_line (b ∷ bytes)))
    by_test true e ih = rw h (rw e (refl, refl))
    by_test false e ih = rw h (rw e (ap (λ (t : List ℕ). b ∷ t) ih.0, ih.1))

-- a mark ends the script
ends_there : (text : List ℕ) → is_mark (first_line text) ≡ true → (before_mark true text ≡ []) × (behind_mark true text ≡ behind_line text)
ends_there [] h = (refl, refl)
ends_there (b ∷ bytes) h = rw h (refl, refl)

-- what is left begins a line, and what stands before it goes to the script
pub record IsPassed (bytes left : List ℕ) : Type 0 where
  pub front : List ℕ
  pub whole : front ++ left ≡ bytes
  pub script : before_mark true bytes ≡ front ++ before_mark true left
  pub report : behind_mark true bytes ≡ behind_mark true left

pub none_passed : (bytes : List ℕ) → IsPassed bytes bytes
none_passed bytes = record { front = []; whole = refl; script = refl; report = refl }

-- one more line that is no mark is passed
pub passed_next : (bytes left line rest : List ℕ) → IsPassed bytes left → line ≡ first_line left → rest ≡ behind_line left → is_mark line ≡ false → IsPassed bytes rest
passed_next bytes left line rest passed cut behind other =
    let next = goes_on left (ap is_mark (sym cut) ∙ other) in
    record {
      front = passed.front ++ first_line left;
      whole = append_assoc passed.front (first_line left) rest ∙ (ap (λ (t : List ℕ). passed.front ++ (first_line left ++ t)) behind ∙ (ap (λ (t : List ℕ). passed.front ++ t) (lines_joined left) ∙ passed.whole));
      script =
          passed.script ∙ (ap (λ (t : List ℕ). passed.front ++ t) next.0
          ∙ (ap (λ (t : List ℕ). passed.front ++ (first_line left ++ before_mark true t)) (sym behind) ∙ sym (append_assoc passed.front (first_line left) (before_mark true rest))));
      report = passed.report ∙ (next.1 ∙ ap (behind_mark true) (sym behind));
    }

-- what is left from a mark on, or at the end
pub from_there : (bytes left : List ℕ) → IsPassed bytes left → (before_mark true left ≡ []) × (behind_mark true left ≡ behind_line left)
    → (before_mark true bytes ++ left ≡ bytes) × (behind_line left ≡ behind_mark true bytes)
from_there bytes left passed there =
    (ap (λ (t : List ℕ). t ++ left) (passed.script ∙ (ap (λ (t : List ℕ). passed.front ++ t) there.0 ∙ append-nil passed.front)) ∙ passed.whole, sym (passed.report ∙ there.1))

pub from_mark : (bytes left line : List ℕ) → IsPassed bytes left → line ≡ first_line left → is_mark line ≡ true
    → (before_mark true bytes ++ left ≡ bytes) × (behind_line left ≡ behind_mark true bytes)
from_mark bytes left line passed cut is = from_there bytes left passed (ends_there left (ap is_mark (sym cut) ∙ is))

pub from_end : (bytes left : List ℕ) → IsPassed bytes left → left ≡ [] → (before_mark true bytes ++ left ≡ bytes) × (behind_line left ≡ behind_mark true bytes)
from_end bytes left passed none = from_there bytes left passed (subst (λ (t : List ℕ). (before_mark true t ≡ []) × (behind_mark true t ≡ behind_line t)) (sym none) (refl, refl))
