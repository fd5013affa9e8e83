-- The lines of a lane in a phase, and that each is run where all of the script are.
use Rattle.std.proofs.Common.{◌≡◌, ◌==◌, ℕ, ◌+◌, ◌<◌, ◌≤◌, Bool, true, false, List, [], ◌∷◌, ◌++◌, refl, sym, ap, ◌∙◌, subst, arith, get_or, drop, length, suc, zero, add-one, drop-cons, if◌then◌else◌}
use Rattle.std.specs.Prelude.{not}
use Rattle.std.specs.List.{flat_map, list_all}
use Rattle.std.proofs.lemmas.List.{append-nil, drop_all}
use Rattle.std.proofs.lemmas.List.Folds.{list_all-append, list_all_at}
use Rattle.std.proofs.lemmas.Bool.{and_parts, and_from, true≢false}
use Rattle.std.proofs.lemmas.Bool.Decides.{nat_tests}
use Rattle.history_tables.proofs.RowLemmas.{by_test}
use Rattle.nrt_base.specs.declared.numbers.LaneNo.{LaneNo}
use Rattle.script_serving.specs.declared.script.Line.{Line}
use Rattle.script_serving.specs.declared.script.Phase.{Phase}
use Rattle.script_serving.specs.Lines.{lines_of_phase, lines_under}
use Rattle.script_serving.specs.Form.{is_phase, is_under, are_apart}
use Rattle.lane_threads.specs.Phases.{lines_in}

-- ---- the lines that stand under a lane

abbrev Lanes : Type 0
Lanes = List (LaneNo × List Line)

none_under : (lane : ℕ) (lanes : Lanes) → list_all (λ other. not (other.0.0 == lane)) lanes ≡ true → lines_under lane lanes ≡ []
none_under lane [] h = refl
none_under lane (l ∷ lanes) h =
    let parts = and_parts (not (l.0.0 == lane)) (list_all (λ (other : LaneNo × List Line). not (other.0.0 == lane)) lanes) h in
    let other : (l.0.0 == lane) ≡ false = grind (arith, nat_tests) in
    ap (λ (b : Bool). if b then l.1 ++ lines_under lane lanes else lines_under lane lanes) other ∙ none_under lane lanes parts.1

found_under : (lane : ℕ) (l : LaneNo × List Line) (lanes : Lanes) → are_apart (l ∷ lanes) ≡ true → l.0.0 ≡ lane → lines_under lane (l ∷ lanes) ≡ l.1
found_under lane l lanes apart is =
    let same : (l.0.0 == lane) ≡ true = grind (arith, nat_tests) in
    let others = (and_parts (list_all (λ (other : LaneNo × List Line). not (other.0.0 == l.0.0)) lanes) (are_apart lanes) apart).0 in
    let none : lines_under lane lanes ≡ [] = none_under lane lanes (subst (λ (n : ℕ). list_all (λ (other : LaneNo × List Line). not (other.0.0 == n)) lanes ≡ true) is others) in
    ap (λ (b : Bool). if b then l.1 ++ lines_under lane lanes else lines_under lane lanes) same ∙ (ap (λ (ls : List Line). l.1 ++ ls) none ∙ append-nil l.1)

-- the search for a lane's lines: they stand among the entries that are left, of which no lane stands twice
pub record Seeking (lane : ℕ) (whole : List Line) (left : Lanes) : Type 0 where
  pub lines : lines_under lane left ≡ whole
  pub apart : are_apart left ≡ true

pub seeking_first : (phase : Phase) (items : Lanes) (lane : ℕ) → is_phase phase ≡ true → items ≡ phase.lanes → Seeking lane (lines_under lane phase.lanes) items
seeking_first phase items lane form e =
    record {
      lines = ap (lines_under lane) e;
      apart = ap are_apart e ∙ (and_parts (list_all is_under phase.lanes) (are_apart phase.lanes) form).1;
    }

module _ (lane : ℕ) (items : Lanes) (k : ℕ) (item : LaneNo × List Line) (is : item ≡ get_or items k item) (within : k < length items) (whole : List Line) (s : Seeking lane whole (drop k items)) where
  dropped : drop k items ≡ item ∷ drop (k + 1) items
  dropped = rw (add-one, drop-cons items k item) (ap (λ (x : LaneNo × List Line). x ∷ drop (suc k) items) (sym is))

  apart_here : are_apart (item ∷ drop (k + 1) items) ≡ true
  apart_here = subst (λ (ls : Lanes). are_apart ls ≡ true) dropped s.apart

  pub sought : item.0.0 ≡ lane → item.1 ≡ whole
  sought same = sym (found_under lane item (drop (k + 1) items) apart_here same) ∙ (sym (ap (lines_under lane) dropped) ∙ s.lines)

  pub seeking_on : (item.0.0 ≡ lane → ⊥) → Seeking lane whole (drop (k + 1) items)
  seeking_on differs =
      let other : (item.0.0 == lane) ≡ false = grind (arith, nat_tests) in
      record {
        lines = sym (ap (λ (b : Bool). if b then item.1 ++ lines_under lane (drop (k + 1) items) else lines_under lane (drop (k + 1) items)) other)
            ∙ (sym (ap (lines_under lane) dropped) ∙ s.lines);
        apart = (and_parts (list_all (λ (l : LaneNo × List Line). not (l.0.0 == item.0.0)) (drop (k + 1) items)) (are_apart (drop (k + 1) items)) apart_here).1;
      }

-- a lane that is not found has no lines
pub seeking_last : (lane : ℕ) (items : Lanes) (k : ℕ) (whole : List Line) → length items ≤ k → Seeking lane whole (drop k items) → [] ≡ whole
seeking_last lane items k whole all s = ap (lines_under lane) (sym (drop_all k items all)) ∙ s.lines

-- ---- lines that all pass a test

module _ (p : Line → Bool) where
  pub line_passes : (lines : List Line) (i : ℕ) (line : Line) → line ≡ get_or lines i line → i < length lines → list_all p lines ≡ true → p line ≡ true
  line_passes lines i line item within all = by_test (p line) (λ b. b ≡ true) (λ yes. refl) (λ no. absurd (true≢false (sym all ∙ list_all_at p lines i line within (ap p (sym item) ∙ no))))

  two_pass : (xs ys : List Line) → list_all p (xs ++ ys) ≡ true → (list_all p xs ≡ true) × (list_all p ys ≡ true)
  two_pass xs ys h = and_parts (list_all p xs) (list_all p ys) (sym (list_all-append p xs ys) ∙ h)

  under_passes : (lane : ℕ) (lanes : Lanes) → list_all p (flat_map (λ l. l.1) lanes) ≡ true → list_all p (lines_under lane lanes) ≡ true
  under_passes lane [] h = refl
  under_passes lane (l ∷ lanes) h =
      let parts = two_pass l.1 (flat_map (λ (l : LaneNo × List Line). l.1) lanes) h in
      by_lane (l.0.0 == lane) parts.0 (under_passes lane lanes parts.1)
    where
      by_lane : (b : Bool) → list_all p l.1 ≡ true → list_all p (lines_under lane lanes) ≡ true → list_all p (if b then l.1 ++ lines_under lane lanes else lines_under lane lanes) ≡ true
      by_lane true first rest = list_all-append p l.1 (lines_under lane lanes) ∙ and_from (list_all p l.1) (list_all p (lines_under lane lanes)) first rest
      by_lane false first rest = rest

  phase_passes : (phases : List Phase) (k : ℕ) (d : Phase) → k < length phases → list_all p (lines_in phases) ≡ true → list_all p (lines_of_phase (get_or phases k d)) ≡ true
  phase_passes [] k d within h = absurd (omega arith)
  phase_passes (x ∷ phases) zero d within h = (two_pass (lines_of_phase x) (lines_in phases) h).0
  phase_passes (x ∷ phases) (suc k) d within h = phase_passes phases k d (omega arith) (two_pass (lines_of_phase x) (lines_in phases) h).1

  -- the lines of a lane in a phase of the script
  pub part_passes : (phases : List Phase) (k : ℕ) (phase : Phase) → phase ≡ get_or phases k phase → k < length phases → list_all p (lines_in phases) ≡ true
      → (lane : ℕ) → list_all p (lines_under lane phase.lanes) ≡ true
  part_passes phases k phase is within h lane =
      under_passes lane phase.lanes (subst (λ (x : Phase). list_all p (lines_of_phase x) ≡ true) (sym is) (phase_passes phases k phase within h))
