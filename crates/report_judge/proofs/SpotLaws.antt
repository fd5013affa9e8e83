-- A line that stands at a spot is the script's line of its number.
use Rattle.std.proofs.Common.{◌≡◌, ℕ, zero, suc, true, false, ◌||◌, not, ◌==◌, nat_eq, List, [], ◌∷◌, ◌++◌, Option, Some, None, inl, inr, refl, sym, ap, subst, ◌∙◌, arith}
use Rattle.std.specs.Prelude.{◌⊎◌}
use Rattle.std.specs.List.{slice_get, flat_map, list_all}
use Rattle.std.proofs.lemmas.Bool.{and_parts, or_right}
use Rattle.std.proofs.lemmas.Bool.Decides.{nat_tests}
use Rattle.nrt_base.specs.declared.numbers.At.{At}
use Rattle.nrt_base.specs.declared.numbers.LaneNo.{LaneNo}
use Rattle.history_rules.specs.Lines.{same_at}
use Rattle.script_serving.specs.declared.script.Line.{Line}
use Rattle.script_serving.specs.declared.script.Phase.{Phase}
use Rattle.script_serving.specs.declared.script.Script.{Script}
use Rattle.script_serving.specs.Form.{are_distinct, IsInForm}
use Rattle.script_serving.specs.Lines.{lines_of, lines_of_phase, has_line}
use Rattle.report_judge.specs.Places.{line_numbered}
use Rattle.report_judge.specs.Spots.{line_at, IsPhaseOf}
use Rattle.report_judge.specs.declared.spots.Spot.{Spot}

-- the line is among these
abbrev Among : Line → List Line → Type 0
Among line [] = ⊥
Among line (x ∷ xs) = (x ≡ line) ⊎ Among line xs

in_front : (line : Line) (xs ys : List Line) → Among line xs → Among line (xs ++ ys)
in_front line [] ys h = absurd h
in_front line (x ∷ xs) ys (inl same) = inl same
in_front line (x ∷ xs) ys (inr there) = inr (in_front line xs ys there)

behind : (line : Line) (xs ys : List Line) → Among line ys → Among line (xs ++ ys)
behind line [] ys h = h
behind line (x ∷ xs) ys h = inr (behind line xs ys h)

item_among : (line : Line) (xs : List Line) (i : ℕ) → slice_get xs i ≡ Some line → Among line xs
item_among line [] i h = absurd (cc)
item_among line (x ∷ xs) zero h = inl cc
item_among line (x ∷ xs) (suc i) h = inr (item_among line xs i h)

-- a line of one of several lists is among all
among_all : {X : Type 0} (f : X → List Line) (line : Line) (xs : List X) (i : ℕ) (x : X) → slice_get xs i ≡ Some x → Among line (f x) → Among line (flat_map f xs)
among_all f line [] i x h there = absurd (cc)
among_all f line (y ∷ xs) zero x h there =
    let same : y ≡ x = cc in
    in_front line (f y) (flat_map f xs) (subst (λ z. Among line (f z)) (sym same) there)
among_all f line (y ∷ xs) (suc i) x h there = behind line (f y) (flat_map f xs) (among_all f line xs i x h there)

among_lanes : (line : Line) (lanes : List (LaneNo × List Line)) (l i : ℕ) (lane : LaneNo × List Line) → slice_get lanes l ≡ Some lane → slice_get lane.1 i ≡ Some line
    → Among line (flat_map (λ (lane : LaneNo × List Line). lane.1) lanes)
among_lanes line lanes l i lane there item = among_all (λ (lane : LaneNo × List Line). lane.1) line lanes l lane there (item_among line lane.1 i item)

-- what stands at a spot
record Stands (phases : List Phase) (spot : Spot) (line : Line) : Type 0 where
  phase : Phase
  there : slice_get phases spot.phase ≡ Some phase
  among : Among line (lines_of_phase phase)

stands_at : (phases : List Phase) (spot : Spot) (line : Line) → line_at phases spot ≡ Some line → Stands phases spot line
stands_at phases spot line h = by_phase (slice_get phases spot.phase) refl h
  where
    by_lane : (phase : Phase) → slice_get phases spot.phase ≡ Some phase → (o : Option (LaneNo × List Line)) → slice_get phase.lanes spot.lane ≡ o
        → ◌≡◌ {A = Option Line} (elim o [ None ↦ None | Some lane ↦ slice_get lane.1 spot.place ]) (Some line) → Stands phases spot line
    by_lane phase there None e h = absurd (cc)
    by_lane phase there (Some lane) e h = record { phase = phase; there = there; among = among_lanes line phase.lanes spot.lane spot.place lane e h }

    by_phase : (o : Option Phase) → slice_get phases spot.phase ≡ o
        → ◌≡◌ {A = Option Line} (elim o [ None ↦ None | Some phase ↦ elim (slice_get phase.lanes spot.lane) [ None ↦ None | Some lane ↦ slice_get lane.1 spot.place ] ]) (Some line)
        → Stands phases spot line
    by_phase None e h = absurd (cc)
    by_phase (Some phase) e h = by_lane phase e (slice_get phase.lanes spot.lane) refl h

-- a line is among others that have another number than x
other_number : (line x : Line) (xs : List Line) → list_all (λ (other : Line). not (other.at.line.0 == x.at.line.0)) xs ≡ true → Among line xs → (x.at.line.0 == line.at.line.0) ≡ false
other_number line x [] all there = absurd there
other_number line x (y ∷ xs) all there =
    let parts = and_parts (not (y.at.line.0 == x.at.line.0)) (list_all (λ (other : Line). not (other.at.line.0 == x.at.line.0)) xs) all in
    elim there [
      | inl same ↦ turned (subst (λ (z : Line). not (z.at.line.0 == x.at.line.0) ≡ true) same parts.0)
      | inr later ↦ other_number line x xs parts.1 later
    ]
  where
    turned : not (line.at.line.0 == x.at.line.0) ≡ true → (x.at.line.0 == line.at.line.0) ≡ false
    turned h = grind (arith, nat_tests)

-- among lines of different numbers the line is the one that its number has
its_own : (line : Line) (xs : List Line) → are_distinct xs ≡ true → Among line xs → line_numbered line.at.line.0 xs ≡ Some line
its_own line [] distinct there = absurd there
its_own line (x ∷ xs) distinct there =
    let parts = and_parts (list_all (λ (other : Line). not (other.at.line.0 == x.at.line.0)) xs) (are_distinct xs) distinct in
    elim there [
      | inl same ↦ subst (λ (z : Line). line_numbered z.at.line.0 (x ∷ xs) ≡ Some z) same (rw (self x.at.line.0) refl)
      | inr later ↦ rw (other_number line x xs parts.0 later) (its_own line xs parts.1 later)
    ]
  where
    self : (n : ℕ) → nat_eq n n ≡ true
    self n = grind (arith, nat_tests)

has_own : (line : Line) (xs : List Line) (at : At) → same_at line.at at ≡ true → Among line xs → has_line xs at ≡ true
has_own line [] at same there = absurd there
has_own line (x ∷ xs) at same (inl is) = subst (λ (z : Line). (same_at z.at at || has_line xs at) ≡ true) (sym is) (rw same refl)
has_own line (x ∷ xs) at same (inr later) = or_right (same_at x.at at) (has_line xs at) (has_own line xs at same later)

-- the line at a spot is the script's line of its number
pub numbered_there : (script : Script) (spot : Spot) (line : Line) (n : ℕ) → IsInForm script → line_at script.phases spot ≡ Some line → line.at.line.0 ≡ n → line_numbered n (lines_of script) ≡ Some line
numbered_there script spot line n form there number =
    let stands = stands_at script.phases spot line there in
    let among : Among line (lines_of script) = among_all lines_of_phase line script.phases spot.phase stands.phase stands.there stands.among in
    ap (λ (k : ℕ). line_numbered k (lines_of script)) (sym number) ∙ its_own line (lines_of script) form.distinct among

-- the phase of a spot has the line that stands there
pub phase_there : (script : Script) (spot : Spot) (line : Line) (at : At) → line_at script.phases spot ≡ Some line → same_at line.at at ≡ true → IsPhaseOf script at spot.phase
phase_there script spot line at there same =
    let stands = stands_at script.phases spot line there in
    record { phase = stands.phase; there = stands.there; has = has_own line (lines_of_phase stands.phase) at same stands.among }
