-- The phases of a script: their lines under their lanes, and what was read of them so far.
use Rattle.std.proofs.Common.{◌≡◌, ◌<◌, ◌≤◌, ◌+◌, ℕ, zero, suc, Bool, true, false, List, [], ◌∷◌, ◌++◌, length, map, filter, refl, ap, ◌∙◌, sym, subst, inl, inr, arith, append_assoc, Ok}
use Rattle.std.specs.Prelude.{◌==◌, not, if◌then◌else◌}
use Rattle.std.proofs.lemmas.List.{append-nil, map-append}
use Rattle.std.proofs.lemmas.Bool.Decides.{nat_tests}
use Rattle.nrt_base.specs.declared.numbers.LaneNo.{LaneNo}
use Rattle.script_text.specs.declared.fault.LineFault.{LineFault}
use Rattle.script_text.specs.declared.counted.Counted.{Counted}
use Rattle.script_serving.specs.declared.script.Line.{Line}
use Rattle.script_serving.specs.declared.script.Phase.{Phase}
use Rattle.script_text.specs.declared.lane_lines.Later.{Later}
use Rattle.script_text.specs.declared.lane_lines.Later.TheVariants as later_read
use Rattle.script_text.specs.Grammar.{Statement, SpellsLine, SpellsPhases, IsJoin, of_lane, lane_entry, lanes_from, phase_of, words_in, is_promotion, promotions_among, AreAllowed}
use Rattle.script_text.specs.Refused.{later, counted_with, IsFirstCause, IsRight, RefusesAmong}
use Rattle.script_text.specs.Reading.{TakesLater, IsLaterRead, ReadsPhases}
use Rattle.script_text.proofs.CauseLemmas.{right_is_few}

-- the lines of the other lanes
abbrev pub of_others : ℕ → List Line → List Line
of_others lane lines = filter (λ line. not (line.at.lane.0 == lane)) lines

-- the lines of a later lane are among those of the others
of_later : (lane k : ℕ) (lines : List Line) → lane < k → of_lane k (of_others lane lines) ≡ of_lane k lines
of_later lane k [] h = refl
of_later lane k (line ∷ lines) h = by_tests (line.at.lane.0 == lane) (line.at.lane.0 == k) refl refl (of_later lane k lines h)
  where
    by_tests : (t u : Bool) → line.at.lane.0 == lane ≡ t → line.at.lane.0 == k ≡ u → of_lane k (of_others lane lines) ≡ of_lane k lines
        → of_lane k (of_others lane (line ∷ lines)) ≡ of_lane k (line ∷ lines)
    by_tests true true e f ih = absurd (grind (arith, nat_tests))
    by_tests true false e f ih = rw (e, f) ih
    by_tests false true e f ih = rw (e, f) (ap (λ (ls : List Line). line ∷ ls) ih)
    by_tests false false e f ih = rw (e, f) ih

lanes_of_others : (more lane k : ℕ) (lines : List Line) → lane < k → lanes_from more k (of_others lane lines) ≡ lanes_from more k lines
lanes_of_others zero lane k lines h = refl
lanes_of_others (suc more) lane k lines h =
    let here : of_lane k (of_others lane lines) ≡ of_lane k lines = of_later lane k lines h in
    let there : lanes_from more (k + 1) (of_others lane lines) ≡ lanes_from more (k + 1) lines = lanes_of_others more lane (k + 1) lines (omega arith) in
    rw (here, there) refl

-- one more lane is taken out of the lines that are left
pub next_lane : (all lanes lanes' : List (LaneNo × List Line)) (more more' lane : ℕ) (left mine others : List Line)
    → all ≡ lanes ++ lanes_from more lane left → more ≡ suc more' → mine ≡ of_lane lane left → others ≡ of_others lane left
    → lanes' ≡ lanes ++ lane_entry lane mine → all ≡ lanes' ++ lanes_from more' (lane + 1) others
next_lane all lanes lanes' more more' lane left mine others e m is rest pushed =
    e
    ∙ (ap (λ (n : ℕ). lanes ++ lanes_from n lane left) m
    ∙ (sym (append_assoc lanes (lane_entry lane (of_lane lane left)) (lanes_from more' (lane + 1) left))
    ∙ (ap (λ (ls : List (LaneNo × List Line)). ls ++ lanes_from more' (lane + 1) left) (ap (λ (ls : List Line). lanes ++ lane_entry lane ls) (sym is) ∙ sym pushed)
    ∙ ap (λ (ls : List (LaneNo × List Line)). lanes' ++ ls)
    (sym (lanes_of_others more' lane (lane + 1) left (omega arith)) ∙ ap (λ (ls : List Line). lanes_from more' (lane + 1) ls) (sym rest)))))

-- what was read of the statements of a text, of which some are left: phases that have ended, and lines of the last one
pub record SoFar (size : ℕ) (log : Bool) (start : Counted) (all : List Statement) (before : Counted) (left : List Statement) (phases : List Phase) (lines : List Line) : Type 0 where
  pub ended : List (List Line)
  pub phased : phases ≡ map phase_of ended
  pub spelled : (rest : List Line) (more : List (List Line)) → SpellsPhases size left (rest ∷ more) → SpellsPhases size all (ended ++ (lines ++ rest) ∷ more)
  pub refused : (n : ℕ) (cause : LineFault) → RefusesAmong (later size log) before left n cause → RefusesAmong (later size log) start all n cause
  pub counted : start.statements + length all ≡ before.statements + length left
  pub promoted : start.promotions + promotions_among all ≡ before.promotions + promotions_among left
  pub few : AreAllowed log before.statements before.promotions
  pub within : before.promotions ≤ before.statements

headers_few : (log : Bool) (statements promotions : ℕ) → statements ≤ 3 → promotions ≡ 0 → AreAllowed log statements promotions
headers_few true statements promotions few none = record { statements = omega (arith, few); promotions = λ e. omega (arith, none) }
headers_few false statements promotions few none = record { statements = omega (arith, few); promotions = λ e. omega (arith, none) }

pub so_far_at_start : (size : ℕ) (log : Bool) (start : Counted) (all : List Statement) → start.statements ≤ 3 → start.promotions ≡ 0 → SoFar size log start all start all [] []
so_far_at_start size log start all few none = record {
  ended = [];
  phased = refl;
  spelled = λ rest more h. h;
  refused = λ n cause h. h;
  counted = refl;
  promoted = refl;
  few = headers_few log start.statements start.promotions few none;
  within = omega (arith, none);
}

-- one promotion more at most
promotions_within : (b : Bool) (statements promotions : ℕ) → promotions ≤ statements → promotions + (if b then 1 else 0) ≤ statements + 1
promotions_within true statements promotions h = omega (arith, h)
promotions_within false statements promotions h = omega (arith, h)

promotions_on : (b : Bool) (start all before left : ℕ) → start + all ≡ before + ((if b then 1 else 0) + left) → start + all ≡ before + (if b then 1 else 0) + left
promotions_on true start all before left e = omega (arith, e)
promotions_on false start all before left e = omega (arith, e)

module _ (size : ℕ) (log : Bool) (start before : Counted) (all left : List Statement) (statement : Statement) (phases phases' : List Phase) (lines lines' : List Line)
    (so : SoFar size log start all before (statement ∷ left) phases lines) (right : IsRight (later size log) before statement) where
  few_next : AreAllowed log (counted_with before statement).statements (counted_with before statement).promotions
  few_next = right_is_few (later size log) before statement right so.few

  within_next : (counted_with before statement).promotions ≤ (counted_with before statement).statements
  within_next = promotions_within (is_promotion (words_in statement.line)) before.statements before.promotions so.within

  promoted_next : start.promotions + promotions_among all ≡ (counted_with before statement).promotions + promotions_among left
  promoted_next = promotions_on (is_promotion (words_in statement.line)) start.promotions (promotions_among all) before.promotions (promotions_among left) so.promoted

  -- a line is read
  with_line : (line : Line) → SpellsLine size statement line → phases' ≡ phases → lines' ≡ lines ++ line ∷ [] → SoFar size log start all (counted_with before statement) left phases' lines'
  with_line line spells same more = record {
    ended = so.ended;
    phased = same ∙ so.phased;
    spelled = λ rest others h.
        subst (λ (ls : List Line). SpellsPhases size all (so.ended ++ ls ∷ others))
        (sym (append_assoc lines (line ∷ []) rest) ∙ ap (λ (ls : List Line). ls ++ rest) (sym more))
        (so.spelled (line ∷ rest) others (spells, h));
    refused = λ n cause h. so.refused n cause (inr (right, h));
    counted = omega (arith, so.counted);
    promoted = promoted_next;
    few = few_next;
    within = within_next;
  }

  -- a join is read
  with_join : IsJoin statement → phases' ≡ phases ++ phase_of lines ∷ [] → lines' ≡ [] → SoFar size log start all (counted_with before statement) left phases' lines'
  with_join is more none = record {
    ended = so.ended ++ lines ∷ [];
    phased = more ∙ (ap (λ (ps : List Phase). ps ++ phase_of lines ∷ []) so.phased ∙ sym (map-append phase_of so.ended (lines ∷ [])));
    spelled = λ rest others h.
        subst (λ (ls : List (List Line)). SpellsPhases size all ls)
        (ap (λ (ls : List Line). so.ended ++ ls ∷ rest ∷ others) (append-nil lines)
        ∙ (sym (append_assoc so.ended (lines ∷ []) (rest ∷ others)) ∙ ap (λ (ls : List Line). (so.ended ++ lines ∷ []) ++ (ls ++ rest) ∷ others) (sym none)))
        (so.spelled [] (rest ∷ others) (is, h));
    refused = λ n cause h. so.refused n cause (inr (right, h));
    counted = omega (arith, so.counted);
    promoted = promoted_next;
    few = few_next;
    within = within_next;
  }

-- a statement is read
pub so_far_later : (size : ℕ) (log : Bool) (start before : Counted) (all left : List Statement) (statement : Statement) (phases phases' : List Phase) (lines lines' : List Line) (read : Later)
    → SoFar size log start all before (statement ∷ left) phases lines → IsLaterRead size log before statement (Ok read) → TakesLater read phases lines phases' lines'
    → SoFar size log start all (counted_with before statement) left phases' lines'
so_far_later size log start before all left statement phases phases' lines lines' later_read.Join so is takes =
    with_join size log start before all left statement phases phases' lines lines' so is.0 is.1 takes.0 takes.1
so_far_later size log start before all left statement phases phases' lines lines' (later_read.Line line) so is takes =
    with_line size log start before all left statement phases phases' lines lines' so is.0 line is.1 takes.0 takes.1

-- no statement is left
pub so_far_at_end : (size : ℕ) (log : Bool) (start before : Counted) (all : List Statement) (phases phases' : List Phase) (lines : List Line)
    → SoFar size log start all before [] phases lines → phases' ≡ phases ++ phase_of lines ∷ [] → ReadsPhases size log start all phases'
so_far_at_end size log start before all phases phases' lines so more = record {
  lines = so.ended ++ lines ∷ [];
  spelled = subst (λ (ls : List Line). SpellsPhases size all (so.ended ++ ls ∷ [])) (append-nil lines) (so.spelled [] [] refl);
  phased = more ∙ (ap (λ (ps : List Phase). ps ++ phase_of lines ∷ []) so.phased ∙ sym (map-append phase_of so.ended (lines ∷ [])));
  few = record {
    statements = let few = so.few.statements in omega (arith, so.counted, few);
    promotions = λ e. let few = so.few.promotions e in omega (arith, so.promoted, few);
  };
}

-- a statement is refused
pub so_far_refused : (size : ℕ) (log : Bool) (start before : Counted) (n : ℕ) (all left : List Statement) (statement : Statement) (phases : List Phase) (lines : List Line) (cause : LineFault)
    → SoFar size log start all before (statement ∷ left) phases lines → IsFirstCause (later size log) before statement cause → n ≡ statement.number
    → RefusesAmong (later size log) start all n cause
so_far_refused size log start before n all left statement phases lines cause so is e = so.refused n cause (inl (e, is))
