-- No bytes are both a script and refused, and bytes have one first refused line at most.
use Rattle.std.proofs.Common.{◌≡◌, ℕ, ◌<◌, ◌≤◌, ◌+◌, Bool, true, false, List, [], ◌∷◌, length, refl, ap, ◌∙◌, sym, subst, arith, inl, inr, Err}
use Rattle.std.specs.Prelude.{◌||◌, ◌^◌, not, nat_lt, codes, bytes_eq, if◌then◌else◌}
use Rattle.std.specs.Fmt.{decimal}
use Rattle.std.proofs.Math.Bool.{or-true}
use Rattle.std.proofs.lemmas.Bool.{cases_order, lt-ltb, and_from}
use Rattle.nrt_base.proofs.Plain.{between_high}
use Rattle.text_query.specs.declared.fault.QueryFault.{QueryFault}
use Rattle.text_query.specs.declared.fault.QueryFault.TheVariants.{Memory, Empty, Syntax, TooDeep, TooMany}
use Rattle.text_query.specs.Answers.{IsFault, IsQueryAnswer}
use Rattle.text_query.proofs.FaultLemmas.{same_fault}
use Rattle.script_text.specs.declared.fault.LineFault.{LineFault}
use Rattle.script_text.specs.declared.fault.LineFault.TheVariants.{NoNodes, Word, Count, Range, Query as RefusedQuery, Text}
use Rattle.script_text.specs.declared.counted.Counted.{Counted}
use Rattle.script_serving.specs.declared.script.Line.{Line}
use Rattle.script_serving.specs.declared.script.Script.{Script}
use Rattle.script_text.specs.Grammar.{Statement, lines_of_text, statements_of, words_in, word_at, rest_behind, IsNodesHeader, SpellsLine, SpellsPhases, SpellsLogged, SpellsBody, SpellsStatements, most_statements, is_promotion, promotions_among, AreAllowed}
use Rattle.script_text.specs.Refused.{Place, first as first_place, second as second_place, third as third_place, has_room, none_counted, counted_with, is_headed, CauseHolds, order_of, IsFirstCause, nodes_said, next_place, RefusesAmong, RefusesStatements}
use Rattle.script_text.specs.Exact.{NeverBoth, OneRefusal}
use Rattle.script_text.proofs.NumberLaws.{value_of-decimal, digits_of-decimal, other_word}
use Rattle.script_text.proofs.OneLine.{lane_first}
use Rattle.script_text.specs.Reading.{headers_counted}
use Rattle.script_text.proofs.RightForms.{IsBehind, IsBeforeLog, behind_next, behind_join, behind_log, behind_no_log, behind_workers, header_counted, right_nodes, right_workers, right_log, right_join}
use Rattle.script_text.proofs.RightLines.{right_spelled}

-- so many statements more are no more than a script may have
abbrev AreFewMore : Bool → Counted → List Statement → Type 0
AreFewMore log before statements = AreAllowed log (before.statements + length statements) (before.promotions + promotions_among statements)

-- where the statements are no more than a script may have, the first of them has room
first_has_room : (log : Bool) (before : Counted) (statement : Statement) (statements : List Statement) → AreFewMore log before (statement ∷ statements)
    → has_room log before (words_in statement.line) ≡ true
first_has_room log before statement statements few =
    and_from (nat_lt before.statements (most_statements log)) (not log || (nat_lt before.promotions 64 || not (is_promotion (words_in statement.line))))
    (lt-ltb before.statements (most_statements log) (omega (arith, few.statements)))
    (by_log log few)
  where
    by_promotion : (t : Bool) → before.promotions + ((if t then 1 else 0) + promotions_among statements) ≤ 64 → nat_lt before.promotions 64 || not t ≡ true
    by_promotion true h = rw (lt-ltb before.promotions 64 (omega (arith, h))) refl
    by_promotion false h = or-true (nat_lt before.promotions 64)

    by_log : (log : Bool) → AreFewMore log before (statement ∷ statements) → not log || (nat_lt before.promotions 64 || not (is_promotion (words_in statement.line))) ≡ true
    by_log true few = by_promotion (is_promotion (words_in statement.line)) (few.promotions refl)
    by_log false few = refl

promotions_more : (t : Bool) (before all : ℕ) → before + ((if t then 1 else 0) + all) ≡ before + (if t then 1 else 0) + all
promotions_more true before all = omega arith
promotions_more false before all = omega arith

few_behind : (log : Bool) (before : Counted) (statement : Statement) (statements : List Statement) → AreFewMore log before (statement ∷ statements)
    → AreFewMore log (counted_with before statement) statements
few_behind log before statement statements few = record {
  statements = let h = few.statements in omega (arith, h);
  promotions = λ e. subst (λ (n : ℕ). n ≤ 64) (promotions_more (is_promotion (words_in statement.line)) before.promotions (promotions_among statements)) (few.promotions e);
}

headed_by : (name : List ℕ) (words : List (List ℕ)) (word : List ℕ) → word_at 0 words ≡ word → bytes_eq name word ≡ false → is_headed name words ≡ false
headed_by name [] word e other = refl
headed_by name (first ∷ words) word e other = ap (bytes_eq name) e ∙ other

behind_line : (place : Place) (size : ℕ) (log : Bool) (statement : Statement) (line : Line) → IsBehind place size log → SpellsLine size statement line
    → IsBehind (next_place place statement) size log
behind_line place size log statement line behind spells =
    let narrow : line.at.lane.0 < 2 ^ 64 = omega (arith, between_high 1 8 line.at.lane.0 spells.lane) in
    let first : word_at 0 (words_in statement.line) ≡ decimal line.at.lane.0 = lane_first size statement line spells in
    let digits = digits_of-decimal line.at.lane.0 narrow in
    behind_next place size log statement behind
    (headed_by (codes "workers") (words_in statement.line) (decimal line.at.lane.0) first (other_word 119 (codes "orkers") (decimal line.at.lane.0) refl digits))
    (headed_by (codes "log") (words_in statement.line) (decimal line.at.lane.0) first (other_word 108 (codes "og") (decimal line.at.lane.0) refl digits))

module _ (size : ℕ) (small : size ≤ 16) (n : ℕ) (cause : LineFault) where
  -- statements that spell phases have none that is refused
  phases_right : (log : Bool) (statements : List Statement) (place : Place) (before : Counted) (phases : List (List Line)) → IsBehind place size log → AreFewMore log before statements
      → SpellsPhases size statements phases → RefusesAmong place before statements n cause → ⊥
  phases_right log [] place before phases behind few spells refused = refused
  phases_right log (statement ∷ statements) place before [] behind few spells refused = spells
  phases_right log (statement ∷ statements) place before ([] ∷ phases) behind few spells (inl refused) =
      right_join place size log before statement behind spells.0 (first_has_room log before statement statements few) cause refused.1.holds
  phases_right log (statement ∷ statements) place before ([] ∷ phases) behind few spells (inr refused) =
      phases_right log statements (next_place place statement) (counted_with before statement) phases (behind_join place size log statement behind spells.0)
      (few_behind log before statement statements few) spells.1 refused.1
  phases_right log (statement ∷ statements) place before ((line ∷ phase) ∷ phases) behind few spells (inl refused) =
      right_spelled size small place log before statement line behind spells.0 (first_has_room log before statement statements few) cause refused.1.holds
  phases_right log (statement ∷ statements) place before ((line ∷ phase) ∷ phases) behind few spells (inr refused) =
      phases_right log statements (next_place place statement) (counted_with before statement) (phase ∷ phases) (behind_line place size log statement line behind spells.0)
      (few_behind log before statement statements few) spells.1 refused.1

  -- statements that spell a log and phases have none that is refused
  logged_right : (log : Bool) (statements : List Statement) (place : Place) (headers : ℕ) (phases : List (List Line)) → IsBeforeLog place size → headers ≤ 2
      → AreFewMore log (headers_counted headers) statements → SpellsLogged size log statements phases → RefusesAmong place (headers_counted headers) statements n cause → ⊥
  logged_right log [] place headers phases may few all spells refused = refused
  logged_right log (statement ∷ statements) place headers phases may few all (inl spells) (inl refused) =
      right_log place size headers statement may few spells.1 cause refused.1.holds
  logged_right log (statement ∷ statements) place headers phases may few all (inl spells) (inr refused) =
      phases_right log statements (next_place place statement) (counted_with (headers_counted headers) statement) phases
      (behind_log place size log statement may spells.1 spells.0) (few_behind log (headers_counted headers) statement statements all) spells.2 refused.1
  logged_right log (statement ∷ statements) place headers phases may few all (inr spells) refused =
      phases_right log (statement ∷ statements) place (headers_counted headers) phases (behind_no_log place size log may spells.0) all spells.1 refused

  body_right : (nodes workers : ℕ) (log : Bool) (statements : List Statement) (phases : List (List Line)) → nodes ≡ size
      → AreFewMore log (headers_counted 1) statements
      → SpellsBody size workers log statements phases → RefusesAmong (second_place nodes) (headers_counted 1) statements n cause → ⊥
  body_right nodes workers log [] phases same few spells refused = refused
  body_right nodes workers log (statement ∷ statements) phases same few (inl spells) (inl refused) =
      right_workers nodes workers statement spells.0 cause refused.1.holds
  body_right nodes workers log (statement ∷ statements) phases same few (inl spells) (inr refused) =
      logged_right log statements (third_place nodes) 2 phases same (omega arith)
      (subst (λ (b : Counted). AreFewMore log b statements) (header_counted 1 statement workers (codes "workers") spells.0.0 (omega (arith, spells.0.1))) (few_behind log (headers_counted 1) statement statements few))
      spells.1
      (subst (λ (b : Counted). RefusesAmong (third_place nodes) b statements n cause) (header_counted 1 statement workers (codes "workers") spells.0.0 (omega (arith, spells.0.1)))
      (subst (λ (p : Place). RefusesAmong p (counted_with (headers_counted 1) statement) statements n cause) (behind_workers nodes workers statement spells.0) refused.1))
  body_right nodes workers log (statement ∷ statements) phases same few (inr spells) refused =
      logged_right log (statement ∷ statements) (second_place nodes) 1 phases same (omega arith) few spells.1 refused

few_all : (log : Bool) (statements : List Statement) → AreAllowed log (length statements) (promotions_among statements) → AreFewMore log none_counted statements
few_all log statements few = record {
  statements = let h = few.statements in omega (arith, h);
  promotions = λ e. let h = few.promotions e in omega (arith, h);
}

said_nodes : (statement : Statement) (nodes : ℕ) → IsNodesHeader statement nodes → nodes_said (words_in statement.line) ≡ nodes
said_nodes statement nodes header =
    ap nodes_said header.0 ∙ value_of-decimal nodes (omega (arith, between_high 2 16 nodes header.1))

statements_right : (lines : ℕ) (statements : List Statement) (script : Script) (n : ℕ) (cause : LineFault) → AreAllowed script.log (length statements) (promotions_among statements)
    → SpellsStatements statements script → RefusesStatements lines statements n cause → ⊥
statements_right lines [] script n cause few spells refused = spells
statements_right lines (statement ∷ statements) script n cause few spells (inl refused) =
    right_nodes script.nodes statement spells.0 (between_high 2 16 script.nodes spells.0.1) cause refused.1.holds
statements_right lines (statement ∷ statements) script n cause few spells (inr refused) =
    let counted : counted_with none_counted statement ≡ headers_counted 1 =
    header_counted 0 statement script.nodes (codes "nodes") spells.0.0 (omega (arith, between_high 2 16 script.nodes spells.0.1)) in
    body_right script.nodes (between_high 2 16 script.nodes spells.0.1) n cause (nodes_said (words_in statement.line)) script.workers script.log statements spells.1.0
    (said_nodes statement script.nodes spells.0)
    (subst (λ (b : Counted). AreFewMore script.log b statements) counted (few_behind script.log none_counted statement statements (few_all script.log (statement ∷ statements) few))) spells.1.1
    (subst (λ (b : Counted). RefusesAmong (second_place (nodes_said (words_in statement.line))) b statements n cause) counted refused.1)

-- no bytes both spell a script and have a line that is refused
pub never_both : NeverBoth
never_both bytes script n cause spells refused =
    statements_right (length (lines_of_text bytes)) (statements_of bytes) script n cause spells.few spells.statements refused.refused

answer_of : (text : List ℕ) (fault : QueryFault) → IsFault text fault → IsQueryAnswer text (Err fault)
answer_of text Memory faulty = absurd faulty
answer_of text Empty faulty = faulty
answer_of text (Syntax at) faulty = faulty
answer_of text TooDeep faulty = faulty
answer_of text TooMany faulty = faulty

not_memory : (text : List ℕ) (fault : QueryFault) → IsFault text fault → fault ≡ Memory → ⊥
not_memory text fault faulty e = subst (IsFault text) e faulty

module _ (place : Place) (before : Counted) (statement : Statement) where
  -- causes of one order that both hold are one
  same_order : (cause other : LineFault) → order_of cause ≡ order_of other → CauseHolds place before statement cause → CauseHolds place before statement other → cause ≡ other
  same_order Text Text e h k = refl
  same_order NoNodes NoNodes e h k = refl
  same_order Word Word e h k = refl
  same_order Count Count e h k = refl
  same_order Range Range e h k = refl
  same_order (RefusedQuery fault) (RefusedQuery other) e h k = ap RefusedQuery (same_fault (rest_behind 3 statement.line) fault other h.1 k.1)
  same_order cause other e h k = absurd (omega arith)

  one_cause : (cause other : LineFault) → IsFirstCause place before statement cause → IsFirstCause place before statement other → cause ≡ other
  one_cause cause other is too =
      elim (cases_order (order_of cause) (order_of other)) [
        | inl same ↦ same_order cause other same is.holds too.holds
        | inr (inl below) ↦ absurd (too.first_one cause below is.holds)
        | inr (inr above) ↦ absurd (is.first_one other above too.holds)
      ]

-- a number and a cause are those others
abbrev AreSame : ℕ → ℕ → LineFault → LineFault → Type 0
AreSame n m cause other = (n ≡ m) × (cause ≡ other)

one_among : (statements : List Statement) (place : Place) (before : Counted) (n m : ℕ) (cause other : LineFault) → RefusesAmong place before statements n cause
    → RefusesAmong place before statements m other → AreSame n m cause other
one_among [] place before n m cause other refused too = absurd refused
one_among (statement ∷ statements) place before n m cause other (inl refused) (inl too) =
    (refused.0 ∙ sym too.0, one_cause place before statement cause other refused.1 too.1)
one_among (statement ∷ statements) place before n m cause other (inl refused) (inr too) = absurd (too.0 cause refused.1.holds)
one_among (statement ∷ statements) place before n m cause other (inr refused) (inl too) = absurd (refused.0 other too.1.holds)
one_among (statement ∷ statements) place before n m cause other (inr refused) (inr too) =
    one_among statements (next_place place statement) (counted_with before statement) n m cause other refused.1 too.1

one_of_statements : (lines : ℕ) (statements : List Statement) (n m : ℕ) (cause other : LineFault) → RefusesStatements lines statements n cause
    → RefusesStatements lines statements m other → AreSame n m cause other
one_of_statements lines [] n m cause other refused too = (refused.0 ∙ sym too.0, refused.1 ∙ sym too.1)
one_of_statements lines (statement ∷ statements) n m cause other refused too = one_among (statement ∷ statements) first_place none_counted n m cause other refused too

-- bytes have one first refused line at most, with one cause
pub one_refusal : OneRefusal
one_refusal bytes n m cause other refused too = one_of_statements (length (lines_of_text bytes)) (statements_of bytes) n m cause other refused.refused too.refused
