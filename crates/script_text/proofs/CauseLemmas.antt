-- Which cause of a statement is the first, and when a statement is right.
use Rattle.std.proofs.Common.{◌≡◌, ◌<◌, ◌≤◌, ◌+◌, ℕ, Bool, true, false, List, ◌∷◌, refl, ap, ◌∙◌, sym, arith}
use Rattle.std.specs.Prelude.{◌&&◌, ◌||◌, not, nat_lt, codes, bytes_eq, if◌then◌else◌}
use Rattle.std.proofs.Math.Bool.{or-false}
use Rattle.std.proofs.lemmas.Bool.{false≢true, and_parts, ltb-true}
use Rattle.text_query.specs.declared.fault.QueryFault.{QueryFault}
use Rattle.text_query.specs.Answers.{IsFault}
use Rattle.script_text.specs.declared.fault.LineFault.{LineFault}
use Rattle.script_text.specs.declared.fault.LineFault.TheVariants.{NoNodes, Word, Count, Range, Query as RefusedQuery, Text}
use Rattle.script_text.specs.declared.counted.Counted.{Counted}
use Rattle.script_text.specs.Grammar.{Statement, words_in, rest_behind, most_statements, is_promotion, AreAllowed}
use Rattle.script_text.specs.Refused.{Place, later, Form, no_nodes, join, lane_line, no_form, form_of, form_at, is_digits, has_wrong_word, has_wrong_count, is_in_range, has_query, has_log, has_room, counted_with, CauseHolds, order_of, IsFirstCause, IsRight, is_printable}

-- no cause before the k-th holds
no_earlier : (place : Place) (before : Counted) (statement : Statement) (k : ℕ)
    → (1 < k → is_printable statement.line ≡ true)
    → (2 < k → form_at place statement ≡ no_nodes → ⊥)
    → (3 < k → has_wrong_word (form_at place statement) ≡ false)
    → (4 < k → has_wrong_count (form_at place statement) ≡ false)
    → (5 < k → (is_in_range (form_at place statement) statement.line && has_room (has_log place) before (words_in statement.line)) ≡ true)
    → (6 < k → (fault : QueryFault) → has_query (form_at place statement) ≡ true → IsFault (rest_behind 3 statement.line) fault → ⊥)
    → (other : LineFault) → order_of other < k → CauseHolds place before statement other → ⊥
no_earlier place before statement k printable nodes word count range query Text h c = false≢true (sym c ∙ printable h)
no_earlier place before statement k printable nodes word count range query NoNodes h c = nodes h c
no_earlier place before statement k printable nodes word count range query Word h c = false≢true (sym (word h) ∙ c)
no_earlier place before statement k printable nodes word count range query Count h c = false≢true (sym (count h) ∙ c)
no_earlier place before statement k printable nodes word count range query Range h c = false≢true (sym c ∙ range h)
no_earlier place before statement k printable nodes word count range query (RefusedQuery fault) h c = query h fault c.0 c.1

-- a byte that is not printable is the first cause
pub text_first : (place : Place) (before : Counted) (statement : Statement) → is_printable statement.line ≡ false → IsFirstCause place before statement Text
text_first place before statement e = record {
  holds = e;
  first_one =
      no_earlier place before statement 1 (λ h. absurd (omega arith)) (λ h. absurd (omega arith)) (λ h. absurd (omega arith)) (λ h. absurd (omega arith))
      (λ h. absurd (omega arith)) (λ h. absurd (omega arith));
}

abbrev is_no_nodes : Form → Bool
is_no_nodes no_nodes = true
is_no_nodes form = false

-- without a first word `nodes`, a first statement is refused
pub nodes_first : (place : Place) (before : Counted) (statement : Statement) → is_printable statement.line ≡ true → form_at place statement ≡ no_nodes
    → IsFirstCause place before statement NoNodes
nodes_first place before statement printable e = record {
  holds = e;
  first_one =
      no_earlier place before statement 2 (λ h. printable) (λ h. absurd (omega arith)) (λ h. absurd (omega arith)) (λ h. absurd (omega arith))
      (λ h. absurd (omega arith)) (λ h. absurd (omega arith));
}

module _ (place : Place) (before : Counted) (statement : Statement) (form : Form) (at : form_at place statement ≡ form) (printable : is_printable statement.line ≡ true)
    (named : is_no_nodes form ≡ false) where
  has_nodes : form_at place statement ≡ no_nodes → ⊥
  has_nodes e = false≢true (sym named ∙ ap is_no_nodes (sym at ∙ e))

  pub word_first : has_wrong_word form ≡ true → IsFirstCause place before statement Word
  word_first e = record {
    holds = ap has_wrong_word at ∙ e;
    first_one =
        no_earlier place before statement 3 (λ h. printable) (λ h. has_nodes) (λ h. absurd (omega arith)) (λ h. absurd (omega arith))
        (λ h. absurd (omega arith)) (λ h. absurd (omega arith));
  }

  pub count_first : has_wrong_word form ≡ false → has_wrong_count form ≡ true → IsFirstCause place before statement Count
  count_first word e = record {
    holds = ap has_wrong_count at ∙ e;
    first_one =
        no_earlier place before statement 4 (λ h. printable) (λ h. has_nodes) (λ h. ap has_wrong_word at ∙ word) (λ h. absurd (omega arith))
        (λ h. absurd (omega arith)) (λ h. absurd (omega arith));
  }

  in_range_at : (t : Bool) → (is_in_range form statement.line && has_room (has_log place) before (words_in statement.line)) ≡ t → (is_in_range (form_at place statement) statement.line && has_room (has_log place) before (words_in statement.line)) ≡ t
  in_range_at t e = ap (λ (f : Form). is_in_range f statement.line && has_room (has_log place) before (words_in statement.line)) at ∙ e

  pub range_first : has_wrong_word form ≡ false → has_wrong_count form ≡ false → (is_in_range form statement.line && has_room (has_log place) before (words_in statement.line)) ≡ false
      → IsFirstCause place before statement Range
  range_first word count e = record {
    holds = in_range_at false e;
    first_one =
        no_earlier place before statement 5 (λ h. printable) (λ h. has_nodes) (λ h. ap has_wrong_word at ∙ word) (λ h. ap has_wrong_count at ∙ count)
        (λ h. absurd (omega arith)) (λ h. absurd (omega arith));
  }

  pub query_first : has_wrong_word form ≡ false → has_wrong_count form ≡ false → (is_in_range form statement.line && has_room (has_log place) before (words_in statement.line)) ≡ true
      → (fault : QueryFault) → has_query form ≡ true → IsFault (rest_behind 3 statement.line) fault → IsFirstCause place before statement (RefusedQuery fault)
  query_first word count range fault asks is = record {
    holds = (ap has_query at ∙ asks, is);
    first_one =
        no_earlier place before statement 6 (λ h. printable) (λ h. has_nodes) (λ h. ap has_wrong_word at ∙ word) (λ h. ap has_wrong_count at ∙ count)
        (λ h. in_range_at true range) (λ h. absurd (omega arith));
  }

  pub no_cause : has_wrong_word form ≡ false → has_wrong_count form ≡ false → (is_in_range form statement.line && has_room (has_log place) before (words_in statement.line)) ≡ true
      → ((fault : QueryFault) → has_query form ≡ true → IsFault (rest_behind 3 statement.line) fault → ⊥) → IsRight place before statement
  no_cause word count range query cause =
      no_earlier place before statement 8 (λ h. printable) (λ h. has_nodes) (λ h. ap has_wrong_word at ∙ word) (λ h. ap has_wrong_count at ∙ count)
      (λ h. in_range_at true range) (λ h fault asks. query fault (sym (ap has_query at) ∙ asks)) cause (below cause)
    where
      below : (cause : LineFault) → order_of cause < 8
      below Text = omega arith
      below NoNodes = omega arith
      below Word = omega arith
      below Count = omega arith
      below Range = omega arith
      below (RefusedQuery fault) = omega arith

-- a statement that has room is none too many
room_left : (log : Bool) (before : Counted) (statement : Statement) → has_room log before (words_in statement.line) ≡ true → AreAllowed log before.statements before.promotions
    → AreAllowed log (counted_with before statement).statements (counted_with before statement).promotions
room_left log before statement room few =
    let parts = and_parts (nat_lt before.statements (most_statements log)) (not log || (nat_lt before.promotions 64 || not (is_promotion (words_in statement.line)))) room in
    record {
      statements = let h : before.statements < most_statements log = ltb-true before.statements (most_statements log) parts.0 in omega (arith, h);
      promotions = λ e. by_test (is_promotion (words_in statement.line)) refl e (simp e at parts.1);
    }
  where
    by_test : (t : Bool) → is_promotion (words_in statement.line) ≡ t → log ≡ true → (nat_lt before.promotions 64 || not (is_promotion (words_in statement.line))) ≡ true
        → before.promotions + (if is_promotion (words_in statement.line) then 1 else 0) ≤ 64
    by_test true p e h = let k : nat_lt before.promotions 64 ≡ true = or_left (rw p at h) in rw p (let m = ltb-true before.promotions 64 k in omega (arith, m))
      where
        or_left : (nat_lt before.promotions 64 || false) ≡ true → nat_lt before.promotions 64 ≡ true
        or_left g = sym (or-false (nat_lt before.promotions 64)) ∙ g
    by_test false p e h = rw p (let m = few.promotions e in omega (arith, m))

-- a right statement is none too many
pub right_has_room : (place : Place) (before : Counted) (statement : Statement) → IsRight place before statement → has_room (has_log place) before (words_in statement.line) ≡ true
right_has_room place before statement right = by_test (has_room (has_log place) before (words_in statement.line)) refl
  where
    by_test : (t : Bool) → has_room (has_log place) before (words_in statement.line) ≡ t → t ≡ true
    by_test true e = refl
    by_test false e = absurd (right Range (late (is_in_range (form_at place statement) statement.line) e))
      where
        late : (b : Bool) → has_room (has_log place) before (words_in statement.line) ≡ false → (b && has_room (has_log place) before (words_in statement.line)) ≡ false
        late true h = h
        late false h = refl

pub right_is_few : (place : Place) (before : Counted) (statement : Statement) → IsRight place before statement → AreAllowed (has_log place) before.statements before.promotions
    → AreAllowed (has_log place) (counted_with before statement).statements (counted_with before statement).promotions
right_is_few place before statement right few = room_left (has_log place) before statement (right_has_room place before statement right) few

-- a statement whose first word is `join` is one
pub join_form : (size : ℕ) (log : Bool) (statement : Statement) (word : List ℕ) (words : List (List ℕ)) → words_in statement.line ≡ word ∷ words → bytes_eq (codes "join") word ≡ true
    → form_at (later size log) statement ≡ join words
join_form size log statement word words e is = ap (form_of (later size log)) e ∙ (rw is refl)

-- a statement whose first word has digits alone is a line of a lane
pub lane_form : (size : ℕ) (log : Bool) (statement : Statement) (word : List ℕ) (words : List (List ℕ)) → words_in statement.line ≡ word ∷ words → bytes_eq (codes "join") word ≡ false
    → is_digits word ≡ true → form_at (later size log) statement ≡ lane_line size word words
lane_form size log statement word words e other digits = ap (form_of (later size log)) e ∙ (rw (other, digits) refl)

-- any other first word has no form
pub other_form : (size : ℕ) (log : Bool) (statement : Statement) (word : List ℕ) (words : List (List ℕ)) → words_in statement.line ≡ word ∷ words → bytes_eq (codes "join") word ≡ false
    → is_digits word ≡ false → form_at (later size log) statement ≡ no_form
other_form size log statement word words e other digits = ap (form_of (later size log)) e ∙ (rw (other, digits) refl)
