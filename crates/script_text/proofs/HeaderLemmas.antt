-- What is read of the headers, and what is answered to a whole text.
use Rattle.std.proofs.Common.{◌≡◌, ◌<◌, ◌≤◌, ◌^◌, ℕ, Bool, true, false, List, [], ◌∷◌, length, refl, ap, ◌∙◌, sym, subst, inl, inr, arith, Some, None, Result, Ok, Err}
use Rattle.std.specs.Prelude.{◌&&◌, ◌+◌, codes, IfOk, IsErrOf, ◌⊎◌, ◌↔◌, if◌then◌else◌}
use Rattle.std.proofs.lemmas.Bool.{false≢true}
use Rattle.std.specs.Fmt.{decimal}
use Rattle.std.specs.List.{list_all}
use Rattle.std.proofs.lemmas.Option.{none-some, same_Some}
use Rattle.nrt_base.specs.Bytes.{is_between}
use Rattle.nrt_base.specs.declared.numbers.LineNo.{LineNo}
use Rattle.nrt_base.proofs.Plain.{between_high}
use Rattle.script_text.specs.declared.fault.LineFault.{LineFault}
use Rattle.script_text.specs.declared.fault.LineFault.TheVariants.{NoNodes, Word, Count, Range, Query as RefusedQuery, Text}
use Rattle.script_text.specs.declared.fault.ScriptFault.{ScriptFault}
use Rattle.script_text.specs.declared.fault.ScriptFault.TheVariants as script_fault
use Rattle.script_text.specs.declared.counted.Counted.{Counted}
use Rattle.script_serving.specs.declared.script.Line.{Line}
use Rattle.script_serving.specs.declared.script.Phase.{Phase}
use Rattle.script_serving.specs.declared.script.Script.{Script}
use Rattle.script_serving.specs.Form.{IsInForm}
use Rattle.script_text.specs.Grammar.{Statement, words_in, word_at, statements_of, lines_of_text, is_promotion, promotions_among, AreAllowed, IsNodesHeader, IsWorkersHeader, IsLogHeader, SpellsPhases, SpellsLogged, SpellsBody, SpellsStatements, SpellsScript}
use Rattle.script_text.specs.Refused.{Place, first, second, third, later, has_log, has_room, is_headed, next_place, none_counted, counted_with, nodes_said, Form, has_wrong_word, has_wrong_count, is_in_range, has_query, form_of, form_at, is_number_in, value_of, CauseHolds, IsRight, RefusesAmong, RefusesStatements, IsFirstRefused}
use Rattle.script_text.specs.Reading.{number_within, headers_counted, SaysNoHeader, ReadsPhases, ArePhasesRead, ReadsLogged, IsLoggedRead, ReadsBody, IsBodyRead, IsScriptAnswer}
use Rattle.script_text.proofs.NumberLemmas.{number_case}
use Rattle.script_text.proofs.FormLemmas.{spelled_in_form}
use Rattle.script_text.proofs.RightForms.{behind_workers, header_counted, number_header}
use Rattle.script_text.proofs.AnswerLaws.{RefusesRightly, script_answered, refusal_answered}

number_value : (low high : ℕ) (word : List ℕ) (n : ℕ) → number_within low high word ≡ Some n → n ≡ value_of word
number_value low high word n = by_test (is_number_in low high word)
  where
    by_test : (t : Bool) → (if t then Some (value_of word) else None) ≡ Some n → n ≡ value_of word
    by_test true e = sym (same_Some (value_of word) n e)
    by_test false e = absurd (none-some n e)

-- the only word behind a header's name is the number that was read
pub header_number_is : (low high : ℕ) → high < 2 ^ 64 → (words : List (List ℕ)) (word : List ℕ) (others : List (List ℕ)) (n : ℕ)
    → words ≡ word ∷ others → length others ≤ 0 → number_within low high word ≡ Some n
    → (words ≡ decimal n ∷ []) × (n ≡ value_of (word_at 0 words)) × (is_between low high n ≡ true) × (list_all (is_number_in low high) words ≡ true)
header_number_is low high small words word [] n e few is =
    let one : words ≡ decimal n ∷ [] = e ∙ ap (λ (w : List ℕ). w ∷ []) (sym facts.1) in
    (one, number_value low high word n is ∙ ap (λ ws. value_of (word_at 0 ws)) (sym e), facts.2, ap (list_all (is_number_in low high)) e ∙ ap (λ t. t && true) facts.0)
  where
    facts : (is_number_in low high word ≡ true) × (decimal n ≡ word) × (is_between low high n ≡ true)
    facts =
        number_case low high word small (λ o. o ≡ Some n → (is_number_in low high word ≡ true) × (decimal n ≡ word) × (is_between low high n ≡ true))
        (λ m t spelled within eq. let same : m ≡ n = same_Some m n eq in (t, ap decimal (sym same) ∙ spelled, ap (is_between low high) (sym same) ∙ within))
        (λ other eq. absurd (none-some n eq)) is
header_number_is low high small words word (other ∷ others) n e few is = absurd (omega arith)

-- a statement is the same at two places, and so is what follows it
record IsAlike (place place' : Place) (statement : Statement) : Type 0 where
  form : form_at place statement ≡ form_at place' statement
  next : next_place place statement ≡ next_place place' statement
  log : has_log place ≡ has_log place'

same_cause : (place place' : Place) (before : Counted) (statement : Statement) (cause : LineFault) → form_at place statement ≡ form_at place' statement → has_log place ≡ has_log place'
    → CauseHolds place before statement cause → CauseHolds place' before statement cause
same_cause place place' before statement Text e f h = h
same_cause place place' before statement NoNodes e f h = sym e ∙ h
same_cause place place' before statement Word e f h = ap has_wrong_word (sym e) ∙ h
same_cause place place' before statement Count e f h = ap has_wrong_count (sym e) ∙ h
same_cause place place' before statement Range e f h =
    ap (λ (b : Bool). is_in_range (form_at place' statement) statement.line && has_room b before (words_in statement.line)) (sym f)
    ∙ (ap (λ (form : Form). is_in_range form statement.line && has_room (has_log place) before (words_in statement.line)) (sym e) ∙ h)
same_cause place place' before statement (RefusedQuery fault) e f h = (ap has_query (sym e) ∙ h.0, h.1)

-- the first of these statements, if there is one, is the same at two places
abbrev AreAlike : Place → Place → List Statement → Type 0
AreAlike place place' [] = Unit {0}
AreAlike place place' (statement ∷ statements) = IsAlike place place' statement

-- statements that are the same at two places are refused alike
refused_alike : (place place' : Place) (before : Counted) (n : ℕ) (statements : List Statement) (cause : LineFault) → AreAlike place place' statements
    → RefusesAmong place before statements n cause → RefusesAmong place' before statements n cause
refused_alike place place' before n [] cause alike h = h
refused_alike place place' before n (statement ∷ statements) cause alike (inl (e, is)) = inl (
  e,
  record {
    holds = same_cause place place' before statement cause alike.form alike.log is.holds;
    first_one = λ other below has. is.first_one other below (same_cause place' place before statement other (sym alike.form) (sym alike.log) has);
  },
)
refused_alike place place' before n (statement ∷ statements) cause alike (inr (right, h)) = inr (
  λ other has. right other (same_cause place' place before statement other (sym alike.form) (sym alike.log) has),
  subst (λ (p : Place). RefusesAmong p (counted_with before statement) statements n cause) alike.next h,
)

without_log : (size : ℕ) (statements : List Statement) → SaysNoHeader (codes "log") statements → AreAlike (later size false) (third size) statements
without_log size [] none = tt
without_log size (statement ∷ statements) none = record { form = form (words_in statement.line) none; next = ap (later size) (sym none); log = refl }
  where
    form : (words : List (List ℕ)) → is_headed (codes "log") words ≡ false → form_of (later size false) words ≡ form_of (third size) words
    form [] e = refl
    form (word ∷ words) e = rw e refl

without_workers : (size : ℕ) (statements : List Statement) → SaysNoHeader (codes "workers") statements → AreAlike (third size) (second size) statements
without_workers size [] none = tt
without_workers size (statement ∷ statements) none = record { form = form (words_in statement.line) none; next = rw none refl; log = refl }
  where
    form : (words : List (List ℕ)) → is_headed (codes "workers") words ≡ false → form_of (third size) words ≡ form_of (second size) words
    form [] e = refl
    form (word ∷ words) e = rw e refl

no_statements : (size : ℕ) (phases : List (List Line)) → SpellsPhases size [] phases → phases ≡ [] ∷ []
no_statements size [] s = absurd s
no_statements size (phase ∷ []) s = ap (λ (p : List Line). p ∷ []) s
no_statements size (phase ∷ next ∷ phases) s = absurd s

few_promotions : (log : Bool) (n m p q : ℕ) → n ≡ m → p ≡ q → AreAllowed log n p → AreAllowed log m q
few_promotions log n m p q e f few = subst (λ (k : ℕ). AreAllowed log k q) e (subst (AreAllowed log n) f few)

-- the phases of a text without the header of a log
pub phases_without : (size before : ℕ) (statements : List Statement) (phases : List Phase) → SaysNoHeader (codes "log") statements
    → ReadsPhases size false (headers_counted before) statements phases → ReadsLogged size before statements false phases
phases_without size before statements phases none reads = record {
  lines = reads.lines;
  spelled = spelled statements reads.spelled;
  phased = reads.phased;
  few = few_promotions false (before + length statements) (before + length statements) (0 + promotions_among statements) (promotions_among statements) refl (omega arith) reads.few;
}
  where
    spelled : (statements : List Statement) → SpellsPhases size statements reads.lines → SpellsLogged size false statements reads.lines
    spelled [] s = (refl, no_statements size reads.lines s)
    spelled (statement ∷ statements) s = inr (refl, s)

-- the phases of a text behind the header of a log
pub phases_behind : (size before : ℕ) (header : Statement) (statements : List Statement) (phases : List Phase) → IsLogHeader header
    → ReadsPhases size true (headers_counted (before + 1)) statements phases → ReadsLogged size before (header ∷ statements) true phases
phases_behind size before header statements phases is reads = record {
  lines = reads.lines;
  spelled = inl (refl, is, reads.spelled);
  phased = reads.phased;
  few = few_promotions true (before + 1 + length statements) (before + length (header ∷ statements)) (0 + promotions_among statements) (promotions_among (header ∷ statements)) (omega arith)
      (none (is_promotion (words_in header.line)) (ap is_promotion is)) reads.few;
}
  where
    none : (t : Bool) → t ≡ false → 0 + promotions_among statements ≡ (if t then 1 else 0) + promotions_among statements
    none true e = absurd (false≢true (sym e))
    none false e = omega arith

-- the phases of a text without the header of a log are refused
pub refused_without : (size before : ℕ) (statements : List Statement) (fault : ScriptFault) → SaysNoHeader (codes "log") statements
    → ArePhasesRead size false (headers_counted before) statements (Err fault) → IsLoggedRead size before statements (Err fault)
refused_without size before statements script_fault.Memory none h = h
refused_without size before statements script_fault.TooLarge none h = h
refused_without size before statements (script_fault.BadScript n cause) none h =
    refused_alike (later size false) (third size) (headers_counted before) n.0 statements cause (without_log size statements none) h

log_counted : (before : ℕ) (header : Statement) → IsLogHeader header → counted_with (headers_counted before) header ≡ headers_counted (before + 1)
log_counted before header is = let none : is_promotion (words_in header.line) ≡ false = ap is_promotion is in rw none refl

-- the phases of a text behind the header of a log are refused
pub refused_behind : (size before : ℕ) (header : Statement) (statements : List Statement) (fault : ScriptFault) → IsLogHeader header → IsRight (third size) (headers_counted before) header
    → ArePhasesRead size true (headers_counted (before + 1)) statements (Err fault) → IsLoggedRead size before (header ∷ statements) (Err fault)
refused_behind size before header statements script_fault.Memory is right h = h
refused_behind size before header statements script_fault.TooLarge is right h = h
refused_behind size before header statements (script_fault.BadScript n cause) is right h =
    let next : next_place (third size) header ≡ later size true = ap (λ (words : List (List ℕ)). later size (is_headed (codes "log") words)) is in
    inr (
      right,
      subst (λ (p : Place). RefusesAmong p (counted_with (headers_counted before) header) statements n.0 cause) (sym next)
          (subst (λ (c : Counted). RefusesAmong (later size true) c statements n.0 cause) (sym (log_counted before header is)) h),
    )

-- the script of these parts
abbrev script_of : ℕ → ℕ → Bool → List Phase → Script
script_of nodes workers log phases = record { nodes = nodes; workers = workers; log = log; phases = phases }

-- the script of a text without the header of the workers
pub body_without : (size : ℕ) (statements : List Statement) (log : Bool) (phases : List Phase) → ReadsLogged size 1 statements log phases
    → ReadsBody size statements (script_of size 0 log phases)
body_without size statements log phases reads = record {
  lines = reads.lines;
  nodes = refl;
  spelled = spelled statements reads.spelled;
  phased = reads.phased;
  few = reads.few;
}
  where
    spelled : (statements : List Statement) → SpellsLogged size log statements reads.lines → SpellsBody size 0 log statements reads.lines
    spelled [] s = (refl, s)
    spelled (statement ∷ statements) s = inr (refl, s)

-- the script of a text behind the header of the workers
pub body_behind : (size workers : ℕ) (header : Statement) (statements : List Statement) (log : Bool) (phases : List Phase) → IsWorkersHeader header workers
    → ReadsLogged size 2 statements log phases → ReadsBody size (header ∷ statements) (script_of size workers log phases)
body_behind size workers header statements log phases is reads = record {
  lines = reads.lines;
  nodes = refl;
  spelled = inl (is, reads.spelled);
  phased = reads.phased;
  few = few_promotions log (2 + length statements) (1 + length (header ∷ statements)) (promotions_among statements) (promotions_among (header ∷ statements)) (omega arith)
      (none (is_promotion (words_in header.line)) (number_header header workers (codes "workers") is.0 (omega (arith, is.1)))) reads.few;
}
  where
    none : (t : Bool) → t ≡ false → promotions_among statements ≡ (if t then 1 else 0) + promotions_among statements
    none true e = absurd (false≢true (sym e))
    none false e = omega arith

-- the statements of a text without the header of the workers are refused
pub body_refused_without : (size : ℕ) (statements : List Statement) (fault : ScriptFault) → SaysNoHeader (codes "workers") statements
    → IsLoggedRead size 1 statements (Err fault) → IsBodyRead size statements (Err fault)
body_refused_without size statements script_fault.Memory none h = h
body_refused_without size statements script_fault.TooLarge none h = h
body_refused_without size statements (script_fault.BadScript n cause) none h =
    refused_alike (third size) (second size) (headers_counted 1) n.0 statements cause (without_workers size statements none) h

-- the statements of a text behind the header of the workers are refused
pub body_refused_behind : (size workers : ℕ) (header : Statement) (statements : List Statement) (fault : ScriptFault) → IsWorkersHeader header workers
    → IsRight (second size) (headers_counted 1) header → IsLoggedRead size 2 statements (Err fault) → IsBodyRead size (header ∷ statements) (Err fault)
body_refused_behind size workers header statements script_fault.Memory is right h = h
body_refused_behind size workers header statements script_fault.TooLarge is right h = h
body_refused_behind size workers header statements (script_fault.BadScript n cause) is right h =
    inr (
      right,
      subst (λ (p : Place). RefusesAmong p (counted_with (headers_counted 1) header) statements n.0 cause) (sym (behind_workers size workers header is))
          (subst (λ (c : Counted). RefusesAmong (third size) c statements n.0 cause) (sym (header_counted 1 header workers (codes "workers") is.0 (omega (arith, is.1)))) h),
    )

-- the script of a whole text
pub answer_spells : (bytes : List ℕ) (header : Statement) (statements : List Statement) (nodes : ℕ) (script : Script) → length bytes ≤ 16777216
    → statements_of bytes ≡ header ∷ statements → IsNodesHeader header nodes → ReadsBody nodes statements script → SpellsScript bytes script
answer_spells bytes header statements nodes script short split is reads = record {
  short = short;
  few = subst (λ (all : List Statement). AreAllowed script.log (length all) (promotions_among all)) (sym split)
      (few_promotions script.log (1 + length statements) (length (header ∷ statements)) (promotions_among statements) (promotions_among (header ∷ statements)) (omega arith)
      (none (is_promotion (words_in header.line)) (number_header header nodes (codes "nodes") is.0 (omega (arith, between_high 2 16 nodes is.1)))) reads.few);
  statements = subst (λ (all : List Statement). SpellsStatements all script) (sym split) (
    subst (IsNodesHeader header) (sym reads.nodes) is,
    (reads.lines, subst (λ (n : ℕ). SpellsBody n script.workers script.log statements reads.lines) (sym reads.nodes) reads.spelled, reads.phased),
  );
}
  where
    none : (t : Bool) → t ≡ false → promotions_among statements ≡ (if t then 1 else 0) + promotions_among statements
    none true e = absurd (false≢true (sym e))
    none false e = omega arith

-- the first refused line of a whole text, behind the first statement
pub answer_refuses_behind : (bytes : List ℕ) (header : Statement) (statements : List Statement) (nodes n : ℕ) (cause : LineFault) → length bytes ≤ 16777216
    → statements_of bytes ≡ header ∷ statements → IsRight first none_counted header → IsNodesHeader header nodes → nodes ≡ nodes_said (words_in header.line)
    → RefusesAmong (second nodes) (headers_counted 1) statements n cause → IsFirstRefused bytes n cause
answer_refuses_behind bytes header statements nodes n cause short split right is said refused = record {
  short = short;
  refused = subst (λ (all : List Statement). RefusesStatements (length (lines_of_text bytes)) all n cause) (sym split)
      (inr (
        right,
        subst (λ (m : ℕ). RefusesAmong (second m) (counted_with none_counted header) statements n cause) said
            (subst (λ (c : Counted). RefusesAmong (second nodes) c statements n cause) (sym (header_counted 0 header nodes (codes "nodes") is.0 (omega (arith, between_high 2 16 nodes is.1)))) refused),
      ));
}

pub answer_in_form : (bytes : List ℕ) (answer : Result Script ScriptFault) → IsScriptAnswer bytes answer → IfOk answer IsInForm
answer_in_form bytes (Ok script) s = spelled_in_form bytes script s
answer_in_form bytes (Err fault) s = tt

answer_spelled : (bytes : List ℕ) (answer : Result Script ScriptFault) → IsScriptAnswer bytes answer → IfOk answer (SpellsScript bytes)
answer_spelled bytes (Ok script) s = s
answer_spelled bytes (Err fault) s = tt

answer_refuses : (bytes : List ℕ) (answer : Result Script ScriptFault) → IsScriptAnswer bytes answer → RefusesRightly bytes answer
answer_refuses bytes (Ok script) s n cause e = absurd cc
answer_refuses bytes (Err fault) s n cause e =
    let same : fault ≡ script_fault.BadScript n cause = cc in
    let P : ScriptFault → Type 0 = λ f. IsScriptAnswer bytes (Err f) in
    subst P same s

answer_large : (bytes : List ℕ) (answer : Result Script ScriptFault) → IsScriptAnswer bytes answer → (IsErrOf answer script_fault.TooLarge ↔ (16777216 < length bytes))
answer_large bytes (Ok script) s = (λ e. absurd cc, λ h. absurd (omega (arith, s.short)))
answer_large bytes (Err script_fault.Memory) s = (λ e. absurd cc, λ h. absurd (omega arith))
answer_large bytes (Err script_fault.TooLarge) s = (λ e. s, λ h. refl)
answer_large bytes (Err (script_fault.BadScript n cause)) s = (λ e. absurd cc, λ h. absurd (omega (arith, s.short)))

-- the script that bytes spell is answered, unless memory runs out
pub script_is_answered : (bytes : List ℕ) (answer : Result Script ScriptFault) (script : Script) → IsScriptAnswer bytes answer → SpellsScript bytes script
    → (answer ≡ Err script_fault.Memory) ⊎ (answer ≡ Ok script)
script_is_answered bytes answer script s spells =
    script_answered bytes answer script (answer_spelled bytes answer s) (answer_refuses bytes answer s) (answer_large bytes answer s) spells

-- the first refused line of bytes is answered, unless memory runs out
pub refusal_is_answered : (bytes : List ℕ) (answer : Result Script ScriptFault) (n : LineNo) (cause : LineFault) → IsScriptAnswer bytes answer → IsFirstRefused bytes n.0 cause
    → (answer ≡ Err script_fault.Memory) ⊎ (answer ≡ Err (script_fault.BadScript n cause))
refusal_is_answered bytes answer n cause s is =
    refusal_answered bytes answer n cause (answer_spelled bytes answer s) (answer_refuses bytes answer s) (answer_large bytes answer s) is
