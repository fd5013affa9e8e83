-- When a statement is right at its place: by its form, and for a line of a lane by what its words ask for.
use Rattle.std.proofs.Common.{◌≡◌, ℕ, ◌<◌, ◌≤◌, List, [], ◌∷◌, length, true, false, refl, ap, ◌∙◌, sym, arith}
use Rattle.std.specs.Prelude.{Bool, ◌&&◌, ◌+◌, ◌^◌, nat_le, codes, bytes_eq}
use Rattle.std.specs.List.{list_all}
use Rattle.std.specs.Fmt.{decimal}
use Rattle.std.proofs.lemmas.Bool.{false≢true, both_ways, lt-ltb, le-leb, and_from}
use Rattle.nrt_base.specs.Bytes.{is_between}
use Rattle.documents.specs.declared.query.Query.{Query}
use Rattle.text_query.specs.Answers.{Parses}
use Rattle.text_query.proofs.FaultLemmas.{parses_no_fault}
use Rattle.script_text.specs.declared.fault.LineFault.TheVariants.{NoNodes, Word, Count, Range, Query as RefusedQuery, Text}
use Rattle.script_text.specs.Grammar.{Statement, words_in, rest_behind, IsNodesHeader, IsWorkersHeader, IsLogHeader, IsJoin, is_promotion}
use Rattle.script_text.specs.declared.counted.Counted.{Counted}
use Rattle.script_text.specs.Reading.{headers_counted}
use Rattle.script_text.specs.Refused.{is_digits, is_digit, is_number_in, Shape, command, asked, is_unknown, is_too_few_or_many, is_miscounted, are_kinds, is_short, is_asked_in_range, asks_query, Place, first as first_place, second as second_place, third as third_place, later as later_place, has_log, has_room, is_headed, next_place, none_counted, counted_with, log_header, logged_form, Form, no_nodes, nodes_header, workers_header, join, lane_line, later_form, form_of, form_at, has_wrong_word, has_wrong_count, is_in_range, has_query, IsRight, is_printable}
use Rattle.script_text.proofs.NumberLaws.{number_in, digits_of-decimal, other_word, printable_digits}
use Rattle.script_text.proofs.WordLaws.{printable_line}

-- a query is searched for in the text
pub record IsSearched (text : List ℕ) : Type 0 where
  pub query : Query
  pub parses : Parses text query

-- nothing is wrong with the form of a statement of this line
pub record IsRightForm (form : Form) (line : List ℕ) : Type 0 where
  pub known : form ≡ no_nodes → ⊥
  pub words : has_wrong_word form ≡ false
  pub counted : has_wrong_count form ≡ false
  pub ranges : is_in_range form line ≡ true
  pub searched : has_query form ≡ true → IsSearched (rest_behind 3 line)

-- a statement of such a form is right
pub right_by_form : (place : Place) (before : Counted) (statement : Statement) (form : Form) → form_at place statement ≡ form → IsRightForm form statement.line
    → is_printable statement.line ≡ true → has_room (has_log place) before (words_in statement.line) ≡ true → IsRight place before statement
right_by_form place before statement form e right printable room Text h = both_ways (is_printable statement.line) h printable
right_by_form place before statement form e right printable room NoNodes h = right.known (sym e ∙ h)
right_by_form place before statement form e right printable room Word h =
    both_ways (has_wrong_word (form_at place statement)) (ap has_wrong_word e ∙ right.words) h
right_by_form place before statement form e right printable room Count h =
    both_ways (has_wrong_count (form_at place statement)) (ap has_wrong_count e ∙ right.counted) h
right_by_form place before statement form e right printable room Range h =
    let ranges : is_in_range (form_at place statement) statement.line ≡ true = ap (λ (f : Form). is_in_range f statement.line) e ∙ right.ranges in
    both_ways (is_in_range (form_at place statement) statement.line && has_room (has_log place) before (words_in statement.line)) h
    (and_from (is_in_range (form_at place statement) statement.line) (has_room (has_log place) before (words_in statement.line)) ranges room)
right_by_form place before statement form e right printable room (RefusedQuery fault) h =
    let searched = right.searched (sym (ap has_query e) ∙ h.0) in
    parses_no_fault (rest_behind 3 statement.line) searched.query fault searched.parses h.1

-- the words behind a lane ask for a command, with the words that it is to have and what is to follow
pub record AreRight (size : ℕ) (words : List (List ℕ)) (rest : List ℕ) : Type 0 where
  pub shape : Shape
  pub behind : List (List ℕ)
  pub asks : asked words ≡ command shape behind
  pub counted : is_too_few_or_many shape.tail (length shape.words) (length behind) ≡ false
  pub kinds : are_kinds size shape.words behind ≡ true
  pub short : is_short shape.tail rest ≡ true
  pub searched : asks_query (command shape behind) ≡ true → IsSearched rest

-- the form of a line of a lane is right where its words are
pub right_lane : (size : ℕ) (lane : List ℕ) (words : List (List ℕ)) (line : List ℕ) → is_number_in 1 8 lane ≡ true → AreRight size words (rest_behind 3 line)
    → IsRightForm (lane_line size lane words) line
right_lane size lane words line ranged right =
    let found : is_asked_in_range size (rest_behind 3 line) (command right.shape right.behind) ≡ true =
    and_from (are_kinds size right.shape.words right.behind) (is_short right.shape.tail (rest_behind 3 line)) right.kinds right.short in
    record {
      known = λ e. cc;
      words = ap is_unknown right.asks;
      counted = ap is_miscounted right.asks ∙ right.counted;
      ranges = and_from (is_number_in 1 8 lane) (is_asked_in_range size (rest_behind 3 line) (asked words)) ranged (ap (is_asked_in_range size (rest_behind 3 line)) right.asks ∙ found);
      searched = λ asks. right.searched (sym (ap asks_query right.asks) ∙ asks);
    }

-- a place behind the first statement, where there are so many nodes and a log or none
abbrev pub IsBehind : Place → ℕ → Bool → Type 0
IsBehind first_place size log = ⊥
IsBehind (second_place nodes) size log = (nodes ≡ size) × (log ≡ false)
IsBehind (third_place nodes) size log = (nodes ≡ size) × (log ≡ false)
IsBehind (later_place nodes logs) size log = (nodes ≡ size) × (log ≡ logs)

later_lane : (size : ℕ) (lane : List ℕ) (words : List (List ℕ)) → list_all is_digit lane ≡ true → is_digits lane ≡ true → later_form size lane words ≡ lane_line size lane words
later_lane size lane words all digits =
    let other : bytes_eq (codes "join") lane ≡ false = other_word 106 (codes "oin") lane refl all in
    rw (other, digits) refl

logged_lane : (size : ℕ) (lane : List ℕ) (words : List (List ℕ)) → list_all is_digit lane ≡ true → is_digits lane ≡ true → logged_form size lane words ≡ lane_line size lane words
logged_lane size lane words all digits =
    let other : bytes_eq (codes "log") lane ≡ false = other_word 108 (codes "og") lane refl all in
    rw other (later_lane size lane words all digits)

-- a statement that begins with digits is a line of a lane
pub lane_form : (place : Place) (size : ℕ) (log : Bool) (statement : Statement) (lane : List ℕ) (words : List (List ℕ)) → IsBehind place size log → words_in statement.line ≡ lane ∷ words
    → list_all is_digit lane ≡ true → is_digits lane ≡ true → form_at place statement ≡ lane_line size lane words
lane_form first_place size log statement lane words behind e all digits = absurd behind
lane_form (second_place nodes) size log statement lane words behind e all digits =
    let other : bytes_eq (codes "workers") lane ≡ false = other_word 119 (codes "orkers") lane refl all in
    let here : form_of (second_place nodes) (lane ∷ words) ≡ logged_form nodes lane words = rw other refl in
    ap (form_of (second_place nodes)) e ∙ (here ∙ (logged_lane nodes lane words all digits ∙ ap (λ (n : ℕ). lane_line n lane words) behind.0))
lane_form (third_place nodes) size log statement lane words behind e all digits =
    ap (form_of (third_place nodes)) e ∙ (logged_lane nodes lane words all digits ∙ ap (λ (n : ℕ). lane_line n lane words) behind.0)
lane_form (later_place nodes logs) size log statement lane words behind e all digits =
    ap (form_of (later_place nodes logs)) e ∙ (later_lane nodes lane words all digits ∙ ap (λ (n : ℕ). lane_line n lane words) behind.0)

-- the place behind a statement whose first word is no header's, is behind all headers
pub behind_next : (place : Place) (size : ℕ) (log : Bool) (statement : Statement) → IsBehind place size log → is_headed (codes "workers") (words_in statement.line) ≡ false
    → is_headed (codes "log") (words_in statement.line) ≡ false → IsBehind (next_place place statement) size log
behind_next first_place size log statement behind workers logs = absurd behind
behind_next (second_place nodes) size log statement behind workers logs = rw (workers, logs) behind
behind_next (third_place nodes) size log statement behind workers logs = rw logs behind
behind_next (later_place nodes logged) size log statement behind workers logs = behind

-- a place behind the first statement tells whether there is a log
pub log_behind : (place : Place) (size : ℕ) (log : Bool) → IsBehind place size log → has_log place ≡ log
log_behind first_place size log behind = absurd behind
log_behind (second_place nodes) size log behind = sym behind.1
log_behind (third_place nodes) size log behind = sym behind.1
log_behind (later_place nodes logs) size log behind = sym behind.1

-- a line of these words is printable
printable_of : (line : List ℕ) (words : List (List ℕ)) → words_in line ≡ words → list_all is_printable words ≡ true → is_printable line ≡ true
printable_of line words e all = printable_line line (ap (list_all is_printable) e ∙ all)

-- a word of letters and a number are printable
printable_header : (line name digits : List ℕ) → words_in line ≡ name ∷ digits ∷ [] → is_printable name ≡ true → list_all is_digit digits ≡ true → is_printable line ≡ true
printable_header line name digits e named all =
    printable_of line (name ∷ digits ∷ []) e
    (and_from (is_printable name) (list_all is_printable (digits ∷ [])) named
    (and_from (is_printable digits) (list_all is_printable []) (printable_digits digits all) refl))

-- the header that says how many nodes there are is right in first place
pub right_nodes : (nodes : ℕ) (statement : Statement) → IsNodesHeader statement nodes → nodes ≤ 16 → IsRight first_place none_counted statement
right_nodes nodes statement header small =
    let narrow : nodes < 2 ^ 64 = omega arith in
    right_by_form first_place none_counted statement (nodes_header (decimal nodes ∷ [])) (ap (form_of first_place) header.0)
    (record {
      known = λ e. cc;
      words = refl;
      counted = refl;
      ranges = and_from (is_number_in 2 16 (decimal nodes)) true (number_in 2 16 nodes narrow header.1) refl;
      searched = λ asks. absurd (false≢true asks);
    })
    (printable_header statement.line (codes "nodes") (decimal nodes) header.0 refl (digits_of-decimal nodes narrow)) refl

-- the header that says how many workers there are is right in second place
pub right_workers : (size workers : ℕ) (statement : Statement) → IsWorkersHeader statement workers → IsRight (second_place size) (headers_counted 1) statement
right_workers size workers statement header =
    let narrow : workers < 2 ^ 64 = omega (arith, header.1) in
    let between : is_between 0 8 workers ≡ true = and_from (nat_le 0 workers) (nat_le workers 8) (le-leb 0 workers (omega arith)) (le-leb workers 8 header.1) in
    right_by_form (second_place size) (headers_counted 1) statement (workers_header (decimal workers ∷ [])) (ap (form_of (second_place size)) header.0)
    (record {
      known = λ e. cc;
      words = refl;
      counted = refl;
      ranges = and_from (is_number_in 0 8 (decimal workers)) true (number_in 0 8 workers narrow between) refl;
      searched = λ asks. absurd (false≢true asks);
    })
    (printable_header statement.line (codes "workers") (decimal workers) header.0 refl (digits_of-decimal workers narrow)) refl

-- a place where a log may be asked for, where there are so many nodes
abbrev pub IsBeforeLog : Place → ℕ → Type 0
IsBeforeLog (second_place nodes) size = nodes ≡ size
IsBeforeLog (third_place nodes) size = nodes ≡ size
IsBeforeLog place size = ⊥

log_form : (place : Place) (size : ℕ) (statement : Statement) → IsBeforeLog place size → IsLogHeader statement → form_at place statement ≡ log_header []
log_form first_place size statement may is = absurd may
log_form (second_place nodes) size statement may is = ap (form_of (second_place nodes)) is
log_form (third_place nodes) size statement may is = ap (form_of (third_place nodes)) is
log_form (later_place nodes log) size statement may is = absurd may

pub log_room : (place : Place) (size n : ℕ) (words : List (List ℕ)) → IsBeforeLog place size → n ≤ 2 → has_room (has_log place) (headers_counted n) words ≡ true
log_room first_place size n words may few = absurd may
log_room (second_place nodes) size n words may few = rw (lt-ltb n 200000 (omega (arith, few))) refl
log_room (third_place nodes) size n words may few = rw (lt-ltb n 200000 (omega (arith, few))) refl
log_room (later_place nodes log) size n words may few = absurd may

-- the header that asks for a log is right behind the other headers
pub right_log : (place : Place) (size n : ℕ) (statement : Statement) → IsBeforeLog place size → n ≤ 2 → IsLogHeader statement → IsRight place (headers_counted n) statement
right_log place size n statement may few is =
    right_by_form place (headers_counted n) statement (log_header []) (log_form place size statement may is)
    (record {
      known = λ e. cc;
      words = refl;
      counted = refl;
      ranges = refl;
      searched = λ asks. absurd (false≢true asks);
    })
    (printable_of statement.line (codes "log" ∷ []) is refl) (log_room place size n (words_in statement.line) may few)

-- behind the header that asks for a log there is one
pub behind_log : (place : Place) (size : ℕ) (log : Bool) (statement : Statement) → IsBeforeLog place size → IsLogHeader statement → log ≡ true
    → IsBehind (next_place place statement) size log
behind_log first_place size log statement may is e = absurd may
behind_log (second_place nodes) size log statement may is e = rw is (may, e)
behind_log (third_place nodes) size log statement may is e = rw is (may, e)
behind_log (later_place nodes logs) size log statement may is e = absurd may

-- without that header there is none
pub behind_no_log : (place : Place) (size : ℕ) (log : Bool) → IsBeforeLog place size → log ≡ false → IsBehind place size log
behind_no_log first_place size log may e = absurd may
behind_no_log (second_place nodes) size log may e = (may, e)
behind_no_log (third_place nodes) size log may e = (may, e)
behind_no_log (later_place nodes logs) size log may e = absurd may

-- behind the header that says how many workers there are a log may be asked for
pub behind_workers : (nodes workers : ℕ) (statement : Statement) → IsWorkersHeader statement workers → next_place (second_place nodes) statement ≡ third_place nodes
behind_workers nodes workers statement header = rw header.0 refl

-- a header of one number is no promotion
pub number_header : (statement : Statement) (number : ℕ) (name : List ℕ) → words_in statement.line ≡ name ∷ decimal number ∷ [] → number < 2 ^ 64
    → is_promotion (words_in statement.line) ≡ false
number_header statement number name is narrow =
    let other : bytes_eq (codes "promote") (decimal number) ≡ false = other_word 112 (codes "romote") (decimal number) refl (digits_of-decimal number narrow) in
    ap is_promotion is ∙ other

pub header_counted : (n : ℕ) (statement : Statement) (number : ℕ) (name : List ℕ) → words_in statement.line ≡ name ∷ decimal number ∷ [] → number < 2 ^ 64
    → counted_with (headers_counted n) statement ≡ headers_counted (n + 1)
header_counted n statement number name is narrow = rw (number_header statement number name is narrow) refl

join_form : (place : Place) (size : ℕ) (log : Bool) (statement : Statement) → IsBehind place size log → IsJoin statement → form_at place statement ≡ join []
join_form first_place size log statement behind is = absurd behind
join_form (second_place nodes) size log statement behind is = ap (form_of (second_place nodes)) is
join_form (third_place nodes) size log statement behind is = ap (form_of (third_place nodes)) is
join_form (later_place nodes logs) size log statement behind is = ap (form_of (later_place nodes logs)) is

pub behind_join : (place : Place) (size : ℕ) (log : Bool) (statement : Statement) → IsBehind place size log → IsJoin statement → IsBehind (next_place place statement) size log
behind_join place size log statement behind is =
    behind_next place size log statement behind (ap (is_headed (codes "workers")) is) (ap (is_headed (codes "log")) is)

-- a join is right behind the first statement
pub right_join : (place : Place) (size : ℕ) (log : Bool) (before : Counted) (statement : Statement) → IsBehind place size log → IsJoin statement
    → has_room log before (words_in statement.line) ≡ true → IsRight place before statement
right_join place size log before statement behind is room =
    right_by_form place before statement (join []) (join_form place size log statement behind is)
    (record {
      known = λ e. cc;
      words = refl;
      counted = refl;
      ranges = refl;
      searched = λ asks. absurd (false≢true asks);
    })
    (printable_of statement.line (codes "join" ∷ []) is refl) (ap (λ (b : Bool). has_room b before (words_in statement.line)) (log_behind place size log behind) ∙ room)
