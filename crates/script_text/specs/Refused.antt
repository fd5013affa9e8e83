-- Which line of a text is the first that is refused, and why.
use Rattle.std.specs.Prelude.{ℕ, ◌≡◌, ◌+◌, ◌-◌, ◌*◌, ◌≤◌, ◌<◌, ◌^◌, ◌⊎◌, List, [], ◌∷◌, map, length, codes, nat_eq, nat_lt, nat_le, Bool, true, false, ◌&&◌, ◌||◌, not, ◌==◌, if◌then◌else◌, Option, Some, None, bytes_eq}
use Rattle.std.specs.List.{list_all}
use Rattle.nrt_base.specs.Bytes.{is_between, is_text_byte}
use Rattle.text_query.specs.Answers.{IsFault}
use Rattle.script_text.specs.declared.fault.LineFault.{LineFault}
use Rattle.script_text.specs.declared.fault.LineFault.TheVariants.{NoNodes, Word, Count, Range, Query as RefusedQuery, Text}
use Rattle.history_rules.specs.declared.cause.FaultKind.{FaultKind}
use Rattle.history_rules.specs.declared.cause.FaultKind.TheVariants as kind
use Rattle.script_text.specs.declared.shapes.Plain.{Plain}
use Rattle.script_text.specs.declared.shapes.Plain.TheVariants as plain
use Rattle.script_text.specs.declared.shapes.Name.{Name}
use Rattle.script_text.specs.declared.shapes.Name.TheVariants as named
use Rattle.script_text.specs.declared.counted.Counted.{Counted}
use Rattle.documents.specs.Words.{is_alphanumeric}
use Rattle.script_text.specs.Grammar.{Statement, statements_of, lines_of_text, words_in, word_at, rest_behind, most_statements, is_promotion}

-- every byte of a statement is printable
abbrev pub is_printable : List ℕ → Bool
is_printable line = list_all is_text_byte line

-- the byte is a decimal digit
abbrev pub is_digit : ℕ → Bool
is_digit b = is_between 48 57 b

-- the word has digits alone
abbrev pub is_digits : List ℕ → Bool
is_digits word = nat_lt 0 (length word) && list_all is_digit word

-- a number of the text: decimal digits without a leading zero
abbrev pub is_number : List ℕ → Bool
is_number [] = false
is_number (b ∷ []) = is_digit b
is_number (b ∷ c ∷ digits) = not (b == 48) && list_all is_digit (b ∷ c ∷ digits)

-- the number that goes on with these digits
abbrev pub value_from : ℕ → List ℕ → ℕ
value_from n [] = n
value_from n (b ∷ digits) = value_from (n * 10 + (b - 48)) digits

-- the number that decimal digits spell
abbrev pub value_of : List ℕ → ℕ
value_of digits = value_from 0 digits

-- the word is a number from the one to the other
abbrev pub is_number_in : ℕ → ℕ → List ℕ → Bool
is_number_in low high word = is_number word && is_between low high (value_of word)

-- what a word of a command is to be: a number in a range, a node, a forced version, a key, or letters and digits
pub data Kind : Type 0 where
  number : ℕ → ℕ → Kind
  node : Kind
  force : Kind
  key : Kind
  letters : Kind

-- what may follow the words of a command
pub data Tail : Type 0 where
  nothing : Tail
  text : Tail
  query : Tail

-- the form of a command: its name, what each word behind it is to be, and what follows
pub record Shape : Type 0 where
  pub name : List ℕ
  pub words : List Kind
  pub tail : Tail

-- the shape of this name, with these words behind it and this tail
abbrev pub shape : List ℕ → List Kind → Tail → Shape
shape name words tail = record { name = name; words = words; tail = tail }

-- the shape of a command that is read without memory
abbrev pub plain_shape : Plain → Shape
plain_shape plain.Publish = shape (codes "publish") [] nothing
plain_shape plain.Copy = shape (codes "copy") (node ∷ []) nothing
plain_shape plain.Settle = shape (codes "settle") [] nothing
plain_shape plain.Open = shape (codes "open") (node ∷ number 1 9999 ∷ []) nothing
plain_shape plain.Close = shape (codes "close") (number 1 9999 ∷ []) nothing
plain_shape plain.Commit = shape (codes "commit") (node ∷ []) nothing
plain_shape plain.Crash = shape (codes "crash") (node ∷ number 0 (2 ^ 64 - 1) ∷ []) nothing
plain_shape plain.Reopen = shape (codes "reopen") (node ∷ []) nothing
plain_shape plain.Promote = shape (codes "promote") (node ∷ force ∷ []) nothing
plain_shape plain.Merge = shape (codes "merge") (number 2 16 ∷ []) nothing
plain_shape plain.Drain = shape (codes "drain") (number 1 1000 ∷ []) nothing
plain_shape plain.Files = shape (codes "files") (node ∷ []) nothing

-- the shape of a planned fault
abbrev pub fault_shape : FaultKind → Shape
fault_shape kind.Link = shape (codes "link") (node ∷ number 1 1000000 ∷ []) nothing
fault_shape kind.Damage = shape (codes "damage") (node ∷ number 1 1000000 ∷ number 0 (2 ^ 32 - 1) ∷ []) nothing
fault_shape kind.Disk = shape (codes "disk") (node ∷ number 1 1000000 ∷ []) nothing
fault_shape kind.Stop = shape (codes "stop") (node ∷ number 1 1000000 ∷ []) nothing

-- the shape of a named command
abbrev pub shape_of : Name → Shape
shape_of named.Put = shape (codes "put") (key ∷ []) text
shape_of named.Delete = shape (codes "delete") (key ∷ []) nothing
shape_of named.Drop = shape (codes "drop") (letters ∷ []) nothing
shape_of named.Search = shape (codes "search") (node ∷ []) query
shape_of named.Ask = shape (codes "ask") (number 1 9999 ∷ []) query
shape_of (named.Plain p) = plain_shape p
shape_of (named.Fault k) = fault_shape k

-- the names of the commands of a lane, but for faults
abbrev pub command_names : List Name
command_names =
    named.Put
    ∷ named.Delete
    ∷ named.Drop
    ∷ named.Plain plain.Publish
    ∷ named.Plain plain.Copy
    ∷ named.Plain plain.Settle
    ∷ named.Search
    ∷ named.Plain plain.Open
    ∷ named.Ask
    ∷ named.Plain plain.Close
    ∷ named.Plain plain.Commit
    ∷ named.Plain plain.Crash
    ∷ named.Plain plain.Reopen
    ∷ named.Plain plain.Promote
    ∷ named.Plain plain.Merge
    ∷ named.Plain plain.Drain
    ∷ named.Plain plain.Files
    ∷ []

-- the commands of a lane, but for faults
abbrev pub command_shapes : List Shape
command_shapes = map shape_of command_names

-- the kinds of planned faults, whose word stands behind `fault`
abbrev pub fault_shapes : List Shape
fault_shapes = map fault_shape (kind.Link ∷ kind.Damage ∷ kind.Disk ∷ kind.Stop ∷ [])

-- the shape of this name
abbrev pub shape_named : List ℕ → List Shape → Option Shape
shape_named name [] = None
shape_named name (s ∷ shapes) = if bytes_eq s.name name then Some s else shape_named name shapes

-- what the words behind a lane ask for
pub data Asked : Type 0 where
  -- the word that names it is missing
  missing : Asked
  -- the word that names it is none of the table's
  unknown : Asked
  -- a command of this shape, with these words behind its name
  command : Shape → List (List ℕ) → Asked

-- the command of a shape that was found, or none of the table
abbrev pub asked_by : Option Shape → List (List ℕ) → Asked
asked_by None words = unknown
asked_by (Some s) words = command s words

-- what the words behind `fault` ask for
abbrev pub fault_asked : List (List ℕ) → Asked
fault_asked [] = missing
fault_asked (kind ∷ words) = asked_by (shape_named kind fault_shapes) words

-- what the words behind a lane ask for
abbrev pub asked : List (List ℕ) → Asked
asked [] = missing
asked (name ∷ words) = if bytes_eq (codes "fault") name then fault_asked words else asked_by (shape_named name command_shapes) words

-- the place of a statement: the first, behind the nodes, behind the workers, or behind all headers, with a log or without; the nodes are 1 to the size
pub data Place : Type 0 where
  first : Place
  second : ℕ → Place
  third : ℕ → Place
  later : ℕ → Bool → Place

-- the script is known to have a log
abbrev pub has_log : Place → Bool
has_log (later size log) = log
has_log place = false

-- what a statement is by its first word: a header, a join, a line of a lane, or nothing that is allowed at its place
pub data Form : Type 0 where
  no_nodes : Form
  nodes_header : List (List ℕ) → Form
  workers_header : List (List ℕ) → Form
  log_header : List (List ℕ) → Form
  join : List (List ℕ) → Form
  lane_line : ℕ → List ℕ → List (List ℕ) → Form
  no_form : Form

-- what a statement behind the headers is, by its first word
abbrev pub later_form : ℕ → List ℕ → List (List ℕ) → Form
later_form size word words =
    if bytes_eq (codes "join") word then join words
    else if is_digits word then lane_line size word words else no_form

-- what a statement is, by its first word, where a log may still be asked for
abbrev pub logged_form : ℕ → List ℕ → List (List ℕ) → Form
logged_form size word words = if bytes_eq (codes "log") word then log_header words else later_form size word words

-- what a statement is at a place, by its words
abbrev pub form_of : Place → List (List ℕ) → Form
form_of place [] = no_form
form_of first (word ∷ words) = if bytes_eq (codes "nodes") word then nodes_header words else no_nodes
form_of (second size) (word ∷ words) = if bytes_eq (codes "workers") word then workers_header words else logged_form size word words
form_of (third size) (word ∷ words) = logged_form size word words
form_of (later size log) (word ∷ words) = later_form size word words

-- the form of a statement at a place
abbrev pub form_at : Place → Statement → Form
form_at place statement = form_of place (words_in statement.line)

-- the word that names the command is none of the table
abbrev pub is_unknown : Asked → Bool
is_unknown unknown = true
is_unknown asked = false

-- the first word is not allowed at its place, or the word that names the command is none of the table's
abbrev pub has_wrong_word : Form → Bool
has_wrong_word no_form = true
has_wrong_word (lane_line size lane words) = is_unknown (asked words)
has_wrong_word form = false

-- too few words are found, or too many: a text may be empty, and a query is a word at least
abbrev pub is_too_few_or_many : Tail → ℕ → ℕ → Bool
is_too_few_or_many nothing wanted found = not (wanted == found)
is_too_few_or_many text wanted found = nat_lt found wanted
is_too_few_or_many query wanted found = nat_le found wanted

-- a word of the command is missing, or there are too many
abbrev pub is_miscounted : Asked → Bool
is_miscounted missing = true
is_miscounted unknown = false
is_miscounted (command s words) = is_too_few_or_many s.tail (length s.words) (length words)

-- a word is missing, or there are too many
abbrev pub has_wrong_count : Form → Bool
has_wrong_count (nodes_header words) = not (length words == 1)
has_wrong_count (workers_header words) = not (length words == 1)
has_wrong_count (log_header words) = not (length words == 0)
has_wrong_count (join words) = not (length words == 0)
has_wrong_count (lane_line size lane words) = is_miscounted (asked words)
has_wrong_count form = false

-- the word is what it is to be
abbrev pub is_kind : ℕ → Kind → List ℕ → Bool
is_kind size (number low high) word = is_number_in low high word
is_kind size node word = is_number_in 1 size word
is_kind size force word = bytes_eq (codes "auto") word || is_number_in 0 (2 ^ 64 - 1) word
is_kind size key word = nat_le (length word) 64
is_kind size letters word = is_between 1 64 (length word) && list_all is_alphanumeric word

-- each of the words that there are is what it is to be
abbrev pub are_kinds : ℕ → List Kind → List (List ℕ) → Bool
are_kinds size [] words = true
are_kinds size (kind ∷ kinds) [] = true
are_kinds size (kind ∷ kinds) (word ∷ words) = is_kind size kind word && are_kinds size kinds words

-- what follows the words of a command is no longer than it may be
abbrev pub is_short : Tail → List ℕ → Bool
is_short nothing rest = true
is_short tail rest = nat_le (length rest) 4096

-- the words of the command are what they are to be, and what follows is short enough
abbrev pub is_asked_in_range : ℕ → List ℕ → Asked → Bool
is_asked_in_range size rest (command s words) = are_kinds size s.words words && is_short s.tail rest
is_asked_in_range size rest asked = true

-- every number is in its form and range, and no key, text or query is too long; a text and a query stand behind three words
abbrev pub is_in_range : Form → List ℕ → Bool
is_in_range (nodes_header words) line = list_all (is_number_in 2 16) words
is_in_range (workers_header words) line = list_all (is_number_in 0 8) words
is_in_range (lane_line size lane words) line = is_number_in 1 8 lane && is_asked_in_range size (rest_behind 3 line) (asked words)
is_in_range form line = true

-- the command ends with a query
abbrev pub asks_query : Asked → Bool
asks_query (command s words) = is_query s.tail
  where
    is_query : Tail → Bool
    is_query query = true
    is_query tail = false
asks_query asked = false

-- the statement is a line that ends with a query
abbrev pub has_query : Form → Bool
has_query (lane_line size lane words) = asks_query (asked words)
has_query form = false

-- a statement of these words is none too many, with so many before it: with a log there may be fewer, and 64 promotions
abbrev pub has_room : Bool → Counted → List (List ℕ) → Bool
has_room log before words =
    nat_lt before.statements (most_statements log) && (not log || (nat_lt before.promotions 64 || not (is_promotion words)))

-- where each cause holds of a statement that has so many before it, whatever else is wrong
abbrev pub CauseHolds : Place → Counted → Statement → LineFault → Type 0
CauseHolds place before statement Text = is_printable statement.line ≡ false
CauseHolds place before statement NoNodes = form_at place statement ≡ no_nodes
CauseHolds place before statement Word = has_wrong_word (form_at place statement) ≡ true
CauseHolds place before statement Count = has_wrong_count (form_at place statement) ≡ true
CauseHolds place before statement Range =
    (is_in_range (form_at place statement) statement.line && has_room (has_log place) before (words_in statement.line)) ≡ false
CauseHolds place before statement (RefusedQuery fault) =
    (has_query (form_at place statement) ≡ true) × IsFault (rest_behind 3 statement.line) fault

-- the order in which causes are looked for
abbrev pub order_of : LineFault → ℕ
order_of Text = 1
order_of NoNodes = 2
order_of Word = 3
order_of Count = 4
order_of Range = 5
order_of (RefusedQuery fault) = 6

-- the cause holds of the statement, and none before it does
pub record IsFirstCause (place : Place) (before : Counted) (statement : Statement) (cause : LineFault) : Type 0 where
  pub holds : CauseHolds place before statement cause
  pub first_one : (other : LineFault) → order_of other < order_of cause → CauseHolds place before statement other → ⊥

-- no cause holds of the statement
abbrev pub IsRight : Place → Counted → Statement → Type 0
IsRight place before statement = (cause : LineFault) → CauseHolds place before statement cause → ⊥

-- how many nodes a right first statement says that there are
abbrev pub nodes_said : List (List ℕ) → ℕ
nodes_said (name ∷ word ∷ words) = value_of word
nodes_said words = 0

-- the first word is this
abbrev pub is_headed : List ℕ → List (List ℕ) → Bool
is_headed name [] = false
is_headed name (word ∷ words) = bytes_eq name word

-- the place behind a right statement
abbrev pub next_place : Place → Statement → Place
next_place first statement = second (nodes_said (words_in statement.line))
next_place (second size) statement =
    if is_headed (codes "workers") (words_in statement.line) then third size else later size (is_headed (codes "log") (words_in statement.line))
next_place (third size) statement = later size (is_headed (codes "log") (words_in statement.line))
next_place (later size log) statement = later size log

-- a statement more
abbrev pub counted_with : Counted → Statement → Counted
counted_with before statement = record {
  statements = before.statements + 1;
  promotions = before.promotions + (if is_promotion (words_in statement.line) then 1 else 0);
}

-- no statement yet
abbrev pub none_counted : Counted
none_counted = record { statements = 0; promotions = 0 }

-- of these statements, which have so many before them, the first that is refused has this line number and this cause
abbrev pub RefusesAmong : Place → Counted → List Statement → ℕ → LineFault → Type 0
RefusesAmong place before [] n cause = ⊥
RefusesAmong place before (statement ∷ statements) n cause =
    ((n ≡ statement.number) × IsFirstCause place before statement cause)
    ⊎ (IsRight place before statement × RefusesAmong (next_place place statement) (counted_with before statement) statements n cause)

-- where there is no statement, the line after the last is refused, since the number of nodes is not said
abbrev pub RefusesStatements : ℕ → List Statement → ℕ → LineFault → Type 0
RefusesStatements lines [] n cause = (n ≡ lines + 1) × (cause ≡ NoNodes)
RefusesStatements lines (statement ∷ statements) n cause = RefusesAmong first none_counted (statement ∷ statements) n cause

-- line n of the text is the first that is refused, for this cause
pub record IsFirstRefused (bytes : List ℕ) (n : ℕ) (cause : LineFault) : Type 0 where
  pub short : length bytes ≤ 16777216
  pub refused : RefusesStatements (length (lines_of_text bytes)) (statements_of bytes) n cause
