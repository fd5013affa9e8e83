-- What the steps of reading a script tell each other: the parts of a line, the command that it names, and what was read so far.
use Rattle.std.specs.Prelude.{ℕ, zero, suc, ◌≡◌, ◌≤◌, ◌<◌, ◌+◌, ◌-◌, ◌^◌, List, [], ◌∷◌, ◌++◌, map, length, drop, codes, Bool, true, false, ◌&&◌, ◌||◌, ◌==◌, nat_lt, nat_le, if◌then◌else◌, Option, Some, None, Result, Ok, Err, bytes_eq}
use Rattle.std.specs.List.{list_all}
use Rattle.std.specs.Option.{option_map, option_and_then}
use Rattle.std.specs.Fmt.{decimal}
use Rattle.nrt_base.specs.Bytes.{is_between, is_key, is_key_byte, is_text, is_word}
use Rattle.documents.specs.Words.{is_alphanumeric, words_of}
use Rattle.nrt_base.specs.declared.doc.Doc.{Doc}
use Rattle.nrt_base.specs.declared.numbers.LaneNo.{LaneNo}
use Rattle.nrt_base.specs.declared.numbers.NodeNo.{NodeNo}
use Rattle.nrt_base.specs.declared.numbers.TicketNo.{TicketNo}
use Rattle.documents.specs.declared.query.Query.{Query}
use Rattle.documents.specs.Matching.{is_well_formed}
use Rattle.history_rules.specs.declared.cause.FaultKind.{FaultKind}
use Rattle.history_rules.specs.declared.cause.FaultKind.TheVariants as kind
use Rattle.history_rules.specs.declared.cause.FaultPlan.{FaultPlan}
use Rattle.history_rules.specs.declared.cause.FaultPlan.TheVariants as plan
use Rattle.text_query.specs.declared.fault.QueryFault.{QueryFault}
use Rattle.text_query.specs.Answers.{IsFault, Parses}
use Rattle.script_text.specs.declared.fault.LineFault.{LineFault}
use Rattle.script_text.specs.declared.fault.LineFault.TheVariants.{Count, Range, Query as RefusedQuery}
use Rattle.script_text.specs.declared.fault.ScriptFault.{ScriptFault}
use Rattle.script_text.specs.declared.fault.ScriptFault.TheVariants as script_fault
use Rattle.script_text.specs.declared.fault.Refusal.{Refusal}
use Rattle.script_text.specs.declared.fault.Refusal.TheVariants as refusal
use Rattle.script_serving.specs.declared.script.Force.{Force}
use Rattle.script_serving.specs.declared.script.Force.TheVariants.{Auto, Exactly}
use Rattle.script_serving.specs.declared.script.Line.{Line}
use Rattle.script_serving.specs.declared.script.LineCommand.{LineCommand}
use Rattle.script_serving.specs.declared.script.LineCommand.TheVariants as asks
use Rattle.script_serving.specs.declared.script.Phase.{Phase}
use Rattle.script_serving.specs.declared.script.Script.{Script}
use Rattle.script_text.specs.declared.counted.Counted.{Counted}
use Rattle.script_text.specs.declared.shapes.Plain.{Plain}
use Rattle.script_text.specs.declared.shapes.Plain.TheVariants as plain
use Rattle.script_text.specs.declared.shapes.Name.{Name}
use Rattle.script_text.specs.declared.shapes.Name.TheVariants as named
use Rattle.script_text.specs.declared.shapes.Asked.{Asked as Found}
use Rattle.script_text.specs.declared.shapes.Asked.TheVariants as found
use Rattle.script_text.specs.declared.lane_lines.Later.{Later}
use Rattle.script_text.specs.declared.lane_lines.Later.TheVariants as later_read
use Rattle.script_serving.specs.Form.{is_command}
use Rattle.script_text.specs.Grammar.{Statement, statements_from, lines_of_text, words_in, word_at, rest_behind, Ends, SpellsLine, SpellsPhases, SpellsLogged, SpellsBody, SpellsScript, IsNodesHeader, IsWorkersHeader, IsLogHeader, IsJoin, phase_of, promotions_among, AreAllowed}
use Rattle.script_text.specs.Refused.{letters, text, query, Shape, Asked, missing, unknown, command, first, second, third, later, none_counted, is_headed, is_kind, is_number_in, value_of, command_shapes, fault_shapes, shape_named, fault_shape, shape_of, is_asked_in_range, asks_query, IsFirstCause, IsRight, RefusesAmong, IsFirstRefused, nodes_said}

-- the byte that ends a line
abbrev pub is_line_feed : ℕ → Bool
is_line_feed b = b == 10

-- the fault of a script whose line of this number is refused so
abbrev pub fault_at_line : ℕ → Refusal → ScriptFault
fault_at_line n refusal.Memory = script_fault.Memory
fault_at_line n (refusal.Cause cause) = script_fault.BadScript (record { 0 = n }) cause

-- the statement at the front of a text, its line, and the rest of the text: a text whose first line has the number `from` goes on at the next line
pub record IsNextStatement (from : ℕ) (bytes : List ℕ) (n : ℕ) (line rest : List ℕ) : Type 0 where
  pub statements : statements_from from (lines_of_text bytes) ≡ record { number = n; line = line } ∷ statements_from (n + 1) (lines_of_text rest)
  pub bounded : n + 1 + length rest ≤ from + length bytes
  pub shorter : length rest < length bytes

-- the number of a word that is one in the range
abbrev pub number_within : ℕ → ℕ → List ℕ → Option ℕ
number_within low high word = if is_number_in low high word then Some (value_of word) else None

-- the node that a word names, where there are so many
abbrev pub node_named : ℕ → List ℕ → Option NodeNo
node_named size word = option_map (λ n. record { 0 = n }) (number_within 1 size word)

-- the ticket that a word names
abbrev pub ticket_named : List ℕ → Option TicketNo
ticket_named word = option_map (λ n. record { 0 = n }) (number_within 1 9999 word)

-- the lane that a word names
abbrev pub lane_named : List ℕ → Option LaneNo
lane_named word = option_map (λ n. record { 0 = n }) (number_within 1 8 word)

-- the forced version that a word names
abbrev pub force_named : List ℕ → Option Force
force_named word = if bytes_eq (codes "auto") word then Some Auto else option_map (λ n. Exactly n) (number_within 0 (2 ^ 64 - 1) word)

-- the words that name a command: two of a planned fault, and one of every other
abbrev pub front_of : Name → List (List ℕ)
front_of (named.Fault k) = codes "fault" ∷ (fault_shape k).name ∷ []
front_of n = (shape_of n).name ∷ []

-- the name of a command that a word is in a table
pub record IsNamed (word : List ℕ) (shapes : List Shape) (n : Name) : Type 0 where
  pub found : shape_named word shapes ≡ Some (shape_of n)
  pub front : front_of n ≡ word ∷ []

-- the name of a planned fault that a word is
pub record IsFaultNamed (word : List ℕ) (n : Name) : Type 0 where
  pub found : shape_named word fault_shapes ≡ Some (shape_of n)
  pub front : front_of n ≡ codes "fault" ∷ word ∷ []

-- the second half of the table of commands
abbrev pub late_shapes : List Shape
late_shapes = drop 9 command_shapes

-- what the words behind a lane ask for, as it was found
abbrev pub asked_of : Found → Asked
asked_of found.Missing = missing
asked_of found.Unknown = unknown
asked_of (found.Command n rest) = command (shape_of n) (words_in rest.now)

-- the words stand behind those that name the command
abbrev pub NamesFront : List (List ℕ) → Found → Type 0
NamesFront words (found.Command n rest) = words ≡ front_of n ++ words_in rest.now
NamesFront words f = Unit {0}

-- the command of these words behind its name, where they are in their ranges
abbrev pub plain_command : ℕ → Plain → List ℕ → List ℕ → List ℕ → Option LineCommand
plain_command size plain.Publish a b c = Some asks.Publish
plain_command size plain.Copy a b c = option_map (λ n. asks.Copy n) (node_named size a)
plain_command size plain.Settle a b c = Some asks.Settle
plain_command size plain.Open a b c = option_and_then (λ n. option_map (λ t. asks.Open n t) (ticket_named b)) (node_named size a)
plain_command size plain.Close a b c = option_map (λ t. asks.Close t) (ticket_named a)
plain_command size plain.Commit a b c = option_map (λ n. asks.Commit n) (node_named size a)
plain_command size plain.Crash a b c = option_and_then (λ n. option_map (λ pick. asks.Crash n pick) (number_within 0 (2 ^ 64 - 1) b)) (node_named size a)
plain_command size plain.Reopen a b c = option_map (λ n. asks.Reopen n) (node_named size a)
plain_command size plain.Promote a b c = option_and_then (λ n. option_map (λ f. asks.Promote n f) (force_named b)) (node_named size a)
plain_command size plain.Merge a b c = option_map (λ n. asks.Merge n) (number_within 2 16 a)
plain_command size plain.Drain a b c = option_map (λ n. asks.Drain n) (number_within 1 1000 a)
plain_command size plain.Files a b c = option_map (λ n. asks.Files n) (node_named size a)

-- the planned fault of these words behind its node, where they are in their ranges
abbrev pub plan_of : FaultKind → List ℕ → List ℕ → Option FaultPlan
plan_of kind.Link b c = option_map (λ k. plan.Link k) (number_within 1 1000000 b)
plan_of kind.Damage b c = option_and_then (λ k. option_map (λ at. plan.Damage k at) (number_within 0 (2 ^ 32 - 1) c)) (number_within 1 1000000 b)
plan_of kind.Disk b c = option_map (λ k. plan.Disk k) (number_within 1 1000000 b)
plan_of kind.Stop b c = option_map (λ k. plan.Stop k) (number_within 1 1000000 b)

-- the command that plans a fault, where its words are in their ranges
abbrev pub fault_command : ℕ → FaultKind → List ℕ → List ℕ → List ℕ → Option LineCommand
fault_command size k a b c = option_and_then (λ n. option_map (λ p. asks.Fault n p) (plan_of k b c)) (node_named size a)

-- the command that was read of a line, whose words behind the name are these
pub record IsCommandOf (size : ℕ) (n : Name) (line : List ℕ) (words : List (List ℕ)) (read : LineCommand) : Type 0 where
  pub in_range : is_asked_in_range size (rest_behind 3 line) (command (shape_of n) words) ≡ true
  pub no_fault : (fault : QueryFault) → asks_query (command (shape_of n) words) ≡ true → IsFault (rest_behind 3 line) fault → ⊥
  pub ends : (lane : ℕ) → words_in line ≡ decimal lane ∷ (front_of n ++ words) → Ends read line lane
  pub ranges : is_command size read ≡ true

-- a word of a line: not empty, and without spaces and unprintable bytes
abbrev pub is_key_word : List ℕ → Bool
is_key_word word = nat_lt 0 (length word) && list_all is_key_byte word

-- the longest text and the longest query have 4,096 bytes
abbrev pub has_short_rest : List ℕ → Bool
has_short_rest line = nat_le (length (rest_behind 3 line)) 4096

-- what reading the query of a line gives
abbrev pub IsQueryRead : List ℕ → Result Query Refusal → Type 0
IsQueryRead line (Ok read) =
    (has_short_rest line ≡ true) × Parses (rest_behind 3 line) read × (is_well_formed read ≡ true)
    × ((fault : QueryFault) → IsFault (rest_behind 3 line) fault → ⊥)
IsQueryRead line (Err refusal.Memory) = Unit {0}
IsQueryRead line (Err (refusal.Cause Range)) = has_short_rest line ≡ false
IsQueryRead line (Err (refusal.Cause (RefusedQuery fault))) = (has_short_rest line ≡ true) × IsFault (rest_behind 3 line) fault
IsQueryRead line (Err (refusal.Cause cause)) = ⊥

-- what reading the document of a line gives, whose key is this word
abbrev pub IsDocRead : List ℕ → List ℕ → Result Doc Refusal → Type 0
IsDocRead line word (Ok doc) =
    (doc.key ≡ word) × (doc.text ≡ rest_behind 3 line) × (is_key word ≡ true) × (is_text (rest_behind 3 line) ≡ true)
IsDocRead line word (Err refusal.Memory) = Unit {0}
IsDocRead line word (Err (refusal.Cause Range)) = (nat_le (length word) 64 && has_short_rest line) ≡ false
IsDocRead line word (Err (refusal.Cause cause)) = ⊥

-- what reading the key of this word gives
abbrev pub IsKeyRead : List ℕ → Result (List ℕ) Refusal → Type 0
IsKeyRead word (Ok read) = (read ≡ word) × (is_key word ≡ true)
IsKeyRead word (Err refusal.Memory) = Unit {0}
IsKeyRead word (Err (refusal.Cause Range)) = nat_le (length word) 64 ≡ false
IsKeyRead word (Err (refusal.Cause cause)) = ⊥

-- what reading the word to drop gives, as it is written
abbrev pub IsDropRead : List ℕ → Result (List ℕ) Refusal → Type 0
IsDropRead written (Ok read) = (is_kind 0 letters written ≡ true) × (words_of written ≡ read ∷ []) × (is_word read ≡ true)
IsDropRead written (Err refusal.Memory) = Unit {0}
IsDropRead written (Err (refusal.Cause Range)) = is_kind 0 letters written ≡ false
IsDropRead written (Err (refusal.Cause cause)) = ⊥

-- what reading a search at the node of a word gives
abbrev pub IsSearchRead : ℕ → List ℕ → List ℕ → Result LineCommand Refusal → Type 0
IsSearchRead size line word (Ok read) =
    (n : NodeNo) × (q : Query) × (node_named size word ≡ Some n) × (read ≡ asks.Search n q) × IsQueryRead line (Ok q)
IsSearchRead size line word (Err refusal.Memory) = Unit {0}
IsSearchRead size line word (Err (refusal.Cause Range)) = (is_number_in 1 size word && has_short_rest line) ≡ false
IsSearchRead size line word (Err (refusal.Cause (RefusedQuery fault))) =
    ((is_number_in 1 size word && has_short_rest line) ≡ true) × IsFault (rest_behind 3 line) fault
IsSearchRead size line word (Err (refusal.Cause cause)) = ⊥

-- what reading a search at the ticket of a word gives
abbrev pub IsAskRead : List ℕ → List ℕ → Result LineCommand Refusal → Type 0
IsAskRead line word (Ok read) =
    (t : TicketNo) × (q : Query) × (ticket_named word ≡ Some t) × (read ≡ asks.Ask t q) × IsQueryRead line (Ok q)
IsAskRead line word (Err refusal.Memory) = Unit {0}
IsAskRead line word (Err (refusal.Cause Range)) = (is_number_in 1 9999 word && has_short_rest line) ≡ false
IsAskRead line word (Err (refusal.Cause (RefusedQuery fault))) =
    ((is_number_in 1 9999 word && has_short_rest line) ≡ true) × IsFault (rest_behind 3 line) fault
IsAskRead line word (Err (refusal.Cause cause)) = ⊥

-- a command out of its ranges is refused so
abbrev pub in_range : Option LineCommand → Result LineCommand Refusal
in_range (Some read) = Ok read
in_range None = Err (refusal.Cause Range)

-- what reading a command gives, behind its name
abbrev pub IsCommandRead : ℕ → Name → List ℕ → List (List ℕ) → Result LineCommand Refusal → Type 0
IsCommandRead size n line words (Ok read) = IsCommandOf size n line words read
IsCommandRead size n line words (Err refusal.Memory) = Unit {0}
IsCommandRead size n line words (Err (refusal.Cause Range)) = is_asked_in_range size (rest_behind 3 line) (command (shape_of n) words) ≡ false
IsCommandRead size n line words (Err (refusal.Cause (RefusedQuery fault))) =
    (is_asked_in_range size (rest_behind 3 line) (command (shape_of n) words) ≡ true) × (asks_query (command (shape_of n) words) ≡ true) × IsFault (rest_behind 3 line) fault
IsCommandRead size n line words (Err (refusal.Cause cause)) = ⊥

-- what reading a line of a lane gives
abbrev pub IsLineRead : ℕ → Bool → Counted → Statement → Result Line Refusal → Type 0
IsLineRead size log before statement (Ok line) = IsRight (later size log) before statement × SpellsLine size statement line
IsLineRead size log before statement (Err refusal.Memory) = Unit {0}
IsLineRead size log before statement (Err (refusal.Cause cause)) = IsFirstCause (later size log) before statement cause

-- what reading a statement gives that is no header: its line, that it is a join, or the first cause
abbrev pub IsLaterRead : ℕ → Bool → Counted → Statement → Result Later Refusal → Type 0
IsLaterRead size log before statement (Ok later_read.Join) = IsRight (later size log) before statement × IsJoin statement
IsLaterRead size log before statement (Ok (later_read.Line line)) = IsRight (later size log) before statement × SpellsLine size statement line
IsLaterRead size log before statement (Err refusal.Memory) = Unit {0}
IsLaterRead size log before statement (Err (refusal.Cause cause)) = IsFirstCause (later size log) before statement cause

-- a statement behind those of the phases that have ended and of the lines of the last phase
abbrev pub TakesLater : Later → List Phase → List Line → List Phase → List Line → Type 0
TakesLater later_read.Join phases lines phases' lines' = (phases' ≡ phases ++ phase_of lines ∷ []) × (lines' ≡ [])
TakesLater (later_read.Line line) phases lines phases' lines' = (phases' ≡ phases) × (lines' ≡ lines ++ line ∷ [])

-- the phases that statements spell, which have so many statements before them
pub record ReadsPhases (size : ℕ) (log : Bool) (before : Counted) (statements : List Statement) (phases : List Phase) : Type 0 where
  pub lines : List (List Line)
  pub spelled : SpellsPhases size statements lines
  pub phased : phases ≡ map phase_of lines
  pub few : AreAllowed log (before.statements + length statements) (before.promotions + promotions_among statements)

-- what reading the statements behind the headers gives
abbrev pub ArePhasesRead : ℕ → Bool → Counted → List Statement → Result (List Phase) ScriptFault → Type 0
ArePhasesRead size log before statements (Ok phases) = ReadsPhases size log before statements phases
ArePhasesRead size log before statements (Err script_fault.Memory) = Unit {0}
ArePhasesRead size log before statements (Err script_fault.TooLarge) = ⊥
ArePhasesRead size log before statements (Err (script_fault.BadScript n cause)) = RefusesAmong (later size log) before statements n.0 cause

-- what reading the number of a header gives, with these words behind the header's name
abbrev pub IsHeaderRead : ℕ → ℕ → List (List ℕ) → Result ℕ LineFault → Type 0
IsHeaderRead low high words (Ok n) =
    (words ≡ decimal n ∷ []) × (n ≡ value_of (word_at 0 words)) × (is_between low high n ≡ true) × (list_all (is_number_in low high) words ≡ true)
IsHeaderRead low high words (Err Count) = (length words == 1) ≡ false
IsHeaderRead low high words (Err Range) = ((length words == 1) ≡ true) × (list_all (is_number_in low high) words ≡ false)
IsHeaderRead low high words (Err cause) = ⊥

-- what reading the first statement gives
abbrev pub IsNodesRead : Statement → Result ℕ LineFault → Type 0
IsNodesRead statement (Ok n) = IsRight first none_counted statement × IsNodesHeader statement n × (n ≡ nodes_said (words_in statement.line))
IsNodesRead statement (Err cause) = IsFirstCause first none_counted statement cause

-- so many headers stand before a statement
abbrev pub headers_counted : ℕ → Counted
headers_counted n = record { statements = n; promotions = 0 }

-- what reading the statement of the workers gives, however many nodes there are
abbrev pub IsWorkersRead : Statement → Result ℕ LineFault → Type 0
IsWorkersRead statement (Ok n) = ((size : ℕ) → IsRight (second size) (headers_counted 1) statement) × IsWorkersHeader statement n
IsWorkersRead statement (Err cause) = (size : ℕ) → IsFirstCause (second size) (headers_counted 1) statement cause

-- what reading the statement of the log gives, behind so many headers
abbrev pub IsLogRead : ℕ → ℕ → Statement → Result (Unit {0}) LineFault → Type 0
IsLogRead size before statement (Ok read) = IsRight (third size) (headers_counted before) statement × IsLogHeader statement
IsLogRead size before statement (Err cause) = IsFirstCause (third size) (headers_counted before) statement cause

-- the first of these statements, if there is one, has another first word
abbrev pub SaysNoHeader : List ℕ → List Statement → Type 0
SaysNoHeader name [] = Unit {0}
SaysNoHeader name (statement ∷ statements) = is_headed name (words_in statement.line) ≡ false

-- the header of this name at the front of a text, what it has behind the name, and the rest of the text
pub record SaysHeader (name : List ℕ) (from : ℕ) (bytes : List ℕ) (n : ℕ) (line behind rest : List ℕ) : Type 0 where
  pub next : IsNextStatement from bytes n line rest
  pub words : words_in line ≡ name ∷ words_in behind

-- the log and the phases that the statements behind the other headers spell, which have so many headers before them
pub record ReadsLogged (size before : ℕ) (statements : List Statement) (log : Bool) (phases : List Phase) : Type 0 where
  pub lines : List (List Line)
  pub spelled : SpellsLogged size log statements lines
  pub phased : phases ≡ map phase_of lines
  pub few : AreAllowed log (before + length statements) (promotions_among statements)

-- what reading the statements behind the other headers gives
abbrev pub IsLoggedRead : ℕ → ℕ → List Statement → Result (Bool × List Phase) ScriptFault → Type 0
IsLoggedRead size before statements (Ok (log, phases)) = ReadsLogged size before statements log phases
IsLoggedRead size before statements (Err script_fault.Memory) = Unit {0}
IsLoggedRead size before statements (Err script_fault.TooLarge) = ⊥
IsLoggedRead size before statements (Err (script_fault.BadScript n cause)) = RefusesAmong (third size) (headers_counted before) statements n.0 cause

-- the script whose statements behind the first are these
pub record ReadsBody (size : ℕ) (statements : List Statement) (script : Script) : Type 0 where
  pub lines : List (List Line)
  pub nodes : script.nodes ≡ size
  pub spelled : SpellsBody size script.workers script.log statements lines
  pub phased : script.phases ≡ map phase_of lines
  pub few : AreAllowed script.log (1 + length statements) (promotions_among statements)

-- what reading the statements behind the first gives
abbrev pub IsBodyRead : ℕ → List Statement → Result Script ScriptFault → Type 0
IsBodyRead size statements (Ok script) = ReadsBody size statements script
IsBodyRead size statements (Err script_fault.Memory) = Unit {0}
IsBodyRead size statements (Err script_fault.TooLarge) = ⊥
IsBodyRead size statements (Err (script_fault.BadScript n cause)) = RefusesAmong (second size) (headers_counted 1) statements n.0 cause

-- what is answered to the bytes of a script; want of memory may always come
abbrev pub IsScriptAnswer : List ℕ → Result Script ScriptFault → Type 0
IsScriptAnswer bytes (Ok script) = SpellsScript bytes script
IsScriptAnswer bytes (Err script_fault.Memory) = length bytes ≤ 16777216
IsScriptAnswer bytes (Err script_fault.TooLarge) = 16777216 < length bytes
IsScriptAnswer bytes (Err (script_fault.BadScript n cause)) = IsFirstRefused bytes n.0 cause
