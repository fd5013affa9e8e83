-- The grammar of scripts: the lines of a text, the statements among them, and the script that they spell.
use Rattle.text_query.specs.Tokens.{is_space}
use Rattle.std.specs.Prelude.{ℕ, zero, suc, ◌≡◌, ◌+◌, ◌≤◌, ◌⊎◌, List, [], ◌∷◌, ◌++◌, map, filter, length, take, codes, Bool, true, false, ◌&&◌, not, ◌==◌, if◌then◌else◌, IsTrue, bytes_eq}
use Rattle.std.specs.List.{list_all, onto_first}
use Rattle.std.specs.Fmt.{decimal}
use Rattle.nrt_base.specs.Bytes.{is_between, is_text_byte}
use Rattle.nrt_base.specs.declared.numbers.LaneNo.{LaneNo}
use Rattle.text_query.specs.Answers.{Parses}
use Rattle.documents.specs.declared.query.Query.{Query}
use Rattle.documents.specs.Words.{is_alphanumeric, words_of}
use Rattle.history_rules.specs.Faults.{plan_words}
use Rattle.script_serving.specs.declared.script.Force.{Force}
use Rattle.script_serving.specs.declared.script.Force.TheVariants.{Auto, Exactly}
use Rattle.script_serving.specs.declared.script.Line.{Line}
use Rattle.script_serving.specs.declared.script.LineCommand.{LineCommand}
use Rattle.script_serving.specs.declared.script.LineCommand.TheVariants.{Put, Delete, Drop, Publish, Copy, Settle, Search, Open, Ask, Close, Commit, Crash, Reopen, Promote, Merge, Drain, Files, Fault}
use Rattle.script_serving.specs.declared.script.Phase.{Phase}
use Rattle.script_serving.specs.declared.script.Script.{Script}
use Rattle.script_serving.specs.Form.{is_command}

-- the lines of a text: each ends by a line feed, which the last may lack
abbrev pub lines_of_text : List ℕ → List (List ℕ)
lines_of_text [] = []
lines_of_text (b ∷ bytes) = if b == 10 then [] ∷ lines_of_text bytes else onto_first b (lines_of_text bytes)

-- the word goes on where the next byte is no space
abbrev pub join_word : ℕ → List ℕ → List (List ℕ) → List (List ℕ)
join_word b [] words = (b ∷ []) ∷ words
join_word b (c ∷ rest) words = if is_space c then (b ∷ []) ∷ words else onto_first b words

-- the words of a line: its longest runs of bytes that are no spaces
abbrev pub words_in : List ℕ → List (List ℕ)
words_in [] = []
words_in (b ∷ line) = if is_space b then words_in line else join_word b line (words_in line)

-- the word at this place, counted from 0, or no bytes where there is none
abbrev pub word_at : ℕ → List (List ℕ) → List ℕ
word_at n [] = []
word_at zero (word ∷ words) = word
word_at (suc n) (word ∷ words) = word_at n words

-- a line without the spaces at its front
abbrev pub without_spaces : List ℕ → List ℕ
without_spaces [] = []
without_spaces (b ∷ line) = if is_space b then without_spaces line else b ∷ line

-- a byte in front, which goes where it is a space and nothing is behind it
abbrev pub unless_space : ℕ → List ℕ → List ℕ
unless_space b [] = if is_space b then [] else b ∷ []
unless_space b (c ∷ rest) = b ∷ c ∷ rest

-- a line without the spaces at its end
abbrev pub without_end : List ℕ → List ℕ
without_end [] = []
without_end (b ∷ line) = unless_space b (without_end line)

-- a line without the bytes before its first space
abbrev pub behind_word : List ℕ → List ℕ
behind_word [] = []
behind_word (b ∷ line) = if is_space b then b ∷ line else behind_word line

-- what a line has behind its first words, without the spaces around it
abbrev pub rest_behind : ℕ → List ℕ → List ℕ
rest_behind zero line = without_end (without_spaces line)
rest_behind (suc n) line = rest_behind n (behind_word (without_spaces line))

-- the first word begins with `#`
abbrev pub is_comment : List (List ℕ) → Bool
is_comment ((b ∷ word) ∷ words) = b == 35
is_comment words = false

-- there is a word
abbrev pub has_words : List (List ℕ) → Bool
has_words [] = false
has_words (word ∷ words) = true

-- a line is a statement unless it is empty, has only spaces, or is a comment
abbrev pub is_statement : List ℕ → Bool
is_statement line = has_words (words_in line) && not (is_comment (words_in line))

-- a statement and the number of its line
pub record Statement : Type 0 where
  pub number : ℕ
  pub line : List ℕ

-- the statements among these lines, the first of which has this number
abbrev pub statements_from : ℕ → List (List ℕ) → List Statement
statements_from n [] = []
statements_from n (line ∷ lines) =
    if is_statement line then record { number = n; line = line } ∷ statements_from (n + 1) lines else statements_from (n + 1) lines

-- the statements of a text
abbrev pub statements_of : List ℕ → List Statement
statements_of bytes = statements_from 1 (lines_of_text bytes)

-- the word of a forced version
abbrev pub force_word : Force → List ℕ
force_word Auto = codes "auto"
force_word (Exactly f) = decimal f

-- the words of a command that is not followed by a text or a query
abbrev pub command_words : LineCommand → List (List ℕ)
command_words (Put doc) = codes "put" ∷ doc.key ∷ []
command_words (Delete key) = codes "delete" ∷ key ∷ []
command_words (Drop word) = codes "drop" ∷ word ∷ []
command_words Publish = codes "publish" ∷ []
command_words (Copy n) = codes "copy" ∷ decimal n.0 ∷ []
command_words Settle = codes "settle" ∷ []
command_words (Search n query) = codes "search" ∷ decimal n.0 ∷ []
command_words (Open n t) = codes "open" ∷ decimal n.0 ∷ decimal t.0 ∷ []
command_words (Ask t query) = codes "ask" ∷ decimal t.0 ∷ []
command_words (Close t) = codes "close" ∷ decimal t.0 ∷ []
command_words (Commit n) = codes "commit" ∷ decimal n.0 ∷ []
command_words (Crash n pick) = codes "crash" ∷ decimal n.0 ∷ decimal pick ∷ []
command_words (Reopen n) = codes "reopen" ∷ decimal n.0 ∷ []
command_words (Promote n force) = codes "promote" ∷ decimal n.0 ∷ force_word force ∷ []
command_words (Merge factor) = codes "merge" ∷ decimal factor ∷ []
command_words (Drain most) = codes "drain" ∷ decimal most ∷ []
command_words (Files n) = codes "files" ∷ decimal n.0 ∷ []
command_words (Fault n plan) = codes "fault" ∷ plan_words n.0 plan

-- the text is a query's, no longer than one may be, with this tree
abbrev pub IsQueryText : List ℕ → Query → Type 0
IsQueryText text query = (length text ≤ 4096) × Parses text query

-- the line drops a word: it is the only word of the text that stands behind `drop`, which has letters and digits alone
pub record IsDrop (line : List ℕ) (lane : ℕ) (word : List ℕ) : Type 0 where
  pub written : List ℕ
  pub words : words_in line ≡ decimal lane ∷ codes "drop" ∷ written ∷ []
  pub letters : IsTrue (list_all is_alphanumeric written)
  pub only : words_of written ≡ word ∷ []

-- what stands behind the words of a command: the text of a put, the query of a search, and else nothing
abbrev pub Ends : LineCommand → List ℕ → ℕ → Type 0
Ends (Put doc) line lane = (take 3 (words_in line) ≡ decimal lane ∷ command_words (Put doc)) × (rest_behind 3 line ≡ doc.text)
Ends (Drop word) line lane = IsDrop line lane word
Ends (Search n query) line lane = (take 3 (words_in line) ≡ decimal lane ∷ command_words (Search n query)) × IsQueryText (rest_behind 3 line) query
Ends (Ask t query) line lane = (take 3 (words_in line) ≡ decimal lane ∷ command_words (Ask t query)) × IsQueryText (rest_behind 3 line) query
Ends command line lane = words_in line ≡ decimal lane ∷ command_words command

-- the statement spells the line, where the nodes are 1 to the size
pub record SpellsLine (size : ℕ) (statement : Statement) (line : Line) : Type 0 where
  pub printable : IsTrue (list_all is_text_byte statement.line)
  pub number : line.at.line.0 ≡ statement.number
  pub lane : IsTrue (is_between 1 8 line.at.lane.0)
  pub words : Ends line.command statement.line line.at.lane.0
  pub ranges : IsTrue (is_command size line.command)

-- the line goes in front of the first phase
abbrev pub with_line : Line → List (List Line) → List (List Line)
with_line line [] = (line ∷ []) ∷ []
with_line line (phase ∷ phases) = (line ∷ phase) ∷ phases

-- the statement ends a phase
abbrev pub IsJoin : Statement → Type 0
IsJoin statement = words_in statement.line ≡ codes "join" ∷ []

-- the statements spell the lines of these phases; each `join` ends one
abbrev pub SpellsPhases : ℕ → List Statement → List (List Line) → Type 0
SpellsPhases size [] (phase ∷ []) = phase ≡ []
SpellsPhases size (statement ∷ statements) ([] ∷ phases) = IsJoin statement × SpellsPhases size statements phases
SpellsPhases size (statement ∷ statements) ((line ∷ phase) ∷ phases) =
    SpellsLine size statement line × SpellsPhases size statements (phase ∷ phases)
SpellsPhases size statements phases = ⊥

-- the lines of a lane among those of a phase
abbrev pub of_lane : ℕ → List Line → List Line
of_lane lane lines = filter (λ line. line.at.lane.0 == lane) lines

-- a lane with its lines, where it has lines
abbrev pub lane_entry : ℕ → List Line → List (LaneNo × List Line)
lane_entry lane [] = []
lane_entry lane (line ∷ lines) = (record { 0 = lane }, line ∷ lines) ∷ []

-- so many lanes from this one on, each with its lines among these
abbrev pub lanes_from : ℕ → ℕ → List Line → List (LaneNo × List Line)
lanes_from zero lane lines = []
lanes_from (suc more) lane lines = lane_entry lane (of_lane lane lines) ++ lanes_from more (lane + 1) lines

-- a phase has its lines under their lanes, in order of lane; a lane without lines does not stand in it
abbrev pub phase_of : List Line → Phase
phase_of lines = record { lanes = lanes_from 8 1 lines }

-- the statement is the header that says how many nodes there are
abbrev pub IsNodesHeader : Statement → ℕ → Type 0
IsNodesHeader statement nodes = (words_in statement.line ≡ codes "nodes" ∷ decimal nodes ∷ []) × IsTrue (is_between 2 16 nodes)

-- the statement is the header that says how many workers there are
abbrev pub IsWorkersHeader : Statement → ℕ → Type 0
IsWorkersHeader statement workers = (words_in statement.line ≡ codes "workers" ∷ decimal workers ∷ []) × (workers ≤ 8)

-- the statement is the header that asks for a log
abbrev pub IsLogHeader : Statement → Type 0
IsLogHeader statement = words_in statement.line ≡ codes "log" ∷ []

-- the statements behind the other headers spell whether there is a log, and the phases
abbrev pub SpellsLogged : ℕ → Bool → List Statement → List (List Line) → Type 0
SpellsLogged size log [] phases = (log ≡ false) × (phases ≡ [] ∷ [])
SpellsLogged size log (statement ∷ statements) phases =
    ((log ≡ true) × IsLogHeader statement × SpellsPhases size statements phases)
    ⊎ ((log ≡ false) × SpellsPhases size (statement ∷ statements) phases)

-- the statements behind the first spell the number of workers, 0 where they do not say it, whether there is a log, and the phases
abbrev pub SpellsBody : ℕ → ℕ → Bool → List Statement → List (List Line) → Type 0
SpellsBody size workers log [] phases = (workers ≡ 0) × SpellsLogged size log [] phases
SpellsBody size workers log (statement ∷ statements) phases =
    (IsWorkersHeader statement workers × SpellsLogged size log statements phases)
    ⊎ ((workers ≡ 0) × SpellsLogged size log (statement ∷ statements) phases)

-- the statements spell the script: the headers, then its phases
abbrev pub SpellsStatements : List Statement → Script → Type 0
SpellsStatements [] script = ⊥
SpellsStatements (statement ∷ statements) script =
    IsNodesHeader statement script.nodes
    × ((phases : List (List Line)) × SpellsBody script.nodes script.workers script.log statements phases × (script.phases ≡ map phase_of phases))

-- how many statements a script may have
abbrev pub most_statements : Bool → ℕ
most_statements log = if log then 10000 else 200000

-- the statement promotes: its second word says so
abbrev pub is_promotion : List (List ℕ) → Bool
is_promotion words = bytes_eq (codes "promote") (word_at 1 words)

-- how many of the statements promote
abbrev pub promotions_among : List Statement → ℕ
promotions_among [] = 0
promotions_among (statement ∷ statements) = (if is_promotion (words_in statement.line) then 1 else 0) + promotions_among statements

-- so many statements, of which so many promote, are no more than a script may have
pub record AreAllowed (log : Bool) (n promoting : ℕ) : Type 0 where
  pub statements : n ≤ most_statements log
  pub promotions : log ≡ true → promoting ≤ 64

-- the bytes spell the script
pub record SpellsScript (bytes : List ℕ) (script : Script) : Type 0 where
  pub short : length bytes ≤ 16777216
  pub few : AreAllowed script.log (length (statements_of bytes)) (promotions_among (statements_of bytes))
  pub statements : SpellsStatements (statements_of bytes) script
