-- A statement spells one line at most: its words and what stands behind them give the command, but for the query, which its text gives.
use Rattle.std.proofs.Common.{◌≡◌, ℕ, ◌<◌, ◌≤◌, List, [], ◌∷◌, true, false, refl, ap, ◌∙◌, sym, subst, arith, inl, inr, Ok}
use Rattle.std.specs.Prelude.{◌^◌, ◌-◌, codes, if◌then◌else◌, bytes_eq}
use Rattle.std.specs.Fmt.{decimal}
use Rattle.std.proofs.lemmas.Bool.{and_parts}
use Rattle.nrt_base.specs.declared.doc.Doc.{Doc}
use Rattle.nrt_base.specs.declared.numbers.NodeNo.{NodeNo}
use Rattle.nrt_base.specs.declared.numbers.TicketNo.{TicketNo}
use Rattle.nrt_base.specs.Bytes.{is_between}
use Rattle.nrt_base.proofs.Plain.{between_high}
use Rattle.documents.specs.declared.query.Query.{Query}
use Rattle.documents.specs.declared.query.Query.TheVariants.{All}
use Rattle.history_rules.specs.declared.cause.FaultPlan.{FaultPlan}
use Rattle.history_rules.specs.declared.cause.FaultPlan.TheVariants.{Link, Damage, Disk, Stop}
use Rattle.documents.specs.Matching.{is_well_formed}
use Rattle.documents.specs.Words.{words_of}
use Rattle.text_query.specs.Answers.{Parses}
use Rattle.text_query.proofs.FaultLemmas.{query_answered}
use Rattle.script_serving.specs.declared.script.Force.{Force}
use Rattle.script_serving.specs.declared.script.Force.TheVariants.{Auto, Exactly}
use Rattle.script_serving.specs.declared.script.Line.{Line}
use Rattle.script_serving.specs.declared.script.LineCommand.{LineCommand}
use Rattle.script_serving.specs.declared.script.LineCommand.TheVariants.{Put, Delete, Drop, Publish, Copy, Settle, Search, Open, Ask, Close, Commit, Crash, Reopen, Promote, Merge, Drain, Files, Fault}
use Rattle.script_serving.specs.Form.{is_plan, is_force, is_command}
use Rattle.script_text.specs.Grammar.{Statement, words_in, word_at, rest_behind, force_word, command_words, Ends, SpellsLine}
use Rattle.history_rules.specs.Faults.{plan_words}
use Rattle.script_text.specs.Refused.{value_of}
use Rattle.script_text.proofs.NumberLaws.{value_of-decimal, digits_of-decimal, other_word}
use Rattle.script_text.proofs.RightLines.{three_words}

-- what the words of a line and the rest behind three of them say
data Said : Type 0 where
  -- nothing
  nothing : Said
  -- this command
  whole : LineCommand → Said
  -- a search of the node, for the query that the rest spells
  search_at : NodeNo → Said
  -- a search of the ticket, for the query that the rest spells
  ask_of : TicketNo → Said

abbrev node_said : List (List ℕ) → NodeNo
node_said words = record { 0 = value_of (word_at 0 words) }

abbrev ticket_said : List ℕ → TicketNo
ticket_said word = record { 0 = value_of word }

abbrev force_said : List ℕ → Force
force_said word = if bytes_eq (codes "auto") word then Auto else Exactly (value_of word)

-- the fault that the words behind `fault` say
abbrev plan_said : List ℕ → List (List ℕ) → FaultPlan
plan_said kind words =
    if bytes_eq (codes "link") kind then Link (value_of (word_at 1 words))
    else if bytes_eq (codes "damage") kind then Damage (value_of (word_at 1 words)) (value_of (word_at 2 words))
    else if bytes_eq (codes "disk") kind then Disk (value_of (word_at 1 words))
    else Stop (value_of (word_at 1 words))

abbrev fault_said : List (List ℕ) → Said
fault_said [] = nothing
fault_said (kind ∷ words) = whole (Fault (node_said words) (plan_said kind words))

-- what a command of two numbers or none says
abbrev other_said : List ℕ → List (List ℕ) → Said
other_said name words =
    if bytes_eq (codes "commit") name then whole (Commit (node_said words))
    else if bytes_eq (codes "crash") name then whole (Crash (node_said words) (value_of (word_at 1 words)))
    else if bytes_eq (codes "reopen") name then whole (Reopen (node_said words))
    else if bytes_eq (codes "promote") name then whole (Promote (node_said words) (force_said (word_at 1 words)))
    else if bytes_eq (codes "merge") name then whole (Merge (value_of (word_at 0 words)))
    else if bytes_eq (codes "drain") name then whole (Drain (value_of (word_at 0 words)))
    else if bytes_eq (codes "files") name then whole (Files (node_said words))
    else if bytes_eq (codes "fault") name then fault_said words
    else nothing

abbrev said_by : List ℕ → List (List ℕ) → List ℕ → Said
said_by name words rest =
    if bytes_eq (codes "put") name then whole (Put (record { key = word_at 0 words; text = rest }))
    else if bytes_eq (codes "delete") name then whole (Delete (word_at 0 words))
    else if bytes_eq (codes "drop") name then whole (Drop (word_at 0 (words_of (word_at 0 words))))
    else if bytes_eq (codes "publish") name then whole Publish
    else if bytes_eq (codes "copy") name then whole (Copy (node_said words))
    else if bytes_eq (codes "settle") name then whole Settle
    else if bytes_eq (codes "search") name then search_at (node_said words)
    else if bytes_eq (codes "open") name then whole (Open (node_said words) (ticket_said (word_at 1 words)))
    else if bytes_eq (codes "ask") name then ask_of (ticket_said (word_at 0 words))
    else if bytes_eq (codes "close") name then whole (Close (ticket_said (word_at 0 words)))
    else other_said name words

abbrev said : List (List ℕ) → List ℕ → Said
said [] rest = nothing
said (lane ∷ []) rest = nothing
said (lane ∷ name ∷ words) rest = said_by name words rest

-- what a command says, where its query is left out
abbrev saying : LineCommand → Said
saying (Search n query) = search_at n
saying (Ask t query) = ask_of t
saying command = whole command

-- a number without its query keeps what it is
narrow_number : (low high n : ℕ) → high < 2 ^ 64 → is_between low high n ≡ true → n < 2 ^ 64
narrow_number low high n narrow h = omega (arith, between_high low high n h)

number_said : (low high n : ℕ) → high < 2 ^ 64 → is_between low high n ≡ true → value_of (decimal n) ≡ n
number_said low high n narrow h = value_of-decimal n (narrow_number low high n narrow h)

said_force : (force : Force) → is_force force ≡ true → force_said (force_word force) ≡ force
said_force Auto h = refl
said_force (Exactly f) h =
    let narrow : f < 2 ^ 64 = narrow_number 0 (2 ^ 64 - 1) f (omega arith) h in
    let other : bytes_eq (codes "auto") (decimal f) ≡ false = other_word 97 (codes "uto") (decimal f) refl (digits_of-decimal f narrow) in
    let value : value_of (decimal f) ≡ f = value_of-decimal f narrow in
    rw other (ap Exactly value)

-- a plan of one number
said_plan : (n : ℕ) (plan : FaultPlan) → is_plan plan ≡ true → fault_said (plan_words n plan) ≡ whole (Fault (record { 0 = value_of (decimal n) }) plan)
said_plan n (Link k) h = ap (λ (m : ℕ). whole (Fault (record { 0 = value_of (decimal n) }) (Link m))) (number_said 1 1000000 k (omega arith) h)
said_plan n (Damage k at) h =
    let parts = and_parts (is_between 1 1000000 k) (is_between 0 (2 ^ 32 - 1) at) h in
    ap (λ (m : ℕ). whole (Fault (record { 0 = value_of (decimal n) }) (Damage m (value_of (decimal at))))) (number_said 1 1000000 k (omega arith) parts.0)
    ∙ ap (λ (m : ℕ). whole (Fault (record { 0 = value_of (decimal n) }) (Damage k m))) (number_said 0 (2 ^ 32 - 1) at (omega arith) parts.1)
said_plan n (Disk k) h = ap (λ (m : ℕ). whole (Fault (record { 0 = value_of (decimal n) }) (Disk m))) (number_said 1 1000000 k (omega arith) h)
said_plan n (Stop k) h = ap (λ (m : ℕ). whole (Fault (record { 0 = value_of (decimal n) }) (Stop m))) (number_said 1 1000000 k (omega arith) h)

module _ (size : ℕ) (small : size ≤ 16) where
  node_is : (n : NodeNo) → is_between 1 size n.0 ≡ true → node_said (decimal n.0 ∷ []) ≡ n
  node_is n h = ap (λ (m : ℕ). let node : NodeNo = record { 0 = m } in node) (number_said 1 size n.0 (omega arith) h)

  ticket_is : (t : TicketNo) → is_between 1 9999 t.0 ≡ true → ticket_said (decimal t.0) ≡ t
  ticket_is t h = ap (λ (m : ℕ). let ticket : TicketNo = record { 0 = m } in ticket) (number_said 1 9999 t.0 (omega arith) h)

  -- a line whose words are those of its command says it
  said_whole : (c : LineCommand) (line : List ℕ) (lane : ℕ) (rest : List ℕ) → words_in line ≡ decimal lane ∷ command_words c → said (decimal lane ∷ command_words c) rest ≡ saying c
      → said (words_in line) rest ≡ saying c
  said_whole c line lane rest e says = ap (λ (words : List (List ℕ)). said words rest) e ∙ says

  said_command : (c : LineCommand) (line : List ℕ) (lane : ℕ) → Ends c line lane → is_command size c ≡ true → said (words_in line) (rest_behind 3 line) ≡ saying c
  said_command (Put doc) line lane ends ranges =
      ap (λ (words : List (List ℕ)). said words (rest_behind 3 line)) (three_words (words_in line) (decimal lane) (codes "put") doc.key ends.0)
      ∙ ap (λ (text : List ℕ). let put : Doc = record { key = doc.key; text = text } in whole (Put put)) ends.1
  said_command (Delete key) line lane ends ranges = said_whole (Delete key) line lane (rest_behind 3 line) ends refl
  said_command (Drop word) line lane ends ranges =
      ap (λ (words : List (List ℕ)). said words (rest_behind 3 line)) ends.words ∙ ap (λ (words : List (List ℕ)). whole (Drop (word_at 0 words))) ends.only
  said_command Publish line lane ends ranges = said_whole Publish line lane (rest_behind 3 line) ends refl
  said_command (Copy n) line lane ends ranges =
      said_whole (Copy n) line lane (rest_behind 3 line) ends (ap (λ (m : NodeNo). whole (Copy m)) (node_is n ranges))
  said_command Settle line lane ends ranges = said_whole Settle line lane (rest_behind 3 line) ends refl
  said_command (Search n query) line lane ends ranges =
      ap (λ (words : List (List ℕ)). said words (rest_behind 3 line)) (three_words (words_in line) (decimal lane) (codes "search") (decimal n.0) ends.0)
      ∙ ap search_at (node_is n (and_parts (is_between 1 size n.0) (is_well_formed query) ranges).0)
  said_command (Open n t) line lane ends ranges =
      let parts = and_parts (is_between 1 size n.0) (is_between 1 9999 t.0) ranges in
      said_whole (Open n t) line lane (rest_behind 3 line) ends
      (ap (λ (m : NodeNo). whole (Open m (ticket_said (decimal t.0)))) (node_is n parts.0) ∙ ap (λ (u : TicketNo). whole (Open n u)) (ticket_is t parts.1))
  said_command (Ask t query) line lane ends ranges =
      ap (λ (words : List (List ℕ)). said words (rest_behind 3 line)) (three_words (words_in line) (decimal lane) (codes "ask") (decimal t.0) ends.0)
      ∙ ap ask_of (ticket_is t (and_parts (is_between 1 9999 t.0) (is_well_formed query) ranges).0)
  said_command (Close t) line lane ends ranges =
      said_whole (Close t) line lane (rest_behind 3 line) ends (ap (λ (u : TicketNo). whole (Close u)) (ticket_is t ranges))
  said_command (Commit n) line lane ends ranges =
      said_whole (Commit n) line lane (rest_behind 3 line) ends (ap (λ (m : NodeNo). whole (Commit m)) (node_is n ranges))
  said_command (Crash n pick) line lane ends ranges =
      let parts = and_parts (is_between 1 size n.0) (is_between 0 (2 ^ 64 - 1) pick) ranges in
      said_whole (Crash n pick) line lane (rest_behind 3 line) ends
      (ap (λ (m : NodeNo). whole (Crash m (value_of (decimal pick)))) (node_is n parts.0)
      ∙ ap (λ (p : ℕ). whole (Crash n p)) (number_said 0 (2 ^ 64 - 1) pick (omega arith) parts.1))
  said_command (Reopen n) line lane ends ranges =
      said_whole (Reopen n) line lane (rest_behind 3 line) ends (ap (λ (m : NodeNo). whole (Reopen m)) (node_is n ranges))
  said_command (Promote n force) line lane ends ranges =
      let parts = and_parts (is_between 1 size n.0) (is_force force) ranges in
      said_whole (Promote n force) line lane (rest_behind 3 line) ends
      (ap (λ (m : NodeNo). whole (Promote m (force_said (force_word force)))) (node_is n parts.0) ∙ ap (λ (f : Force). whole (Promote n f)) (said_force force parts.1))
  said_command (Merge factor) line lane ends ranges =
      said_whole (Merge factor) line lane (rest_behind 3 line) ends (ap (λ (m : ℕ). whole (Merge m)) (number_said 2 16 factor (omega arith) ranges))
  said_command (Drain most) line lane ends ranges =
      said_whole (Drain most) line lane (rest_behind 3 line) ends (ap (λ (m : ℕ). whole (Drain m)) (number_said 1 1000 most (omega arith) ranges))
  said_command (Files n) line lane ends ranges =
      said_whole (Files n) line lane (rest_behind 3 line) ends (ap (λ (m : NodeNo). whole (Files m)) (node_is n ranges))
  said_command (Fault n plan) line lane ends ranges =
      let parts = and_parts (is_between 1 size n.0) (is_plan plan) ranges in
      said_whole (Fault n plan) line lane (rest_behind 3 line) ends
      (said_plan n.0 plan parts.1 ∙ ap (λ (m : NodeNo). whole (Fault m plan)) (node_is n parts.0))

-- a text parses as one query at most
one_query : (text : List ℕ) (query other : Query) → Parses text query → Parses text other → query ≡ other
one_query text query other parses too =
    elim (query_answered text (Ok query) other parses too) [ inl e ↦ cc | inr e ↦ cc ]

-- the command of what is said, where the query is this
abbrev command_said : Query → Said → LineCommand
command_said query nothing = Publish
command_said query (whole command) = command
command_said query (search_at n) = Search n query
command_said query (ask_of t) = Ask t query

abbrev query_of : LineCommand → Query
query_of (Search n query) = query
query_of (Ask t query) = query
query_of command = All []

-- what a command says gives it back with its query
said_back : (c : LineCommand) → command_said (query_of c) (saying c) ≡ c
said_back (Search n query) = refl
said_back (Ask t query) = refl
said_back c = refl

module _ (line : List ℕ) (lane : ℕ) where
  same_search : (c : LineCommand) (m : NodeNo) (other : Query) → Ends c line lane → Ends (Search m other) line lane → saying c ≡ search_at m → c ≡ Search m other
  same_search (Search n query) m other ends too e =
      let nodes : n ≡ m = cc in
      ap (λ (k : NodeNo). Search k query) nodes ∙ ap (Search m) (one_query (rest_behind 3 line) query other ends.1.1 too.1.1)
  same_search c m other ends too e = cc

  same_ask : (c : LineCommand) (u : TicketNo) (other : Query) → Ends c line lane → Ends (Ask u other) line lane → saying c ≡ ask_of u → c ≡ Ask u other
  same_ask (Ask t query) u other ends too e =
      let tickets : t ≡ u = cc in
      ap (λ (k : TicketNo). Ask k query) tickets ∙ ap (Ask u) (one_query (rest_behind 3 line) query other ends.1.1 too.1.1)
  same_ask c u other ends too e = cc

  -- commands that say the same are one
  same_said : (c d : LineCommand) → Ends c line lane → Ends d line lane → saying c ≡ saying d → c ≡ d
  same_said c (Search m other) ends too e = same_search c m other ends too e
  same_said c (Ask u other) ends too e = same_ask c u other ends too e
  same_said c d ends too e = sym (said_back c) ∙ ap (command_said (query_of c)) e

-- the line of these parts
abbrev line_with : ℕ → ℕ → LineCommand → Line
line_with lane number command = record { at = record { lane = record { 0 = lane }; line = record { 0 = number } }; command = command }

same_lines : (lane other n m : ℕ) (c d : LineCommand) → lane ≡ other → n ≡ m → c ≡ d → line_with lane n c ≡ line_with other m d
same_lines lane other n m c d lanes numbers commands =
    ap (λ (k : ℕ). line_with k n c) lanes ∙ (ap (λ (k : ℕ). line_with other k c) numbers ∙ ap (line_with other m) commands)

-- the first word of a line is its lane
lane_word : (c : LineCommand) (line : List ℕ) (lane : ℕ) → Ends c line lane → word_at 0 (words_in line) ≡ decimal lane
lane_word (Put doc) line lane ends = ap (word_at 0) (three_words (words_in line) (decimal lane) (codes "put") doc.key ends.0)
lane_word (Drop word) line lane ends = ap (word_at 0) ends.words
lane_word (Search n query) line lane ends = ap (word_at 0) (three_words (words_in line) (decimal lane) (codes "search") (decimal n.0) ends.0)
lane_word (Ask t query) line lane ends = ap (word_at 0) (three_words (words_in line) (decimal lane) (codes "ask") (decimal t.0) ends.0)
lane_word c line lane ends = ap (word_at 0) ends

-- a spelled line begins with its lane
pub lane_first : (size : ℕ) (statement : Statement) (line : Line) → SpellsLine size statement line → word_at 0 (words_in statement.line) ≡ decimal line.at.lane.0
lane_first size statement line spells = lane_word line.command statement.line line.at.lane.0 spells.words

lane_value : (size : ℕ) (statement : Statement) (line : Line) → SpellsLine size statement line → value_of (word_at 0 (words_in statement.line)) ≡ line.at.lane.0
lane_value size statement line spells =
    ap value_of (lane_first size statement line spells) ∙ number_said 1 8 line.at.lane.0 (omega arith) spells.lane

-- a statement spells one line at most
pub one_line : (size : ℕ) (statement : Statement) (line other : Line) → size ≤ 16 → SpellsLine size statement line → SpellsLine size statement other → line ≡ other
one_line size statement line other small spells too =
    let lanes : line.at.lane.0 ≡ other.at.lane.0 = sym (lane_value size statement line spells) ∙ lane_value size statement other too in
    let words : Ends other.command statement.line line.at.lane.0 = subst (Ends other.command statement.line) (sym lanes) too.words in
    let commands : line.command ≡ other.command =
    same_said statement.line line.at.lane.0 line.command other.command spells.words words
    (sym (said_command size small line.command statement.line line.at.lane.0 spells.words spells.ranges)
    ∙ said_command size small other.command statement.line other.at.lane.0 too.words too.ranges) in
    same_lines line.at.lane.0 other.at.lane.0 line.at.line.0 other.at.line.0 line.command other.command lanes (spells.number ∙ sym too.number) commands
