-- What the words of a line are read as. What no word says (an operation, a query, how many tasks were asked for) the script's line says.
use Rattle.std.specs.Prelude.{◌≡◌, ℕ, ◌^◌, ◌-◌, nat_lt, ◌&&◌, not, ◌==◌, List, [], ◌∷◌, take, drop, length, take_while, codes, bytes_eq, Bool, if◌then◌else◌, Option, Some, None}
use Rattle.std.specs.Option.{option_map, option_and_then}
use Rattle.std.specs.List.{list_all}
use Rattle.nrt_base.specs.Bytes.{is_key}
use Rattle.nrt_base.specs.declared.numbers.NodeNo.{NodeNo}
use Rattle.nrt_base.specs.declared.numbers.TicketNo.{TicketNo}
use Rattle.nrt_base.specs.declared.numbers.Version.{Version}
use Rattle.nrt_base.specs.declared.numbers.SegNo.{SegNo}
use Rattle.file_names.specs.Names.{is_file_name}
use Rattle.file_names.specs.Base36.{is_base36_digit, base36_value, has_leading_zero}
use Rattle.documents.specs.declared.answer.Hit.{Hit}
use Rattle.documents.specs.declared.answer.Answer.{Answer}
use Rattle.documents.specs.declared.operation.Op.{Op}
use Rattle.documents.specs.declared.operation.Op.TheVariants.{Put as PutOp, Delete as DeleteOp, Drop as DropOp}
use Rattle.documents.specs.declared.query.Query.{Query}
use Rattle.documents.specs.declared.query.Query.TheVariants.{Word}
use Rattle.history_rules.specs.declared.cause.Cause.{Cause}
use Rattle.history_rules.specs.declared.cause.Cause.TheVariants.{Down, Primary, NoPrimary, PrimaryUp, ForceLow, NoTicket, Lost, Cancelled, LinkFault, Damaged, DiskFault, Nothing, Up, NameUsed, NamesSpent, TooManySegments, ForceHigh}
use Rattle.history_rules.specs.declared.cause.FaultKind.{FaultKind}
use Rattle.history_rules.specs.declared.cause.FaultKind.TheVariants as kind
use Rattle.history_rules.specs.declared.cause.FaultPlan.TheVariants as plan
use Rattle.history_rules.specs.declared.entry.Event.{Event}
use Rattle.history_rules.specs.declared.entry.Event.TheVariants.{Accepted, Publishing, Published, Copying, Switched, Copied, Settling, Settled, Opened, Asking, Answered, Closed, Committing, Committed, Crashed, Reopened, Promoted, Merging, Drained, Files, Planned, Fault, Refused}
use Rattle.report_text.specs.Texts.{event_words}
use Rattle.report_reading.specs.Cuts.{are_none}
use Rattle.report_reading.specs.Widths.{EventIsNarrow}
use Rattle.script_text.specs.Reading.{number_within}
use Rattle.script_serving.specs.declared.script.LineCommand.{LineCommand}
use Rattle.script_serving.specs.declared.script.LineCommand.TheVariants.{Put, Delete, Drop, Search, Ask, Drain}

-- the operation that a line asks for; where it asks for none, one that is nothing to it
abbrev pub op_of_line : LineCommand → Op
op_of_line (Put doc) = PutOp doc
op_of_line (Delete key) = DeleteOp key
op_of_line (Drop word) = DropOp word
op_of_line command = DeleteOp (codes "-")

-- the operation that an entry of a line accepts: the first that is due to be accepted again, or what the line asks for
abbrev pub op_told : List Op → LineCommand → Op
op_told [] command = op_of_line command
op_told (op ∷ ops) command = op

-- the query of a line; where it has none, one that is nothing to it
abbrev pub query_of_line : LineCommand → Query
query_of_line (Search n query) = query
query_of_line (Ask t query) = query
query_of_line command = Word (codes "a")

-- how many tasks a line asks for; 0 where it asks for none
abbrev pub most_of_line : LineCommand → ℕ
most_of_line (Drain most) = most
most_of_line command = 0

-- the event, with what the line says in place of what is not printed
abbrev pub as_told : List Op → LineCommand → Event → Event
as_told due command (Accepted seq op) = Accepted seq (op_told due command)
as_told due command (Answered n t v query answer) = Answered n t v (query_of_line command) answer
as_told due command (Drained done most) = Drained done (most_of_line command)
as_told due command e = e

-- what is read of the words of an event is that event, with what the line says; of other words nothing is said
abbrev pub IsEventRead : List Op → LineCommand → List (List ℕ) → Option Event → Type 0
IsEventRead due command words read = (e : Event) → EventIsNarrow e → event_words e ≡ words → read ≡ Some (as_told due command e)

-- ---- numbers and names

-- the number that a word is, of at most 64 bits
abbrev pub number_read : List ℕ → Option ℕ
number_read word = number_within 0 (2 ^ 64 - 1) word

-- a node of 8 bits
abbrev pub node_fitting : ℕ → Option NodeNo
node_fitting n = if nat_lt n 256 then Some (record { 0 = n }) else None

-- a ticket of 16 bits
abbrev pub ticket_fitting : ℕ → Option TicketNo
ticket_fitting n = if nat_lt n 65536 then Some (record { 0 = n }) else None

-- a count of 32 bits
abbrev pub count_fitting : ℕ → Option ℕ
count_fitting n = if nat_lt n 4294967296 then Some n else None

-- the node that a word is
abbrev pub node_word : List ℕ → Option NodeNo
node_word word = option_and_then (λ n. node_fitting n) (number_read word)

-- the ticket that a word is
abbrev pub ticket_word : List ℕ → Option TicketNo
ticket_word word = option_and_then (λ n. ticket_fitting n) (number_read word)

-- the count that a word is
abbrev pub count_word : List ℕ → Option ℕ
count_word word = option_and_then (λ n. count_fitting n) (number_read word)

-- this version
abbrev pub version_from : ℕ → Version
version_from n = record { 0 = n }

-- the one number that these words are
abbrev pub one_number : List (List ℕ) → Option ℕ
one_number [] = None
one_number (word ∷ words) = if are_none words then number_read word else None

-- the two numbers that these words are
abbrev pub two_numbers : List (List ℕ) → Option (ℕ × ℕ)
two_numbers [] = None
two_numbers (word ∷ words) = option_and_then (λ a. option_map (λ b. (a, b)) (one_number words)) (number_read word)

-- a node, and the number behind it
abbrev pub node_first : List (List ℕ) → Option (NodeNo × ℕ)
node_first words = option_and_then (λ p. option_map (λ n. (n, p.1)) (node_fitting p.0)) (two_numbers words)

-- a node and a version
abbrev pub node_version : List (List ℕ) → Option (NodeNo × Version)
node_version words = option_map (λ p. (p.0, version_from p.1)) (node_first words)

-- the three numbers that these words are
abbrev pub three_numbers : List (List ℕ) → Option (ℕ × ℕ × ℕ)
three_numbers [] = None
three_numbers (word ∷ words) = option_and_then (λ a. option_map (λ p. (a, p.0, p.1)) (two_numbers words)) (number_read word)

-- a node, a ticket and a version
abbrev pub node_ticket_version : List (List ℕ) → Option (NodeNo × TicketNo × Version)
node_ticket_version words =
    option_and_then (λ p. option_and_then (λ n. option_map (λ t. (n, t, version_from p.2)) (ticket_fitting p.1)) (node_fitting p.0)) (three_numbers words)

-- the name of a file that a word is
abbrev pub name_read : List ℕ → Option (List ℕ)
name_read word = if is_file_name word then Some word else None

-- the names of files that these words are
abbrev pub names_read : List (List ℕ) → Option (List (List ℕ))
names_read [] = Some []
names_read (word ∷ words) = option_and_then (λ x. option_map (λ xs. x ∷ xs) (names_read words)) (name_read word)

-- digits of base 36 that are a number of 64 bits
abbrev pub is_base36_number : List ℕ → Bool
is_base36_number digits =
    nat_lt 0 (length digits) && (list_all is_base36_digit digits && (not (has_leading_zero digits) && nat_lt (base36_value digits) (2 ^ 64)))

-- the segment whose name a word is
abbrev pub segment_named : List ℕ → Option SegNo
segment_named [] = None
segment_named (b ∷ digits) = if (b == 95) && is_base36_number digits then Some (record { 0 = base36_value digits }) else None

-- how long a word is before its first colon
abbrev pub rank_length : List ℕ → ℕ
rank_length word = length (take_while (λ b. not (b == 58)) word)

-- a hit of this rank with this key
abbrev pub hit_keyed : ℕ → List ℕ → Option Hit
hit_keyed rank key = if is_key key then Some (record { key = key; rank = rank }) else None

-- the hit that a word is: a rank, a colon and a key
abbrev pub hit_read : List ℕ → Option Hit
hit_read word = option_and_then (λ rank. hit_keyed rank (drop 1 (drop (rank_length word) word))) (count_word (take (rank_length word) word))

-- the hits that these words are
abbrev pub hits_read : List (List ℕ) → Option (List Hit)
hits_read [] = Some []
hits_read (word ∷ words) = option_and_then (λ x. option_map (λ xs. x ∷ xs) (hits_read words)) (hit_read word)

-- ---- causes and faults

abbrev pub node_cause : List ℕ → Option Cause
node_cause word =
    if bytes_eq (codes "up") word then Some Up
    else if bytes_eq (codes "name-used") word then Some NameUsed
    else if bytes_eq (codes "names-spent") word then Some NamesSpent
    else if bytes_eq (codes "too-many-segments") word then Some TooManySegments
    else if bytes_eq (codes "force-high") word then Some ForceHigh
    else None

abbrev pub fault_cause : List ℕ → Option Cause
fault_cause word =
    if bytes_eq (codes "no-ticket") word then Some NoTicket
    else if bytes_eq (codes "lost") word then Some Lost
    else if bytes_eq (codes "link-fault") word then Some LinkFault
    else if bytes_eq (codes "disk-fault") word then Some DiskFault
    else node_cause word

-- the cause that a word names
abbrev pub cause_named : List ℕ → Option Cause
cause_named word =
    if bytes_eq (codes "down") word then Some Down
    else if bytes_eq (codes "primary") word then Some Primary
    else if bytes_eq (codes "no-primary") word then Some NoPrimary
    else if bytes_eq (codes "primary-up") word then Some PrimaryUp
    else if bytes_eq (codes "none") word then Some Nothing
    else fault_cause word

-- the one name that these words are
abbrev pub one_name : List (List ℕ) → Option (List ℕ)
one_name [] = None
one_name (word ∷ words) = if are_none words then name_read word else None

-- the cause that a word names with these words behind it
abbrev pub cause_with : List ℕ → List (List ℕ) → Option Cause
cause_with word words =
    if bytes_eq (codes "force-low") word then option_map (λ v. ForceLow (version_from v)) (one_number words)
    else if bytes_eq (codes "cancelled") word then option_map (λ v. Cancelled (version_from v)) (one_number words)
    else if bytes_eq (codes "damaged") word then option_map (λ name. Damaged name) (one_name words)
    else None

-- the cause that these words are
abbrev pub cause_read : List (List ℕ) → Option Cause
cause_read [] = None
cause_read (word ∷ words) = if are_none words then cause_named word else cause_with word words

-- the kind of fault that a word names
abbrev pub kind_named : List ℕ → Option FaultKind
kind_named word =
    if bytes_eq (codes "link") word then Some kind.Link
    else if bytes_eq (codes "damage") word then Some kind.Damage
    else if bytes_eq (codes "disk") word then Some kind.Disk
    else if bytes_eq (codes "stop") word then Some kind.Stop
    else None

-- the one kind of fault that these words are
abbrev pub one_kind : List (List ℕ) → Option FaultKind
one_kind [] = None
one_kind (word ∷ words) = if are_none words then kind_named word else None

-- a node, and a count
abbrev pub node_count : List (List ℕ) → Option (NodeNo × ℕ)
node_count words = option_and_then (λ p. option_map (λ k. (p.0, k)) (count_fitting p.1)) (node_first words)

-- a node, and two counts
abbrev pub node_counts : List (List ℕ) → Option (NodeNo × ℕ × ℕ)
node_counts words =
    option_and_then (λ p. option_and_then (λ n. option_and_then (λ k. option_map (λ at. (n, k, at)) (count_fitting p.2)) (count_fitting p.1)) (node_fitting p.0)) (three_numbers words)

-- ---- events

abbrev pub planned_with : List ℕ → List (List ℕ) → Option Event
planned_with word words =
    if bytes_eq (codes "link") word then option_map (λ p. Planned p.0 (plan.Link p.1)) (node_count words)
    else if bytes_eq (codes "damage") word then option_map (λ p. Planned p.0 (plan.Damage p.1 p.2)) (node_counts words)
    else if bytes_eq (codes "disk") word then option_map (λ p. Planned p.0 (plan.Disk p.1)) (node_count words)
    else if bytes_eq (codes "stop") word then option_map (λ p. Planned p.0 (plan.Stop p.1)) (node_count words)
    else None

-- the plan of a fault that these words are
abbrev pub planned_read : List (List ℕ) → Option Event
planned_read [] = None
planned_read (word ∷ words) = planned_with word words

-- the fault that these words are
abbrev pub fault_read : List (List ℕ) → Option Event
fault_read [] = None
fault_read (word ∷ words) = option_and_then (λ n. option_map (λ k. Fault n k) (one_kind words)) (node_word word)

-- the start of a merge that these words are
abbrev pub merging_read : List (List ℕ) → Option Event
merging_read [] = None
merging_read (word ∷ words) = if are_none words then option_map (λ seg. Merging seg) (segment_named word) else None

-- the promotion that these words are
abbrev pub promoted_read : List (List ℕ) → Option Event
promoted_read [] = None
promoted_read (word ∷ words) =
    option_and_then (λ n. option_map (λ p. Promoted n (record { 0 = p.0 }) (version_from p.1) (version_from p.2)) (three_numbers words)) (node_word word)

-- the start of a publish that these words are: none
abbrev pub publishing_read : List (List ℕ) → Option Event
publishing_read words = if are_none words then Some Publishing else None

abbrev pub fault_event : List ℕ → List (List ℕ) → Option Event
fault_event word words =
    if bytes_eq (codes "merging") word then merging_read words
    else if bytes_eq (codes "planned") word then planned_read words
    else if bytes_eq (codes "fault") word then fault_read words
    else if bytes_eq (codes "refused") word then option_map (λ cause. Refused cause) (cause_read words)
    else None

abbrev pub ticket_event : List ℕ → List (List ℕ) → Option Event
ticket_event word words =
    if bytes_eq (codes "opened") word then option_map (λ p. Opened p.0 p.1 p.2) (node_ticket_version words)
    else if bytes_eq (codes "asking") word then option_map (λ p. Asking p.0 p.1 p.2) (node_ticket_version words)
    else if bytes_eq (codes "closed") word then option_and_then (λ p. option_map (λ t. Closed p.0 t) (ticket_fitting p.1)) (node_first words)
    else if bytes_eq (codes "promoted") word then promoted_read words
    else fault_event word words

abbrev pub settle_event : List ℕ → List (List ℕ) → Option Event
settle_event word words =
    if bytes_eq (codes "settling") word then option_map (λ v. Settling (version_from v)) (one_number words)
    else if bytes_eq (codes "settled") word then option_map (λ v. Settled (version_from v)) (one_number words)
    else if bytes_eq (codes "crashed") word then option_and_then (λ a. option_map (λ n. Crashed n) (node_fitting a)) (one_number words)
    else if bytes_eq (codes "publishing") word then publishing_read words
    else ticket_event word words

abbrev pub commit_event : List ℕ → List (List ℕ) → Option Event
commit_event word words =
    if bytes_eq (codes "committing") word then option_map (λ p. Committing p.0 p.1) (node_version words)
    else if bytes_eq (codes "committed") word then option_map (λ p. Committed p.0 p.1) (node_version words)
    else if bytes_eq (codes "published") word then option_map (λ p. Published (record { 0 = p.0 }) (version_from p.1)) (two_numbers words)
    else settle_event word words

-- the event that a word names, with these words behind it, of those whose words say all
abbrev pub printed_event : List ℕ → List (List ℕ) → Option Event
printed_event word words =
    if bytes_eq (codes "copying") word then option_map (λ p. Copying p.0 p.1) (node_version words)
    else if bytes_eq (codes "switched") word then option_map (λ p. Switched p.0 p.1) (node_version words)
    else if bytes_eq (codes "copied") word then option_map (λ p. Copied p.0 p.1) (node_version words)
    else if bytes_eq (codes "reopened") word then option_map (λ p. Reopened p.0 p.1) (node_version words)
    else commit_event word words

-- the list of a node's files that these words are
abbrev pub files_read : List (List ℕ) → Option Event
files_read [] = None
files_read (word ∷ words) = option_and_then (λ n. option_map (λ names. Files n names) (names_read words)) (node_word word)

-- how many there are, and the hits
abbrev pub answer_read : List (List ℕ) → Option Answer
answer_read [] = None
answer_read (word ∷ words) = option_and_then (λ total. option_map (λ hits. record { total = total; hits = hits }) (hits_read words)) (count_word word)

-- the version of an answer and the answer, which these words are
abbrev pub answered_with : Query → NodeNo → TicketNo → List (List ℕ) → Option Event
answered_with query n t [] = None
answered_with query n t (word ∷ words) =
    option_and_then (λ v. option_map (λ answer. Answered n t (version_from v) query answer) (answer_read words)) (number_read word)

-- the same with the ticket before them
abbrev pub answered_at : Query → NodeNo → List (List ℕ) → Option Event
answered_at query n [] = None
answered_at query n (word ∷ words) = option_and_then (λ t. answered_with query n t words) (ticket_word word)

-- the answer of a query that these words are
abbrev pub answered_read : Query → List (List ℕ) → Option Event
answered_read query [] = None
answered_read query (word ∷ words) = option_and_then (λ n. answered_at query n words) (node_word word)

-- the count of an accepted operation, which these words are
abbrev pub accepted_read : List Op → LineCommand → List (List ℕ) → Option Event
accepted_read due command words = option_and_then (λ a. option_map (λ seq. Accepted seq (op_told due command)) (count_fitting a)) (one_number words)

-- how many tasks were done, which these words are
abbrev pub drained_read : LineCommand → List (List ℕ) → Option Event
drained_read command words = option_and_then (λ a. option_map (λ done. Drained done (most_of_line command)) (count_fitting a)) (one_number words)

-- the event that a word names, with these words behind it
abbrev pub event_with : List Op → LineCommand → List ℕ → List (List ℕ) → Option Event
event_with due command word words =
    if bytes_eq (codes "accepted") word then accepted_read due command words
    else if bytes_eq (codes "answer") word then answered_read (query_of_line command) words
    else if bytes_eq (codes "files") word then files_read words
    else if bytes_eq (codes "drained") word then drained_read command words
    else printed_event word words

-- the event that words are read as
abbrev pub event_read : List Op → LineCommand → List (List ℕ) → Option Event
event_read due command [] = None
event_read due command (word ∷ words) = event_with due command word words
