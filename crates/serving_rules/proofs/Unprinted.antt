-- What the text of an entry leaves open: the lane of its line, an operation, a query and how many tasks were asked for. The script has them.
use Rattle.std.proofs.Common.{◌≡◌, ℕ, Bool, true, false, ◌||◌, ◌==◌, not, nat_eq, List, [], ◌∷◌, ◌++◌, reverse, Option, Some, None, refl, sym, ap, subst, ◌∙◌, arith}
use Rattle.std.specs.Bool.{⊤}
use Rattle.std.specs.List.{list_all}
use Rattle.std.proofs.lemmas.Bool.{and_parts}
use Rattle.std.proofs.lemmas.Bool.Decides.{nat_tests}
use Rattle.std.proofs.lemmas.List.{reverse-append, reverse-reverse}
use Rattle.nrt_base.specs.declared.numbers.At.{At}
use Rattle.nrt_base.specs.declared.numbers.LaneNo.{LaneNo}
use Rattle.nrt_base.specs.declared.numbers.LineNo.{LineNo}
use Rattle.nrt_base.specs.declared.numbers.NodeNo.{NodeNo}
use Rattle.nrt_base.specs.declared.numbers.TicketNo.{TicketNo}
use Rattle.nrt_base.specs.declared.numbers.Version.{Version}
use Rattle.documents.specs.declared.operation.Op.{Op}
use Rattle.documents.specs.declared.operation.Op.TheVariants.{Put as PutOp, Delete as DeleteOp, Drop as DropOp}
use Rattle.documents.specs.declared.query.Query.{Query}
use Rattle.history_rules.specs.declared.cause.Cause.{Cause}
use Rattle.documents.specs.declared.answer.Answer.{Answer}
use Rattle.history_rules.specs.declared.entry.Event.{Event}
use Rattle.history_rules.specs.declared.entry.Event.TheVariants.{Accepted, Copying, Answered, Drained, Refused}
use Rattle.history_rules.specs.declared.entry.Entry.{Entry}
use Rattle.history_rules.specs.declared.entry.History.{History}
use Rattle.history_rules.specs.Nodes.{Past}
use Rattle.history_rules.specs.Lines.{same_at, last_of_line}
use Rattle.report_text.specs.Printed.{AllFit, SamePrintedEvent, SamePrinted, AllSamePrinted}
use Rattle.report_text.proofs.TextLaws.{same_text}
use Rattle.script_serving.specs.declared.script.Line.{Line}
use Rattle.script_serving.specs.declared.script.LineCommand.{LineCommand}
use Rattle.script_serving.specs.declared.script.LineCommand.TheVariants.{Put, Delete, Drop, Copy, Search, Ask, Promote, Drain}
use Rattle.script_serving.specs.declared.script.Script.{Script}
use Rattle.script_serving.specs.Lines.{lines_of, lines_of_lane, command_at, has_line}
use Rattle.script_serving.specs.Form.{are_distinct}
use Rattle.script_serving.specs.Refusals.{refusal}
use Rattle.script_serving.specs.Serves.{Begins, First, Follows, Suits, FitsTurn, FitsReplay, Fits, ServesLanes, Serves}
use Rattle.script_serving.specs.Replays.{due}
use Rattle.script_serving.proofs.ServingLemmas.{known_line}
use Rattle.serving_rules.specs.Determined.{TextsDetermineHistories}

-- ---- what a command says of the entries of its line

abbrev pub OpOf : LineCommand → Op → Type 0
OpOf (Put doc) op = op ≡ PutOp doc
OpOf (Delete key) op = op ≡ DeleteOp key
OpOf (Drop word) op = op ≡ DropOp word
OpOf command op = ⊥

abbrev pub QueryOf : LineCommand → Query → Type 0
QueryOf (Search n query) q = q ≡ query
QueryOf (Ask t query) q = q ≡ query
QueryOf command q = ⊥

abbrev pub MostOf : LineCommand → ℕ → Type 0
MostOf (Drain most) bound = bound ≡ most
MostOf command bound = ⊥

-- what is not printed of the event is what the command says
abbrev pub OfCommand : Option LineCommand → Event → Type 0
OfCommand None e = ⊥
OfCommand (Some command) (Accepted seq op) = OpOf command op
OfCommand (Some command) (Answered n t v query answer) = QueryOf command query
OfCommand (Some command) (Drained done most) = MostOf command most
OfCommand (Some command) e = ⊤

-- the event accepts this operation
abbrev pub AcceptsOp : Op → Event → Type 0
AcceptsOp op (Accepted seq again) = again ≡ op
AcceptsOp op e = ⊥

-- what is not printed of the event is what the replay or the command says
abbrev pub Unprinted : List Op → Option LineCommand → Event → Type 0
Unprinted [] command e = OfCommand command e
Unprinted (op ∷ ops) command e = AcceptsOp op e

one_op : (command : LineCommand) (a b : Op) → OpOf command a → OpOf command b → a ≡ b
one_op (Put doc) a b h k = h ∙ sym k
one_op (Delete key) a b h k = h ∙ sym k
one_op (Drop word) a b h k = h ∙ sym k
one_op command a b h k = absurd h

one_query : (command : LineCommand) (a b : Query) → QueryOf command a → QueryOf command b → a ≡ b
one_query (Search n query) a b h k = h ∙ sym k
one_query (Ask t query) a b h k = h ∙ sym k
one_query command a b h k = absurd h

one_most : (command : LineCommand) (a b : ℕ) → MostOf command a → MostOf command b → a ≡ b
one_most (Drain most) a b h k = h ∙ sym k
one_most command a b h k = absurd h

same_answered : (n m : NodeNo) (t u : TicketNo) (v w : Version) (q r : Query) (a b : Answer) → (n ≡ m) × (t ≡ u) × (v ≡ w) × (a ≡ b) → q ≡ r → Answered n t v q a ≡ Answered m u w r b
same_answered n m t u v w q r a b h e =
    ap (λ (x : NodeNo). Answered x t v q a) h.0 ∙ ap (λ (x : TicketNo). Answered m x v q a) h.1 ∙ ap (λ (x : Version). Answered m u x q a) h.2
    ∙ ap (λ (x : Query). Answered m u w x a) e ∙ ap (λ (x : Answer). Answered m u w r x) h.3

-- two events that are printed alike, of lines with one command, are one
one_of_command : (command : Option LineCommand) (e f : Event) → SamePrintedEvent e f → OfCommand command e → OfCommand command f → e ≡ f
one_of_command None e f h p q = absurd p
one_of_command (Some command) (Accepted seq op) (Accepted other_seq other_op) h p q =
    ap (λ (x : ℕ). Accepted x op) h ∙ ap (λ (x : Op). Accepted other_seq x) (one_op command op other_op p q)
one_of_command (Some command) (Answered n t v query answer) (Answered m u w other_query other_answer) h p q =
    same_answered n m t u v w query other_query answer other_answer h (one_query command query other_query p q)
one_of_command (Some command) (Drained done most) (Drained other_done other_most) h p q =
    ap (λ (x : ℕ). Drained x most) h ∙ ap (λ (x : ℕ). Drained other_done x) (one_most command most other_most p q)
one_of_command (Some command) e f h p q = h

one_accepted : (op : Op) (e f : Event) → SamePrintedEvent e f → AcceptsOp op e → AcceptsOp op f → e ≡ f
one_accepted op (Accepted seq a) (Accepted other b) h p q = ap (λ (x : ℕ). Accepted x a) h ∙ ap (λ (x : Op). Accepted other x) (p ∙ sym q)
one_accepted op (Accepted seq a) f h p q = absurd q
one_accepted op e f h p q = absurd p

-- two events that are printed alike, where one operation is due or lines have one command, are one
one_event : (ops : List Op) (command : Option LineCommand) (e f : Event) → SamePrintedEvent e f → Unprinted ops command e → Unprinted ops command f → e ≡ f
one_event [] command e f h p q = one_of_command command e f h p q
one_event (op ∷ ops) command e f h p q = one_accepted op e f h p q

-- ---- an entry that fits its line has what the line's command says

op_refused : (seq : ℕ) (op : Op) (cause : Cause) → Accepted seq op ≡ Refused cause → ⊥
op_refused seq op cause h = cc

op_begins : (command : LineCommand) (past : Past) (seq : ℕ) (op : Op) → Begins command past (Accepted seq op) → OpOf command op
op_begins (Put doc) past seq op h = h
op_begins (Delete key) past seq op h = h
op_begins (Drop word) past seq op h = h
op_begins command past seq op h = h

op_first : (command : LineCommand) (at : At) (past : Past) (cause : Option Cause) (seq : ℕ) (op : Op) → First command at past cause (Accepted seq op) → OpOf command op
op_first command at past (Some cause) seq op h = absurd (op_refused seq op cause h)
op_first command at past None seq op h = op_begins command past seq op h

op_follows : (command : LineCommand) (last : Event) (seq : ℕ) (op : Op) → Follows command last (Accepted seq op) → OpOf command op
op_follows (Put doc) last seq op h = absurd h
op_follows (Copy n) (Copying k w) seq op h = absurd h
op_follows command last seq op h = absurd h

op_suits : (command : LineCommand) (at : At) (past : Past) (last : Option Event) (seq : ℕ) (op : Op) → Suits command at past last (Accepted seq op) → OpOf command op
op_suits command at past None seq op h = op_first command at past (refusal command at.lane.0 past) seq op h
op_suits command at past (Some last) seq op h = op_follows command last seq op h.1

most_refused : (done most : ℕ) (cause : Cause) → Drained done most ≡ Refused cause → ⊥
most_refused done most cause h = cc

most_begins : (command : LineCommand) (past : Past) (done most : ℕ) → Begins command past (Drained done most) → MostOf command most
most_begins (Drain bound) past done most h = h.0
most_begins command past done most h = h

most_first : (command : LineCommand) (at : At) (past : Past) (cause : Option Cause) (done most : ℕ) → First command at past cause (Drained done most) → MostOf command most
most_first command at past (Some cause) done most h = absurd (most_refused done most cause h)
most_first command at past None done most h = most_begins command past done most h

most_follows : (command : LineCommand) (last : Event) (done most : ℕ) → Follows command last (Drained done most) → MostOf command most
most_follows (Put doc) last done most h = absurd h
most_follows (Copy n) (Copying k w) done most h = absurd h
most_follows command last done most h = absurd h

most_suits : (command : LineCommand) (at : At) (past : Past) (last : Option Event) (done most : ℕ) → Suits command at past last (Drained done most) → MostOf command most
most_suits command at past None done most h = most_first command at past (refusal command at.lane.0 past) done most h
most_suits command at past (Some last) done most h = most_follows command last done most h.1

query_refused : (n : NodeNo) (t : TicketNo) (v : Version) (query : Query) (answer : Answer) (cause : Cause) → Answered n t v query answer ≡ Refused cause → ⊥
query_refused n t v query answer cause h = cc

query_begins : (command : LineCommand) (past : Past) (n : NodeNo) (t : TicketNo) (v : Version) (query : Query) (answer : Answer) → Begins command past (Answered n t v query answer) → QueryOf command query
query_begins (Put doc) past n t v query answer h = absurd h
query_begins command past n t v query answer h = absurd h

query_first : (command : LineCommand) (at : At) (past : Past) (cause : Option Cause) (n : NodeNo) (t : TicketNo) (v : Version) (query : Query) (answer : Answer)
    → First command at past cause (Answered n t v query answer) → QueryOf command query
query_first command at past (Some cause) n t v query answer h = absurd (query_refused n t v query answer cause h)
query_first command at past None n t v query answer h = query_begins command past n t v query answer h

query_follows : (command : LineCommand) (last : Event) (n : NodeNo) (t : TicketNo) (v : Version) (query : Query) (answer : Answer) → Follows command last (Answered n t v query answer) → QueryOf command query
query_follows (Search m asked) last n t v query answer h = h.2
query_follows (Ask u asked) last n t v query answer h = h.1
query_follows (Copy m) (Copying k w) n t v query answer h = absurd h
query_follows command last n t v query answer h = absurd h

query_suits : (command : LineCommand) (at : At) (past : Past) (last : Option Event) (n : NodeNo) (t : TicketNo) (v : Version) (query : Query) (answer : Answer)
    → Suits command at past last (Answered n t v query answer) → QueryOf command query
query_suits command at past None n t v query answer h = query_first command at past (refusal command at.lane.0 past) n t v query answer h
query_suits command at past (Some last) n t v query answer h = query_follows command last n t v query answer h.1

fits_turn : (lines : List Line) (past : Past) (at : At) (command : Option LineCommand) (e : Event) → FitsTurn lines past at command e → OfCommand command e
fits_turn lines past at None e h = absurd h
fits_turn lines past at (Some command) (Accepted seq op) h = op_suits command at past (last_of_line at past) seq op h.0
fits_turn lines past at (Some command) (Answered n t v query answer) h = query_suits command at past (last_of_line at past) n t v query answer h.0
fits_turn lines past at (Some command) (Drained done most) h = most_suits command at past (last_of_line at past) done most h.0
fits_turn lines past at (Some command) e h = tt

fits_replay : (op : Op) (past : Past) (at : At) (command : Option LineCommand) (e : Event) → FitsReplay op past at command e → AcceptsOp op e
fits_replay op past at (Some (Promote n force)) (Accepted seq again) h = h.0
fits_replay op past at None e h = absurd h
fits_replay op past at (Some command) e h = absurd h

pub fits_unprinted : (ops : List Op) (lines : List Line) (past : Past) (at : At) (command : Option LineCommand) (e : Event) → Fits ops lines past at command e → Unprinted ops command e
fits_unprinted [] lines past at command e h = fits_turn lines past at command e h
fits_unprinted (op ∷ ops) lines past at command e h = fits_replay op past at command e h

-- ---- two lines of a script with one number are one line

same_number : (a b : ℕ) → nat_eq a b ≡ true → a ≡ b
same_number a b h = grind (arith, nat_tests)

itself : (a : ℕ) → nat_eq a a ≡ true
itself a = grind (arith, nat_tests)

not_both : (b : Bool) → b ≡ true → not b ≡ true → ⊥
not_both true h k = cc
not_both false h k = cc

-- no line after a line has its number
no_other : (n : ℕ) (lines : List Line) (b : At) → list_all (λ (other : Line). not (other.at.line.0 == n)) lines ≡ true → has_line lines b ≡ true → b.line.0 ≡ n → ⊥
no_other n [] b h k e = cc
no_other n (line ∷ lines) b h k e =
    let parts = and_parts (not (line.at.line.0 == n)) (list_all (λ (other : Line). not (other.at.line.0 == n)) lines) h in
    split (same_at line.at b) refl parts.0 (λ later. no_other n lines b parts.1 later e) k
  where
    split : (s : Bool) → same_at line.at b ≡ s → not (line.at.line.0 == n) ≡ true → (has_line lines b ≡ true → ⊥) → s || has_line lines b ≡ true → ⊥
    split true s p q k =
        let same = and_parts (line.at.lane.0 == b.lane.0) (line.at.line.0 == b.line.0) s in
        not_both (line.at.line.0 == n) (subst (λ (m : ℕ). nat_eq line.at.line.0 m ≡ true) e same.1) p
    split false s p q k = q k

one_lane : (lines : List Line) (a b : At) → are_distinct lines ≡ true → has_line lines a ≡ true → has_line lines b ≡ true → a.line.0 ≡ b.line.0 → a.lane.0 ≡ b.lane.0
one_lane [] a b d h k e = absurd (no_line h)
  where
    no_line : false ≡ true → ⊥
    no_line h = cc
one_lane (line ∷ lines) a b d h k e =
    let parts = and_parts (list_all (λ (other : Line). not (other.at.line.0 == line.at.line.0)) lines) (are_distinct lines) d in
    split (same_at line.at a) (same_at line.at b) refl refl h k parts.0 (λ f g. one_lane lines a b parts.1 f g e)
  where
    split : (s t : Bool) → same_at line.at a ≡ s → same_at line.at b ≡ t → s || has_line lines a ≡ true → t || has_line lines b ≡ true
        → list_all (λ (other : Line). not (other.at.line.0 == line.at.line.0)) lines ≡ true → (has_line lines a ≡ true → has_line lines b ≡ true → a.lane.0 ≡ b.lane.0) → a.lane.0 ≡ b.lane.0
    split true true s t h k p q =
        let first = and_parts (line.at.lane.0 == a.lane.0) (line.at.line.0 == a.line.0) s in
        let second = and_parts (line.at.lane.0 == b.lane.0) (line.at.line.0 == b.line.0) t in
        sym (same_number line.at.lane.0 a.lane.0 first.0) ∙ same_number line.at.lane.0 b.lane.0 second.0
    split true false s t h k p q =
        let first = and_parts (line.at.lane.0 == a.lane.0) (line.at.line.0 == a.line.0) s in
        absurd (no_other line.at.line.0 lines b p k (sym e ∙ sym (same_number line.at.line.0 a.line.0 first.1)))
    split false true s t h k p q =
        let second = and_parts (line.at.lane.0 == b.lane.0) (line.at.line.0 == b.line.0) t in
        absurd (no_other line.at.line.0 lines a p h (e ∙ sym (same_number line.at.line.0 b.line.0 second.1)))
    split false false s t h k p q = q h k

abbrev lane_number : ℕ → LaneNo
lane_number k = record { 0 = k }

abbrev place : LaneNo → LineNo → At
place lane line = record { lane = lane; line = line }

pub one_place : (lines : List Line) (a b : At) → are_distinct lines ≡ true → has_line lines a ≡ true → has_line lines b ≡ true → a.line ≡ b.line → a ≡ b
one_place lines a b d h k e =
    ap (λ (l : ℕ). place (lane_number l) a.line) (one_lane lines a b d h k (ap (λ (l : LineNo). l.0) e)) ∙ ap (place b.lane) e

-- ---- the histories

abbrev entry : At → Event → Entry
entry at e = record { at = at; event = e }

-- the line of an entry is one of the script, and what is not printed of it is what the replay or its line's command says
record IsTold (script : Script) (ops : List Op) (e : Entry) : Type 0 where
  known : has_line (lines_of script) e.at ≡ true
  unprinted : Unprinted ops (command_at (lines_of_lane e.at.lane.0 script) e.at) e.event

told : (script : Script) (e : Entry) (past : Past) → ServesLanes script (e ∷ past) → IsTold script (due script.log past) e
told script e past serves = record {
  known = known_line script e past serves;
  unprinted = fits_unprinted (due script.log past) (lines_of_lane e.at.lane.0 script) past e.at (command_at (lines_of_lane e.at.lane.0 script) e.at) e.event serves.0;
}

one_entry : (script : Script) (ops : List Op) (e f : Entry) → are_distinct (lines_of script) ≡ true → SamePrinted e f → IsTold script ops e → IsTold script ops f → e ≡ f
one_entry script ops e f d same p q =
    let at : e.at ≡ f.at = one_place (lines_of script) e.at f.at d p.known q.known same.line in
    let second = subst (λ (a : At). Unprinted ops (command_at (lines_of_lane a.lane.0 script) a) f.event) (sym at) q.unprinted in
    ap (λ (a : At). entry a e.event) at ∙ ap (entry f.at) (one_event ops (command_at (lines_of_lane e.at.lane.0 script) e.at) e.event f.event same.event p.unprinted second)

-- what serves a script and is printed alike is one
one_past : (script : Script) (past other : Past) → are_distinct (lines_of script) ≡ true → AllSamePrinted past other
    → ServesLanes script past → ServesLanes script other → past ≡ other
one_past script [] [] d same p q = refl
one_past script [] (f ∷ other) d same p q = absurd same
one_past script (e ∷ past) [] d same p q = absurd same
one_past script (e ∷ past) (f ∷ other) d same p q =
    let rest : past ≡ other = one_past script past other d same.1 p.1 q.1 in
    let second : IsTold script (due script.log past) f = subst (λ (before : Past). IsTold script (due script.log before) f) (sym rest) (told script f other q) in
    cons_from e f past other (one_entry script (due script.log past) e f d same.0 (told script e past p) second) rest
  where
    cons_from : (e f : Entry) (es fs : List Entry) → e ≡ f → es ≡ fs → e ∷ es ≡ f ∷ fs
    cons_from e f es fs h k = cc

-- lists that are printed alike are so from their ends
same_joined : (es fs gs hs : List Entry) → AllSamePrinted es fs → AllSamePrinted gs hs → AllSamePrinted (es ++ gs) (fs ++ hs)
same_joined [] [] gs hs p q = q
same_joined [] (f ∷ fs) gs hs p q = absurd p
same_joined (e ∷ es) [] gs hs p q = absurd p
same_joined (e ∷ es) (f ∷ fs) gs hs p q = (p.0, same_joined es fs gs hs p.1 q)

same_turned : (es fs : List Entry) → AllSamePrinted es fs → AllSamePrinted (reverse es) (reverse fs)
same_turned [] [] p = tt
same_turned [] (f ∷ fs) p = absurd p
same_turned (e ∷ es) [] p = absurd p
same_turned (e ∷ es) (f ∷ fs) p =
    rw (reverse-append (e ∷ []) es, reverse-append (f ∷ []) fs) (same_joined (reverse es) (reverse fs) (e ∷ []) (f ∷ []) (same_turned es fs p.1) (p.0, tt))

abbrev history : ℕ → List Entry → History
history nodes entries = record { nodes = nodes; entries = entries }

-- two histories that serve one script and are printed alike are one
pub texts_determine_histories : (script : Script) (h k : History) → are_distinct (lines_of script) ≡ true → AllFit h.entries → AllFit k.entries → TextsDetermineHistories script h k
texts_determine_histories script h k distinct fits others p q same =
    let turned = same_turned h.entries k.entries (same_text h k fits others same) in
    let pasts : reverse h.entries ≡ reverse k.entries = one_past script (reverse h.entries) (reverse k.entries) distinct turned p.lanes q.lanes in
    let entries : h.entries ≡ k.entries = sym (reverse-reverse h.entries) ∙ (ap reverse pasts ∙ reverse-reverse k.entries) in
    ap (λ (n : ℕ). history n h.entries) (p.nodes ∙ sym q.nodes) ∙ ap (history k.nodes) entries
