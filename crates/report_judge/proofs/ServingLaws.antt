-- Entries that fit: what they are asked for by, and that one text has one such entry.
use Rattle.std.proofs.Common.{◌≡◌, ℕ, Bool, true, false, ◌||◌, List, [], ◌∷◌, Option, Some, None, refl, sym, ap, subst, ◌∙◌, ◌↔◌}
use Rattle.std.proofs.lemmas.Bool.{false≢true}
use Rattle.std.proofs.lemmas.Option.{none-some}
use Rattle.nrt_base.specs.declared.numbers.At.{At}
use Rattle.nrt_base.specs.declared.numbers.LineNo.{LineNo}
use Rattle.documents.specs.declared.operation.Op.{Op}
use Rattle.history_rules.specs.declared.cause.Cause.{Cause}
use Rattle.history_rules.specs.declared.cause.Cause.TheVariants.{TooManySegments}
use Rattle.history_rules.specs.declared.entry.Event.{Event}
use Rattle.history_rules.specs.declared.entry.Event.TheVariants.{Accepted, Answered, Drained, Fault as Met, Refused}
use Rattle.history_rules.specs.declared.entry.Entry.{Entry}
use Rattle.history_rules.specs.Nodes.{Past}
use Rattle.history_rules.specs.Lines.{last_of_line, is_answered}
use Rattle.report_text.specs.Texts.{text_of_entry}
use Rattle.report_text.specs.Printed.{SamePrintedEvent}
use Rattle.report_text.proofs.TextLaws.{same_text_of_entry}
use Rattle.report_reading.specs.Widths.{EntryIsNarrow}
use Rattle.report_reading.specs.Readings.{op_told, query_of_line, most_of_line, as_told}
use Rattle.report_reading.proofs.LineLaws.{narrow_fits}
use Rattle.script_serving.specs.declared.script.Line.{Line}
use Rattle.script_serving.specs.declared.script.LineCommand.{LineCommand}
use Rattle.serving_rules.specs.Sizes.{CountsNewest}
use Rattle.script_serving.specs.declared.script.LineCommand.TheVariants.{Put, Delete, Drop, Search, Ask, Merge, Drain}
use Rattle.script_serving.specs.declared.script.Script.{Script}
use Rattle.script_serving.specs.Form.{IsInForm}
use Rattle.script_serving.specs.Lines.{lines_of, lines_of_lane, command_at, earlier_answered, earlier_phases_answered}
use Rattle.script_serving.specs.Replays.{due}
use Rattle.script_serving.specs.Serves.{Begins, First, Suits, SuitsFault, FitsTurn, FitsReplay, Fits, is_merge_fault}
use Rattle.serving_rules.proofs.Unprinted.{OpOf, QueryOf, MostOf, OfCommand, Unprinted, fits_unprinted, one_place}
use Rattle.report_judge.specs.Judgements.{FitsNext}
use Rattle.report_judge.specs.Places.{line_numbered, place_told, command_told}
use Rattle.known_past.specs.Lines.{is_fault}
use Rattle.report_judge.specs.Serving.{is_merge}
use Rattle.report_judge.specs.Walks.{IsEntryTold}
use Rattle.report_judge.proofs.PlaceLaws.{numbered_is, none_numbered, stands_there, lane_command}

-- ---- events

-- an entry that refuses nothing is first where it begins the line
pub first_begins : (command : LineCommand) (at : At) (past : Past) (e : Event) → ((cause : Cause) → e ≡ Refused cause → ⊥) → First command at past None e ↔ Begins command past e
first_begins command at past (Refused cause) other = absurd (other cause refl)
first_begins command at past e other = (λ h. h, λ h. h)

-- where no line is refused, no documents are counted
pub none_counted : (past : Past) (e : Event) → ((cause : Cause) → e ≡ Refused cause → ⊥) → CountsNewest past e 0
none_counted past e other = λ refused. absurd (other TooManySegments refused)

-- an entry that is no fault fits in its turn where it suits
pub turn_suits : (lines : List Line) (past : Past) (at : At) (command : LineCommand) (e : Event) → is_fault e ≡ false
    → FitsTurn lines past at (Some command) e ↔ (Suits command at past (last_of_line at past) e × (earlier_answered lines at past ≡ true))
turn_suits lines past at command (Met n kind) other = absurd (false≢true (sym other))
turn_suits lines past at command e other = (λ h. h, λ h. h)

-- a fault fits where it suits
pub turn_fault : (lines : List Line) (past : Past) (at : At) (command : LineCommand) (e : Event) → is_fault e ≡ true
    → FitsTurn lines past at (Some command) e ↔ SuitsFault command lines at past
turn_fault lines past at command (Met n kind) is = (λ h. h, λ h. h)
turn_fault lines past at command e is = absurd (false≢true is)

pub suits_merge : (lines : List Line) (past : Past) (at : At) (command : LineCommand) → is_merge command ≡ true → SuitsFault command lines at past
suits_merge lines past at (Merge factor) is = tt
suits_merge lines past at command is = absurd (false≢true is)

pub suits_other : (lines : List Line) (past : Past) (at : At) (command : LineCommand) → is_merge command ≡ false
    → SuitsFault command lines at past ↔ ((is_answered at past ≡ false) × (earlier_answered lines at past ≡ true))
suits_other lines past at (Merge factor) other = absurd (false≢true (sym other))
suits_other lines past at command other = (λ h. h, λ h. h)

-- a fault of another line fits before the reply and in its turn
pub fault_in_turn : (lines : List Line) (past : Past) (at : At) (command : LineCommand) → is_merge command ≡ false → is_answered at past ≡ false
    → (turn : Bool) → turn ≡ earlier_answered lines at past → (turn ≡ true) ↔ SuitsFault command lines at past
fault_in_turn lines past at command other open_line turn is =
    let suits = suits_other lines past at command other in
    (λ h. suits.1 (open_line, sym is ∙ h), λ h. is ∙ (suits.0 h).1)

-- a fault of another line does not fit behind the reply
pub fault_is_late : (lines : List Line) (past : Past) (at : At) (command : LineCommand) → is_merge command ≡ false → is_answered at past ≡ true → SuitsFault command lines at past → ⊥
fault_is_late lines past at command other closed fits = false≢true (sym ((suits_other lines past at command other).0 fits).0 ∙ closed)

-- an entry out of its turn does not fit
pub not_in_turn : (lines : List Line) (past : Past) (at : At) (command : LineCommand) (e : Event) → is_fault e ≡ false → earlier_answered lines at past ≡ false
    → FitsTurn lines past at (Some command) e → ⊥
not_in_turn lines past at command e other late fits = false≢true (sym late ∙ ((turn_suits lines past at command e other).0 fits).1)

-- an entry in its turn fits where it suits
pub suits_in_turn : (lines : List Line) (past : Past) (at : At) (command : LineCommand) (e : Event) → is_fault e ≡ false → earlier_answered lines at past ≡ true
    → (is : Bool) → (is ≡ true) ↔ Suits command at past (last_of_line at past) e → (is ≡ true) ↔ FitsTurn lines past at (Some command) e
suits_in_turn lines past at command e other early is h =
    let turn = turn_suits lines past at command e other in
    (λ k. turn.1 (h.0 k, early), λ k. h.1 (turn.0 k).0)

pub merge_fault_is : (command : LineCommand) (e : Event) → is_merge command ≡ true → is_fault e ≡ true → is_merge_fault (Some command) e ≡ true
merge_fault_is (Merge factor) (Met n kind) is fault = refl
merge_fault_is (Merge factor) e is fault = absurd (false≢true fault)
merge_fault_is command e is fault = absurd (false≢true is)

pub no_merge : (command : LineCommand) (e : Event) → is_merge command ≡ false → is_merge_fault (Some command) e ≡ false
no_merge (Merge factor) e other = absurd (false≢true (sym other))
no_merge command e other = refl

pub no_fault : (command : LineCommand) (e : Event) → is_fault e ≡ false → is_merge_fault (Some command) e ≡ false
no_fault (Merge factor) (Met n kind) other = absurd (false≢true (sym other))
no_fault (Merge factor) e other = refl
no_fault command e other = refl

-- ---- what a line says in place of what is not printed

told_op : (command : LineCommand) (op : Op) → OpOf command op → op_told [] command ≡ op
told_op (Put doc) op h = sym h
told_op (Delete key) op h = sym h
told_op (Drop word) op h = sym h
told_op command op h = absurd h

told_by_command : (command : LineCommand) (e : Event) → OfCommand (Some command) e → as_told [] command e ≡ e
told_by_command command (Accepted seq op) h = ap (λ (o : Op). Accepted seq o) (told_op command op h)
told_by_command command (Answered n t v query answer) h = ap (λ (q : _). Answered n t v q answer) (told_query command query h)
  where
    told_query : (command : LineCommand) (query : _) → QueryOf command query → query_of_line command ≡ query
    told_query (Search n q) query h = sym h
    told_query (Ask t q) query h = sym h
    told_query command query h = absurd h
told_by_command command (Drained done most) h = ap (λ (k : ℕ). Drained done k) (told_most command most h)
  where
    told_most : (command : LineCommand) (most : ℕ) → MostOf command most → most_of_line command ≡ most
    told_most (Drain k) most h = sym h
    told_most command most h = absurd h
told_by_command command e h = refl

-- an entry that fits says what its line does
pub told_by : (ops : List Op) (command : LineCommand) (e : Event) → Unprinted ops (Some command) e → as_told ops command e ≡ e
told_by [] command e h = told_by_command command e h
told_by (op ∷ ops) command (Accepted seq again) h = ap (λ (o : Op). Accepted seq o) (sym h)
told_by (op ∷ ops) command e h = absurd h

-- what is printed alike is one where a line says the rest
pub told_alike : (ops : List Op) (command : LineCommand) (e f : Event) → SamePrintedEvent e f → as_told ops command e ≡ as_told ops command f
told_alike ops command (Accepted seq a) (Accepted other b) h = ap (λ (k : ℕ). Accepted k (op_told ops command)) h
told_alike ops command (Answered n t v q a) (Answered m u w r b) h =
    ap (λ (x : _). Answered x t v (query_of_line command) a) h.0 ∙ ap (λ (x : _). Answered m x v (query_of_line command) a) h.1
    ∙ ap (λ (x : _). Answered m u x (query_of_line command) a) h.2 ∙ ap (λ (x : _). Answered m u w (query_of_line command) x) h.3
told_alike ops command (Drained done most) (Drained other bound) h = ap (λ (k : ℕ). Drained k (most_of_line command)) h
told_alike ops command e f h = ap (λ (x : Event). as_told ops command x) h

-- ---- the line of an entry

-- the script's line of the entry's number stands at its place, in its lane too
pub record StandsAt (script : Script) (at : At) (command : LineCommand) : Type 0 where
  pub lane : command_at (lines_of_lane at.lane.0 script) at ≡ Some command
  pub whole : command_at (lines_of script) at ≡ Some command

stands : (script : Script) (at : At) (line : Line) → IsInForm script → line_numbered at.line.0 (lines_of script) ≡ Some line → at ≡ line.at → StandsAt script at line.command
stands script at line form found e =
    let whole = subst (λ (a : At). command_at (lines_of script) a ≡ Some line.command) (sym e) (numbered_is at.line.0 (lines_of script) line found).command in
    record { lane = lane_command script at form ∙ whole; whole = whole }

place_is : (script : Script) (n : ℕ) (line : Line) → line_numbered n (lines_of script) ≡ Some line → place_told script n ≡ line.at
place_is script n line h = rw h refl

command_is : (script : Script) (n : ℕ) (line : Line) → line_numbered n (lines_of script) ≡ Some line → command_told script n ≡ line.command
command_is script n line h = rw h refl

-- an entry that says what its line does stands at it
pub stands_told : (script : Script) (ops : List Op) (e : Entry) (line : Line) → IsInForm script → IsEntryTold script ops e → line_numbered e.at.line.0 (lines_of script) ≡ Some line
    → StandsAt script e.at line.command
stands_told script ops e line form told found = stands script e.at line form found (told.place ∙ place_is script e.at.line.0 line found)

pub told_there : (script : Script) (ops : List Op) (e : Entry) (line : Line) → IsEntryTold script ops e → line_numbered e.at.line.0 (lines_of script) ≡ Some line
    → as_told ops line.command e.event ≡ e.event
told_there script ops e line told found = ap (λ (c : LineCommand). as_told ops c e.event) (sym (command_is script e.at.line.0 line found)) ∙ told.told

-- nothing fits where no line stands
none_asked : (ops : List Op) (lines : List Line) (past : Past) (at : At) (command : Option LineCommand) (e : Event) → command ≡ None → Fits ops lines past at command e → ⊥
none_asked [] lines past at None e none h = h
none_asked (op ∷ ops) lines past at None e none h = h
none_asked ops lines past at (Some command) e none h = none-some command (sym none)

-- an entry whose number no line has does not fit
pub none_fits : (script : Script) (past : Past) (e : Entry) → IsInForm script → line_numbered e.at.line.0 (lines_of script) ≡ None → FitsNext script past e → ⊥
none_fits script past e form none fits =
    let lines = lines_of_lane e.at.lane.0 script in
    let nothing : command_at lines e.at ≡ None = lane_command script e.at form ∙ none_numbered e.at.line.0 (lines_of script) e.at none refl in
    none_asked (due script.log past) lines past e.at (command_at lines e.at) e.event nothing fits.lane

module _ (script : Script) (past : Past) (e : Entry) (command : LineCommand) (here : StandsAt script e.at command) where
  abbrev FitsLane : Type 0
  FitsLane = Fits (due script.log past) (lines_of_lane e.at.lane.0 script) past e.at (Some command) e.event

  pub lane_of : FitsNext script past e → FitsLane
  lane_of fits = subst (λ (c : Option LineCommand). Fits (due script.log past) (lines_of_lane e.at.lane.0 script) past e.at c e.event) here.lane fits.lane

  pub phase_of : FitsNext script past e → (is_merge_fault (Some command) e.event || earlier_phases_answered script.phases e.at past) ≡ true
  phase_of fits = subst (λ (c : Option LineCommand). (is_merge_fault c e.event || earlier_phases_answered script.phases e.at past) ≡ true) here.whole fits.phase

  pub next_of : FitsLane → (is_merge_fault (Some command) e.event || earlier_phases_answered script.phases e.at past) ≡ true → FitsNext script past e
  next_of lane phase = record {
    lane = subst (λ (c : Option LineCommand). Fits (due script.log past) (lines_of_lane e.at.lane.0 script) past e.at c e.event) (sym here.lane) lane;
    phase = subst (λ (c : Option LineCommand). (is_merge_fault c e.event || earlier_phases_answered script.phases e.at past) ≡ true) (sym here.whole) phase;
  }

  -- where an operation is due, the entry fits if it goes on with the replay
  pub replay_next : (left : List Op) → left ≡ due script.log past → (left ≡ [] → ⊥) → as_told left command e.event ≡ e.event
      → (is_merge_fault (Some command) e.event || earlier_phases_answered script.phases e.at past) ≡ true
      → (r : Bool) → ((op : Op) (ops : List Op) → as_told (op ∷ ops) command e.event ≡ e.event → (r ≡ true) ↔ FitsReplay op past e.at (Some command) e.event) → (r ≡ true) ↔ FitsNext script past e
  replay_next [] is some told phase r each = absurd (some refl)
  replay_next (op ∷ ops) is some told phase r each =
      let lines = lines_of_lane e.at.lane.0 script in
      let fits = each op ops told in (
        λ h. next_of (subst (λ (left : List Op). Fits left lines past e.at (Some command) e.event) is (fits.0 h)) phase,
        λ h. fits.1 (subst (λ (left : List Op). Fits left lines past e.at (Some command) e.event) (sym is) (lane_of h)),
      )

  -- where nothing is due, if it fits in its turn
  pub turn_next : (left : List Op) → left ≡ due script.log past → left ≡ [] → (is_merge_fault (Some command) e.event || earlier_phases_answered script.phases e.at past) ≡ true
      → (r : Bool) → (r ≡ true) ↔ FitsTurn (lines_of_lane e.at.lane.0 script) past e.at (Some command) e.event → (r ≡ true) ↔ FitsNext script past e
  turn_next left is none phase r h =
      let lines = lines_of_lane e.at.lane.0 script in
      let nothing : [] ≡ due script.log past = sym none ∙ is in (
        λ k. next_of (subst (λ (ops : List Op). Fits ops lines past e.at (Some command) e.event) nothing (h.0 k)) phase,
        λ k. h.1 (subst (λ (ops : List Op). Fits ops lines past e.at (Some command) e.event) (sym nothing) (lane_of k)),
      )

-- ---- one entry of a text fits

abbrev line_number : ℕ → LineNo
line_number n = record { 0 = n }

-- the entry stands at the script's line of its number, and says what that line does
pub told_fitting : (script : Script) (past : Past) (e : Entry) → IsInForm script → FitsNext script past e → IsEntryTold script (due script.log past) e
told_fitting script past e form fits = by_line (line_numbered e.at.line.0 (lines_of script)) refl
  where
    lines : List Line
    lines = lines_of_lane e.at.lane.0 script

    by_command : (line : Line) → line_numbered e.at.line.0 (lines_of script) ≡ Some line → (c : Option LineCommand) → command_at lines e.at ≡ c → IsEntryTold script (due script.log past) e
    by_command line found None none =
        absurd (none_asked (due script.log past) lines past e.at (command_at lines e.at) e.event none fits.lane)
    by_command line found (Some command) asked =
        let numbered = numbered_is e.at.line.0 (lines_of script) line found in
        let there = stands_there (lines_of script) e.at (λ none. none-some command (sym (lane_command script e.at form ∙ none) ∙ asked)) in
        let place : e.at ≡ line.at = one_place (lines_of script) e.at line.at form.distinct there numbered.there (ap line_number (sym numbered.number)) in
        let own : Some line.command ≡ Some command = sym (stands script e.at line form found place).lane ∙ asked in
        let unprinted = fits_unprinted (due script.log past) lines past e.at (Some command) e.event (subst (λ (c : Option LineCommand). Fits (due script.log past) lines past e.at c e.event) asked fits.lane) in
        let told = told_by (due script.log past) line.command e.event (subst (λ (c : Option LineCommand). Unprinted (due script.log past) c e.event) (sym own) unprinted) in
        record {
          place = place ∙ sym (place_is script e.at.line.0 line found);
          told = ap (λ (c : LineCommand). as_told (due script.log past) c e.event) (command_is script e.at.line.0 line found) ∙ told;
        }

    by_line : (o : Option Line) → line_numbered e.at.line.0 (lines_of script) ≡ o → IsEntryTold script (due script.log past) e
    by_line None none = absurd (none_fits script past e form none fits)
    by_line (Some line) found = by_command line found (command_at lines e.at) refl

abbrev entry : At → Event → Entry
entry at e = record { at = at; event = e }

-- two entries with one text, of which each stands at its line and says what it does, are one
pub one_told : (script : Script) (ops : List Op) (e f : Entry) → EntryIsNarrow e → EntryIsNarrow f → text_of_entry e ≡ text_of_entry f
    → IsEntryTold script ops e → IsEntryTold script ops f → e ≡ f
one_told script ops e f p q text told other =
    let same = same_text_of_entry e f (narrow_fits e p) (narrow_fits f q) text in
    let number : e.at.line.0 ≡ f.at.line.0 = ap (λ (l : _). l.0) same.line in
    let place : e.at ≡ f.at = told.place ∙ ap (place_told script) number ∙ sym other.place in
    let alike : e.event ≡ f.event =
    sym told.told
    ∙ told_alike ops (command_told script e.at.line.0) e.event f.event same.event
    ∙ ap (λ (n : ℕ). as_told ops (command_told script n) f.event) number
    ∙ other.told in
    ap (λ (a : At). entry a e.event) place ∙ ap (entry f.at) alike

-- an entry that fits and one that says what its line does are one, if they have one text
pub one_fitting : (script : Script) (past : Past) (e f : Entry) → IsInForm script → EntryIsNarrow e → EntryIsNarrow f → text_of_entry e ≡ text_of_entry f
    → FitsNext script past e → IsEntryTold script (due script.log past) f → e ≡ f
one_fitting script past e f form p q text fits told = one_told script (due script.log past) e f p q text (told_fitting script past e form fits) told
