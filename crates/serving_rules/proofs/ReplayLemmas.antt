-- A history that serves a script with a log goes on behind a promotion with the replay.
use Rattle.std.proofs.Common.{◌≡◌, ℕ, if◌then◌else◌, Bool, true, ◌&&◌, List, [], ◌∷◌, ◌++◌, reverse, drop, length, Option, Some, None, refl, sym, ap, subst, ◌∙◌, true≢false, append_assoc}
use Rattle.std.proofs.Math.Bool.{or-true}
use Rattle.std.proofs.lemmas.Bool.{eq-eqb}
use Rattle.std.proofs.lemmas.List.{reverse-append}
use Rattle.nrt_base.specs.declared.numbers.At.{At}
use Rattle.nrt_base.specs.declared.numbers.Gen.{Gen}
use Rattle.nrt_base.specs.declared.numbers.NodeNo.{NodeNo}
use Rattle.nrt_base.specs.declared.numbers.Version.{Version}
use Rattle.documents.specs.declared.operation.Op.{Op}
use Rattle.history_rules.specs.declared.entry.Entry.{Entry}
use Rattle.history_rules.specs.declared.entry.Event.{Event}
use Rattle.history_rules.specs.declared.entry.Event.TheVariants.{Accepted, Promoted}
use Rattle.history_rules.specs.declared.entry.History.{History}
use Rattle.history_rules.specs.Lines.{same_at, is_reply, is_answered, last_of_line}
use Rattle.history_rules.specs.Nodes.{Past}
use Rattle.history_tables.proofs.RowLemmas.{same_at_is}
use Rattle.script_serving.specs.declared.script.Line.{Line}
use Rattle.script_serving.specs.declared.script.LineCommand.{LineCommand}
use Rattle.script_serving.specs.declared.script.LineCommand.TheVariants.{Promote}
use Rattle.script_serving.specs.declared.script.Script.{Script}
use Rattle.script_serving.specs.Lines.{lines_of_lane, command_at}
use Rattle.script_serving.specs.Replays.{logged_operations, replay_due, due}
use Rattle.history_rules.specs.Points.{operations_at}
use Rattle.script_serving.specs.Serves.{FitsTurn, FitsReplay, Fits, is_newest_at, Suits, ServesLanes, Serves}
use Rattle.serving_rules.specs.Replay.{IsAcceptance, IsAcceptanceOf, BeginsWithReplay, operations_lacking, IsReplayed}

-- ---- lines

pub at_itself : (a b : At) → a ≡ b → same_at a b ≡ true
at_itself a b e = rw (eq-eqb a.lane.0 b.lane.0 (ap (λ (x : At). x.lane.0) e), eq-eqb a.line.0 b.line.0 (ap (λ (x : At). x.line.0) e)) refl

-- ---- what a served history shows, entry by entry

abbrev FitsHere : Script → Past → Entry → Type 0
FitsHere script past e = Fits (replay_due past) (lines_of_lane e.at.lane.0 script) past e.at (command_at (lines_of_lane e.at.lane.0 script) e.at) e.event

-- each entry behind a place is one that its line asks for, or the next of a replay, and at the end none is due
abbrev GoesOn : Script → Past → List Entry → Type 0
GoesOn script past [] = replay_due past ≡ []
GoesOn script past (e ∷ after) = FitsHere script past e × GoesOn script (e ∷ past) after

pub serves_back : (script : Script) (front past : Past) → ServesLanes script (front ++ past) → ServesLanes script past
serves_back script [] past serves = serves
serves_back script (e ∷ front) past serves = serves_back script front past serves.1

-- the entries newest first, behind the past
pub turned : (e : Entry) (after : List Entry) (past : Past) → reverse (e ∷ after) ++ past ≡ reverse after ++ e ∷ past
turned e after past = ap (λ (es : List Entry). es ++ past) (reverse-append (e ∷ []) after) ∙ append_assoc (reverse after) (e ∷ []) past

goes_on : (script : Script) → script.log ≡ true → (past : Past) (after : List Entry) → ServesLanes script (reverse after ++ past) → replay_due (reverse after ++ past) ≡ [] → GoesOn script past after
goes_on script log past [] serves none = none
goes_on script log past (e ∷ after) serves none =
    let serves_rest : ServesLanes script (reverse after ++ e ∷ past) = subst (ServesLanes script) (turned e after past) serves in
    let here : ServesLanes script (e ∷ past) = serves_back script (reverse after) (e ∷ past) serves_rest in
    let lines = lines_of_lane e.at.lane.0 script in (
      subst (λ (b : Bool). Fits (due b past) lines past e.at (command_at lines e.at) e.event) log here.0,
      goes_on script log (e ∷ past) after serves_rest (subst (λ (es : Past). replay_due es ≡ []) (turned e after past) none),
    )

-- ---- behind a promotion

-- what is logged behind an entry with this event
abbrev logged_by : Event → Bool → List Op → List Op
logged_by event answered ops = elim event [ Accepted seq op ↦ if answered then ops else ops ++ op ∷ [] | _ ↦ ops ]

-- what is due behind an entry with this event
abbrev due_by : Event → (here past : Past) → List Op → List Op
due_by event here past left = elim event [
  | Promoted m g f v ↦ drop (length (operations_at here v.0)) (logged_operations past)
  | Accepted seq op ↦ drop 1 left
  | _ ↦ left
]

pub told : (op : Op) (past : Past) (at : At) (command : Option LineCommand) (event : Event) → FitsReplay op past at command event → (seq : ℕ) × (event ≡ Accepted seq op) × (is_newest_at at past ≡ true)
told op past at (Some (Promote n force)) (Accepted seq again) h = (seq, ap (Accepted seq) h.0, h.1)
told op past at command event h = absurd h

-- a line that has its reply accepts nothing in its turn
no_more : (lines : List Line) (past : Past) (at : At) (command : Option LineCommand) (event last : Event) → is_answered at past ≡ true → last_of_line at past ≡ Some last → FitsTurn lines past at command event → IsAcceptance event → ⊥
no_more lines past at None (Accepted seq op) last answered is fits acceptance = fits
no_more lines past at (Some command) (Accepted seq op) last answered is fits acceptance =
    let suits : Suits command at past (Some last) (Accepted seq op) = subst (λ (o : Option Event). Suits command at past o (Accepted seq op)) is fits.0 in true≢false (sym answered ∙ suits.0)
no_more lines past at command event last answered is fits acceptance = absurd acceptance

-- the newest entry is of the line of the promotion, which has its reply
record IsBehind (at : At) (past : Past) : Type 0 where
  newest : (x : At) → is_newest_at x past ≡ true → at ≡ x
  answered : is_answered at past ≡ true
  last : Event
  last_is : last_of_line at past ≡ Some last

accepted_behind : (at : At) (past : Past) (e : Entry) (seq : ℕ) (op : Op) → at ≡ e.at → e.event ≡ Accepted seq op → IsBehind at past → IsBehind at (e ∷ past)
accepted_behind at past e seq op here is behind =
    let same : same_at e.at at ≡ true = at_itself e.at at (sym here) in
    record {
      newest = λ x h. here ∙ same_at_is e.at x h;
      answered = rw behind.answered (or-true (is_reply e.event && same_at e.at at));
      last = Accepted seq op;
      last_is = rw (same, is) refl;
    }

replay_behind : (script : Script) (at : At) (past : Past) (ops : List Op) (after : List Entry) → IsBehind at past → replay_due past ≡ ops → GoesOn script past after → BeginsWithReplay at ops after
replay_behind script at past [] [] behind is goes = tt
replay_behind script at past (op ∷ ops) [] behind is goes = let bad : op ∷ ops ≡ [] = sym is ∙ goes in cc
replay_behind script at past [] (e ∷ after) behind is goes = λ accepts.
    let here : at ≡ e.at = sym (same_at_is e.at at accepts.0) in
    let lines = lines_of_lane e.at.lane.0 script in
    let fits : FitsTurn lines past e.at (command_at lines e.at) e.event = subst (λ (ops : List Op). Fits ops lines past e.at (command_at lines e.at) e.event) is goes.0 in
    no_more lines past e.at (command_at lines e.at) e.event behind.last (subst (λ (x : At). is_answered x past ≡ true) here behind.answered) (subst (λ (x : At). last_of_line x past ≡ Some behind.last) here behind.last_is) fits accepts.1
replay_behind script at past (op ∷ ops) (e ∷ after) behind is goes =
    let lines = lines_of_lane e.at.lane.0 script in
    let fits : FitsReplay op past e.at (command_at lines e.at) e.event = subst (λ (ops : List Op). Fits ops lines past e.at (command_at lines e.at) e.event) is goes.0 in
    let t = told op past e.at (command_at lines e.at) e.event fits in
    let here : at ≡ e.at = behind.newest e.at t.2 in
    let left : replay_due (e ∷ past) ≡ ops = ap (λ (event : Event). due_by event (e ∷ past) past (replay_due past)) t.1 ∙ ap (drop 1) is in
    ((at_itself e.at at (sym here), subst (IsAcceptanceOf op) (sym t.1) refl), replay_behind script at (e ∷ past) ops after (accepted_behind at past e t.0 op here t.1 behind) left goes.1)

promoted_behind : (past : Past) (p : Entry) (m : NodeNo) (g : Gen) (f v : Version) → p.event ≡ Promoted m g f v → IsBehind p.at (p ∷ past)
promoted_behind past p m g f v is =
    let same : same_at p.at p.at ≡ true = at_itself p.at p.at refl in
    record {
      newest = λ x h. same_at_is p.at x h;
      answered = rw (is, same) refl;
      last = Promoted m g f v;
      last_is = rw (same, is) refl;
    }

pub served_replays : (script : Script) (h : History) → script.log ≡ true → Serves script h → IsReplayed h
served_replays script h log serves before after p m g f v is promoted =
    let past = p ∷ reverse before in
    let whole : reverse h.entries ≡ reverse after ++ past = ap reverse is ∙ (reverse-append before (p ∷ after) ∙ turned p after (reverse before)) in
    let none : replay_due (reverse h.entries) ≡ [] = rw log at serves.replayed in
    let left : replay_due past ≡ operations_lacking past v = ap (λ (event : Event). due_by event past (reverse before) (replay_due (reverse before))) promoted
    ∙ ap (drop (length (operations_at past v.0))) (sym (ap (λ (event : Event). logged_by event (is_answered p.at (reverse before)) (logged_operations (reverse before))) promoted)) in
    replay_behind script p.at past (operations_lacking past v) after (promoted_behind (reverse before) p m g f v promoted) left
    (goes_on script log past after (subst (ServesLanes script) whole serves.lanes) (subst (λ (es : Past). replay_due es ≡ []) whole none))
