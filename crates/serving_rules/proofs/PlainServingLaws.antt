-- A history that serves a script serves it plainly.
use Rattle.std.proofs.Common.{◌≡◌, ◌≤◌, ◌+◌, ◌||◌, ◌&&◌, ◌==◌, ℕ, Bool, true, false, true≢false, not, List, [], ◌∷◌, ◌++◌, reverse, Option, Some, None, if◌then◌else◌, refl, sym, ap, subst, ◌∙◌, arith, inl, inr}
use Rattle.std.specs.Prelude.{◌⊎◌, nat_le}
use Rattle.std.specs.List.{list_all, flat_map}
use Rattle.std.proofs.lemmas.Bool.{false≢true, and_from, and_parts, or_right, eq-eqb}
use Rattle.std.proofs.lemmas.Bool.Decides.{nat_tests}
use Rattle.std.proofs.lemmas.List.Folds.{list_all-append}
use Rattle.nrt_base.specs.declared.numbers.At.{At}
use Rattle.nrt_base.specs.declared.numbers.LaneNo.{LaneNo}
use Rattle.nrt_base.specs.declared.numbers.NodeNo.{NodeNo}
use Rattle.nrt_base.specs.declared.numbers.TicketNo.{TicketNo}
use Rattle.documents.specs.declared.operation.Op.{Op}
use Rattle.history_rules.specs.declared.cause.Cause.{Cause}
use Rattle.history_rules.specs.declared.cause.Cause.TheVariants.{Nothing, NamesSpent, TooManySegments, DiskFault}
use Rattle.history_rules.specs.declared.cause.FaultKind.{FaultKind}
use Rattle.history_rules.specs.declared.entry.Event.{Event}
use Rattle.history_rules.specs.declared.entry.Event.TheVariants.{Accepted, Publishing, Published, Copying, Switched, Copied, Settling, Settled, Opened, Asking, Answered, Closed, Committing, Committed, Crashed, Reopened, Promoted, Merging, Drained, Files as Listed, Planned, Fault as Met, Refused}
use Rattle.history_rules.specs.declared.entry.Entry.{Entry}
use Rattle.history_rules.specs.declared.entry.History.{History}
use Rattle.history_rules.specs.Nodes.{Past}
use Rattle.history_rules.specs.Lines.{same_at, is_reply, is_answered, last_of_line, before_start}
use Rattle.history_rules.specs.Points.{cut_has_put}
use Rattle.history_rules.specs.Started.{is_copy}
use Rattle.history_tables.proofs.RowLemmas.{same_at_is}
use Rattle.script_serving.specs.declared.script.Line.{Line}
use Rattle.script_serving.specs.declared.script.LineCommand.{LineCommand}
use Rattle.script_serving.specs.declared.script.LineCommand.TheVariants.{Put, Delete, Drop, Publish, Copy, Settle, Search, Open, Ask, Close, Commit, Crash, Reopen, Promote, Merge, Drain, Files, Fault}
use Rattle.script_serving.specs.declared.script.Phase.{Phase}
use Rattle.script_serving.specs.declared.script.Script.{Script}
use Rattle.script_serving.specs.Form.{is_command, IsInForm}
use Rattle.script_serving.specs.Lines.{lines_of_phase, lines_under, lines_of_lane, command_at, earlier_answered}
use Rattle.script_serving.specs.Refusals.{refusal, put_publishes, may_be_full, may_be_refused}
use Rattle.script_serving.specs.Replays.{due}
use Rattle.script_serving.specs.Serves.{Begins, First, Follows, Suits, SuitsFault, FitsTurn, FitsReplay, Fits, is_newest_at, is_merge_fault, ServesLanes, Serves}
use Rattle.script_serving.proofs.ServingLemmas.{known_line}
use Rattle.serving_rules.specs.PlainServing.{if_own, StartsBy, HasStarted, WorksBy, IsAtWork, EndsBy, HasEnded, published_count, is_left_open, KeepsLanes, PlainlyServes}
use Rattle.serving_rules.proofs.ReplayLemmas.{at_itself, told, served_replays}

-- ---- how far a line is

own_is : (b : Bool) (X Y : Type 0) → b ≡ true → X → if_own b X Y
own_is true X Y e x = x
own_is false X Y e x = absurd (true≢false (sym e))

other_is : (b : Bool) (X Y : Type 0) → b ≡ false → Y → if_own b X Y
other_is true X Y e y = absurd (true≢false e)
other_is false X Y e y = y

-- one entry of the line more
abbrev add : At → Event → Past → Past
add at x past = record { at = at; event = x } ∷ past

-- nothing stands there of the line but faults
record Fresh (at : At) (past : Past) : Type 0 where
  last : last_of_line at past ≡ None
  answered : is_answered at past ≡ false

-- the line has started, and has no reply
record Working (command : LineCommand) (at : At) (past : Past) : Type 0 where
  newest : Event
  last : last_of_line at past ≡ Some newest
  answered : is_answered at past ≡ false
  work : IsAtWork command at past
  begun : is_copy newest ≡ true → HasStarted command at past

-- the line has its reply
record Over (log : Bool) (command : LineCommand) (at : At) (past : Past) : Type 0 where
  newest : Event
  last : last_of_line at past ≡ Some newest
  answered : is_answered at past ≡ true
  ended : HasEnded log command at past

abbrev Stands : Bool → LineCommand → At → Past → Type 0
Stands log command at past = Fresh at past ⊎ (Working command at past ⊎ Over log command at past)

-- the line has started by an entry of its own
started_by : (log : Bool) (command : LineCommand) (at : At) (past : Past) (x : Event) → same_at at at ≡ true → last_of_line at (add at x past) ≡ Some x
    → is_answered at (add at x past) ≡ false → StartsBy command at past x (HasStarted command at past)
    → WorksBy command at past x (HasStarted command at past) (IsAtWork command at past) → Stands log command at (add at x past)
started_by log command at past x same last answered starts works =
    inr (inl (record { newest = x; last = last; answered = answered; work = own_is (same_at at at) _ _ same works; begun = λ copies. own_is (same_at at at) _ _ same starts }))

-- the line has ended by an entry of its own
ended_by : (log : Bool) (command : LineCommand) (at : At) (past : Past) (x : Event) → same_at at at ≡ true → last_of_line at (add at x past) ≡ Some x
    → is_answered at (add at x past) ≡ true → EndsBy log command at past x (IsAtWork command at past) (HasEnded log command at past) → Stands log command at (add at x past)
ended_by log command at past x same last answered ends = inr (inr (record { newest = x; last = last; answered = answered; ended = own_is (same_at at at) _ _ same ends }))

-- ---- the first entry

is_zero : (t : TicketNo) → t.0 ≡ 0 → not (t.0 == 0) ≡ false
is_zero t e = rw (eq-eqb t.0 0 e) refl

is_some_ticket : (size : ℕ) (n : NodeNo) (t u : TicketNo) → is_command size (Open n t) ≡ true → u ≡ t → not (u.0 == 0) ≡ true
is_some_ticket size n t u right e = subst (λ (x : TicketNo). not (x.0 == 0) ≡ true) (sym e) (grind (arith, nat_tests, right))

begins : (size : ℕ) (log : Bool) (command : LineCommand) (at : At) (past : Past) (x : Event) → same_at at at ≡ true → is_command size command ≡ true → Fresh at past
    → refusal command at.lane.0 past ≡ None → Begins command past x → Stands log command at (add at x past)
begins size log Publish at past Publishing same right fresh free h =
    started_by log Publish at past Publishing same (rw same refl) fresh.answered (tt, free, fresh.last) (tt, free, fresh.last)
begins size log (Copy n) at past (Copying m v) same right fresh free h =
    started_by log (Copy n) at past (Copying m v) same (rw same refl) fresh.answered (h, free, fresh.last) (h, free, fresh.last)
begins size log Settle at past (Settling v) same right fresh free h =
    started_by log Settle at past (Settling v) same (rw same refl) fresh.answered (tt, free, fresh.last) (tt, free, fresh.last)
begins size log (Search n query) at past (Opened m t v) same right fresh free h =
    started_by log (Search n query) at past (Opened m t v) same (rw same refl) (rw (is_zero t h.1) fresh.answered) (h, free, fresh.last) (h, free, fresh.last)
begins size log (Ask t query) at past (Asking m u v) same right fresh free h =
    started_by log (Ask t query) at past (Asking m u v) same (rw same refl) fresh.answered (h, free, fresh.last) (h, free, fresh.last)
begins size log (Commit n) at past (Committing m v) same right fresh free h =
    started_by log (Commit n) at past (Committing m v) same (rw same refl) fresh.answered (h, free, fresh.last) (h, free, fresh.last)
begins size log (Put doc) at past (Accepted seq op) same right fresh free h =
    ended_by log (Put doc) at past (Accepted seq op) same (rw same refl) (rw same refl) (inl (h, free, fresh.last))
begins size log (Delete key) at past (Accepted seq op) same right fresh free h =
    ended_by log (Delete key) at past (Accepted seq op) same (rw same refl) (rw same refl) (inl (h, free, fresh.last))
begins size log (Drop word) at past (Accepted seq op) same right fresh free h =
    ended_by log (Drop word) at past (Accepted seq op) same (rw same refl) (rw same refl) (inl (h, free, fresh.last))
begins size log (Open n t) at past (Opened m u v) same right fresh free h =
    ended_by log (Open n t) at past (Opened m u v) same (rw same refl) (rw (is_some_ticket size n t u right h.1, same) refl) (inl (h, free, fresh.last))
begins size log (Close t) at past (Closed m u) same right fresh free h =
    ended_by log (Close t) at past (Closed m u) same (rw same refl) (rw same refl) (inl (h, free, fresh.last))
begins size log (Crash n pick) at past (Crashed m) same right fresh free h =
    ended_by log (Crash n pick) at past (Crashed m) same (rw same refl) (rw same refl) (inl (h, free, fresh.last))
begins size log (Reopen n) at past (Reopened m v) same right fresh free h =
    ended_by log (Reopen n) at past (Reopened m v) same (rw same refl) (rw same refl) (inl (h, free, fresh.last))
begins size log (Promote n force) at past (Promoted m g f v) same right fresh free h =
    ended_by log (Promote n force) at past (Promoted m g f v) same (rw same refl) (rw same refl) (inl (h, free, fresh.last))
begins size log (Merge factor) at past (Merging seg) same right fresh free h =
    ended_by log (Merge factor) at past (Merging seg) same (rw same refl) (rw same refl) (inl (tt, free, fresh.last))
begins size log (Drain most) at past (Drained done bound) same right fresh free h =
    ended_by log (Drain most) at past (Drained done bound) same (rw same refl) (rw same refl) (inl (h, free, fresh.last))
begins size log (Files n) at past (Listed m names) same right fresh free h =
    ended_by log (Files n) at past (Listed m names) same (rw same refl) (rw same refl) (inl (h, free, fresh.last))
begins size log (Fault n plan) at past (Planned m p) same right fresh free h =
    ended_by log (Fault n plan) at past (Planned m p) same (rw same refl) (rw same refl) (inl (h, free, fresh.last))
begins size log command at past x same right fresh free h = absurd h

puts_step : (has_put : Bool) (x : Event) (k l : ℕ) → k ≤ l → elim x [ Published g w ↦ if has_put then k + 1 else k | _ ↦ k ] ≤ elim x [ Published g v ↦ l + 1 | _ ↦ l ]
puts_step true (Published g w) k l few = omega (arith, few)
puts_step false (Published g w) k l few = omega (arith, few)
puts_step has_put x k l few = few

-- no more publishes had a put than there were
puts_few : (past : Past) → put_publishes past ≤ published_count past
puts_few [] = omega arith
puts_few (e ∷ past) = puts_step (cut_has_put (before_start e.at past)) e.event (put_publishes past) (published_count past) (puts_few past)

full : (past : Past) → (cut_has_put past && may_be_full past) ≡ true → (cut_has_put past && nat_le 256 (published_count past)) ≡ true
full past h =
    let both = and_parts (cut_has_put past) (may_be_full past) h in
    let many : nat_le 256 (put_publishes past) ≡ true = (and_parts (nat_le 256 (put_publishes past)) _ both.1).0 in
    let few = puts_few past in
    and_from (cut_has_put past) (nat_le 256 (published_count past)) both.0 (grind (arith, nat_tests, many, few))

left_open : (command : LineCommand) (at : At) (past : Past) (cause : Cause) → may_be_refused command at past cause ≡ true → is_left_open command at past cause ≡ true
left_open Publish at past Nothing h = h
left_open Publish at past TooManySegments h = full past h
left_open (Merge factor) at past Nothing h = h
left_open (Merge factor) at past NamesSpent h = h
left_open (Reopen n) at past DiskFault h = h
left_open command at past cause h = absurd (false≢true h)

first : (size : ℕ) (log : Bool) (command : LineCommand) (at : At) (past : Past) (x : Event) (o : Option Cause) → same_at at at ≡ true → is_command size command ≡ true → Fresh at past
    → refusal command at.lane.0 past ≡ o → First command at past o x → Stands log command at (add at x past)
first size log command at past x (Some cause) same right fresh is h =
    subst (λ (e : Event). Stands log command at (add at e past)) (sym h)
    (ended_by log command at past (Refused cause) same (rw same refl) (rw same refl) (inl (inl is, fresh.last)))
first size log command at past (Refused cause) None same right fresh is h =
    ended_by log command at past (Refused cause) same (rw same refl) (rw same refl) (inl (inr (is, left_open command at past cause h), fresh.last))
first size log command at past x None same right fresh is h = begins size log command at past x same right fresh is h

-- ---- a further one

follows : (log : Bool) (command : LineCommand) (at : At) (past : Past) (last x : Event) → same_at at at ≡ true → is_answered at past ≡ false → IsAtWork command at past
    → (is_copy last ≡ true → HasStarted command at past) → Follows command last x → Stands log command at (add at x past)
follows log command at past last (Refused cause) same waits work begun h =
    ended_by log command at past (Refused cause) same (rw same refl) (rw same refl) (inr (h, work))
follows log Publish at past last (Published g v) same waits work begun h =
    ended_by log Publish at past (Published g v) same (rw same refl) (rw same refl) (inr (tt, work))
follows log (Copy n) at past (Copying k w) (Switched m v) same waits work begun h =
    inr (inl (record { newest = Switched m v; last = rw same refl; answered = waits; work = own_is (same_at at at) _ _ same (h, begun refl); begun = λ copies. absurd (false≢true copies) }))
follows log (Copy n) at past last (Copied m v) same waits work begun h =
    ended_by log (Copy n) at past (Copied m v) same (rw same refl) (rw same refl) (inr (h, work))
follows log Settle at past last (Switched m v) same waits work begun h =
    inr (inl (record { newest = Switched m v; last = rw same refl; answered = waits; work = own_is (same_at at at) _ _ same work; begun = λ copies. absurd (false≢true copies) }))
follows log Settle at past last (Settled v) same waits work begun h =
    ended_by log Settle at past (Settled v) same (rw same refl) (rw same refl) (inr (tt, work))
follows log (Search n query) at past last (Answered m t v q answer) same waits work begun h =
    ended_by log (Search n query) at past (Answered m t v q answer) same (rw same refl) (rw same refl) (inr (h, work))
follows log (Ask t query) at past last (Answered m u v q answer) same waits work begun h =
    ended_by log (Ask t query) at past (Answered m u v q answer) same (rw same refl) (rw same refl) (inr (h, work))
follows log (Commit n) at past last (Committed m v) same waits work begun h =
    ended_by log (Commit n) at past (Committed m v) same (rw same refl) (rw same refl) (inr (h, work))
follows log command at past last x same waits work begun h = absurd h

-- ---- a fault

over_fault : (log : Bool) (command : LineCommand) (lines : List Line) (at : At) (past : Past) (n : NodeNo) (kind : FaultKind) → same_at at at ≡ true → Over log command at past
    → SuitsFault command lines at past → Stands log command at (add at (Met n kind) past)
over_fault log (Merge factor) lines at past n kind same o h =
    inr (inr (record { newest = o.newest; last = rw same o.last; answered = o.answered; ended = own_is (same_at at at) _ _ same o.ended }))
over_fault log command lines at past n kind same o h = absurd (true≢false (sym o.answered ∙ h.0))

fault : (log : Bool) (command : LineCommand) (lines : List Line) (at : At) (past : Past) (n : NodeNo) (kind : FaultKind) → same_at at at ≡ true → Stands log command at past
    → SuitsFault command lines at past → Stands log command at (add at (Met n kind) past)
fault log command lines at past n kind same (inl fresh) h = inl (record { last = rw same fresh.last; answered = fresh.answered })
fault log command lines at past n kind same (inr (inl w)) h =
    inr (inl (record { newest = w.newest; last = rw same w.last; answered = w.answered; work = own_is (same_at at at) _ _ same w.work; begun = λ copies. own_is (same_at at at) _ _ same (w.begun copies) }))
fault log command lines at past n kind same (inr (inr o)) h = over_fault log command lines at past n kind same o h

-- ---- an entry of the line, whatever it is

suits : (size : ℕ) (log : Bool) (command : LineCommand) (at : At) (past : Past) (x : Event) → same_at at at ≡ true → is_command size command ≡ true → Stands log command at past
    → Suits command at past (last_of_line at past) x → Stands log command at (add at x past)
suits size log command at past x same right (inl fresh) h =
    first size log command at past x (refusal command at.lane.0 past) same right fresh refl (subst (λ (o : Option Event). Suits command at past o x) fresh.last h)
suits size log command at past x same right (inr (inl w)) h =
    follows log command at past w.newest x same w.answered w.work w.begun (subst (λ (o : Option Event). Suits command at past o x) w.last h).1
suits size log command at past x same right (inr (inr o)) h =
    absurd (true≢false (sym o.answered ∙ (subst (λ (l : Option Event). Suits command at past l x) o.last h).0))

turn : (size : ℕ) (log : Bool) (command : LineCommand) (lines : List Line) (at : At) (past : Past) (x : Event) → same_at at at ≡ true → is_command size command ≡ true
    → Stands log command at past → FitsTurn lines past at (Some command) x → Stands log command at (add at x past)
turn size log command lines at past (Met n kind) same right stands h = fault log command lines at past n kind same stands h
turn size log command lines at past x same right stands h = suits size log command at past x same right stands h.0

replay : (log : Bool) (command : LineCommand) (at : At) (past : Past) (op : Op) (x : Event) → same_at at at ≡ true → log ≡ true → is_answered at past ≡ true → Stands log command at past
    → FitsReplay op past at (Some command) x → Stands log command at (add at x past)
replay log (Promote n force) at past op (Accepted seq again) same on answered (inl fresh) h = absurd (true≢false (sym answered ∙ fresh.answered))
replay log (Promote n force) at past op (Accepted seq again) same on answered (inr (inl w)) h = absurd (true≢false (sym answered ∙ w.answered))
replay log (Promote n force) at past op (Accepted seq again) same on answered (inr (inr o)) h =
    ended_by log (Promote n force) at past (Accepted seq again) same (rw same refl) (rw same refl) (on, o.ended)
replay log command at past op x same on answered stands h = absurd h

-- ---- an entry of another line

quiet : (b c old : Bool) → c ≡ false → ((b && c) || old) ≡ old
quiet true c old e = ap (λ (x : Bool). x || old) e
quiet false c old e = refl

elsewhere : (log : Bool) (command : LineCommand) (at : At) (past : Past) (e : Entry) → same_at e.at at ≡ false → Stands log command at past → Stands log command at (e ∷ past)
elsewhere log command at past e other (inl fresh) =
    inl (record { last = rw other fresh.last; answered = quiet (is_reply e.event) (same_at e.at at) (is_answered at past) other ∙ fresh.answered })
elsewhere log command at past e other (inr (inl w)) =
    inr (inl (record {
      newest = w.newest;
      last = rw other w.last;
      answered = quiet (is_reply e.event) (same_at e.at at) (is_answered at past) other ∙ w.answered;
      work = other_is (same_at e.at at) _ _ other w.work;
      begun = λ copies. other_is (same_at e.at at) _ _ other (w.begun copies);
    }))
elsewhere log command at past e other (inr (inr o)) =
    inr (inr (record {
      newest = o.newest;
      last = rw other o.last;
      answered = quiet (is_reply e.event) (same_at e.at at) (is_answered at past) other ∙ o.answered;
      ended = other_is (same_at e.at at) _ _ other o.ended;
    }))

-- ---- while operations are due the newest entry is a reply

replies_due : (log : Bool) (past : Past) (at : At) (x : Event) (op : Op) (ops : List Op) → (due log past ≡ op ∷ ops → is_reply x ≡ true) → due log (add at x past) ≡ op ∷ ops → is_reply x ≡ true
replies_due log past at (Accepted seq again) op ops before is = refl
replies_due log past at (Promoted m g f v) op ops before is = refl
replies_due log past at x op ops before is = before is

newest_answered : (script : Script) (past : Past) (op : Op) (ops : List Op) → ServesLanes script past → due script.log past ≡ op ∷ ops → (x : At) → is_newest_at x past ≡ true → is_answered x past ≡ true
newest_answered script [] op ops serves is x here = absurd (false≢true here)
newest_answered script (e ∷ past) op ops serves is x here =
    rw (replies_due script.log past e.at e.event op ops before is, here) refl
  where
    before : due script.log past ≡ op ∷ ops → is_reply e.event ≡ true
    before left =
        let lines = lines_of_lane e.at.lane.0 script in
        let fits : FitsReplay op past e.at (command_at lines e.at) e.event = subst (λ (o : List Op). Fits o lines past e.at (command_at lines e.at) e.event) left serves.0 in
        ap is_reply (told op past e.at (command_at lines e.at) e.event fits).1

log_on : (log : Bool) (past : Past) (op : Op) (ops : List Op) → due log past ≡ op ∷ ops → log ≡ true
log_on true past op ops is = refl
log_on false past op ops is = absurd cc

-- ---- how far a line is behind all entries

module _ (script : Script) (at : At) (command : LineCommand) (right : is_command script.nodes command ≡ true) (known : command_at (lines_of_lane at.lane.0 script) at ≡ Some command) where
  stands_here : (past : Past) (x : Event) (ops : List Op) → ServesLanes script past → Stands script.log command at past → due script.log past ≡ ops
      → Fits ops (lines_of_lane at.lane.0 script) past at (Some command) x → Stands script.log command at (add at x past)
  stands_here past x [] serves stands is fits =
      turn script.nodes script.log command (lines_of_lane at.lane.0 script) at past x (at_itself at at refl) right stands fits
  stands_here past x (op ∷ ops) serves stands is fits =
      replay script.log command at past op x (at_itself at at refl) (log_on script.log past op ops is)
      (newest_answered script past op ops serves is at (told op past at (Some command) x fits).2) stands fits

  stands : (past : Past) → ServesLanes script past → Stands script.log command at past
  stands [] serves = inl (record { last = refl; answered = refl })
  stands (e ∷ past) serves = by (same_at e.at at) refl (stands past serves.1)
    where
      by : (b : Bool) → same_at e.at at ≡ b → Stands script.log command at past → Stands script.log command at (e ∷ past)
      by false other before = elsewhere script.log command at past e other before
      by true here before =
          let is : e.at ≡ at = same_at_is e.at at here in
          let fits : Fits (due script.log past) (lines_of_lane at.lane.0 script) past at (command_at (lines_of_lane at.lane.0 script) at) e.event =
          subst (λ (a : At). Fits (due script.log past) (lines_of_lane a.lane.0 script) past a (command_at (lines_of_lane a.lane.0 script) a) e.event) is serves.0 in
          subst (λ (a : At). Stands script.log command at (add a e.event past)) (sym is)
          (stands_here past e.event (due script.log past) serves.1 before refl
          (subst (λ (c : Option LineCommand). Fits (due script.log past) (lines_of_lane at.lane.0 script) past at c e.event) known fits))

-- a line that has its reply has its entries
whole : (log : Bool) (command : LineCommand) (at : At) (past : Past) → Stands log command at past → is_answered at past ≡ true → HasEnded log command at past
whole log command at past (inl fresh) answered = absurd (true≢false (sym answered ∙ fresh.answered))
whole log command at past (inr (inl w)) answered = absurd (true≢false (sym answered ∙ w.answered))
whole log command at past (inr (inr o)) answered = o.ended

-- ---- what all lines of a script have, those of a lane have

under_lane : (p : Line → Bool) (lane : ℕ) (lanes : List (LaneNo × List Line)) → list_all p (flat_map (λ (l : LaneNo × List Line). l.1) lanes) ≡ true → list_all p (lines_under lane lanes) ≡ true
under_lane p lane [] all = refl
under_lane p lane (l ∷ lanes) all =
    let both = and_parts (list_all p l.1) (list_all p (flat_map (λ (m : LaneNo × List Line). m.1) lanes)) (sym (list_all-append p l.1 (flat_map (λ (m : LaneNo × List Line). m.1) lanes)) ∙ all) in
    by (l.0.0 == lane) both.0 (under_lane p lane lanes both.1)
  where
    by : (b : Bool) → list_all p l.1 ≡ true → list_all p (lines_under lane lanes) ≡ true → list_all p (if b then l.1 ++ lines_under lane lanes else lines_under lane lanes) ≡ true
    by true one rest = list_all-append p l.1 (lines_under lane lanes) ∙ and_from (list_all p l.1) (list_all p (lines_under lane lanes)) one rest
    by false one rest = rest

of_lane : (p : Line → Bool) (lane : ℕ) (phases : List Phase) → list_all p (flat_map lines_of_phase phases) ≡ true
    → list_all p (flat_map (λ (phase : Phase). lines_under lane phase.lanes) phases) ≡ true
of_lane p lane [] all = refl
of_lane p lane (phase ∷ phases) all =
    let both = and_parts (list_all p (lines_of_phase phase)) (list_all p (flat_map lines_of_phase phases)) (sym (list_all-append p (lines_of_phase phase) (flat_map lines_of_phase phases)) ∙ all) in
    list_all-append p (lines_under lane phase.lanes) (flat_map (λ (q : Phase). lines_under lane q.lanes) phases)
    ∙ and_from (list_all p (lines_under lane phase.lanes)) (list_all p (flat_map (λ (q : Phase). lines_under lane q.lanes) phases)) (under_lane p lane phase.lanes both.0) (of_lane p lane phases both.1)

-- the line at a place
record LineAt (p : Line → Bool) (at : At) (command : LineCommand) : Type 0 where
  line : Line
  at_is : line.at ≡ at
  asks : line.command ≡ command
  has : p line ≡ true

line_at : (p : Line → Bool) (lines : List Line) (at : At) (command : LineCommand) → list_all p lines ≡ true → command_at lines at ≡ Some command → LineAt p at command
line_at p [] at command all is = absurd cc
line_at p (line ∷ lines) at command all is =
    let both = and_parts (p line) (list_all p lines) all in
    by (same_at line.at at) refl is both.0 (line_at p lines at command both.1)
  where
    some : (a b : LineCommand) → Some a ≡ Some b → a ≡ b
    some a b e = cc

    by : (b : Bool) → same_at line.at at ≡ b → (if b then Some line.command else command_at lines at) ≡ Some command → p line ≡ true
        → (command_at lines at ≡ Some command → LineAt p at command) → LineAt p at command
    by true here e has rest = record { line = line; at_is = same_at_is line.at at here; asks = some line.command command e; has = has }
    by false other e has rest = rest e

-- ---- the order of lanes

earlier_more : (lines : List Line) (at : At) (e : Entry) (past : Past) → earlier_answered lines at past ≡ true → earlier_answered lines at (e ∷ past) ≡ true
earlier_more [] at e past h = refl
earlier_more (line ∷ lines) at e past h = by (earlier_more lines at e past) (same_at line.at at) h
  where
    by : (earlier_answered lines at past ≡ true → earlier_answered lines at (e ∷ past) ≡ true) → (b : Bool)
        → (if b then true else is_answered line.at past && earlier_answered lines at past) ≡ true
        → (if b then true else is_answered line.at (e ∷ past) && earlier_answered lines at (e ∷ past)) ≡ true
    by more true h = refl
    by more false h =
        let both = and_parts (is_answered line.at past) (earlier_answered lines at past) h in
        and_from (is_answered line.at (e ∷ past)) (earlier_answered lines at (e ∷ past)) (or_right (is_reply e.event && same_at e.at line.at) (is_answered line.at past) both.0) (more both.1)

order_of : (lines : List Line) (past : Past) (at : At) (command : LineCommand) (x : Event) → FitsTurn lines past at (Some command) x
    → (is_merge_fault (Some command) x || earlier_answered lines at past) ≡ true
order_of lines past at (Merge factor) (Met n kind) h = refl
order_of lines past at command (Met n kind) h = or_right (is_merge_fault (Some command) (Met n kind)) (earlier_answered lines at past) h.1
order_of lines past at command x h = or_right (is_merge_fault (Some command) x) (earlier_answered lines at past) h.1

turn_order : (lines : List Line) (past : Past) (at : At) (command : Option LineCommand) (x : Event) → FitsTurn lines past at command x
    → (is_merge_fault command x || earlier_answered lines at past) ≡ true
turn_order lines past at None x h = absurd h
turn_order lines past at (Some command) x h = order_of lines past at command x h

promotes : (op : Op) (past : Past) (at : At) (command : Option LineCommand) (x y : Event) → FitsReplay op past at command x → is_merge_fault command y ≡ false
promotes op past at (Some (Promote n force)) (Accepted seq again) y h = refl
promotes op past at command x y h = absurd h

-- behind an entry of the same line, which is a promotion's
replay_order : (script : Script) (past : Past) (at : At) (x : Event) (op : Op) → KeepsLanes script past → FitsReplay op past at (command_at (lines_of_lane at.lane.0 script) at) x
    → is_newest_at at past ≡ true → earlier_answered (lines_of_lane at.lane.0 script) at past ≡ true
replay_order script [] at x op keeps fits here = absurd (false≢true here)
replay_order script (e ∷ past) at x op keeps fits here =
    let lines = lines_of_lane at.lane.0 script in
    let before : (is_merge_fault (command_at lines at) e.event || earlier_answered lines at past) ≡ true =
    subst (λ (a : At). (is_merge_fault (command_at (lines_of_lane a.lane.0 script) a) e.event || earlier_answered (lines_of_lane a.lane.0 script) a past) ≡ true) (same_at_is e.at at here) keeps.1 in
    earlier_more lines at e past (ap (λ (b : Bool). b || earlier_answered lines at past) (sym (promotes op (e ∷ past) at (command_at lines at) x e.event fits)) ∙ before)

keeps_lanes : (script : Script) (past : Past) → ServesLanes script past → KeepsLanes script past
keeps_lanes script [] serves = tt
keeps_lanes script (e ∷ past) serves =
    let rest : KeepsLanes script past = keeps_lanes script past serves.1 in
    (known_line script e past serves, order (due script.log past) rest serves.0, rest)
  where
    order : (ops : List Op) → KeepsLanes script past → Fits ops (lines_of_lane e.at.lane.0 script) past e.at (command_at (lines_of_lane e.at.lane.0 script) e.at) e.event
        → (is_merge_fault (command_at (lines_of_lane e.at.lane.0 script) e.at) e.event || earlier_answered (lines_of_lane e.at.lane.0 script) e.at past) ≡ true
    order [] rest fits = turn_order (lines_of_lane e.at.lane.0 script) past e.at (command_at (lines_of_lane e.at.lane.0 script) e.at) e.event fits
    order (op ∷ ops) rest fits =
        or_right (is_merge_fault (command_at (lines_of_lane e.at.lane.0 script) e.at) e.event) (earlier_answered (lines_of_lane e.at.lane.0 script) e.at past)
        (replay_order script past e.at e.event op rest fits (told op past e.at (command_at (lines_of_lane e.at.lane.0 script) e.at) e.event fits).2)

-- ---- all together

pub serves_plainly : (script : Script) (h : History) → IsInForm script → Serves script h → PlainlyServes script h
serves_plainly script h form serves =
    record {
      nodes = serves.nodes;
      lines = lines;
      lanes = keeps_lanes script (reverse h.entries) serves.lanes;
      phases = serves.phases;
      replays = λ log. served_replays script h log serves;
    }
  where
    lines : (at : At) (command : LineCommand) → command_at (lines_of_lane at.lane.0 script) at ≡ Some command → HasEnded script.log command at (reverse h.entries)
    lines at command known =
        let past = reverse h.entries in
        let own = lines_of_lane at.lane.0 script in
        let formed = line_at (λ (l : Line). is_command script.nodes l.command) own at command (of_lane (λ (l : Line). is_command script.nodes l.command) at.lane.0 script.phases form.commands) known in
        let right : is_command script.nodes command ≡ true = subst (λ (c : LineCommand). is_command script.nodes c ≡ true) formed.asks formed.has in
        let replied = line_at (λ (l : Line). is_answered l.at past) own at command (of_lane (λ (l : Line). is_answered l.at past) at.lane.0 script.phases serves.answered) known in
        let answered : is_answered at past ≡ true = subst (λ (a : At). is_answered a past ≡ true) replied.at_is replied.has in
        whole script.log command at past (stands script at command right known past serves.lanes) answered
