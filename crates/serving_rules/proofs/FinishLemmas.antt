-- A line that has started, and was not harmed, ends as it should or is cancelled; and faults that are answered were met.
use Rattle.std.proofs.Common.{◌≡◌, ◌&&◌, ◌||◌, ◌==◌, ◌++◌, ◌^◌, ℕ, Bool, true, false, true≢false, not, List, [], ◌∷◌, reverse, Option, Some, None, if◌then◌else◌, refl, sym, ap, subst, ◌∙◌, inl, inr}
use Rattle.std.specs.Prelude.{◌⊎◌, nat_le, nat_lt, is_some, is_none}
use Rattle.std.specs.Option.{option_or}
use Rattle.std.proofs.lemmas.Bool.{false≢true, and_parts}
use Rattle.std.proofs.lemmas.List.{reverse-append}
use Rattle.std.proofs.lemmas.Option.{none-some}
use Rattle.nrt_base.specs.declared.numbers.At.{At}
use Rattle.nrt_base.specs.declared.numbers.NodeNo.{NodeNo}
use Rattle.nrt_base.specs.declared.numbers.Version.{Version}
use Rattle.documents.specs.declared.operation.Op.{Op}
use Rattle.history_rules.specs.declared.cause.Cause.{Cause}
use Rattle.history_rules.specs.declared.cause.Cause.TheVariants.{Down, Primary, NoPrimary, PrimaryUp, ForceLow, ForceHigh, NoTicket, Lost, Cancelled, LinkFault, Damaged, DiskFault, Nothing, Up, NameUsed, NamesSpent, TooManySegments}
use Rattle.history_rules.specs.declared.cause.FaultKind.{FaultKind}
use Rattle.history_rules.specs.declared.cause.FaultKind.TheVariants.{Link, Damage}
use Rattle.history_rules.specs.declared.entry.Entry.{Entry}
use Rattle.history_rules.specs.declared.entry.Event.{Event}
use Rattle.history_rules.specs.declared.entry.Event.TheVariants.{Accepted, Publishing, Published, Copying, Switched, Copied, Settling, Settled, Opened, Asking, Answered, Closed, Committing, Committed, Crashed, Reopened, Promoted, Merging, Drained, Files as Listed, Planned, Fault as Met, Refused}
use Rattle.history_rules.specs.declared.entry.History.{History}
use Rattle.history_rules.specs.Nodes.{Past, primary_of, is_at, is_running, newest_version}
use Rattle.history_rules.specs.Lines.{same_at, is_start, is_reply, is_answered, last_of_line, start_entry, before_start}
use Rattle.history_rules.specs.Started.{StartedSearch, is_node_of, is_source_of}
use Rattle.history_rules.specs.Commits.{starts_commit}
use Rattle.history_rules.specs.Faults.{has_fault, has_met_fault, same_kind, is_of_disk}
use Rattle.history_rules.specs.Points.{cut_has_put}
use Rattle.history_rules.specs.Tickets.{has_ticket}
use Rattle.history_rules.specs.Rules.{MayRefuse, MayRefuseLine}
use Rattle.history_rules.specs.Legal.{KeepsRule, IsLegalPast, IsLegal}
use Rattle.history_rules.proofs.AnyLemmas.{any_more}
use Rattle.history_rules.proofs.PastLemmas.{legal_before}
use Rattle.history_tables.proofs.RowLemmas.{same_at_is}
use Rattle.script_serving.specs.declared.script.Line.{Line}
use Rattle.script_serving.specs.declared.script.Force.{Force}
use Rattle.script_serving.specs.declared.script.LineCommand.{LineCommand}
use Rattle.script_serving.specs.declared.script.LineCommand.TheVariants.{Put, Delete, Drop, Publish, Copy, Settle, Search, Open, Ask, Close, Commit, Crash, Reopen, Promote, Merge, Drain, Files, Fault}
use Rattle.script_serving.specs.declared.script.Script.{Script}
use Rattle.script_serving.specs.Lines.{lines_of_lane, command_at}
use Rattle.script_serving.specs.Refusals.{when, without_primary, without_node, forced_version, names_are_spent, refusal, may_be_refused}
use Rattle.script_serving.specs.Replays.{due}
use Rattle.script_serving.specs.Serves.{Begins, First, Follows, Suits, FitsTurn, FitsReplay, Fits, ServesLanes, Serves}
use Rattle.serving_rules.specs.Finishing.{IsFinish, IsUnharmed, IsSuperseded, UnharmedLinesFinish, is_fault_cause, FaultsWereMet}
use Rattle.serving_rules.proofs.ReplayLemmas.{told, serves_back, turned}

-- ---- the start of a line

skipped : {X : Type 0} (c : Bool) (x y : X) → (if c && false then x else y) ≡ y
skipped true x y = refl
skipped false x y = refl

-- a line without an entry but faults has not started
unstarted : (at : At) (past : Past) → last_of_line at past ≡ None → start_entry at past ≡ None
unstarted at [] e = refl
unstarted at (x ∷ past) e = by x.event (same_at x.at at) e (unstarted at past)
  where
    by : (event : Event) (b : Bool) → (if b then elim event [ Met n kind ↦ last_of_line at past | y ↦ Some y ] else last_of_line at past) ≡ None
        → (last_of_line at past ≡ None → start_entry at past ≡ None) → (if is_start event && b then Some event else start_entry at past) ≡ None
    by (Met n kind) true e rest = rest e
    by (Met n kind) false e rest = rest e
    by event true e rest = let bad : Some event ≡ None = e in cc
    by event false e rest = skipped (is_start event) (Some event) (start_entry at past) ∙ rest e

-- a promotion has no start entry, whatever its line had before
first_promotes : (n : NodeNo) (force : Force) (at : At) (past : Past) (o : Option Cause) (x : Event) → First (Promote n force) at past o x → is_start x ≡ false
first_promotes n force at past (Some cause) x h = ap is_start h
first_promotes n force at past None (Refused cause) h = refl
first_promotes n force at past None (Promoted m g f v) h = refl
first_promotes n force at past None x h = absurd h

suits_promotion : (n : NodeNo) (force : Force) (at : At) (past : Past) (o : Option Event) (x : Event) → Suits (Promote n force) at past o x → is_start x ≡ false
suits_promotion n force at past None x h = first_promotes n force at past (refusal (Promote n force) at.lane.0 past) x h
suits_promotion n force at past (Some last) (Refused cause) h = refl
suits_promotion n force at past (Some last) x h = absurd h.1

fits_promotion : (n : NodeNo) (force : Force) (lines : List Line) (at : At) (past : Past) (ops : List Op) (x : Event) → Fits ops lines past at (Some (Promote n force)) x → is_start x ≡ false
fits_promotion n force lines at past [] (Met m kind) h = refl
fits_promotion n force lines at past [] x h = suits_promotion n force at past (last_of_line at past) x h.0
fits_promotion n force lines at past (op ∷ ops) (Accepted seq again) h = refl
fits_promotion n force lines at past (op ∷ ops) x h = absurd h

never_started : (script : Script) (at : At) (n : NodeNo) (force : Force) → command_at (lines_of_lane at.lane.0 script) at ≡ Some (Promote n force) → (past : Past) → ServesLanes script past
    → start_entry at past ≡ None
never_started script at n force known [] serves = refl
never_started script at n force known (e ∷ past) serves = by (never_started script at n force known past serves.1) (same_at e.at at) refl
  where
    by : start_entry at past ≡ None → (b : Bool) → same_at e.at at ≡ b → (if is_start e.event && b then Some e.event else start_entry at past) ≡ None
    by before false other = skipped (is_start e.event) (Some e.event) (start_entry at past) ∙ before
    by before true here =
        let is : e.at ≡ at = same_at_is e.at at here in
        let fits : Fits (due script.log past) (lines_of_lane at.lane.0 script) past at (command_at (lines_of_lane at.lane.0 script) at) e.event =
        subst (λ (a : At). Fits (due script.log past) (lines_of_lane a.lane.0 script) past a (command_at (lines_of_lane a.lane.0 script) a) e.event) is serves.0 in
        let none : is_start e.event ≡ false =
        fits_promotion n force (lines_of_lane at.lane.0 script) at past (due script.log past) e.event
        (subst (λ (c : Option LineCommand). Fits (due script.log past) (lines_of_lane at.lane.0 script) past at c e.event) known fits) in
        ap (λ (s : Bool). if s && true then Some e.event else start_entry at past) none ∙ before

-- ---- what follows the start

-- the entry follows one that stands in its line
record HasFollowed (x : Event) : Type 0 where
  command : LineCommand
  last : Event
  follows : Follows command last x

suits_follow : (command : LineCommand) (at : At) (past : Past) (x begun : Event) (o : Option Event) → last_of_line at past ≡ o → start_entry at past ≡ Some begun → Suits command at past o x → HasFollowed x
suits_follow command at past x begun None is started suits = absurd (none-some begun (sym (unstarted at past is) ∙ started))
suits_follow command at past x begun (Some last) is started suits = record { command = command; last = last; follows = suits.1 }

turn_follows : (lines : List Line) (at : At) (past : Past) (command : Option LineCommand) (x begun : Event) → is_reply x ≡ true → start_entry at past ≡ Some begun → FitsTurn lines past at command x
    → HasFollowed x
turn_follows lines at past None x begun reply started fits = absurd fits
turn_follows lines at past (Some command) (Met n kind) begun reply started fits = absurd (false≢true reply)
turn_follows lines at past (Some command) x begun reply started fits = suits_follow command at past x begun (last_of_line at past) refl started fits.0

replay_promotes : (op : Op) (past : Past) (at : At) (command : Option LineCommand) (x : Event) → FitsReplay op past at command x → (n : NodeNo) × (force : Force) × (command ≡ Some (Promote n force))
replay_promotes op past at (Some (Promote n force)) (Accepted seq again) fits = (n, force, refl)
replay_promotes op past at command x fits = absurd fits

followed : (script : Script) (past : Past) (r : Entry) (begun : Event) → ServesLanes script (r ∷ past) → is_reply r.event ≡ true → start_entry r.at past ≡ Some begun → HasFollowed r.event
followed script past r begun serves reply started = by (due script.log past) serves.0
  where
    by : (ops : List Op) → Fits ops (lines_of_lane r.at.lane.0 script) past r.at (command_at (lines_of_lane r.at.lane.0 script) r.at) r.event → HasFollowed r.event
    by [] fits = turn_follows (lines_of_lane r.at.lane.0 script) r.at past (command_at (lines_of_lane r.at.lane.0 script) r.at) r.event begun reply started fits
    by (op ∷ ops) fits =
        let promotes = replay_promotes op past r.at (command_at (lines_of_lane r.at.lane.0 script) r.at) r.event fits in
        absurd (none-some begun (sym (never_started script r.at promotes.0 promotes.1 promotes.2 past serves.1) ∙ started))

-- the kinds of entries that follow the start of a line
abbrev is_late : Event → Bool
is_late (Published g v) = true
is_late (Switched n v) = true
is_late (Copied n v) = true
is_late (Settled v) = true
is_late (Answered n t v query answer) = true
is_late (Committed n v) = true
is_late (Refused cause) = true
is_late e = false

late_of : (command : LineCommand) (last x : Event) → Follows command last x → is_late x ≡ true
late_of command last (Refused cause) h = refl
late_of Publish last (Published g v) h = refl
late_of (Copy n) (Copying k w) (Switched m v) h = refl
late_of (Copy n) last (Copied m v) h = refl
late_of Settle last (Switched m v) h = refl
late_of Settle last (Settled v) h = refl
late_of (Search n query) last (Answered m t v q answer) h = refl
late_of (Ask t query) last (Answered m u v q answer) h = refl
late_of (Commit n) last (Committed m v) h = refl
late_of command last x h = absurd h

-- ---- faults of a line

any_fault : (node : ℕ → Bool) (kind : FaultKind → Bool) (at : At) (past : Past) → has_fault node kind at past ≡ true → has_met_fault at past ≡ true
any_fault node kind at past some =
    any_more (λ (e : Entry). elim e.event [ Met m met ↦ node m.0 && kind met | _ ↦ false ] && same_at e.at at)
    (λ (e : Entry). elim e.event [ Met m met ↦ true && true | _ ↦ false ] && same_at e.at at) (λ e h. by e.event (same_at e.at at) h) past some
  where
    by : (event : Event) (b : Bool) → (elim event [ Met m met ↦ node m.0 && kind met | _ ↦ false ] && b) ≡ true → (elim event [ Met m met ↦ true && true | _ ↦ false ] && b) ≡ true
    by (Met m met) b h = (and_parts (node m.0 && kind met) b h).1
    by event b h = absurd (false≢true h)

same_event : (a b : Event) → Some a ≡ Some b → a ≡ b
same_event a b e = cc

module _ (size : ℕ) (at : At) (past : Past) (begun : Event) where
  -- a line that a fault broke off has met one
  broken_by_fault : (cause : Cause) → is_fault_cause cause ≡ true → MayRefuse size past at (before_start at past) begun cause → has_met_fault at past ≡ true
  broken_by_fault LinkFault fault may = any_fault (is_node_of size (before_start at past) begun) (same_kind Link) at past (may.met refl)
  broken_by_fault (Damaged name) fault may =
      any_fault (λ n. is_node_of size (before_start at past) begun n && not (has_fault (λ m. m == n) (same_kind Link) at past)) (same_kind Damage) at past (may.met refl).0
  broken_by_fault DiskFault fault may =
      any_fault (λ n. is_node_of size (before_start at past) begun n || is_source_of (before_start at past) begun n) is_of_disk at past (may.met refl).0
  broken_by_fault cause fault may = absurd (false≢true fault)

  module _ (unharmed : IsUnharmed at past begun) where
    -- a line that was not harmed is broken off by a later job alone
    broken_off : (cause : Cause) → MayRefuse size past at (before_start at past) begun cause → IsSuperseded size at past begun (Refused cause)
    broken_off (Cancelled v) may = may.met refl
    broken_off Lost may = absurd (true≢false (may.lost ∙ unharmed.alive))
    broken_off LinkFault may = absurd (true≢false (sym (broken_by_fault LinkFault refl may) ∙ unharmed.spared))
    broken_off (Damaged name) may = absurd (true≢false (sym (broken_by_fault (Damaged name) refl may) ∙ unharmed.spared))
    broken_off DiskFault may = absurd (true≢false (sym (broken_by_fault DiskFault refl may) ∙ unharmed.spared))
    broken_off cause may = absurd (may.met refl)

    ends_well : (x : Event) → is_late x ≡ true → is_reply x ≡ true → KeepsRule size past at x → start_entry at past ≡ Some begun → IsFinish begun x ⊎ IsSuperseded size at past begun x
    ends_well (Published g v) late reply rule started = inl (same_event begun Publishing (sym started ∙ rule.started))
    ends_well (Copied n v) late reply rule started = inl (same_event begun (Copying n v) (sym started ∙ rule.started))
    ends_well (Settled v) late reply rule started = inl (same_event begun (Settling v) (sym started ∙ rule.started))
    ends_well (Answered n t v query answer) late reply rule started = inl (subst (StartedSearch n t v) started rule.started)
    ends_well (Committed n v) late reply rule started = inl (ap (starts_commit n.0) (sym started) ∙ rule.started)
    ends_well (Refused cause) late reply rule started =
        inr (broken_off cause (subst (λ (o : Option Event). MayRefuseLine size past at o cause) started rule))
    ends_well (Switched n v) late reply rule started = absurd (false≢true reply)
    ends_well x late reply rule started = absurd (false≢true late)

-- what stands before and at an entry of a history
whole_past : (h : History) (before after : List Entry) (r : Entry) → h.entries ≡ before ++ r ∷ after → reverse h.entries ≡ reverse after ++ r ∷ reverse before
whole_past h before after r is = ap reverse is ∙ (reverse-append before (r ∷ after) ∙ turned r after (reverse before))

serves_at : (script : Script) (h : History) (before after : List Entry) (r : Entry) → h.entries ≡ before ++ r ∷ after → Serves script h → ServesLanes script (r ∷ reverse before)
serves_at script h before after r is serves = serves_back script (reverse after) (r ∷ reverse before) (subst (ServesLanes script) (whole_past h before after r is) serves.lanes)

legal_at : (h : History) (before after : List Entry) (r : Entry) → h.entries ≡ before ++ r ∷ after → IsLegal h → IsLegalPast h.nodes (r ∷ reverse before)
legal_at h before after r is legal = legal_before h.nodes (reverse after) (r ∷ reverse before) (subst (IsLegalPast h.nodes) (whole_past h before after r is) legal)

pub unharmed_lines_finish : (script : Script) (h : History) → IsLegal h → Serves script h → UnharmedLinesFinish h
unharmed_lines_finish script h legal serves before after r begun is reply started unharmed =
    let past = reverse before in
    let f = followed script past r begun (serves_at script h before after r is serves) reply started in
    ends_well h.nodes r.at past begun unharmed r.event (late_of f.command f.last r.event f.follows) reply (legal_at h before after r is legal).0 started

-- ---- a line that has not started is refused for no fault that it did not meet

-- a switch begins no line
abbrev is_switch : Event → Bool
is_switch (Switched n v) = true
is_switch e = false

begins_apart : (command : LineCommand) (past : Past) (x : Event) → Begins command past x → is_switch x ≡ false
begins_apart (Put doc) past (Accepted seq op) h = refl
begins_apart (Delete key) past (Accepted seq op) h = refl
begins_apart (Drop word) past (Accepted seq op) h = refl
begins_apart Publish past Publishing h = refl
begins_apart (Copy n) past (Copying m v) h = refl
begins_apart Settle past (Settling v) h = refl
begins_apart (Search n query) past (Opened m t v) h = refl
begins_apart (Open n t) past (Opened m u v) h = refl
begins_apart (Ask t query) past (Asking m u v) h = refl
begins_apart (Close t) past (Closed m u) h = refl
begins_apart (Commit n) past (Committing m v) h = refl
begins_apart (Crash n pick) past (Crashed m) h = refl
begins_apart (Reopen n) past (Reopened m v) h = refl
begins_apart (Promote n force) past (Promoted m g f v) h = refl
begins_apart (Merge factor) past (Merging seg) h = refl
begins_apart (Drain most) past (Drained done bound) h = refl
begins_apart (Files n) past (Listed m names) h = refl
begins_apart (Fault n plan) past (Planned m p) h = refl
begins_apart command past x h = absurd h

first_apart : (command : LineCommand) (at : At) (past : Past) (o : Option Cause) (n : NodeNo) (v : Version) → First command at past o (Switched n v) → ⊥
first_apart command at past (Some cause) n v h = false≢true (ap is_reply h)
first_apart command at past None n v h = true≢false (begins_apart command past (Switched n v) h)

suits_apart : (command : LineCommand) (at : At) (past : Past) (o : Option Event) (n : NodeNo) (v : Version) → o ≡ None → Suits command at past o (Switched n v) → ⊥
suits_apart command at past None n v is h = first_apart command at past (refusal command at.lane.0 past) n v h
suits_apart command at past (Some last) n v is h = let bad : Some last ≡ None = is in cc

fits_apart : (ops : List Op) (lines : List Line) (at : At) (past : Past) (command : Option LineCommand) (n : NodeNo) (v : Version) → last_of_line at past ≡ None
    → Fits ops lines past at command (Switched n v) → ⊥
fits_apart [] lines at past None n v is h = h
fits_apart [] lines at past (Some command) n v is h = suits_apart command at past (last_of_line at past) n v is h.0
fits_apart (op ∷ ops) lines at past command n v is h = false≢true (ap is_reply (told op past at command (Switched n v) h).1)

-- a switch or a fault
abbrev is_inner : Event → Bool
is_inner (Met n kind) = true
is_inner (Switched n v) = true
is_inner e = false

-- each other entry starts its line, or answers it
each_kind : (x : Event) → (is_start x || (is_reply x || is_inner x)) ≡ true
each_kind (Opened n t v) = by (t.0 == 0)
  where
    by : (b : Bool) → (b || (not b || false)) ≡ true
    by true = refl
    by false = refl
each_kind x = refl

third : (a b c : Bool) → a ≡ false → b ≡ false → (a || (b || c)) ≡ true → c ≡ true
third true b c e f h = absurd (true≢false e)
third false true c e f h = absurd (true≢false f)
third false false c e f h = h

acts : (x : Event) → is_start x ≡ false → is_reply x ≡ false → is_inner x ≡ true
acts x starts replies = third (is_start x) (is_reply x) (is_inner x) starts replies (each_kind x)

start_parts : (c : Bool) (x : Event) (o : Option Event) → (if c && true then Some x else o) ≡ None → (c ≡ false) × (o ≡ None)
start_parts true x o h = let bad : Some x ≡ None = h in cc
start_parts false x o h = (refl, h)

reply_parts : (c old : Bool) → (c && true || old) ≡ false → (c ≡ false) × (old ≡ false)
reply_parts true old h = absurd (true≢false h)
reply_parts false old h = (refl, h)

reply_elsewhere : (c old : Bool) → (c && false || old) ≡ false → old ≡ false
reply_elsewhere true old h = h
reply_elsewhere false old h = h

-- a line that has neither a start entry nor a reply has no entry but faults
no_entry : (script : Script) (at : At) (past : Past) → ServesLanes script past → start_entry at past ≡ None → is_answered at past ≡ false → last_of_line at past ≡ None
no_entry script at [] serves none waits = refl
no_entry script at (e ∷ past) serves none waits = by (no_entry script at past serves.1) (same_at e.at at) refl none waits
  where
    event_by : (x : Event) → (same_at e.at at ≡ true) → e.event ≡ x → is_start x ≡ false → is_reply x ≡ false → last_of_line at past ≡ None
        → ◌≡◌ {A = Option Event} (elim x [ Met n kind ↦ last_of_line at past | y ↦ Some y ]) None
    event_by (Met n kind) here is starts replies none = none
    event_by (Switched n v) here is starts replies none =
        let fits : Fits (due script.log past) (lines_of_lane at.lane.0 script) past at (command_at (lines_of_lane at.lane.0 script) at) e.event =
        subst (λ (a : At). Fits (due script.log past) (lines_of_lane a.lane.0 script) past a (command_at (lines_of_lane a.lane.0 script) a) e.event) (same_at_is e.at at here) serves.0 in
        absurd (fits_apart (due script.log past) (lines_of_lane at.lane.0 script) at past (command_at (lines_of_lane at.lane.0 script) at) n v none
        (subst (Fits (due script.log past) (lines_of_lane at.lane.0 script) past at (command_at (lines_of_lane at.lane.0 script) at)) is fits))
    event_by x here is starts replies none = absurd (false≢true (acts x starts replies))

    by : (start_entry at past ≡ None → is_answered at past ≡ false → last_of_line at past ≡ None) → (b : Bool) → same_at e.at at ≡ b
        → (if is_start e.event && b then Some e.event else start_entry at past) ≡ None → (is_reply e.event && b || is_answered at past) ≡ false
        → (if b then elim e.event [ Met n kind ↦ last_of_line at past | y ↦ Some y ] else last_of_line at past) ≡ None
    by rest true here none waits =
        let starts = start_parts (is_start e.event) e.event (start_entry at past) none in
        let replies = reply_parts (is_reply e.event) (is_answered at past) waits in
        event_by e.event here refl starts.0 replies.0 (rest starts.1 replies.1)
    by rest false other none waits =
        rest (sym (skipped (is_start e.event) (Some e.event) (start_entry at past)) ∙ none) (reply_elsewhere (is_reply e.event) (is_answered at past) waits)

abbrev is_faulty : Option Cause → Bool
is_faulty None = false
is_faulty (Some cause) = is_fault_cause cause

when_sound : (b : Bool) (cause : Cause) → is_fault_cause cause ≡ false → is_faulty (when b cause) ≡ false
when_sound true cause e = e
when_sound false cause e = refl

or_sound : (a b : Option Cause) → is_faulty a ≡ false → is_faulty b ≡ false → is_faulty (option_or a b) ≡ false
or_sound None b e f = f
or_sound (Some cause) b e f = e

-- no line is refused for a fault by what the history decides
no_primary_sound : (past : Past) → is_faulty (without_primary past) ≡ false
no_primary_sound past = when_sound (is_none (primary_of past)) NoPrimary refl

no_node_sound : (n : ℕ) (past : Past) → is_faulty (without_node n past) ≡ false
no_node_sound n past = when_sound (not (is_running n past)) Down refl

no_ticket_sound : (lane t : ℕ) (past : Past) → is_faulty (when (not (has_ticket lane t past)) NoTicket) ≡ false
no_ticket_sound lane t past = when_sound (not (has_ticket lane t past)) NoTicket refl

refusal_sound : (command : LineCommand) (lane : ℕ) (past : Past) → is_faulty (refusal command lane past) ≡ false
refusal_sound (Put doc) lane past = no_primary_sound past
refusal_sound (Delete key) lane past = no_primary_sound past
refusal_sound (Drop word) lane past = no_primary_sound past
refusal_sound Publish lane past =
    or_sound (without_primary past) (when (cut_has_put past && names_are_spent past) NamesSpent) (no_primary_sound past)
    (when_sound (cut_has_put past && names_are_spent past) NamesSpent refl)
refusal_sound (Copy n) lane past =
    or_sound (without_node n.0 past) (option_or (without_primary past) (when (is_at (primary_of past) n.0) Primary)) (no_node_sound n.0 past)
    (or_sound (without_primary past) (when (is_at (primary_of past) n.0) Primary) (no_primary_sound past) (when_sound (is_at (primary_of past) n.0) Primary refl))
refusal_sound Settle lane past = no_primary_sound past
refusal_sound (Search n query) lane past = no_node_sound n.0 past
refusal_sound (Open n t) lane past =
    or_sound (when (has_ticket lane t.0 past) NameUsed) (without_node n.0 past) (when_sound (has_ticket lane t.0 past) NameUsed refl) (no_node_sound n.0 past)
refusal_sound (Ask t query) lane past = no_ticket_sound lane t.0 past
refusal_sound (Close t) lane past = no_ticket_sound lane t.0 past
refusal_sound (Commit n) lane past = no_node_sound n.0 past
refusal_sound (Crash n pick) lane past = no_node_sound n.0 past
refusal_sound (Reopen n) lane past = when_sound (is_running n.0 past) Up refl
refusal_sound (Promote n force) lane past =
    let up = is_some (primary_of past) in
    let high = nat_le (2 ^ 62) (forced_version force past) in
    let low = nat_lt (forced_version force past) (newest_version past) in
    let newest : Cause = ForceLow (record { 0 = newest_version past }) in
    or_sound (without_node n.0 past) (option_or (when up PrimaryUp) (option_or (when high ForceHigh) (when low newest))) (no_node_sound n.0 past)
    (or_sound (when up PrimaryUp) (option_or (when high ForceHigh) (when low newest)) (when_sound up PrimaryUp refl)
    (or_sound (when high ForceHigh) (when low newest) (when_sound high ForceHigh refl) (when_sound low newest refl)))
refusal_sound (Merge factor) lane past = no_primary_sound past
refusal_sound (Drain most) lane past = refl
refusal_sound (Files n) lane past = no_node_sound n.0 past
refusal_sound (Fault n plan) lane past = refl

-- what the history leaves open is a fault for a reopening alone, which has met it
left_open_met : (command : LineCommand) (at : At) (past : Past) (cause : Cause) → may_be_refused command at past cause ≡ true → is_fault_cause cause ≡ true → has_met_fault at past ≡ true
left_open_met Publish at past Nothing h fault = absurd (false≢true fault)
left_open_met Publish at past TooManySegments h fault = absurd (false≢true fault)
left_open_met (Merge factor) at past Nothing h fault = absurd (false≢true fault)
left_open_met (Merge factor) at past NamesSpent h fault = absurd (false≢true fault)
left_open_met (Reopen n) at past DiskFault h fault = any_fault (λ m. m == n.0) is_of_disk at past h
left_open_met command at past cause h fault = absurd (false≢true h)

same_cause : (a b : Cause) → Refused a ≡ Refused b → a ≡ b
same_cause a b e = cc

first_met : (command : LineCommand) (at : At) (past : Past) (cause : Cause) (o : Option Cause) → refusal command at.lane.0 past ≡ o → is_fault_cause cause ≡ true
    → First command at past o (Refused cause) → has_met_fault at past ≡ true
first_met command at past cause (Some other) is fault h =
    let sound : is_fault_cause other ≡ false = ap is_faulty (sym is) ∙ refusal_sound command at.lane.0 past in
    absurd (true≢false (sym fault ∙ (ap is_fault_cause (same_cause cause other h) ∙ sound)))
first_met command at past cause None is fault h = left_open_met command at past cause h fault

module _ (script : Script) (past : Past) (at : At) (serves : ServesLanes script past) (none : start_entry at past ≡ None) (cause : Cause) (fault : is_fault_cause cause ≡ true) where
  suits_met : (command : LineCommand) (o : Option Event) → last_of_line at past ≡ o → Suits command at past o (Refused cause) → has_met_fault at past ≡ true
  suits_met command None is h = first_met command at past cause (refusal command at.lane.0 past) refl fault h
  suits_met command (Some last) is h = absurd (none-some last (sym (no_entry script at past serves none h.0) ∙ is))

  fits_met : (ops : List Op) (lines : List Line) (command : Option LineCommand) → Fits ops lines past at command (Refused cause) → has_met_fault at past ≡ true
  fits_met [] lines None h = absurd h
  fits_met [] lines (Some command) h = suits_met command (last_of_line at past) refl h.0
  fits_met (op ∷ ops) lines command h = absurd (true≢false (ap is_late (told op past at command (Refused cause) h).1))

pub faults_were_met : (script : Script) (h : History) → IsLegal h → Serves script h → FaultsWereMet h
faults_were_met script h legal serves before after r cause is refused fault = by (start_entry r.at (reverse before)) refl
  where
    past : Past
    past = reverse before

    served : ServesLanes script (r ∷ past)
    served = serves_at script h before after r is serves

    rule : KeepsRule h.nodes past r.at (Refused cause)
    rule = subst (KeepsRule h.nodes past r.at) refused (legal_at h before after r is legal).0

    by : (o : Option Event) → start_entry r.at past ≡ o → has_met_fault r.at past ≡ true
    by None none =
        let lines = lines_of_lane r.at.lane.0 script in
        fits_met script past r.at served.1 none cause fault (due script.log past) lines (command_at lines r.at)
        (subst (Fits (due script.log past) lines past r.at (command_at lines r.at)) refused served.0)
    by (Some begun) started =
        broken_by_fault h.nodes r.at past begun cause fault (subst (λ (o : Option Event). MayRefuseLine h.nodes past r.at o cause) started rule)
