-- A legal history keeps the plain rules.
use Rattle.std.proofs.Common.{◌≡◌, ◌==◌, ◌||◌, ◌&&◌, ℕ, List, [], ◌∷◌, Bool, true, false, true≢false, Option, Some, None, if◌then◌else◌, refl, sym, ap, subst, arith, reverse}
use Rattle.std.specs.Prelude.{nat_lt, not}
use Rattle.std.specs.List.{list_any}
use Rattle.nrt_base.specs.declared.numbers.At.{At}
use Rattle.history_rules.specs.declared.cause.Cause.{Cause}
use Rattle.history_rules.specs.declared.cause.Cause.TheVariants.{Cancelled, LinkFault, Damaged, DiskFault}
use Rattle.history_rules.specs.declared.cause.FaultKind.TheVariants.{Link, Damage}
use Rattle.history_rules.specs.declared.entry.Event.{Event}
use Rattle.history_rules.specs.declared.entry.Event.TheVariants.{Accepted, Publishing, Published, Copying, Switched, Copied, Settling, Settled, Opened, Asking, Answered, Closed, Committing, Committed, Crashed, Reopened, Promoted, Merging, Drained, Files, Planned, Fault, Refused}
use Rattle.history_rules.specs.declared.entry.History.{History}
use Rattle.history_rules.specs.Nodes.{Past, is_at, primary_of}
use Rattle.history_rules.specs.Lines.{same_at, start_entry, before_start, commit_in_flight}
use Rattle.history_rules.specs.Commits.{is_stuck, late_commit, more_by, reopenable_versions, has_committed}
use Rattle.history_rules.specs.Faults.{has_fault, has_damage, same_kind}
use Rattle.history_rules.specs.Legal.{KeepsRule, IsLegalPast, IsLegal}
use Rattle.history_rules.specs.Rules.{StartedCopy, MayBreakOff, MayRefuseLine}
use Rattle.history_rules.specs.Started.{is_node_of}
use Rattle.history_rules.proofs.AnyLemmas.{any_more}
use Rattle.history_rules.specs.Plain.{with_flight, plain_reopenable, was_committed, PlainStarted, PlainStartedCopy, PlainBreakOff, PlainRefuseLine, KeepsPlainRule, IsPlainlyLegalPast, IsPlainlyLegal}

-- a version among the first list is among the second
abbrev Within : ℕ → List ℕ → List ℕ → Type 0
Within v vs ws = list_any (λ w. w == v) vs ≡ true → list_any (λ w. w == v) ws ≡ true

more : (v w : ℕ) (vs ws : List ℕ) → Within v vs ws → Within v (w ∷ vs) (w ∷ ws)
more v w vs ws within = by (w == v)
  where
    by : (b : Bool) → (b || list_any (λ u. u == v) vs) ≡ true → (b || list_any (λ u. u == v) ws) ≡ true
    by true there = refl
    by false there = within there

one_more : (v w : ℕ) (vs ws : List ℕ) → Within v vs ws → Within v vs (w ∷ ws)
one_more v w vs ws within there = by (w == v)
  where
    by : (b : Bool) → (b || list_any (λ u. u == v) ws) ≡ true
    by true = refl
    by false = within there

late_more : (v w : ℕ) (stuck : Bool) (flight : Option At) (vs ws : List ℕ) → Within v vs ws
    → Within v (more_by (if stuck then flight else None) w vs) (with_flight flight w ws)
late_more v w true None vs ws within = within
late_more v w true (Some at) vs ws within = more v w vs ws within
late_more v w false None vs ws within = within
late_more v w false (Some at) vs ws within = one_more v w vs ws within

either : (v : ℕ) (b : Bool) (vs vs' ws ws' : List ℕ) → Within v vs ws → Within v vs' ws' → Within v (if b then vs else vs') (if b then ws else ws')
either v true vs vs' ws ws' one other = one
either v false vs vs' ws ws' one other = other

same : (v : ℕ) (vs : List ℕ) → Within v vs vs
same v vs there = there

late : (n v w : ℕ) (past : Past) → Within v (reopenable_versions n past) (plain_reopenable n past)
    → Within v (more_by (late_commit n past) w (reopenable_versions n past)) (with_flight (commit_in_flight n past) w (plain_reopenable n past))
late n v w past was = late_more v w (is_stuck n past) (commit_in_flight n past) (reopenable_versions n past) (plain_reopenable n past) was

reopens_step : (n v : ℕ) (past : Past) (at : At) (x : Event) → Within v (reopenable_versions n past) (plain_reopenable n past)
    → Within v (reopenable_versions n (record { at = at; event = x } ∷ past)) (plain_reopenable n (record { at = at; event = x } ∷ past))
reopens_step n v past at (Committed m w) was =
    either v (m.0 == n) (w.0 ∷ []) (reopenable_versions n past) (w.0 ∷ []) (plain_reopenable n past) (same v (w.0 ∷ [])) was
reopens_step n v past at (Reopened m w) was =
    either v (m.0 == n) (w.0 ∷ []) (reopenable_versions n past) (w.0 ∷ []) (plain_reopenable n past) (same v (w.0 ∷ [])) was
reopens_step n v past at (Committing m w) was =
    either v (m.0 == n) (w.0 ∷ reopenable_versions n past) (reopenable_versions n past) (w.0 ∷ plain_reopenable n past) (plain_reopenable n past)
    (more v w.0 (reopenable_versions n past) (plain_reopenable n past) was) was
reopens_step n v past at (Published g w) was =
    either v (is_at (primary_of past) n) (more_by (late_commit n past) w.0 (reopenable_versions n past)) (reopenable_versions n past)
    (with_flight (commit_in_flight n past) w.0 (plain_reopenable n past)) (plain_reopenable n past) (late n v w.0 past was) was
reopens_step n v past at (Switched m w) was =
    either v (m.0 == n) (more_by (late_commit n past) w.0 (reopenable_versions n past)) (reopenable_versions n past)
    (with_flight (commit_in_flight n past) w.0 (plain_reopenable n past)) (plain_reopenable n past) (late n v w.0 past was) was
reopens_step n v past at (Promoted m g f w) was =
    either v (m.0 == n) (more_by (late_commit n past) w.0 (reopenable_versions n past)) (reopenable_versions n past)
    (with_flight (commit_in_flight n past) w.0 (plain_reopenable n past)) (plain_reopenable n past) (late n v w.0 past was) was
reopens_step n v past at x was = was

reopens : (n v : ℕ) (past : Past) → Within v (reopenable_versions n past) (plain_reopenable n past)
reopens n v [] there = there
reopens n v (e ∷ past) there = reopens_step n v past e.at e.event (reopens n v past) there

was_step : (n : ℕ) (past : Past) (at : At) (x : Event) → (was_committed n past ≡ true → has_committed n past ≡ true)
    → was_committed n (record { at = at; event = x } ∷ past) ≡ true → has_committed n (record { at = at; event = x } ∷ past) ≡ true
was_step n past at (Committed m w) was there = mine (m.0 == n) (was_committed n past) (has_committed n past) was there
  where
    mine : (b old now : Bool) → (old ≡ true → now ≡ true) → (if b then true else old) ≡ true → (if b then true else now) ≡ true
    mine true old now was there = refl
    mine false old now was there = was there
was_step n past at (Reopened m w) was there = found (m.0 == n) (has_committed n past) (nat_lt 1 w.0) (was there)
  where
    found : (b now more : Bool) → now ≡ true → (if b then now || more else now) ≡ true
    found true now more is = ap (λ (c : Bool). c || more) is
    found false now more is = is
was_step n past at x was there = was there

was_one : (n : ℕ) (past : Past) → was_committed n past ≡ true → has_committed n past ≡ true
was_one n [] none = absurd (true≢false (sym none))
was_one n (e ∷ past) there = was_step n past e.at e.event (was_one n past) there

started : (past start : Past) (n v : ℕ) (begun : Option Event) → StartedCopy past start n v begun → PlainStarted n v begun
started past start n v (Some (Copying m w)) s = (s.0, let is : w.0 ≡ v = s.1 in omega (arith, is))
started past start n v (Some (Settling w)) s = s.0
started past start n v None s = s
started past start n v (Some e) s = s

-- fewer conditions
fewer : (b other d s : Bool) → (((b && other) && d) && s) ≡ true → ((b && d) && s) ≡ true
fewer true true d s there = there
fewer true false d s there = absurd (true≢false (sym there))
fewer false other d s there = there

damaged : (node : ℕ → Bool) (at : At) (past : Past) → has_damage node at past ≡ true → has_fault node (same_kind Damage) at past ≡ true
damaged node at past there = any_more
    (λ x. elim x.event [ Fault k met ↦ (node k.0 && not (has_fault (λ i. i == k.0) (same_kind Link) at past)) && same_kind Damage met | _ ↦ false ] && same_at x.at at)
    (λ x. elim x.event [ Fault k met ↦ node k.0 && same_kind Damage met | _ ↦ false ] && same_at x.at at)
    (λ x met. by_event x.event (same_at x.at at) met) past there
  where
    by_event : (e : Event) (s : Bool) → (elim e [ Fault k met ↦ (node k.0 && not (has_fault (λ i. i == k.0) (same_kind Link) at past)) && same_kind Damage met | _ ↦ false ] && s) ≡ true
        → (elim e [ Fault k met ↦ node k.0 && same_kind Damage met | _ ↦ false ] && s) ≡ true
    by_event (Fault k met) s there = fewer (node k.0) (not (has_fault (λ i. i == k.0) (same_kind Link) at past)) (same_kind Damage met) s there
    by_event e s there = there

breaks : (size : ℕ) (past : Past) (at : At) (start : Past) (begun : Event) (cause : Cause) → MayBreakOff size past at start begun cause → PlainBreakOff size past at start begun cause
breaks size past at start begun (Cancelled v) b = record { point = b.point; above = b.above; beside = b.beside }
breaks size past at start begun LinkFault b = b
breaks size past at start begun (Damaged name) b = damaged (is_node_of size start begun) at past b.0
breaks size past at start begun DiskFault b = b.0
breaks size past at start begun cause b = b

refuses : (size : ℕ) (past : Past) (at : At) (begun : Option Event) (cause : Cause) → MayRefuseLine size past at begun cause → PlainRefuseLine size past at begun cause
refuses size past at None cause r = tt
refuses size past at (Some begun) cause r =
    record { lost = r.lost; met = λ apart. breaks size past at (before_start at past) begun cause (r.met apart); unswitched = r.unswitched }

plain_step : (size : ℕ) (past : Past) (at : At) (e : Event) → KeepsRule size past at e → KeepsPlainRule size past at e
plain_step size past at (Accepted seq op) k = record { running = k.running; next = k.next }
plain_step size past at Publishing k = record { running = k.running; alone = k.alone }
plain_step size past at (Published g v) k = record { started = k.started; survives = k.survives; present = k.present; next = k.next; merged = k.merged }
plain_step size past at (Copying n v) k = record { node = k.node; replica = k.replica; source = k.source; newest = k.newest }
plain_step size past at (Switched n v) k = record {
  node = k.node;
  replica = k.replica;
  made = k.made;
  above = k.above;
  started = started past (before_start at past) n.0 v.0 (start_entry at past) k.started;
  survives = k.survives;
  source = k.source;
}
plain_step size past at (Copied n v) k = record {
  node = k.node;
  started = subst (PlainStartedCopy n.0 v.0) (sym k.started) (refl, omega arith);
  searched = k.searched;
  survives = k.survives;
  source = k.source;
}
plain_step size past at (Settling v) k = record { source = k.source; newest = k.newest }
plain_step size past at (Settled v) k = record { started = k.started; source = k.source; reached = k.reached }
plain_step size past at (Opened n t v) k = record { node = k.node; running = k.running; searched = k.searched; free = k.free }
plain_step size past at (Asking n t v) k = record { node = k.node; held = k.held }
plain_step size past at (Answered n t v query answer) k = record { node = k.node; started = k.started; survives = k.survives; right = k.right }
plain_step size past at (Closed n t) k = record { node = k.node; held = k.held }
plain_step size past at (Committing n v) k = record { node = k.node; running = k.running; searched = k.searched; alone = k.alone }
plain_step size past at (Committed n v) k = record { node = k.node; started = k.started; survives = k.survives; searched = k.searched }
plain_step size past at (Crashed n) k = record { node = k.node; running = k.running }
plain_step size past at (Reopened n v) k = record { node = k.node; down = k.down; found = reopens n.0 v.0 past k.found }
plain_step size past at (Promoted n g f v) k =
    record { node = k.node; running = k.running; vacant = k.vacant; next = k.next; high = k.high; low = k.low; above = k.above }
plain_step size past at (Merging seg) k = record { running = k.running; next = k.next }
plain_step size past at (Drained done most) k = tt
plain_step size past at (Files n names) k = record {
  node = k.node;
  running = k.running;
  ordered = k.ordered;
  committed = λ was. k.committed (was_one n.0 past was);
  searched = k.searched;
  held = k.held;
}
plain_step size past at (Planned n plan) k = tt
plain_step size past at (Fault n kind) k = record { node = k.node; planned = k.planned }
plain_step size past at (Refused cause) k = refuses size past at (start_entry at past) cause k

plain_past : (size : ℕ) (past : Past) → IsLegalPast size past → IsPlainlyLegalPast size past
plain_past size [] legal = tt
plain_past size (e ∷ past) legal = (plain_step size past e.at e.event legal.0, plain_past size past legal.1)

pub plainly_legal : (h : History) → IsLegal h → IsPlainlyLegal h
plainly_legal h legal = plain_past h.nodes (reverse h.entries) legal
