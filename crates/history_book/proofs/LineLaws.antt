-- What is remembered of a line is how it started; the publish in flight.
use Rattle.std.proofs.Common.{◌≡◌, ◌≢◌, ◌&&◌, ◌==◌, ℕ, Bool, true, false, true≢false, [], ◌∷◌, Some, None, Option, length, refl, ap, ◌∙◌, sym, subst, arith, if◌then◌else◌}
use Rattle.std.specs.Prelude.{not, ⊤}
use Rattle.history_rules.specs.Tickets.{Ticket, is_ticket, ticket_by, last_opened}
use Rattle.std.proofs.lemmas.Bool.{eqb-true}
use Rattle.std.proofs.lemmas.Bool.Decides.{nat_tests}
use Rattle.std.proofs.Math.Bool.{and-true, and-false}
use Rattle.nrt_base.specs.declared.numbers.At.{At}
use Rattle.history_rules.specs.declared.entry.Entry.{Entry}
use Rattle.history_rules.specs.declared.entry.Event.{Event}
use Rattle.history_rules.specs.declared.entry.Event.TheVariants.{Publishing, Published, Copying, Switched, Settling, Opened, Closed, Asking, Committing, Crashed, Promoted, Fault}
use Rattle.history_rules.specs.Nodes.{Past, IsNode, is_at, primary_of, primary_by, primary_crashes, newest_version, crashes}
use Rattle.history_rules.specs.Lines.{same_at, is_start, start_entry, before_start, without_at, publish_in_flight}
use Rattle.history_rules.specs.Points.{accepted_at_start, operations_of_generation, published_in_generation}
use Rattle.history_rules.specs.Legal.{KeepsRule, IsLegalPast}
use Rattle.history_tables.specs.declared.lines.BegunLine.{BegunLine}
use Rattle.history_tables.specs.declared.lines.Start.TheVariants.{Publishing as PublishStart, Searching as SearchStart}
use Rattle.history_tables.specs.Begins.{begin, begun_by, open_line}
use Rattle.history_rules.specs.Steps.{newest_by}
use Rattle.history_book.specs.Steps.{primary_crashes_by, publish_by, published_by}
use Rattle.history_book.specs.Turns.{StartsOnce, InTurn, AreInTurn}
use Rattle.history_book.specs.Laws.{Started, Flying}
use Rattle.history_tables.proofs.RowLemmas.{by_test, same_at_self, same_at_is}

begun_started : (past : Past) (entry : Option Event) (start : Past) (b : BegunLine) (e : Event) (old : Option BegunLine)
    → begun_by e (length past) (length (operations_of_generation past)) old ≡ Some b
    → (old ≡ Some b → Started entry start b)
    → Started (if is_start e then Some e else entry) (if is_start e then past else start) b
begun_started past entry start b (Switched n v) old is was = was is
begun_started past entry start b (Fault n k) old is was = was is
begun_started past entry start b Publishing old is was = subst (λ (x : BegunLine). Started (Some Publishing) past x) (some_is _ _ is) (record { entry = refl; before = refl; accepted = refl })
  where
    some_is : (x y : BegunLine) → Some x ≡ Some y → x ≡ y
    some_is x y e = cc
begun_started past entry start b (Copying n v) old is was = subst (λ (x : BegunLine). Started (Some (Copying n v)) past x) (some_is _ _ is) (record { entry = refl; before = refl; accepted = refl })
  where
    some_is : (x y : BegunLine) → Some x ≡ Some y → x ≡ y
    some_is x y e = cc
begun_started past entry start b (Settling v) old is was = subst (λ (x : BegunLine). Started (Some (Settling v)) past x) (some_is _ _ is) (record { entry = refl; before = refl; accepted = refl })
  where
    some_is : (x y : BegunLine) → Some x ≡ Some y → x ≡ y
    some_is x y e = cc
begun_started past entry start b (Asking n t v) old is was = subst (λ (x : BegunLine). Started (Some (Asking n t v)) past x) (some_is _ _ is) (record { entry = refl; before = refl; accepted = refl })
  where
    some_is : (x y : BegunLine) → Some x ≡ Some y → x ≡ y
    some_is x y e = cc
begun_started past entry start b (Committing n v) old is was = subst (λ (x : BegunLine). Started (Some (Committing n v)) past x) (some_is _ _ is) (record { entry = refl; before = refl; accepted = refl })
  where
    some_is : (x y : BegunLine) → Some x ≡ Some y → x ≡ y
    some_is x y e = cc
begun_started past entry start b (Opened n t v) old is was = opens (t.0 == 0) refl is
  where
    some_is : (x y : BegunLine) → Some x ≡ Some y → x ≡ y
    some_is x y e = cc

    opens : (s : Bool) → (t.0 == 0) ≡ s → begin (if s then Some (SearchStart n v) else None) (length past) (length (operations_of_generation past)) ≡ Some b
        → Started (if s then Some (Opened n t v) else entry) (if s then past else start) b
    opens true z got =
        let zero : t.0 ≡ 0 = eqb-true t.0 0 z in
        subst (λ (x : BegunLine). Started (Some (Opened n t v)) past x) (some_is _ _ got)
        (record { entry = λ i. Some (Opened n (record { 0 = zero i }) v); before = refl; accepted = refl })
    opens false z got = absurd (cc)
begun_started past entry start b e old is was = absurd (cc)

started_step : (at : At) (past : Past) (e : Entry) (b : BegunLine) (s : Bool) → (open_line at past ≡ Some b → Started (start_entry at past) (before_start at past) b)
    → (if s then begun_by e.event (length past) (length (operations_of_generation past)) (open_line at past) else open_line at past) ≡ Some b
    → Started (if is_start e.event && s then Some e.event else start_entry at past) (if is_start e.event && s then past else before_start at past) b
started_step at past e b true was got =
    subst (λ (t : Bool). Started (if t then Some e.event else start_entry at past) (if t then past else before_start at past) b) (sym (and-true (is_start e.event)))
    (begun_started past (start_entry at past) (before_start at past) b e.event (open_line at past) got was)
started_step at past e b false was got =
    subst (λ (t : Bool). Started (if t then Some e.event else start_entry at past) (if t then past else before_start at past) b) (sym (and-false (is_start e.event)))
    (was got)

-- what is remembered of a line is how it started
pub open_started : (at : At) (past : Past) (b : BegunLine) → open_line at past ≡ Some b → Started (start_entry at past) (before_start at past) b
open_started at [] b is = absurd (cc)
open_started at (e ∷ past) b is = started_step at past e b (same_at e.at at) (open_started at past b) is

-- nothing is remembered of a line that has not started
pub open_none : (at : At) (past : Past) → start_entry at past ≡ None → open_line at past ≡ None
open_none at past none = tells (open_line at past) refl
  where
    tells : (o : Option BegunLine) → open_line at past ≡ o → o ≡ None
    tells None is = refl
    tells (Some b) is = let s = (open_started at past b is).entry in absurd (cc)

pub without_some : (at' at : At) (old : Option At) → without_at at' old ≡ Some at → (old ≡ Some at) × (same_at at' at ≡ false)
without_some at' at None is = absurd (cc)
without_some at' at (Some a) is = tells (same_at at' a) refl is
  where
    tells : (s : Bool) → same_at at' a ≡ s → (if s then None else Some a) ≡ Some at → (Some a ≡ Some at) × (same_at at' at ≡ false)
    tells true same none = absurd (cc)
    tells false same some = let e : a ≡ at = cc in (some, subst (λ (x : At). same_at at' x ≡ false) e same)

-- a line that starts is not one that has started
pub fresh_apart : (past : Past) (at' at : At) (e : Event) → start_entry at' past ≡ None → start_entry at past ≡ Some e → same_at at' at ≡ false
fresh_apart past at' at e fresh started =
    by_test (same_at at' at) (λ s. s ≡ false)
    (λ s. let here : start_entry at' past ≡ Some e = subst (λ (a : At). start_entry a past ≡ Some e) (sym (same_at_is at' at s)) started in absurd (cc))
    (λ s. refl)

module _ (past : Past) (at' : At) (e : Event) (at : At) (was : Flying past at)
    (newest : newest_by e (newest_version past) ≡ newest_version past)
    (published : published_by e (accepted_at_start at' past) (published_in_generation past) ≡ published_in_generation past)
    (source : primary_crashes_by e (primary_of past) (primary_crashes past) ≡ primary_crashes past)
    (runs : primary_by e (primary_of past) ≢ None) where
  -- nothing of the line's start changes
  flies_on : (is_start e && same_at at' at) ≡ false → open_line at (record { at = at'; event = e } ∷ past) ≡ open_line at past → Flying (record { at = at'; event = e } ∷ past) at
  flies_on other line = record {
    entry = rw other was.entry;
    open_is = line ∙ (was.open_is ∙ ap (λ (p : Past). Some (record { start = PublishStart; before = length p; accepted = length (operations_of_generation p) })) (sym same));
    newest = newest ∙ (was.newest ∙ ap newest_version (sym same));
    published = published ∙ (was.published ∙ ap published_in_generation (sym same));
    source = source ∙ (was.source ∙ ap primary_crashes (sym same));
    runs = runs;
  }
    where
      same : before_start at (record { at = at'; event = e } ∷ past) ≡ before_start at past
      same = rw other refl

  flies_apart : same_at at' at ≡ false → Flying (record { at = at'; event = e } ∷ past) at
  flies_apart apart = flies_on (ap (λ (b : Bool). is_start e && b) apart ∙ and-false (is_start e)) (rw apart refl)

flying_step : (size : ℕ) (past : Past) (at' : At) (e : Event) (at : At) → KeepsRule size past at' e → InTurn past at' e
    → (publish_in_flight past ≡ Some at → Flying past at)
    → publish_by at' e (primary_of past) (publish_in_flight past) ≡ Some at → Flying (record { at = at'; event = e } ∷ past) at
flying_step size past at' Publishing at keeps turn was is =
    let mine : at' ≡ at = cc in
    subst (λ (a : At). Flying (record { at = at'; event = Publishing } ∷ past) a) mine
    (record {
      entry = ap (λ t. if t then Some Publishing else start_entry at' past) (same_at_self at');
      open_is = rw (same_at_self at') refl;
      newest = ap newest_version (sym (start at'));
      published = ap published_in_generation (sym (start at'));
      source = ap primary_crashes (sym (start at'));
      runs = keeps.running;
    })
  where
    start : (a : At) → before_start a (record { at = a; event = Publishing } ∷ past) ≡ past
    start a = ap (λ t. if t then past else before_start a past) (same_at_self a)
flying_step size past at' (Published g v) at keeps turn was is =
    let old = without_some at' at (publish_in_flight past) is in
    let mine : Some at ≡ Some at' = sym old.0 ∙ turn.flight in
    let same : at ≡ at' = cc in
    absurd (true≢false (sym (same_at_self at') ∙ subst (λ (a : At). same_at at' a ≡ false) same old.1))
flying_step size past at' (Crashed m) at keeps turn was is = crash (is_at (primary_of past) m.0) refl is
  where
    crash : (b : Bool) → is_at (primary_of past) m.0 ≡ b → (if b then None else without_at at' (publish_in_flight past)) ≡ Some at → Flying (record { at = at'; event = Crashed m } ∷ past) at
    crash true here none = absurd (cc)
    crash false here some =
        let old = without_some at' at (publish_in_flight past) some in
        flies_apart past at' (Crashed m) at (was old.0) refl refl (rw here refl) (rw here ((was old.0).runs)) old.1
flying_step size past at' (Promoted m g f w) at keeps turn was is =
    let old = without_some at' at (publish_in_flight past) is in absurd ((was old.0).runs keeps.vacant)
flying_step size past at' (Switched n v) at keeps turn was is = let w = was is in
    flies_on past at' (Switched n v) at w refl refl refl w.runs refl (by_test (same_at at' at) (λ s. (if s then open_line at past else open_line at past) ≡ open_line at past) (λ s. refl) (λ s. refl))
flying_step size past at' (Fault n k) at keeps turn was is = let w = was is in
    flies_on past at' (Fault n k) at w refl refl refl w.runs refl (by_test (same_at at' at) (λ s. (if s then open_line at past else open_line at past) ≡ open_line at past) (λ s. refl) (λ s. refl))
flying_step size past at' (Copying n v) at keeps turn was is = let w = was is in flies_apart past at' (Copying n v) at w refl refl refl w.runs (fresh_apart past at' at Publishing turn.once.begun w.entry)
flying_step size past at' (Settling v) at keeps turn was is = let w = was is in flies_apart past at' (Settling v) at w refl refl refl w.runs (fresh_apart past at' at Publishing turn.once.begun w.entry)
flying_step size past at' (Asking n t v) at keeps turn was is = let w = was is in flies_apart past at' (Asking n t v) at w refl refl refl w.runs (fresh_apart past at' at Publishing turn.once.begun w.entry)
flying_step size past at' (Committing n v) at keeps turn was is = let w = was is in flies_apart past at' (Committing n v) at w refl refl refl w.runs (fresh_apart past at' at Publishing turn.once.begun w.entry)
flying_step size past at' (Opened n t v) at keeps turn was is = opens (t.0 == 0) refl is turn.once
  where
    opens : (z : Bool) → (t.0 == 0) ≡ z → (if not z then without_at at' (publish_in_flight past) else publish_in_flight past) ≡ Some at → StartsOnce z at' past
        → Flying (record { at = at'; event = Opened n t v } ∷ past) at
    opens true zero same once = let w = was same in flies_apart past at' (Opened n t v) at w refl refl refl w.runs (fresh_apart past at' at Publishing once.begun w.entry)
    opens false zero same once = let old = without_some at' at (publish_in_flight past) same in flies_apart past at' (Opened n t v) at (was old.0) refl refl refl (was old.0).runs old.1
flying_step size past at' e at keeps turn was is =
    let old = without_some at' at (publish_in_flight past) is in flies_apart past at' e at (was old.0) refl refl refl (was old.0).runs old.1

-- the publish in flight
pub flying : (size : ℕ) (past : Past) (at : At) → IsLegalPast size past → AreInTurn past → publish_in_flight past ≡ Some at → Flying past at
flying size [] at legal turns is = absurd (cc)
flying size (e ∷ past) at legal turns is = flying_step size past e.at e.event at legal.0 turns.0 (λ older. flying size past at legal.1 turns.1 older) is

abbrev IsAtNode : ℕ → Option Ticket → Type 0
IsAtNode size None = ⊤
IsAtNode size (Some ticket) = IsNode size ticket.node

at_node_if : (size : ℕ) (b : Bool) (yes' no' : Option Ticket) → IsAtNode size yes' → IsAtNode size no' → IsAtNode size (if b then yes' else no')
at_node_if size true yes' no' left right = left
at_node_if size false yes' no' left right = right

opened_node_step : (size : ℕ) (lane t : ℕ) (past : Past) (at : At) (e : Event) → KeepsRule size past at e → IsAtNode size (last_opened lane t past) → IsAtNode size (ticket_by lane t at e past (last_opened lane t past))
opened_node_step size lane t past at (Opened n u v) keeps was =
    at_node_if size (u.0 == 0) (last_opened lane t past) _ was
    (at_node_if size (is_ticket at u.0 lane t) (Some (record { node = n.0; version = v.0; life = crashes n.0 past })) (last_opened lane t past) keeps.node was)
opened_node_step size lane t past at (Closed n u) keeps was = at_node_if size (is_ticket at u.0 lane t) None (last_opened lane t past) tt was
opened_node_step size lane t past at e keeps was = was

opened_node_lem : (size lane t : ℕ) (past : Past) → IsLegalPast size past → IsAtNode size (last_opened lane t past)
opened_node_lem size lane t [] legal = tt
opened_node_lem size lane t (e ∷ past) legal = opened_node_step size lane t past e.at e.event legal.0 (opened_node_lem size lane t past legal.1)

-- the node of a ticket is one of the history's
pub opened_node : (size lane t : ℕ) (past : Past) (ticket : Ticket) → IsLegalPast size past → last_opened lane t past ≡ Some ticket → IsNode size ticket.node
opened_node size lane t past ticket legal is = subst (IsAtNode size) is (opened_node_lem size lane t past legal)
