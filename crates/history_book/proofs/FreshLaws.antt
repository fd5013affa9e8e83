-- A line of which no entry stands there, and one that is open: neither has its reply.
use Rattle.std.proofs.Common.{◌≡◌, ◌≢◌, ◌&&◌, ◌||◌, ◌==◌, Bool, true, false, [], ◌∷◌, Some, None, Option, length, refl, ap, ◌∙◌, subst, if◌then◌else◌}
use Rattle.std.specs.Prelude.{not}
use Rattle.nrt_base.specs.declared.numbers.At.{At}
use Rattle.history_rules.specs.declared.entry.Entry.{Entry}
use Rattle.history_rules.specs.declared.entry.Event.{Event}
use Rattle.history_rules.specs.declared.entry.Event.TheVariants.{Publishing, Copying, Switched, Settling, Opened, Asking, Committing, Fault}
use Rattle.history_rules.specs.Nodes.{Past}
use Rattle.history_rules.specs.Lines.{same_at, is_start, is_reply, is_answered, entries_of_line, last_of_line, start_entry}
use Rattle.history_rules.specs.Faults.{has_met_fault}
use Rattle.history_rules.specs.Points.{operations_of_generation}
use Rattle.history_tables.specs.declared.lines.Start.TheVariants.{Searching as SearchStart}
use Rattle.history_tables.specs.Begins.{begin, begun_by, open_line}
use Rattle.history_book.specs.Turns.{StartsOnce, AreInTurn}
use Rattle.history_book.specs.Laws.{IsFresh}
use Rattle.history_book.specs.Steps.{last_by}
use Rattle.history_tables.proofs.RowLemmas.{same_at_is}

or_of : (b now was : Bool) → now ≡ false → was ≡ false → ((b && now) || was) ≡ false
or_of true now was none old = rw none old
or_of false now was none old = old

none_of : (b s : Bool) (x old : Option Event) → s ≡ false → old ≡ None → (if b && s then x else old) ≡ None
none_of true s x old apart none = rw apart none
none_of false s x old apart none = none

fresh_step : (e : Entry) (past : Past) (at : At) (s : Bool) → same_at e.at at ≡ s → (if s then e ∷ entries_of_line at past else entries_of_line at past) ≡ []
    → (entries_of_line at past ≡ [] → IsFresh at past) → IsFresh at (e ∷ past)
fresh_step e past at true here some was = absurd (cc)
fresh_step e past at false apart none was = let w = was none in record {
  begun = none_of (is_start e.event) (same_at e.at at) (Some e.event) (start_entry at past) apart w.begun;
  last = ap (λ (b : Bool). if b then last_by e.event (last_of_line at past) else last_of_line at past) apart ∙ w.last;
  replied = or_of (is_reply e.event) (same_at e.at at) (is_answered at past) apart w.replied;
  spared = or_of (elim e.event [ Fault m met ↦ true | _ ↦ false ]) (same_at e.at at) (has_met_fault at past) apart w.spared;
  line = ap (λ (b : Bool). if b then begun_by e.event (length past) (length (operations_of_generation past)) (open_line at past) else open_line at past) apart ∙ w.line;
}

-- a line of which no entry stands there has not started, met no fault and has no reply
pub fresh : (at : At) (past : Past) → entries_of_line at past ≡ [] → IsFresh at past
fresh at [] none = record { begun = refl; last = refl; replied = refl; spared = refl; line = refl }
fresh at (e ∷ past) none = fresh_step e past at (same_at e.at at) refl none (fresh at past)

open_mine : (x : Event) (past : Past) (at : At) → StartsOnce (is_start x) at past → (open_line at past ≢ None → is_answered at past ≡ false)
    → begun_by x (length past) (length (operations_of_generation past)) (open_line at past) ≢ None → ((is_reply x && true) || is_answered at past) ≡ false
open_mine Publishing past at once was line = once.replied
open_mine (Copying n v) past at once was line = once.replied
open_mine (Settling v) past at once was line = once.replied
open_mine (Asking n t v) past at once was line = once.replied
open_mine (Committing n v) past at once was line = once.replied
open_mine (Opened n t v) past at once was line = opens (t.0 == 0) once line
  where
    opens : (z : Bool) → StartsOnce z at past → begin (if z then Some (SearchStart n v) else None) (length past) (length (operations_of_generation past)) ≢ None
        → ((not z && true) || is_answered at past) ≡ false
    opens true once line = once.replied
    opens false once line = absurd (line refl)
open_mine (Switched n v) past at once was line = was line
open_mine (Fault n k) past at once was line = was line
open_mine x past at once was line = absurd (line refl)

open_step : (e : Entry) (past : Past) (at : At) (s : Bool) → same_at e.at at ≡ s → StartsOnce (is_start e.event) e.at past
    → (open_line at past ≢ None → is_answered at past ≡ false)
    → (if s then begun_by e.event (length past) (length (operations_of_generation past)) (open_line at past) else open_line at past) ≢ None
    → ((is_reply e.event && s) || is_answered at past) ≡ false
open_step e past at true here once was line =
    open_mine e.event past at (subst (λ (a : At). StartsOnce (is_start e.event) a past) (same_at_is e.at at here) once) was line
open_step e past at false apart once was line = or_of (is_reply e.event) false (is_answered at past) refl (was line)

-- an open line has no reply
pub open_unanswered : (at : At) (past : Past) → AreInTurn past → open_line at past ≢ None → is_answered at past ≡ false
open_unanswered at [] turns line = refl
open_unanswered at (e ∷ past) turns line = open_step e past at (same_at e.at at) refl turns.0.once (open_unanswered at past turns.1) line
