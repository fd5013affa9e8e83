-- What a line without a publish or a commit in flight is behind faults of disks, and how its ticket's end stands behind them.
use Rattle.std.proofs.Common.{◌≡◌, ◌≢◌, ◌∷◌, ℕ, Bool, false, List, Some, None, Option, Result, ap, ◌∙◌, sym, subst, if◌then◌else◌}
use Rattle.std.specs.Prelude.{OnOk}
use Rattle.nrt_base.specs.declared.numbers.At.{At}
use Rattle.nrt_base.specs.declared.numbers.TicketNo.{TicketNo}
use Rattle.history_rules.specs.declared.cause.Cause.TheVariants.{NoTicket}
use Rattle.history_rules.specs.declared.entry.Event.{Event}
use Rattle.history_rules.specs.declared.entry.Event.TheVariants.{Publishing, Closed, Refused}
use Rattle.history_rules.specs.Tickets.{Ticket, open_ticket}
use Rattle.history_tables.specs.declared.tickets.Opening.{Opening}
use Rattle.history_tables.specs.Openings.{ticket_of}
use Rattle.history_rules.specs.Lines.{start_entry, commit_in_flight}
use Rattle.history_book.specs.Log.{Log, printed, shown}
use Rattle.cluster_state.specs.Run.{Run, IsNow}
use Rattle.cluster_state.specs.Calls.{LineRefused, close_by}
use Rattle.cluster_state.specs.Met.{with_met}
use Rattle.cluster_state.specs.GivesUp.{met_log}
use Rattle.cluster_state.proofs.Faulted.{met_has}
use Rattle.cluster_state.proofs.Behind.{now_still}

pub met_line : (at : At) (olds news : List (ℕ × ℕ)) (log : Log) → start_entry at (printed log) ≢ Some Publishing → start_entry at (printed (with_met false at 1 olds news log)) ≢ Some Publishing
met_line at olds news log was = met_has (λ l. start_entry at (printed l) ≢ Some Publishing) false at (λ n kind l is. is) 1 olds news log was

pub met_flights : (at : At) (olds news : List (ℕ × ℕ)) (log : Log) → ((m : ℕ) → commit_in_flight m (printed log) ≢ Some at) → (m : ℕ) → commit_in_flight m (printed (with_met false at 1 olds news log)) ≢ Some at
met_flights at olds news log was = met_has (λ l. (m : ℕ) → commit_in_flight m (printed l) ≢ Some at) false at (λ n kind l is. is) 1 olds news log was

-- a line that ends by a test ends so where it was met, also where no disk was called
pub by_test_still : {X E : Type 0} (r : Result X E) (at : At) (test b : Bool) (yes_event no_event : Event) (old new : Run) → test ≡ b → OnOk r (IsNow old new (shown at (if b then yes_event else no_event) ∷ old.log)) → OnOk r (new.rest.plans ≡ old.rest.plans)
    → OnOk r (IsNow old new (shown at (if test then yes_event else no_event) ∷ met_log at old new))
by_test_still r at test b yes_event no_event old new is now same =
    subst (λ (t : Bool). OnOk r (IsNow old new (shown at (if t then yes_event else no_event) ∷ met_log at old new))) (sym is) (now_still r at (if b then yes_event else no_event) old new now same)

-- a line that closes no ticket is refused so
pub closes_none : {X E : Type 0} (r : Result X E) (at : At) (t : TicketNo) (old new : Run) (log : Log) → log ≡ old.log → open_ticket at.lane.0 t.0 (printed log) ≡ None → OnOk r (LineRefused at NoTicket old new) → OnOk r (new.rest.plans ≡ old.rest.plans)
    → OnOk r (IsNow old new (shown at (close_by t (open_ticket at.lane.0 t.0 (printed old.log))) ∷ met_log at old new))
closes_none r at t old new log same none refused plans =
    subst (λ (o : Option Ticket). OnOk r (IsNow old new (shown at (close_by t o) ∷ met_log at old new))) (sym (ap (λ (l : Log). open_ticket at.lane.0 t.0 (printed l)) (sym same) ∙ none)) (now_still r at (Refused NoTicket) old new refused plans)

-- and one that closes a ticket
pub closes_one : {X E : Type 0} (r : Result X E) (at : At) (t : TicketNo) (o : Opening) (old new : Run) → open_ticket at.lane.0 t.0 (printed old.log) ≡ Some (ticket_of o) → OnOk r (IsNow old new (shown at (Closed o.node t) ∷ met_log at old new))
    → OnOk r (IsNow old new (shown at (close_by t (open_ticket at.lane.0 t.0 (printed old.log))) ∷ met_log at old new))
closes_one r at t o old new is now = subst (λ (x : Option Ticket). OnOk r (IsNow old new (shown at (close_by t x) ∷ met_log at old new))) (sym is) now
