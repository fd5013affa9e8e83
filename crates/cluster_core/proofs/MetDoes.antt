-- What a call does for its line whose entries stand behind the faults that it met.
use Rattle.std.proofs.Common.{◌≡◌, ◌++◌, ◌==◌, ◌||◌, ◌&&◌, ℕ, Bool, true, false, List, [], ◌∷◌, map, Some, None, Option, refl, ap, ◌∙◌, sym, subst, if◌then◌else◌, append_assoc}
use Rattle.std.specs.Prelude.{is_some, not}
use Rattle.std.specs.Option.{option_or}
use Rattle.nrt_base.specs.declared.numbers.At.{At}
use Rattle.nrt_base.specs.declared.numbers.NodeNo.{NodeNo}
use Rattle.documents.specs.declared.operation.Op.{Op}
use Rattle.history_rules.specs.declared.cause.Cause.{Cause}
use Rattle.history_rules.specs.declared.cause.Cause.TheVariants.{NameUsed, NoTicket}
use Rattle.history_rules.specs.declared.cause.FaultKind.{FaultKind}
use Rattle.history_rules.specs.declared.entry.Event.{Event}
use Rattle.history_rules.specs.declared.entry.Event.TheVariants.{Fault, Refused}
use Rattle.history_rules.specs.Nodes.{Past}
use Rattle.history_rules.specs.Lines.{same_at, is_reply, is_answered, last_of_line}
use Rattle.history_rules.specs.FaultLaws.{faulted}
use Rattle.history_rules.specs.Tickets.{Ticket, last_opened, has_ticket}
use Rattle.history_rules.proofs.FaultLaws.{both, alive_over}
use Rattle.history_tables.proofs.RowLemmas.{same_at_self}
use Rattle.history_book.specs.Laws.{IsFresh}
use Rattle.history_book.specs.declared.inner.Mark.TheVariants.{Shown, TaskFault, Kept}
use Rattle.history_book.specs.Log.{Log, printed, shown, FollowsMerging}
use Rattle.script_serving.specs.declared.script.LineCommand.{LineCommand}
use Rattle.script_serving.specs.declared.script.LineCommand.TheVariants.{Open, Ask, Close, Promote}
use Rattle.script_serving.specs.Refusals.{when, without_node, forced_version, refusal}
use Rattle.script_serving.specs.declared.script.Force.{Force}
use Rattle.script_serving.specs.declared.script.Force.TheVariants.{Auto, Exactly}
use Rattle.script_serving.specs.Replays.{due}
use Rattle.script_serving.specs.Serves.{First, Follows, Suits}
use Rattle.cluster_state.specs.Run.{Run, IsNow}
use Rattle.cluster_state.specs.Calls.{by_refusal}
use Rattle.cluster_state.specs.Met.{failures_by_plan, fault_by}
use Rattle.cluster_state.specs.DueFaults.{with_due}
use Rattle.cluster_state.specs.GivesUp.{met_log}
use Rattle.cluster_state.proofs.Faulted.{met_has}
use Rattle.cluster_state.proofs.FilesDue.{due_has}
use Rattle.lane_threads.specs.Owes.{SuitsOrFault, SuitsOrReplays, AddsEntries, GoesByLine}
use Rattle.cluster_core.specs.Doing.{Does, IsReplied, IsBegunBy}

-- ---- why a line is refused, over a fault

has_over : (lane t : ℕ) (past : Past) (by : At) (n : NodeNo) (kind : FaultKind) → has_ticket lane t (faulted by n kind past) ≡ has_ticket lane t past
has_over lane t past by n kind = ap (λ (o : Option Ticket). is_some (if t == 0 then None else o)) (alive_over past by n kind (last_opened lane t past))

refusal_over : (command : LineCommand) (lane : ℕ) (past : Past) (by : At) (n : NodeNo) (kind : FaultKind) → refusal command lane (faulted by n kind past) ≡ refusal command lane past
refusal_over (Open m t) lane past by n kind = ap (λ (b : Bool). option_or (when b NameUsed) (without_node m.0 past)) (has_over lane t.0 past by n kind)
refusal_over (Ask t query) lane past by n kind = ap (λ (b : Bool). when (not b) NoTicket) (has_over lane t.0 past by n kind)
refusal_over (Close t) lane past by n kind = ap (λ (b : Bool). when (not b) NoTicket) (has_over lane t.0 past by n kind)
refusal_over (Promote m Auto) lane past by n kind = refl
refusal_over (Promote m (Exactly v)) lane past by n kind = refl
refusal_over command lane past by n kind = refl

-- ---- the faults

-- The line had no reply in the first log, where nothing was due to be accepted again, and faults that it met were added to it: how far the
-- line has come, and why it is refused, is as there.
pub record Meets (logged : Bool) (command : LineCommand) (at : At) (base log : Log) : Type 0 where
  pub more : Log
  pub log_is : log ≡ more ++ base
  pub adds : AddsEntries logged command at more base
  pub undue : due logged (printed log) ≡ []
  pub unanswered : is_answered at (printed log) ≡ false
  pub newest : last_of_line at (printed log) ≡ last_of_line at (printed base)
  pub refused : refusal command at.lane.0 (printed log) ≡ refusal command at.lane.0 (printed base)

pub meets_none : (logged : Bool) (command : LineCommand) (at : At) (base : Log) → due logged (printed base) ≡ [] → is_answered at (printed base) ≡ false → Meets logged command at base base
meets_none logged command at base undue unanswered = record { more = []; log_is = refl; adds = tt; undue = undue; unanswered = unanswered; newest = refl; refused = refl }

pub meets_one : (logged : Bool) (command : LineCommand) (at : At) (base : Log) (n : ℕ) (kind : FaultKind) (log : Log) → Meets logged command at base log → Meets logged command at base (fault_by false at n kind ∷ log)
meets_one logged command at base n kind log m = record {
  more = fault_by false at n kind ∷ m.more;
  log_is = ap (λ (l : Log). fault_by false at n kind ∷ l) m.log_is;
  adds = (
    refl,
    subst (λ (l : Log). SuitsOrReplays (due logged (printed l)) command at (printed l) (Fault (record { 0 = n }) kind)) m.log_is
        (subst (λ (ops : List Op). SuitsOrReplays ops command at (printed log) (Fault (record { 0 = n }) kind)) (sym m.undue) m.unanswered),
    m.adds,
  );
  undue = undue_over logged m.undue;
  unanswered = m.unanswered;
  newest = both (same_at at at) (last_of_line at (printed log)) ∙ m.newest;
  refused = refusal_over command at.lane.0 (printed log) at (record { 0 = n }) kind ∙ m.refused;
}
  where
    undue_over : (logged : Bool) → due logged (printed log) ≡ [] → due logged (faulted at (record { 0 = n }) kind (printed log)) ≡ []
    undue_over true undue = undue
    undue_over false undue = refl

-- those of disks that rose in a call
pub met_meets : (logged : Bool) (command : LineCommand) (at : At) (old new : Run) → due logged (printed old.log) ≡ [] → is_answered at (printed old.log) ≡ false → Meets logged command at old.log (met_log at old new)
met_meets logged command at old new undue unanswered =
    met_has (Meets logged command at old.log) false at (λ n kind log m. meets_one logged command at old.log n kind log m) 1 (map failures_by_plan old.rest.plans) (map failures_by_plan new.rest.plans) old.log
    (meets_none logged command at old.log undue unanswered)

-- the same where operations are not logged
pub met_here : (command : LineCommand) (at : At) (old new : Run) → is_answered at (printed old.log) ≡ false → Meets false command at old.log (met_log at old new)
met_here command at old new unanswered = met_meets false command at old new refl unanswered

-- those that a file meets
pub meets_over_due : (logged : Bool) (command : LineCommand) (at : At) (base : Log) (n : ℕ) (log : Log) → Meets logged command at base log → Meets logged command at base (with_due false at n log)
meets_over_due logged command at base n log m = due_has (Meets logged command at base) false at (λ k kind l was. meets_one logged command at base k kind l was) n log m

-- the version that a promotion forces is as before
pub forced_over : (force : Force) (at : At) (n : ℕ) (kind : FaultKind) (past : Past) → forced_version force (faulted at (record { 0 = n }) kind past) ≡ forced_version force past
forced_over Auto at n kind past = refl
forced_over (Exactly v) at n kind past = refl

pub met_forced : (force : Force) (at : At) (old new : Run) → forced_version force (printed (met_log at old new)) ≡ forced_version force (printed old.log)
met_forced force at old new =
    met_has (λ l. forced_version force (printed l) ≡ forced_version force (printed old.log)) false at (λ n kind l is. forced_over force at n kind (printed l) ∙ is) 1 (map failures_by_plan old.rest.plans) (map failures_by_plan new.rest.plans) old.log refl

-- ---- the entries behind them

pub adds_then : (logged : Bool) (command : LineCommand) (at : At) (a b old : Log) → AddsEntries logged command at a (b ++ old) → AddsEntries logged command at b old → AddsEntries logged command at (a ++ b) old
adds_then logged command at [] b old h k = k
adds_then logged command at (Shown e ∷ a) b old h k = (
  h.0,
  subst (λ (l : Log). SuitsOrReplays (due logged (printed l)) command at (printed l) e.event) (sym (append_assoc a b old)) h.1,
  adds_then logged command at a b old h.2 k,
)
adds_then logged command at (TaskFault e ∷ a) b old h k = (
  subst (λ (l : Log). FollowsMerging e.at e.event (printed l)) (sym (append_assoc a b old)) h.0,
  subst (λ (l : Log). due logged (printed l) ≡ []) (sym (append_assoc a b old)) h.1,
  adds_then logged command at a b old h.2 k,
)
adds_then logged command at (Kept i ∷ a) b old h k = (h.0, adds_then logged command at a b old h.1 k)

-- these entries stand behind the faults
pub behind_goes : (logged : Bool) (command : LineCommand) (at : At) (base new entries log : Log) → Meets logged command at base log → new ≡ entries ++ log → AddsEntries logged command at entries log → GoesByLine logged command at base new
behind_goes logged command at base new entries log m is adds = record {
  more = entries ++ m.more;
  log = is ∙ (ap (λ (l : Log). entries ++ l) m.log_is ∙ sym (append_assoc entries m.more base));
  adds = adds_then logged command at entries m.more base (subst (λ (l : Log). AddsEntries logged command at entries l) m.log_is adds) m.adds;
}

pub behind_does : (command : LineCommand) (at : At) (old new : Run) (entries log : Log) → Meets false command at old.log log → IsNow old new (entries ++ log) → AddsEntries false command at entries log → Does command at old new
behind_does command at old new entries log m now adds = record { running = now.running; nodes = now.nodes; goes = behind_goes false command at old.log new.log entries log m now.log adds }

-- one entry that suits
pub one_behind : (command : LineCommand) (at : At) (old new : Run) (e : Event) (log : Log) → Meets false command at old.log log → IsNow old new (shown at e ∷ log) → SuitsOrFault command at (printed log) e → Does command at old new
one_behind command at old new e log m now suits = behind_does command at old new (shown at e ∷ []) log m now (refl, suits, tt)

-- none
pub none_behind : (command : LineCommand) (at : At) (old new : Run) (log : Log) → Meets false command at old.log log → IsNow old new log → Does command at old new
none_behind command at old new log m now = behind_does command at old new [] log m now tt

-- the first entry of a line that is no fault
pub first_behind : {logged : Bool} (command : LineCommand) (at : At) (base log : Log) (e : Event) → Meets logged command at base log → IsFresh at (printed base) → First command at (printed log) (refusal command at.lane.0 (printed base)) e
    → Suits command at (printed log) (last_of_line at (printed log)) e
first_behind command at base log e m fresh first =
    subst (λ (last : Option Event). Suits command at (printed log) last e) (sym (m.newest ∙ fresh.last)) (subst (λ (r : Option Cause). First command at (printed log) r e) (sym m.refused) first)

-- an entry behind the start of a line
pub later_behind : {logged : Bool} (command : LineCommand) (at : At) (base log : Log) (begun e : Event) → Meets logged command at base log → last_of_line at (printed base) ≡ Some begun → Follows command begun e
    → Suits command at (printed log) (last_of_line at (printed log)) e
later_behind command at base log begun e m last follows = subst (λ (l : Option Event). Suits command at (printed log) l e) (sym (m.newest ∙ last)) (m.unanswered, follows)

-- a refusal that holds
pub refused_behind : (command : LineCommand) (at : At) (old new : Run) (cause : Cause) (log : Log) → Meets false command at old.log log → IsFresh at (printed old.log) → refusal command at.lane.0 (printed old.log) ≡ Some cause
    → IsNow old new (shown at (Refused cause) ∷ log) → Does command at old new
refused_behind command at old new cause log m fresh is now =
    one_behind command at old new (Refused cause) log m now (first_behind command at old.log log (Refused cause) m fresh (subst (λ (r : Option Cause). First command at (printed log) r (Refused cause)) (sym is) refl))

-- a row that is answered at once: its refusal, or what it does
pub row_behind : (command : LineCommand) (at : At) (old new : Run) (o : Option Cause) (e : Event) (log : Log) → Meets false command at old.log log
    → (Suits command at (printed log) (last_of_line at (printed log)) e → SuitsOrFault command at (printed log) e)
    → IsFresh at (printed old.log) → refusal command at.lane.0 (printed old.log) ≡ o → IsNow old new (shown at (by_refusal o e) ∷ log) → First command at (printed log) None e → Does command at old new
row_behind command at old new None e log m lift fresh is now begins =
    one_behind command at old new e log m now (lift (first_behind command at old.log log e m fresh (subst (λ (r : Option Cause). First command at (printed log) r e) (sym is) begins)))
row_behind command at old new (Some cause) e log m lift fresh is now begins = refused_behind command at old new cause log m fresh is now

-- ---- replies and starts

pub replied_by : (b r s : Bool) → b ≡ true → r ≡ true → ((b && r) || s) ≡ true
replied_by b r s e f = rw (e, f) refl

-- a reply on top
pub top_replied : (at : At) (new : Run) (e : Event) (log : Log) → is_reply e ≡ true → new.log ≡ shown at e ∷ log → IsReplied at new
top_replied at new e log reply is =
    ap (λ (l : Log). is_answered at (printed l)) is ∙ replied_by (is_reply e) (same_at at at) (is_answered at (printed log)) reply (same_at_self at)

-- a start is there
pub begun_behind : {logged : Bool} (command : LineCommand) (at : At) (base log : Log) (new : Run) (begun : Event) → Meets logged command at base log → is_reply begun ≡ false → last_of_line at (record { at = at; event = begun } ∷ printed log) ≡ Some begun
    → printed new.log ≡ record { at = at; event = begun } ∷ printed log → IsBegunBy at begun new
begun_behind command at base log new begun m reply last is = record {
  last = ap (last_of_line at) is ∙ last;
  unanswered = ap (is_answered at) is ∙ (ap (λ (b : Bool). (b && same_at at at) || is_answered at (printed log)) reply ∙ m.unanswered);
}
