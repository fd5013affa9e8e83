-- What an entry of a line owes the log before it, it owes as well behind faults of disks.
use Rattle.std.proofs.Common.{◌≡◌, ◌+◌, ◌==◌, nat_lt, ℕ, suc, Bool, true, false, List, [], ◌∷◌, map, Some, None, Option, inl, inr, Ok, Err, Result, refl, ap, ◌∙◌, sym, subst, arith, if◌then◌else◌}
use Rattle.std.specs.Prelude.{OnOk}
use Rattle.std.proofs.lemmas.Bool.{eqb-true}
use Rattle.std.proofs.lemmas.Bool.Decides.{nat_tests}
use Rattle.nrt_base.specs.declared.numbers.At.{At}
use Rattle.nrt_base.specs.declared.numbers.NodeNo.{NodeNo}
use Rattle.history_rules.specs.declared.cause.Cause.TheVariants.{Cancelled}
use Rattle.disk_model.specs.Disk.{Cells}
use Rattle.disk_model.specs.Faults.{Plans}
use Rattle.history_rules.specs.declared.cause.FaultKind.{FaultKind}
use Rattle.history_rules.specs.declared.cause.FaultKind.TheVariants.{Disk, Stop}
use Rattle.history_rules.specs.declared.entry.Event.{Event}
use Rattle.history_rules.specs.declared.entry.Event.TheVariants.{Publishing, Published, Committed, Drained, Refused}
use Rattle.history_rules.specs.Nodes.{Past, primary_of}
use Rattle.history_rules.specs.Lines.{same_at, is_start, start_entry}
use Rattle.history_rules.specs.Faults.{is_of_disk}
use Rattle.history_rules.specs.FaultLaws.{faulted, stands_over}
use Rattle.history_rules.specs.Legal.{KeepsRule}
use Rattle.history_rules.proofs.FaultLaws.{both, keeps_over}
use Rattle.history_tables.specs.Begins.{open_line}
use Rattle.history_tables.proofs.RowLemmas.{by_test}
use Rattle.merge_tasks.specs.Merging.{ends_reign}
use Rattle.history_book.specs.Log.{Log, printed, shown}
use Rattle.history_book.specs.Told.{IsSo}
use Rattle.history_book.specs.Turns.{StartsOnce, EndsFlight, InTurn}
use Rattle.cluster_state.specs.Met.{failures_by_plan, fault_by, fault_on, fault_if, with_met}
use Rattle.cluster_state.specs.GivesUp.{met_log}
use Rattle.cluster_state.specs.Run.{Run, IsNow}
use Rattle.cluster_nodes.specs.declared.nodes.NodePlace.{NodePlace}
use Rattle.cluster_nodes.specs.Places.{place_of}
use Rattle.cluster_state.proofs.Frames.{PutsBack}
use Rattle.cluster_state.proofs.RestKept.{map_same}
use Rattle.cluster_state.proofs.Faulted.{met_keeps}

-- a line is open as before
pub open_over : (at by : At) (n : NodeNo) (kind : FaultKind) (past : Past) → open_line at (faulted by n kind past) ≡ open_line at past
open_over at by n kind past = both (same_at by at) (open_line at past)

once_over : (b : Bool) (at by : At) (n : NodeNo) (kind : FaultKind) (past : Past) → StartsOnce b at past → StartsOnce b at (faulted by n kind past)
once_over true at by n kind past once = record { begun = once.begun; replied = once.replied }
once_over false at by n kind past once = tt

flight_over : (at by : At) (n : NodeNo) (kind : FaultKind) (past : Past) (e : Event) → EndsFlight at past e → EndsFlight at (faulted by n kind past) e
flight_over at by n kind past (Published g v) flight = flight
flight_over at by n kind past (Committed m v) flight = flight
flight_over at by n kind past (Refused cause) (inl none) = inl none
flight_over at by n kind past (Refused cause) (inr is_open) = inr (λ none. is_open (sym (open_over at by n kind past) ∙ none))
flight_over at by n kind past e flight = tt

-- an entry comes in its turn as before
pub turn_over : (at by : At) (n : NodeNo) (kind : FaultKind) (past : Past) (e : Event) → InTurn past at e → InTurn (faulted by n kind past) at e
turn_over at by n kind past e turn = record { once = once_over (is_start e) at by n kind past turn.once; flight = flight_over at by n kind past e turn.flight }

-- and tells what is so
told_over : (at by : At) (n : ℕ) (kind : FaultKind) (log : Log) (e : Event) → IsSo log at e → IsSo (fault_by false by n kind ∷ log) at e
told_over at by n kind log (Drained done most) told = told
told_over at by n kind log (Refused (Cancelled v)) told = λ begun. record { job = (told begun).job }
told_over at by n kind log (Refused cause) told = tt
told_over at by n kind log Publishing told = told
told_over at by n kind log e told = tt

-- The entry may follow this log, and as well with a fault of a disk in front: it keeps its rule, comes in its turn and tells what is so.
pub record MayFollow (size : ℕ) (at : At) (e : Event) (log : Log) : Type 0 where
  pub over : stands_over (start_entry at (printed log)) e ≡ true
  pub rule : KeepsRule size (printed log) at e
  pub turn : InTurn (printed log) at e
  pub told : IsSo log at e

follows_one : (size : ℕ) (at : At) (e : Event) (by : At) (n : ℕ) (kind : FaultKind) (log : Log) → is_of_disk kind ≡ true → MayFollow size at e log → MayFollow size at e (fault_by false by n kind ∷ log)
follows_one size at e by n kind log disk may = record {
  over = may.over;
  rule = keeps_over size (printed log) at e by (record { 0 = n }) kind disk may.over may.rule;
  turn = turn_over at by (record { 0 = n }) kind (printed log) e may.turn;
  told = told_over at by n kind log e may.told;
}

-- so it may behind all that rose, in the terms of a call
pub may_follow : (size later : ℕ) (at : At) (e : Event) (olds news : List (ℕ × ℕ)) (log now : Log) → now ≡ with_met false at 1 olds news log → later ≡ size → stands_over (start_entry at (printed log)) e ≡ true
    → KeepsRule size (printed log) at e → InTurn (printed log) at e → IsSo log at e → MayFollow later at e now
may_follow size later at e olds news log now is same over rule turn told =
    subst (λ (z : ℕ × Log). MayFollow z.0 at e z.1) (λ i. (sym same i, sym is i))
    (met_keeps (MayFollow size at e) false at (λ n kind l disk may. follows_one size at e at n kind l disk may) 1 olds news log (record { over = over; rule = rule; turn = turn; told = told }))

-- ---- where no disk was called

still_on : (task : Bool) (at : At) (n k : ℕ) (kind : FaultKind) (log : Log) → fault_if task at n kind k k log ≡ log
still_on task at n k kind log = ap (λ (b : Bool). fault_on b task at n kind log) (nat_lt_self k)
  where
    nat_lt_self : (k : ℕ) → nat_lt k k ≡ false
    nat_lt_self k = grind (arith, nat_tests)

met_still : (at : At) (n : ℕ) (kinds : List (ℕ × ℕ)) (log : Log) → with_met false at n kinds kinds log ≡ log
met_still at n [] log = refl
met_still at n (o ∷ kinds) log =
    ap (λ (l : Log). with_met false at (n + 1) kinds kinds l) (still_on false at n o.1 Stop (fault_if false at n Disk o.0 o.0 log) ∙ still_on false at n o.0 Disk log) ∙ met_still at (n + 1) kinds log

-- no fault was met
pub met_none : (at : At) (old new : Run) → new.rest.plans ≡ old.rest.plans → met_log at old new ≡ old.log
met_none at old new same =
    ap (λ (plans : List Plans). with_met false at 1 (map failures_by_plan old.rest.plans) (map failures_by_plan plans) old.log) same ∙ met_still at 1 (map failures_by_plan old.rest.plans) old.log

-- so an entry stands behind those that were met, in the terms of a call
pub now_still : {X E : Type 0} (r : Result X E) (at : At) (e : Event) (old new : Run) → OnOk r (IsNow old new (shown at e ∷ old.log)) → OnOk r (new.rest.plans ≡ old.rest.plans) → OnOk r (IsNow old new (shown at e ∷ met_log at old new))
now_still (Ok x) at e old new now same = subst (λ (l : Log). IsNow old new (shown at e ∷ l)) (sym (met_none at old new same)) now
now_still (Err fault) at e old new now same = tt

-- what is told of each place is the same where one was taken out and another put there of which that is told
pub put_each : {D X : Type 0} (cells : D → Cells) (f : Option (NodePlace D) → X) (old mid new : List (Option (NodePlace D))) (n : ℕ) (x y : NodePlace D) → PutsBack cells old mid new n x → place_of old n ≡ Some y → f (Some x) ≡ f (Some y)
    → map f new ≡ map f old
put_each cells f old mid new n x y put there is = map_same f old new (put.again ∙ put.count) (λ k. at_place (suc k))
  where
    at_place : (m : ℕ) → f (place_of new m) ≡ f (place_of old m)
    at_place m =
        by_test (n == m) (λ b. (n == m) ≡ b → f (place_of new m) ≡ f (place_of old m))
        (λ here q. ap f (put.there m ∙ ap (λ (b : Bool). if b then Some x else place_of mid m) here) ∙ (is ∙ ap f (sym there ∙ ap (place_of old) (eqb-true n m here))))
        (λ apart q. ap f ((put.there m ∙ ap (λ (b : Bool). if b then Some x else place_of mid m) apart) ∙ (put.taken m ∙ ap (λ (b : Bool). if b then None else place_of old m) apart)))
        refl

-- an entry ends no reign as before
pub reigns_behind : (at : At) (e : Event) (olds news : List (ℕ × ℕ)) (log now : Log) → now ≡ with_met false at 1 olds news log → ends_reign e (primary_of (printed log)) ≡ false → ends_reign e (primary_of (printed now)) ≡ false
reigns_behind at e olds news log now is was =
    ap (λ (l : Log). ends_reign e (primary_of (printed l))) is ∙ met_keeps (λ l. ends_reign e (primary_of (printed l)) ≡ false) false at (λ n kind l disk held. held) 1 olds news log was
