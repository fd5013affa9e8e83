-- What the words of a past are behind faults of disks, and the rule of a publish that is refused for one.
use Rattle.std.proofs.Common.{◌≡◌, ◌≢◌, ◌==◌, ◌||◌, not, ℕ, Bool, true, false, List, inr, Some, None, Option, refl, ap, ◌∙◌, sym, subst}
use Rattle.std.proofs.Math.Bool.{or-false}
use Rattle.std.proofs.lemmas.Bool.{eq-eqb}
use Rattle.nrt_base.specs.declared.numbers.At.{At}
use Rattle.nrt_base.specs.declared.numbers.NodeNo.{NodeNo}
use Rattle.history_rules.specs.declared.cause.Cause.TheVariants.{DiskFault}
use Rattle.history_rules.specs.declared.entry.Event.{Event}
use Rattle.history_rules.specs.declared.entry.Event.TheVariants.{Publishing, Refused}
use Rattle.history_rules.specs.Nodes.{Past, is_at, primary_of, newest_version, generation_of, primary_crashes}
use Rattle.history_rules.specs.Lines.{publish_in_flight, before_start}
use Rattle.history_rules.specs.Faults.{has_fault, fails_now, is_of_disk}
use Rattle.history_rules.specs.Rules.{MayRefuseLine}
use Rattle.history_rules.specs.Started.{is_node_of, is_source_of}
use Rattle.history_rules.specs.Legal.{KeepsRule, IsLegalPast}
use Rattle.history_book.specs.Log.{Log, printed}
use Rattle.history_book.specs.Laws.{Flying}
use Rattle.history_book.specs.Turns.{InTurn}
use Rattle.history_book.proofs.ReignLaws.{start_kept, reigns_on}
use Rattle.cluster_state.specs.Writes.{IsFlushed}
use Rattle.cluster_state.proofs.Turning.{later_turn}
use Rattle.segment_steps.specs.declared.flushing.FlushWork.{FlushWork}
use Rattle.cluster_state.specs.Met.{with_met, has_risen}
use Rattle.cluster_state.proofs.Faulted.{met_has}
use Rattle.cluster_state.proofs.Planned.{HasMet, met_there}
use Rattle.cluster_state.proofs.MetFails.{fails_behind}

pub met_flight : (at : At) (olds news : List (ℕ × ℕ)) (log now : Log) → now ≡ with_met false at 1 olds news log → publish_in_flight (printed log) ≡ Some at → publish_in_flight (printed now) ≡ Some at
met_flight at olds news log now is was =
    ap (λ (l : Log). publish_in_flight (printed l)) is ∙ met_has (λ l. publish_in_flight (printed l) ≡ Some at) false at (λ n kind l is. is) 1 olds news log was

pub met_primary : (at : At) (p : NodeNo) (olds news : List (ℕ × ℕ)) (log now : Log) → now ≡ with_met false at 1 olds news log → primary_of (printed log) ≡ Some p → primary_of (printed now) ≡ Some p
met_primary at p olds news log now is was =
    ap (λ (l : Log). primary_of (printed l)) is ∙ met_has (λ l. primary_of (printed l) ≡ Some p) false at (λ n kind l is. is) 1 olds news log was

pub met_generation : (at : At) (olds news : List (ℕ × ℕ)) (log now : Log) → now ≡ with_met false at 1 olds news log → generation_of (printed now) ≡ generation_of (printed log)
met_generation at olds news log now is =
    ap (λ (l : Log). generation_of (printed l)) is ∙ met_has (λ l. generation_of (printed l) ≡ generation_of (printed log)) false at (λ n kind l is. is) 1 olds news log refl

pub met_newest : (at : At) (olds news : List (ℕ × ℕ)) (log now : Log) → now ≡ with_met false at 1 olds news log → newest_version (printed now) ≡ newest_version (printed log)
met_newest at olds news log now is =
    ap (λ (l : Log). newest_version (printed l)) is ∙ met_has (λ l. newest_version (printed l) ≡ newest_version (printed log)) false at (λ n kind l is. is) 1 olds news log refl

pub met_flushed : (at : At) (work : FlushWork) (olds news : List (ℕ × ℕ)) (log : Log) → IsFlushed at log work → IsFlushed at (with_met false at 1 olds news log) work
met_flushed at work olds news log was =
    met_has (λ l. IsFlushed at l work) false at (λ n kind l is. record { task = is.task; out = is.out; ops = is.ops; flushed = is.flushed }) 1 olds news log was

-- ---- the rule

-- a publish that met a fault of its primary's disk may be refused for it
pub may_give_up : (size : ℕ) (past : Past) (at : At) (p : NodeNo) → IsLegalPast size past → Flying past at → primary_of past ≡ Some p → has_fault (λ m. p.0 == m) is_of_disk at past ≡ true → fails_now at past ≡ true → KeepsRule size past at (Refused DiskFault)
may_give_up size past at p legal flies primary met fails =
    subst (λ (o : Option Event). MayRefuseLine size past at o DiskFault) (sym flies.entry) (record {
      lost = ap not (sym (eq-eqb (primary_crashes past) (primary_crashes (before_start at past)) flies.source));
      met = λ apart. (subst (λ (node : ℕ → Bool). has_fault node is_of_disk at past ≡ true) same met, fails);
      unswitched = refl;
    })
  where
    runs : primary_of (before_start at past) ≢ None
    runs = (start_kept size at past Publishing legal flies.entry).running

    source : primary_of (before_start at past) ≡ Some p
    source = sym (reigns_on size at past legal runs flies.source).primary ∙ primary

    same : ◌≡◌ {A = ℕ → Bool} (λ m. p.0 == m) (λ m. is_node_of size (before_start at past) Publishing m || is_source_of (before_start at past) Publishing m)
    same = λ i m. sym (ap (λ (o : Option NodeNo). is_at o m || false) source ∙ or-false (p.0 == m)) i

-- the same behind the faults, in the terms of a call
pub gives_up : (at : At) (p : NodeNo) (olds news : List (ℕ × ℕ)) (log now : Log) (size : ℕ) → now ≡ with_met false at 1 olds news log → IsLegalPast size (printed now) → Flying (printed now) at → primary_of (printed log) ≡ Some p
    → has_risen p.0 1 olds news ≡ true → KeepsRule size (printed now) at (Refused DiskFault)
gives_up at p olds news log now size is legal flies primary risen =
    may_give_up size (printed now) at p legal flies (met_primary at p olds news log now is primary) (subst (λ (l : Log). HasMet at p.0 l) (sym is) (met_there at p.0 1 olds news log risen))
    (subst (λ (l : Log). fails_now at (printed l) ≡ true) (sym is) (fails_behind at p.0 olds news log risen))

-- and comes in its turn
pub give_up_turn : (past : Past) (at : At) → Flying past at → InTurn past at (Refused DiskFault)
give_up_turn past at flies = later_turn past at (Refused DiskFault) refl (inr (λ none. absurd (let no = sym flies.open_is ∙ none in cc)))
