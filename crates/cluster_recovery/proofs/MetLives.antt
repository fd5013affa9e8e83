-- What is asked of the past before a crash or a promotion is so behind the faults of disks that were met.
use Rattle.std.proofs.Common.{◌≡◌, ◌∙◌, ℕ, true, false, List, None, Option, ap, sym, subst}
use Rattle.nrt_base.specs.declared.numbers.At.{At}
use Rattle.nrt_base.specs.declared.numbers.Gen.{Gen}
use Rattle.nrt_base.specs.declared.numbers.NodeNo.{NodeNo}
use Rattle.nrt_base.specs.declared.numbers.Version.{Version}
use Rattle.history_rules.specs.Nodes.{primary_of, is_running}
use Rattle.history_rules.specs.Lines.{start_entry, is_answered}
use Rattle.history_rules.specs.Rules.{MayPromote}
use Rattle.history_book.specs.Laws.{IsFresh}
use Rattle.history_book.specs.Log.{Log, printed}
use Rattle.history_book.specs.Jobs.{job_at}
use Rattle.cluster_state.specs.Run.{Run}
use Rattle.cluster_state.specs.Met.{with_met}
use Rattle.cluster_state.proofs.Faulted.{met_has}

module _ (at : At) (olds news : List (ℕ × ℕ)) (log : Log) where
  abbrev met : Log
  met = with_met false at 1 olds news log

  pub met_unbegun : start_entry at (printed log) ≡ None → start_entry at (printed met) ≡ None
  met_unbegun was = met_has (λ l. start_entry at (printed l) ≡ None) false at (λ n kind l is. is) 1 olds news log was

  pub met_running : (n : ℕ) → is_running n (printed log) ≡ true → is_running n (printed met) ≡ true
  met_running n was = met_has (λ l. is_running n (printed l) ≡ true) false at (λ n kind l is. is) 1 olds news log was

  pub met_reign : (o : Option NodeNo) → o ≡ primary_of (printed log) → o ≡ primary_of (printed met)
  met_reign o was = met_has (λ l. o ≡ primary_of (printed l)) false at (λ n kind l is. is) 1 olds news log was

  pub met_vacant : primary_of (printed log) ≡ None → primary_of (printed met) ≡ None
  met_vacant was = met_has (λ l. primary_of (printed l) ≡ None) false at (λ n kind l is. is) 1 olds news log was

  pub met_idle : ((m : ℕ) → primary_of (printed log) ≡ None → job_at m log ≡ None) → (m : ℕ) → primary_of (printed met) ≡ None → job_at m met ≡ None
  met_idle was = met_has (λ l. (m : ℕ) → primary_of (printed l) ≡ None → job_at m l ≡ None) false at (λ n kind l is. is) 1 olds news log was

  pub met_promotion : (size later : ℕ) (now : Log) (n : NodeNo) (g : Gen) (forced v : Version) → now ≡ met → later ≡ size → MayPromote size (printed log) n g forced v → MayPromote later (printed now) n g forced v
  met_promotion size later now n g forced v is same was =
      subst (λ (z : ℕ × Log). MayPromote z.0 (printed z.1) n g forced v) (λ i. (sym same i, sym is i))
      (met_has (λ l. MayPromote size (printed l) n g forced v) false at
      (λ m kind l may. record { node = may.node; running = may.running; vacant = may.vacant; next = may.next; high = may.high; low = may.low; above = may.above }) 1 olds news log was)

-- ---- in the terms of a call, whose book has this log

module _ (at : At) {log mid now : Log} (later : now ≡ log) (told : mid ≡ log) (fresh : IsFresh at (printed mid)) where
  -- a line of which nothing stands there has not begun
  pub begun_at : start_entry at (printed now) ≡ None
  begun_at = ap (λ (l : Log). start_entry at (printed l)) (later ∙ sym told) ∙ fresh.begun

  pub unanswered_at : is_answered at (printed now) ≡ false
  unanswered_at = ap (λ (l : Log). is_answered at (printed l)) (later ∙ sym told) ∙ fresh.replied

-- the plans of a cluster that has this state
pub plans_was : (r x : Run) → x ≡ r → r.rest.plans ≡ x.rest.plans
plans_was r x view = sym (ap (λ (y : Run). y.rest.plans) view)
