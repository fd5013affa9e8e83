-- How far a line has come, its job and what a settle has left, behind faults of disks that were met.
use Rattle.std.proofs.Common.{◌≡◌, ◌<◌, ◌∷◌, ℕ, false, map, inl, inr, refl, ◌∙◌, sym, subst}
use Rattle.std.proofs.lemmas.List.Elements.{All-weaker}
use Rattle.nrt_base.specs.declared.numbers.At.{At}
use Rattle.nrt_base.specs.declared.numbers.NodeNo.{NodeNo}
use Rattle.history_rules.specs.declared.cause.FaultKind.{FaultKind}
use Rattle.history_rules.specs.Nodes.{Past}
use Rattle.history_rules.specs.Lines.{same_at, last_of_line, start_entry, highest_switched}
use Rattle.history_rules.specs.FaultLaws.{faulted}
use Rattle.history_rules.proofs.FaultLaws.{both}
use Rattle.history_tables.specs.Begins.{open_line}
use Rattle.history_book.specs.Log.{Log, printed}
use Rattle.history_book.specs.Jobs.{job_of}
use Rattle.cluster_nodes.specs.declared.tasks.SettleTask.{SettleTask}
use Rattle.cluster_state.specs.Run.{Run}
use Rattle.cluster_state.specs.Met.{failures_by_plan, fault_by}
use Rattle.cluster_state.specs.DueFaults.{with_due}
use Rattle.cluster_state.specs.GivesUp.{met_log}
use Rattle.cluster_state.specs.Settles.{IsLeft, IsSettling}
use Rattle.cluster_state.proofs.Faulted.{met_has}
use Rattle.cluster_state.proofs.FilesDue.{due_has}
use Rattle.cluster_state.proofs.Behind.{open_over}

high_over : (at by : At) (n : NodeNo) (kind : FaultKind) (past : Past) → highest_switched at (faulted by n kind past) ≡ highest_switched at past
high_over at by n kind past = both (same_at by at) (highest_switched at past)

left_over : (size : ℕ) (past : Past) (at by : At) (n : NodeNo) (kind : FaultKind) (v : ℕ) (m : NodeNo) → IsLeft size past at v m → IsLeft size (faulted by n kind past) at v m
left_over size past at by n kind v m left = record {
  node = left.node;
  replica = left.replica;
  ordered = λ alive. elim (left.ordered (record { node = alive.node })) [
    | inl low ↦ inl (subst (λ (k : ℕ). k < m.0) (sym (high_over at by n kind past)) low)
    | inr reached ↦ inr reached
  ];
}

-- a settle has left what it had
settling_over : (size : ℕ) (past : Past) (at by : At) (n : NodeNo) (kind : FaultKind) (task : SettleTask) → IsSettling size past at task → IsSettling size (faulted by n kind past) at task
settling_over size past at by n kind task s = record {
  started = s.started;
  is_open = λ none. s.is_open (sym (open_over at by n kind past) ∙ none);
  left = All-weaker (IsLeft size past at task.version.0) (IsLeft size (faulted by n kind past) at task.version.0) (left_over size past at by n kind task.version.0) task.left.items s.left;
  ascending = s.ascending;
  reached = λ m node replica alive. s.reached m node replica (record { node = alive.node });
}

module _ (at : At) (old new : Run) where
  -- what holds behind one fault holds behind those that were met
  pub met_all : (P : Log → Type 0) → ((n : ℕ) (kind : FaultKind) (log : Log) → P log → P (fault_by false at n kind ∷ log)) → P old.log → P (met_log at old new)
  met_all P one was = met_has P false at one 1 (map failures_by_plan old.rest.plans) (map failures_by_plan new.rest.plans) old.log was

  pub met_last : last_of_line at (printed (met_log at old new)) ≡ last_of_line at (printed old.log)
  met_last = met_all (λ l. last_of_line at (printed l) ≡ last_of_line at (printed old.log)) (λ n kind l is. both (same_at at at) (last_of_line at (printed l)) ∙ is) refl

  pub met_start : start_entry at (printed (met_log at old new)) ≡ start_entry at (printed old.log)
  met_start = met_all (λ l. start_entry at (printed l) ≡ start_entry at (printed old.log)) (λ n kind l is. is) refl

  pub met_open : open_line at (printed (met_log at old new)) ≡ open_line at (printed old.log)
  met_open = met_all (λ l. open_line at (printed l) ≡ open_line at (printed old.log)) (λ n kind l is. open_over at at (record { 0 = n }) kind (printed l) ∙ is) refl

  pub met_high : highest_switched at (printed (met_log at old new)) ≡ highest_switched at (printed old.log)
  met_high = met_all (λ l. highest_switched at (printed l) ≡ highest_switched at (printed old.log)) (λ n kind l is. high_over at at (record { 0 = n }) kind (printed l) ∙ is) refl

  pub met_job : (lane : ℕ) → job_of lane (met_log at old new) ≡ job_of lane old.log
  met_job lane = met_all (λ l. job_of lane l ≡ job_of lane old.log) (λ n kind l is. is) refl

  pub met_settling : (size : ℕ) (task : SettleTask) → IsSettling size (printed old.log) at task → IsSettling size (printed (met_log at old new)) at task
  met_settling size task was = met_all (λ l. IsSettling size (printed l) at task) (λ n kind l s. settling_over size (printed l) at at (record { 0 = n }) kind task s) was

-- so they are behind the faults that the next file meets
module _ (at by : At) (m : ℕ) (log : Log) where
  pub due_start : start_entry at (printed (with_due false by m log)) ≡ start_entry at (printed log)
  due_start = due_has (λ l. start_entry at (printed l) ≡ start_entry at (printed log)) false by (λ n kind l is. is) m log refl

  pub due_open : open_line at (printed (with_due false by m log)) ≡ open_line at (printed log)
  due_open = due_has (λ l. open_line at (printed l) ≡ open_line at (printed log)) false by (λ n kind l is. open_over at by (record { 0 = n }) kind (printed l) ∙ is) m log refl

  pub due_high : highest_switched at (printed (with_due false by m log)) ≡ highest_switched at (printed log)
  due_high = due_has (λ l. highest_switched at (printed l) ≡ highest_switched at (printed log)) false by (λ n kind l is. high_over at by (record { 0 = n }) kind (printed l) ∙ is) m log refl

  pub due_settling : (size : ℕ) (task : SettleTask) → IsSettling size (printed log) at task → IsSettling size (printed (with_due false by m log)) at task
  due_settling size task was = due_has (λ l. IsSettling size (printed l) at task) false by (λ n kind l s. settling_over size (printed l) at by (record { 0 = n }) kind task s) m log was

pub due_job : (lane : ℕ) (by : At) (m : ℕ) (log : Log) → job_of lane (with_due false by m log) ≡ job_of lane log
due_job lane by m log = due_has (λ l. job_of lane l ≡ job_of lane log) false by (λ n kind l is. is) m log refl
