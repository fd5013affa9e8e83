-- What lines that commit, crash and reopen find of the log, and that others have no commit.
use Rattle.std.proofs.Common.{◌≡◌, ◌≢◌, ◌==◌, ◌&&◌, ℕ, zero, suc, Bool, true, false, true≢false, List, [], ◌∷◌, Some, None, Option, Ok, Err, Result, refl, ap, ◌∙◌, sym, subst, if◌then◌else◌, inl, inr}
use Rattle.std.specs.Prelude.{not, OnOk, unwrap_or}
use Rattle.std.specs.List.{slice_get}
use Rattle.std.proofs.lemmas.Result.{on_ok_weaker}
use Rattle.std.proofs.lemmas.Bool.{eq-eqb}
use Rattle.nrt_base.specs.declared.numbers.At.{At}
use Rattle.nrt_base.specs.declared.numbers.NodeNo.{NodeNo}
use Rattle.nrt_base.specs.declared.numbers.TicketNo.{TicketNo}
use Rattle.nrt_base.specs.declared.numbers.Version.{Version}
use Rattle.disk_model.specs.Faults.{Plans, ended}
use Rattle.history_rules.specs.declared.cause.Cause.TheVariants.{Down, Up, Lost}
use Rattle.history_rules.specs.declared.entry.Event.{Event}
use Rattle.history_rules.specs.declared.entry.Event.TheVariants.{Copying, Settling, Opened, Asking, Committing, Committed, Crashed, Refused, Reopened}
use Rattle.history_rules.specs.Nodes.{Past, is_running, is_at, primary_of, crashes}
use Rattle.history_rules.specs.Lines.{entries_of_line, start_entry, before_start, commit_in_flight}
use Rattle.history_rules.specs.Started.{StartedSearch}
use Rattle.history_rules.specs.Legal.{IsLegalPast}
use Rattle.history_book.specs.Jobs.{StartsJob}
use Rattle.history_book.specs.Log.{Log, printed, shown}
use Rattle.history_book.specs.Turns.{AreInTurn}
use Rattle.history_book.proofs.FreshLaws.{fresh}
use Rattle.history_book.proofs.FoundLaws.{commit_found}
use Rattle.history_book.proofs.CommitLaws.{commit_flies}
use Rattle.script_serving.specs.Refusals.{when}
use Rattle.cluster_state.specs.FileChanges.{is_commit_line}
use Rattle.cluster_state.specs.Run.{Run, no_plans, plans_at, IsNow}
use Rattle.cluster_state.specs.GivesUp.{met_log}
use Rattle.cluster_state.specs.Lives.{StepsCommit, reopen_reply, Reopens, MakesCall, MakesCommit, StopsCommit}
use Rattle.cluster_state.specs.declared.turn.Turn.TheVariants.{Work, Done}
use Rattle.cluster_state.specs.Calls.{by_refusal, LineRefused}
use Rattle.cluster_state.specs.LifeCalls.{CommitSteps, crash_event, crashed_tasks, is_primary, crashed_plans, ReopensNode, CommitEndsBy}
use Rattle.cluster_state.proofs.Behind.{met_none, now_still}

-- ---- a line that is no commit

pub fresh_no_commit : (past : Past) (at : At) → entries_of_line at past ≡ [] → is_commit_line (start_entry at past) ≡ false
fresh_no_commit past at none = ap is_commit_line (fresh at past none).begun

search_apart : (n : NodeNo) (t : TicketNo) (v : Version) (o : Option Event) → StartedSearch n t v o → is_commit_line o ≡ false
search_apart n t v (Some (Opened m u w)) started = refl
search_apart n t v (Some (Asking m u w)) started = refl
search_apart n t v o started = absurd started

pub search_no_commit : (past : Past) (at : At) (n : NodeNo) (t : TicketNo) (v : Version) → StartedSearch n t v (start_entry at past) → is_commit_line (start_entry at past) ≡ false
search_no_commit past at n t v started = search_apart n t v (start_entry at past) started

job_apart : (start : Past) (n v : ℕ) (o : Option Event) → StartsJob start n v o → is_commit_line o ≡ false
job_apart start n v (Some (Copying m w)) starts = refl
job_apart start n v (Some (Settling w)) starts = refl
job_apart start n v o starts = absurd starts

pub job_no_commit : (past : Past) (at : At) (n v : ℕ) → StartsJob (before_start at past) n v (start_entry at past) → is_commit_line (start_entry at past) ≡ false
job_no_commit past at n v starts = job_apart (before_start at past) n v (start_entry at past) starts

-- in the terms of a call, whose book has this log
pub job_line : (log l : Log) (at : At) (n v : ℕ) → l ≡ log → StartsJob (before_start at (printed l)) n v (start_entry at (printed l)) → is_commit_line (start_entry at (printed log)) ≡ false
job_line log l at n v same starts = subst (λ (x : Log). is_commit_line (start_entry at (printed x)) ≡ false) same (job_no_commit (printed l) at n v starts)

-- ---- a commit whose node has crashed

same_node : (m n : NodeNo) (v w : Version) → ◌≡◌ {A = Option Event} (Some (Committing m v)) (Some (Committing n w)) → m ≡ n
same_node m n v w same = cc

-- it is in flight at no node
pub lost_apart : (size : ℕ) (past : Past) (at : At) (n : NodeNo) (v : Version) → IsLegalPast size past → AreInTurn past → start_entry at past ≡ Some (Committing n v)
    → (crashes n.0 past == crashes n.0 (before_start at past)) ≡ false → (m : ℕ) → commit_in_flight m past ≢ Some at
lost_apart size past at n v legal turns is crashed m flight =
    let node : NodeNo = record { 0 = m } in
    let found = commit_found size past node at legal turns flight in
    let same : node ≡ n = same_node node n found.version v (sym found.entry ∙ is) in
    let alive : crashes n.0 past ≡ crashes n.0 (before_start at past) =
    subst (λ (k : NodeNo). crashes k.0 past ≡ crashes k.0 (before_start at past)) same (commit_flies size past node at legal turns flight).alive in
    true≢false (sym (eq-eqb (crashes n.0 past) (crashes n.0 (before_start at past)) alive) ∙ crashed)

-- ---- how a commit goes on

-- the node of a commit in flight runs
pub flying_runs : (n : ℕ) (at : At) (log k l : Log) → k ≡ log → l ≡ log → commit_in_flight n (printed k) ≡ Some at → ((m : ℕ) → is_running m (printed l) ≡ false → commit_in_flight m (printed l) ≡ None)
    → is_running n (printed log) ≡ true
flying_runs n at log k l like same flight idle = tells (is_running n (printed log)) refl
  where
    none : is_running n (printed log) ≡ false → commit_in_flight n (printed log) ≡ None
    none = subst (λ (x : Log). is_running n (printed x) ≡ false → commit_in_flight n (printed x) ≡ None) same (idle n)

    flies : commit_in_flight n (printed log) ≡ Some at
    flies = subst (λ (x : Log). commit_in_flight n (printed x) ≡ Some at) like flight

    tells : (b : Bool) → is_running n (printed log) ≡ b → is_running n (printed log) ≡ true
    tells true is = is
    tells false is = absurd (clash (sym flies ∙ none is))
      where
        clash : ◌≡◌ {A = Option At} (Some at) None → ⊥
        clash same = absurd (cc)

module _ (at : At) (n : NodeNo) (v : Version) (old new : Run) where
  abbrev Survives : Bool
  Survives = crashes n.0 (printed old.log) == crashes n.0 (before_start at (printed old.log))

  pub lost_ends : Survives ≡ false → LineRefused at Lost old new → CommitSteps at n v old new Done
  lost_ends crashed now = subst (λ (b : Bool). CommitEndsBy (not b) at n v old new) (sym crashed) now

  pub commit_done : Survives ≡ true → MakesCommit at n v old new → CommitSteps at n v old new Done
  commit_done alive made = subst (λ (b : Bool). CommitEndsBy (not b) at n v old new) (sym alive) (inl made)

  pub commit_stops : Survives ≡ true → StopsCommit at n old new → CommitSteps at n v old new Done
  commit_stops alive stops = subst (λ (b : Bool). CommitEndsBy (not b) at n v old new) (sym alive) (inr stops)

  pub commit_goes_on : Survives ≡ true → IsNow old new (met_log at old new) × MakesCall n.0 old new → CommitSteps at n v old new (Work tt)
  commit_goes_on alive now = (now.0, ap not alive, now.1)

-- ---- a reopening

-- in the terms of a call, whose book has this log
pub runs_told : (n : ℕ) (log l : Log) (b told : Bool) → l ≡ log → told ≡ is_running n (printed l) → told ≡ b → is_running n (printed log) ≡ b
runs_told n log l b told same is runs = subst (λ (x : Log). is_running n (printed x) ≡ b) same (sym is ∙ runs)

pub reopened : (at : At) (n : NodeNo) (old new : Run) → is_running n.0 (printed old.log) ≡ false → Reopens at n old new → ReopensNode at n old new
reopened at n old new down opens = record {
  version = opens.version;
  now = subst (λ (b : Bool). IsNow old new (shown at (by_refusal (when b Up) (reopen_reply n opens.version)) ∷ met_log at old new)) (sym down) opens.now;
  found = λ here. opens.found;
}

pub unreopened : {T E : Type 0} (result : Result T E) (at : At) (n : NodeNo) (old new : Run) → is_running n.0 (printed old.log) ≡ true → OnOk result (LineRefused at Up old new) → OnOk result (new.rest.plans ≡ old.rest.plans) → OnOk result (ReopensNode at n old new)
unreopened (Ok x) at n old new up now same = record {
  version = None;
  now = subst (λ (z : Bool × Log). IsNow old new (shown at (by_refusal (when z.0 Up) (reopen_reply n None)) ∷ z.1)) (λ i. (sym up i, sym (met_none at old new same) i)) now;
  found = λ down. absurd (true≢false (sym up ∙ down));
}
unreopened (Err e) at n old new up now same = tt

-- ---- a crash

module _ {T E : Type 0} (result : Result T E) (at : At) (n : NodeNo) (old new : Run) where
  abbrev Crashes : Bool → Type 0
  Crashes up = IsNow old new (shown at (by_refusal (when (not up) Down) (Crashed n)) ∷ met_log at old new)

  pub crashed : is_running n.0 (printed old.log) ≡ true → OnOk result (Crashes true) → OnOk result (IsNow old new (shown at (crash_event n (printed old.log)) ∷ met_log at old new))
  crashed up now = subst (λ (b : Bool). OnOk result (Crashes b)) (sym up) now

  pub uncrashed : is_running n.0 (printed old.log) ≡ false → OnOk result (LineRefused at Down old new) → OnOk result (new.rest.plans ≡ old.rest.plans) → OnOk result (IsNow old new (shown at (crash_event n (printed old.log)) ∷ met_log at old new))
  uncrashed down now same = subst (λ (b : Bool). OnOk result (Crashes b)) (sym down) (now_still result at (Refused Down) old new now same)

  pub plans_ended : is_running n.0 (printed old.log) ≡ true → OnOk result (plans_at n.0 new ≡ ended (plans_at n.0 old)) → OnOk result (plans_at n.0 new ≡ crashed_plans (is_running n.0 (printed old.log)) (plans_at n.0 old))
  plans_ended up ends = subst (λ (b : Bool). OnOk result (plans_at n.0 new ≡ crashed_plans b (plans_at n.0 old))) (sym up) ends

  pub tasks_ended : is_running n.0 (printed old.log) ≡ true → OnOk result (new.rest.tasks ≡ crashed_tasks (is_at (primary_of (printed old.log)) n.0) old.rest.tasks)
      → OnOk result (new.rest.tasks ≡ crashed_tasks (is_primary n.0 (printed old.log)) old.rest.tasks)
  tasks_ended up now = subst (λ (b : Bool). OnOk result (new.rest.tasks ≡ crashed_tasks (b && is_at (primary_of (printed old.log)) n.0) old.rest.tasks)) (sym up) now

  pub tasks_stayed : is_running n.0 (printed old.log) ≡ false → OnOk result (new.rest.tasks ≡ old.rest.tasks) → OnOk result (new.rest.tasks ≡ crashed_tasks (is_primary n.0 (printed old.log)) old.rest.tasks)
  tasks_stayed down same = subst (λ (b : Bool). OnOk result (new.rest.tasks ≡ crashed_tasks (b && is_at (primary_of (printed old.log)) n.0) old.rest.tasks)) (sym down) same

  pub plans_stayed : is_running n.0 (printed old.log) ≡ false → OnOk result (new.rest.plans ≡ old.rest.plans) → OnOk result (plans_at n.0 new ≡ crashed_plans (is_running n.0 (printed old.log)) (plans_at n.0 old))
  plans_stayed down same =
      subst (λ (b : Bool). OnOk result (plans_at n.0 new ≡ crashed_plans b (plans_at n.0 old))) (sym down) (on_ok_weaker result (λ is. plans_same n.0 is) same)
    where
      plans_same : (m : ℕ) → new.rest.plans ≡ old.rest.plans → plans_at m new ≡ plans_at m old
      plans_same zero is = refl
      plans_same (suc k) is = ap (λ (l : List Plans). unwrap_or (slice_get l k) no_plans) is
