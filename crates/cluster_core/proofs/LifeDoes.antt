-- What each row of commits, crashes and reopenings does for its line, from the entries that it adds.
use Rattle.std.proofs.Common.{◌≡◌, ◌==◌, ℕ, Bool, ◌∷◌, true, false, map, Some, None, Option, inl, inr, refl, ap, sym, subst, arith}
use Rattle.std.proofs.lemmas.Bool.Decides.{nat_tests}
use Rattle.nrt_base.specs.declared.numbers.At.{At}
use Rattle.nrt_base.specs.declared.numbers.NodeNo.{NodeNo}
use Rattle.nrt_base.specs.declared.numbers.Version.{Version}
use Rattle.history_rules.specs.declared.cause.Cause.{Cause}
use Rattle.history_rules.specs.declared.cause.Cause.TheVariants.{Lost, DiskFault, Up}
use Rattle.history_rules.specs.declared.cause.FaultPlan.{FaultPlan}
use Rattle.history_rules.specs.declared.entry.Event.TheVariants.{Committing, Committed, Crashed, Reopened, Planned, Refused}
use Rattle.history_rules.specs.Nodes.{is_running}
use Rattle.history_rules.specs.Faults.{has_fault, is_of_disk}
use Rattle.history_rules.specs.Lines.{is_reply, is_answered, last_of_line, before_start}
use Rattle.history_rules.specs.Started.{is_lost}
use Rattle.history_tables.proofs.RowLemmas.{same_at_self}
use Rattle.history_book.specs.Laws.{IsFresh}
use Rattle.history_book.specs.Log.{printed, shown}
use Rattle.history_book.specs.Turns.{AreInTurn}
use Rattle.script_serving.specs.declared.script.LineCommand.TheVariants.{Commit, Crash, Reopen, Fault}
use Rattle.script_serving.specs.Refusals.{when, without_node}
use Rattle.cluster_state.specs.Given.{CommitTask}
use Rattle.cluster_state.specs.Run.{Run, IsNow}
use Rattle.cluster_state.specs.declared.turn.Turn.{Turn}
use Rattle.cluster_state.specs.declared.turn.Turn.TheVariants.{Work, Done, Busy}
use Rattle.cluster_recovery.specs.Planning.{PlansFault}
use Rattle.cluster_core.specs.Doing.{Does, IsReplied, IsRepliedAtDone, IsBegunAtWork}
use Rattle.cluster_state.specs.GivesUp.{met_log, disk_failed}
use Rattle.cluster_state.specs.Calls.{by_refusal}
use Rattle.cluster_state.specs.Met.{failures_by_plan}
use Rattle.cluster_state.specs.Lives.{reopen_reply, MayReopenAt}
use Rattle.cluster_state.proofs.Planned.{met_there}
use Rattle.cluster_state.specs.LifeCalls.{CommitStarts, CommitEndsBy, CommitSteps, crash_event, with_node, ReopensNode}
use Rattle.cluster_core.proofs.Does.{row_does, reply_by, none_does, refused_for_does, refused_for_replied, begun_by, one_does, later_suits, started_unanswered, one_replied}
use Rattle.cluster_core.proofs.MetDoes.{Meets, met_here, none_behind, one_behind, later_behind, refused_behind, row_behind, top_replied}
use Rattle.cluster_state.proofs.Rows.{up_unrefused}

-- ---- commits

pub commit_does : (at : At) (n : NodeNo) (old new : Run) (turn : Turn CommitTask) → old.ended ≡ false → IsFresh at (printed old.log) → CommitStarts at n old new turn → Does (Commit n) at old new
commit_does at n old new (Work task) running fresh starts =
    row_does (Commit n) at old new None (Committing n task.version) (λ suits. suits) fresh (up_unrefused n.0 (printed old.log) starts.1) starts.0.now refl
commit_does at n old new Done running fresh starts = refused_for_does (Commit n) at old new (without_node n.0 (printed old.log)) fresh refl starts
commit_does at n old new Busy running fresh starts =
    none_does (Commit n) at old new (subst (λ (r : Run). IsNow old r old.log) (sym starts.0) (record { running = running; nodes = refl; log = refl }))

pub commit_replied : (at : At) (n : NodeNo) (old new : Run) (turn : Turn CommitTask) → CommitStarts at n old new turn → IsRepliedAtDone at new turn
commit_replied at n old new (Work task) starts = tt
commit_replied at n old new Done starts = refused_for_replied at old new (without_node n.0 (printed old.log)) starts
commit_replied at n old new Busy starts = tt

pub commit_begun : (at : At) (n : NodeNo) (old new : Run) (turn : Turn CommitTask) → IsFresh at (printed old.log) → CommitStarts at n old new turn
    → IsBegunAtWork at (λ task. Committing n task.version) new turn
commit_begun at n old new (Work task) fresh starts = begun_by at old new (Committing n task.version) refl (rw (same_at_self at) refl) fresh (ap printed starts.0.now.log)
commit_begun at n old new Done fresh starts = tt
commit_begun at n old new Busy fresh starts = tt

pub step_does : (at : At) (n : NodeNo) (v : Version) (old new : Run) (turn : Turn (Unit {0})) → last_of_line at (printed old.log) ≡ Some (Committing n v) → AreInTurn (printed old.log)
    → CommitSteps at n v old new turn → Does (Commit n) at old new
step_does at n v old new (Work made) last turns steps =
    none_behind (Commit n) at old new (met_log at old new) (met_here (Commit n) at old new (started_unanswered at (printed old.log) (Committing n v) turns refl last)) steps.0
step_does at n v old new Done last turns steps = by (is_lost (printed old.log) (before_start at (printed old.log)) (Committing n v)) steps
  where
    unanswered : is_answered at (printed old.log) ≡ false
    unanswered = started_unanswered at (printed old.log) (Committing n v) turns refl last

    m : Meets false (Commit n) at old.log (met_log at old new)
    m = met_here (Commit n) at old new unanswered

    by : (b : Bool) → CommitEndsBy b at n v old new → Does (Commit n) at old new
    by true now = one_does (Commit n) at old new (Refused Lost) now (later_suits (Commit n) at (printed old.log) (Committing n v) (Refused Lost) last unanswered refl)
    by false (inl made) =
        one_behind (Commit n) at old new (Committed n made.version) (met_log at old new) m made.now (later_behind (Commit n) at old.log (met_log at old new) (Committing n v) (Committed n made.version) m last refl)
    by false (inr stopped) =
        one_behind (Commit n) at old new (Refused DiskFault) (met_log at old new) m stopped.now (later_behind (Commit n) at old.log (met_log at old new) (Committing n v) (Refused DiskFault) m last refl)
step_does at n v old new Busy last turns steps = absurd steps

pub step_replied : (at : At) (n : NodeNo) (v : Version) (old new : Run) (turn : Turn (Unit {0})) → CommitSteps at n v old new turn → IsRepliedAtDone at new turn
step_replied at n v old new (Work made) steps = tt
step_replied at n v old new Done steps = by (is_lost (printed old.log) (before_start at (printed old.log)) (Committing n v)) steps
  where
    by : (b : Bool) → CommitEndsBy b at n v old new → IsReplied at new
    by true now = one_replied at old new (Refused Lost) refl now
    by false (inl made) = top_replied at new (Committed n made.version) (met_log at old new) refl made.now.log
    by false (inr stopped) = top_replied at new (Refused DiskFault) (met_log at old new) refl stopped.now.log
step_replied at n v old new Busy steps = absurd steps

-- ---- crashes and reopenings

pub crash_does : (at : At) (n : NodeNo) (pick : ℕ) (old new : Run) → IsFresh at (printed old.log) → IsNow old new (shown at (crash_event n (printed old.log)) ∷ met_log at old new) → Does (Crash n pick) at old new
crash_does at n pick old new fresh now =
    row_behind (Crash n pick) at old new (without_node n.0 (printed old.log)) (Crashed n) (met_log at old new) (met_here (Crash n pick) at old new fresh.replied) (λ suits. suits) fresh refl now refl

pub crash_replied : (at : At) (n : NodeNo) (old new : Run) → IsNow old new (shown at (crash_event n (printed old.log)) ∷ met_log at old new) → IsReplied at new
crash_replied at n old new now = top_replied at new (crash_event n (printed old.log)) (met_log at old new) (reply_by (without_node n.0 (printed old.log)) (Crashed n) refl) now.log

-- a fault of the node's disk stands there, where one rose
failed_there : (at : At) (n : ℕ) (old new : Run) → disk_failed n old new ≡ true → has_fault (λ m. m == n) is_of_disk at (printed (met_log at old new)) ≡ true
failed_there at n old new risen =
    subst (λ (node : ℕ → Bool). has_fault node is_of_disk at (printed (met_log at old new)) ≡ true) (λ i m. same_numbers n m i)
    (met_there at n 1 (map failures_by_plan old.rest.plans) (map failures_by_plan new.rest.plans) old.log risen)
  where
    same_numbers : (n m : ℕ) → (n == m) ≡ (m == n)
    same_numbers n m = grind (arith, nat_tests)

-- the node reopened at a version, or its disk failed
opens_down : (at : At) (n : NodeNo) (old new : Run) (version : Option Version) → IsFresh at (printed old.log) → with_node n.0 (printed old.log) ≡ None → IsNow old new (shown at (reopen_reply n version) ∷ met_log at old new)
    → MayReopenAt n.0 version old new → Does (Reopen n) at old new
opens_down at n old new (Some v) fresh is now found =
    row_behind (Reopen n) at old new None (Reopened n v) (met_log at old new) (met_here (Reopen n) at old new fresh.replied) (λ suits. suits) fresh is now refl
opens_down at n old new None fresh is now found =
    row_behind (Reopen n) at old new None (Refused DiskFault) (met_log at old new) (met_here (Reopen n) at old new fresh.replied) (λ suits. suits) fresh is now (failed_there at n.0 old new found)

pub reopen_does : (at : At) (n : NodeNo) (old new : Run) → IsFresh at (printed old.log) → ReopensNode at n old new → Does (Reopen n) at old new
reopen_does at n old new fresh opens = by (is_running n.0 (printed old.log)) refl
  where
    by : (b : Bool) → is_running n.0 (printed old.log) ≡ b → Does (Reopen n) at old new
    by true is =
        let up : with_node n.0 (printed old.log) ≡ Some Up = ap (λ (b : Bool). when b Up) is in
        refused_behind (Reopen n) at old new Up (met_log at old new) (met_here (Reopen n) at old new fresh.replied) fresh up
        (subst (λ (o : Option Cause). IsNow old new (shown at (by_refusal o (reopen_reply n opens.version)) ∷ met_log at old new)) up opens.now)
    by false is =
        let down : with_node n.0 (printed old.log) ≡ None = ap (λ (b : Bool). when b Up) is in
        opens_down at n old new opens.version fresh down (subst (λ (o : Option Cause). IsNow old new (shown at (by_refusal o (reopen_reply n opens.version)) ∷ met_log at old new)) down opens.now) (opens.found is)

pub reopen_replied : (at : At) (n : NodeNo) (old new : Run) → ReopensNode at n old new → IsReplied at new
reopen_replied at n old new opens =
    top_replied at new (by_refusal (with_node n.0 (printed old.log)) (reopen_reply n opens.version)) (met_log at old new) (reply_by (with_node n.0 (printed old.log)) (reopen_reply n opens.version) (is_told opens.version)) opens.now.log
  where
    is_told : (version : Option Version) → is_reply (reopen_reply n version) ≡ true
    is_told (Some v) = refl
    is_told None = refl

-- ---- plans

pub fault_does : (at : At) (n : NodeNo) (plan : FaultPlan) (old new : Run) → IsFresh at (printed old.log) → PlansFault at n plan old new → Does (Fault n plan) at old new
fault_does at n plan old new fresh plans = row_does (Fault n plan) at old new None (Planned n plan) (λ suits. suits) fresh refl plans.now (refl, refl)

pub fault_replied : (at : At) (n : NodeNo) (plan : FaultPlan) (old new : Run) → PlansFault at n plan old new → IsReplied at new
fault_replied at n plan old new plans = one_replied at old new (Planned n plan) refl plans.now
