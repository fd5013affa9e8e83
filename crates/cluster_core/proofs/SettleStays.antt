-- A settle goes on with what was left, behind each step of the job of its first replica.
use Rattle.std.proofs.Common.{◌≡◌, ◌≢◌, ◌≤◌, ◌<◌, ◌==◌, ◌⊎◌, ℕ, Bool, true, false, List, ◌∷◌, Some, None, Option, max, refl, ap, ◌∙◌, sym, subst, if◌then◌else◌, inl, inr, arith}
use Rattle.std.specs.List.{All, Contains}
use Rattle.std.specs.Prelude.{Result, Ok, Err, IfOk, OnOk}
use Rattle.std.specs.declared.alloc.AllocError.{AllocError}
use Rattle.std.proofs.lemmas.Bool.Decides.{nat_tests}
use Rattle.std.proofs.lemmas.List.Elements.{All-get_or, All-from_get_or}
use Rattle.std.proofs.lemmas.Option.{same_Some}
use Rattle.nrt_base.specs.declared.numbers.At.{At}
use Rattle.nrt_base.specs.declared.numbers.NodeNo.{NodeNo}
use Rattle.nrt_base.specs.declared.numbers.Version.{Version}
use Rattle.history_rules.specs.declared.cause.Cause.TheVariants.{DiskFault}
use Rattle.history_rules.specs.declared.entry.Event.{Event}
use Rattle.history_rules.specs.declared.entry.Event.TheVariants.{Switched, Settling, Refused}
use Rattle.history_rules.specs.Nodes.{Past, newest_version, version_of}
use Rattle.history_rules.specs.Lines.{start_entry, before_start, highest_switched}
use Rattle.history_rules.specs.Legal.{IsLegalPast}
use Rattle.history_tables.specs.declared.jobs.JobRow.{JobRow}
use Rattle.history_tables.specs.Begins.{open_line}
use Rattle.history_tables.proofs.RowLemmas.{same_at_self, refused_closed}
use Rattle.history_book.specs.Log.{Log, printed, shown}
use Rattle.history_book.proofs.ReignLaws.{start_kept}
use Rattle.cluster_state.specs.Given.{FileTask, SettleTask}
use Rattle.cluster_state.specs.Run.{Run, IsNow}
use Rattle.cluster_state.specs.GivesUp.{met_log}
use Rattle.cluster_state.specs.Copies.{ended_log}
use Rattle.cluster_state.specs.Settles.{IsLeft, IsSettling}
use Rattle.cluster_state.specs.declared.standing.Standing.{Standing}
use Rattle.cluster_state.specs.declared.standing.Standing.TheVariants.{Runs, Passed, Ends}
use Rattle.cluster_state.specs.declared.turn.Turn.{Turn}
use Rattle.cluster_state.specs.declared.turn.Turn.TheVariants.{Work, Done, Busy}
use Rattle.cluster_state.proofs.MetLines.{met_settling, due_settling}
use Rattle.cluster_state.specs.CopyCalls.{standing_of, log_after, stopped_log, JobSteps, AreFrom, SettlesOn}

all_step : (P R Q : NodeNo → Type 0) (xs : List NodeNo) → ((n : NodeNo) → P n → R n → Q n) → All P xs → All R xs → All Q xs
all_step P R Q xs step p r =
    All-from_get_or Q xs (record { 0 = 0 }) (λ i below. step _ (All-get_or P xs i (record { 0 = 0 }) below p) (All-get_or R xs i (record { 0 = 0 }) below r))

high_stays : (h n k : ℕ) → n ≤ k → (n == k) ≡ false → h < k → max h n < k
high_stays h n k low apart high = let other : (n ≡ k) → ⊥ = grind (arith, nat_tests) in omega (arith, low, other, high)

-- a node that is left stays so, while the one that switched is not above it
left_stays : (size : ℕ) (past : Past) (at : At) (n : NodeNo) (v : Version) (w : ℕ) (k : NodeNo) → w ≤ v.0 → IsLeft size past at w k → n.0 ≤ k.0 → IsLeft size (record { at = at; event = Switched n v } ∷ past) at w k
left_stays size past at n v w k reached left low = record {
  node = left.node;
  replica = left.replica;
  ordered = λ alive. by (n.0 == k.0) refl (left.ordered (record { node = alive.node }));
}
  where
    by : (b : Bool) → (n.0 == k.0) ≡ b → (highest_switched at past < k.0) ⊎ (w ≤ version_of k.0 past)
        → (highest_switched at (record { at = at; event = Switched n v } ∷ past) < k.0) ⊎ (w ≤ (if b then v.0 else version_of k.0 past))
    by true is old = inr reached
    by false is (inl high) = inl (rw (same_at_self at) (high_stays (highest_switched at past) n.0 k.0 low is high))
    by false is (inr was) = inr was

reached_stays : (past : Past) (n : NodeNo) (v : Version) (w : ℕ) (m : NodeNo) (left : Type 0) → w ≤ v.0 → left ⊎ (w ≤ version_of m.0 past) → left ⊎ (w ≤ (if n.0 == m.0 then v.0 else version_of m.0 past))
reached_stays past n v w m left reached (inl is) = inl is
reached_stays past n v w m left reached (inr was) = inr (by (n.0 == m.0))
  where
    by : (b : Bool) → w ≤ (if b then v.0 else version_of m.0 past)
    by true = reached
    by false = was

switched_stays : (size : ℕ) (past : Past) (at : At) (left : SettleTask) (n : NodeNo) (v : Version) → left.version.0 ≤ v.0 → AreFrom n left.left.items → IsSettling size past at left
    → IsSettling size (record { at = at; event = Switched n v } ∷ past) at left
switched_stays size past at left n v reached from settling = record {
  started = settling.started;
  is_open = rw (same_at_self at) settling.is_open;
  left = all_step (IsLeft size past at left.version.0) (λ m. n.0 ≤ m.0) (IsLeft size (record { at = at; event = Switched n v } ∷ past) at left.version.0) left.left.items
      (λ k was low. left_stays size past at n v left.version.0 k reached was low) settling.left from;
  ascending = settling.ascending;
  reached = λ m node replica alive. reached_stays past n v left.version.0 m (Contains left.left.items m) reached (settling.reached m node replica (record { node = alive.node }));
}

module _ (size : ℕ) (at : At) (left : SettleTask) where
  abbrev At_log : Log → Type 0
  At_log log = IsSettling size (printed log) at left

  abbrev On_log : Log → Type 0
  On_log log = open_line at (printed log) ≢ None → IsSettling size (printed log) at left

  stopped_stays : (standing : Standing) (log now : Log) → log_after at standing log ≡ Some now → At_log log → On_log now
  stopped_stays Runs log now is settling line = absurd (cc)
  stopped_stays Passed log now is settling line = subst At_log (same_Some log now is) settling
  stopped_stays (Ends cause) log now is settling line =
      absurd (line (ap (λ (l : Log). open_line at (printed l)) (sym (same_Some (shown at (Refused cause) ∷ log) now is)) ∙ refused_closed at (printed log) cause))

-- the line of the job settles on
steps_on : (size : ℕ) (row : JobRow) (left : SettleTask) (s new : Run) (turn : Turn FileTask) → size ≡ s.nodes → IsSettling size (printed s.log) row.job.at left → AreFrom row.job.node left.left.items
    → left.version.0 ≤ row.job.version.0 → JobSteps (stopped_log (Settling left.version) row s.log) row.job s new turn → SettlesOn row.job.at left new
steps_on size row left s new turn nodes settling from reached steps = by (stopped_log (Settling left.version) row s.log) refl turn steps
  where
    here : IsSettling size (printed (met_log row.job.at s new)) row.job.at left
    here = met_settling row.job.at s new size left settling

    whole : (log : Log) → new.nodes ≡ s.nodes → new.log ≡ log → (open_line row.job.at (printed log) ≢ None → IsSettling size (printed log) row.job.at left) → SettlesOn row.job.at left new
    whole log same is on = subst (λ (x : ℕ × Log). open_line row.job.at (printed x.1) ≢ None → IsSettling x.0 (printed x.1) row.job.at left) (λ i. ((nodes ∙ sym same) i, sym is i)) on

    by : (o : Option Log) → stopped_log (Settling left.version) row s.log ≡ o → (turn : Turn FileTask) → JobSteps o row.job s new turn → SettlesOn row.job.at left new
    by (Some log) is turn steps =
        whole log steps.1.nodes steps.1.log (stopped_stays size row.job.at left (standing_of (Settling left.version) row (printed s.log)) s.log log is settling)
    by None is (Work file) steps =
        whole _ steps.now.nodes steps.now.log (λ line. due_settling row.job.at row.job.at row.job.node.0 (met_log row.job.at s new) size left here)
    by None is Done (inl ends) =
        let now = subst (λ (o : Option Event). IsNow s new (ended_log row.job o (met_log row.job.at s new))) settling.started ends in
        whole _ now.nodes now.log (λ line. switched_stays size (printed (met_log row.job.at s new)) row.job.at left row.job.node row.job.version reached from here)
    by None is Done (inr refused) = whole _ refused.now.nodes refused.now.log (λ line. absurd (line (refused_closed row.job.at (printed (met_log row.job.at s new)) DiskFault)))
    by None is Busy steps = absurd steps

-- ---- in the terms of a call

pub next_settles : (size : ℕ) (at : At) (task : NodeNo) (row : JobRow) (left : SettleTask) (s r new : Run) (l : Log) (result : Result (Turn FileTask) AllocError) → s ≡ r → l ≡ s.log → row.job.at ≡ at → row.job.node ≡ task
    → IsLegalPast size (printed s.log) → newest_version (before_start row.job.at (printed l)) ≤ row.job.version.0
    → IfOk result (λ turn. (begun : Event) → start_entry row.job.at (printed s.log) ≡ Some begun → JobSteps (stopped_log begun row s.log) row.job s new turn)
    → IsSettling r.nodes (printed r.log) at left → AreFrom task left.left.items → OnOk result (SettlesOn at left new)
next_settles size at task row left s r new l (Err e) view same at_is node_is legal newest ok settling from = tt
next_settles size at task row left s r new l (Ok turn) view same at_is node_is legal newest ok settling from =
    let here : IsSettling s.nodes (printed s.log) row.job.at left =
    subst (λ (x : Run × At). IsSettling x.0.nodes (printed x.0.log) x.1 left) (λ i. (sym view i, sym at_is i)) settling in
    let start = (start_kept size row.job.at (printed s.log) (Settling left.version) legal here.started).newest in
    let reached : left.version.0 ≤ row.job.version.0 =
    subst (λ (k : ℕ). k ≤ row.job.version.0) (sym start) (subst (λ (x : Log). newest_version (before_start row.job.at (printed x)) ≤ row.job.version.0) same newest) in
    subst (λ (a : At). SettlesOn a left new) at_is
    (steps_on s.nodes row left s new turn refl here (subst (λ (n : NodeNo). AreFrom n left.left.items) (sym node_is) from) reached (ok (Settling left.version) here.started))
