-- What merge and drain lines do for them, and what calls of tasks do for whoever took the task, from the entries that they add.
use Rattle.std.proofs.Common.{◌≡◌, ◌≢◌, ◌≤◌, ◌==◌, ◌⊎◌, ℕ, Bool, true, false, List, [], ◌∷◌, ◌++◌, Option, Some, None, is_some, map, refl, ap, ◌∙◌, sym, subst, inl, inr, true≢false}
use Rattle.std.specs.Prelude.{Result, Ok, Err, OnOk, is_none}
use Rattle.nrt_base.specs.SegNumbers.{segments_of_generation}
use Rattle.nrt_base.specs.declared.numbers.At.{At}
use Rattle.nrt_base.specs.declared.numbers.LineNo.{LineNo}
use Rattle.nrt_base.specs.declared.numbers.NodeNo.{NodeNo}
use Rattle.nrt_base.specs.declared.numbers.SegNo.{SegNo}
use Rattle.history_rules.specs.declared.cause.Cause.{Cause}
use Rattle.history_rules.specs.declared.cause.Cause.TheVariants.{NoPrimary, Nothing, NamesSpent}
use Rattle.history_rules.specs.declared.cause.FaultKind.{FaultKind}
use Rattle.history_rules.specs.declared.entry.Event.TheVariants.{Merging, Drained, Fault, Refused}
use Rattle.history_rules.specs.Nodes.{primary_of}
use Rattle.history_rules.specs.Lines.{same_at, is_answered}
use Rattle.history_tables.proofs.RowLemmas.{same_at_self}
use Rattle.history_book.specs.Laws.{IsFresh}
use Rattle.history_book.specs.Log.{Log, printed, shown, kept, name_by, name_inside, FollowsMerging, FaultsFollow}
use Rattle.link_model.specs.declared.fate.Fate.{Fate}
use Rattle.link_model.specs.declared.fate.Fate.TheVariants.{Whole, Fail, Damage}
use Rattle.history_book.specs.declared.inner.Inner.TheVariants.{MergeOut, MergeEnd, JobBegun, FileOut, TaskOut, TaskEnd}
use Rattle.history_book.specs.declared.inner.Inner.{Inner}
use Rattle.history_book.specs.declared.inner.Step.{Step}
use Rattle.history_book.specs.declared.inner.Step.TheVariants.{Merge as MergeStep, PreCopy as PreCopyStep, Cut as CutStep}
use Rattle.script_serving.specs.declared.script.LineCommand.{LineCommand}
use Rattle.script_serving.specs.declared.script.LineCommand.TheVariants.{Merge, Drain}
use Rattle.script_serving.specs.Refusals.{when, may_be_refused}
use Rattle.script_serving.specs.Serves.{First}
use Rattle.merge_tasks.specs.declared.tasks.Task.{Task}
use Rattle.merge_tasks.specs.declared.tasks.Sent.{Sent}
use Rattle.history_book.specs.Chosen.{TakesFirst}
use Rattle.history_book.specs.Told.{counted_for}
use Rattle.merge_tasks.specs.Board.{step_of}
use Rattle.cluster_state.specs.Given.{FileTask}
use Rattle.cluster_state.specs.Run.{Run, IsNow}
use Rattle.cluster_state.specs.Met.{failures_by_plan, fault_by}
use Rattle.cluster_state.specs.DueFaults.{with_due}
use Rattle.cluster_state.specs.GivesUp.{task_met_log}
use Rattle.cluster_state.proofs.Faulted.{met_has}
use Rattle.cluster_state.proofs.FilesDue.{due_has}
use Rattle.cluster_merges.specs.MergePaths.{IsAsBefore, TakesTask, EndsBuild, EndsMerge, EndsCopyTask, begun_log}
use Rattle.cluster_state.specs.declared.turn.Turn.{Turn}
use Rattle.cluster_state.specs.declared.turn.Turn.TheVariants.{Work, Done, Busy}
use Rattle.cluster_merges.specs.TaskCalls.{RefusesMerge, StartsOrRefuses, MergeLine, EndsCopyOnce, PrecopyTurns, LosesCopy, PartEnds, PartTurns, CutsOnce, CutTurns, DrainTurns}
use Rattle.lane_threads.specs.Owes.{AddsByTask}
use Rattle.lane_threads.specs.Firsts.{TellsFirst}
use Rattle.lane_threads.proofs.WalkLemmas.{lane_self}
use Rattle.cluster_core.specs.Doing.{Does, IsReplied, IsRepliedAtDone}
use Rattle.cluster_core.specs.Tasks.{DoesTask}
use Rattle.cluster_core.proofs.Does.{one_does, none_does, first_suits, refused_does, one_replied}
use Rattle.cluster_core.proofs.MetDoes.{replied_by}

-- ---- merge lines

when_some : (o : Option NodeNo) → o ≢ None → when (is_none o) NoPrimary ≡ None
when_some None some = absurd (some refl)
when_some (Some p) some = refl

-- the factor of a line that merges
abbrev factor_in : Option LineCommand → ℕ
factor_in (Some (Merge factor)) = factor
factor_in command = 0

module _ (at : At) (factor : ℕ) (old new : Run) where
  -- a line that may be refused so, where a primary runs
  may_does : (cause : Cause) → IsFresh at (printed old.log) → primary_of (printed old.log) ≢ None → may_be_refused (Merge factor) at (printed old.log) cause ≡ true
      → RefusesMerge at cause old new → Does (Merge factor) at old new
  may_does cause fresh some may refused =
      one_does (Merge factor) at old new (Refused cause) refused.is
      (first_suits (Merge factor) at (printed old.log) (Refused cause) fresh
      (subst (λ (r : Option Cause). First (Merge factor) at (printed old.log) r (Refused cause)) (sym (when_some (primary_of (printed old.log)) some)) may))

  starts_does : (cause : Option Cause) → IsFresh at (printed old.log) → primary_of (printed old.log) ≢ None → StartsOrRefuses at factor old new cause → Does (Merge factor) at old new
  starts_does None fresh some starts =
      let is = starts.begins.is in
      record {
        running = is.running;
        nodes = is.nodes;
        goes = record {
          more = kept (MergeOut at.line starts.seg starts.inputs old.rest.sizes) ∷ shown at (Merging starts.seg) ∷ [];
          log = is.log;
          adds = (
            inr refl,
            (
              refl,
              first_suits (Merge factor) at (printed old.log) (Merging starts.seg) fresh
                  (subst (λ (r : Option Cause). First (Merge factor) at (printed old.log) r (Merging starts.seg)) (sym (when_some (primary_of (printed old.log)) some)) starts.few),
              tt,
            ),
          );
        };
      }
  starts_does (Some Nothing) fresh some starts = may_does Nothing fresh some refl starts.0
  starts_does (Some NamesSpent) fresh some starts =
      may_does NamesSpent fresh some (ap (λ (n : ℕ). n == segments_of_generation) starts.2 ∙ lane_self segments_of_generation) starts.0
  starts_does (Some cause) fresh some starts = absurd starts

  starts_replied : (cause : Option Cause) → StartsOrRefuses at factor old new cause → IsReplied at new
  starts_replied None starts =
      subst (λ (log : Log). is_answered at (printed log) ≡ true) (sym starts.begins.is.log) (replied_by true (same_at at at) (is_answered at (printed old.log)) refl (same_at_self at))
  starts_replied (Some Nothing) starts = one_replied at old new (Refused Nothing) refl starts.0.is
  starts_replied (Some NamesSpent) starts = one_replied at old new (Refused NamesSpent) refl starts.0.is
  starts_replied (Some cause) starts = absurd starts

  pub merge_does : IsFresh at (printed old.log) → MergeLine at factor old new → Does (Merge factor) at old new
  merge_does fresh line = by_primary (primary_of (printed old.log)) refl
    where
      by_primary : (o : Option NodeNo) → primary_of (printed old.log) ≡ o → Does (Merge factor) at old new
      by_primary None none = refused_does (Merge factor) at old new NoPrimary fresh (ap (λ (o : Option NodeNo). when (is_none o) NoPrimary) none) (line.vacant none).is
      by_primary (Some p) some =
          let there : primary_of (printed old.log) ≢ None = λ none. true≢false (ap is_some (sym some ∙ none)) in starts_does line.cause fresh there (line.starts there)

  pub merge_replied : MergeLine at factor old new → IsReplied at new
  merge_replied line = by_primary (primary_of (printed old.log)) refl
    where
      by_primary : (o : Option NodeNo) → primary_of (printed old.log) ≡ o → IsReplied at new
      by_primary None none = one_replied at old new (Refused NoPrimary) refl (line.vacant none).is
      by_primary (Some p) some = starts_replied line.cause (line.starts (λ none. true≢false (ap is_some (sym some ∙ none))))

  -- and it takes the first range that is due
  refused_first : (cause : Cause) → RefusesMerge at cause old new → TellsFirst (Merge factor) old.log new.log
  refused_first cause refused = record { more = shown at (Refused cause) ∷ []; log = refused.is.log; first = (tt, tt) }

  starts_first : (cause : Option Cause) → StartsOrRefuses at factor old new cause → TellsFirst (Merge factor) old.log new.log
  starts_first None starts = record {
    more = kept (MergeOut at.line starts.seg starts.inputs old.rest.sizes) ∷ shown at (Merging starts.seg) ∷ [];
    log = starts.begins.is.log;
    first = (
      λ other asks. record {
        inputs = starts.inputs;
        sizes = old.rest.sizes;
        out = refl;
        takes = subst (λ (n : ℕ). TakesFirst n old.rest.sizes starts.inputs) (ap factor_in asks) starts.takes;
      },
      tt,
    );
  }
  starts_first (Some Nothing) starts = refused_first Nothing starts.0
  starts_first (Some NamesSpent) starts = refused_first NamesSpent starts.0
  starts_first (Some cause) starts = absurd starts

  merge_first : MergeLine at factor old new → TellsFirst (Merge factor) old.log new.log
  merge_first line = by_primary (primary_of (printed old.log)) refl
    where
      by_primary : (o : Option NodeNo) → primary_of (printed old.log) ≡ o → TellsFirst (Merge factor) old.log new.log
      by_primary None none = refused_first NoPrimary (line.vacant none)
      by_primary (Some p) some = starts_first line.cause (line.starts (λ none. true≢false (ap is_some (sym some ∙ none))))

-- in the terms of a call, whose cluster has this state
pub on_merges : {X E : Type 0} (at : At) (factor : ℕ) (s r new : Run) (result : Result X E) → s ≡ r → OnOk result (MergeLine at factor s new) → OnOk result (TellsFirst (Merge factor) r.log new.log)
on_merges at factor s r new (Ok y) view line = subst (λ (x : Run). TellsFirst (Merge factor) x.log new.log) view (merge_first at factor s new line)
on_merges at factor s r new (Err e) view line = tt

-- ---- drain lines

pub drain_does : (at : At) (most : ℕ) (old new : Run) (turn : Turn (Unit {0})) → counted_for at old.log ≤ most → IsFresh at (printed old.log) → DrainTurns at most old new turn → Does (Drain most) at old new
drain_does at most old new (Work w) few fresh turns = absurd turns
drain_does at most old new Busy few fresh turns = none_does (Drain most) at old new turns.0.is
drain_does at most old new Done few fresh turns =
    one_does (Drain most) at old new (Drained (counted_for at old.log) most) turns.0.is (first_suits (Drain most) at (printed old.log) (Drained (counted_for at old.log) most) fresh (refl, few))

pub drain_replied : (at : At) (most : ℕ) (old new : Run) (turn : Turn (Unit {0})) → DrainTurns at most old new turn → IsRepliedAtDone at new turn
drain_replied at most old new (Work w) turns = absurd turns
drain_replied at most old new Busy turns = tt
drain_replied at most old new Done turns = one_replied at old new (Drained (counted_for at old.log) most) refl turns.0.is

-- ---- faults of tasks

-- faults that a task met, and entries of inner work for its taker or for nobody, were added to a log
record TaskMeets (seat : ℕ) (base log : Log) : Type 0 where
  more : Log
  log_is : log ≡ more ++ base
  adds : FaultsFollow log → AddsByTask false seat more base

task_kept : (seat : ℕ) (base log : Log) (i : Inner) → (name_inside i ≡ seat) ⊎ (name_inside i ≡ 0) → TaskMeets seat base log → TaskMeets seat base (kept i ∷ log)
task_kept seat base log i named m = record { more = kept i ∷ m.more; log_is = ap (λ (l : Log). kept i ∷ l) m.log_is; adds = λ follow. (named, m.adds follow) }

task_fault : (seat : ℕ) (base : Log) (at : At) (n : ℕ) (kind : FaultKind) (log : Log) → TaskMeets seat base log → TaskMeets seat base (fault_by true at n kind ∷ log)
task_fault seat base at n kind log m = record {
  more = fault_by true at n kind ∷ m.more;
  log_is = ap (λ (l : Log). fault_by true at n kind ∷ l) m.log_is;
  adds = λ follow. (subst (λ (l : Log). FollowsMerging at (Fault (record { 0 = n }) kind) (printed l)) m.log_is follow.0, refl, m.adds follow.1);
}

-- those of disks that rose in a call of the task
task_met : (seat : ℕ) (at : At) (old new : Run) → TaskMeets seat old.log (task_met_log at old new)
task_met seat at old new =
    met_has (TaskMeets seat old.log) true at (λ n kind log m. task_fault seat old.log at n kind log m) 1 (map failures_by_plan old.rest.plans) (map failures_by_plan new.rest.plans) old.log (record { more = []; log_is = refl; adds = λ follow. tt })

-- those that a file meets
task_due : (seat : ℕ) (base : Log) (at : At) (n : ℕ) (log : Log) → TaskMeets seat base log → TaskMeets seat base (with_due true at n log)
task_due seat base at n log m = due_has (TaskMeets seat base) true at (λ k kind l was. task_fault seat base at k kind l was) n log m

-- ---- tasks

module _ (by : Option At) (old new : Run) where
  -- these entries were added
  task_does : (more : Log) → IsNow old new (more ++ old.log) → AddsByTask false (name_by by) more old.log → DoesTask by old new
  task_does more now adds = record { running = now.running; nodes = now.nodes; goes = record { more = more; log = now.log; adds = adds } }

  -- such were added
  met_does : (log : Log) → TaskMeets (name_by by) old.log log → IsNow old new log → FaultsFollow new.log → DoesTask by old new
  met_does log m now follow = task_does m.more (subst (IsNow old new) m.log_is now) (m.adds (subst FaultsFollow now.log follow))

  stays_does : IsAsBefore old new → DoesTask by old new
  stays_does same = task_does [] same.is tt

  pub taken_does : (task : Option Task) → TakesTask by old new task → DoesTask by old new
  taken_does None takes = stays_does takes.0
  taken_does (Some task) takes = task_does (kept (TaskOut task.line task.seg by (step_of task.kind)) ∷ []) takes.taken.is (inl refl, tt)

  -- copies begin for nobody
  begun_meets : (line : LineNo) (sent : List Sent) (log : Log) → TaskMeets (name_by by) old.log log → TaskMeets (name_by by) old.log (begun_log line sent log)
  begun_meets line [] log m = m
  begun_meets line (s ∷ sent) log m =
      begun_meets line sent (kept (JobBegun line s.node s.job None None) ∷ log) (task_kept (name_by by) old.log log (JobBegun line s.node s.job None None) (inr refl) m)

  -- a merge has ended, and its task
  merge_ends : (line : LineNo) (seg : SegNo) (step : Step) (cut : Bool) → FaultsFollow new.log → EndsMerge line seg by step cut old new → DoesTask by old new
  merge_ends line seg step cut follow ends =
      let met : Log = task_met_log ends.at old new in
      let merge : TaskMeets (name_by by) old.log (kept (MergeEnd seg cut) ∷ met) = task_kept (name_by by) old.log met (MergeEnd seg cut) (inr refl) (task_met (name_by by) ends.at old new) in
      met_does (kept (TaskEnd line seg by step true) ∷ kept (MergeEnd seg cut) ∷ met) (task_kept (name_by by) old.log (kept (MergeEnd seg cut) ∷ met) (TaskEnd line seg by step true) (inl refl) merge) ends.ends.is follow

  pub built_does : (line : LineNo) (seg : SegNo) (unwritten : Bool) → FaultsFollow new.log → EndsBuild line seg by old new unwritten → DoesTask by old new
  built_does line seg false follow ends = stays_does ends
  built_does line seg true follow (inl writes) =
      let begun : Log = begun_log line writes.sent (task_met_log writes.at old new) in
      met_does (kept (TaskEnd line seg by MergeStep true) ∷ begun)
      (task_kept (name_by by) old.log begun (TaskEnd line seg by MergeStep true) (inl refl) (begun_meets line writes.sent (task_met_log writes.at old new) (task_met (name_by by) writes.at old new))) writes.writes.is follow
  built_does line seg true follow (inr gives_up) = merge_ends line seg MergeStep false follow gives_up.merge

  -- the task of a copy has ended
  copy_ends : (line : LineNo) (seg : SegNo) (n : NodeNo) (job : ℕ) → FaultsFollow new.log → EndsCopyTask line seg by n job old new → DoesTask by old new
  copy_ends line seg n job follow ends =
      let met : Log = task_met_log ends.at old new in
      met_does (kept (TaskEnd line seg by (PreCopyStep n job) true) ∷ met)
      (task_kept (name_by by) old.log met (TaskEnd line seg by (PreCopyStep n job) true) (inl refl) (task_met (name_by by) ends.at old new)) ends.ends.is follow

  copied_once : (line : LineNo) (seg : SegNo) (n : NodeNo) (job : ℕ) (sent : Bool) → FaultsFollow new.log → EndsCopyOnce line seg by n job old new sent → DoesTask by old new
  copied_once line seg n job true follow (inl ends) = copy_ends line seg n job follow ends.0
  copied_once line seg n job true follow (inr fails) = copy_ends line seg n job follow fails.0
  copied_once line seg n job false follow ends = stays_does ends

  pub copy_does : (line : LineNo) (seg : SegNo) (n : NodeNo) (job : ℕ) (turn : Turn FileTask) → FaultsFollow new.log → PrecopyTurns line seg by n job old new turn → DoesTask by old new
  copy_does line seg n job (Work file) follow turns =
      let hands = turns.1 in
      let out : Inner = FileOut line n job file.name file.source file.fate None in
      let met : Log = with_due true hands.at n.0 (task_met_log hands.at old new) in
      met_does (kept out ∷ met) (task_kept (name_by by) old.log met out (inr refl) (task_due (name_by by) old.log hands.at n.0 (task_met_log hands.at old new) (task_met (name_by by) hands.at old new))) hands.hands.is follow
  copy_does line seg n job Busy follow turns = stays_does turns.2
  copy_does line seg n job Done follow turns = copied_once line seg n job _ follow turns

  lost_does : (line : LineNo) (seg : SegNo) (n : NodeNo) (job : ℕ) (fate : Fate) → FaultsFollow new.log → LosesCopy fate line seg by n job old new → DoesTask by old new
  lost_does line seg n job Whole follow fails = copy_ends line seg n job follow fails.0
  lost_does line seg n job Fail follow ends = copy_ends line seg n job follow ends
  lost_does line seg n job (Damage byte) follow ends = copy_ends line seg n job follow ends

  part_ends : (line : LineNo) (seg : SegNo) (n : NodeNo) (job : ℕ) (fate : Fate) (there : Bool) → FaultsFollow new.log → PartEnds line seg by n job fate old new there → DoesTask by old new
  part_ends line seg n job fate true follow lost = lost_does line seg n job fate follow lost
  part_ends line seg n job fate false follow ends = stays_does ends

  pub part_does : (line : LineNo) (seg : SegNo) (n : NodeNo) (job : ℕ) (fate : Fate) (turn : Turn (Unit {0})) → FaultsFollow new.log → PartTurns line seg by n job fate old new turn → DoesTask by old new
  part_does line seg n job fate (Work w) follow turns = met_does (task_met_log turns.0.at old new) (task_met (name_by by) turns.0.at old new) turns.0.meets.is follow
  part_does line seg n job fate Done follow turns = part_ends line seg n job fate _ follow turns
  part_does line seg n job fate Busy follow turns = absurd turns

  cut_once : (line : LineNo) (seg : SegNo) (copied : Bool) → FaultsFollow new.log → CutsOnce line seg by old new copied → DoesTask by old new
  cut_once line seg true follow (inl ends, calm) = merge_ends line seg CutStep true follow ends
  cut_once line seg true follow (inr gives_up, calm) = merge_ends line seg CutStep false follow gives_up.merge
  cut_once line seg false follow cuts = stays_does cuts

  pub cut_does : (line : LineNo) (seg : SegNo) (turn : Turn (Unit {0})) → FaultsFollow new.log → CutTurns line seg by old new turn → DoesTask by old new
  cut_does line seg (Work w) follow turns = absurd turns
  cut_does line seg Busy follow turns = stays_does turns.0
  cut_does line seg Done follow turns = cut_once line seg _ follow turns

-- in the terms of a call, whose cluster has this state
pub task_was : (by : Option At) (s r new : Run) → s ≡ r → DoesTask by s new → DoesTask by r new
task_was by s r new is does = subst (λ (x : Run). DoesTask by x new) is does
