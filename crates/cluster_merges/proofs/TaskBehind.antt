-- All is true of a cluster behind the faults of disks that a task of a merge met, and what callers see of a merge that has ended.
use Rattle.std.proofs.Common.{◌≡◌, ◌≢◌, ◌∷◌, ◌++◌, inl, inr, ℕ, Bool, true, false, List, map, length, Some, None, Option, refl, ap, ◌∙◌, sym, subst}
use Rattle.std.specs.Prelude.{IsSome}
use Rattle.std.proofs.lemmas.List.{length-map}
use Rattle.nrt_base.specs.declared.numbers.At.{At}
use Rattle.nrt_base.specs.declared.numbers.LineNo.{LineNo}
use Rattle.nrt_base.specs.declared.numbers.NodeNo.{NodeNo}
use Rattle.nrt_base.specs.declared.numbers.SegNo.{SegNo}
use Rattle.disk_model.specs.Disk.{Name, Cells}
use Rattle.disk_model.specs.Faults.{Plans}
use Rattle.history_rules.specs.Nodes.{primary_of}
use Rattle.history_rules.specs.Lines.{publish_in_flight}
use Rattle.history_book.specs.Log.{Log, printed, kept}
use Rattle.history_book.specs.declared.inner.Inner.TheVariants.{FileOut, MergeEnd, TaskEnd}
use Rattle.history_book.specs.Jobs.{job_at}
use Rattle.history_book.specs.declared.inner.Step.{Step}
use Rattle.history_book.specs.declared.inner.Step.TheVariants.{Merge as MergeStep, PreCopy as PreCopyStep, Cut as CutStep}
use Rattle.merge_tasks.specs.Merging.{Sheet, merge_on, cut_after}
use Rattle.merge_tasks.specs.TaskLog.{inputs_out, carried_out}
use Rattle.merge_tasks.specs.Board.{Board, open_merge, spread_at, with_spread, without_merge, sent_left, sent_less, posts_of, post_after}
use Rattle.merge_tasks.specs.declared.tasks.Sent.{Sent}
use Rattle.seg_merge.specs.declared.task.Merged.{Merged}
use Rattle.cluster_state.specs.Settles.{AreReplicas}
use Rattle.cluster_nodes.specs.declared.nodes.NodePlace.{NodePlace}
use Rattle.cluster_nodes.specs.declared.went.Went.{Went}
use Rattle.cluster_nodes.specs.declared.went.Went.TheVariants.{Done, Failed}
use Rattle.cluster_nodes.specs.Went.{ByWent}
use Rattle.merge_tasks.specs.Fates.{fate_due}
use Rattle.cluster_state.specs.DueFaults.{with_due}
use Rattle.cluster_state.specs.Met.{met_in, with_met, has_risen, failures_by_plan}
use Rattle.cluster_state.specs.PlansIn.{plans_in}
use Rattle.cluster_state.specs.Run.{Rest, Run}
use Rattle.cluster_state.specs.Sizes.{sizes_in}
use Rattle.cluster_state.specs.GivesUp.{task_met_log}
use Rattle.cluster_state.proofs.Faulted.{met_has, faulted}
use Rattle.cluster_state.proofs.MetStands.{met_plans}
use Rattle.cluster_merges.specs.MergeSizes.{SizesEnd}
use Rattle.cluster_merges.specs.Running.{AllShown}
use Rattle.cluster_merges.specs.TaskMet.{mets, behind, EndsMergeOf, GivesUpOf, WritesBehind}
use Rattle.cluster_merges.specs.MergePaths.{IsMergedOut, begun_log, EndsMerge, GivesUp, CutsOver, EndsBuild, EndsCopyTask, FailsCopy, MeetsFaults}
use Rattle.cluster_merges.specs.CopyTurns.{EndsCopyOf, FailsCopyOf, MeetsOf, StepsCopyTo, TurnsCopy}
use Rattle.cluster_merges.specs.declared.precopies.CopyTurn.{CopyTurn}
use Rattle.cluster_merges.specs.declared.precopies.CopyTurn.TheVariants.{Waits, Hands, Ends, Fails}

-- ---- behind the faults

module _ (at : At) (olds news : List (ℕ × ℕ)) where
  pub primary_behind : (log : Log) (p : NodeNo) → primary_of (printed log) ≡ Some p → primary_of (printed (with_met true at 1 olds news log)) ≡ Some p
  primary_behind log p is = met_has (λ l. primary_of (printed l) ≡ Some p) true at (λ n kind l was. was) 1 olds news log is

  pub calm_behind : (log : Log) → publish_in_flight (printed log) ≡ None → publish_in_flight (printed (with_met true at 1 olds news log)) ≡ None
  calm_behind log is = met_has (λ l. publish_in_flight (printed l) ≡ None) true at (λ n kind l was. was) 1 olds news log is

  pub on_behind : (log : Log) (seg : ℕ) → merge_on seg log ≢ None → merge_on seg (with_met true at 1 olds news log) ≢ None
  on_behind log seg is = met_has (λ l. merge_on seg l ≢ None) true at (λ n kind l was. was) 1 olds news log is

  pub out_behind : (log : Log) (seg : SegNo) (merged : Merged) → IsMergedOut log seg merged → IsMergedOut (with_met true at 1 olds news log) seg merged
  out_behind log seg merged is = record { inputs = is.inputs; out = met_has (λ l. inputs_out seg.0 l ≡ Some is.inputs) true at (λ n kind l was. was) 1 olds news log is.out; of = is.of }

  pub carried_behind : (log : Log) (name : Name) (bytes : List ℕ) → carried_out name log ≡ Some bytes → carried_out name (with_met true at 1 olds news log) ≡ Some bytes
  carried_behind log name bytes is = met_has (λ l. carried_out name l ≡ Some bytes) true at (λ n kind l was. was) 1 olds news log is

  pub all_behind : {D : Type 0} (cells : D → Cells) (b : Sheet) (board : Board) (places : List (Option (NodePlace D))) → AllShown cells b board places → AllShown cells (behind at olds news b) board places
  all_behind cells b board places all = faulted cells b.nodes places b.cut board true at 1 olds news b.log all

-- what disks had met is of as many nodes
pub as_many_met : {D : Type 0} (planned : D → Plans) (before : List (ℕ × ℕ)) (old : List (Option (NodePlace D))) (n : ℕ) → before ≡ mets planned old → length old ≡ n → length before ≡ n
as_many_met planned before old n is count = ap (λ (l : List (ℕ × ℕ)). length l) is ∙ (length-map old (met_in planned) ∙ count)

-- what a call of a disk gave, and that it failed
pub went_done : {T : Type 0} (P : T → Type 0) (Q : Type 0) (went : Went T) (x : T) → went ≡ Done x → ByWent P Q went → P x
went_done P Q went x is all = subst (ByWent P Q) is all

pub went_failed : {T : Type 0} (P : T → Type 0) (Q : Type 0) (went : Went T) → went ≡ Failed → ByWent P Q went → Q
went_failed P Q went is all = subst (ByWent P Q) is all

-- a merge in flight has its line
pub line_there : (answer o : Option At) → answer ≡ o → o ≢ None → ((at : At) → answer ≡ Some at → ⊥) → ⊥
line_there None o is there none = there (sym is)
line_there (Some at) o is there none = none at refl

-- ---- what callers see

module _ {D : Type 0} (planned : D → Plans) (r : Run) {ended : Bool} {left : Rest} (b0 b1 : Sheet) (board : Board) (old new : List (Option (NodePlace D))) (view : record { ended = ended; nodes = b0.nodes; log = b0.log; rest = left } ≡ r) (e1 : b1.log ≡ b0.log) (n1 : b1.nodes ≡ b0.nodes)
    (c1 : b1.cut ≡ b0.cut) (tasks_were : left.tasks ≡ board) (cut_was : left.cut ≡ b0.cut) (plans_were : left.plans ≡ plans_in planned old) (now : Rest) (plans_are : now.plans ≡ plans_in planned new) where
  log_was : b1.log ≡ r.log
  log_was = e1 ∙ ap (λ (x : Run). x.log) view

  met_first : mets planned old ≡ map failures_by_plan r.rest.plans
  met_first = met_plans planned old ∙ (ap (λ (l : List Plans). map failures_by_plan l) (sym plans_were) ∙ ap (λ (x : Run). map failures_by_plan x.rest.plans) view)

  met_second : mets planned new ≡ map failures_by_plan now.plans
  met_second = met_plans planned new ∙ ap (λ (l : List Plans). map failures_by_plan l) (sym plans_are)

  -- the log behind what the disks met is that behind what the plans tell
  pub met_told : (nodes : ℕ) (log : Log) (at : At) → with_met true at 1 (mets planned old) (mets planned new) b1.log ≡ task_met_log at r (record { ended = false; nodes = nodes; log = log; rest = now })
  met_told nodes log at = λ i. with_met true at 1 (met_first i) (met_second i) (log_was i)

  pub risen_told : (p : NodeNo) → has_risen p.0 1 (mets planned old) (mets planned new) ≡ true → has_risen p.0 1 (map failures_by_plan r.rest.plans) (map failures_by_plan now.plans) ≡ true
  risen_told p is = (λ i. has_risen p.0 1 (sym met_first i) (sym met_second i)) ∙ is

  module _ (b2 : Sheet) (after : Board) (tasks_are : now.tasks ≡ after) (cut_is : now.cut ≡ b2.cut) (at : At) (line : LineNo) (seg : SegNo) (by : Option At) (step : Step) (on : merge_on seg.0 b0.log ≡ Some at) (sizes_were : left.sizes ≡ sizes_in old) (sizes_are : now.sizes ≡ sizes_in new) where
    pub ends_merge : (cut : Bool) → EndsMergeOf planned at line seg by step cut b1 b2 board after old new → EndsMerge line seg by step cut r (record { ended = false; nodes = b2.nodes; log = b2.log; rest = now })
    ends_merge cut e = record {
      at = at;
      on = ap (λ (x : Run). merge_on seg.0 x.log) (sym view) ∙ on;
      ends = record {
        is = record {
          running = refl;
          nodes = e.behind.nodes ∙ (n1 ∙ ap (λ (x : Run). x.nodes) view);
          log = e.behind.log ∙ ap (λ (l : Log). kept (TaskEnd line seg by step true) ∷ kept (MergeEnd seg cut) ∷ l) (met_told b2.nodes b2.log at);
        };
        rows_are = ap (λ (b : Board). b.rows) tasks_are ∙ (e.rows ∙ (ap (λ (b : Board). without_merge seg.0 b.rows) (sym tasks_were) ∙ ap (λ (x : Run). without_merge seg.0 x.rest.tasks.rows) view));
        posted_are = ap (λ (b : Board). b.posted) tasks_are ∙ (e.posted ∙ (ap (λ (b : Board). b.posted) (sym tasks_were) ∙ ap (λ (x : Run). x.rest.tasks.posted) view));
      };
      cut_is = cut_is ∙ (e.behind.cut_is ∙ ap (cut_after cut) (c1 ∙ (sym cut_was ∙ ap (λ (x : Run). x.rest.cut) view)));
      sizes = subst (λ (z : List (Option ℕ) × List (Option ℕ)). SizesEnd cut z.0 z.1) (λ i. ((sym sizes_were ∙ ap (λ (x : Run). x.rest.sizes) view) i, (sym sizes_are) i)) e.sizes;
    }

    pub gives_up : (p : NodeNo) → primary_of (printed r.log) ≡ Some p → GivesUpOf planned p at line seg by step b1 b2 board after old new → GivesUp line seg by step r (record { ended = false; nodes = b2.nodes; log = b2.log; rest = now })
    gives_up p primary e = record { merge = ends_merge false e.merge; disk = record { p = p; primary = primary; risen = risen_told p e.risen } }

  -- a merge was cut over, or given up
  pub cut_so : left.sizes ≡ sizes_in old → now.sizes ≡ sizes_in new → (b2 : Sheet) (after : Board) (tasks_are : now.tasks ≡ after) (cut_is : now.cut ≡ b2.cut) (at : At) (line : LineNo) (seg : SegNo) (by : Option At) → merge_on seg.0 b0.log ≡ Some at → (p : NodeNo) → primary_of (printed r.log) ≡ Some p → (went : Went (Unit {0}))
      → ByWent (λ done. EndsMergeOf planned at line seg by CutStep true b1 b2 board after old new) (GivesUpOf planned p at line seg by CutStep b1 b2 board after old new) went
      → CutsOver line seg by r (record { ended = false; nodes = b2.nodes; log = b2.log; rest = now })
  cut_so sizes_were sizes_are b2 after tasks_are cut_is at line seg by on p primary (Done x) is = inl (ends_merge b2 after tasks_are cut_is at line seg by CutStep on sizes_were sizes_are true is)
  cut_so sizes_were sizes_are b2 after tasks_are cut_is at line seg by on p primary Failed is = inr (gives_up b2 after tasks_are cut_is at line seg by CutStep on sizes_were sizes_are p primary is)

  -- a merge was written, or given up
  pub built_so : left.sizes ≡ sizes_in old → now.sizes ≡ sizes_in new → (b2 : Sheet) (after : Board) (tasks_are : now.tasks ≡ after) (cut_is : now.cut ≡ b2.cut) (at : At) (line : LineNo) (seg : SegNo) (by : Option At) → merge_on seg.0 b0.log ≡ Some at → (p : NodeNo) → primary_of (printed r.log) ≡ Some p → (went : Went (Unit {0}))
      → ByWent (λ done. WritesBehind at line seg by (mets planned old) (mets planned new) b1 b2 board after) (GivesUpOf planned p at line seg by MergeStep b1 b2 board after old new) went
      → EndsBuild line seg by r (record { ended = false; nodes = b2.nodes; log = b2.log; rest = now }) true
  built_so sizes_were sizes_are b2 after tasks_are cut_is at line seg by on p primary Failed is = inr (gives_up b2 after tasks_are cut_is at line seg by MergeStep on sizes_were sizes_are p primary is)
  built_so sizes_were sizes_are b2 after tasks_are cut_is at line seg by on p primary (Done x) is = inl (record {
    at = at;
    on = ap (λ (x : Run). merge_on seg.0 x.log) (sym view) ∙ on;
    state = is.state;
    sent = is.sent;
    replicas = subst (λ (z : ℕ × Log). AreReplicas z.0 (printed z.1) (map (λ (s : Sent). s.node) is.sent)) (λ i. ((n1 ∙ ap (λ (x : Run). x.nodes) view) i, log_was i)) is.replicas;
    writes = record {
      is = record {
        running = refl;
        nodes = is.nodes ∙ (n1 ∙ ap (λ (x : Run). x.nodes) view);
        log = is.log ∙ ap (λ (l : Log). kept (TaskEnd line seg by MergeStep true) ∷ begun_log line is.sent l) (met_told b2.nodes b2.log at);
      };
      rows_are = ap (λ (b : Board). b.rows) tasks_are ∙ (is.rows ∙ (ap (λ (b : Board). with_spread seg.0 (Some (record { state = is.state; left = is.sent; all = true })) b.rows) (sym tasks_were)
          ∙ ap (λ (x : Run). with_spread seg.0 (Some (record { state = is.state; left = is.sent; all = true })) x.rest.tasks.rows) view));
      posted_are = ap (λ (b : Board). b.posted) tasks_are ∙ (is.posted ∙ (ap (λ (b : Board). (b.posted ++ posts_of seg line is.sent) ++ post_after seg line is.sent) (sym tasks_were)
          ∙ ap (λ (x : Run). (x.rest.tasks.posted ++ posts_of seg line is.sent) ++ post_after seg line is.sent) view));
    };
  })

  -- ---- copies

  module _ (b2 : Sheet) (after : Board) (tasks_are : now.tasks ≡ after) (at : At) (line : LineNo) (seg : SegNo) (by : Option At) (n : NodeNo) (job : ℕ) (on : merge_on seg.0 b0.log ≡ Some at) where
    abbrev met : Sheet
    met = behind at (mets planned old) (mets planned new) b1

    abbrev ran : Run
    ran = record { ended = false; nodes = b2.nodes; log = b2.log; rest = now }

    on_now : merge_on seg.0 r.log ≡ Some at
    on_now = ap (λ (x : Run). merge_on seg.0 x.log) (sym view) ∙ on

    nodes_now : met.nodes ≡ r.nodes
    nodes_now = n1 ∙ ap (λ (x : Run). x.nodes) view

    pub ends_copy : EndsCopyOf line seg by n job met b2 board after → EndsCopyTask line seg by n job r ran
    ends_copy e = record {
      at = at;
      on = on_now;
      ends = record {
        is = record { running = refl; nodes = e.nodes ∙ nodes_now; log = e.log ∙ ap (λ (l : Log). kept (TaskEnd line seg by (PreCopyStep n job) true) ∷ l) (met_told b2.nodes b2.log at) };
        rows_are = ap (λ (b : Board). b.rows) tasks_are ∙ (e.rows ∙ (ap (λ (b : Board). with_spread seg.0 (sent_less n.0 job (spread_at (open_merge seg.0 b.rows))) b.rows) (sym tasks_were)
            ∙ ap (λ (x : Run). with_spread seg.0 (sent_less n.0 job (spread_at (open_merge seg.0 x.rest.tasks.rows))) x.rest.tasks.rows) view));
        posted_are = ap (λ (b : Board). b.posted) tasks_are ∙ (e.posted ∙ (ap (λ (b : Board). b.posted ++ post_after seg line (sent_left (sent_less n.0 job (spread_at (open_merge seg.0 b.rows))))) (sym tasks_were)
            ∙ ap (λ (x : Run). x.rest.tasks.posted ++ post_after seg line (sent_left (sent_less n.0 job (spread_at (open_merge seg.0 x.rest.tasks.rows))))) view));
      };
    }

    same_board : (z : Board) → z ≡ board → z.rows ≡ r.rest.tasks.rows
    same_board z is = ap (λ (b : Board). b.rows) (is ∙ sym tasks_were) ∙ ap (λ (x : Run). x.rest.tasks.rows) view

    same_posted : (z : Board) → z ≡ board → z.posted ≡ r.rest.tasks.posted
    same_posted z is = ap (λ (b : Board). b.posted) (is ∙ sym tasks_were) ∙ ap (λ (x : Run). x.rest.tasks.posted) view

    -- the next step of a copy
    pub turns_so : (p : NodeNo) → primary_of (printed r.log) ≡ Some p → (turn : CopyTurn) → StepsCopyTo at line seg by p n job (mets planned old) (mets planned new) b1 met b2 board after turn → TurnsCopy line seg by n job r ran turn
    turns_so p primary Waits is = (
      record {
        is = record { running = refl; nodes = ap (λ (b : Sheet). b.nodes) is.0 ∙ nodes_now; log = ap (λ (b : Sheet). b.log) is.0 ∙ log_was };
        rows_are = same_board now.tasks (tasks_are ∙ is.1);
        posted_are = same_posted now.tasks (tasks_are ∙ is.1);
      },
      subst (λ (l : Log). IsSome (job_at n.0 l)) log_was is.2,
    )
    turns_so p primary (Hands file) is = record {
      at = at;
      on = on_now;
      hands = record {
        is = record { running = refl; nodes = is.nodes ∙ nodes_now; log = is.log ∙ ap (λ (l : Log). kept (FileOut line n job file.name file.source file.fate None) ∷ with_due true at n.0 l) (met_told b2.nodes b2.log at) };
        rows_are = same_board now.tasks (tasks_are ∙ is.board_is);
        posted_are = same_posted now.tasks (tasks_are ∙ is.board_is);
      };
      fate = is.fate ∙ ap (fate_due n.0) (met_told b2.nodes b2.log at);
      out = is.out;
      meta = is.meta;
      footer = is.footer;
    }
    turns_so p primary Ends is = ends_copy is
    turns_so p primary Fails (inl is) = (ends_copy is.ends, inl (record { p = p; primary = primary; risen = risen_told p is.risen }))
    turns_so p primary Fails (inr is) = (ends_copy is.ends, inr (risen_told n is.risen))

    -- a part that came
    pub takes_so : (went : Went (Unit {0})) → ByWent (λ done. MeetsOf met b2 board after) (FailsCopyOf line seg by n n job (mets planned old) (mets planned new) met b2 board after) went
        → ByWent (λ done. MeetsFaults seg r ran) (FailsCopy line seg by n job r ran) went
    takes_so (Done x) is = record {
      at = at;
      on = on_now;
      meets = record {
        is = record { running = refl; nodes = is.nodes ∙ nodes_now; log = is.log ∙ met_told b2.nodes b2.log at };
        rows_are = same_board now.tasks (tasks_are ∙ is.board_is);
        posted_are = same_posted now.tasks (tasks_are ∙ is.board_is);
      };
    }
    takes_so Failed is = (ends_copy is.ends, inr (risen_told n is.risen))
