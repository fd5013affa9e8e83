-- Entries of inner work of merges leave what is shown of nodes and of their files.
use Rattle.std.proofs.Common.{◌≡◌, ℕ, Bool, false, List, [], ◌∷◌, Some, None, Option, refl, ap, ◌∙◌, sym, subst, arith}
use Rattle.std.specs.Prelude.{IsSomeAnd}
use Rattle.std.specs.List.{All}
use Rattle.std.proofs.lemmas.List.Elements.{All-tail}
use Rattle.nrt_base.specs.declared.numbers.At.{At}
use Rattle.nrt_base.specs.declared.numbers.LineNo.{LineNo}
use Rattle.nrt_base.specs.declared.numbers.NodeNo.{NodeNo}
use Rattle.disk_model.specs.Disk.{Name, Cells}
use Rattle.history_rules.specs.Nodes.{IsNode}
use Rattle.history_tables.specs.declared.jobs.JobRow.{JobRow}
use Rattle.history_tables.specs.declared.jobs.JobStep.TheVariants.{Passes}
use Rattle.history_tables.specs.JobRows.{row_if_some, while_going}
use Rattle.history_book.specs.Jobs.{last_job}
use Rattle.history_book.specs.Log.{Log, printed, kept}
use Rattle.history_book.specs.declared.inner.Inner.{Inner}
use Rattle.link_model.specs.declared.fate.Fate.{Fate}
use Rattle.history_book.specs.declared.inner.Inner.TheVariants.{JobBegun, FileOut, TaskOut}
use Rattle.merge_tasks.specs.Merging.{Sheet}
use Rattle.merge_tasks.specs.declared.tasks.OpenMerge.{OpenMerge}
use Rattle.merge_tasks.specs.declared.tasks.Posted.{Posted}
use Rattle.merge_tasks.specs.TaskLog.{carried_out}
use Rattle.merge_tasks.specs.Board.{Board, open_merge, due_all, step_of, TasksShow, IsToldTask}
use Rattle.merge_tasks.proofs.BoardRows.{line_told}
use Rattle.merge_tasks.proofs.TaskFrames.{tasks_kept, tasks_on}
use Rattle.cluster_nodes.specs.declared.nodes.NodePlace.{NodePlace}
use Rattle.cluster_nodes.specs.Places.{place_of}
use Rattle.cluster_nodes.specs.Outs.{jobs_like}
use Rattle.cluster_state.specs.FileChanges.{SameJob, CarriesNoMore}
use Rattle.cluster_state.specs.Merging.{IsFitKind, NodeMerges, MergesStand}
use Rattle.cluster_merges.specs.Running.{AllShown}
use Rattle.cluster_state.proofs.Points.{points_alone}
use Rattle.cluster_state.proofs.Disks.{commits_alone}
use Rattle.cluster_state.proofs.Drawn.{grows_none}
use Rattle.cluster_state.proofs.Frames.{some_then, now_is}
use Rattle.cluster_state.proofs.FileFrames.{files_carried, files_is}
use Rattle.cluster_state.proofs.JobMoves.{IsOfJob, shows_kept}
use Rattle.cluster_state.proofs.JobFrames.{same_inner}
use Rattle.cluster_state.proofs.MergingStill.{InputsStay, node_stands, node_keeps}

passes : (o : Option JobRow) → row_if_some Passes o ≡ o
passes None = refl
passes (Some row) = refl

-- the beginning of a copy of a merged segment is about no job of a point
pub same_sent : (log : Log) (line : LineNo) (m : NodeNo) (k n : ℕ) → SameJob log (kept (JobBegun line m k None None) ∷ log) n
same_sent log line m k n = record {
  job = ap (while_going n (printed log)) (passes (last_job false n log));
  points = points_alone (printed log);
  latest = λ v none. none;
  version = refl;
  start = λ job is begun. (begun, refl);
  flight = λ at is. (is, refl);
  handed = λ job q is. refl;
}

-- nor is a file of one
pub same_carried : (log : Log) (line : LineNo) (m : NodeNo) (k : ℕ) (name : Name) (bytes : List ℕ) (fate : Fate) (n : ℕ) → SameJob log (kept (FileOut line m k name bytes fate None) ∷ log) n
same_carried log line m k name bytes fate n = record {
  job = ap (while_going n (printed log)) (passes (last_job false n log));
  points = points_alone (printed log);
  latest = λ v none. none;
  version = refl;
  start = λ job is begun. (begun, refl);
  flight = λ at is. (is, refl);
  handed = λ job q is. refl;
}

module _ {D : Type 0} (cells : D → Cells) where
  pub all_is : (b now : Sheet) (board : Board) (places : List (Option (NodePlace D))) → now.log ≡ b.log → now.nodes ≡ b.nodes → now.cut ≡ b.cut → AllShown cells b board places → AllShown cells now board places
  all_is b now board places log nodes cut all = (
    now_is cells b.log now.log b.nodes now.nodes places log nodes all.0,
    files_is cells b.log now.log b.nodes now.nodes places log nodes all.1,
    subst (λ (z : Log × (Bool × ℕ)). MergesStand z.0 z.1.0 z.1.1 board places) (λ i. (sym log i, (sym cut i, sym nodes i))) all.2,
  )

  -- the nodes have to do with the same rows
  pub each_still : (log now : Log) (cut : Bool) (size : ℕ) (rows new : List OpenMerge) (places : List (Option (NodePlace D))) → InputsStay log now → new ≡ rows
      → ((n : ℕ) → IsNode size n → IsSomeAnd (place_of places n) (λ z. NodeMerges log cut (λ s. jobs_like places s size) rows n z.node))
      → (n : ℕ) → IsNode size n → IsSomeAnd (place_of places n) (λ z. NodeMerges now cut (λ s. jobs_like places s size) new n z.node)
  each_still log now cut size rows new places more same each n node =
      some_then (place_of places n) (each n node)
      (λ z is. subst (λ (l : List OpenMerge). NodeMerges now cut (λ s. jobs_like places s size) l n z.node) (sym same)
      (node_stands log now cut (λ s. jobs_like places s size) (λ s. jobs_like places s size) rows n more z.node z.node (node_keeps (λ s. jobs_like places s size) (λ s. jobs_like places s size) z.node (λ s. omega arith)) is))

  -- an entry of inner work of merges that moves no node, beside the board as it is now
  pub inside_all : (b0 b2 : Sheet) (places : List (Option (NodePlace D))) (board new : Board) (i : Inner) → b2.log ≡ kept i ∷ b0.log → b2.nodes ≡ b0.nodes → b2.cut ≡ b0.cut
      → IsOfJob i → ((n : ℕ) → SameJob b0.log (kept i ∷ b0.log) n) → TasksShow b0.nodes (kept i ∷ b0.log) new → All (λ p. IsFitKind p.kind) new.posted
      → ((n : ℕ) → IsNode b0.nodes n → IsSomeAnd (place_of places n) (λ z. NodeMerges (kept i ∷ b0.log) b0.cut (λ s. jobs_like places s b0.nodes) new.rows n z.node))
      → ((board.posted ≡ []) × (board.rows ≡ []) → (new.posted ≡ []) × (new.rows ≡ [])) → (all : AllShown cells b0 board places)
      → ((q : Name) (bytes : List ℕ) → carried_out q (kept i ∷ b0.log) ≡ Some bytes → all.1.source q ≡ Some bytes) → AllShown cells b2 new places
  inside_all b0 b2 places board new i log nodes cut of_job same tasks fit each empty all carried = (
    now_is cells (kept i ∷ b0.log) b2.log b0.nodes b2.nodes places log nodes (shows_kept cells b0.nodes b0.log i places of_job all.0),
    files_is cells (kept i ∷ b0.log) b2.log b0.nodes b2.nodes places log nodes
        (files_carried cells b0.nodes b0.log (kept i ∷ b0.log) places (grows_none (printed b0.log)) (λ m other. same m) (λ m. commits_alone (printed b0.log) m) all.0 all.1 carried),
    subst (λ (z : Log × (Bool × ℕ)). MergesStand z.0 z.1.0 z.1.1 new places) (λ j. (sym log j, (sym cut j, sym nodes j))) (record {
      tasks = tasks;
      fit = fit;
      each = each;
      vacant = λ none. let was = all.2.vacant none in (was.0, empty was.1);
    }),
  )

  -- the same where the merges in flight are as they were
  pub inside_path : (b0 b2 : Sheet) (places : List (Option (NodePlace D))) (board new : Board) (i : Inner) → b2.log ≡ kept i ∷ b0.log → b2.nodes ≡ b0.nodes → b2.cut ≡ b0.cut
      → IsOfJob i → CarriesNoMore b0.log (kept i ∷ b0.log) → ((n : ℕ) → SameJob b0.log (kept i ∷ b0.log) n) → InputsStay b0.log (kept i ∷ b0.log) → TasksShow b0.nodes (kept i ∷ b0.log) new → new.rows ≡ board.rows → All (λ p. IsFitKind p.kind) new.posted
      → ((board.posted ≡ []) × (board.rows ≡ []) → new.posted ≡ []) → AllShown cells b0 board places → AllShown cells b2 new places
  inside_path b0 b2 places board new i log nodes cut of_job no_more same more tasks rows fit empty all =
      inside_all b0 b2 places board new i log nodes cut of_job same tasks fit (each_still b0.log (kept i ∷ b0.log) b0.cut b0.nodes board.rows new.rows places more rows all.2.each)
      (λ none. (empty none, rows ∙ none.1)) all (λ q bytes out. all.1.carried q bytes (no_more q bytes out))

  -- ---- a task that is taken

  pub take_path : (b0 b2 : Sheet) (places : List (Option (NodePlace D))) (board new : Board) (p : Posted) (by : Option At) → b2.log ≡ kept (TaskOut p.line p.seg by (step_of p.kind)) ∷ b0.log → b2.nodes ≡ b0.nodes → b2.cut ≡ b0.cut
      → board.posted ≡ p ∷ new.posted → new.rows ≡ board.rows → new.counts ≡ board.counts → AllShown cells b0 board places → AllShown cells b2 new places
  take_path b0 b2 places board new p by log nodes cut first rows counts all =
      inside_path b0 b2 places board new i log nodes cut (λ at. refl) (λ q bytes out. out) (λ n. same_inner b0.log i n refl) (λ seg inputs is. is) tasks rows
      (All-tail (λ (q : Posted). IsFitKind q.kind) p new.posted (subst (λ (l : List Posted). All (λ q. IsFitKind q.kind) l) first all.2.fit)) (λ none. none_left (sym first ∙ none.0)) all
    where
      i : Inner
      i = TaskOut p.line p.seg by (step_of p.kind)

      none_left : p ∷ new.posted ≡ [] → new.posted ≡ []
      none_left e = absurd (cc)

      kept_tasks : TasksShow b0.nodes (kept i ∷ b0.log) board
      kept_tasks = tasks_kept b0.nodes b0.log board i refl all.2.tasks

      tasks : TasksShow b0.nodes (kept i ∷ b0.log) new
      tasks = tasks_on b0.nodes (kept i ∷ b0.log) board new (λ seg. ap (λ (l : List OpenMerge). line_told (open_merge seg l)) rows)
          (All-tail (IsToldTask (kept i ∷ b0.log)) p new.posted (subst (λ (l : List Posted). All (IsToldTask (kept i ∷ b0.log)) l) first kept_tasks.posted)) (let due : due_all b0.nodes new.rows ≡ due_all b0.nodes board.rows = ap (due_all b0.nodes) rows in omega (arith, due)) counts kept_tasks
