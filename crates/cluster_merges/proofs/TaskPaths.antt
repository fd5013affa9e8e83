-- Tasks that are taken, and drains that have their reply: what the calls answer, and that all is true again.
use Rattle.std.proofs.Common.{◌≡◌, ◌≢◌, ◌≤◌, ◌+◌, ◌*◌, ℕ, Bool, false, List, [], ◌∷◌, Some, Option, refl, ap, ◌∙◌, sym, subst}
use Rattle.std.specs.List.{All}
use Rattle.std.proofs.lemmas.List.Elements.{All-head}
use Rattle.nrt_base.specs.declared.numbers.At.{At}
use Rattle.disk_model.specs.Disk.{Name, Cells}
use Rattle.history_rules.specs.declared.entry.Event.TheVariants.{Drained}
use Rattle.history_rules.specs.Lines.{entries_of_line, publish_in_flight, commit_in_flight}
use Rattle.history_rules.specs.Legal.{KeepsRule, IsLegalPast}
use Rattle.history_rules.specs.Tasks.{merge_count, drained_count}
use Rattle.history_book.specs.Laws.{IsFresh}
use Rattle.history_book.specs.Turns.{AreInTurn}
use Rattle.history_book.specs.Log.{Log, printed, kept, shown}
use Rattle.history_book.specs.declared.inner.Inner.TheVariants.{TaskOut}
use Rattle.history_book.specs.declared.inner.Step.{Step}
use Rattle.merge_tasks.specs.Merging.{Sheet}
use Rattle.merge_tasks.specs.declared.tasks.Posted.{Posted}
use Rattle.history_book.specs.Told.{counted_for}
use Rattle.merge_tasks.specs.Board.{Board, step_of, IsToldKind, IsToldTask, without_count}
use Rattle.merge_tasks.proofs.TaskFrames.{tasks_drained, told_all, may_drain_most}
use Rattle.cluster_nodes.specs.declared.nodes.NodePlace.{NodePlace}
use Rattle.disk_model.specs.Faults.{Plans}
use Rattle.cluster_state.specs.Run.{JobFiles, MergedCopy, Run}
use Rattle.cluster_state.specs.Merging.{IsFitKind, MergesStand}
use Rattle.cluster_state.proofs.Frames.{noted}
use Rattle.cluster_state.proofs.FileFrames.{files_noted}
use Rattle.cluster_state.proofs.Turning.{past_has, running_has, fresh_turn, fresh_line}
use Rattle.cluster_state.proofs.Growing.{not_flying}
use Rattle.cluster_state.proofs.Disks.{fresh_flights}
use Rattle.cluster_merges.specs.MergePaths.{IsBoard, IsAsBefore, HandsTask}
use Rattle.cluster_merges.specs.Running.{AllShown}
use Rattle.cluster_merges.proofs.InsideSteps.{all_is, each_still, take_path}

module _ (r : Run) (b0 b1 : Sheet) (board : Board) {ended cut : Bool} {calls : List ℕ} {sizes : List (Option ℕ)} {copies : List (List MergedCopy)} {jobs : List JobFiles} {plans : List Plans} {named : List (List Name)} (view : record { ended = ended; nodes = b0.nodes; log = b0.log; rest = record { calls_left = calls; cut = cut; sizes = sizes; jobs = jobs; copies = copies; tasks = board; plans = plans; names = named } } ≡ r)
    (e1 : b1.log ≡ b0.log) (n1 : b1.nodes ≡ b0.nodes) where
  -- nothing changed
  pub as_before : (new : Board) (calls1 : List ℕ) (cut1 : Bool) (sizes1 : List (Option ℕ)) {copies1 : List (List MergedCopy)} {jobs1 : List JobFiles} {plans1 : List Plans} {named1 : List (List Name)} → new.rows ≡ board.rows → new.posted ≡ board.posted
      → IsAsBefore r (record { ended = false; nodes = b1.nodes; log = b1.log; rest = record { calls_left = calls1; cut = cut1; sizes = sizes1; jobs = jobs1; copies = copies1; tasks = new; plans = plans1; names = named1 } })
  as_before new calls1 cut1 sizes1 rows posted = record {
    is = record { running = refl; nodes = n1 ∙ ap (λ (x : Run). x.nodes) view; log = e1 ∙ ap (λ (x : Run). x.log) view };
    rows_are = rows ∙ ap (λ (x : Run). x.rest.tasks.rows) view;
    posted_are = posted ∙ ap (λ (x : Run). x.rest.tasks.posted) view;
  }

  pub none_taken : (new : Board) (calls1 : List ℕ) (cut1 : Bool) (sizes1 : List (Option ℕ)) {copies1 : List (List MergedCopy)} {jobs1 : List JobFiles} {plans1 : List Plans} {named1 : List (List Name)} → new.rows ≡ board.rows → new.posted ≡ board.posted → board.posted ≡ []
      → IsAsBefore r (record { ended = false; nodes = b1.nodes; log = b1.log; rest = record { calls_left = calls1; cut = cut1; sizes = sizes1; jobs = jobs1; copies = copies1; tasks = new; plans = plans1; names = named1 } }) × (r.rest.tasks.posted ≡ [])
  none_taken new calls1 cut1 sizes1 rows posted none = (as_before new calls1 cut1 sizes1 rows posted, sym (ap (λ (x : Run). x.rest.tasks.posted) view) ∙ none)

  -- the first task was taken
  pub hands_task : {D : Type 0} (places : List (Option (NodePlace D))) (b2 : Sheet) (new : Board) (p : Posted) (by : Option At) (step : Step) (calls1 : List ℕ) (cut1 : Bool) (sizes1 : List (Option ℕ)) {copies1 : List (List MergedCopy)} {jobs1 : List JobFiles} {plans1 : List Plans} {named1 : List (List Name)} → step ≡ step_of p.kind
      → b2.log ≡ kept (TaskOut p.line p.seg by step) ∷ b1.log → b2.nodes ≡ b1.nodes → board.posted ≡ p ∷ new.posted → new.rows ≡ board.rows → MergesStand b0.log b0.cut b0.nodes board places
      → HandsTask by r (record { ended = false; nodes = b2.nodes; log = b2.log; rest = record { calls_left = calls1; cut = cut1; sizes = sizes1; jobs = jobs1; copies = copies1; tasks = new; plans = plans1; names = named1 } }) (record { line = p.line; seg = p.seg; by = by; kind = p.kind })
  hands_task places b2 new p by step calls1 cut1 sizes1 is_step log nodes first rows was = record {
    rest = new.posted;
    first = sym (ap (λ (x : Run). x.rest.tasks.posted) view) ∙ first;
    taker = refl;
    told = subst (λ (l : Log). IsToldKind l p.seg p.kind) (sym (log ∙ ap (λ (l : Log). kept (TaskOut p.line p.seg by step) ∷ l) e1))
        (All-head (IsToldTask now) p new.posted (subst (λ (l : List Posted). All (IsToldTask now) l) first (told_all b0.log now (λ seg inputs is. is) board.posted was.tasks.posted)));
    fit = All-head (λ (q : Posted). IsFitKind q.kind) p new.posted (subst (λ (l : List Posted). All (λ q. IsFitKind q.kind) l) first was.fit);
    taken = record {
      is = record {
        running = refl;
        nodes = nodes ∙ (n1 ∙ ap (λ (x : Run). x.nodes) view);
        log = log ∙ (ap (λ (s : Step). kept (TaskOut p.line p.seg by s) ∷ b1.log) is_step ∙ ap (λ (l : Log). kept (TaskOut p.line p.seg by (step_of p.kind)) ∷ l) (e1 ∙ ap (λ (x : Run). x.log) view));
      };
      rows_are = rows ∙ ap (λ (x : Run). x.rest.tasks.rows) view;
      posted_are = refl;
    };
  }
    where
      now : Log
      now = kept (TaskOut p.line p.seg by step) ∷ b0.log

  -- a drain has its reply
  pub drained_now : (b2 : Sheet) (new : Board) (at : At) (done most : ℕ) (calls1 : List ℕ) (cut1 : Bool) (sizes1 : List (Option ℕ)) {copies1 : List (List MergedCopy)} {jobs1 : List JobFiles} {plans1 : List Plans} {named1 : List (List Name)} → b2.log ≡ shown at (Drained done most) ∷ b1.log → b2.nodes ≡ b1.nodes → new.rows ≡ board.rows → new.posted ≡ board.posted
      → IsBoard r (record { ended = false; nodes = b2.nodes; log = b2.log; rest = record { calls_left = calls1; cut = cut1; sizes = sizes1; jobs = jobs1; copies = copies1; tasks = new; plans = plans1; names = named1 } }) (shown at (Drained done most) ∷ r.log) r.rest.tasks.rows r.rest.tasks.posted
  drained_now b2 new at done most calls1 cut1 sizes1 log nodes rows posted = record {
    is = record { running = refl; nodes = nodes ∙ (n1 ∙ ap (λ (x : Run). x.nodes) view); log = log ∙ ap (λ (l : Log). shown at (Drained done most) ∷ l) (e1 ∙ ap (λ (x : Run). x.log) view) };
    rows_are = rows ∙ ap (λ (x : Run). x.rest.tasks.rows) view;
    posted_are = posted ∙ ap (λ (x : Run). x.rest.tasks.posted) view;
  }

module _ {D : Type 0} (cells : D → Cells) (places : List (Option (NodePlace D))) (b0 b1 b2 : Sheet) (board new : Board) (e1 : b1.log ≡ b0.log) (n1 : b1.nodes ≡ b0.nodes) (c1 : b1.cut ≡ b0.cut) where
  -- all is true again where none was taken
  pub still_all : new.rows ≡ board.rows → new.posted ≡ board.posted → new.counts ≡ board.counts → AllShown cells b0 board places → AllShown cells b1 new places
  still_all rows posted counts all = subst (λ (z : Board). AllShown cells b1 z places) board_is (all_is cells b0 b1 board places e1 n1 c1 all)
    where
      board_is : board ≡ new
      board_is = λ i. record { posted = sym posted i; rows = sym rows i; counts = sym counts i }

  -- and where one was
  pub taken_all : (p : Posted) (by : Option At) (step : Step) → step ≡ step_of p.kind → b2.log ≡ kept (TaskOut p.line p.seg by step) ∷ b1.log → b2.nodes ≡ b1.nodes → b2.cut ≡ b1.cut
      → board.posted ≡ p ∷ new.posted → new.rows ≡ board.rows → new.counts ≡ board.counts → AllShown cells b0 board places → AllShown cells b2 new places
  taken_all p by step is_step log nodes cut first rows counts all =
      take_path cells b1 b2 places board new p by (log ∙ ap (λ (s : Step). kept (TaskOut p.line p.seg by s) ∷ b1.log) is_step) nodes cut first rows counts (all_is cells b0 b1 board places e1 n1 c1 all)

  -- a drain's reply leaves the rows and the tasks
  pub drained_stand : (at : At) (done most : ℕ) → b2.log ≡ shown at (Drained done most) ∷ b1.log → b2.nodes ≡ b1.nodes → b2.cut ≡ b1.cut → entries_of_line at (printed b0.log) ≡ [] → done ≡ counted_for at b0.log
      → new.rows ≡ board.rows → new.posted ≡ board.posted → new.counts ≡ without_count at board.counts → MergesStand b0.log b0.cut b0.nodes board places → MergesStand b2.log b2.cut b2.nodes new places
  drained_stand at done most log nodes cut fresh is rows posted counts was =
      subst (λ (z : Log × (Bool × ℕ)). MergesStand z.0 z.1.0 z.1.1 new places) (λ i. (sym (log ∙ ap (λ (l : Log). shown at (Drained done most) ∷ l) e1) i, (sym (cut ∙ c1) i, sym (nodes ∙ n1) i)))
      (record {
        tasks = tasks_drained b0.nodes b0.log board new at done most fresh is rows posted counts was.tasks;
        fit = subst (λ (l : List Posted). All (λ p. IsFitKind p.kind) l) (sym posted) was.fit;
        each = each_still cells b0.log (shown at (Drained done most) ∷ b0.log) b0.cut b0.nodes board.rows new.rows places (λ seg inputs i. i) rows was.each;
        vacant = λ none. let empty = was.vacant none in (empty.0, (posted ∙ empty.1.0, rows ∙ empty.1.1));
      })

-- ---- a drain's reply

module _ {D : Type 0} (cells : D → Cells) (r : Run) (places : List (Option (NodePlace D))) (b0 b1 b2 : Sheet) (board new : Board) (at : At) (done most : ℕ) {ended cut : Bool} {calls : List ℕ} {sizes : List (Option ℕ)} {copies : List (List MergedCopy)} {jobs : List JobFiles} {plans : List Plans} {named : List (List Name)}
    (view : record { ended = ended; nodes = b0.nodes; log = b0.log; rest = record { calls_left = calls; cut = cut; sizes = sizes; jobs = jobs; copies = copies; tasks = board; plans = plans; names = named } } ≡ r) (running : r.ended ≡ false) (all : ended ≡ false → AllShown cells b0 board places)
    (e1 : b1.log ≡ b0.log) (n1 : b1.nodes ≡ b0.nodes) (c1 : b1.cut ≡ b0.cut) (legal : IsLegalPast b0.nodes (printed b0.log)) (turns : AreInTurn (printed b0.log)) (fresh : IsFresh at (printed b0.log))
    (empty : entries_of_line at (printed r.log) ≡ []) (is : done ≡ counted_for at r.log) where
  none_yet : entries_of_line at (printed b0.log) ≡ []
  none_yet = ap (λ (x : Run). entries_of_line at (printed x.log)) view ∙ empty

  same_count : done ≡ counted_for at b0.log
  same_count = is ∙ sym (ap (λ (x : Run). counted_for at x.log) view)

  fresh_now : IsFresh at (printed r.log)
  fresh_now = past_has (IsFresh at) r ended b0 view fresh

  legal_now : IsLegalPast r.nodes (printed r.log)
  legal_now = subst (λ (x : Run). IsLegalPast x.nodes (printed x.log)) view legal

  turns_now : AreInTurn (printed r.log)
  turns_now = past_has AreInTurn r ended b0 view turns

  pub drain_rule : KeepsRule r.nodes (printed r.log) at (Drained done most)
  drain_rule = subst (λ (x : Run). KeepsRule x.nodes (printed x.log) at (Drained done most)) view (record {
    few = subst (λ (k : ℕ). drained_count (printed b0.log) + k ≤ (b0.nodes + 1) * merge_count (printed b0.log)) (sym same_count) (may_drain_most b0.nodes b0.log board at none_yet (running_has view running all).2.tasks);
    spared = fresh.spared;
  })

  pub drained_all : b2.log ≡ shown at (Drained done most) ∷ b1.log → b2.nodes ≡ b1.nodes → b2.cut ≡ b1.cut → IsLegalPast b1.nodes (printed b1.log) → AreInTurn (printed b1.log)
      → new.rows ≡ board.rows → new.posted ≡ board.posted → new.counts ≡ without_count at board.counts → AllShown cells b2 new places
  drained_all e2 n2 c2 legal1 turns1 rows posted counts = (
    noted cells r ended b0 b1 b2 places at (Drained done most) view running (λ e. (all e).0) e1 n1 e2 n2 legal1 turns1 drain_rule apart (λ p m. refl) (λ m. refl),
    files_noted cells r ended b0 b1 b2 places at (Drained done most) view running (λ e. (all e).0) (λ e. (all e).1) e1 n1 e2 n2 legal1 turns1 drain_rule (fresh_turn (printed r.log) at (Drained done most) fresh_now tt) (λ m. refl) (λ m. refl) flights,
    drained_stand cells places b0 b1 b2 board new e1 n1 c1 at done most e2 n2 c2 none_yet same_count rows posted counts (running_has view running all).2,
  )
    where
      apart : publish_in_flight (printed r.log) ≢ Some at
      apart = not_flying r.nodes (printed r.log) at legal_now turns_now (fresh_line (printed r.log) at fresh_now)

      flights : (m : ℕ) → commit_in_flight m (printed r.log) ≢ Some at
      flights = fresh_flights r.nodes (printed r.log) at legal_now turns_now fresh_now.begun
