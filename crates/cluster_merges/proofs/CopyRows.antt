-- Merges whose copies begin: what nodes have to do with the rows, and the paths of these steps.
use Rattle.std.proofs.Common.{◌≡◌, ◌≤◌, ◌<◌, ◌+◌, ◌++◌, ◌==◌, ℕ, Bool, true, false, List, [], ◌∷◌, Some, None, Option, length, refl, ap, ◌∙◌, sym, subst, arith, if◌then◌else◌}
use Rattle.std.specs.Prelude.{IsSomeAnd}
use Rattle.std.specs.List.{All}
use Rattle.std.proofs.lemmas.List.Elements.{All-nil, All-cons, All-append}
use Rattle.std.proofs.lemmas.Bool.{eqb-true}
use Rattle.nrt_base.specs.declared.numbers.At.{At}
use Rattle.nrt_base.specs.declared.numbers.LineNo.{LineNo}
use Rattle.nrt_base.specs.declared.numbers.SegNo.{SegNo}
use Rattle.disk_model.specs.Disk.{Cells}
use Rattle.copy_state.specs.declared.state.CopyState.{CopyState}
use Rattle.copy_job.specs.Jobs.{Job}
use Rattle.index_primary.specs.declared.states.Out.{Out}
use Rattle.index_primary.specs.States.{out_of}
use Rattle.history_rules.specs.Nodes.{IsNode}
use Rattle.history_rules.specs.Lines.{same_at}
use Rattle.history_tables.proofs.RowLemmas.{by_test}
use Rattle.history_book.specs.Log.{Log, kept}
use Rattle.history_book.specs.declared.inner.Inner.{Inner}
use Rattle.history_book.specs.declared.inner.Inner.TheVariants.{TaskEnd}
use Rattle.history_book.specs.declared.inner.Step.{Step}
use Rattle.history_book.specs.declared.inner.Step.TheVariants.{Merge as MergeStep}
use Rattle.merge_tasks.specs.Merging.{Sheet}
use Rattle.merge_tasks.specs.declared.tasks.OpenMerge.{OpenMerge}
use Rattle.merge_tasks.specs.declared.tasks.Posted.{Posted}
use Rattle.merge_tasks.specs.declared.tasks.Spread.{Spread}
use Rattle.merge_tasks.specs.declared.tasks.Sent.{Sent}
use Rattle.history_book.specs.Told.{ends_task_by}
use Rattle.merge_tasks.specs.Board.{Board, open_merge, spread_at, with_spread, is_sent_in, all_sent, sent_left, posts_of, post_after, done_under, counts_one, due_all, IsToldTask, TasksShow}
use Rattle.merge_tasks.proofs.BoardRows.{line_told, open_with, lines_with, due_posted}
use Rattle.merge_tasks.proofs.TaskFrames.{tasks_ended}
use Rattle.cluster_nodes.specs.declared.nodes.Node.{Node}
use Rattle.cluster_nodes.specs.declared.nodes.Node.TheVariants.{Primary, Replica, Down}
use Rattle.cluster_nodes.specs.declared.nodes.NodePlace.{NodePlace}
use Rattle.cluster_nodes.specs.Places.{place_of}
use Rattle.cluster_nodes.specs.Outs.{one_like, jobs_like}
use Rattle.cluster_state.specs.Merging.{AreSentCopies, NodeMerges, IsFitKind, out_at, spreads_like}
use Rattle.cluster_state.proofs.Frames.{some_then}
use Rattle.cluster_state.proofs.JobFrames.{same_inner}
use Rattle.cluster_state.proofs.MergingStill.{node_stands, node_keeps}
use Rattle.cluster_merges.proofs.StandSteps.{alike_copied, sent_still, spreads_with}
use Rattle.cluster_merges.specs.Running.{AllShown}
use Rattle.cluster_merges.proofs.InsideSteps.{inside_all}

-- a merge in flight whose files are written
pub record IsSpreadRow (seg : ℕ) (rows : List OpenMerge) : Type 0 where
  pub row : OpenMerge
  pub there : open_merge seg rows ≡ Some row
  pub spread : Spread
  pub some : row.spread ≡ Some spread

pub spread_row : (seg : ℕ) (rows : List OpenMerge) (P : Spread → Type 0) → IsSomeAnd (spread_at (open_merge seg rows)) P → (z : IsSpreadRow seg rows) × P z.spread
spread_row seg rows P is = by (open_merge seg rows) refl is
  where
    of_row : (r : OpenMerge) → open_merge seg rows ≡ Some r → (o : Option Spread) → r.spread ≡ o → IsSomeAnd o P → (z : IsSpreadRow seg rows) × P z.spread
    of_row r there None e none = absurd none
    of_row r there (Some s) e is = (record { row = r; there = there; spread = s; some = e }, is)

    by : (o : Option OpenMerge) → open_merge seg rows ≡ o → IsSomeAnd (spread_at o) P → (z : IsSpreadRow seg rows) × P z.spread
    by None e none = absurd none
    by (Some r) e is = of_row r e r.spread refl is

module _ (seg : ℕ) (rows : List OpenMerge) (z : IsSpreadRow seg rows) (t : Spread) (same : t.state ≡ z.spread.state) where
  -- as many copy states are like one
  outs_same : (o : Out) → spreads_like o (with_spread seg (Some t) rows) ≡ spreads_like o rows
  outs_same o =
      let move = spreads_with o rows seg (Some t) z.row z.there in
      let was : one_like o (out_at z.row.spread) ≡ one_like o (Some (out_of z.spread.state)) = ap (λ (x : Option Spread). one_like o (out_at x)) z.some in
      let now : one_like o (out_at (Some t)) ≡ one_like o (Some (out_of z.spread.state)) = ap (λ (c : CopyState). one_like o (Some (out_of c))) same in
      omega (arith, move, was, now)

  -- copies that run are sent still
  copies_kept : (n : ℕ) (running : List Job) → ((k : ℕ) → is_sent_in n k z.spread.left ≡ true → is_sent_in n k t.left ≡ true) → AreSentCopies rows n running → AreSentCopies (with_spread seg (Some t) rows) n running
  copies_kept n running more sent = sent_still rows (with_spread seg (Some t) rows) n running keeps sent
    where
      of_some : (s : Spread) → z.row.spread ≡ Some s → z.spread ≡ s
      of_some s e = let both : Some z.spread ≡ Some s = sym z.some ∙ e in cc

      keeps : (seg' k : ℕ) (s : Spread) → spread_at (open_merge seg' rows) ≡ Some s → is_sent_in n k s.left ≡ true → IsSomeAnd (spread_at (open_merge seg' (with_spread seg (Some t) rows))) (λ u. (is_sent_in n k u.left ≡ true) × (u.state ≡ s.state))
      keeps seg' k s there sent =
          subst (λ (o : Option OpenMerge). IsSomeAnd (spread_at o) (λ u. (is_sent_in n k u.left ≡ true) × (u.state ≡ s.state))) (sym (open_with rows seg (Some t) z.row z.there seg'))
          (by_test (seg == seg') (λ b. (seg == seg') ≡ b → IsSomeAnd (spread_at (if b then Some (record z.row { spread = Some t }) else open_merge seg' rows)) (λ u. (is_sent_in n k u.left ≡ true) × (u.state ≡ s.state)))
          (λ here e. let is : z.spread ≡ s = of_some s (sym (ap (λ (o : Option OpenMerge). spread_at o) (ap (λ (q : ℕ). open_merge q rows) (sym (eqb-true seg seg' e)) ∙ z.there)) ∙ there) in
          (more k (ap (λ (x : Spread). is_sent_in n k x.left) is ∙ sent), same ∙ ap (λ (x : Spread). x.state) is))
          (λ apart e. subst (λ (o : Option Spread). IsSomeAnd o (λ u. (is_sent_in n k u.left ≡ true) × (u.state ≡ s.state))) (sym there) (sent, refl))
          refl)

  pub node_copied : {D : Type 0} (log : Log) (cut : Bool) (jobs : Out → ℕ) (n : ℕ) (x : Node D) → ((k : ℕ) → is_sent_in n k z.spread.left ≡ true → is_sent_in n k t.left ≡ true)
      → NodeMerges log cut jobs rows n x → NodeMerges log cut jobs (with_spread seg (Some t) rows) n x
  node_copied log cut jobs n (Primary p) more is = record {
    cut_over = is.cut_over;
    merges = alike_copied log p.merges rows seg z.row z.spread t z.there z.some same is.merges;
    outs = λ s. let was = is.outs s in let like = outs_same s in omega (arith, was, like);
  }
  node_copied log cut jobs n (Replica r) more is = copies_kept n r.copies.running more is
  node_copied log cut jobs n (Down d) more is = tt

-- what a count makes of the counts of drains is what the end of the task does
pub counts_ends : (x : At) (line : LineNo) (seg : SegNo) (by : Option At) (step : Step) → counts_one x by ≡ ends_task_by (λ y. same_at y x) (TaskEnd line seg by step true)
counts_ends x line seg None step = refl
counts_ends x line seg (Some at) step = refl

-- tasks of copies, and that to cut over, tell nothing of inputs, and are fit
pub posts_told : (log : Log) (seg : SegNo) (line : LineNo) (left : List Sent) → All (IsToldTask log) (posts_of seg line left)
posts_told log seg line [] = All-nil (IsToldTask log)
posts_told log seg line (s ∷ left) = All-cons (IsToldTask log) _ (posts_of seg line left) tt (posts_told log seg line left)

pub after_told : (log : Log) (seg : SegNo) (line : LineNo) (left : List Sent) → All (IsToldTask log) (post_after seg line left)
after_told log seg line [] = All-cons (IsToldTask log) _ [] tt (All-nil (IsToldTask log))
after_told log seg line (s ∷ left) = All-nil (IsToldTask log)

pub posts_fit : (seg : SegNo) (line : LineNo) (left : List Sent) → All (λ (p : Posted). IsFitKind p.kind) (posts_of seg line left)
posts_fit seg line [] = All-nil (λ (p : Posted). IsFitKind p.kind)
posts_fit seg line (s ∷ left) = All-cons (λ (p : Posted). IsFitKind p.kind) _ (posts_of seg line left) tt (posts_fit seg line left)

pub after_fit : (seg : SegNo) (line : LineNo) (left : List Sent) → All (λ (p : Posted). IsFitKind p.kind) (post_after seg line left)
after_fit seg line [] = All-cons (λ (p : Posted). IsFitKind p.kind) _ [] tt (All-nil (λ (p : Posted). IsFitKind p.kind))
after_fit seg line (s ∷ left) = All-nil (λ (p : Posted). IsFitKind p.kind)

module _ {D : Type 0} (cells : D → Cells) where
  -- a copy to each replica has begun: the task to build the segment ends
  pub post_path : (b0 b2 : Sheet) (places : List (Option (NodePlace D))) (board new : Board) (line : LineNo) (seg : SegNo) (by : Option At) → b2.log ≡ kept (TaskEnd line seg by MergeStep true) ∷ b0.log → b2.nodes ≡ b0.nodes → b2.cut ≡ b0.cut
      → IsSomeAnd (spread_at (open_merge seg.0 board.rows)) (λ s. (s.all ≡ false) × (length s.left < b0.nodes)) → new.rows ≡ with_spread seg.0 (all_sent (spread_at (open_merge seg.0 board.rows))) board.rows
      → new.posted ≡ (board.posted ++ posts_of seg line (sent_left (spread_at (open_merge seg.0 board.rows)))) ++ post_after seg line (sent_left (spread_at (open_merge seg.0 board.rows)))
      → ((x : At) → done_under x new.counts ≡ done_under x board.counts + counts_one x by) → AllShown cells b0 board places → AllShown cells b2 new places
  post_path b0 b2 places board new line seg by log nodes cut written rows posted counts all =
      inside_all cells b0 b2 places board new i log nodes cut (λ at. refl) (λ n. same_inner b0.log i n refl) tasks
      (subst (λ (l : List Posted). All (λ p. IsFitKind p.kind) l) (sym posted)
      (All-append (λ (p : Posted). IsFitKind p.kind) (board.posted ++ posts_of seg line left) (post_after seg line left)
      (All-append (λ (p : Posted). IsFitKind p.kind) board.posted (posts_of seg line left) all.2.fit (posts_fit seg line left)) (after_fit seg line left)))
      each empty all all.1.carried
    where
      i : Inner
      i = TaskEnd line seg by MergeStep true

      left : List Sent
      left = sent_left (spread_at (open_merge seg.0 board.rows))

      found : (z : IsSpreadRow seg.0 board.rows) × ((z.spread.all ≡ false) × (length z.spread.left < b0.nodes))
      found = spread_row seg.0 board.rows (λ s. (s.all ≡ false) × (length s.left < b0.nodes)) written

      t : Spread
      t = record found.0.spread { all = true }

      spread_is : all_sent (spread_at (open_merge seg.0 board.rows)) ≡ Some t
      spread_is = ap (λ (o : Option OpenMerge). all_sent (spread_at o)) found.0.there ∙ ap all_sent found.0.some

      rows_are : new.rows ≡ with_spread seg.0 (Some t) board.rows
      rows_are = rows ∙ ap (λ (o : Option Spread). with_spread seg.0 o board.rows) spread_is

      tasks : TasksShow b0.nodes (kept i ∷ b0.log) new
      tasks = tasks_ended b0.nodes b0.log board new line seg by MergeStep true
          (λ n. ap (λ (l : List OpenMerge). line_told (open_merge n l)) rows ∙ lines_with board.rows seg.0 (all_sent (spread_at (open_merge seg.0 board.rows))) n)
          (subst (λ (l : List Posted). All (IsToldTask b0.log) l) (sym posted)
          (All-append (IsToldTask b0.log) (board.posted ++ posts_of seg line left) (post_after seg line left)
          (All-append (IsToldTask b0.log) board.posted (posts_of seg line left) all.2.tasks.posted (posts_told b0.log seg line left)) (after_told b0.log seg line left)))
          due (λ x. counts x ∙ ap (λ (k : ℕ). done_under x board.counts + k) (counts_ends x line seg by MergeStep)) all.2.tasks
        where
          due : 1 + due_all b0.nodes new.rows ≤ due_all b0.nodes board.rows
          due = let less = due_posted b0.nodes board.rows seg.0 found.0.row found.0.spread found.0.there found.0.some found.1.0 found.1.1 in
              let same : due_all b0.nodes new.rows ≡ due_all b0.nodes (with_spread seg.0 (all_sent found.0.row.spread) board.rows) =
              ap (due_all b0.nodes) (rows ∙ ap (λ (o : Option OpenMerge). with_spread seg.0 (all_sent (spread_at o)) board.rows) found.0.there) in
              omega (arith, less, same)

      each : (n : ℕ) → IsNode b0.nodes n → IsSomeAnd (place_of places n) (λ z. NodeMerges (kept i ∷ b0.log) b0.cut (λ s. jobs_like places s b0.nodes) new.rows n z.node)
      each n node = some_then (place_of places n) (all.2.each n node)
          (λ z is. subst (λ (l : List OpenMerge). NodeMerges (kept i ∷ b0.log) b0.cut (λ s. jobs_like places s b0.nodes) l n z.node) (sym rows_are)
          (node_copied seg.0 board.rows found.0 t refl (kept i ∷ b0.log) b0.cut (λ s. jobs_like places s b0.nodes) n z.node (λ k sent. sent)
          (node_stands b0.log (kept i ∷ b0.log) b0.cut (λ s. jobs_like places s b0.nodes) (λ s. jobs_like places s b0.nodes) board.rows n (λ seg inputs is. is) z.node z.node
          (node_keeps (λ s. jobs_like places s b0.nodes) (λ s. jobs_like places s b0.nodes) z.node (λ s. omega arith)) is)))

      -- a row is there
      empty : (board.posted ≡ []) × (board.rows ≡ []) → (new.posted ≡ []) × (new.rows ≡ [])
      empty none = absurd (gone (sym (ap (open_merge seg.0) none.1) ∙ found.0.there))
        where
          gone : None ≡ Some found.0.row → ⊥
          gone e = absurd (cc)
