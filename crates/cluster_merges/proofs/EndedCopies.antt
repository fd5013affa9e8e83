-- The task of a copy has ended: what nodes have to do with the rows, and that all is true of the cluster again.
use Rattle.std.proofs.Common.{◌≡◌, ◌≤◌, ◌+◌, ◌==◌, ◌∷◌, ℕ, suc, Bool, true, false, true≢false, List, [], Some, None, Option, Vec, Global, refl, ap, ◌∙◌, sym, subst, arith, if◌then◌else◌}
use Rattle.std.specs.Prelude.{IsSomeAnd}
use Rattle.std.specs.List.{All}
use Rattle.std.proofs.lemmas.List.Elements.{All-append}
use Rattle.std.proofs.lemmas.Bool.{and_parts, eqb-true}
use Rattle.nrt_base.specs.declared.numbers.At.{At}
use Rattle.nrt_base.specs.declared.numbers.LineNo.{LineNo}
use Rattle.nrt_base.specs.declared.numbers.NodeNo.{NodeNo}
use Rattle.nrt_base.specs.declared.numbers.SegNo.{SegNo}
use Rattle.disk_model.specs.Disk.{Cells}
use Rattle.copy_job.specs.Jobs.{Job}
use Rattle.index_primary.specs.declared.states.Out.{Out}
use Rattle.replica_node.specs.declared.parts.ReplicaParts.{ReplicaParts}
use Rattle.replica_node.specs.Merges.{copy_at}
use Rattle.history_rules.specs.Nodes.{IsNode}
use Rattle.history_tables.proofs.RowLemmas.{by_test}
use Rattle.history_book.specs.Log.{Log, kept}
use Rattle.history_book.specs.declared.inner.Inner.{Inner}
use Rattle.history_book.specs.declared.inner.Inner.TheVariants.{TaskEnd}
use Rattle.history_book.specs.declared.inner.Step.TheVariants.{PreCopy as PreCopyStep}
use Rattle.merge_tasks.specs.Merging.{Sheet}
use Rattle.merge_tasks.specs.declared.tasks.OpenMerge.{OpenMerge}
use Rattle.merge_tasks.specs.declared.tasks.Posted.{Posted}
use Rattle.merge_tasks.specs.declared.tasks.Spread.{Spread}
use Rattle.merge_tasks.specs.Board.{Board, open_merge, spread_at, with_spread, is_sent_in, has_copy_task, without_sent, sent_left, sent_less, post_after, done_under, due_all, IsToldTask, TasksShow}
use Rattle.merge_tasks.proofs.BoardRows.{line_told, open_with, lines_with, due_settled}
use Rattle.merge_tasks.proofs.TaskFrames.{tasks_ended}
use Rattle.cluster_nodes.specs.declared.held.HeldTicket.{HeldTicket}
use Rattle.cluster_nodes.specs.declared.nodes.Node.{Node}
use Rattle.cluster_nodes.specs.declared.nodes.Node.TheVariants.{Primary, Replica, Down}
use Rattle.cluster_nodes.specs.declared.nodes.NodePlace.{NodePlace}
use Rattle.cluster_nodes.specs.Places.{place_of}
use Rattle.cluster_nodes.specs.Outs.{jobs_like}
use Rattle.cluster_state.specs.Merging.{IsSentCopy, AreSentCopies, NodeMerges, IsFitKind}
use Rattle.cluster_state.proofs.JobFrames.{same_inner}
use Rattle.cluster_state.proofs.MergingStill.{node_stands, node_keeps}
use Rattle.cluster_merges.specs.Running.{AllShown}
use Rattle.cluster_merges.proofs.CopyRows.{IsSpreadRow, spread_row, node_copied, counts_ends, after_told, after_fit}
use Rattle.cluster_merges.proofs.InsideSteps.{inside_all}
use Rattle.cluster_merges.specs.CopyTurns.{EndsCopyOf}
use Rattle.cluster_merges.proofs.CopyLists.{sent_without}

-- a row whose copy has a task: all copies have begun, and that one is left
pub task_row : (o : Option Spread) (n job : ℕ) → has_copy_task n job o ≡ true → IsSomeAnd o (λ s. (s.all ≡ true) × (is_sent_in n job s.left ≡ true))
task_row None n job is = absurd (true≢false (sym is))
task_row (Some s) n job is = and_parts s.all (is_sent_in n job s.left) is

-- once the task of a copy has ended
abbrev pub spread_less : ℕ → ℕ → Spread → Spread
spread_less n job s = record s { left = without_sent n job s.left }

module _ (seg n job : ℕ) (rows : List OpenMerge) (z : IsSpreadRow seg rows) where
  -- the copies that run were sent by what is left, where that one does not run
  copies_less : (m : ℕ) (running : List Job) → (m ≡ n → (c : Job) → copy_at job running ≡ Some c → c.want ≡ z.spread.state → ⊥) → AreSentCopies rows m running → AreSentCopies (with_spread seg (Some (spread_less n job z.spread)) rows) m running
  copies_less m running gone sent k c at = by_test (seg == was.seg) (λ b. (seg == was.seg) ≡ b → IsSentCopy new m k c) mine other refl
    where
      new : List OpenMerge
      new = with_spread seg (Some (spread_less n job z.spread)) rows

      was : IsSentCopy rows m k c
      was = sent k c at

      row_now : (b : Bool) → (seg == was.seg) ≡ b → spread_at (open_merge was.seg (with_spread seg (Some (spread_less n job z.spread)) rows)) ≡ spread_at (if b then Some (record z.row { spread = Some (spread_less n job z.spread) }) else open_merge was.seg rows)
      row_now b is = ap spread_at (open_with rows seg (Some (spread_less n job z.spread)) z.row z.there was.seg ∙ ap (λ (t : Bool). if t then Some (record z.row { spread = Some (spread_less n job z.spread) }) else open_merge was.seg rows) is)

      mine : (seg == was.seg) ≡ true → (seg == was.seg) ≡ true → IsSentCopy new m k c
      mine here again = record {
        seg = was.seg;
        spread = spread_less n job z.spread;
        row = row_now true here;
        sent = sent_without z.spread.left n job m k (λ at_node number. gone (sym at_node) c (ap (λ (i : ℕ). copy_at i running) number ∙ at) (was.want ∙ ap (λ (x : Spread). x.state) one)) (ap (λ (x : Spread). is_sent_in m k x.left) (sym one) ∙ was.sent);
        want = was.want ∙ ap (λ (x : Spread). x.state) one;
      }
        where
          one : was.spread ≡ z.spread
          one = let both : Some was.spread ≡ Some z.spread = sym was.row ∙ (ap (λ (i : ℕ). spread_at (open_merge i rows)) (sym (eqb-true seg was.seg here)) ∙ (ap spread_at z.there ∙ z.some)) in cc

      other : (seg == was.seg) ≡ false → (seg == was.seg) ≡ false → IsSentCopy new m k c
      other apart again = record { seg = was.seg; spread = was.spread; row = row_now false apart ∙ was.row; sent = was.sent; want = was.want }

  -- what a node has to do with the rows then
  node_less : {D : Type 0} (log : Log) (cut : Bool) (jobs : Out → ℕ) (m : ℕ) (x : Node D) → ((r : ReplicaParts D) → x ≡ Replica r → m ≡ n → (c : Job) → copy_at job r.copies.running ≡ Some c → c.want ≡ z.spread.state → ⊥)
      → NodeMerges log cut jobs rows m x → NodeMerges log cut jobs (with_spread seg (Some (spread_less n job z.spread)) rows) m x
  node_less log cut jobs m (Primary p) gone is =
      node_copied seg rows z (spread_less n job z.spread) refl log cut jobs (suc n) (Primary p) (λ k sent. sent_without z.spread.left n job (suc n) k (λ same_node number. absurd (omega (arith, same_node))) sent) is
  node_less log cut jobs m (Replica r) gone is = copies_less m r.copies.running (gone r refl) is
  node_less log cut jobs m (Down d) gone is = tt

module _ {D : Type 0} (cells : D → Cells) where
  -- no copy of the merge runs at the node under the number
  abbrev pub IsCopyGone : ℕ → ℕ → ℕ → List OpenMerge → List (Option (NodePlace D)) → Type 0
  IsCopyGone seg n job rows places = (s : Spread) → spread_at (open_merge seg rows) ≡ Some s → (r : ReplicaParts D) (held : Vec HeldTicket Global) → place_of places n ≡ Some (record { node = Replica r; held = held })
      → (c : Job) → copy_at job r.copies.running ≡ Some c → c.want ≡ s.state → ⊥

  pub end_path : (b0 b2 : Sheet) (places : List (Option (NodePlace D))) (board new : Board) (line : LineNo) (seg : SegNo) (by : Option At) (n : NodeNo) (job : ℕ) → EndsCopyOf line seg by n job b0 b2 board new
      → has_copy_task n.0 job (spread_at (open_merge seg.0 board.rows)) ≡ true → IsCopyGone seg.0 n.0 job board.rows places → AllShown cells b0 board places → AllShown cells b2 new places
  end_path b0 b2 places board new line seg taker n job ends has gone all =
      inside_all cells b0 b2 places board new i ends.log ends.nodes ends.cut (λ at. refl) (λ m. same_inner b0.log i m refl) tasks fit each empty all all.1.carried
    where
      i : Inner
      i = TaskEnd line seg taker (PreCopyStep n job) true

      found : (z : IsSpreadRow seg.0 board.rows) × ((z.spread.all ≡ true) × (is_sent_in n.0 job z.spread.left ≡ true))
      found = spread_row seg.0 board.rows (λ s. (s.all ≡ true) × (is_sent_in n.0 job s.left ≡ true)) (task_row (spread_at (open_merge seg.0 board.rows)) n.0 job has)

      less : Option Spread
      less = sent_less n.0 job (spread_at (open_merge seg.0 board.rows))

      rows_are : new.rows ≡ with_spread seg.0 (Some (spread_less n.0 job found.0.spread)) board.rows
      rows_are = ends.rows ∙ ap (λ (o : Option Spread). with_spread seg.0 o board.rows) (ap (λ (o : Option OpenMerge). sent_less n.0 job (spread_at o)) found.0.there ∙ ap (sent_less n.0 job) found.0.some)

      fit : All (λ p. IsFitKind p.kind) new.posted
      fit = subst (λ (l : List Posted). All (λ p. IsFitKind p.kind) l) (sym ends.posted)
          (All-append (λ (p : Posted). IsFitKind p.kind) board.posted (post_after seg line (sent_left less)) all.2.fit (after_fit seg line (sent_left less)))

      due : 1 + due_all b0.nodes new.rows ≤ due_all b0.nodes board.rows
      due =
          let fewer = due_settled b0.nodes board.rows seg.0 found.0.row found.0.spread n.0 job found.0.there found.0.some found.1.0 found.1.1 in
          let same_due : due_all b0.nodes new.rows ≡ due_all b0.nodes (with_spread seg.0 (sent_less n.0 job found.0.row.spread) board.rows) =
          ap (due_all b0.nodes) (ends.rows ∙ ap (λ (o : Option OpenMerge). with_spread seg.0 (sent_less n.0 job (spread_at o)) board.rows) found.0.there) in
          omega (arith, fewer, same_due)

      tasks : TasksShow b0.nodes (kept i ∷ b0.log) new
      tasks = tasks_ended b0.nodes b0.log board new line seg taker (PreCopyStep n job) true
          (λ m. ap (λ (l : List OpenMerge). line_told (open_merge m l)) ends.rows ∙ lines_with board.rows seg.0 less m)
          (subst (λ (l : List Posted). All (IsToldTask b0.log) l) (sym ends.posted)
          (All-append (IsToldTask b0.log) board.posted (post_after seg line (sent_left less)) all.2.tasks.posted (after_told b0.log seg line (sent_left less))))
          due (λ x. ends.counts x ∙ ap (λ (k : ℕ). done_under x board.counts + k) (counts_ends x line seg taker (PreCopyStep n job))) all.2.tasks

      jobs : Out → ℕ
      jobs o = jobs_like places o b0.nodes

      each : (m : ℕ) → IsNode b0.nodes m → IsSomeAnd (place_of places m) (λ z. NodeMerges (kept i ∷ b0.log) b0.cut (λ o. jobs_like places o b0.nodes) new.rows m z.node)
      each m node = at_place (place_of places m) refl (all.2.each m node)
        where
          at_place : (o : Option (NodePlace D)) → place_of places m ≡ o → IsSomeAnd o (λ z. NodeMerges b0.log b0.cut (λ x. jobs_like places x b0.nodes) board.rows m z.node)
              → IsSomeAnd o (λ z. NodeMerges (kept i ∷ b0.log) b0.cut (λ x. jobs_like places x b0.nodes) new.rows m z.node)
          at_place None there none = absurd none
          at_place (Some y) there is = subst (λ (l : List OpenMerge). NodeMerges (kept i ∷ b0.log) b0.cut jobs l m y.node) (sym rows_are)
              (node_less seg.0 n.0 job board.rows found.0 (kept i ∷ b0.log) b0.cut jobs m y.node runs_not
              (node_stands b0.log (kept i ∷ b0.log) b0.cut jobs jobs board.rows m (λ k inputs same. same) y.node y.node (node_keeps jobs jobs y.node (λ o. omega arith)) is))
            where
              runs_not : (r : ReplicaParts D) → y.node ≡ Replica r → m ≡ n.0 → (c : Job) → copy_at job r.copies.running ≡ Some c → c.want ≡ found.0.spread.state → ⊥
              runs_not r is_replica same_node c at want = gone found.0.spread (ap spread_at found.0.there ∙ found.0.some) r y.held
                  (ap (place_of places) (sym same_node) ∙ (there ∙ ap (λ (x : Node D). Some (record { node = x; held = y.held })) is_replica)) c at want

      -- a row is there
      empty : (board.posted ≡ []) × (board.rows ≡ []) → (new.posted ≡ []) × (new.rows ≡ [])
      empty none = absurd (nothing (sym (ap (open_merge seg.0) none.1) ∙ found.0.there))
        where
          nothing : None ≡ Some found.0.row → ⊥
          nothing e = absurd (cc)
