-- A merge that was written: its row has its copy state, which is out, and all that is true of merges is true still.
use Rattle.std.proofs.Common.{◌≡◌, ◌+◌, ◌==◌, ℕ, Bool, true, false, true≢false, List, [], ◌∷◌, ◌++◌, Some, None, Option, Vec, Global, refl, ap, ◌∙◌, sym, subst, arith, if◌then◌else◌}
use Rattle.std.specs.Prelude.{IsSomeAnd}
use Rattle.std.specs.List.{All}
use Rattle.std.proofs.lemmas.List.Elements.{All-nil, All-cons, All-head, All-tail}
use Rattle.std.proofs.lemmas.Bool.{eqb-true}
use Rattle.std.proofs.lemmas.Option.{none-some}
use Rattle.disk_model.specs.Disk.{Name, Content, Cells, reads_of}
use Rattle.copy_state.specs.declared.state.CopyState.{CopyState}
use Rattle.copy_state.specs.declared.meta.FileMetaData.{FileMetaData}
use Rattle.copy_state.specs.States.{meta_names, IsCopyState}
use Rattle.copy_job.specs.Jobs.{Job}
use Rattle.seg_build.specs.Built.{File}
use Rattle.seg_merge.specs.declared.task.Merged.{Merged}
use Rattle.index_primary.specs.declared.parts.PrimaryParts.{PrimaryParts}
use Rattle.index_primary.specs.declared.states.Merging.{Merging}
use Rattle.index_primary.specs.Merges.{merge_of}
use Rattle.index_primary.specs.States.{out_of, IsMetaIn}
use Rattle.index_primary.specs.Written.{names_of}
use Rattle.history_rules.specs.Nodes.{IsNode, is_at, primary_of}
use Rattle.nrt_base.specs.declared.numbers.NodeNo.{NodeNo}
use Rattle.history_tables.proofs.RowLemmas.{by_test}
use Rattle.history_book.specs.Log.{Log, printed}
use Rattle.merge_tasks.specs.declared.tasks.OpenMerge.{OpenMerge}
use Rattle.merge_tasks.specs.declared.tasks.Posted.{Posted}
use Rattle.merge_tasks.specs.declared.tasks.Spread.{Spread}
use Rattle.merge_tasks.specs.Board.{Board, open_merge, spread_at, with_spread, is_sent_in, due_all, IsToldTask}
use Rattle.merge_tasks.proofs.BoardRows.{line_told, open_with, lines_with, due_written}
use Rattle.merge_tasks.proofs.TaskFrames.{tasks_on}
use Rattle.cluster_nodes.specs.declared.held.HeldTicket.{HeldTicket}
use Rattle.cluster_nodes.specs.declared.nodes.Node.{Node}
use Rattle.cluster_nodes.specs.declared.nodes.Node.TheVariants.{Primary, Replica, Down}
use Rattle.cluster_nodes.specs.declared.nodes.NodePlace.{NodePlace}
use Rattle.cluster_nodes.specs.Places.{place_of}
use Rattle.cluster_nodes.specs.Outs.{one_like, states_like, jobs_like}
use Rattle.cluster_nodes.specs.JobPlaces.{MovesOne}
use Rattle.cluster_nodes.proofs.OutCounts.{jobs_same, states_push}
use Rattle.node_merges.specs.MergeChanges.{ReadiesMerge}
use Rattle.cluster_state.specs.State.{NodeShows, PlaceShows, Shows}
use Rattle.cluster_state.specs.Merging.{IsStateOfMerged, AreMergedAlike, AreSentCopies, out_at, spreads_like, IsFitKind, PrimaryMerges, NodeMerges, MergesStand}
use Rattle.cluster_state.proofs.Growing.{test_apart}
use Rattle.cluster_state.proofs.Frames.{some_at}
use Rattle.cluster_state.proofs.FileFrames.{some_both, one_each, wants_same}
use Rattle.cluster_merges.proofs.StandSteps.{alike_written, sent_still, spreads_with}

-- metadata of files that read so are of the same bytes wherever they read so
metas_any : (a b : Name → Content) (files : List File) (metas : List (Name × FileMetaData)) → meta_names metas ≡ names_of files → All (λ (f : File). a f.0 ≡ Some f.1) files → All (λ (f : File). b f.0 ≡ Some f.1) files → All (IsMetaIn a) metas
    → All (IsMetaIn b) metas
metas_any a b [] [] e fa fb ma = All-nil (IsMetaIn b)
metas_any a b [] (m ∷ ms) e fa fb ma = absurd (cc)
metas_any a b (f ∷ fs) [] e fa fb ma = absurd (cc)
metas_any a b (f ∷ fs) (m ∷ ms) e fa fb ma =
    let head : m.0 ≡ f.0 = cc in
    let tail : meta_names ms ≡ names_of fs = cc in
    let h = All-head (IsMetaIn a) m ms ma in
    let both : Some h.bytes ≡ Some f.1 = sym h.there ∙ (ap a head ∙ All-head (λ (x : File). a x.0 ≡ Some x.1) f fs fa) in
    let same : h.bytes ≡ f.1 = cc in
    All-cons (IsMetaIn b) m ms (record { bytes = h.bytes; there = ap b head ∙ (All-head (λ (x : File). b x.0 ≡ Some x.1) f fs fb ∙ ap Some (sym same)); meta = h.meta })
    (metas_any a b fs ms tail (All-tail (λ (x : File). a x.0 ≡ Some x.1) f fs fa) (All-tail (λ (x : File). b x.0 ≡ Some x.1) f fs fb) (All-tail (IsMetaIn a) m ms ma))

-- a merge of which nothing was written sent no copy
copies_unwritten : (rows : List OpenMerge) (seg n : ℕ) (row : OpenMerge) (s : Spread) (running : List Job) → open_merge seg rows ≡ Some row → row.spread ≡ None → AreSentCopies rows n running → AreSentCopies (with_spread seg (Some s) rows) n running
copies_unwritten rows seg n row s running there none sent = sent_still rows (with_spread seg (Some s) rows) n running keeps sent
  where
    keeps : (seg' k : ℕ) (t : Spread) → spread_at (open_merge seg' rows) ≡ Some t → is_sent_in n k t.left ≡ true → IsSomeAnd (spread_at (open_merge seg' (with_spread seg (Some s) rows))) (λ u. (is_sent_in n k u.left ≡ true) × (u.state ≡ t.state))
    keeps seg' k t at sent_at =
        subst (λ (o : Option OpenMerge). IsSomeAnd (spread_at o) (λ u. (is_sent_in n k u.left ≡ true) × (u.state ≡ t.state))) (sym (open_with rows seg (Some s) row there seg'))
        (by_test (seg == seg') (λ b. (seg == seg') ≡ b → IsSomeAnd (spread_at (if b then Some (record row { spread = Some s }) else open_merge seg' rows)) (λ u. (is_sent_in n k u.left ≡ true) × (u.state ≡ t.state)))
        (λ here e. absurd (none-some t (sym none ∙ (sym (ap spread_at (ap (λ (q : ℕ). open_merge q rows) (sym (eqb-true seg seg' e)) ∙ there)) ∙ at))))
        (λ apart e. subst (λ (o : Option Spread). IsSomeAnd o (λ u. (is_sent_in n k u.left ≡ true) × (u.state ≡ t.state))) (sym at) (sent_at, refl))
        refl)

module _ {D : Type 0} (cells : D → Cells) where
  -- the copy state is one of the merged segment
  state_written : (merged : Merged) (state : CopyState) (p q : PrimaryParts D) (s : Spread) → s.state ≡ state → ReadiesMerge cells merged state p q → IsStateOfMerged merged s
  state_written merged state p q s is w = record {
    names = ap (λ (c : CopyState). meta_names c.files) is ∙ w.of_merged.names_are;
    metas = λ reads so. subst (λ (c : CopyState). All (IsMetaIn reads) c.files) (sym is) (metas_any (reads_of (cells q.dir)) reads merged.files.files state.files w.of_merged.names_are w.written so w.of_merged.metas);
    copy = subst (λ (c : CopyState). IsCopyState c) (sym is) w.copy;
  }

  pub stand_written : (size : ℕ) (log : Log) (cut : Bool) (board after : Board) (old new : List (Option (NodePlace D))) (n : ℕ) (merged : Merged) (state : CopyState) (p q : PrimaryParts D) (held : Vec HeldTicket Global) (row : OpenMerge)
      → MovesOne n (record { node = Primary q; held = held }) old new → IsNode size n → place_of old n ≡ Some (record { node = Primary p; held = held }) → is_at (primary_of (printed log)) n ≡ true → Shows cells log size old → ReadiesMerge cells merged state p q
      → open_merge merged.files.seg.0 board.rows ≡ Some row → row.spread ≡ None → after.rows ≡ with_spread merged.files.seg.0 (Some (record { state = state; left = []; all = false })) board.rows → after.posted ≡ board.posted → after.counts ≡ board.counts
      → MergesStand log cut size board old → MergesStand log cut size after new
  stand_written size log cut board after old new n merged state p q held row moves node there primary shows w found none rows posted counts was = record {
    tasks = tasks_on size log board after (λ seg. ap (λ (l : List OpenMerge). line_told (open_merge seg l)) rows ∙ lines_with board.rows merged.files.seg.0 (Some s) seg)
        (subst (λ (l : List Posted). All (IsToldTask log) l) (sym posted) was.tasks.posted)
        (let same : due_all size after.rows ≡ due_all size board.rows = ap (due_all size) rows ∙ due_written size board.rows merged.files.seg.0 row s found none refl in omega (arith, same)) counts was.tasks;
    fit = subst (λ (l : List Posted). All (λ p. IsFitKind p.kind) l) (sym posted) was.fit;
    each = one_each {P = λ m z. PlaceShows cells log m z × NodeMerges log cut (λ o. jobs_like old o size) board.rows m z.node} {Q = λ m z. NodeMerges log cut (λ o. jobs_like new o size) after.rows m z.node}
        size n (record { node = Primary q; held = held }) old new moves (λ m at. some_both (place_of old m) (shows.each m at) (was.each m at) (λ z a b. (a, b)))
        (λ m z at apart both. others m z.node (test_apart (primary_of (printed log)) n m apart primary) both.0.node_shows both.1) mine;
    vacant = λ gone. absurd (true≢false (sym primary ∙ ap (λ (o : Option NodeNo). is_at o n) gone));
  }
    where
      s : Spread
      s = record { state = state; left = []; all = false }

      others : (m : ℕ) (x : Node D) → is_at (primary_of (printed log)) m ≡ false → NodeShows cells log m x → NodeMerges log cut (λ o. jobs_like old o size) board.rows m x → NodeMerges log cut (λ o. jobs_like new o size) after.rows m x
      others m (Primary z) away is merges = absurd (true≢false (sym is.primary ∙ away))
      others m (Replica r) away is merges = subst (λ (l : List OpenMerge). AreSentCopies l m r.copies.running) (sym rows) (copies_unwritten board.rows merged.files.seg.0 m row s r.copies.running found none merges)
      others m (Down d) away is merges = tt

      before : PrimaryMerges log cut (λ o. jobs_like old o size) board.rows p
      before = some_at (λ z. NodeMerges log cut (λ o. jobs_like old o size) board.rows n z.node) (place_of old n) (record { node = Primary p; held = held }) there (was.each n node)

      mine : PrimaryMerges log cut (λ o. jobs_like new o size) after.rows q
      mine = record {
        cut_over = ap (λ (z : PrimaryParts D). z.has_cut_over) w.others ∙ before.cut_over;
        merges = λ seg. subst (λ (z : List Merging × List OpenMerge). AreMergedAlike log (merge_of seg z.0) (open_merge seg z.1)) (λ i. (sym w.merges.merges i, sym rows i))
            (alike_written log p.merges board.rows merged (w.merges.m.names ++ names_of merged.files.files) w.merges.m row s w.merges.found found (state_written merged state p q s refl w) before.merges seg);
        outs = λ o.
            let low = before.outs o in
            let jobs : jobs_like new o size ≡ jobs_like old o size = jobs_same old new o size (λ k within. wants_same n (record { node = Primary q; held = held }) (record { node = Primary p; held = held }) old new moves there refl k) in
            let like : spreads_like o after.rows ≡ spreads_like o (with_spread merged.files.seg.0 (Some s) board.rows) = ap (spreads_like o) rows in
            let move : spreads_like o (with_spread merged.files.seg.0 (Some s) board.rows) + one_like o (out_at row.spread) ≡ spreads_like o board.rows + one_like o (Some (out_of state)) = spreads_with o board.rows merged.files.seg.0 (Some s) row found in
            let no : one_like o (out_at row.spread) ≡ 0 = ap (λ (x : Option Spread). one_like o (out_at x)) none in
            let states : states_like o q.states ≡ states_like o p.states + one_like o (Some (out_of state)) = ap (states_like o) w.states ∙ states_push o p.states (out_of state) in
            omega (arith, low, jobs, like, move, no, states);
      }
