-- A merge that is cut over, in the terms of the call: what it asks of the primary and of the ledger, and that all is true of the cluster again.
use Rattle.std.proofs.Common.{◌≡◌, ◌≢◌, ◌≤◌, ◌<◌, ◌+◌, ◌==◌, ◌&&◌, ℕ, Bool, true, false, true≢false, List, [], ◌∷◌, Some, None, Option, is_some, IsSome, Vec, Global, refl, ap, ◌∙◌, sym, subst, arith}
use Rattle.std.specs.Prelude.{IsSomeAnd}
use Rattle.std.specs.List.{All}
use Rattle.std.specs.Option.{option_map}
use Rattle.std.proofs.lemmas.Bool.{eq-eqb}
use Rattle.nrt_base.specs.declared.numbers.At.{At}
use Rattle.nrt_base.specs.declared.numbers.LineNo.{LineNo}
use Rattle.nrt_base.specs.declared.numbers.NodeNo.{NodeNo}
use Rattle.nrt_base.specs.declared.numbers.SegNo.{SegNo}
use Rattle.disk_model.specs.Disk.{Cells}
use Rattle.segment_infos.specs.declared.infos.Infos.{Infos}
use Rattle.seg_merge.specs.declared.task.Merged.{Merged}
use Rattle.index_primary.specs.declared.parts.PrimaryParts.{PrimaryParts}
use Rattle.index_primary.specs.declared.states.Merging.{Merging}
use Rattle.index_primary.specs.declared.states.Out.{Out}
use Rattle.index_primary.specs.Merges.{merge_of}
use Rattle.index_primary.specs.States.{out_of, is_out, states_without}
use Rattle.history_rules.specs.Nodes.{IsNode, is_at, primary_of}
use Rattle.history_rules.specs.Lines.{publish_in_flight}
use Rattle.history_rules.specs.Tasks.{merge_count}
use Rattle.history_book.specs.Log.{Log, printed, kept}
use Rattle.history_book.specs.declared.inner.Inner.TheVariants.{MergeEnd, TaskEnd}
use Rattle.history_book.specs.declared.inner.Step.TheVariants.{Cut as CutStep}
use Rattle.merge_tasks.specs.Merging.{Sheet, merge_on}
use Rattle.merge_tasks.specs.declared.tasks.OpenMerge.{OpenMerge}
use Rattle.merge_tasks.specs.declared.tasks.Posted.{Posted}
use Rattle.merge_tasks.specs.declared.tasks.Sent.{Sent}
use Rattle.merge_tasks.specs.declared.tasks.Spread.{Spread}
use Rattle.merge_tasks.specs.Board.{Board, open_merge, spread_at, sent_left, without_merge, is_none_left, is_copied, done_under, counts_one, TasksShow}
use Rattle.merge_tasks.proofs.BoardRows.{line_told, some_open}
use Rattle.cluster_nodes.specs.declared.held.HeldTicket.{HeldTicket}
use Rattle.cluster_nodes.specs.declared.nodes.Node.{Node}
use Rattle.cluster_nodes.specs.declared.nodes.Node.TheVariants.{Primary, Replica, Down}
use Rattle.cluster_nodes.specs.declared.nodes.NodePlace.{NodePlace}
use Rattle.cluster_nodes.specs.Places.{place_of}
use Rattle.cluster_nodes.specs.Outs.{one_like, states_like, jobs_like}
use Rattle.cluster_nodes.proofs.OutCounts.{jobs_same, is_there, one_self, states_back}
use Rattle.node_merges.specs.MergeChanges.{MayCut, CutsMerge, GivesUpMerge}
use Rattle.node_merges.specs.MergePlaces.{IsPrimaryIn, MovesPrimary}
use Rattle.cluster_state.specs.State.{FlightShows, NodeShows, PlaceShows, Shows}
use Rattle.cluster_state.specs.Files.{FilesShow}
use Rattle.cluster_state.specs.Merging.{AreWrittenAlike, AreMergedAlike, out_at, spreads_like, IsFitKind, PrimaryMerges, NodeMerges}
use Rattle.cluster_state.proofs.Frames.{some_at, slot_of}
use Rattle.cluster_state.proofs.FileFrames.{some_both, one_each, wants_same, files_still}
use Rattle.cluster_state.proofs.JobMoves.{shows_put, shows_kept}
use Rattle.cluster_state.proofs.JobFrames.{same_inner}
use Rattle.cluster_state.proofs.Drawn.{grows_none}
use Rattle.cluster_state.proofs.Disks.{commits_alone}
use Rattle.cluster_state.proofs.Naming.{FilesLast}
use Rattle.cluster_state.proofs.MergingStill.{alike_more}
use Rattle.cluster_merges.specs.Running.{AllShown}
use Rattle.cluster_merges.proofs.StandSteps.{spreads_without}
use Rattle.cluster_merges.proofs.CopyRows.{IsSpreadRow, spread_row}
use Rattle.cluster_merges.proofs.InsideSteps.{all_is}
use Rattle.cluster_merges.proofs.FilesMore.{files_more}
use Rattle.cluster_merges.proofs.AtPrimary.{primary_in_place}
use Rattle.cluster_merges.proofs.CutStands.{merge_started, cut_place, cut_merges, tasks_gone, sent_without}
use Rattle.cluster_merges.proofs.GivenMerges.{given_all}
use Rattle.cluster_merges.proofs.CutFiles.{cut_more, cut_holds, cut_low}

-- ---- rows

-- files are written of a merge that is copied, and no copy is left
copied_some : (o : Option Spread) → is_copied o ≡ true → is_some o ≡ true
copied_some None is = absurd (true≢false (sym is))
copied_some (Some s) is = refl

copied_ended : (s : Spread) → is_copied (Some s) ≡ true → s.left ≡ []
copied_ended s is = by s.all s.left is
  where
    by : (b : Bool) (left : List Sent) → (b && is_none_left left) ≡ true → left ≡ []
    by true [] is = refl
    by true (x ∷ left) is = absurd (true≢false (sym is))
    by false left is = absurd (true≢false (sym is))

-- so something was answered of it
some_spread : (answer o : Option Spread) → answer ≡ o → is_some o ≡ true → ((s : Spread) → answer ≡ Some s → ⊥) → ⊥
some_spread None o is some none = absurd (true≢false (sym some ∙ ap is_some (sym is)))
some_spread (Some s) o is some none = none s refl

-- the log has the merge of a row in flight
pub merge_stays : (size : ℕ) (log : Log) (board : Board) (seg : ℕ) → TasksShow size log board → open_merge seg board.rows ≢ None → merge_on seg log ≢ None
merge_stays size log board seg tasks there none = there (gone (open_merge seg board.rows) (tasks.lines seg ∙ ap (λ (o : Option At). option_map (λ (at : At). at.line) o) none))
  where
    gone : (o : Option OpenMerge) → line_told o ≡ None → o ≡ None
    gone None is = refl
    gone (Some row) is = absurd (cc)

-- a merge of which the row says that its files are written has them written at the primary
filled_by : (log : Log) (o : Option Merging) (row : OpenMerge) (s : Spread) → row.spread ≡ Some s → AreMergedAlike log o (Some row) → IsSomeAnd o (λ m. IsSome m.merged)
filled_by log None row s some alike = absurd alike
filled_by log (Some m) row s some alike = written m.merged (subst (λ (x : Option Spread). AreWrittenAlike m.merged x) some alike.written)
  where
    written : (o : Option Merged) → AreWrittenAlike o (Some s) → IsSome o
    written None none = absurd none
    written (Some merged) is = refl

-- its copy state is one of those that are out
out_by : (rows : List OpenMerge) (seg jobs : ℕ) (states : List Out) (row : OpenMerge) (s : Spread) → open_merge seg rows ≡ Some row → row.spread ≡ Some s → jobs + spreads_like (out_of s.state) rows ≤ states_like (out_of s.state) states
    → is_out (out_of s.state) states ≡ true
out_by rows seg jobs states row s there some low =
    let less = spreads_without (out_of s.state) rows seg row there in
    let one : one_like (out_of s.state) (out_at row.spread) ≡ 1 = ap (λ (x : Option Spread). one_like (out_of s.state) (out_at x)) some ∙ one_self (out_of s.state) in
    is_there (out_of s.state) states (omega (arith, low, less, one))

-- ---- the call

module _ {D : Type 0} (cells : D → Cells) (old : List (Option (NodePlace D))) (b0 : Sheet) (board : Board) (p : NodeNo) (seg : SegNo) (was : AllShown cells b0 board old) (node0 : IsNode b0.nodes p.0) (primary0 : primary_of (printed b0.log) ≡ Some p)
    (copied0 : is_copied (spread_at (open_merge seg.0 board.rows)) ≡ true) (calm0 : publish_in_flight (printed b0.log) ≡ None) where
  here : is_at (primary_of (printed b0.log)) p.0 ≡ true
  here = ap (λ (o : Option NodeNo). is_at o p.0) primary0 ∙ eq-eqb p.0 p.0 refl

  others : (m : ℕ) → (p.0 == m) ≡ false → is_at (primary_of (printed b0.log)) m ≡ false
  others m apart = ap (λ (o : Option NodeNo). is_at o m) primary0 ∙ apart

  -- the merge has a row
  pub has_row : open_merge seg.0 board.rows ≢ None
  has_row = some_open board.rows seg.0 (copied_some (spread_at (open_merge seg.0 board.rows)) copied0)

  -- and files that were written
  pub has_spread : (answer : Option Spread) → answer ≡ spread_at (open_merge seg.0 board.rows) → ((s : Spread) → answer ≡ Some s → ⊥) → ⊥
  has_spread answer is none = some_spread answer (spread_at (open_merge seg.0 board.rows)) is (copied_some (spread_at (open_merge seg.0 board.rows)) copied0) none

  -- the ledger has it in flight
  pub is_on : merge_on seg.0 b0.log ≢ None
  is_on = merge_stays b0.nodes b0.log board seg.0 was.2.tasks has_row

  module _ (spread : Spread) (took : Some spread ≡ spread_at (open_merge seg.0 board.rows)) where
    found : (z : IsSpreadRow seg.0 board.rows) × (z.spread ≡ spread)
    found = spread_row seg.0 board.rows (λ s. s ≡ spread) (subst (λ (o : Option Spread). IsSomeAnd o (λ s. s ≡ spread)) took refl)

    some : found.0.row.spread ≡ Some spread
    some = found.0.some ∙ ap Some found.1

    ended_all : spread.left ≡ []
    ended_all = copied_ended spread (ap is_copied took ∙ copied0)

    started : 0 < merge_count (printed b0.log)
    started = merge_started b0.nodes b0.log board seg.0 found.0.row found.0.there was.2.tasks

    -- what stands in the primary's place
    shows_at : (q : PrimaryParts D) (held : Vec HeldTicket Global) → place_of old p.0 ≡ Some (record { node = Primary q; held = held }) → PlaceShows cells b0.log p.0 (record { node = Primary q; held = held })
    shows_at q held there = some_at (PlaceShows cells b0.log p.0) (place_of old p.0) (record { node = Primary q; held = held }) there (was.0.each p.0 node0)

    merges_at : (q : PrimaryParts D) (held : Vec HeldTicket Global) → place_of old p.0 ≡ Some (record { node = Primary q; held = held }) → PrimaryMerges b0.log b0.cut (λ s. jobs_like old s b0.nodes) board.rows q
    merges_at q held there = some_at (λ (z : NodePlace D). NodeMerges b0.log b0.cut (λ s. jobs_like old s b0.nodes) board.rows p.0 z.node) (place_of old p.0) (record { node = Primary q; held = held }) there (was.2.each p.0 node0)

    out_there : (q : PrimaryParts D) (held : Vec HeldTicket Global) → place_of old p.0 ≡ Some (record { node = Primary q; held = held }) → is_out (out_of spread.state) q.states ≡ true
    out_there q held there = out_by board.rows seg.0 (jobs_like old (out_of spread.state) b0.nodes) q.states found.0.row spread found.0.there some ((merges_at q held there).outs (out_of spread.state))

    -- the primary may cut the merge over
    pub may_cut : IsPrimaryIn (MayCut seg spread.state) p.0 old
    may_cut = record {
      slot = slot_of cells b0.log b0.nodes p.0 old node0 was.0;
      primary = primary_in_place cells b0.log b0.nodes p.0 old here node0 was.0;
      may = λ q held there. record {
        ready = filled_by b0.log (merge_of seg.0 q.merges) found.0.row spread some (subst (λ (o : Option OpenMerge). AreMergedAlike b0.log (merge_of seg.0 q.merges) o) found.0.there ((merges_at q held there).merges seg.0));
        calm = subst (λ (o : Option At). FlightShows b0.log o q.publish q.segs) calm0 (shows_at q held there).node_shows.flight;
        out = out_there q held there;
      };
    }

    module _ (lasting : FilesLast) (new : List (Option (NodePlace D))) (cuts : MovesPrimary (CutsMerge cells seg spread.state) p.0 old new) where
      abbrev q : PrimaryParts D
      q = cuts.at.parts

      abbrev s : PrimaryParts D
      s = cuts.primary

      place : PlaceShows cells b0.log p.0 (record { node = Primary q; held = cuts.at.held })
      place = shows_at q cuts.at.held cuts.at.there

      mine : PrimaryMerges b0.log b0.cut (λ o. jobs_like old o b0.nodes) board.rows q
      mine = merges_at q cuts.at.held cuts.at.there

      same_jobs : (o : Out) → jobs_like new o b0.nodes ≡ jobs_like old o b0.nodes
      same_jobs o = jobs_same old new o b0.nodes (λ k within. wants_same p.0 (record { node = Primary s; held = cuts.at.held }) (record { node = Primary q; held = cuts.at.held }) old new cuts.moves cuts.at.there refl k)

      -- ---- the nodes, and their files, before the entries

      cut_shows : Shows cells b0.log b0.nodes new
      cut_shows = shows_put cells b0.nodes b0.log old new p.0 (record { node = Primary s; held = cuts.at.held }) cuts.moves (cut_place cells b0.log p.0 seg spread.state q s cuts.step started calm0 cuts.at.held place) was.0

      outs : (o : Out) → jobs_like old o b0.nodes ≤ states_like o s.states
      outs o =
          let low = mine.outs o in
          let less = spreads_without o board.rows seg.0 found.0.row found.0.there in
          let one : one_like o (out_at found.0.row.spread) ≡ one_like o (Some (out_of spread.state)) = ap (λ (x : Option Spread). one_like o (out_at x)) some in
          let back = states_back o (out_of spread.state) q.states (out_there q cuts.at.held cuts.at.there) in
          let now : states_like o s.states ≡ states_like o (states_without (out_of spread.state) q.states) = ap (states_like o) cuts.step.states in
          omega (arith, low, less, one, back, now)

      cut_files : FilesShow cells b0.log b0.nodes new
      cut_files = files_more cells b0.nodes b0.log old new p.0 q s cuts.at.held lasting (cut_more cells seg spread.state q s cuts.step) (cut_holds cells seg spread.state q s cuts.step (printed b0.log))
          (λ source held. cut_low cells seg spread.state q s cuts.step (printed b0.log) place.node_shows.whole (ap (λ (i : Infos). i.generation.0) cuts.step.cut.infos ∙ place.node_shows.writer.generation) source held)
          outs others cuts.moves node0 cuts.at.there was.0 was.1

      module _ (b3 : Sheet) (after : Board) (line : LineNo) (taker : Option At) (e3 : b3.log ≡ kept (TaskEnd line seg taker CutStep true) ∷ kept (MergeEnd seg true) ∷ b0.log) (n3 : b3.nodes ≡ b0.nodes) (c3 : b3.cut ≡ true)
          (rows : after.rows ≡ without_merge seg.0 board.rows) (posted : after.posted ≡ board.posted) where
        abbrev over : Log
        over = kept (MergeEnd seg true) ∷ b0.log

        abbrev now : Log
        now = kept (TaskEnd line seg taker CutStep true) ∷ over

        -- the entries are about no node and no job
        over_shows : Shows cells over b0.nodes new
        over_shows = shows_kept cells b0.nodes b0.log (MergeEnd seg true) new (λ at. refl) cut_shows

        now_shows : Shows cells now b0.nodes new
        now_shows = shows_kept cells b0.nodes over (TaskEnd line seg taker CutStep true) new (λ at. refl) over_shows

        now_files : FilesShow cells now b0.nodes new
        now_files = files_still cells b0.nodes over now new (grows_none (printed b0.log)) (λ name bytes out. out) (λ k other. same_inner over (TaskEnd line seg taker CutStep true) k refl) (λ k. commits_alone (printed b0.log) k) over_shows
            (files_still cells b0.nodes b0.log over new (grows_none (printed b0.log)) (λ name bytes out. out) (λ k other. same_inner b0.log (MergeEnd seg true) k refl) (λ k. commits_alone (printed b0.log) k) cut_shows cut_files)

        -- ---- merges

        primary_now : PrimaryMerges now true (λ o. jobs_like new o b0.nodes) (without_merge seg.0 board.rows) s
        primary_now = record {
          cut_over = closed.cut_over;
          merges = λ k. alike_more b0.log now (λ n inputs is. is) (merge_of k s.merges) (open_merge k (without_merge seg.0 board.rows)) (closed.merges k);
          outs = closed.outs;
        }
          where
            closed : PrimaryMerges b0.log true (λ o. jobs_like new o b0.nodes) (without_merge seg.0 board.rows) s
            closed = cut_merges b0.log b0.cut true (λ o. jobs_like old o b0.nodes) (λ o. jobs_like new o b0.nodes) board.rows seg found.0.row spread q s cuts.step.cut.m found.0.there some cuts.step.cut.found place.node_shows.whole.merges_apart
                (out_there q cuts.at.held cuts.at.there) cuts.step.cut.merges cuts.step.states cuts.step.cut.cut_over (λ o. (let same = same_jobs o in omega (arith, same))) mine

        beside : (k : ℕ) (x : Node D) → is_at (primary_of (printed b0.log)) k ≡ false → NodeShows cells b0.log k x → NodeMerges b0.log b0.cut (λ o. jobs_like old o b0.nodes) board.rows k x
            → NodeMerges now true (λ o. jobs_like new o b0.nodes) (without_merge seg.0 board.rows) k x
        beside k (Primary x) away showing stand = absurd (true≢false (sym showing.primary ∙ away))
        beside k (Replica x) away showing stand = sent_without board.rows seg.0 k x.copies.running (ap sent_left (sym took) ∙ ended_all) stand
        beside k (Down x) away showing stand = tt

        -- each node has to do with the other rows alone
        each_now : (k : ℕ) → IsNode b0.nodes k → IsSomeAnd (place_of new k) (λ z. NodeMerges now true (λ o. jobs_like new o b0.nodes) after.rows k z.node)
        each_now = subst (λ (l : List OpenMerge). (k : ℕ) → IsNode b0.nodes k → IsSomeAnd (place_of new k) (λ z. NodeMerges now true (λ o. jobs_like new o b0.nodes) l k z.node)) (sym rows)
            (one_each {P = λ k z. PlaceShows cells b0.log k z × NodeMerges b0.log b0.cut (λ o. jobs_like old o b0.nodes) board.rows k z.node} {Q = λ k z. NodeMerges now true (λ o. jobs_like new o b0.nodes) (without_merge seg.0 board.rows) k z.node}
            b0.nodes p.0 (record { node = Primary s; held = cuts.at.held }) old new cuts.moves
            (λ k within. some_both (place_of old k) (was.0.each k within) (was.2.each k within) (λ z a b. (a, b)))
            (λ k z within apart both. beside k z.node (others k apart) both.0.node_shows both.1)
            primary_now)

        -- THE CLUSTER again
        pub cut_all : ((x : At) → done_under x after.counts ≡ done_under x board.counts + counts_one x taker) → AllShown cells b3 after new
        cut_all counts = all_is cells sheet b3 after new e3 n3 c3 (
          now_shows,
          now_files,
          record {
            tasks = tasks_gone b0.nodes b0.log board after line seg taker CutStep true found.0.row found.0.there rows posted counts was.2.tasks;
            fit = subst (λ (l : List Posted). All (λ t. IsFitKind t.kind) l) (sym posted) was.2.fit;
            each = each_now;
            vacant = λ none. absurd (reigns none);
          },
        )
          where
            sheet : Sheet
            sheet = record b0 { log = now; cut = true }

            reigns : primary_of (printed b0.log) ≡ None → ⊥
            reigns none = let clash : Some p ≡ None = sym primary0 ∙ none in absurd (cc)

    -- it was given up
    pub cut_given : (lasting : FilesLast) (new : List (Option (NodePlace D))) → MovesPrimary (GivesUpMerge cells seg (states_without (out_of spread.state))) p.0 old new → (b3 : Sheet) (after : Board) (line : LineNo) (taker : Option At)
        → b3.log ≡ kept (TaskEnd line seg taker CutStep true) ∷ kept (MergeEnd seg false) ∷ b0.log → b3.nodes ≡ b0.nodes → b3.cut ≡ b0.cut → after.rows ≡ without_merge seg.0 board.rows → after.posted ≡ board.posted
        → ((x : At) → done_under x after.counts ≡ done_under x board.counts + counts_one x taker) → AllShown cells b3 after new
    cut_given lasting new moves b3 after line taker e3 n3 c3 rows posted counts =
        given_all cells old new b0 b3 board after p line seg taker CutStep was node0 primary0 found.0.row found.0.there (ap sent_left some ∙ ended_all) (states_without (out_of spread.state)) moves leaves lasting e3 n3 c3 rows posted counts
      where
        leaves : (o : Out) → states_like o moves.at.parts.states ≤ one_like o (out_at found.0.row.spread) + states_like o (states_without (out_of spread.state) moves.at.parts.states)
        leaves o =
            let one : one_like o (out_at found.0.row.spread) ≡ one_like o (Some (out_of spread.state)) = ap (λ (x : Option Spread). one_like o (out_at x)) some in
            let back = states_back o (out_of spread.state) moves.at.parts.states (out_there moves.at.parts moves.at.held moves.at.there) in
            omega (arith, one, back)
