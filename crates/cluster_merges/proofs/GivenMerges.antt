-- What is true of a cluster stays true where its primary gave a merge up.
use Rattle.std.proofs.Common.{◌≡◌, ◌≤◌, ◌<◌, ◌+◌, ◌==◌, ◌⊎◌, inl, inr, ℕ, true, false, true≢false, List, [], ◌∷◌, ◌++◌, Some, None, Option, Vec, Global, refl, ap, ◌∙◌, sym, subst, arith}
use Rattle.std.specs.Prelude.{IsSomeAnd}
use Rattle.std.specs.List.{All, Contains}
use Rattle.std.proofs.lemmas.Bool.{eq-eqb}
use Rattle.std.proofs.lemmas.List.Elements.{Contains-append_cases, Contains-append_left, Contains-append_right}
use Rattle.nrt_base.specs.declared.numbers.At.{At}
use Rattle.nrt_base.specs.declared.numbers.LineNo.{LineNo}
use Rattle.nrt_base.specs.declared.numbers.NodeNo.{NodeNo}
use Rattle.nrt_base.specs.declared.numbers.SegNo.{SegNo}
use Rattle.disk_model.specs.Disk.{Name, Content, Cells}
use Rattle.file_names.specs.Names.{live_name_of}
use Rattle.seg_reader.specs.Shown.{Shown}
use Rattle.segment_infos.specs.declared.infos.Infos.{Infos}
use Rattle.searcher_switch.specs.declared.open.Open.{Open}
use Rattle.searcher_switch.specs.declared.open.SearchPoint.{SearchPoint}
use Rattle.index_primary.specs.declared.parts.PrimaryParts.{PrimaryParts}
use Rattle.index_primary.specs.declared.parts.Publish.{Publish}
use Rattle.index_primary.specs.declared.states.Merging.{Merging}
use Rattle.index_primary.specs.declared.states.Out.{Out}
use Rattle.index_primary.specs.Merges.{merge_of, merge_loose, merges_without, AreApartMerges}
use Rattle.index_primary.specs.Primary.{IsPrimary, primary_names, publish_loose, rest_loose, loose_of}
use Rattle.index_primary.proofs.MergeLists.{loose_without}
use Rattle.replica_node.specs.Sources.{HeldReadAs}
use Rattle.history_rules.specs.Nodes.{Past, IsNode, is_at, primary_of, version_of}
use Rattle.history_rules.specs.Lines.{publish_in_flight}
use Rattle.history_rules.specs.Tasks.{merge_count}
use Rattle.history_book.specs.Log.{Log, printed, kept}
use Rattle.history_book.specs.declared.inner.Inner.TheVariants.{MergeEnd, TaskEnd}
use Rattle.history_book.specs.declared.inner.Step.{Step}
use Rattle.merge_tasks.specs.Merging.{Sheet}
use Rattle.merge_tasks.specs.declared.tasks.OpenMerge.{OpenMerge}
use Rattle.merge_tasks.specs.declared.tasks.Posted.{Posted}
use Rattle.merge_tasks.specs.Board.{Board, open_merge, spread_at, sent_left, without_merge, done_under, counts_one}
use Rattle.cluster_nodes.specs.declared.held.HeldTicket.{HeldTicket}
use Rattle.cluster_nodes.specs.declared.nodes.Node.{Node}
use Rattle.cluster_nodes.specs.declared.nodes.Node.TheVariants.{Primary, Replica, Down}
use Rattle.cluster_nodes.specs.declared.nodes.NodePlace.{NodePlace}
use Rattle.cluster_nodes.specs.Places.{place_of}
use Rattle.cluster_nodes.specs.Outs.{one_like, states_like, jobs_like}
use Rattle.cluster_nodes.proofs.OutCounts.{jobs_same}
use Rattle.node_merges.specs.MergeChanges.{GivesUpMerge}
use Rattle.node_merges.specs.MergePlaces.{MovesPrimary}
use Rattle.cluster_state.specs.State.{IsPointAt, WritesAt, FlightShows, HoldsTickets, NodeShows, PrimaryShows, PlaceShows, Shows}
use Rattle.cluster_state.specs.Files.{FilesShow}
use Rattle.cluster_state.specs.Merging.{AreMergedAlike, out_at, spreads_like, IsFitKind, PrimaryMerges, NodeMerges}
use Rattle.cluster_state.proofs.Frames.{some_at}
use Rattle.cluster_state.proofs.FileFrames.{some_both, one_each, wants_same, files_still}
use Rattle.cluster_state.proofs.JobMoves.{shows_put, shows_kept}
use Rattle.cluster_state.proofs.JobFrames.{same_inner}
use Rattle.cluster_state.proofs.Drawn.{grows_none}
use Rattle.cluster_state.proofs.Disks.{commits_alone}
use Rattle.cluster_state.proofs.Lasting.{live_lasts, unheld}
use Rattle.cluster_state.proofs.Naming.{FilesLast, HoldsFrom, HoldsLow}
use Rattle.cluster_state.proofs.MergingStill.{alike_more}
use Rattle.cluster_merges.specs.Running.{AllShown}
use Rattle.cluster_merges.proofs.StandSteps.{alike_closed, spreads_without}
use Rattle.cluster_merges.proofs.InsideSteps.{all_is}
use Rattle.cluster_merges.proofs.FilesMore.{WritesMore, files_more}
use Rattle.cluster_merges.proofs.CutStands.{merge_started, none_left, tasks_gone, sent_without}

-- ---- the primary

module _ {D : Type 0} (cells : D → Cells) (seg : SegNo) (still : List Out → List Out) (p q : PrimaryParts D) (gives : GivesUpMerge cells seg still p q) where
  -- what it wrote, in the terms of what others see
  given_more : WritesMore cells p q
  given_more = record {
    stays = gives.stays;
    fresh = record { each = λ name none some. absurd (let gone = gives.no_new.each name none in omega (arith, gone, some)) };
    drawn = gives.drawn;
    appears = gives.appears;
    commits = ap (λ (z : PrimaryParts D). z.commits) gives.others;
    point = ap (λ (z : PrimaryParts D). z.point_infos) gives.others;
    generation = ap (λ (z : PrimaryParts D). z.infos.generation) gives.others;
    whole = gives.whole;
  }

  -- it has the tickets that it had, and no number that it had not
  given_holds : (past : Past) → HoldsFrom cells past (Primary p) (Primary q)
  given_holds past = record {
    tickets = λ o held. inl (subst (λ (ts : List (Open Shown)). Contains ts o) (ap (λ (z : PrimaryParts D). z.searchers.tickets) gives.others) held);
    loose = λ k held. inl (by k (Contains-append_cases (publish_loose p.publish) (merge_loose (merges_without seg.0 p.merges)) k (subst (λ (ns : List ℕ). Contains ns k) loose held)));
  }
    where
      loose : loose_of q ≡ publish_loose p.publish ++ merge_loose (merges_without seg.0 p.merges)
      loose = ap (λ (o : Option Publish). publish_loose o ++ rest_loose q) (ap (λ (z : PrimaryParts D). z.publish) gives.others) ∙ ap (λ (ms : List Merging). publish_loose p.publish ++ merge_loose ms) gives.merges

      by : (k : ℕ) → Contains (publish_loose p.publish) k ⊎ Contains (merge_loose (merges_without seg.0 p.merges)) k → Contains (loose_of p) k
      by k (inl publish) = Contains-append_left (publish_loose p.publish) (rest_loose p) k publish
      by k (inr rest) = Contains-append_right (publish_loose p.publish) (rest_loose p) k (loose_without seg.0 p.merges k rest)

  -- it counts no file that means nothing
  given_low : (past : Past) → IsPrimary cells p → (source : Name → Content) → HeldReadAs source (cells p.dir) p.files → HoldsLow source q.files past
  given_low past was source held r live_gen small fits none some =
      let uncounted = unheld source (cells p.dir) p.files (primary_names p) p.commits was.node held (live_name_of r.seg.0 live_gen) (live_lasts r.seg.0 live_gen) none in
      let gone = gives.no_new.each (live_name_of r.seg.0 live_gen) uncounted in
      absurd (omega (arith, gone, some))

  given_primary : (log : Log) (n : ℕ) → 0 < merge_count (printed log) → PrimaryShows cells log n p → PrimaryShows cells log n q
  given_primary log n started was = record {
    running = was.running;
    primary = was.primary;
    whole = gives.whole;
    point = subst (λ (z : SearchPoint Shown). IsPointAt (printed log) (version_of n (printed log)) z) (sym (ap (λ (z : PrimaryParts D). z.searchers.point) gives.others)) was.point;
    writer = subst (λ (z : Infos × List Shown). WritesAt (printed log) z.0 z.1) (λ i. (sym (ap (λ (z : PrimaryParts D). z.infos) gives.others) i, sym (ap (λ (z : PrimaryParts D). z.segs) gives.others) i)) was.writer;
    waiting = ap (λ (z : PrimaryParts D). z.waiting) gives.others ∙ was.waiting;
    accepted = ap (λ (z : PrimaryParts D). z.accepted) gives.others ∙ was.accepted;
    uncut = λ none. ap (λ (z : PrimaryParts D). z.has_cut_over) gives.others ∙ was.uncut none;
    calm = λ none. absurd (omega (arith, none, started));
    flight = subst (λ (z : Option Publish × List Shown). FlightShows log (publish_in_flight (printed log)) z.0 z.1) (λ i. (sym (ap (λ (z : PrimaryParts D). z.publish) gives.others) i, sym (ap (λ (z : PrimaryParts D). z.segs) gives.others) i)) was.flight;
  }

  given_place : (log : Log) (n : ℕ) (held : Vec HeldTicket Global) → 0 < merge_count (printed log) → PlaceShows cells log n (record { node = Primary p; held = held }) → PlaceShows cells log n (record { node = Primary q; held = held })
  given_place log n held started was = record {
    node_shows = given_primary log n started was.node_shows;
    tickets = subst (λ (ts : List (Open Shown)). HoldsTickets (printed log) n ts held.items) (sym (ap (λ (z : PrimaryParts D). z.searchers.tickets) gives.others)) was.tickets;
  }

-- ---- merges

-- a merge that has a row has a number at the primary, under which none is left
given_alike : (log : Log) (ms : List Merging) (rows : List OpenMerge) (seg : ℕ) (row : OpenMerge) → open_merge seg rows ≡ Some row → AreApartMerges ms → ((k : ℕ) → AreMergedAlike log (merge_of k ms) (open_merge k rows))
    → (k : ℕ) → AreMergedAlike log (merge_of k (merges_without seg ms)) (open_merge k (without_merge seg rows))
given_alike log ms rows seg row there apart alike =
    alike_closed log ms rows seg (by (merge_of seg ms) refl (subst (λ (o : Option OpenMerge). AreMergedAlike log (merge_of seg ms) o) there (alike seg))) alike
  where
    by : (o : Option Merging) → merge_of seg ms ≡ o → AreMergedAlike log o (Some row) → merge_of seg (merges_without seg ms) ≡ None
    by None found alone = absurd alone
    by (Some m) found is = none_left seg ms m apart found

-- ---- the cluster

module _ {D : Type 0} (cells : D → Cells) (old new : List (Option (NodePlace D))) (b0 b3 : Sheet) (board after : Board) (p : NodeNo) (line : LineNo) (seg : SegNo) (taker : Option At) (step : Step) (was : AllShown cells b0 board old) (node : IsNode b0.nodes p.0)
    (primary : primary_of (printed b0.log) ≡ Some p) (row : OpenMerge) (there : open_merge seg.0 board.rows ≡ Some row) (ended_all : sent_left row.spread ≡ []) (still : List Out → List Out) (moves : MovesPrimary (GivesUpMerge cells seg still) p.0 old new)
    (leaves : (o : Out) → states_like o moves.at.parts.states ≤ one_like o (out_at row.spread) + states_like o (still moves.at.parts.states)) (lasting : FilesLast)
    (log : b3.log ≡ kept (TaskEnd line seg taker step true) ∷ kept (MergeEnd seg false) ∷ b0.log) (nodes : b3.nodes ≡ b0.nodes) (cut : b3.cut ≡ b0.cut) (rows : after.rows ≡ without_merge seg.0 board.rows) (posted : after.posted ≡ board.posted)
    (counts : (x : At) → done_under x after.counts ≡ done_under x board.counts + counts_one x taker) where
  abbrev q : PrimaryParts D
  q = moves.at.parts

  abbrev s : PrimaryParts D
  s = moves.primary

  abbrev over : Log
  over = kept (MergeEnd seg false) ∷ b0.log

  abbrev now : Log
  now = kept (TaskEnd line seg taker step true) ∷ over

  here : is_at (primary_of (printed b0.log)) p.0 ≡ true
  here = ap (λ (o : Option NodeNo). is_at o p.0) primary ∙ eq-eqb p.0 p.0 refl

  others : (m : ℕ) → (p.0 == m) ≡ false → is_at (primary_of (printed b0.log)) m ≡ false
  others m apart = ap (λ (o : Option NodeNo). is_at o m) primary ∙ apart

  started : 0 < merge_count (printed b0.log)
  started = merge_started b0.nodes b0.log board seg.0 row there was.2.tasks

  place : PlaceShows cells b0.log p.0 (record { node = Primary q; held = moves.at.held })
  place = some_at (PlaceShows cells b0.log p.0) (place_of old p.0) (record { node = Primary q; held = moves.at.held }) moves.at.there (was.0.each p.0 node)

  mine : PrimaryMerges b0.log b0.cut (λ o. jobs_like old o b0.nodes) board.rows q
  mine = some_at (λ (z : NodePlace D). NodeMerges b0.log b0.cut (λ o. jobs_like old o b0.nodes) board.rows p.0 z.node) (place_of old p.0) (record { node = Primary q; held = moves.at.held }) moves.at.there (was.2.each p.0 node)

  same_jobs : (o : Out) → jobs_like new o b0.nodes ≡ jobs_like old o b0.nodes
  same_jobs o = jobs_same old new o b0.nodes (λ k within. wants_same p.0 (record { node = Primary s; held = moves.at.held }) (record { node = Primary q; held = moves.at.held }) old new moves.moves moves.at.there refl k)

  outs : (o : Out) → jobs_like old o b0.nodes + spreads_like o (without_merge seg.0 board.rows) ≤ states_like o s.states
  outs o =
      let low = mine.outs o in
      let less = spreads_without o board.rows seg.0 row there in
      let left = leaves o in
      let are : states_like o s.states ≡ states_like o (still q.states) = ap (states_like o) moves.step.states in
      omega (arith, low, less, left, are)

  -- ---- the nodes and their files

  given_shows : Shows cells b0.log b0.nodes new
  given_shows = shows_put cells b0.nodes b0.log old new p.0 (record { node = Primary s; held = moves.at.held }) moves.moves (given_place cells seg still q s moves.step b0.log p.0 moves.at.held started place) was.0

  given_files : FilesShow cells b0.log b0.nodes new
  given_files = files_more cells b0.nodes b0.log old new p.0 q s moves.at.held lasting (given_more cells seg still q s moves.step) (given_holds cells seg still q s moves.step (printed b0.log))
      (λ source held. given_low cells seg still q s moves.step (printed b0.log) place.node_shows.whole source held) (λ o. (let least = outs o in omega (arith, least))) others moves.moves node moves.at.there was.0 was.1

  over_shows : Shows cells over b0.nodes new
  over_shows = shows_kept cells b0.nodes b0.log (MergeEnd seg false) new (λ at. refl) given_shows

  now_files : FilesShow cells now b0.nodes new
  now_files = files_still cells b0.nodes over now new (grows_none (printed b0.log)) (λ name bytes out. out) (λ k other. same_inner over (TaskEnd line seg taker step true) k refl) (λ k. commits_alone (printed b0.log) k) over_shows
      (files_still cells b0.nodes b0.log over new (grows_none (printed b0.log)) (λ name bytes out. out) (λ k other. same_inner b0.log (MergeEnd seg false) k refl) (λ k. commits_alone (printed b0.log) k) given_shows given_files)

  -- ---- merges

  primary_now : PrimaryMerges now b0.cut (λ o. jobs_like new o b0.nodes) (without_merge seg.0 board.rows) s
  primary_now = record {
    cut_over = ap (λ (z : PrimaryParts D). z.has_cut_over) moves.step.others ∙ mine.cut_over;
    merges = λ k. alike_more b0.log now (λ n inputs is. is) (merge_of k s.merges) (open_merge k (without_merge seg.0 board.rows))
        (subst (λ (ms : List Merging). AreMergedAlike b0.log (merge_of k ms) (open_merge k (without_merge seg.0 board.rows))) (sym moves.step.merges)
        (given_alike b0.log q.merges board.rows seg.0 row there place.node_shows.whole.merges_apart mine.merges k));
    outs = λ o. (let least = outs o in let same = same_jobs o in omega (arith, least, same));
  }

  beside : (k : ℕ) (x : Node D) → is_at (primary_of (printed b0.log)) k ≡ false → NodeShows cells b0.log k x → NodeMerges b0.log b0.cut (λ o. jobs_like old o b0.nodes) board.rows k x
      → NodeMerges now b0.cut (λ o. jobs_like new o b0.nodes) (without_merge seg.0 board.rows) k x
  beside k (Primary x) away showing stand = absurd (true≢false (sym showing.primary ∙ away))
  beside k (Replica x) away showing stand = sent_without board.rows seg.0 k x.copies.running (ap (λ (o : Option OpenMerge). sent_left (spread_at o)) there ∙ ended_all) stand
  beside k (Down x) away showing stand = tt

  each_now : (k : ℕ) → IsNode b0.nodes k → IsSomeAnd (place_of new k) (λ z. NodeMerges now b0.cut (λ o. jobs_like new o b0.nodes) after.rows k z.node)
  each_now = subst (λ (l : List OpenMerge). (k : ℕ) → IsNode b0.nodes k → IsSomeAnd (place_of new k) (λ z. NodeMerges now b0.cut (λ o. jobs_like new o b0.nodes) l k z.node)) (sym rows)
      (one_each {P = λ k z. PlaceShows cells b0.log k z × NodeMerges b0.log b0.cut (λ o. jobs_like old o b0.nodes) board.rows k z.node} {Q = λ k z. NodeMerges now b0.cut (λ o. jobs_like new o b0.nodes) (without_merge seg.0 board.rows) k z.node}
      b0.nodes p.0 (record { node = Primary s; held = moves.at.held }) old new moves.moves
      (λ k within. some_both (place_of old k) (was.0.each k within) (was.2.each k within) (λ z a b. (a, b)))
      (λ k z within apart both. beside k z.node (others k apart) both.0.node_shows both.1)
      primary_now)

  -- THE CLUSTER again
  pub given_all : AllShown cells b3 after new
  given_all = all_is cells sheet b3 after new log nodes cut (
    shows_kept cells b0.nodes over (TaskEnd line seg taker step true) new (λ at. refl) over_shows,
    now_files,
    record {
      tasks = tasks_gone b0.nodes b0.log board after line seg taker step false row there rows posted counts was.2.tasks;
      fit = subst (λ (l : List Posted). All (λ t. IsFitKind t.kind) l) (sym posted) was.2.fit;
      each = each_now;
      vacant = λ none. absurd (reigns none);
    },
  )
    where
      sheet : Sheet
      sheet = record b0 { log = now }

      reigns : primary_of (printed b0.log) ≡ None → ⊥
      reigns none = let clash : Some p ≡ None = sym primary ∙ none in absurd (cc)
