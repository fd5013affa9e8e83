-- A primary that wrote the files of a merged segment: which they are, and that what is shown of nodes is shown still.
use Rattle.std.proofs.Common.{◌≡◌, ◌≤◌, ◌<◌, ◌+◌, ℕ, List, [], ◌∷◌, ◌++◌, ◌^◌, Some, None, Option, Vec, Global, ap, ◌∙◌, sym, subst, arith}
use Rattle.std.proofs.lemmas.Bool.{lt-ltb}
use Rattle.disk_model.specs.Disk.{Name, Content, Cells, is_among}
use Rattle.file_deleter.specs.Holdings.{count_of, times}
use Rattle.file_deleter.proofs.NameLemmas.{times-append, among_is}
use Rattle.file_names.specs.Names.{live_name_of}
use Rattle.file_names.proofs.NameLaws.{part_name_not_live}
use Rattle.segment_infos.specs.declared.infos.Infos.{Infos}
use Rattle.copy_state.specs.declared.state.CopyState.{CopyState}
use Rattle.copy_state.specs.States.{meta_names}
use Rattle.commit_steps.specs.Book.{book_names}
use Rattle.seg_reader.specs.Shown.{Shown}
use Rattle.seg_merge.specs.declared.task.MergeTask.{MergeTask}
use Rattle.seg_merge.specs.declared.task.Merged.{Merged}
use Rattle.seg_merge.specs.Merging.{IsMergedOf}
use Rattle.searcher_switch.specs.declared.open.Open.{Open}
use Rattle.searcher_switch.specs.declared.open.SearchPoint.{SearchPoint}
use Rattle.searcher_switch.specs.Searching.{searcher_names}
use Rattle.index_primary.specs.declared.parts.PrimaryParts.{PrimaryParts}
use Rattle.index_primary.specs.declared.parts.Publish.{Publish}
use Rattle.index_primary.specs.declared.states.Merging.{Merging}
use Rattle.index_primary.specs.declared.states.Out.{Out}
use Rattle.index_primary.specs.Merges.{merge_of, merge_names, merges_with}
use Rattle.index_primary.specs.States.{out_of, state_names}
use Rattle.index_primary.specs.Written.{names_of}
use Rattle.index_primary.specs.Primary.{IsPrimary, primary_names, rest_names}
use Rattle.index_primary.proofs.MergeLists.{names_with}
use Rattle.index_primary.proofs.MergedFiles.{part_among, merged_names}
use Rattle.replica_node.specs.Sources.{HeldReadAs}
use Rattle.history_rules.specs.Nodes.{Past, IsNode, version_of}
use Rattle.history_rules.specs.Lines.{publish_in_flight}
use Rattle.history_book.specs.Log.{Log, printed}
use Rattle.cluster_nodes.specs.declared.held.HeldTicket.{HeldTicket}
use Rattle.cluster_nodes.specs.declared.nodes.Node.TheVariants.{Primary}
use Rattle.cluster_nodes.specs.declared.nodes.NodePlace.{NodePlace}
use Rattle.cluster_nodes.specs.Places.{place_of}
use Rattle.cluster_nodes.specs.Outs.{states_like}
use Rattle.cluster_nodes.specs.JobPlaces.{MovesOne}
use Rattle.cluster_nodes.proofs.OutCounts.{states_push}
use Rattle.node_merges.specs.MergeChanges.{ReadiesMerge}
use Rattle.cluster_state.specs.State.{IsPointAt, WritesAt, FlightShows, HoldsTickets, PrimaryShows, PlaceShows, Shows}
use Rattle.cluster_state.proofs.Frames.{some_at}
use Rattle.cluster_state.proofs.FileFrames.{one_each}
use Rattle.cluster_state.proofs.Lasting.{live_lasts, unheld}
use Rattle.cluster_state.proofs.Naming.{HoldsLow}
use Rattle.cluster_merges.proofs.FilesMore.{WritesMore}

module _ {D : Type 0} (cells : D → Cells) where
  -- ---- what was written

  states_pushed : (ss : List Out) (s : Out) (name : Name) → times (state_names (ss ++ s ∷ [])) name ≡ times (state_names ss) name + times s.names name
  states_pushed [] s name = let e : times (s.names ++ []) name ≡ times s.names name + 0 = times-append s.names [] name in e ∙ plus_none (times s.names name)
    where
      plus_none : (k : ℕ) → k + 0 ≡ 0 + k
      plus_none k = omega arith
  states_pushed (x ∷ ss) s name = sums (times (x.names ++ state_names (ss ++ s ∷ [])) name) (times x.names name) (times (state_names (ss ++ s ∷ [])) name) (times (x.names ++ state_names ss) name) (times (state_names ss) name) (times s.names name)
      (times-append x.names (state_names (ss ++ s ∷ [])) name) (states_pushed ss s name) (times-append x.names (state_names ss) name)
    where
      sums : (all first rest before others last : ℕ) → all ≡ first + rest → rest ≡ others + last → before ≡ first + others → all ≡ before + last
      sums all first rest before others last a more b = omega (arith, a, more, b)

  -- who holds a file of the primary's
  pub counts_split : (z : PrimaryParts D) → IsPrimary cells z → (name : Name)
      → count_of z.files name ≡ times (searcher_names z.searchers) name + times z.names name + times (state_names z.states) name + times (merge_names z.merges) name + times (book_names z.commits) name
  counts_split z is name =
      let counts = is.node.counts name in
      let one : times (primary_names z) name ≡ times (searcher_names z.searchers) name + times (z.names ++ rest_names z) name = times-append (searcher_names z.searchers) (z.names ++ rest_names z) name in
      let two : times (z.names ++ rest_names z) name ≡ times z.names name + times (rest_names z) name = times-append z.names (rest_names z) name in
      let three : times (rest_names z) name ≡ times (state_names z.states) name + times (merge_names z.merges) name = times-append (state_names z.states) (merge_names z.merges) name in
      omega (arith, counts, one, two, three)

  -- a file that is counted now and was not is one of the merged segment
  newly_written : (merged : Merged) (state : CopyState) (p q : PrimaryParts D) → ReadiesMerge cells merged state p q → IsPrimary cells p → (name : Name) → count_of p.files name ≡ 0 → 0 < count_of q.files name → 0 < times (names_of merged.files.files) name
  newly_written merged state p q w was name none some =
      let old = counts_split p was name in
      let new = counts_split q w.whole name in
      let searched : times (searcher_names q.searchers) name ≡ times (searcher_names p.searchers) name = ap (λ (z : PrimaryParts D). times (searcher_names z.searchers) name) w.others in
      let named : times q.names name ≡ times p.names name = ap (λ (z : PrimaryParts D). times z.names name) w.others in
      let book : times (book_names q.commits) name ≡ times (book_names p.commits) name = ap (λ (z : PrimaryParts D). times (book_names z.commits) name) w.others in
      let states : times (state_names q.states) name ≡ times (state_names p.states) name + times (meta_names state.files) name = ap (λ (ss : List Out). times (state_names ss) name) w.states ∙ states_pushed p.states (out_of state) name in
      let files : times (meta_names state.files) name ≡ times (names_of merged.files.files) name = ap (λ (ns : List Name). times ns name) w.of_merged.names_are in
      let merges : times (merge_names q.merges) name ≡ times (merge_names (merges_with merged (w.merges.m.names ++ names_of merged.files.files) p.merges)) name = ap (λ (ms : List Merging). times (merge_names ms) name) w.merges.merges in
      let with_names = names_with merged (w.merges.m.names ++ names_of merged.files.files) p.merges w.merges.m name w.merges.found in
      let both = times-append w.merges.m.names (names_of merged.files.files) name in
      omega (arith, none, some, old, new, searched, named, book, states, files, merges, with_names, both)

  -- so no live file is
  pub written_low : (merged : Merged) (state : CopyState) (task : MergeTask) (p q : PrimaryParts D) (past : Past) → ReadiesMerge cells merged state p q → IsMergedOf task merged → merged.files.seg.0 < 2 ^ 64 → IsPrimary cells p
      → (source : Name → Content) → HeldReadAs source (cells p.dir) p.files → HoldsLow source q.files past
  written_low merged state task p q past w of small was source held r live_gen fits low none some =
      let name : Name = live_name_of r.seg.0 live_gen in
      let uncounted = unheld source (cells p.dir) p.files (primary_names p) p.commits was.node held name (live_lasts r.seg.0 live_gen) none in
      let mine = newly_written merged state p q w was name uncounted some in
      let part = part_among merged.files.seg.0 name (ap (λ (ns : List Name). is_among ns name) (sym (merged_names task merged of)) ∙ (among_is (names_of merged.files.files) name ∙ lt-ltb 0 (times (names_of merged.files.files) name) mine)) in
      absurd (part_name_not_live merged.files.seg.0 r.seg.0 live_gen part.0 small fits low (sym part.1))

  -- the primary wrote its files, in the terms of what others see
  pub written_more : (merged : Merged) (state : CopyState) (p q : PrimaryParts D) → ReadiesMerge cells merged state p q → WritesMore cells p q
  written_more merged state p q w = record {
    stays = w.stays;
    fresh = w.fresh;
    drawn = w.drawn;
    appears = w.appears;
    commits = ap (λ (z : PrimaryParts D). z.commits) w.others;
    point = ap (λ (z : PrimaryParts D). z.point_infos) w.others;
    generation = ap (λ (z : PrimaryParts D). z.infos.generation) w.others;
    whole = w.whole;
  }

  pub written_outs : (merged : Merged) (state : CopyState) (p q : PrimaryParts D) → ReadiesMerge cells merged state p q → (s : Out) → states_like s p.states ≤ states_like s q.states
  written_outs merged state p q w s = let e : states_like s q.states ≡ states_like s (p.states ++ out_of state ∷ []) = ap (states_like s) w.states in let more = states_push s p.states (out_of state) in omega (arith, e, more)

  -- ---- what is shown of the nodes

  written_shows : (log : Log) (n : ℕ) (merged : Merged) (state : CopyState) (p q : PrimaryParts D) → ReadiesMerge cells merged state p q → PrimaryShows cells log n p → PrimaryShows cells log n q
  written_shows log n merged state p q w was = record {
    running = was.running;
    primary = was.primary;
    whole = w.whole;
    point = subst (λ (z : SearchPoint Shown). IsPointAt (printed log) (version_of n (printed log)) z) (sym (ap (λ (z : PrimaryParts D). z.searchers.point) w.others)) was.point;
    writer = subst (λ (z : Infos × List Shown). WritesAt (printed log) z.0 z.1) (λ i. (sym (ap (λ (z : PrimaryParts D). z.infos) w.others) i, sym (ap (λ (z : PrimaryParts D). z.segs) w.others) i)) was.writer;
    waiting = ap (λ (z : PrimaryParts D). z.waiting) w.others ∙ was.waiting;
    accepted = ap (λ (z : PrimaryParts D). z.accepted) w.others ∙ was.accepted;
    uncut = λ none. ap (λ (z : PrimaryParts D). z.has_cut_over) w.others ∙ was.uncut none;
    calm = λ none. absurd (no_merge (sym (ap (λ (ms : List Merging). merge_of merged.files.seg.0 ms) (was.calm none)) ∙ w.merges.found));
    flight = subst (λ (z : Option Publish × List Shown). FlightShows log (publish_in_flight (printed log)) z.0 z.1) (λ i. (sym (ap (λ (z : PrimaryParts D). z.publish) w.others) i, sym (ap (λ (z : PrimaryParts D). z.segs) w.others) i)) was.flight;
  }
    where
      no_merge : None ≡ Some w.merges.m → ⊥
      no_merge e = absurd (cc)

  pub shows_written : (size : ℕ) (log : Log) (old new : List (Option (NodePlace D))) (n : ℕ) (merged : Merged) (state : CopyState) (p q : PrimaryParts D) (held : Vec HeldTicket Global)
      → MovesOne n (record { node = Primary q; held = held }) old new → IsNode size n → place_of old n ≡ Some (record { node = Primary p; held = held }) → ReadiesMerge cells merged state p q → Shows cells log size old → Shows cells log size new
  shows_written size log old new n merged state p q held moves node there w was = record {
    some = was.some;
    count = moves.count ∙ was.count;
    each = one_each {P = PlaceShows cells log} {Q = PlaceShows cells log} size n (record { node = Primary q; held = held }) old new moves was.each (λ m z at apart is. is) (record {
      node_shows = written_shows log n merged state p q w mine.node_shows;
      tickets = subst (λ (ts : List (Open Shown)). HoldsTickets (printed log) n ts held.items) (sym (ap (λ (z : PrimaryParts D). z.searchers.tickets) w.others)) mine.tickets;
    });
    handed = was.handed;
  }
    where
      mine : PlaceShows cells log n (record { node = Primary p; held = held })
      mine = some_at (PlaceShows cells log n) (place_of old n) (record { node = Primary p; held = held }) there (was.each n node)
