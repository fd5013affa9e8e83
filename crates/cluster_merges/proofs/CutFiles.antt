-- A primary that cut a merge over: which files it wrote, and that it holds no number and no live file that others do not expect.
use Rattle.std.proofs.Common.{◌≡◌, ◌≤◌, ◌<◌, ◌+◌, ◌++◌, ◌⊎◌, inl, inr, ℕ, true, false, List, [], ◌∷◌, Option, refl, ap, ◌∙◌, subst, arith, if◌then◌else◌}
use Rattle.std.specs.List.{Contains}
use Rattle.std.proofs.lemmas.List.Elements.{Contains-append_cases, Contains-append_left, Contains-append_right}
use Rattle.nrt_base.specs.declared.numbers.SegNo.{SegNo}
use Rattle.disk_model.specs.Disk.{Name, Content, Cells, reads_of}
use Rattle.file_deleter.specs.Holdings.{count_of, times}
use Rattle.file_deleter.proofs.NameLemmas.{times-append}
use Rattle.file_names.specs.Names.{live_name_of}
use Rattle.copy_state.specs.declared.state.CopyState.{CopyState}
use Rattle.segment_infos.specs.declared.infos.Infos.{Infos}
use Rattle.segment_steps.specs.Next.{live_base}
use Rattle.seg_reader.specs.Shown.{Shown}
use Rattle.searcher_switch.specs.declared.open.Open.{Open}
use Rattle.searcher_switch.specs.Searching.{searcher_names}
use Rattle.commit_steps.specs.Book.{book_names}
use Rattle.index_primary.specs.declared.parts.PrimaryParts.{PrimaryParts}
use Rattle.index_primary.specs.declared.parts.Publish.{Publish}
use Rattle.index_primary.specs.declared.states.Merging.{Merging}
use Rattle.index_primary.specs.declared.states.Out.{Out}
use Rattle.index_primary.specs.Merges.{merge_names, merge_loose, merges_without}
use Rattle.index_primary.specs.States.{out_of, state_names, same_out, states_without}
use Rattle.index_primary.specs.Primary.{IsPrimary, primary_names, publish_loose, rest_loose, loose_of}
use Rattle.index_primary.proofs.Keeping.{states_split}
use Rattle.index_primary.proofs.MergeLists.{loose_without, names_split}
use Rattle.index_primary.proofs.NewFiles.{named_of}
use Rattle.replica_node.specs.Sources.{HeldReadAs}
use Rattle.history_rules.specs.Nodes.{Past, generation_of}
use Rattle.cluster_nodes.specs.declared.nodes.Node.TheVariants.{Primary}
use Rattle.cluster_state.proofs.Lasting.{live_lasts, unheld}
use Rattle.cluster_state.proofs.Living.{live_low}
use Rattle.cluster_state.proofs.Naming.{HoldsFrom, HoldsLow}
use Rattle.node_merges.specs.MergeChanges.{CutsMerge}
use Rattle.cluster_merges.proofs.FilesMore.{WritesMore}

-- a state that was given back holds no name more
states_less : (s : Out) (ts : List Out) (name : Name) → times (state_names (states_without s ts)) name ≤ times (state_names ts) name
states_less s [] name = omega arith
states_less s (t ∷ ts) name =
    let rest = states_less s ts name in
    let all : times (t.names ++ state_names ts) name ≡ times t.names name + times (state_names ts) name = times-append t.names (state_names ts) name in
    let less : times (t.names ++ state_names (states_without s ts)) name ≡ times t.names name + times (state_names (states_without s ts)) name = times-append t.names (state_names (states_without s ts)) name in
    elim (same_out s t) as (λ b. times (state_names (if b then ts else t ∷ states_without s ts)) name ≤ times (t.names ++ state_names ts) name) [ true ↦ omega (arith, all) | false ↦ omega (arith, rest, all, less) ]

module _ {D : Type 0} (cells : D → Cells) (seg : SegNo) (state : CopyState) (p q : PrimaryParts D) (cuts : CutsMerge cells seg state p q) where
  -- the primary wrote its file, in the terms of what others see
  pub cut_more : WritesMore cells p q
  cut_more = record {
    stays = cuts.stays;
    fresh = cuts.fresh;
    drawn = cuts.drawn;
    appears = cuts.appears;
    commits = ap (λ (z : PrimaryParts D). z.commits) cuts.others;
    point = ap (λ (z : PrimaryParts D). z.point_infos) cuts.others;
    generation = ap (λ (i : Infos). i.generation) cuts.cut.infos;
    whole = cuts.whole;
  }

  -- it has the tickets that it had, and no number that it had not
  pub cut_holds : (past : Past) → HoldsFrom cells past (Primary p) (Primary q)
  cut_holds past = record {
    tickets = λ o held. inl (subst (λ (ts : List (Open Shown)). Contains ts o) (ap (λ (z : PrimaryParts D). z.searchers.tickets) cuts.others) held);
    loose = λ k held. inl (by k (Contains-append_cases (publish_loose p.publish) (merge_loose (merges_without seg.0 p.merges)) k (subst (λ (ns : List ℕ). Contains ns k) loose held)));
  }
    where
      loose : loose_of q ≡ publish_loose p.publish ++ merge_loose (merges_without seg.0 p.merges)
      loose = ap (λ (o : Option Publish). publish_loose o ++ rest_loose q) (ap (λ (z : PrimaryParts D). z.publish) cuts.others) ∙ ap (λ (ms : List Merging). publish_loose p.publish ++ merge_loose ms) cuts.cut.merges

      by : (k : ℕ) → Contains (publish_loose p.publish) k ⊎ Contains (merge_loose (merges_without seg.0 p.merges)) k → Contains (loose_of p) k
      by k (inl publish) = Contains-append_left (publish_loose p.publish) (rest_loose p) k publish
      by k (inr rest) = Contains-append_right (publish_loose p.publish) (rest_loose p) k (loose_without seg.0 p.merges k rest)

  -- a file that is counted now and was not is one that the writer names
  newly_named : IsPrimary cells p → (name : Name) → count_of p.files name ≡ 0 → 0 < count_of q.files name → 0 < times q.names name
  newly_named was name none some =
      let old = was.node.counts name in
      let new = cuts.whole.node.counts name in
      let old_parts : times (primary_names p) name ≡ times (searcher_names p.searchers) name + (times p.names name + (times (state_names p.states) name + times (merge_names p.merges) name)) = states_split p p.states name in
      let new_parts : times (primary_names q) name ≡ times (searcher_names q.searchers) name + (times q.names name + (times (state_names q.states) name + times (merge_names q.merges) name)) = states_split q q.states name in
      let searched : times (searcher_names q.searchers) name ≡ times (searcher_names p.searchers) name = ap (λ (z : PrimaryParts D). times (searcher_names z.searchers) name) cuts.others in
      let book : times (book_names q.commits) name ≡ times (book_names p.commits) name = ap (λ (z : PrimaryParts D). times (book_names z.commits) name) cuts.others in
      let states : times (state_names q.states) name ≡ times (state_names (states_without (out_of state) p.states)) name = ap (λ (ss : List Out). times (state_names ss) name) cuts.states in
      let fewer = states_less (out_of state) p.states name in
      let merges : times (merge_names q.merges) name ≡ times (merge_names (merges_without seg.0 p.merges)) name = ap (λ (ms : List Merging). times (merge_names ms) name) cuts.cut.merges in
      let split = names_split seg.0 p.merges cuts.cut.m name cuts.cut.found in
      omega (arith, none, some, old, new, old_parts, new_parts, searched, book, states, fewer, merges, split)

  -- so a live file among them has a live generation that no later generation gives
  pub cut_low : (past : Past) → IsPrimary cells p → q.infos.generation.0 ≡ generation_of past → (source : Name → Content) → HeldReadAs source (cells p.dir) p.files → HoldsLow source q.files past
  cut_low past was generation source held r live_gen small fits none some =
      let name : Name = live_name_of r.seg.0 live_gen in
      let uncounted = unheld source (cells p.dir) p.files (primary_names p) p.commits was.node held name (live_lasts r.seg.0 live_gen) none in
      let named : Contains q.names name = named_of q.names name (newly_named was name uncounted some) in
      subst (λ (g : ℕ). live_gen < live_base (g + 1) r) generation
      (live_low q.infos cuts.whole.numbered.generation cuts.whole.numbered.counter r live_gen small fits name refl (reads_of (cells q.dir)) q.infos.segs q.segs cuts.whole.numbered.segs cuts.whole.writer.stands.each
      ((cuts.whole.writer.files.named name).0 named))
