-- A cut-over, from its write to its releases.
use Rattle.std.proofs.Common.{◌≡◌, ◌<◌, ◌≤◌, ◌+◌, ℕ, Bool, true, false, List, [], ◌++◌, inl, inr, Option, None, refl, sym, ap, subst, ◌∙◌, arith, true≢false, All}
use Rattle.std.proofs.Common.{length, is_some, get_or}
use Rattle.std.specs.Prelude.{IfSome}
use Rattle.std.specs.List.{Contains}
use Rattle.nrt_base.specs.declared.numbers.SegNo.{SegNo}
use Rattle.file_names.specs.Names.{is_commit_name, is_pending_name}
use Rattle.disk_model.specs.Disk.{Name, Cells, is_among, reads_of}
use Rattle.segment_infos.specs.declared.infos.Infos.{Infos}
use Rattle.segment_infos.specs.Infos.{CanSpell}
use Rattle.nrt_base.specs.declared.doc.Doc.{Doc}
use Rattle.seg_reader.specs.Stands.{AreSegmentsOf, StandsWith}
use Rattle.file_deleter.specs.Holdings.{Holdings, count_of, times, AreThere, AreCounted}
use Rattle.file_deleter.specs.Moves.{KeepsFiles, HoldsFiles, LetsGo}
use Rattle.file_deleter.proofs.NameLemmas.{times-append, among_times, not_among_times}
use Rattle.commit_steps.proofs.Safe.{among_of, contains_of}
use Rattle.commit_steps.specs.Book.{book_names}
use Rattle.commit_steps.specs.declared.stage.CommitBook.{CommitBook}
use Rattle.seg_reader.specs.Shown.{Shown}
use Rattle.searcher_switch.specs.declared.searchers.Searchers.{Searchers}
use Rattle.searcher_switch.specs.Searching.{searcher_names}
use Rattle.searcher_switch.specs.Node.{IsWholeNode, IsApart, HasNoPending}
use Rattle.searcher_switch.specs.Appearing.{AppearsOnly}
use Rattle.searcher_switch.proofs.Appearing.{keeps_only}
use Rattle.searcher_switch.proofs.Carry.{node_gathers, node_lets_go, node_same_names, node_same_counts, node_there, nothing_written, unheld_apart, front_counted}
use Rattle.searcher_switch.proofs.Standing.{segments_along, standing_kept}
use Rattle.index_primary.specs.declared.parts.PrimaryParts.{PrimaryParts}
use Rattle.index_primary.specs.declared.parts.Publish.{Publish}
use Rattle.index_primary.specs.declared.states.Merging.{Merging}
use Rattle.index_primary.specs.declared.states.Out.{Out}
use Rattle.index_primary.specs.Held.{IsHeld, IsUndrawn, IsOwnFile, AreUndrawn, AreNumbered}
use Rattle.index_primary.specs.States.{state_names}
use Rattle.index_primary.specs.Merges.{merge_names, merge_loose, merge_filled, merges_without}
use Rattle.index_primary.specs.Primary.{loose_in, publish_loose, loose_of, filled_of, rest_names, primary_names, IsUnwritten, IsPrimary}
use Rattle.index_primary.specs.Written.{names_of, ReadsSo}
use Rattle.index_primary.specs.Calls.{FillsUndrawn, DrawsOnly}
use Rattle.index_primary.proofs.Holding.{named_times, undrawn_plain, held_kept}
use Rattle.index_primary.proofs.Keeping.{writer_counted, point_counted, book_counted, merges_counted, primary_same}
use Rattle.index_primary.proofs.Writing.{among_at}
use Rattle.index_primary.proofs.MergeLists.{merging_kept, names_split, apart_without}
use Rattle.index_primary.specs.declared.merge_cuts.CutReady.{CutReady}
use Rattle.index_primary.specs.MergeCalls.{loose_left, filled_left}
use Rattle.index_primary.specs.CutOverCalls.{infos_of, IsCutReady, HasWrittenCut}
use Rattle.index_primary.proofs.CutSteps.{is_made, cut_spelled, cut_numbered, cut_once, cut_unwritten, cut_own, cut_names, cut_rest, cut_stands, cut_documents, cut_keeps}
use Rattle.segment_steps.specs.declared.next.NextSegments.{NextSegments}

module _ {D : Type 0} (cells : D → Cells) (p : PrimaryParts D) (is : IsPrimary cells p) (seg : SegNo) (r : CutReady) (ready : IsCutReady p seg r) where
  abbrev made : NextSegments
  made = record { records = r.infos.segs; segs = r.segs; files = r.files }

  -- the steps of the cut-over
  spelled : CanSpell r.infos
  spelled = subst CanSpell (sym ready.infos) (cut_spelled cells p is seg ready.m ready.found ready.merged ready.is_merged ready.shown ready.back made ready.cut)

  named_files : (q : Name) → is_among r.written q ≡ true → is_among (names_of r.files) q ≡ true
  named_files q there = ap (λ (ns : List Name). is_among ns q) (sym ready.written) ∙ there

  unwritten : (q : Name) → is_among r.written q ≡ true → IsUnwritten p q
  unwritten q there = cut_unwritten cells p is seg ready.m ready.found ready.merged ready.is_merged ready.shown ready.back made ready.cut q (named_files q there)

  pub fresh : (q : Name) → is_among r.written q ≡ true → count_of p.files q ≡ 0
  fresh q there = is.undrawn.each q (unwritten q there)

  pub once : (q : Name) → times r.written q ≤ 1
  once q = let e : times r.written q ≡ times (names_of r.files) q = ap (λ (ns : List Name). times ns q) ready.written in
      omega (arith, e, cut_once cells p is seg ready.m ready.found ready.merged ready.is_merged ready.shown ready.back made ready.cut q)

  plain : (q : Name) → is_among r.written q ≡ true → (is_commit_name q ≡ false) × (is_pending_name q ≡ false)
  plain q there = undrawn_plain p.infos (loose_of p) (filled_of p) q (unwritten q there)

  apart : IsApart r.written p.commits
  apart = unheld_apart (cells p.dir) p.files (primary_names p) r.written p.commits is.node plain fresh

  none_pending : HasNoPending r.written
  none_pending = record { each = λ q named. by q named (is_among r.written q) refl }
    where
      by : (q : Name) → is_pending_name q ≡ true → (b : Bool) → is_among r.written q ≡ b → times r.written q ≡ 0
      by q named true e = absurd (true≢false (sym named ∙ (plain q e).1))
      by q named false e = not_among_times r.written q e

  pub cut_appears : (dir : D) (files : Holdings) → KeepsFiles r.written p.files files (cells p.dir) (cells dir) → AppearsOnly (IsOwnFile p.infos (loose_of p)) (cells p.dir) (cells dir)
  cut_appears dir files keeps = keeps_only (IsOwnFile p.infos (loose_of p)) r.written p.files files (cells p.dir) (cells dir) keeps
      (λ q there gone. cut_own cells p is seg ready.m ready.found ready.merged ready.is_merged ready.shown ready.back made ready.cut q (named_files q there))

  -- the write is refused
  pub cut_refused : (dir : D) (files : Holdings) → ((q : Name) → count_of files q ≡ count_of p.files q) → KeepsFiles r.written p.files files (cells p.dir) (cells dir) → IsPrimary cells (record p { dir = dir; files = files })
  cut_refused dir files same keeps = primary_same cells p is dir files (node_same_counts (cells p.dir) (cells dir) p.files files (primary_names p) r.written p.commits is.node apart keeps same) keeps.reads same

  -- the documents stay
  pub ready_documents : (docs : List Doc) → AreSegmentsOf docs p.segs → AreSegmentsOf docs r.segs
  ready_documents docs stand = cut_documents cells p is seg ready.m ready.found ready.merged ready.is_merged ready.shown ready.back made ready.cut docs stand

  -- ---- the names of the new infos: the writer's, those that the merge holds, and what is written
  merged_held : (q : Name) → is_among (names_of ready.merged.files.files) q ≡ true → 0 < times ready.m.names q
  merged_held q there = (is_made cells p is seg ready.m ready.found ready.merged ready.is_merged ready.shown ready.back made ready.cut).held q there

  names_zero : (q : Name) → times p.names q ≡ 0 → times (merge_names p.merges) q ≡ 0 → times r.written q ≡ 0 → times r.names q ≡ 0
  names_zero q old held new = by (is_among r.names q) refl
    where
      by : (b : Bool) → is_among r.names q ≡ b → times r.names q ≡ 0
      by true e = elim (cut_names cells p is seg ready.m ready.found ready.merged ready.is_merged ready.shown ready.back made ready.cut q ((ready.names.named q).0 (contains_of r.names q e))) [
        | inl before ↦ (elim before [
          | inl of ↦ (let some : 0 < times p.names q = named_times p.infos p.segs p.names (reads_of (cells p.dir)) is.writer q of in absurd (omega (arith, some, old)))
          | inr there ↦ absurd (omega (arith, merged_held q there, held, names_split seg.0 p.merges ready.m q ready.found))
        ])
        | inr there ↦ (let some : 0 < times r.written q = among_times r.written q (ap (λ (ns : List Name). is_among ns q) ready.written ∙ there) in absurd (omega (arith, some, new)))
      ]
      by false e = not_among_times r.names q e

  split : (q : Name) → times (primary_names p) q ≡ times (searcher_names p.searchers) q + (times p.names q + (times (state_names p.states) q + times (merge_names p.merges) q))
  split q =
      let d : times (primary_names p) q ≡ times (searcher_names p.searchers) q + times (p.names ++ rest_names p) q = times-append (searcher_names p.searchers) (p.names ++ rest_names p) q in
      let e : times (p.names ++ rest_names p) q ≡ times p.names q + times (rest_names p) q = times-append p.names (rest_names p) q in
      omega (arith, d, e, times-append (state_names p.states) (merge_names p.merges) q)

  names_none : (q : Name) → times (r.written ++ primary_names p) q ≡ 0 → times r.names q ≡ 0
  names_none q none =
      let a : times (r.written ++ primary_names p) q ≡ times r.written q + times (primary_names p) q = times-append r.written (primary_names p) q in
      names_zero q (omega (arith, none, a, split q)) (omega (arith, none, a, split q)) (omega (arith, none, a))

  -- ---- after the write
  module _ (dir : D) (mid : Holdings) (counts : (q : Name) → count_of mid q ≡ count_of p.files q + times r.written q) (keeps : KeepsFiles r.written p.files mid (cells p.dir) (cells dir)) where
    node_written : IsWholeNode (cells dir) mid (r.written ++ primary_names p) p.commits
    node_written = node_gathers (cells p.dir) (cells dir) p.files mid (primary_names p) r.written r.written p.commits is.node apart keeps counts none_pending

    pub names_there : AreThere (cells dir) r.names
    names_there = node_there (cells dir) mid (r.written ++ primary_names p) r.names p.commits node_written names_none

    reads_mid : (q : Name) → 0 < count_of p.files q → (cells dir q).now ≡ (cells p.dir q).now
    reads_mid q had = keeps.reads q had (omega (arith, had, counts q))

    -- the hold is refused, and what was written is given back
    pub cut_unheld : (end : D) (files : Holdings) → LetsGo r.written mid files (cells dir) (cells end) → IsPrimary cells (record p { dir = end; files = files })
    cut_unheld end files lets = primary_same cells p is end files
        (node_lets_go (cells dir) (cells end) mid files (primary_names p) r.written p.commits node_written lets)
        (λ q had has. let c : 0 < count_of mid q = omega (arith, had, counts q) in lets.keeps.reads q c has ∙ reads_mid q had)
        (λ q. omega (arith, counts q, lets.counts q))

    -- the hold is done
    module _ (files : Holdings) (holds : HoldsFiles r.names mid files (cells dir)) (reads_so : All (ReadsSo (cells dir)) r.files) (calm : p.publish ≡ None) where
      abbrev after : PrimaryParts D
      after = record p { dir = dir; files = files }

      merged_reads : All (ReadsSo (cells dir)) ready.merged.files.files
      merged_reads = λ k d lt.
          let made' = is_made cells p is seg ready.m ready.found ready.merged ready.is_merged ready.shown ready.back made ready.cut in
          reads_mid (get_or ready.merged.files.files k d).0
          (merges_counted (cells p.dir) p.files p.searchers p.names p.states p.merges p.commits is.node (get_or ready.merged.files.files k d).0
          (let held = made'.held (get_or ready.merged.files.files k d).0 (among_at ready.merged.files.files k d lt) in omega (arith, held, names_split seg.0 p.merges ready.m (get_or ready.merged.files.files k d).0 ready.found)))
          ∙ made'.reads_so k d lt

      stands : StandsWith (reads_of (cells dir)) (infos_of p.infos r.infos.segs) r.segs is.writer.docs
      stands = cut_stands cells p is seg ready.m ready.found ready.merged ready.is_merged ready.shown ready.back made ready.cut (reads_of (cells dir)) is.writer.docs is.writer.stands.stand
          (λ q named. reads_mid q (writer_counted (cells p.dir) p.files p.searchers p.names (rest_names p) p.commits is.node q (named_times p.infos p.segs p.names (reads_of (cells p.dir)) is.writer q named)))
          merged_reads reads_so

      undrawn : AreUndrawn files r.infos (loose_left p seg) (filled_left p seg)
      undrawn = record {
        each = λ q u.
            let was = cut_rest cells p is seg ready.m ready.found ready.merged ready.is_merged ready.shown ready.back made ready.cut q (subst (λ (i : Infos). IsUndrawn i (loose_left p seg) (filled_left p seg) q) ready.infos u) in
            let none : count_of p.files q ≡ 0 = is.undrawn.each q was.0 in
            let w : times r.written q ≡ 0 = not_among_times r.written q (ap (λ (ns : List Name). is_among ns q) ready.written ∙ was.1) in
            let zero : times (primary_names p) q ≡ 0 = omega (arith, none, is.node.counts q) in
            omega (arith, none, w, counts q, holds.counts q, names_none q (omega (arith, zero, w, times-append r.written (primary_names p) q)));
      }

      pub has_written_cut : HasWrittenCut cells after seg r
      has_written_cut = record {
        ready = record {
          m = ready.m;
          found = ready.found;
          merged = ready.merged;
          is_merged = ready.is_merged;
          shown = ready.shown;
          back = ready.back;
          cut = ready.cut;
          infos = ready.infos;
          names = ready.names;
          written = ready.written;
          gone = ready.gone;
          completed = ready.completed;
          short = ready.short;
        };
        node = node_gathers (cells dir) (cells dir) mid files (r.written ++ primary_names p) r.names [] p.commits node_written (nothing_written p.commits) holds.keeps holds.counts
            (record { each = λ q named. names_none q (node_written.plain.each q named) });
        standing = standing_kept (cells p.dir) (cells dir) p.files p.commits is.node.sound (λ q there. reads_mid q (book_counted (cells p.dir) p.files (primary_names p) p.commits is.node q there)) is.standing;
        spelled = spelled;
        docs = is.writer.docs;
        stand = stands.stand;
        each = stands.each;
        searched = held_kept (reads_of (cells p.dir)) (reads_of (cells dir)) p.point_infos p.searchers.point.readers p.searchers.point.names is.searched
            (λ q some. reads_mid q (point_counted (cells p.dir) p.files p.searchers (p.names ++ rest_names p) p.commits is.node q some));
        version = is.version;
        versions = ap (λ (i : Infos). i.version) ready.infos ∙ is.versions;
        calm = calm;
        undrawn = undrawn;
        numbered = subst (λ (i : Infos). AreNumbered i (loose_left p seg)) (sym ready.infos) (cut_numbered cells p is seg ready.m ready.found ready.merged ready.is_merged ready.shown ready.back made ready.cut);
        merging = merging_kept (reads_of (cells p.dir)) (reads_of (cells dir)) r.infos.segs r.segs (merges_without seg.0 p.merges)
            (cut_keeps cells p is seg ready.m ready.found ready.merged ready.is_merged ready.shown ready.back made ready.cut)
            (λ q some. reads_mid q (merges_counted (cells p.dir) p.files p.searchers p.names p.states p.merges p.commits is.node q (omega (arith, some, names_split seg.0 p.merges ready.m q ready.found))));
        merges_apart = apart_without seg.0 p.merges is.merges_apart;
      }

-- ---- the cut-over is put in place
module _ {D : Type 0} (cells : D → Cells) (p : PrimaryParts D) (seg : SegNo) (r : CutReady) (h : HasWrittenCut cells p seg r) where
  abbrev left : List Merging
  left = merges_without seg.0 p.merges

  abbrev new_names : List Name
  new_names = searcher_names p.searchers ++ (r.names ++ (state_names p.states ++ merge_names left))

  same_names : (q : Name) → times (r.gone ++ new_names) q ≡ times (r.names ++ (r.written ++ primary_names p)) q
  same_names q =
      let ready = h.ready in
      let a : times (r.gone ++ new_names) q ≡ times r.gone q + times new_names q = times-append r.gone new_names q in
      let b : times new_names q ≡ times (searcher_names p.searchers) q + times (r.names ++ (state_names p.states ++ merge_names left)) q = times-append (searcher_names p.searchers) (r.names ++ (state_names p.states ++ merge_names left)) q in
      let c : times (r.names ++ (state_names p.states ++ merge_names left)) q ≡ times r.names q + times (state_names p.states ++ merge_names left) q = times-append r.names (state_names p.states ++ merge_names left) q in
      let d : times (state_names p.states ++ merge_names left) q ≡ times (state_names p.states) q + times (merge_names left) q = times-append (state_names p.states) (merge_names left) q in
      let e : times r.gone q ≡ times (p.names ++ ready.m.names) q + times r.written q = ap (λ (ns : List Name). times ns q) ready.gone ∙ times-append (p.names ++ ready.m.names) r.written q in
      let f : times (p.names ++ ready.m.names) q ≡ times p.names q + times ready.m.names q = times-append p.names ready.m.names q in
      let i : times (r.names ++ (r.written ++ primary_names p)) q ≡ times r.names q + times (r.written ++ primary_names p) q = times-append r.names (r.written ++ primary_names p) q in
      let j : times (r.written ++ primary_names p) q ≡ times r.written q + times (primary_names p) q = times-append r.written (primary_names p) q in
      let k : times (primary_names p) q ≡ times (searcher_names p.searchers) q + times (p.names ++ rest_names p) q = times-append (searcher_names p.searchers) (p.names ++ rest_names p) q in
      let l : times (p.names ++ rest_names p) q ≡ times p.names q + times (rest_names p) q = times-append p.names (rest_names p) q in
      let o : times (rest_names p) q ≡ times (state_names p.states) q + times (merge_names p.merges) q = times-append (state_names p.states) (merge_names p.merges) q in
      omega (arith, a, b, c, d, e, f, i, j, k, l, o, names_split seg.0 p.merges ready.m q ready.found)

  node_placed : IsWholeNode (cells p.dir) p.files (r.gone ++ new_names) p.commits
  node_placed = node_same_names (cells p.dir) p.files (r.names ++ (r.written ++ primary_names p)) (r.gone ++ new_names) p.commits h.node same_names

  pub gone_counted : AreCounted r.gone p.files
  gone_counted = front_counted (cells p.dir) p.files r.gone new_names p.commits node_placed

  module _ (dir : D) (files : Holdings) (lets : LetsGo r.gone p.files files (cells p.dir) (cells dir)) where
    node_end : IsWholeNode (cells dir) files new_names p.commits
    node_end = node_lets_go (cells p.dir) (cells dir) p.files files new_names r.gone p.commits node_placed lets

    reads_end : (q : Name) → 0 < count_of files q → (cells dir q).now ≡ (cells p.dir q).now
    reads_end q has = lets.keeps.reads q (omega (arith, has, lets.counts q)) has

    names_counted : (q : Name) → 0 < times r.names q → 0 < count_of files q
    names_counted q some = writer_counted (cells dir) files p.searchers r.names (state_names p.states ++ merge_names left) p.commits node_end q some

    writer_end : IsHeld (reads_of (cells dir)) r.infos r.segs r.names
    writer_end = record {
      spelled = h.spelled;
      files = h.ready.names;
      docs = h.docs;
      stands = record {
        each = segments_along (reads_of (cells p.dir)) (reads_of (cells dir)) r.infos.segs r.segs
            (λ q named. reads_end q (names_counted q (among_times r.names q (among_of r.names q ((h.ready.names.named q).1 named))))) h.each;
        stand = h.stand;
      };
    }

    -- A CUT-OVER IS DONE
    pub primary_cut : IsPrimary cells (record p { dir = dir; files = files; infos = r.infos; segs = r.segs; names = r.names; merges = left; has_cut_over = true; completed = r.completed })
    primary_cut = record {
      node = node_end;
      standing = standing_kept (cells p.dir) (cells dir) p.files p.commits h.node.sound (λ q there. reads_end q (book_counted (cells dir) files new_names p.commits node_end q there)) h.standing;
      writer = writer_end;
      searched = held_kept (reads_of (cells p.dir)) (reads_of (cells dir)) p.point_infos p.searchers.point.readers p.searchers.point.names h.searched
          (λ q some. reads_end q (point_counted (cells dir) files p.searchers (r.names ++ (state_names p.states ++ merge_names left)) p.commits node_end q some));
      version = h.version;
      versions = h.versions;
      undrawn = record { each = λ q u. omega (arith, h.undrawn.each q u, lets.counts q) };
      numbered = h.numbered;
      waits = subst (λ (o : Option Publish). IfSome o (λ f. f.count ≤ length p.waiting)) (sym h.calm) tt;
      few = subst (λ (o : Option Publish). IfSome o (λ f. is_some f.seg ≡ true → length r.segs < 256)) (sym h.calm) tt;
      alone = subst (λ (o : Option Publish). IfSome o (λ f. (n : ℕ) → Contains (loose_in f.seg) n → Contains (merge_loose left) n → ⊥)) (sym h.calm) tt;
      merging = merging_kept (reads_of (cells p.dir)) (reads_of (cells dir)) r.infos.segs r.segs left h.merging
          (λ q some. reads_end q (merges_counted (cells dir) files p.searchers r.names p.states left p.commits node_end q some));
      merges_apart = h.merges_apart;
      completed = h.ready.short;
    }

-- ---- over the whole call
module _ {D : Type 0} (cells : D → Cells) (p n : PrimaryParts D) (is : IsPrimary cells p) (now : IsPrimary cells n) (seg : SegNo) (r : CutReady) (ready : IsCutReady p seg r)
    (infos : n.infos ≡ r.infos) (segs : n.segs ≡ r.segs) (names : n.names ≡ r.names) (merges : n.merges ≡ merges_without seg.0 p.merges)
    (publish : n.publish ≡ p.publish) (searchers : n.searchers ≡ p.searchers) (states : n.states ≡ p.states) (commits : n.commits ≡ p.commits) where
  pub cut_draws : DrawsOnly p n
  cut_draws = record {
    each = λ q u.
        let made : NextSegments = record { records = r.infos.segs; segs = r.segs; files = r.files } in
        let ls : loose_of n ≡ loose_left p seg = ap (λ (o : Option Publish). publish_loose o ++ merge_loose n.merges) publish ∙ ap (λ (ms : List Merging). publish_loose p.publish ++ merge_loose ms) merges in
        let fs : filled_of n ≡ filled_left p seg = ap (λ (ms : List Merging). merge_filled ms) merges in
        (cut_rest cells p is seg ready.m ready.found ready.merged ready.is_merged ready.shown ready.back made ready.cut q
        (subst (λ (k : List ℕ). IsUndrawn (infos_of p.infos r.infos.segs) (loose_left p seg) k q) fs
        (subst (λ (k : List ℕ). IsUndrawn (infos_of p.infos r.infos.segs) k (filled_of n) q) ls
        (subst (λ (i : Infos). IsUndrawn i (loose_of n) (filled_of n) q) (infos ∙ ready.infos) u)))).0;
  }

  pub cut_fills : FillsUndrawn p n
  cut_fills = record { each = λ q zero some. by q zero some (is_among r.written q) refl }
    where
      by : (q : Name) → count_of p.files q ≡ 0 → 0 < count_of n.files q → (b : Bool) → is_among r.written q ≡ b → IsUnwritten p q
      by q zero some true e = cut_unwritten cells p is seg ready.m ready.found ready.merged ready.is_merged ready.shown ready.back (record { records = r.infos.segs; segs = r.segs; files = r.files }) ready.cut q (ap (λ (ns : List Name). is_among ns q) (sym ready.written) ∙ e)
      by q zero some false e =
          let w : times r.written q ≡ 0 = not_among_times r.written q e in
          let none : times (primary_names p) q ≡ 0 = omega (arith, zero, is.node.counts q) in
          let all : times (r.written ++ primary_names p) q ≡ 0 = omega (arith, none, w, times-append r.written (primary_names p) q) in
          let new : times r.names q ≡ 0 = names_none cells p is seg r ready q all in
          let named : times (primary_names n) q ≡ times (searcher_names p.searchers ++ (r.names ++ (state_names p.states ++ merge_names (merges_without seg.0 p.merges)))) q =
          ap (λ (s : Searchers Shown). times (searcher_names s ++ (n.names ++ (state_names n.states ++ merge_names n.merges))) q) searchers
          ∙ ap (λ (ns : List Name). times (searcher_names p.searchers ++ (ns ++ (state_names n.states ++ merge_names n.merges))) q) names
          ∙ ap (λ (ss : List Out). times (searcher_names p.searchers ++ (r.names ++ (state_names ss ++ merge_names n.merges))) q) states
          ∙ ap (λ (ms : List Merging). times (searcher_names p.searchers ++ (r.names ++ (state_names p.states ++ merge_names ms))) q) merges in
          let left : List Merging = merges_without seg.0 p.merges in
          let a : times (searcher_names p.searchers ++ (r.names ++ (state_names p.states ++ merge_names left))) q ≡ times (searcher_names p.searchers) q + times (r.names ++ (state_names p.states ++ merge_names left)) q = times-append (searcher_names p.searchers) (r.names ++ (state_names p.states ++ merge_names left)) q in
          let b : times (r.names ++ (state_names p.states ++ merge_names left)) q ≡ times r.names q + times (state_names p.states ++ merge_names left) q = times-append r.names (state_names p.states ++ merge_names left) q in
          let c : times (state_names p.states ++ merge_names left) q ≡ times (state_names p.states) q + times (merge_names left) q = times-append (state_names p.states) (merge_names left) q in
          let book : times (book_names n.commits) q ≡ times (book_names p.commits) q = ap (λ (x : CommitBook). times (book_names x) q) commits in
          absurd (omega (arith, zero, some, none, new, named, a, b, c, book, split cells p is seg r ready q, is.node.counts q, now.node.counts q, names_split seg.0 p.merges ready.m q ready.found))

-- ---- a write that is refused changes the directory and the counts alone
module _ {D : Type 0} (p n : PrimaryParts D) (same : n ≡ record p { dir = n.dir; files = n.files }) where
  pub unmerged : n ≡ record p { dir = n.dir; files = n.files; merges = n.merges }
  unmerged = same ∙ ap (λ (ms : List Merging). record p { dir = n.dir; files = n.files; merges = ms }) (sym (ap (λ (x : PrimaryParts D). x.merges) same))

  pub unplaced : n ≡ record p { dir = n.dir; files = n.files; infos = n.infos; segs = n.segs; names = n.names; merges = n.merges; has_cut_over = n.has_cut_over; completed = n.completed }
  unplaced = all n same
    where
      all : (x : PrimaryParts D) → x ≡ record p { dir = n.dir; files = n.files } → x ≡ record p { dir = n.dir; files = n.files; infos = x.infos; segs = x.segs; names = x.names; merges = x.merges; has_cut_over = x.has_cut_over; completed = x.completed }
      all x e = subst (λ (y : PrimaryParts D). y ≡ record p { dir = n.dir; files = n.files; infos = y.infos; segs = y.segs; names = y.names; merges = y.merges; has_cut_over = y.has_cut_over; completed = y.completed }) (sym e) refl
