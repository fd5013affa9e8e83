-- A publish, from its writes to its releases.
use Rattle.std.proofs.Common.{◌≡◌, ◌<◌, ◌≤◌, ◌+◌, ℕ, ◌∷◌, Bool, true, false, List, [], ◌++◌, Option, None, refl, sym, ap, subst, ◌∙◌, arith, inl, inr, true≢false, All}
use Rattle.file_names.specs.Names.{is_commit_name, is_pending_name}
use Rattle.nrt_base.specs.declared.numbers.Version.{Version}
use Rattle.nrt_base.specs.Causes.{Rose}
use Rattle.std.specs.Prelude.{◌==◌, ◌-◌, ◌^◌, min, length}
use Rattle.std.specs.List.{AllByRecursion, list_any}
use Rattle.segment_steps.specs.Given.{docs_by_input}
use Rattle.segment_infos.specs.declared.infos.SegRecord.{SegRecord}
use Rattle.seg_build.specs.Built.{File}
use Rattle.disk_model.specs.Disk.{Name, Content, Cells, is_among, reads_of}
use Rattle.segment_infos.specs.declared.infos.Infos.{Infos}
use Rattle.segment_infos.specs.Infos.{CanSpell}
use Rattle.seg_reader.specs.Shown.{Shown}
use Rattle.documents.specs.declared.operation.Op.{Op}
use Rattle.file_deleter.specs.Holdings.{Holdings, count_of, times, AreThere, AreCounted}
use Rattle.file_deleter.specs.Moves.{KeepsFiles, HoldsFiles, LetsGo}
use Rattle.file_deleter.specs.Removals.{Directory, Removals}
use Rattle.file_deleter.specs.Removals.Removals.{no_more, gone, absent, stays}
use Rattle.file_deleter.proofs.Keeping.{keeps_then}
use Rattle.file_deleter.proofs.NameLemmas.{times-append, among_times, not_among_times}
use Rattle.commit_steps.proofs.Safe.{among_of, contains_of}
use Rattle.searcher_switch.specs.declared.open.SearchPoint.{SearchPoint}
use Rattle.searcher_switch.specs.declared.open.Open.{Open}
use Rattle.searcher_switch.specs.declared.searchers.Searchers.{Searchers}
use Rattle.searcher_switch.specs.Tickets.{ticket_names}
use Rattle.searcher_switch.specs.Searching.{searcher_names}
use Rattle.searcher_switch.specs.Node.{IsWholeNode, IsApart, HasNoPending}
use Rattle.searcher_switch.proofs.Carry.{node_gathers, node_lets_go, node_same_names, node_same_counts, node_there, nothing_written, unheld_apart, front_counted}
use Rattle.searcher_switch.proofs.Standing.{segments_along, standing_kept}
use Rattle.index_primary.specs.declared.parts.PrimaryParts.{PrimaryParts}
use Rattle.index_primary.specs.declared.parts.Publish.{Publish}
use Rattle.index_primary.specs.declared.ready.Ready.{Ready}
use Rattle.searcher_switch.specs.Appearing.{AppearsOnly}
use Rattle.searcher_switch.proofs.Appearing.{keeps_only}
use Rattle.index_primary.specs.Held.{IsHeld, IsUndrawn, IsOwnFile, AreNumbered}
use Rattle.index_primary.specs.Primary.{rest_names, primary_names, rest_loose, loose_of, filled_of, IsPrimary}
use Rattle.index_primary.specs.declared.states.Merging.{Merging}
use Rattle.index_primary.specs.Merges.{merge_inputs, IsMerging}
use Rattle.index_primary.proofs.MergeLists.{merging_kept, inputs_within}
use Rattle.nrt_base.specs.declared.numbers.SegNo.{SegNo}
use Rattle.index_primary.specs.Written.{names_of, ReadsSo}
use Rattle.index_primary.specs.Publishing.{IsStep, IsReady, HasWritten}
use Rattle.index_primary.proofs.Holding.{named_times, undrawn_plain}
use Rattle.index_primary.proofs.Keeping.{writer_counted, book_counted, merges_counted, primary_same}

-- a step keeps each merge in flight whose inputs are held
merging_step : (held : List SegNo) (infos : Infos) (segs : List Shown) (loose still filled : List ℕ) (records : List SegRecord) (fresh : List Shown) (files : List File) → IsStep infos segs loose still filled held records fresh files
    → (reads : Name → Content) (ms : List Merging) → AllByRecursion (λ (m : Merging). (n : ℕ) → list_any (λ (seg : SegNo). seg.0 == n) m.inputs ≡ true → list_any (λ (seg : SegNo). seg.0 == n) held ≡ true) ms
    → AllByRecursion (IsMerging reads infos.segs segs) ms → AllByRecursion (IsMerging reads records fresh) ms
merging_step held infos segs loose still filled records fresh files step reads [] within all = tt
merging_step held infos segs loose still filled records fresh files step reads (m ∷ ms) within all = (
  record { flight = step.flights m.inputs (docs_by_input m.task.inputs) m.task.live within.0 all.0.flight; made = all.0.made },
  merging_step held infos segs loose still filled records fresh files step reads ms within.1 all.1,
)

module _ {D : Type 0} (cells : D → Cells) (p : PrimaryParts D) (r : Ready) (is : IsPrimary cells p) (ready : IsReady p r) where
  -- ---- the names that are written
  pub fresh : (q : Name) → is_among r.written q ≡ true → count_of p.files q ≡ 0
  fresh q there = is.undrawn.each q (ready.step.undrawn q (ap (λ (ns : List Name). is_among ns q) (sym ready.written) ∙ there))

  pub once : (q : Name) → times r.written q ≤ 1
  once q = let e : times r.written q ≡ times (names_of r.files) q = ap (λ (ns : List Name). times ns q) ready.written in omega (arith, e, ready.step.once q)

  plain : (q : Name) → is_among r.written q ≡ true → (is_commit_name q ≡ false) × (is_pending_name q ≡ false)
  plain q there = undrawn_plain p.infos (loose_of p) (filled_of p) q (ready.step.undrawn q (ap (λ (ns : List Name). is_among ns q) (sym ready.written) ∙ there))

  apart : IsApart r.written p.commits
  apart = unheld_apart (cells p.dir) p.files (primary_names p) r.written p.commits is.node plain fresh

  none_pending : HasNoPending r.written
  none_pending = record { each = λ q named. by q named (is_among r.written q) refl }
    where
      by : (q : Name) → is_pending_name q ≡ true → (b : Bool) → is_among r.written q ≡ b → times r.written q ≡ 0
      by q named true e = absurd (true≢false (sym named ∙ (plain q e).1))
      by q named false e = not_among_times r.written q e

  -- ---- the names of the new infos are the writer's and those that are written
  names_zero : (q : Name) → times p.names q ≡ 0 → times r.written q ≡ 0 → times r.names q ≡ 0
  names_zero q old new = by (is_among r.names q) refl
    where
      by : (b : Bool) → is_among r.names q ≡ b → times r.names q ≡ 0
      by true e = elim (ready.step.named q ((ready.names.named q).0 (contains_of r.names q e))) [
        | inl of ↦ let some : 0 < times p.names q = named_times p.infos p.segs p.names (reads_of (cells p.dir)) is.writer q of in absurd (omega (arith, some, old))
        | inr there ↦ let some : 0 < times r.written q = among_times r.written q (ap (λ (ns : List Name). is_among ns q) ready.written ∙ there) in absurd (omega (arith, some, new))
      ]
      by false e = not_among_times r.names q e

  twice_times : (q : Name) → times r.twice q ≡ times r.names q + times r.names q
  twice_times q = ap (λ (ns : List Name). times ns q) ready.twice ∙ times-append r.names r.names q

  twice_zero : (q : Name) → times (r.written ++ primary_names p) q ≡ 0 → times r.twice q ≡ 0
  twice_zero q none =
      let a : times (r.written ++ primary_names p) q ≡ times r.written q + times (primary_names p) q = times-append r.written (primary_names p) q in
      let b : times (primary_names p) q ≡ times (searcher_names p.searchers) q + times (p.names ++ rest_names p) q = times-append (searcher_names p.searchers) (p.names ++ rest_names p) q in
      let c : times (p.names ++ rest_names p) q ≡ times p.names q + times (rest_names p) q = times-append p.names (rest_names p) q in
      omega (arith, twice_times q, names_zero q (omega (arith, none, a, b, c)) (omega (arith, none, a)))

  -- ---- after the writes
  module _ (dir : D) (mid : Holdings) (counts : (q : Name) → count_of mid q ≡ count_of p.files q + times r.written q) (keeps : KeepsFiles r.written p.files mid (cells p.dir) (cells dir)) where
    node_written : IsWholeNode (cells dir) mid (r.written ++ primary_names p) p.commits
    node_written = node_gathers (cells p.dir) (cells dir) p.files mid (primary_names p) r.written r.written p.commits is.node apart keeps counts none_pending

    pub twice_there : AreThere (cells dir) r.twice
    twice_there = node_there (cells dir) mid (r.written ++ primary_names p) r.twice p.commits node_written twice_zero

    reads_mid : (q : Name) → 0 < count_of p.files q → (cells dir q).now ≡ (cells p.dir q).now
    reads_mid q had = keeps.reads q had (omega (arith, had, counts q))

    -- the hold is refused, and what was written is given back
    pub primary_unheld : (end : D) (files : Holdings) → LetsGo r.written mid files (cells dir) (cells end) → IsPrimary cells (record p { dir = end; files = files })
    primary_unheld end files lets = primary_same cells p is end files
        (node_lets_go (cells dir) (cells end) mid files (primary_names p) r.written p.commits node_written lets)
        (λ q had has. let m : 0 < count_of mid q = omega (arith, had, counts q) in lets.keeps.reads q m has ∙ reads_mid q had)
        (λ q. omega (arith, counts q, lets.counts q))

    -- the hold is done
    pub has_written : (files : Holdings) → HoldsFiles r.twice mid files (cells dir) → All (ReadsSo (cells dir)) r.files → HasWritten cells (record p { dir = dir; files = files }) r
    has_written files holds reads = record {
      ready = record {
        step = ready.step;
        infos = ready.infos;
        point_infos = ready.point_infos;
        readers = ready.readers;
        names = ready.names;
        point_names = ready.point_names;
        written = ready.written;
        twice = ready.twice;
        gone = ready.gone;
      };
      node = node_gathers (cells dir) (cells dir) mid files (r.written ++ primary_names p) r.twice [] p.commits node_written (nothing_written p.commits) holds.keeps holds.counts
          (record { each = λ q named. twice_zero q (node_written.plain.each q named) });
      standing = standing_kept (cells p.dir) (cells dir) p.files p.commits is.node.sound (λ q there. reads_mid q (book_counted (cells p.dir) p.files (primary_names p) p.commits is.node q there)) is.standing;
      each = ready.step.stands (reads_of (cells p.dir)) (reads_of (cells dir)) is.writer.stands.each
          (λ q named. reads_mid q (writer_counted (cells p.dir) p.files p.searchers p.names (rest_names p) p.commits is.node q (named_times p.infos p.segs p.names (reads_of (cells p.dir)) is.writer q named))) reads;
      undrawn = record {
        each = λ q undrawn.
            let was = ready.step.rest q (subst (λ (i : Infos). IsUndrawn i (rest_loose p) (filled_of p) q) ready.infos undrawn) in
            let none : count_of p.files q ≡ 0 = is.undrawn.each q was.0 in
            let unwritten : times r.written q ≡ 0 = not_among_times r.written q (ap (λ (ns : List Name). is_among ns q) ready.written ∙ was.1) in
            let names : times (primary_names p) q ≡ times (searcher_names p.searchers) q + times (p.names ++ rest_names p) q = times-append (searcher_names p.searchers) (p.names ++ rest_names p) q in
            let more : times (p.names ++ rest_names p) q ≡ times p.names q + times (rest_names p) q = times-append p.names (rest_names p) q in
            omega (arith, none, unwritten, names, more, is.node.counts q, counts q, holds.counts q, twice_times q, names_zero q (omega (arith, none, names, more, is.node.counts q)) unwritten);
      };
      merging = merging_step (merge_inputs p.merges) p.infos p.segs (loose_of p) (rest_loose p) (filled_of p) r.infos.segs r.segs r.files ready.step (reads_of (cells dir)) p.merges (inputs_within p.merges)
          (merging_kept (reads_of (cells p.dir)) (reads_of (cells dir)) p.infos.segs p.segs p.merges is.merging
          (λ q some. reads_mid q (merges_counted (cells p.dir) p.files p.searchers p.names p.states p.merges p.commits is.node q some)));
      merges_apart = is.merges_apart;
      newer =
          let a : p.infos.version.0 ≡ p.searchers.point.version.0 = ap (λ (v : Version). v.0) (is.versions ∙ is.version) in
          let b : r.infos.version.0 ≡ p.infos.version.0 + 1 = ap (λ (i : Infos). i.version.0) ready.infos in
          omega (arith, a, b);
      waits = is.waits;
      completed = is.completed;
    }

  -- the writes are refused
  pub primary_unwritten : (dir : D) (files : Holdings) → ((q : Name) → count_of files q ≡ count_of p.files q) → KeepsFiles r.written p.files files (cells p.dir) (cells dir) → IsPrimary cells (record p { dir = dir; files = files })
  primary_unwritten dir files same keeps = primary_same cells p is dir files
      (node_same_counts (cells p.dir) (cells dir) p.files files (primary_names p) r.written p.commits is.node apart keeps same) keeps.reads same

-- what was written is the writer's own
pub written_appears : {D : Type 0} (cells : D → Cells) (p : PrimaryParts D) (r : Ready) → IsReady p r → (dir : D) (files : Holdings) → KeepsFiles r.written p.files files (cells p.dir) (cells dir)
    → AppearsOnly (IsOwnFile p.infos (loose_of p)) (cells p.dir) (cells dir)
written_appears cells p r ready dir files keeps = keeps_only (IsOwnFile p.infos (loose_of p)) r.written p.files files (cells p.dir) (cells dir) keeps
    (λ q there none. ready.step.own q (ap (λ (ns : List Name). is_among ns q) (sym ready.written) ∙ there))

-- ---- a release of names, and then a sweep
pub swept : (names : List Name) (old mid new : Holdings) (before between after : Cells) → LetsGo names old mid before between → LetsGo [] mid new between after → LetsGo names old new before after
swept names old mid new before between after r s =
    let none : (q : Name) → times [] q ≡ 0 = λ q. refl in
    record {
      counts = λ q. omega (arith, none q, r.counts q, s.counts q);
      keeps = keeps_then [] [] old mid new before between after r.keeps s.keeps (λ q had has. omega (arith, none q, has, s.counts q));
    }

-- what is due behind removals was tried
tried : {due failed : List Name} {before after : Directory} → Removals due failed before after → 0 < length failed → 0 < length due
tried (no_more here) some = some
tried (gone name names failed s u v r rest) some = omega arith
tried (absent name names failed s u v r rest) some = omega arith
tried (stays name names failed s u v r rest) some = omega arith

pub rose_later : (a b c : ℕ) → a ≤ b → Rose (b + 1) c → Rose (a + 1) c
rose_later a b c le rose =
    let most : min (b + 1 + 1) (2 ^ 64 - 1) ≤ c = rose in
    let e : min (a + 1 + 1) (2 ^ 64 - 1) ≤ c = omega (arith, le, most) in
    e

-- a removal is due behind a release and a sweep only where each of them met a fault
pub failed_twice : {due failed : List Name} {before after : Directory} (a b c : ℕ) → (0 < length due → Rose a b) → Removals due failed before after → (0 < length failed → Rose b c) → 0 < length failed → Rose (a + 1) c
failed_twice a b c first removals second some =
    let low : min (a + 1) (2 ^ 64 - 1) ≤ b = first (tried removals some) in
    let high : min (b + 1) (2 ^ 64 - 1) ≤ c = second some in
    let e : min (a + 1 + 1) (2 ^ 64 - 1) ≤ c = omega (arith, low, high) in
    e

-- ---- the new point is put in place
module _ {D : Type 0} (cells : D → Cells) (p : PrimaryParts D) (r : Ready) (h : HasWritten cells p r) (searchers : Searchers Shown)
    (point : searchers.point ≡ record { version = r.infos.version; names = r.point_names; readers = r.readers }) (tickets : searchers.tickets ≡ p.searchers.tickets) where
  -- the names that the new primary's parts name
  abbrev new_names : List Name
  new_names = searcher_names searchers ++ (r.names ++ rest_names p)

  same_names : (q : Name) → times (r.gone ++ new_names) q ≡ times (r.twice ++ (r.written ++ primary_names p)) q
  same_names q =
      let ready = h.ready in
      let a : times (r.gone ++ new_names) q ≡ times r.gone q + times new_names q = times-append r.gone new_names q in
      let b : times new_names q ≡ times (searcher_names searchers) q + times (r.names ++ rest_names p) q = times-append (searcher_names searchers) (r.names ++ rest_names p) q in
      let n : times (r.names ++ rest_names p) q ≡ times r.names q + times (rest_names p) q = times-append r.names (rest_names p) q in
      let o : times (p.names ++ rest_names p) q ≡ times p.names q + times (rest_names p) q = times-append p.names (rest_names p) q in
      let c : times (searcher_names searchers) q ≡ times searchers.point.names q + times (ticket_names searchers.tickets) q = times-append searchers.point.names (ticket_names searchers.tickets) q in
      let d : times searchers.point.names q ≡ times r.names q = ap (λ (x : SearchPoint Shown). times x.names q) point ∙ ap (λ (ns : List Name). times ns q) ready.point_names in
      let e : times (ticket_names searchers.tickets) q ≡ times (ticket_names p.searchers.tickets) q = ap (λ (ts : List (Open Shown)). times (ticket_names ts) q) tickets in
      let f : times r.gone q ≡ times (p.searchers.point.names ++ p.names) q + times r.written q = ap (λ (ns : List Name). times ns q) ready.gone ∙ times-append (p.searchers.point.names ++ p.names) r.written q in
      let g : times (p.searchers.point.names ++ p.names) q ≡ times p.searchers.point.names q + times p.names q = times-append p.searchers.point.names p.names q in
      let i : times (r.twice ++ (r.written ++ primary_names p)) q ≡ times r.twice q + times (r.written ++ primary_names p) q = times-append r.twice (r.written ++ primary_names p) q in
      let j : times (r.written ++ primary_names p) q ≡ times r.written q + times (primary_names p) q = times-append r.written (primary_names p) q in
      let k : times (primary_names p) q ≡ times (searcher_names p.searchers) q + times (p.names ++ rest_names p) q = times-append (searcher_names p.searchers) (p.names ++ rest_names p) q in
      let l : times (searcher_names p.searchers) q ≡ times p.searchers.point.names q + times (ticket_names p.searchers.tickets) q = times-append p.searchers.point.names (ticket_names p.searchers.tickets) q in
      let m : times r.twice q ≡ times r.names q + times r.names q = ap (λ (ns : List Name). times ns q) ready.twice ∙ times-append r.names r.names q in
      omega (arith, a, b, c, d, e, f, g, i, j, k, l, m, n, o)

  node_placed : IsWholeNode (cells p.dir) p.files (r.gone ++ new_names) p.commits
  node_placed = node_same_names (cells p.dir) p.files (r.twice ++ (r.written ++ primary_names p)) (r.gone ++ new_names) p.commits h.node same_names

  pub gone_counted : AreCounted r.gone p.files
  gone_counted = front_counted (cells p.dir) p.files r.gone new_names p.commits node_placed

  module _ (dir : D) (files : Holdings) (lets : LetsGo r.gone p.files files (cells p.dir) (cells dir)) where
    node_end : IsWholeNode (cells dir) files new_names p.commits
    node_end = node_lets_go (cells p.dir) (cells dir) p.files files new_names r.gone p.commits node_placed lets

    names_counted : (q : Name) → 0 < times r.names q → 0 < count_of files q
    names_counted q some = omega (arith, some, node_end.counts q, times-append (searcher_names searchers) (r.names ++ rest_names p) q, times-append r.names (rest_names p) q)

    reads_end : (q : Name) → 0 < count_of files q → (cells dir q).now ≡ (cells p.dir q).now
    reads_end q has = lets.keeps.reads q (omega (arith, has, lets.counts q)) has

    writer_end : IsHeld (reads_of (cells dir)) r.infos r.segs r.names
    writer_end = record {
      spelled = subst CanSpell (sym h.ready.infos) h.ready.step.spelled;
      files = h.ready.names;
      docs = h.ready.step.docs;
      stands = record {
        each = segments_along (reads_of (cells p.dir)) (reads_of (cells dir)) r.infos.segs r.segs
            (λ q named. reads_end q (names_counted q (among_times r.names q (among_of r.names q ((h.ready.names.named q).1 named))))) h.each;
        stand = h.ready.step.stand;
      };
    }

    searched_end : IsHeld (reads_of (cells dir)) r.point_infos searchers.point.readers searchers.point.names
    searched_end = subst (λ (x : SearchPoint Shown). IsHeld (reads_of (cells dir)) r.point_infos x.readers x.names) (sym point)
        (subst (λ (i : Infos). IsHeld (reads_of (cells dir)) i r.readers r.point_names) (sym h.ready.point_infos)
        (subst (λ (ss : List Shown). IsHeld (reads_of (cells dir)) r.infos ss r.point_names) (sym h.ready.readers)
        (subst (λ (ns : List Name). IsHeld (reads_of (cells dir)) r.infos r.segs ns) (sym h.ready.point_names) writer_end)))

    pub primary_placed : (waiting : List Op) (publish : Option Publish) (cut : Bool) → publish ≡ None
        → IsPrimary cells (record p { dir = dir; files = files; searchers = searchers; point_infos = r.point_infos; infos = r.infos; segs = r.segs; names = r.names; waiting = waiting; publish = publish; has_cut_over = cut })
    primary_placed waiting publish cut none = subst (λ (o : Option Publish). IsPrimary cells (record p { dir = dir; files = files; searchers = searchers; point_infos = r.point_infos; infos = r.infos; segs = r.segs; names = r.names; waiting = waiting; publish = o; has_cut_over = cut })) (sym none)
        (record {
          node = node_end;
          standing = standing_kept (cells p.dir) (cells dir) p.files p.commits h.node.sound (λ q there. reads_end q (book_counted (cells dir) files new_names p.commits node_end q there)) h.standing;
          writer = writer_end;
          searched = searched_end;
          version = ap (λ (i : Infos). i.version) h.ready.point_infos ∙ sym (ap (λ (x : SearchPoint Shown). x.version) point);
          versions = sym (ap (λ (i : Infos). i.version) h.ready.point_infos);
          undrawn = record { each = λ q undrawn. omega (arith, h.undrawn.each q undrawn, lets.counts q) };
          numbered = subst (λ (i : Infos). AreNumbered i (rest_loose p)) (sym h.ready.infos) h.ready.step.numbered;
          waits = tt;
          few = tt;
          alone = tt;
          merging = merging_kept (reads_of (cells p.dir)) (reads_of (cells dir)) r.infos.segs r.segs p.merges h.merging (λ q some. reads_end q (merges_counted (cells dir) files searchers r.names p.states p.merges p.commits node_end q some));
          merges_apart = h.merges_apart;
          completed = h.completed;
        })
