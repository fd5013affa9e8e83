-- A merge whose files are written.
use Rattle.std.proofs.Common.{◌≡◌, ◌<◌, ◌≤◌, ◌+◌, ◌^◌, ℕ, Bool, true, false, List, [], ◌++◌, inl, inr, Some, None, refl, sym, ap, subst, ◌∙◌, arith, true≢false, All}
use Rattle.std.specs.Prelude.{IfSome}
use Rattle.std.specs.List.{Contains}
use Rattle.std.proofs.lemmas.List.Elements.{Contains-append_right, All-contains}
use Rattle.disk_model.specs.Disk.{Name, Cells, is_among, reads_of}
use Rattle.file_names.specs.Names.{part_name_of, is_commit_name, is_pending_name}
use Rattle.file_names.specs.declared.composed.SegPart.{SegPart}
use Rattle.file_names.proofs.NameLaws.{part_name_apart, part_name_not_live, part_name_not_commit, part_name_not_pending}
use Rattle.seg_merge.specs.declared.task.Merged.{Merged}
use Rattle.seg_merge.specs.Merging.{IsMergedOf}
use Rattle.file_deleter.specs.Holdings.{Holdings, count_of, times, AreThere}
use Rattle.file_deleter.specs.Moves.{KeepsFiles, LetsGo, MovesCounts}
use Rattle.file_deleter.proofs.NameLemmas.{times-append, among_times, not_among_times}
use Rattle.searcher_switch.specs.Searching.{searcher_names}
use Rattle.searcher_switch.specs.Node.{IsWholeNode, IsApart, HasNoPending, AddsOnly, KeepsBytes}
use Rattle.searcher_switch.specs.Appearing.{AppearsOnly}
use Rattle.searcher_switch.proofs.Appearing.{keeps_only}
use Rattle.searcher_switch.proofs.Carry.{node_kept, node_gathers, node_lets_go, node_same_counts, node_there, nothing_written, unheld_apart}
use Rattle.index_primary.specs.declared.parts.PrimaryParts.{PrimaryParts}
use Rattle.index_primary.specs.declared.states.Out.{Out}
use Rattle.index_primary.specs.declared.states.Merging.{Merging}
use Rattle.index_primary.specs.Held.{IsUnused, part, live, next_live, IsOwnFile, IsDrawnRecord, drawn_to}
use Rattle.index_primary.specs.States.{state_names}
use Rattle.index_primary.specs.Merges.{merge_names, merge_loose, merge_filled, merge_of, merges_with, IsMerging}
use Rattle.index_primary.specs.Primary.{loose_in, publish_loose, rest_loose, loose_of, filled_of, rest_names, primary_names, IsUnwritten, IsPrimary}
use Rattle.index_primary.specs.Written.{names_of, ReadsSo}
use Rattle.index_primary.specs.Calls.{FillsUndrawn, DrawsOnly}
use Rattle.index_primary.proofs.Drawing.{drawn_small, numbered_within}
use Rattle.index_primary.proofs.NewFiles.{undrawn_of}
use Rattle.index_primary.proofs.Keeping.{primary_same}
use Rattle.index_primary.proofs.MergeLists.{all_at, loose_at, unfilled_at, filled_with, filled_own, loose_with, names_with, all_with, apart_with}
use Rattle.index_primary.proofs.MergedFiles.{part_names, part_among, parts_once, merged_names}
use Rattle.index_primary.proofs.Carrying.{standing_carried, writer_carried, searched_carried, merging_carried}

module _ {D : Type 0} (cells : D → Cells) (p : PrimaryParts D) (is : IsPrimary cells p) (merged : Merged) (m : Merging) (found : merge_of merged.files.seg.0 p.merges ≡ Some m) (none : m.merged ≡ None) (of : IsMergedOf m.task merged) where
  abbrev n : ℕ
  n = merged.files.seg.0

  abbrev pub written : List Name
  written = names_of merged.files.files

  drawn : Contains (loose_of p) n
  drawn = Contains-append_right (publish_loose p.publish) (rest_loose p) n (loose_at n p.merges m found)

  below : n < drawn_to p.infos
  below = is.numbered.loose_below n drawn

  pub small : n < 2 ^ 64
  small = drawn_small p.infos (loose_of p) n is.numbered below

  -- ---- the names that are written
  a_part : (q : Name) → is_among written q ≡ true → (which : SegPart) × (q ≡ part_name_of n which)
  a_part q there = part_among n q (ap (λ (ns : List Name). is_among ns q) (sym (merged_names m.task merged of)) ∙ there)

  unwritten : (q : Name) → is_among written q ≡ true → IsUnwritten p q
  unwritten q there = let w = a_part q there in part n w.0 (small, inr drawn) (unfilled_at n p.merges m is.merges_apart found none) w.1

  pub fresh : (q : Name) → is_among written q ≡ true → count_of p.files q ≡ 0
  fresh q there = is.undrawn.each q (unwritten q there)

  pub once : (q : Name) → times written q ≤ 1
  once q = let e : times written q ≡ times (part_names n) q = ap (λ (ns : List Name). times ns q) (merged_names m.task merged of) in omega (arith, e, parts_once n small q)

  own : (q : Name) → is_among written q ≡ true → IsOwnFile p.infos (loose_of p) q
  own q there = let w = a_part q there in (n, inl drawn, (small, inl w))

  apart : IsApart written p.commits
  apart = unheld_apart (cells p.dir) p.files (primary_names p) written p.commits is.node
      (λ q there. let w = a_part q there in (ap is_commit_name w.1 ∙ part_name_not_commit n w.0, ap is_pending_name w.1 ∙ part_name_not_pending n w.0)) fresh

  none_pending : HasNoPending written
  none_pending = record { each = λ q named. by q named (is_among written q) refl }
    where
      by : (q : Name) → is_pending_name q ≡ true → (b : Bool) → is_among written q ≡ b → times written q ≡ 0
      by q named true e = absurd (true≢false (sym named ∙ (apart.plain q e).1))
      by q named false e = not_among_times written q e

  pub ready_appears : (dir : D) (files : Holdings) → KeepsFiles written p.files files (cells p.dir) (cells dir) → AppearsOnly (IsOwnFile p.infos (loose_of p)) (cells p.dir) (cells dir)
  ready_appears dir files keeps = keeps_only (IsOwnFile p.infos (loose_of p)) written p.files files (cells p.dir) (cells dir) keeps (λ q there gone. own q there)

  -- the writes are refused
  pub ready_unwritten : (dir : D) (files : Holdings) → ((q : Name) → count_of files q ≡ count_of p.files q) → KeepsFiles written p.files files (cells p.dir) (cells dir) → IsPrimary cells (record p { dir = dir; files = files })
  ready_unwritten dir files same keeps = primary_same cells p is dir files (node_same_counts (cells p.dir) (cells dir) p.files files (primary_names p) written p.commits is.node apart keeps same) keeps.reads same

  -- ---- after the writes
  module _ (dir : D) (mid : Holdings) (counts : (q : Name) → count_of mid q ≡ count_of p.files q + times written q) (keeps : KeepsFiles written p.files mid (cells p.dir) (cells dir)) where
    node_written : IsWholeNode (cells dir) mid (written ++ primary_names p) p.commits
    node_written = node_gathers (cells p.dir) (cells dir) p.files mid (primary_names p) written written p.commits is.node apart keeps counts none_pending

    pub written_there : AreThere (cells dir) written
    written_there = node_there (cells dir) mid (written ++ primary_names p) written p.commits node_written (λ q zero. omega (arith, zero, times-append written (primary_names p) q))

    pub written_counted : (q : Name) → times written q ≤ count_of mid q
    written_counted q = omega (arith, counts q)

    reads_mid : (q : Name) → 0 < count_of p.files q → (cells dir q).now ≡ (cells p.dir q).now
    reads_mid q had = keeps.reads q had (omega (arith, had, counts q))

    -- the hold is refused, and what was written is given back
    module _ (end : D) (files : Holdings) (lets : LetsGo written mid files (cells dir) (cells end)) where
      pub unheld_counts : (q : Name) → count_of files q ≡ count_of p.files q
      unheld_counts q = omega (arith, counts q, lets.counts q)

      pub unheld_stays : KeepsBytes p.files files (cells p.dir) (cells end)
      unheld_stays = record { held = λ q had has. let c : 0 < count_of mid q = omega (arith, had, counts q) in lets.keeps.reads q c has ∙ reads_mid q had }

      pub ready_unheld : IsPrimary cells (record p { dir = end; files = files })
      ready_unheld = primary_same cells p is end files (node_lets_go (cells dir) (cells end) mid files (primary_names p) written p.commits node_written lets) unheld_stays.held unheld_counts

    -- ---- the state is out, and the merge is made
    module _ (files : Holdings) (states : List Out) (moves : MovesCounts [] (state_names p.states) (state_names states) mid files (cells dir) (cells dir)) (only : AddsOnly written (state_names p.states) (state_names states))
        (reads_so : All (ReadsSo (cells dir)) merged.files.files) where
      abbrev names : List Name
      names = m.names ++ written

      abbrev merges : List Merging
      merges = merges_with merged names p.merges

      abbrev after : PrimaryParts D
      after = record p { dir = dir; files = files; states = states; merges = merges }

      abbrev now_names : List Name
      now_names = searcher_names p.searchers ++ (p.names ++ (state_names states ++ merge_names merges))

      was_split : (q : Name) → times (primary_names p) q ≡ times (searcher_names p.searchers) q + (times p.names q + (times (state_names p.states) q + times (merge_names p.merges) q))
      was_split q =
          let d : times (primary_names p) q ≡ times (searcher_names p.searchers) q + times (p.names ++ rest_names p) q = times-append (searcher_names p.searchers) (p.names ++ rest_names p) q in
          let e : times (p.names ++ rest_names p) q ≡ times p.names q + times (rest_names p) q = times-append p.names (rest_names p) q in
          omega (arith, d, e, times-append (state_names p.states) (merge_names p.merges) q)

      now_split : (q : Name) → times now_names q ≡ times (searcher_names p.searchers) q + (times p.names q + (times (state_names states) q + times (merge_names merges) q))
      now_split q =
          let d : times now_names q ≡ times (searcher_names p.searchers) q + times (p.names ++ (state_names states ++ merge_names merges)) q = times-append (searcher_names p.searchers) (p.names ++ (state_names states ++ merge_names merges)) q in
          let e : times (p.names ++ (state_names states ++ merge_names merges)) q ≡ times p.names q + times (state_names states ++ merge_names merges) q = times-append p.names (state_names states ++ merge_names merges) q in
          omega (arith, d, e, times-append (state_names states) (merge_names merges) q)

      -- the merge holds what it held and what was written
      merges_now : (q : Name) → times (merge_names merges) q ≡ times (merge_names p.merges) q + times written q
      merges_now q = omega (arith, names_with merged names p.merges m q found, times-append m.names written q)

      states_zero : (q : Name) → times (state_names p.states) q ≡ 0 → times written q ≡ 0 → times (state_names states) q ≡ 0
      states_zero q old new = only.each q old new

      node_now : IsWholeNode (cells dir) files now_names p.commits
      node_now = node_kept (cells dir) (cells dir) mid files (written ++ primary_names p) now_names p.commits [] node_written (nothing_written p.commits) moves.keeps
          (λ q. omega (arith, node_written.counts q, times-append written (primary_names p) q, was_split q, now_split q, merges_now q, moves.balance q))
          (record {
            each = λ q pending.
                let zero : times (written ++ primary_names p) q ≡ 0 = node_written.plain.each q pending in
                let a : times (written ++ primary_names p) q ≡ times written q + times (primary_names p) q = times-append written (primary_names p) q in
                let s : times (state_names p.states) q ≡ 0 = omega (arith, zero, a, was_split q) in
                let w : times written q ≡ 0 = omega (arith, zero, a) in
                omega (arith, zero, a, was_split q, now_split q, merges_now q, states_zero q s w);
          })

      reads_now : (q : Name) → 0 < count_of p.files q → 0 < count_of files q → (cells dir q).now ≡ (cells p.dir q).now
      reads_now q had has = reads_mid q had

      -- ---- what is not written yet
      loose_now : (seg : ℕ) → Contains (publish_loose p.publish ++ merge_loose merges) seg → Contains (loose_of p) seg
      loose_now seg c = subst (λ (ls : List ℕ). Contains (publish_loose p.publish ++ ls) seg) (loose_with merged names p.merges) c

      unwritten_before : (q : Name) → IsUnwritten after q → IsUnwritten p q
      unwritten_before q u = undrawn_of p.infos p.infos (loose_of p) (publish_loose p.publish ++ merge_loose merges) (filled_of p) (merge_filled merges)
          (λ seg unused. subst (λ (ls : List ℕ). IsUnused p.infos (publish_loose p.publish ++ ls) seg) (loose_with merged names p.merges) unused)
          (λ seg unused out c. out (filled_with merged names p.merges seg c)) (λ r live_gen h. h) q u

      not_written : (q : Name) → IsUnwritten after q → is_among written q ≡ true → ⊥
      not_written q (part seg which (s, unused) out e) there =
          let w = a_part q there in
          let same_seg : seg ≡ n = (part_name_apart seg n which w.0 s small (sym e ∙ w.1)).0 in
          out (subst (λ (k : ℕ). Contains (merge_filled merges) k) (sym same_seg) (filled_own merged names p.merges m found))
      not_written q (live seg live_gen (s, unused) fits e) there = let w = a_part q there in part_name_not_live n seg live_gen w.0 small s fits (sym w.1 ∙ e)
      not_written q (next_live r live_gen h e) there =
          let w = a_part q there in
          let lt : r.seg.0 < drawn_to p.infos = (All-contains (IsDrawnRecord p.infos) p.infos.segs r is.numbered.segs h.of).below in
          part_name_not_live n r.seg.0 live_gen w.0 small (drawn_small p.infos (loose_of p) r.seg.0 is.numbered lt) h.small (sym w.1 ∙ e)

      undrawn_now : (q : Name) → IsUnwritten after q → count_of files q ≡ 0
      undrawn_now q u =
          let zero : count_of p.files q ≡ 0 = is.undrawn.each q (unwritten_before q u) in
          let w : times written q ≡ 0 = by q u (is_among written q) refl in
          let s : times (state_names p.states) q ≡ 0 = omega (arith, zero, is.node.counts q, was_split q) in
          omega (arith, zero, w, counts q, moves.balance q, states_zero q s w)
        where
          by : (q : Name) → IsUnwritten after q → (b : Bool) → is_among written q ≡ b → times written q ≡ 0
          by q u true e = absurd (not_written q u e)
          by q u false e = not_among_times written q e

      -- its files read as they were made
      was_merging : IsMerging (reads_of (cells p.dir)) p.infos.segs p.segs m
      was_merging = all_at (IsMerging (reads_of (cells p.dir)) p.infos.segs p.segs) n p.merges m is.merging found

      -- A MERGE IS READY
      pub primary_ready : IsPrimary cells after
      primary_ready = record {
        node = node_now;
        standing = standing_carried cells p is dir files states merges node_now reads_now;
        writer = writer_carried cells p is dir files states merges node_now reads_now;
        searched = searched_carried cells p is dir files states merges node_now reads_now;
        version = is.version;
        versions = is.versions;
        undrawn = record { each = undrawn_now };
        numbered = numbered_within p.infos (loose_of p) (publish_loose p.publish ++ merge_loose merges) loose_now is.numbered;
        waits = is.waits;
        few = is.few;
        alone = subst (λ (ls : List ℕ). IfSome p.publish (λ f. (k : ℕ) → Contains (loose_in f.seg) k → Contains ls k → ⊥)) (sym (loose_with merged names p.merges)) is.alone;
        merging = all_with merged names (IsMerging (reads_of (cells dir)) p.infos.segs p.segs) p.merges m
            (merging_carried cells p is dir files states merges node_now reads_now p.merges is.merging (λ q some. (some, omega (arith, some, merges_now q)))) found
            (record {
              flight = was_merging.flight;
              made = record { of = of; held = λ q there. omega (arith, among_times written q there, times-append m.names written q); reads_so = reads_so };
            });
        merges_apart = apart_with merged names p.merges is.merges_apart;
        completed = is.completed;
      }

      pub ready_draws : DrawsOnly p after
      ready_draws = record { each = unwritten_before }

      pub ready_fills : FillsUndrawn p after
      ready_fills = record { each = λ q zero some. by q zero some (is_among written q) refl }
        where
          by : (q : Name) → count_of p.files q ≡ 0 → 0 < count_of files q → (b : Bool) → is_among written q ≡ b → IsUnwritten p q
          by q zero some true e = unwritten q e
          by q zero some false e =
              let w : times written q ≡ 0 = not_among_times written q e in
              let s : times (state_names p.states) q ≡ 0 = omega (arith, zero, is.node.counts q, was_split q) in
              absurd (omega (arith, zero, some, w, counts q, moves.balance q, states_zero q s w))

      pub ready_stays : KeepsBytes p.files files (cells p.dir) (cells dir)
      ready_stays = record { held = reads_now }
