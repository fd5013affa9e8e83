-- The segments after a cut-over of the primary, and the names of completed merges.
use Rattle.std.proofs.Common.{◌≡◌, ◌<◌, ◌≤◌, ◌+◌, ◌*◌, ◌/◌, ◌^◌, inl, inr, ℕ, true, List, ◌++◌, Option, Some, None, length, replicate, refl, sym, ap, subst, ◌∙◌, arith, nat_eq, get_or}
use Rattle.std.specs.List.{AllZip, Contains, dedup, zip}
use Rattle.std.specs.List.Sorted.{IsStrictlySortedBy, IsSorted, IsPermutation}
use Rattle.std.specs.Ordering.{nat_cmp}
use Rattle.std.specs.Cmp.Lexicographic.{slice_cmp, pointwise, nat_list_eq_equiv, texts_ties}
use Rattle.std.proofs.lemmas.Cmp.{nat_list_cmp_total}
use Rattle.std.proofs.lemmas.List.{length-map}
use Rattle.std.proofs.lemmas.List.Elements.{All-contains, Contains-append_cases, Contains-append_left, Contains-append_right, Contains-get_or}
use Rattle.std.proofs.lemmas.List.Kept.{IsStrictlySortedBy-dedup, Contains-dedup, Contains-from_dedup}
use Rattle.std.proofs.lemmas.List.Sorted.{Contains-permutation, IsPermutation-sym}
use Rattle.std.proofs.lemmas.Slice.Eq.{bytes_eq-Decides}
use Rattle.std.proofs.lemmas.Slice.Zip.{AllZip-long}
use Rattle.nrt_base.specs.declared.numbers.SegNo.{SegNo}
use Rattle.disk_model.specs.Disk.{Name, Cells, reads_of}
use Rattle.seg_reader.specs.Stands.{IsSegmentIn}
use Rattle.segment_steps.specs.Given.{record_of}
use Rattle.seg_merge.specs.declared.task.Merged.{Merged}
use Rattle.seg_merge.specs.Merging.{docs_by_input, all_live_docs, origins, IsWithin}
use Rattle.segment_steps.specs.Next.{IsBounded, IsBuiltWork}
use Rattle.segment_steps.specs.CutOver.{Part, inputs_in, lives_of}
use Rattle.segment_steps.proofs.AfterPublish.{new_fine}
use Rattle.copy_state.specs.States.{AreShortNames}
use Rattle.index_primary.specs.declared.parts.PrimaryParts.{PrimaryParts}
use Rattle.index_primary.specs.declared.states.Merging.{Merging}
use Rattle.index_primary.specs.Held.{drawn_to}
use Rattle.index_primary.specs.Merges.{merge_of, IsMade, IsMadeBy, IsMerging}
use Rattle.index_primary.specs.Primary.{loose_of, IsPrimary}
use Rattle.index_primary.specs.Written.{names_of}
use Rattle.index_primary.proofs.Drawing.{drawn_small}
use Rattle.index_primary.proofs.MergeLists.{number_of, all_at}
use Rattle.segment_infos.specs.Files.{AreFilesOf}
use Rattle.segment_steps.specs.declared.next.NextSegments.{NextSegments}
use Rattle.index_primary.specs.CutOverCalls.{infos_of, AreInBoth, AreWrittenOf, IsCutMade, IsCutReady}
use Rattle.index_primary.proofs.Abandoned.{is_loose}
use Rattle.index_primary.proofs.MergedFiles.{merged_short}

-- ---- the merge that is meant
-- one merge of a number
pub same_merging : (m x : Merging) (merged : Merged) → Some m ≡ Some x → x.merged ≡ Some merged → m.merged ≡ Some merged
same_merging m x merged e is = let same : m ≡ x = cc in ap (λ (y : Merging). y.merged) same ∙ is

-- the names of what was written of it
pub written_is : (o : Option Merged) (merged : Merged) (names : List Name) → o ≡ Some merged → AreWrittenOf o names → names ≡ names_of merged.files.files
written_is o merged names e h = subst (λ (x : Option Merged). AreWrittenOf x names) e h

-- ---- names of two lists, sorted and each once
pub both_are : (a b all sorted left : List Name) → all ≡ a ++ b → IsPermutation all sorted → IsSorted (slice_cmp nat_cmp) sorted → left ≡ dedup (pointwise nat_eq) sorted → AreInBoth a b left
both_are a b all sorted left e moved up is = record {
  ascending = subst (IsStrictlySortedBy (slice_cmp nat_cmp)) (sym is) (IsStrictlySortedBy-dedup nat_list_cmp_total texts_ties sorted up);
  each = λ q. (
    λ h. Contains-append_cases a b q (subst (λ (x : List Name). Contains x q) e (Contains-permutation sorted all q (IsPermutation-sym all sorted moved) (Contains-from_dedup (pointwise nat_eq) sorted q (subst (λ (x : List Name). Contains x q) is h)))),
    λ h. subst (λ (x : List Name). Contains x q) (sym is)
        (Contains-dedup nat_list_eq_equiv (λ x y t. (bytes_eq-Decides x y).0 t) sorted q (Contains-permutation all sorted q moved (subst (λ (x : List Name). Contains x q) (sym e)
        (elim h [ inl l ↦ Contains-append_left a b q l | inr r ↦ Contains-append_right a b q r ])))),
  );
}

pub both_short : (a b names : List Name) → AreInBoth a b names → AreShortNames a → AreShortNames b → AreShortNames names
both_short a b names h s t = record {
  ascending = h.ascending;
  short = λ k d lt. elim ((h.each (get_or names k d)).0 (Contains-get_or names k d lt)) [
    | inl l ↦ All-contains (λ (q : Name). length q ≤ 46) a (get_or names k d) s.short l
    | inr r ↦ All-contains (λ (q : Name). length q ≤ 46) b (get_or names k d) t.short r
  ];
}

-- ---- what a cut-over asks
module _ {D : Type 0} (cells : D → Cells) (p : PrimaryParts D) (is : IsPrimary cells p) (seg : SegNo) (m : Merging) (found : merge_of seg.0 p.merges ≡ Some m) (merged : Merged) (is_merged : m.merged ≡ Some merged) where
  mine : IsMerging (reads_of (cells p.dir)) p.infos.segs p.segs m
  mine = all_at (IsMerging (reads_of (cells p.dir)) p.infos.segs p.segs) seg.0 p.merges m is.merging found

  made : IsMade (reads_of (cells p.dir)) m merged
  made = subst (λ (o : Option Merged). IsMadeBy (reads_of (cells p.dir)) m o) is_merged mine.made

  number : merged.files.seg.0 ≡ seg.0
  number = ap (λ (s : SegNo). s.0) made.of.number ∙ number_of seg.0 p.merges m found

  below : seg.0 < drawn_to p.infos
  below = is.numbered.loose_below seg.0 (is_loose cells p is seg m found)

  made_by : (n counter generation : ℕ) → n < generation * 1679616 + counter → counter ≤ 1679616 → n / 1679616 ≤ generation
  made_by n counter generation lt most = omega (arith, lt, most)

  pub cut_bounded : IsBounded p.infos.generation.0 (record_of merged.files.seg merged.files.live)
  cut_bounded = (new_fine p.infos.generation.0 merged.files.seg merged.files.live
      (subst (λ (k : ℕ). k / 1679616 ≤ p.infos.generation.0) (sym number) (made_by seg.0 p.infos.counter p.infos.generation.0 below is.numbered.counter))).0

  pub cut_many : length p.infos.segs ≡ length p.segs
  cut_many = sym (AllZip-long (IsSegmentIn (reads_of (cells p.dir))) p.infos.segs p.segs is.writer.stands.each)

  pub cut_some : 0 < length (inputs_in m.inputs (zip p.infos.segs p.segs))
  cut_some = omega (arith, mine.flight.some, length-map (inputs_in m.inputs (zip p.infos.segs p.segs)) (λ (q : Part). q.0.seg), ap length mine.flight.numbers)

  pub cut_now : AllZip IsWithin (lives_of (inputs_in m.inputs (zip p.infos.segs p.segs))) m.task.live
  cut_now = mine.flight.within

  pub cut_from : merged.from ≡ origins 0 m.task.live
  cut_from = made.of.from

  pub cut_rows : merged.files.live ≡ replicate (length merged.from) true
  cut_rows = made.of.live

  pub cut_built : IsBuiltWork (Some merged.files)
  cut_built = (all_live_docs (docs_by_input m.task.inputs) m.task.live, made.of.built)

  pub cut_short : AreShortNames (names_of merged.files.files)
  cut_short = merged_short m.task merged made.of (subst (λ (k : ℕ). k < 2 ^ 64) (sym number) (drawn_small p.infos (loose_of p) seg.0 is.numbered below))

  -- ---- all that a cut-over needs memory for
  pub cut_ready_of : (made : NextSegments) → IsCutMade p seg made → (own : List Name) → own ≡ names_of merged.files.files → (completed : List Name) → AreInBoth p.completed own completed
      → (names : List Name) → AreFilesOf (infos_of p.infos made.records) names → (written held gone : List Name) → written ≡ names_of made.files → held ≡ p.names ++ m.names → gone ≡ held ++ written
      → IsCutReady p seg (record { infos = infos_of p.infos made.records; segs = made.segs; names = names; files = made.files; written = written; gone = gone; completed = completed })
  cut_ready_of made h own own_is completed both names named written held gone w e f =
      let same : h.m ≡ m = same_some h.m m (sym h.found ∙ found) in
      let same_merged : h.merged ≡ merged = same_some h.merged merged (sym h.is_merged ∙ ap (λ (x : Merging). x.merged) same ∙ is_merged) in
      let all : AreInBoth p.completed (names_of h.merged.files.files) completed = subst (λ (x : Merged). AreInBoth p.completed (names_of x.files.files) completed) (sym same_merged) (subst (λ (ns : List Name). AreInBoth p.completed ns completed) own_is both) in
      record {
        m = h.m;
        found = h.found;
        merged = h.merged;
        is_merged = h.is_merged;
        shown = h.shown;
        back = h.back;
        cut = record { records_are = h.cut.records_are; segs_are = h.cut.segs_are; changes = h.cut.changes };
        infos = refl;
        names = named;
        written = w;
        gone = f ∙ ap (λ (ns : List Name). ns ++ written) (e ∙ ap (λ (x : Merging). p.names ++ x.names) (sym same));
        completed = all;
        short = both_short p.completed (names_of merged.files.files) completed (subst (λ (ns : List Name). AreInBoth p.completed ns completed) own_is both) is.completed cut_short;
      }
    where
      same_some : {X : Type 0} (x y : X) → Some x ≡ Some y → x ≡ y
      same_some x y e = cc
