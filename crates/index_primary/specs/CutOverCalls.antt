-- What a cut-over makes of a primary's parts.
use Rattle.std.specs.Prelude.{◌≡◌, ◌⊎◌, ◌↔◌, true, List, ◌++◌, Option, Some, None, IsSome, IsSomeAnd}
use Rattle.std.specs.List.{AllByRecursion, AllZip, Contains, zip}
use Rattle.std.specs.List.Sorted.{IsStrictlySortedBy}
use Rattle.std.specs.Ordering.{nat_cmp}
use Rattle.std.specs.Cmp.Lexicographic.{slice_cmp}
use Rattle.nrt_base.specs.declared.numbers.SegNo.{SegNo}
use Rattle.nrt_base.specs.declared.doc.Doc.{Doc}
use Rattle.disk_model.specs.Disk.{Name, Cells, reads_of}
use Rattle.segment_infos.specs.declared.infos.SegRecord.{SegRecord}
use Rattle.segment_infos.specs.declared.infos.Infos.{Infos}
use Rattle.segment_infos.specs.Infos.{CanSpell}
use Rattle.segment_infos.specs.Files.{AreFilesOf}
use Rattle.seg_reader.specs.Shown.{Shown}
use Rattle.seg_reader.specs.Stands.{IsSegmentIn, AreSegmentsOf}
use Rattle.seg_merge.specs.declared.task.Merged.{Merged}
use Rattle.segment_steps.specs.declared.next.NextSegments.{NextSegments}
use Rattle.segment_steps.specs.Next.{IsReadBack}
use Rattle.segment_steps.specs.CutOver.{IsCutOf}
use Rattle.searcher_switch.specs.Node.{IsWholeNode}
use Rattle.searcher_switch.specs.Standing.{IsStanding}
use Rattle.copy_state.specs.States.{AreShortNames}
use Rattle.index_primary.specs.declared.parts.PrimaryParts.{PrimaryParts}
use Rattle.index_primary.specs.declared.states.Merging.{Merging}
use Rattle.index_primary.specs.Held.{IsHeld, AreUndrawn, AreNumbered}
use Rattle.index_primary.specs.Merges.{merge_of, merges_without, IsMerging, AreApartMerges}
use Rattle.index_primary.specs.Primary.{primary_names}
use Rattle.index_primary.specs.Written.{names_of}
use Rattle.index_primary.specs.MergeCalls.{loose_left, filled_left}
use Rattle.index_primary.specs.declared.merge_cuts.CutReady.{CutReady}

-- the infos with these segments alone
abbrev pub infos_of : Infos → List SegRecord → Infos
infos_of infos records = record { generation = infos.generation; version = infos.version; counter = infos.counter; segs = records }

-- names that stand in ascending order, each once, and are those of both lists
pub record AreInBoth (a b names : List Name) : Type 0 where
  pub ascending : IsStrictlySortedBy (slice_cmp nat_cmp) names
  pub each : (q : Name) → Contains names q ↔ (Contains a q ⊎ Contains b q)

-- the names are those of the files that were written
abbrev pub AreWrittenOf : Option Merged → List Name → Type 0
AreWrittenOf None names = ⊥
AreWrittenOf (Some merged) names = names ≡ names_of merged.files.files

module _ {D : Type 0} where
  -- a merge of this number is in flight, and its files are written
  abbrev pub IsFilledMerge : PrimaryParts D → SegNo → Type 0
  IsFilledMerge p seg = IsSomeAnd (merge_of seg.0 p.merges) (λ m. IsSome m.merged)

  -- A merge was cut over: the merged segment is in the place of its inputs, with the rows of it that are live now, or none where none is. The
  -- version is as before; the merge has ended, and its files are listed as completed.
  pub record IsCutOver (seg : SegNo) (old new : PrimaryParts D) : Type 0 where
    pub m : Merging
    pub found : merge_of seg.0 old.merges ≡ Some m
    pub merged : Merged
    pub is_merged : m.merged ≡ Some merged
    pub shown : Shown
    pub back : IsReadBack merged.files shown
    pub made : NextSegments
    pub cut : IsCutOf old.infos.generation.0 (zip old.infos.segs old.segs) m.inputs merged shown made
    pub infos : new.infos ≡ infos_of old.infos made.records
    pub segs : new.segs ≡ made.segs
    pub merges : new.merges ≡ merges_without seg.0 old.merges
    pub cut_over : new.has_cut_over ≡ true
    pub completed : AreInBoth old.completed (names_of merged.files.files) new.completed

  -- the writer stands for the documents that it stood for
  abbrev pub KeepsDocuments : PrimaryParts D → PrimaryParts D → Type 0
  KeepsDocuments old new = (docs : List Doc) → AreSegmentsOf docs old.segs → AreSegmentsOf docs new.segs

  -- the segments after the cut-over of a merge whose files are written
  pub record IsCutMade (p : PrimaryParts D) (seg : SegNo) (made : NextSegments) : Type 0 where
    pub m : Merging
    pub found : merge_of seg.0 p.merges ≡ Some m
    pub merged : Merged
    pub is_merged : m.merged ≡ Some merged
    pub shown : Shown
    pub back : IsReadBack merged.files shown
    pub cut : IsCutOf p.infos.generation.0 (zip p.infos.segs p.segs) m.inputs merged shown made

  -- all that a cut-over needs memory for
  pub record IsCutReady (p : PrimaryParts D) (seg : SegNo) (r : CutReady) : Type 0 where
    pub m : Merging
    pub found : merge_of seg.0 p.merges ≡ Some m
    pub merged : Merged
    pub is_merged : m.merged ≡ Some merged
    pub shown : Shown
    pub back : IsReadBack merged.files shown
    pub cut : IsCutOf p.infos.generation.0 (zip p.infos.segs p.segs) m.inputs merged shown (record { records = r.infos.segs; segs = r.segs; files = r.files })
    pub infos : r.infos ≡ infos_of p.infos r.infos.segs
    pub names : AreFilesOf r.infos r.names
    pub written : r.written ≡ names_of r.files
    -- the names that go: those of the former infos, those that the merge holds, and what is in hand
    pub gone : r.gone ≡ p.names ++ m.names ++ r.written
    pub completed : AreInBoth p.completed (names_of merged.files.files) r.completed
    pub short : AreShortNames r.completed

  -- the live file is written and in hand, and the files of the new infos are counted
  pub record HasWrittenCut (cells : D → Cells) (p : PrimaryParts D) (seg : SegNo) (r : CutReady) : Type 0 where
    pub ready : IsCutReady p seg r
    pub node : IsWholeNode (cells p.dir) p.files (r.names ++ (r.written ++ primary_names p)) p.commits
    pub standing : IsStanding (reads_of (cells p.dir)) p.commits
    pub spelled : CanSpell r.infos
    pub docs : List Doc
    pub stand : AreSegmentsOf docs r.segs
    pub each : AllZip (IsSegmentIn (reads_of (cells p.dir))) r.infos.segs r.segs
    pub searched : IsHeld (reads_of (cells p.dir)) p.point_infos p.searchers.point.readers p.searchers.point.names
    pub version : p.point_infos.version ≡ p.searchers.point.version
    pub versions : r.infos.version ≡ p.point_infos.version
    pub calm : p.publish ≡ None
    pub undrawn : AreUndrawn p.files r.infos (loose_left p seg) (filled_left p seg)
    pub numbered : AreNumbered r.infos (loose_left p seg)
    pub merging : AllByRecursion (IsMerging (reads_of (cells p.dir)) r.infos.segs r.segs) (merges_without seg.0 p.merges)
    pub merges_apart : AreApartMerges (merges_without seg.0 p.merges)
