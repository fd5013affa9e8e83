-- A publish: what is made of the writer's segments, and how it is put in place.
use Rattle.std.specs.Prelude.{◌≡◌, ◌⊎◌, ◌<◌, ◌≤◌, ◌+◌, ◌==◌, ℕ, Bool, true, false, List, ◌++◌, length, Some, IfSome}
use Rattle.std.specs.List.{All, AllByRecursion, AllZip, Contains, flat_map, list_any, zip}
use Rattle.nrt_base.specs.declared.doc.Doc.{Doc}
use Rattle.disk_model.specs.Disk.{Name, Content, Cells, is_among, reads_of}
use Rattle.file_deleter.specs.Holdings.{times}
use Rattle.segment_infos.specs.declared.infos.SegRecord.{SegRecord}
use Rattle.segment_infos.specs.declared.infos.Infos.{Infos}
use Rattle.segment_infos.specs.Infos.{CanSpell}
use Rattle.segment_infos.specs.Files.{files_of_segment, AreFilesOf}
use Rattle.seg_reader.specs.Shown.{Shown}
use Rattle.seg_reader.specs.Stands.{IsSegmentIn, AreSegmentsOf}
use Rattle.copy_state.specs.States.{AreShortNames}
use Rattle.seg_build.specs.Built.{File}
use Rattle.searcher_switch.specs.Node.{IsWholeNode}
use Rattle.index_primary.specs.declared.parts.PrimaryParts.{PrimaryParts}
use Rattle.index_primary.specs.declared.ready.Ready.{Ready}
use Rattle.searcher_switch.specs.Standing.{IsStanding}
use Rattle.index_primary.specs.Held.{IsUndrawn, IsOwnFile, AreUndrawn, AreNumbered, next_infos}
use Rattle.index_primary.specs.Primary.{primary_names, rest_loose, loose_of, filled_of}
use Rattle.index_primary.specs.Merges.{merge_inputs, IsMerging, AreApartMerges}
use Rattle.nrt_base.specs.declared.numbers.SegNo.{SegNo}
use Rattle.segment_steps.specs.CutOver.{IsMergeOf}
use Rattle.index_primary.specs.Written.{names_of}

-- What is made of the writer's segments: where the writer's files read as they do and the new files read so, the new infos have the new segments; these are of some documents;
-- the new infos name the writer's files and the new ones; the new files were not written yet, and are the writer's own; what is not written yet afterwards was not before;
-- and a merge in flight whose inputs are held stays one.
pub record IsStep (infos : Infos) (segs : List Shown) (loose still filled : List ℕ) (held : List SegNo) (records : List SegRecord) (fresh : List Shown) (files : List File) : Type 0 where
  pub spelled : CanSpell (next_infos infos records)
  pub numbered : AreNumbered (next_infos infos records) still
  pub docs : List Doc
  pub stand : AreSegmentsOf docs fresh
  pub stands : (before after : Name → Content) → AllZip (IsSegmentIn before) infos.segs segs → ((q : Name) → Contains (flat_map files_of_segment infos.segs) q → after q ≡ before q)
      → All (λ f. after f.0 ≡ Some f.1) files → AllZip (IsSegmentIn after) records fresh
  pub named : (q : Name) → Contains (flat_map files_of_segment records) q → Contains (flat_map files_of_segment infos.segs) q ⊎ (is_among (names_of files) q ≡ true)
  pub once : (q : Name) → times (names_of files) q ≤ 1
  pub undrawn : (q : Name) → is_among (names_of files) q ≡ true → IsUndrawn infos loose filled q
  pub own : (q : Name) → is_among (names_of files) q ≡ true → IsOwnFile infos loose q
  pub rest : (q : Name) → IsUndrawn (next_infos infos records) still filled q → IsUndrawn infos loose filled q × (is_among (names_of files) q ≡ false)
  pub flights : (inputs : List SegNo) (docs : List (List Doc)) (noted : List (List Bool)) → ((n : ℕ) → list_any (λ seg. seg.0 == n) inputs ≡ true → list_any (λ seg. seg.0 == n) held ≡ true)
      → IsMergeOf (zip infos.segs segs) inputs docs noted → IsMergeOf (zip records fresh) inputs docs noted

-- the same of a primary
abbrev pub IsStepOf : {D : Type 0} → PrimaryParts D → List SegRecord → List Shown → List File → Type 0
IsStepOf p records fresh files = IsStep p.infos p.segs (loose_of p) (rest_loose p) (filled_of p) (merge_inputs p.merges) records fresh files

-- all that a publish needs memory for
pub record IsReady {D : Type 0} (p : PrimaryParts D) (r : Ready) : Type 0 where
  pub step : IsStepOf p r.infos.segs r.segs r.files
  pub infos : r.infos ≡ next_infos p.infos r.infos.segs
  pub point_infos : r.point_infos ≡ r.infos
  pub readers : r.readers ≡ r.segs
  pub names : AreFilesOf r.infos r.names
  pub point_names : r.point_names ≡ r.names
  pub written : r.written ≡ names_of r.files
  -- the names of the new point and of the new infos, and the names that go: those of the former ones, and what is in hand
  pub twice : r.twice ≡ r.names ++ r.names
  pub gone : r.gone ≡ p.searchers.point.names ++ p.names ++ r.written

-- the new files are written and in hand, and those of the new infos are counted twice
pub record HasWritten {D : Type 0} (cells : D → Cells) (p : PrimaryParts D) (r : Ready) : Type 0 where
  pub ready : IsReady p r
  pub node : IsWholeNode (cells p.dir) p.files (r.twice ++ (r.written ++ primary_names p)) p.commits
  pub standing : IsStanding (reads_of (cells p.dir)) p.commits
  pub each : AllZip (IsSegmentIn (reads_of (cells p.dir))) r.infos.segs r.segs
  pub undrawn : AreUndrawn p.files r.infos (rest_loose p) (filled_of p)
  pub merging : AllByRecursion (IsMerging (reads_of (cells p.dir)) r.infos.segs r.segs) p.merges
  pub merges_apart : AreApartMerges p.merges
  pub newer : p.searchers.point.version.0 < r.infos.version.0
  pub waits : IfSome p.publish (λ f. f.count ≤ length p.waiting)
  pub completed : AreShortNames p.completed
