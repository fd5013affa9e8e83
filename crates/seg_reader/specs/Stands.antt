-- What it is for a directory to stand for documents.
use Rattle.std.specs.Prelude.{◌≡◌, ◌≢◌, ℕ, ◌<◌, List, Option, Some, None}
use Rattle.std.specs.List.{All, AllZip, AllPairs}
use Rattle.disk_model.specs.Given.{part_name_of, live_name_of, Docs, Post, Info}
use Rattle.nrt_base.specs.declared.doc.Doc.{Doc}
use Rattle.disk_model.specs.Disk.{Name, Content}
use Rattle.live_bits.specs.LiveRows.{live_rows}
use Rattle.segment_infos.specs.declared.infos.SegRecord.{SegRecord}
use Rattle.segment_infos.specs.declared.infos.Infos.{Infos}
use Rattle.seg_reader.specs.declared.parts.SegParts.{SegParts}
use Rattle.seg_reader.specs.Shown.{Shown, live_documents, AreLiveDocuments}
use Rattle.seg_reader.specs.Files.{IsSegmentOf}
use Rattle.seg_reader.specs.Sound.{IsSound}

-- a record has a live file exactly where its live generation is above 0, and it reads so
abbrev pub IsLiveFileIn : (Name → Content) → SegRecord → Option (List ℕ) → Type 0
IsLiveFileIn reads r None = r.live_gen ≡ 0
IsLiveFileIn reads r (Some bytes) = (0 < r.live_gen) × (reads (live_name_of r.seg.0 r.live_gen) ≡ Some bytes)

-- the parts are what reads under the names of the segment's files
pub record ArePartsIn (reads : Name → Content) (r : SegRecord) (parts : SegParts) : Type 0 where
  pub docs : reads (part_name_of r.seg.0 Docs) ≡ Some parts.docs
  pub post : reads (part_name_of r.seg.0 Post) ≡ Some parts.post
  pub info : reads (part_name_of r.seg.0 Info) ≡ Some parts.info
  pub live : IsLiveFileIn reads r parts.live

-- the segment's files are in the directory and show this, and as many rows are live as its record says
pub record IsSegmentIn (reads : Name → Content) (r : SegRecord) (shown : Shown) : Type 0 where
  pub parts : SegParts
  pub files : ArePartsIn reads r parts
  pub segment : IsSegmentOf parts r shown
  pub live : live_rows shown.live ≡ r.live

-- The segments are of these documents: each is sound, no two live rows have one key, and the live rows in order of key are the
-- documents.
pub record AreSegmentsOf (docs : List Doc) (segs : List Shown) : Type 0 where
  pub sound : All IsSound segs
  pub apart : AllPairs (λ d e. d.key ≢ e.key) (live_documents segs)
  pub documents : AreLiveDocuments segs docs

-- Where files read so, the infos are of these segments, which are of these documents: each segment of the infos is there.
pub record StandsWith (reads : Name → Content) (infos : Infos) (segs : List Shown) (docs : List Doc) : Type 0 where
  pub each : AllZip (IsSegmentIn reads) infos.segs segs
  pub stand : AreSegmentsOf docs segs

-- where files read so, the infos are of these documents, by some segments
pub record StandsFor (reads : Name → Content) (infos : Infos) (docs : List Doc) : Type 0 where
  pub segs : List Shown
  pub stands : StandsWith reads infos segs docs
