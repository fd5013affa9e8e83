-- What a segment is that was built: its record, its files, and what they show.
use Rattle.std.specs.Prelude.{◌≡◌, ℕ, ◌<◌, ◌==◌, ◌↔◌, List, [], ◌∷◌, length, replicate, Bool, true, Option, Some, None, IsSome, if◌then◌else◌}
use Rattle.file_names.specs.Names.{part_name_of, live_name_of}
use Rattle.nrt_base.specs.declared.doc.Doc.{Doc}
use Rattle.file_names.specs.declared.composed.SegPart.TheVariants.{Docs, Post, Info}
use Rattle.nrt_base.specs.declared.numbers.SegNo.{SegNo}
use Rattle.segment_infos.specs.Given.{HasSmallBody}
use Rattle.docs_plain.specs.Documents.{documents_wanted}
use Rattle.postings_plain.specs.Postings.{Entry, format_for}
use Rattle.postings_plain.specs.Body.{format_wanted}
use Rattle.seg_reader.specs.Given.{live_rows}
use Rattle.segment_infos.specs.declared.infos.SegRecord.{SegRecord}
use Rattle.seg_reader.specs.declared.parts.SegParts.{SegParts}
use Rattle.seg_reader.specs.Shown.{Shown}
use Rattle.seg_reader.specs.Files.{record_id, IsSegmentOf}
use Rattle.seg_reader.specs.Sound.{IsSound}

-- the live generation of a new segment: none where all rows are live, and else the first
abbrev pub first_live_gen : List Bool → ℕ
first_live_gen live = if live_rows live == length live then 0 else 1

-- the record that infos have of a new segment with these live rows
abbrev pub record_of : SegNo → List Bool → SegRecord
record_of seg live = record { seg = seg; rows = length live; live_gen = first_live_gen live; live = live_rows live }

-- the record says how many rows there are and how many of them are live; where it has no live file, all are
pub record IsRecordOf (live : List Bool) (r : SegRecord) : Type 0 where
  pub rows : r.rows ≡ length live
  pub live_count : r.live ≡ live_rows live
  pub all_live : r.live_gen ≡ 0 → live ≡ replicate r.rows true

-- a file: its name and its bytes
abbrev pub File : Type 0
File = List ℕ × List ℕ

-- the live file under its name, where there is one
abbrev pub live_file_of : SegRecord → Option (List ℕ) → List File
live_file_of r None = []
live_file_of r (Some bytes) = (live_name_of r.seg.0 r.live_gen, bytes) ∷ []

-- the files of a segment, each under its name
abbrev pub files_of : SegRecord → SegParts → List File
files_of r parts =
    (part_name_of r.seg.0 Docs, parts.docs) ∷ (part_name_of r.seg.0 Post, parts.post) ∷ (part_name_of r.seg.0 Info, parts.info) ∷ live_file_of r parts.live

-- a segment with these documents, these live rows and these postings
abbrev pub shown_as : List Doc → List Bool → List Entry → Shown
shown_as docs live entries = record { docs = docs; live = live; entries = entries }

-- The parts are those of a sound segment with these documents and these live rows: under the record they read so. The postings
-- are in the format for as many rows. There is a live file where the record has a live generation.
pub record IsReadAs (r : SegRecord) (parts : SegParts) (docs : List Doc) (live : List Bool) : Type 0 where
  pub entries : List Entry
  pub segment : IsSegmentOf parts r (shown_as docs live entries)
  pub format : segment.format ≡ format_for r.rows
  pub sound : IsSound (shown_as docs live entries)
  pub live_file : IsSome parts.live ↔ (0 < r.live_gen)
  pub live_count : live_rows live ≡ r.live

-- the bodies of documents and of postings have fewer than 2^32 bytes
pub record HaveSmallBodies (r : SegRecord) (parts : SegParts) : Type 0 where
  pub docs : HasSmallBody (documents_wanted (record_id r)) (record_id r) parts.docs
  pub post : HasSmallBody (format_wanted (format_for r.rows) (record_id r)) (record_id r) parts.post

-- The files are those of a new segment with these documents and these live rows: its parts under their names, which read so.
pub record IsBuilt (r : SegRecord) (files : List File) (docs : List Doc) (live : List Bool) : Type 0 where
  pub parts : SegParts
  pub named : files ≡ files_of r parts
  pub reads : IsReadAs r parts docs live
  pub small : HaveSmallBodies r parts

-- the files are those of the new segment of this number, with these live rows and these documents
abbrev pub IsNewSegment : SegNo → (live : List Bool) → (files : List File) → (docs : List Doc) → Type 0
IsNewSegment seg live files docs = IsBuilt (record_of seg live) files docs live
