-- The files of a segment: its id, and what they say where each is in its grammar.
use Rattle.std.specs.Prelude.{◌≡◌, ℕ, List, ◌++◌, length, replicate, Bool, true, Option, Some, None}
use Rattle.nrt_base.specs.SegNumbers.{segment_generation, segment_place}
use Rattle.segment_infos.specs.Given.{u64_bytes}
use Rattle.docs_plain.specs.Documents.{IsDocumentsFile}
use Rattle.postings_plain.specs.declared.format.Format.{Format}
use Rattle.postings_plain.specs.Postings.{format_number}
use Rattle.postings_plain.specs.Body.{in_format, IsPostingsFile, IsRowCount}
use Rattle.live_bits.specs.LiveRows.{live_rows, IsLiveFile}
use Rattle.segment_infos.specs.declared.info.SegInfo.{SegInfo}
use Rattle.segment_infos.specs.declared.infos.SegRecord.{SegRecord}
use Rattle.segment_infos.specs.SegmentInfo.{IsInfoFile}
use Rattle.seg_reader.specs.declared.parts.SegParts.{SegParts}
use Rattle.seg_reader.specs.Shown.{Shown}

-- the id of a segment: its generation and its place there, eight bytes each
abbrev pub segment_id : ℕ → List ℕ
segment_id seg = u64_bytes (segment_generation seg) ++ u64_bytes (segment_place seg)

-- the id of the segment of a record
abbrev pub record_id : SegRecord → List ℕ
record_id r = segment_id r.seg.0

-- what the info file of a record's segment says, whose postings have this format
abbrev pub info_of : Format → SegRecord → SegInfo
info_of format r = record { seg = r.seg; rows = r.rows; format = format_number format }

-- the live rows are those of the live file, which has as many rows and live rows as the record; without one all rows are live
abbrev pub AreLiveRowsOf : Option (List ℕ) → SegRecord → List Bool → Type 0
AreLiveRowsOf None r live = live ≡ replicate r.rows true
AreLiveRowsOf (Some bytes) r live = IsLiveFile (record_id r) r.live_gen live bytes × (length live ≡ r.rows) × (live_rows live ≡ r.live)

-- each file is that of its part of what is shown, the numbers in it are the record's, and the postings have the info's format
pub record IsSegmentOf (parts : SegParts) (r : SegRecord) (shown : Shown) : Type 0 where
  pub docs : IsDocumentsFile (record_id r) shown.docs parts.docs
  pub docs_rows : length shown.docs ≡ r.rows
  pub format : Format
  pub post : IsPostingsFile (record_id r) (in_format format shown.entries) parts.post
  pub post_rows : IsRowCount shown.entries r.rows
  pub info : IsInfoFile (record_id r) (info_of format r) parts.info
  pub live : AreLiveRowsOf parts.live r shown.live
