-- What the record of a new segment says, and what the parts of a segment are put together from.
use Rattle.std.proofs.Common.{◌≡◌, ℕ, ◌<◌, ◌↔◌, ◌==◌, Bool, true, false, cond, List, length, map, Some, IsSome, refl, sym, subst, ◌∙◌, arith}
use Rattle.std.proofs.lemmas.Bool.{eqb-true}
use Rattle.std.proofs.lemmas.List.{length-map}
use Rattle.nrt_base.specs.declared.doc.Doc.{Doc}
use Rattle.nrt_base.specs.declared.numbers.SegNo.{SegNo}
use Rattle.docs_plain.specs.Documents.{IsDocumentsFile}
use Rattle.postings_plain.specs.declared.format.Format.{Format}
use Rattle.postings_plain.specs.Postings.{Entry, format_for}
use Rattle.postings_plain.specs.Body.{in_format, IsPostingsFile, IsRowCount}
use Rattle.postings_plain.specs.Inverting.{AreEntriesOf}
use Rattle.seg_reader.specs.Given.{live_rows, IsLiveFile}
use Rattle.seg_reader.proofs.Given.{each_row_live}
use Rattle.segment_infos.specs.declared.infos.SegRecord.{SegRecord}
use Rattle.segment_infos.specs.SegmentInfo.{IsInfoFile}
use Rattle.seg_reader.specs.declared.parts.SegParts.{SegParts}
use Rattle.seg_reader.specs.Files.{record_id, info_of, AreLiveRowsOf}
use Rattle.seg_reader.specs.Sound.{term_row}
use Rattle.seg_build.specs.Built.{record_of, IsRecordOf, IsReadAs}
use Rattle.seg_build.proofs.EntryRows.{row_count_of}

-- ---- the record

is_none : (b : Bool) → ◌≡◌ {A = ℕ} (cond b 0 1) 0 → b ≡ true
is_none true e = refl
is_none false e = absurd (omega arith)

pub is_record_of : (seg : SegNo) (rows : List Bool) → IsRecordOf rows (record_of seg rows)
is_record_of seg rows = record { rows = refl; live_count = refl; all_live = λ e. each_row_live rows (eqb-true (live_rows rows) (length rows) (is_none (live_rows rows == length rows) e)) }

-- ---- the parts

pub read_as : (r : SegRecord) (parts : SegParts) (docs : List Doc) (rows : List Bool) (es : List Entry) (format : Format) → format ≡ format_for r.rows → 0 < length docs → length rows ≡ length docs → IsRecordOf rows r
    → IsDocumentsFile (record_id r) docs parts.docs → AreEntriesOf (map term_row docs) es → IsPostingsFile (record_id r) (in_format format es) parts.post → IsInfoFile (record_id r) (info_of format r) parts.info
    → IsSome parts.live ↔ (0 < r.live_gen) → AreLiveRowsOf parts.live r rows → IsReadAs r parts docs rows
read_as r parts docs rows es format told some same is d are p i given l =
    let count : length docs ≡ r.rows = omega (arith, is.rows) in
    let terms : length (map term_row docs) ≡ length docs = length-map docs term_row in
    let n : IsRowCount es (length (map term_row docs)) = row_count_of (map term_row docs) es (omega arith) are in
    record {
      entries = es;
      segment = record { docs = d; docs_rows = count; format = format; post = p; post_rows = subst (IsRowCount es) (terms ∙ count) n; info = i; live = l };
      format = told;
      sound = record { entries = are };
      live_file = given;
      live_count = sym is.live_count;
    }

-- the live rows of a segment whose record has a live generation: they are those of its live file
pub live_file_there : (r : SegRecord) (rows : List Bool) (id bytes : List ℕ) → id ≡ record_id r → IsRecordOf rows r → IsLiveFile id r.live_gen rows bytes → AreLiveRowsOf (Some bytes) r rows
live_file_there r rows id bytes e is file = (subst (λ (x : List ℕ). IsLiveFile x r.live_gen rows bytes) e file, sym is.rows, sym is.live_count)
