-- Rows have one list of entries, and so one file of postings.
use Rattle.std.proofs.Common.{◌≡◌, ◌↔◌, ℕ, ◌+◌, List, [], map, Ok, Err, sym, ap, subst, arith}
use Rattle.std.specs.List.{AllPairs}
use Rattle.std.specs.List.Sorted.{IsStrictlySortedBy}
use Rattle.std.specs.Cmp.{IsTotalOrder}
use Rattle.std.specs.declared.cmp.Ordering.{Ordering}
use Rattle.std.proofs.lemmas.Cmp.{nat_list_cmp_total, on_total}
use Rattle.std.proofs.lemmas.Map.Keys.{sorted_from_all_adjacent}
use Rattle.nrt_base.proofs.Plain.{ok_never_err, same_ok}
use Rattle.codec_frame.specs.declared.frame.FileFault.{FileFault}
use Rattle.body_forms.specs.File.{IsFileRead}
use Rattle.segment_infos.specs.declared.info.SegInfo.{SegInfo}
use Rattle.segment_infos.specs.declared.infos.SegRecord.{SegRecord}
use Rattle.segment_infos.specs.SegmentInfo.{SpellsSegmentInfo, info_wanted, IsInfoFile}
use Rattle.seg_reader.specs.declared.parts.SegParts.{SegParts}
use Rattle.seg_reader.specs.Files.{record_id, info_of, IsSegmentOf}
use Rattle.body_forms.proofs.FileLaws.{one_value_of, one_file_of}
use Rattle.postings_plain.specs.declared.row.TermRow.{TermRow}
use Rattle.postings_plain.specs.declared.format.Format.{Format}
use Rattle.postings_plain.specs.Postings.{Entry, format_number}
use Rattle.postings_plain.specs.Body.{heading_of, heading_order, IsBefore, in_format, IsPostingsFile}
use Rattle.postings_plain.specs.Inverting.{AreEntriesOf, IsPostingsFileOf}
use Rattle.postings_plain.proofs.FileLaws.{postings_kind}
use Rattle.segment_infos.proofs.SortedLists.{one_sorted_list}
use Rattle.seg_reader.specs.Shown.{Shown}
use Rattle.seg_reader.specs.Sound.{term_row, IsSound}

abbrev by_heading : Entry → Entry → Ordering
by_heading e f = heading_order (heading_of e) (heading_of f)

total_by_heading : IsTotalOrder by_heading
total_by_heading = on_total heading_of nat_list_cmp_total

ascending : (es : List Entry) → AllPairs IsBefore es → IsStrictlySortedBy by_heading es
ascending es ascend = sorted_from_all_adjacent total_by_heading es no_entry (λ k lt. ascend k (k + 1) no_entry (omega arith) lt)
  where
    no_entry : Entry
    no_entry = (0, ([], []))

one_list_of_entries : (rows : List TermRow) (es fs : List Entry) → AreEntriesOf rows es → AreEntriesOf rows fs → AllPairs IsBefore es → AllPairs IsBefore fs → es ≡ fs
one_list_of_entries rows es fs a b up also =
    one_sorted_list Entry by_heading total_by_heading es fs (ascending es up) (ascending fs also) (λ z. (
      λ here. (b z.0 z.1.0 z.1.1).1 ((a z.0 z.1.0 z.1.1).0 here),
      λ there. (a z.0 z.1.0 z.1.1).1 ((b z.0 z.1.0 z.1.1).0 there),
    ))

-- a segment is sound exactly where its file of postings is that of the terms of its rows
pub sound_by_file : (id : List ℕ) (format : Format) (shown : Shown) (rows : List TermRow) (post file : List ℕ) → rows ≡ map term_row shown.docs → IsPostingsFile id (in_format format shown.entries) post
    → IsPostingsFileOf format id rows file → (file ≡ post) ↔ IsSound shown
sound_by_file id format shown rows post file same is made = (
  λ e.
      let one : shown.entries ≡ made.0 = one_value_of (postings_kind format id) post shown.entries made.0 is (subst (IsPostingsFile id (in_format format made.0)) e made.2) in
      record { entries = subst (λ (rs : List TermRow). AreEntriesOf rs shown.entries) same (subst (AreEntriesOf rows) (sym one) made.1) },
  λ sound.
      let own : AreEntriesOf rows shown.entries = subst (λ (rs : List TermRow). AreEntriesOf rs shown.entries) (sym same) sound.entries in
      let one : made.0 ≡ shown.entries = one_list_of_entries rows made.0 shown.entries made.1 own made.2.spelled.ascend is.spelled.ascend in
      one_file_of (postings_kind format id) file post shown.entries (subst (λ (es : List Entry). IsPostingsFile id (in_format format es) file) one made.2) is,
)

-- the format that an info file tells
pub format_told : (r : SegRecord) (id bytes : List ℕ) (info : SegInfo) (chosen : Format) → id ≡ record_id r → IsFileRead SpellsSegmentInfo (info_wanted id) id bytes (Ok info)
    → ((format : Format) → info.format ≡ format_number format → chosen ≡ format) → (format : Format) → IsInfoFile (record_id r) (info_of format r) bytes → chosen ≡ format
format_told r id bytes info chosen same read by format is =
    let here : IsInfoFile id (info_of format r) bytes = subst (λ (i : List ℕ). IsInfoFile i (info_of format r) bytes) (sym same) is in
    by format (ap (λ (x : SegInfo). x.format) (same_ok info (info_of format r) ((read.value (info_of format r)).1 here)))

pub never_told : (r : SegRecord) (id bytes : List ℕ) (fault : FileFault) (chosen : Format) → id ≡ record_id r → IsFileRead SpellsSegmentInfo (info_wanted id) id bytes (Err fault)
    → (format : Format) → IsInfoFile (record_id r) (info_of format r) bytes → chosen ≡ format
never_told r id bytes fault chosen same read format is =
    let here : IsInfoFile id (info_of format r) bytes = subst (λ (i : List ℕ). IsInfoFile i (info_of format r) bytes) (sym same) is in
    absurd (ok_never_err (info_of format r) fault (sym ((read.value (info_of format r)).1 here)))

-- the postings of a segment are in the format that its info file tells
pub own_postings : (parts : SegParts) (r : SegRecord) (shown : Shown) (chosen : Format) (post info : List ℕ) → IsSegmentOf parts r shown → post ≡ parts.post → info ≡ parts.info
    → ((format : Format) → IsInfoFile (record_id r) (info_of format r) info → chosen ≡ format) → IsPostingsFile (record_id r) (in_format chosen shown.entries) post
own_postings parts r shown chosen post info is same_post same_info told =
    let one : chosen ≡ is.format = told is.format (subst (IsInfoFile (record_id r) (info_of is.format r)) (sym same_info) is.info) in
    subst (IsPostingsFile (record_id r) (in_format chosen shown.entries)) (sym same_post) (subst (λ (f : Format). IsPostingsFile (record_id r) (in_format f shown.entries) parts.post) (sym one) is.post)
