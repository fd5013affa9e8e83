use Rattle.std.proofs.Common.{List, length, Ok, Err, refl, sym, ap, subst, ◌∙◌}
use Rattle.std.specs.List.{All, AllZip}
use Rattle.disk_model.specs.Disk.{reads_of}
use Rattle.body_forms.proofs.FileLaws.{err_of}
use Rattle.segment_infos.specs.Infos.{IsRecord}
use Rattle.segment_infos.specs.declared.infos.SegRecord.{SegRecord}
use Rattle.seg_reader.specs.Shown.{Shown}
use Rattle.seg_reader.specs.Stands.{StandsFor}
use Rattle.index_check.specs.Answers.{IsExact}
use Rattle.index_check.specs.Segments.{IsRightSegment, IsFirstWrong}
use Rattle.index_check.specs.Rows.{rows_of_segments}
use Rattle.index_check.specs.Checked.{IsWrong}
use Rattle.index_check.proofs.DocumentsRead.{as_many, no_segments, documents_answered}
use Rattle.index_check.proofs.standing.read_documents.Goals as goal

pub read_segments-requires : goal.read_segments-requires
read_segments-requires g c = subst (λ (rs : List SegRecord). All IsRecord rs) (sym c.as_slice-records.ensures) c.requires.records

pub live_rows-requires : goal.live_rows-requires
live_rows-requires g c =
    let reads = reads_of (g.D.Dir.cells c.args.dir.now) in
    ap length c.as_slice.ensures ∙ as_many reads c.as_slice-records.result.now c.in_ok-segments.segments (c.in_ok-segments.ensures.exact.value c.in_ok-segments.segments refl)

pub returns-in_err-segments-clause-exact : goal.returns-in_err-segments-clause-exact
returns-in_err-segments-clause-exact g c =
    let reads = reads_of (g.D.Dir.cells c.args.dir.now) in
    let e = c.in_err-segments.field-0.0 in
    subst (IsExact (StandsFor reads c.args.infos.now) (IsWrong reads c.args.infos.now)) (sym (err_of c.from_residual.result e c.from_residual.ensures.1))
    (no_segments reads c.args.infos.now e (subst (λ (rs : List SegRecord). IsExact {X = List Shown} (AllZip (IsRightSegment reads) rs) (IsFirstWrong reads rs) (Err e)) c.as_slice-records.ensures c.in_err-segments.ensures.exact))

pub returns-clause-exact : goal.returns-clause-exact
returns-clause-exact g c =
    let reads = reads_of (g.D.Dir.cells c.args.dir.now) in
    let segs = c.in_ok-segments.segments in
    documents_answered reads c.args.infos.now segs (subst (λ (rs : List SegRecord). IsExact {X = List Shown} (AllZip (IsRightSegment reads) rs) (IsFirstWrong reads rs) (Ok segs)) c.as_slice-records.ensures c.in_ok-segments.ensures.exact)
    c.in_ok-rows.rows.items c.documents_in.result
    (c.in_ok-rows.ensures ∙ ap (λ (rs : List SegRecord). rows_of_segments rs c.as_slice.result.now) c.as_slice-records.ensures ∙ ap (rows_of_segments c.args.infos.now.segs) c.as_slice.ensures)
    c.documents_in.ensures.docs c.documents_in.ensures.fault
