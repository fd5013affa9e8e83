use Rattle.std.proofs.Common.{Ok, Err, subst, sym}
use Rattle.codec_frame.specs.declared.frame.FileFault.{FileFault}
use Rattle.seg_reader.specs.declared.parts.SegFault.{SegFault}
use Rattle.seg_reader.specs.Reading.{IsRead}
use Rattle.seg_reader.proofs.Files.{DocsAnswers, PostAnswers, InfoAnswers, docs_answers, post_answers, info_answers}
use Rattle.seg_reader.proofs.Contents.{docs_refused, post_refused, info_refused, live_refused, read_whole}
use Rattle.segment_infos.proofs.Given.{err_of}
use Rattle.seg_reader.proofs.reading.read_contents.Goals as goal

pub returns-in-Err : goal.returns-in-Err
returns-in-Err c =
    let d : DocsAnswers c.args.parts c.args.record.now (Err c.in-Err.fault) = docs_answers c.args.parts c.args.record.now c.segment_id-id.result (Err c.in-Err.fault) c.segment_id-id.ensures c.in-Err.ensures in
    docs_refused c.args.parts c.args.record.now c.in-Err.fault d

pub returns-in-Err-read_postings : goal.returns-in-Err-read_postings
returns-in-Err-read_postings c =
    let d : DocsAnswers c.args.parts c.args.record.now (Ok c.in-Ok.docs) = docs_answers c.args.parts c.args.record.now c.segment_id-id.result (Ok c.in-Ok.docs) c.segment_id-id.ensures c.in-Ok.ensures in
    let a = c.in-Err-read_postings in
    let p : PostAnswers c.args.parts c.args.record.now (Err a.fault) = post_answers c.args.parts c.args.record.now c.segment_id-id.result (Err a.fault) c.segment_id-id.ensures a.ensures in
    post_refused c.args.parts c.args.record.now c.in-Ok.docs a.fault d p

pub returns-in-Err-read_info : goal.returns-in-Err-read_info
returns-in-Err-read_info c =
    let d : DocsAnswers c.args.parts c.args.record.now (Ok c.in-Ok.docs) = docs_answers c.args.parts c.args.record.now c.segment_id-id.result (Ok c.in-Ok.docs) c.segment_id-id.ensures c.in-Ok.ensures in
    let b = c.in-Ok-read_postings in
    let p : PostAnswers c.args.parts c.args.record.now (Ok b.post) = post_answers c.args.parts c.args.record.now c.segment_id-id.result (Ok b.post) c.segment_id-id.ensures b.ensures in
    let a = c.in-Err-read_info in
    let i : InfoAnswers c.args.parts c.args.record.now (Err a.fault) = info_answers c.args.parts c.args.record.now c.segment_id-id.result c.as_slice.result.now (Err a.fault) c.segment_id-id.ensures c.as_slice.ensures a.ensures in
    info_refused c.args.parts c.args.record.now c.in-Ok.docs b.post a.fault d p i

pub returns-in_err-live : goal.returns-in_err-live
returns-in_err-live c =
    let d : DocsAnswers c.args.parts c.args.record.now (Ok c.in-Ok.docs) = docs_answers c.args.parts c.args.record.now c.segment_id-id.result (Ok c.in-Ok.docs) c.segment_id-id.ensures c.in-Ok.ensures in
    let b = c.in-Ok-read_postings in
    let p : PostAnswers c.args.parts c.args.record.now (Ok b.post) = post_answers c.args.parts c.args.record.now c.segment_id-id.result (Ok b.post) c.segment_id-id.ensures b.ensures in
    let a = c.in-Ok-read_info in
    let i : InfoAnswers c.args.parts c.args.record.now (Ok a.info) = info_answers c.args.parts c.args.record.now c.segment_id-id.result c.as_slice.result.now (Ok a.info) c.segment_id-id.ensures c.as_slice.ensures a.ensures in
    let e = c.in_err-live.field-0.0 in
    let l = live_refused c.args.parts c.args.record.now c.in-Ok.docs b.post a.info e d p i c.in_err-live.ensures in
    subst (IsRead c.args.parts c.args.record.now) (sym (err_of c.from_residual.result e c.from_residual.ensures.1)) l

pub returns : goal.returns
returns c =
    let d : DocsAnswers c.args.parts c.args.record.now (Ok c.in-Ok.docs) = docs_answers c.args.parts c.args.record.now c.segment_id-id.result (Ok c.in-Ok.docs) c.segment_id-id.ensures c.in-Ok.ensures in
    let b = c.in-Ok-read_postings in
    let p : PostAnswers c.args.parts c.args.record.now (Ok b.post) = post_answers c.args.parts c.args.record.now c.segment_id-id.result (Ok b.post) c.segment_id-id.ensures b.ensures in
    let a = c.in-Ok-read_info in
    let i : InfoAnswers c.args.parts c.args.record.now (Ok a.info) = info_answers c.args.parts c.args.record.now c.segment_id-id.result c.as_slice.result.now (Ok a.info) c.segment_id-id.ensures c.as_slice.ensures a.ensures in
    read_whole c.args.parts c.args.record.now c.in-Ok.docs b.post c.rows-post_rows.result a.info c.in_ok-live.live d p c.rows-post_rows.ensures i c.in_ok-live.ensures
