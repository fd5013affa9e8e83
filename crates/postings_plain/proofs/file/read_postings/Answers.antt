use Rattle.std.proofs.Common.{refl}
use Rattle.codec_frame.specs.declared.frame.FileFault.TheVariants.{Frame}
use Rattle.body_forms.proofs.FileLaws.{err_of, frame_lies, body_of}
use Rattle.postings_plain.specs.Body.{in_format}
use Rattle.postings_plain.specs.Reading.{entries_in}
use Rattle.postings_plain.proofs.FileLaws.{own_entries, no_entries, frame_told, body_told, value_told, version_is}
use Rattle.postings_plain.proofs.file.read_postings.Goals as goal

pub slice_bounds-row_count-count : goal.slice_bounds-row_count-count
slice_bounds-row_count-count c = (frame_lies c.frame_of.ensures c.in_ok-frame.frame c.in_ok-frame.was).ordered

pub slice_bounds-row_count-start : goal.slice_bounds-row_count-start
slice_bounds-row_count-start c = (frame_lies c.frame_of.ensures c.in_ok-frame.frame c.in_ok-frame.was).ordered

pub returns-in_err-frame : goal.returns-in_err-frame
returns-in_err-frame c =
    let from = c.from_residual.ensures in
    frame_told c.frame_of.ensures c.in_err-frame.field-0.0 c.from_residual.result c.in_err-frame.was (err_of c.from_residual.result (Frame c.in_err-frame.field-0.0) from.1)

pub invariant_of-result : goal.invariant_of-result
invariant_of-result c =
    let lies = frame_lies c.frame_of.ensures c.in_ok-frame.frame c.in_ok-frame.was in
    let x = c.in-Some.ensures in
    let s = own_entries c.of_version-format.result c.as_slice.result.now c.args.bytes c.in_ok-frame.frame c.in-Some.rows c.as_slice.ensures x in
    (lies.ordered, lies.within, s.spelled, s.rows)

pub returns-in-Some : goal.returns-in-Some
returns-in-Some c =
    let x = c.in-Some.ensures in
    let format = c.of_version-format.result in
    let frame = c.in_ok-frame.frame in
    let s = own_entries format c.as_slice.result.now c.args.bytes frame c.in-Some.rows c.as_slice.ensures x in
    let version = version_is c.frame_of.ensures frame format c.in_ok-frame.was c.of_version-format.ensures in
    value_told c.frame_of.ensures frame (in_format format (entries_in format (body_of c.args.bytes frame))) _ c.in_ok-frame.was (record { version = version; spelled = s.spelled }) refl

pub returns-in-None : goal.returns-in-None
returns-in-None c =
    let never = c.in-None.ensures in
    let format = c.of_version-format.result in
    let frame = c.in_ok-frame.frame in
    let version = version_is c.frame_of.ensures frame format c.in_ok-frame.was c.of_version-format.ensures in
    body_told c.frame_of.ensures frame format _ c.in_ok-frame.was version (no_entries format c.as_slice.result.now c.args.bytes frame c.as_slice.ensures never) refl
