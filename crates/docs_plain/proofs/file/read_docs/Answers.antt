use Rattle.std.proofs.Common.{refl}
use Rattle.body_forms.specs.Given.{Frame}
use Rattle.docs_plain.specs.Rows.{docs_in}
use Rattle.body_forms.proofs.FileLaws.{err_of, frame_lies, body_of, frame_told, value_told}
use Rattle.docs_plain.proofs.FileLaws.{documents_kind, own_docs}
use Rattle.docs_plain.proofs.file.read_docs.Goals as goal

pub slice_bounds-is_documents-count : goal.slice_bounds-is_documents-count
slice_bounds-is_documents-count c = (frame_lies c.frame_of.ensures c.in_ok-frame.frame c.in_ok-frame.was).ordered

pub slice_bounds-is_documents-start : goal.slice_bounds-is_documents-start
slice_bounds-is_documents-start c = (frame_lies c.frame_of.ensures c.in_ok-frame.frame c.in_ok-frame.was).ordered

pub returns-in_err-frame : goal.returns-in_err-frame
returns-in_err-frame c =
    let from = c.from_residual.ensures in
    frame_told (documents_kind c.args.id.now) c.frame_of.ensures c.in_err-frame.field-0.0 c.from_residual.result c.in_err-frame.was (err_of c.from_residual.result (Frame c.in_err-frame.field-0.0) from.1)

pub invariant_of-result : goal.invariant_of-result
invariant_of-result c =
    let lies = frame_lies c.frame_of.ensures c.in_ok-frame.frame c.in_ok-frame.was in
    (lies.ordered, lies.within, own_docs c.as_slice.result.now c.args.bytes c.in_ok-frame.frame c.as_slice.ensures (c.is_documents.ensures.0 c.if-not-is_documents.false))

pub returns : goal.returns
returns c =
    let s = own_docs c.as_slice.result.now c.args.bytes c.in_ok-frame.frame c.as_slice.ensures (c.is_documents.ensures.0 c.if-not-is_documents.false) in
    value_told (documents_kind c.args.id.now) c.frame_of.ensures c.in_ok-frame.frame (docs_in (body_of c.args.bytes c.in_ok-frame.frame)) _ c.in_ok-frame.was s refl
