use Rattle.std.proofs.Common.{refl, arith, sym}
use Rattle.body_forms.specs.Given.{Frame}
use Rattle.body_forms.proofs.FileLaws.{err_of, frame_lies, body_of, frame_told, body_told, value_told, body_fits}
use Rattle.segment_infos.proofs.InfoLaws.{info_spelled, none_spelled_in}
use Rattle.segment_infos.proofs.FileLaws.{info_kind}
use Rattle.segment_infos.proofs.info.read_info.Goals as goal

pub slice_bounds-info_of-count : goal.slice_bounds-info_of-count
slice_bounds-info_of-count c = (frame_lies c.frame_of.ensures c.in_ok-frame.frame c.in_ok-frame.was).ordered

pub slice_bounds-info_of-start : goal.slice_bounds-info_of-start
slice_bounds-info_of-start c = (frame_lies c.frame_of.ensures c.in_ok-frame.frame c.in_ok-frame.was).ordered

pub returns-in_err-frame : goal.returns-in_err-frame
returns-in_err-frame c =
    let from = c.from_residual.ensures in
    frame_told (info_kind c.args.id.now) c.frame_of.ensures c.in_err-frame.field-0.0 c.from_residual.result c.in_err-frame.was (err_of c.from_residual.result (Frame c.in_err-frame.field-0.0) from.1)

pub returns-in-Some : goal.returns-in-Some
returns-in-Some c =
    let e = c.in-Some.ensures in
    let s = info_spelled (body_of c.args.bytes.now c.in_ok-frame.frame) c.in-Some.info (body_fits c.args.bytes.now c.in_ok-frame.frame (λ i. omega (arith, c.type_inv.bytes i))) (sym e) in
    value_told (info_kind c.args.id.now) c.frame_of.ensures c.in_ok-frame.frame c.in-Some.info _ c.in_ok-frame.was s refl

pub returns-in-None : goal.returns-in-None
returns-in-None c =
    let e = c.in-None.ensures in
    body_told (info_kind c.args.id.now) c.frame_of.ensures c.in_ok-frame.frame _ c.in_ok-frame.was (none_spelled_in (body_of c.args.bytes.now c.in_ok-frame.frame) e) refl
