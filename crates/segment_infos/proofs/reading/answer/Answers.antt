use Rattle.std.proofs.Common.{refl}
use Rattle.body_forms.specs.Given.{Frame}
use Rattle.body_forms.proofs.FileLaws.{err_of, frame_lies}
use Rattle.body_forms.specs.declared.read_fault.ReadFault.TheVariants.{File}
use Rattle.segment_infos.proofs.FileLaws.{frame_is_refused, infos_are_read, another_id, same_id, other_id}
use Rattle.segment_infos.proofs.reading.answer.Goals as goal

pub slice_bounds-infos_of-count : goal.slice_bounds-infos_of-count
slice_bounds-infos_of-count c = (frame_lies c.frame_of.ensures c.in_ok-frame.frame c.in_ok-frame.was).ordered

pub slice_bounds-infos_of-start : goal.slice_bounds-infos_of-start
slice_bounds-infos_of-start c = (frame_lies c.frame_of.ensures c.in_ok-frame.frame c.in_ok-frame.was).ordered

pub returns-in_err-frame : goal.returns-in_err-frame
returns-in_err-frame c =
    let from = c.from_residual.ensures in
    frame_is_refused c.args.bytes.now c.frame_of.result c.in_err-frame.field-0.0 c.from_residual.result c.frame_of.ensures c.in_err-frame.was (err_of c.from_residual.result (File (Frame c.in_err-frame.field-0.0)) from.1)

pub returns-then-eq : goal.returns-then-eq
returns-then-eq c =
    let s = rw c.in-Some.is at c.in_ok-infos.ensures in
    infos_are_read c.args.bytes.now c.frame_of.result c.in_ok-frame.frame c.in-Some.infos _ c.frame_of.ensures c.in_ok-frame.was s (same_id _ _ _ c.eq.result c.eq.ensures c.if-eq.true c.id_of.ensures) refl

pub returns-else-eq : goal.returns-else-eq
returns-else-eq c =
    let s = rw c.in-Some.is at c.in_ok-infos.ensures in
    another_id c.args.bytes.now c.frame_of.result c.in_ok-frame.frame c.in-Some.infos _ c.frame_of.ensures c.in_ok-frame.was s (other_id _ _ _ c.eq.result c.eq.ensures c.if-eq.false c.id_of.ensures) refl
