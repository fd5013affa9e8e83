use Rattle.std.proofs.Common.{Err, subst, sym}
use Rattle.segment_infos.proofs.Given.{err_of}
use Rattle.seg_reader.specs.Reading.{IsSegmentAnswer}
use Rattle.seg_reader.proofs.Answering.{refused, one_differs, all_agree, kept, answered}
use Rattle.seg_reader.proofs.segment.answer.Goals as goal

pub returns-in_err-contents : goal.returns-in_err-contents
returns-in_err-contents c =
    let e = c.in_err-contents.field-0.0 in
    subst (IsSegmentAnswer c.args.parts c.args.record.now) (sym (err_of c.from_residual.result e c.from_residual.ensures.1)) (refused c.args.parts c.args.record.now e c.in_err-contents.ensures)

pub returns-in_err-compare_numbers : goal.returns-in_err-compare_numbers
returns-in_err-compare_numbers c =
    let e = c.in_err-compare_numbers.field-0.0 in
    let a = one_differs c.args.parts c.args.record.now c.in_ok-contents.contents e c.in_ok-contents.ensures c.in_err-compare_numbers.ensures in
    subst (IsSegmentAnswer c.args.parts c.args.record.now) (sym (err_of c.from_residual-in_err-compare_numbers.result e c.from_residual-in_err-compare_numbers.ensures.1)) a

pub invariant_of-result : goal.invariant_of-result
invariant_of-result c =
    let e = all_agree c.args.record.now c.in_ok-contents.contents c.in_ok-compare_numbers.ensures in
    let own = kept c.args.parts c.args.record.now c.in_ok-contents.contents c.in_ok-live.live c.in_ok-contents.ensures e c.in_ok-live.ensures in
    (own.0, own.1, c.in_ok-places.ensures.rows, c.in_ok-places.ensures.order)

pub returns : goal.returns
returns c =
    let e = all_agree c.args.record.now c.in_ok-contents.contents c.in_ok-compare_numbers.ensures in
    answered c.args.parts c.args.record.now c.in_ok-contents.contents c.in_ok-live.live c.in_ok-contents.ensures e c.in_ok-live.ensures
