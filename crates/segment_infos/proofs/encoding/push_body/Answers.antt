use Rattle.std.proofs.Common.{refl, arith, length}
use Rattle.segment_infos.proofs.WritingLaws.{records_start, records_next, adds_body}
use Rattle.segment_infos.proofs.encoding.push_body.Goals as goal

pub loop-segment-init : goal.loop-segment-init
loop-segment-init c = records_start c.push_u32-2.new.out.items c.as_slice-segs.result.now

pub loop-segment-preserved : goal.loop-segment-preserved
loop-segment-preserved c =
    let e = c.in_ok-push_record.ensures in
    records_next c.push_u32-2.new.out.items c.as_slice-segs.result.now c.loop-segment.segment-index c.loop-segment.out.items
    _ _ c.push_record.new.out.items c.loop-segment-test.true refl e.fits c.loop-segment.invariant e.bytes

pub returns : goal.returns
returns c =
    let e1 = c.in_ok-push_u64.ensures in
    let e2 = c.in_ok-push_u64-2.ensures in
    let e3 = c.in_ok-push_u32.ensures in
    let e4 = c.in_ok-push_u32-2.ensures in
    let e6 = c.in_ok-push_user_data.ensures in
    let a = adds_body c.args.out.now.items c.push_u64.new.out.items c.push_u64-2.new.out.items c.push_u32.new.out.items c.push_u32-2.new.out.items c.loop-segment.out.items c.push_user_data.new.out.items
    c.args.infos.now c.as_slice-segs.result.now c.loop-segment.segment-index (length c.as_slice-segs.result.now) c.requires c.as_slice-segs.ensures refl
    (omega arith) (omega arith) (omega arith) e1.ok e2.ok e3.ok e4.ok c.loop-segment-test.false c.loop-segment.invariant e6 in
    record { body = a.whole; spelled = a.spelled }
