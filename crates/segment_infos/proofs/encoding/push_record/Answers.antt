use Rattle.std.proofs.Common.{arith}
use Rattle.segment_infos.proofs.WritingLaws.{adds_record}
use Rattle.segment_infos.proofs.encoding.push_record.Goals as goal

pub returns-clause-bytes : goal.returns-clause-bytes
returns-clause-bytes c =
    let e1 = c.in_ok-push_u64.ensures in
    let e2 = c.in_ok-push_u32.ensures in
    let e3 = c.in_ok-push_u64-2.ensures in
    let e4 = c.in_ok-push_u32-2.ensures in
    adds_record c.args.out.now.items c.push_u64.new.out.items c.push_u32.new.out.items c.push_u64-2.new.out.items c.push_u32-2.new.out.items c.args.segment.now e1.ok e2.ok e3.ok e4.ok

pub returns-clause-fits : goal.returns-clause-fits
returns-clause-fits c = record { seg = omega arith; rows = omega arith; live_gen = omega arith; live = omega arith }
