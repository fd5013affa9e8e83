use Rattle.std.proofs.Common.{arith}
use Rattle.trans_log.proofs.FileLaws.{adds_record}
use Rattle.trans_log.proofs.record.push_body.Goals as goal

pub returns : goal.returns
returns c =
    let e1 = c.in_ok-push_u64.ensures in
    let e2 = c.in_ok-push_u32.ensures in
    let e3 = c.in_ok-push_op.ensures in
    adds_record c.args.out.now.items c.push_u64.new.out.items c.push_u32.new.out.items c.push_op.new.out.items c.args.entry.now (omega arith) (omega arith) e3.fits e1.ok e2.ok e3.bytes
