use Rattle.std.proofs.Common.{arith}
use Rattle.segment_infos.proofs.InfoLaws.{adds_info, spells_written}
use Rattle.segment_infos.proofs.info.push_body.Goals as goal

pub returns-clause-body : goal.returns-clause-body
returns-clause-body c =
    let e = c.in_ok-push_u64.ensures in
    let f = c.in_ok-push_u32.ensures in
    let g = c.in_ok-push.ensures in
    adds_info c.args.out.now.items c.push_u64.new.out.items c.push_u32.new.out.items c.push.new.self.items c.args.info.now e.ok f.ok g.items

pub returns-clause-spelled : goal.returns-clause-spelled
returns-clause-spelled c = spells_written c.args.info.now c.requires (omega arith) (omega arith)
