use Rattle.segment_infos.proofs.RecordLaws.{taken_start, taken_next, taken_no_more, taken_all}
use Rattle.segment_infos.proofs.reading.take_records.Goals as goal

pub loop-init : goal.loop-init
loop-init c = taken_start c.args.count c.args.bytes.now c.args.records.now.items c.requires

pub loop-preserved : goal.loop-preserved
loop-preserved c =
    let e = c.in-Some.ensures in
    let p = c.in_ok-push.ensures in
    taken_next c.args.count c.args.bytes.now c.loop.counter c.loop.records.items c.loop.rest.now c.in-Some.record c.in-Some.after.now c.push.new.self.items c.loop-test.true e p.items c.loop.invariant

pub returns-in_default : goal.returns-in_default
returns-in_default c =
    let e = c.in_default.ensures in
    taken_no_more c.args.count c.args.bytes.now c.loop.counter c.loop.records.items c.loop.rest.now c.loop-test.true e c.loop.invariant

pub returns : goal.returns
returns c = taken_all c.args.count c.args.bytes.now c.loop.counter c.loop.records.items c.loop.rest.now c.loop-test.false c.loop.invariant
