use Rattle.std.proofs.Common.{refl}
use Rattle.index_check.proofs.Taking.{taken_start, taken_next, taken_no_more, taken_all}
use Rattle.index_check.proofs.reading.take_files.Goals as goal

pub loop-init : goal.loop-init
loop-init c = taken_start c.args.count c.args.bytes.now _ c.args.files.now.items refl c.requires

pub loop-preserved : goal.loop-preserved
loop-preserved c =
    let e = c.in-Some.ensures in
    let b = c.in_ok-copy_from_slice.ensures in
    let p = c.in_ok-push.ensures in
    taken_next c.args.count c.args.bytes.now c.loop.counter c.loop.before c.loop.files.items c.loop.rest.now _ _ c.in_ok-copy_from_slice.field-0 _ c.push.new.self.items c.loop-test.true e b p.items c.loop.invariant

pub returns-in_default : goal.returns-in_default
returns-in_default c =
    let e = c.in_default.ensures in
    taken_no_more c.args.count c.args.bytes.now c.loop.counter c.loop.before c.loop.files.items c.loop.rest.now c.loop-test.true e c.loop.invariant

pub returns : goal.returns
returns c = taken_all c.args.count c.args.bytes.now c.loop.counter c.loop.before c.loop.files.items c.loop.rest.now c.loop-test.false c.loop.invariant
