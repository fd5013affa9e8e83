use Rattle.std.proofs.Common.{◌-◌, refl, arith}
use Rattle.postings_plain.proofs.BlockWriting.{last_not_below, block_added}
use Rattle.postings_plain.proofs.encoding.push_block.Goals as goal

pub overflow_sub-end : goal.overflow_sub-end
overflow_sub-end c =
    let a = c.in_ok-end.ensures in
    omega (arith, last_not_below c.args.field c.args.least c.args.block.now c.in_ok-end.end c.requires.some c.requires.fit a.end_is)

pub push_skip-requires : goal.push_skip-requires
push_skip-requires c =
    let a = c.in_ok-end.ensures in
    omega (arith, a.below, last_not_below c.args.field c.args.least c.args.block.now c.in_ok-end.end c.requires.some c.requires.fit a.end_is)

pub returns : goal.returns
returns c =
    let a = c.in_ok-end.ensures in
    let t = c.in-Ok.ensures in
    block_added c.args.field c.args.least c.args.block.now c.args.area.now.items c.push_rows.new.out.items c.args.out.now.items c.push_skip.new.out.items c.in_ok-end.end (c.in_ok-end.end - 1) c.in-Ok.len c.requires.some c.requires.fit a refl
    (omega (arith, t.1, c.len.ensures, c.len-start.ensures)) (omega (arith, t.0, t.1)) c.in_ok-push_skip.ensures
