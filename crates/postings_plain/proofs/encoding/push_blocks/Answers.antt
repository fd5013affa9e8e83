use Rattle.std.proofs.Common.{◌≡◌, ◌+◌, ◌-◌, ◌++◌, ℕ, List, ap, subst, ◌∙◌, arith}
use Rattle.postings_plain.proofs.BlockWriting.{BlocksWritten, BlockNext, cut_at, blocks_unwritten, block_next, block_written, blocks_added}
use Rattle.postings_plain.proofs.encoding.push_blocks.Goals as goal

pub loop-init : goal.loop-init
loop-init c =
    let all : c.args.blocks - 0 ≡ c.args.blocks = omega arith in
    blocks_unwritten c.args.field c.args.blocks (c.args.blocks - 0) c.args.rows.now c.args.out.now.items c.new-area.result.items all c.new-area.ensures.items c.requires.fit c.requires.many

next : (c : goal.After-push_block-arg-1) → BlockNext c.args.field c.loop.least c.loop.left.now c.split_at.result.0.now c.split_at.result.1.now
next c =
    let cut = cut_at c.loop.left.now c.min.result c.min.ensures in
    block_next c.args.field c.args.blocks c.args.rows.now c.args.out.now.items (c.args.blocks - c.loop.counter) c.loop.left.now c.loop.least c.loop.area.items c.loop.out.items c.split_at.result.0.now c.split_at.result.1.now
    c.loop.invariant (omega (arith, c.loop-test.true)) (c.split_at.ensures.front ∙ cut.0) (c.split_at.ensures.back ∙ cut.1)

pub push_block-requires-clause-some : goal.push_block-requires-clause-some
push_block-requires-clause-some c = (next c).some

pub push_block-requires-clause-fit : goal.push_block-requires-clause-fit
push_block-requires-clause-fit c = (next c).fit

pub push_block-requires-clause-below : goal.push_block-requires-clause-below
push_block-requires-clause-below c = c.loop.invariant.below

pub loop-preserved : goal.loop-preserved
loop-preserved c =
    let cut = cut_at c.loop.left.now c.min.result c.min.ensures in
    let n = block_next c.args.field c.args.blocks c.args.rows.now c.args.out.now.items (c.args.blocks - c.loop.counter) c.loop.left.now c.loop.least c.loop.area.items c.loop.out.items c.split_at.result.0.now c.split_at.result.1.now
    c.loop.invariant (omega (arith, c.loop-test.true)) (c.split_at.ensures.front ∙ cut.0) (c.split_at.ensures.back ∙ cut.1) in
    let fewer : c.args.blocks - c.loop.counter - 1 ≡ c.args.blocks - (c.loop.counter + 1) = omega arith in
    subst (λ (k : ℕ). BlocksWritten c.args.field c.args.blocks c.args.rows.now c.args.out.now.items k c.split_at.result.1.now c.in_ok-end.end c.push_block.new.area.items c.push_block.new.out.items) fewer
    (block_written c.args.field c.args.blocks c.args.rows.now c.args.out.now.items (c.args.blocks - c.loop.counter) c.loop.left.now c.loop.least c.loop.area.items c.loop.out.items c.split_at.result.0.now c.split_at.result.1.now
    c.push_block.new.area.items c.push_block.new.out.items c.in_ok-end.end c.loop.invariant (omega (arith, c.loop-test.true)) n c.in_ok-end.ensures)

pub push_rows-requires-clause-fit : goal.push_rows-requires-clause-fit
push_rows-requires-clause-fit c = c.loop.invariant.fit

pub push_rows-requires-clause-below : goal.push_rows-requires-clause-below
push_rows-requires-clause-below c = c.loop.invariant.below

pub returns : goal.returns
returns c =
    let e = c.in_ok-extend_from_slice.ensures in
    let a = c.in_ok-push_rows.ensures in
    blocks_added c.args.field c.args.blocks c.args.rows.now c.args.out.now.items (c.args.blocks - c.loop.counter) c.loop.left.now c.loop.least c.loop.area.items c.loop.out.items c.extend_from_slice.new.self.items c.push_rows.new.out.items _
    c.loop.invariant (omega (arith, c.loop-test.false)) (e.items ∙ ap (λ (x : List ℕ). c.loop.out.items ++ x) c.deref.ensures.value) a
