use Rattle.std.proofs.Common.{◌≡◌, ℕ, ◌+◌, ◌-◌, sym, ap, subst, ◌∙◌, arith}
use Rattle.postings_plain.specs.Postings.{block_rows}
use Rattle.postings_plain.specs.Reading.{counted_from_at, skips_at}
use Rattle.postings_plain.proofs.CountedHits.{HasPassedBlocks, blocks_start, no_entry_left, block_stops, block_differs, block_passed, blocks_done}
use Rattle.postings_plain.proofs.entries.skip_blocks.Goals as goal
use Rattle.postings_plain.proofs.entries.skip_blocks.Goals.{then-end-from-via-then-end-from, then-end-from-via-else-end-from+then-rest-after}

pub loop-init : goal.loop-init
loop-init c = λ list after e.
    let none : c.args.blocks - 0 ≡ c.args.blocks = omega arith in
    blocks_start c.args.field list c.args.count (c.args.blocks - 0) c.args.rows.now c.args.skips.now after (ap (λ (n : ℕ). skips_at n 0 c.args.skips.now) none ∙ e)

pub skip_of-requires : goal.skip_of-requires
skip_of-requires c = (c.loop.invariant c.requires.0 c.requires.1 c.requires.2).below

pub skip_counted-requires : goal.skip_counted-requires
skip_counted-requires c = (c.loop.invariant c.requires.0 c.requires.1 c.requires.2).below

pub skip_counted-requires-2 : goal.skip_counted-requires-2
skip_counted-requires-2 c = (c.loop.invariant c.requires.0 c.requires.1 c.requires.2).below

pub returns-in_err-row : goal.returns-in_err-row
returns-in_err-row c =
    let p = c.from_residual.ensures in
    let s = c.in_err-row.ensures in
    rw p (λ list after e.
    absurd (no_entry_left c.args.field list c.args.count (c.args.blocks - c.loop.counter) c.args.rows.now c.loop.left c.loop.least c.loop.skips.now c.loop.rest.now (omega (arith, c.loop-test.true)) (c.loop.invariant list after e) (sym s.value)))

pub returns-in_err-end : goal.returns-in_err-end
returns-in_err-end c =
    let p = c.from_residual-in_err-end.ensures in
    let s = c.in_ok-row.ensures in
    let k = c.in_err-end.ensures in
    rw p (λ list after e.
    block_stops c.args.field list c.args.count (c.args.blocks - c.loop.counter) c.args.rows.now c.loop.left c.loop.least c.loop.skips.now c.loop.rest.now (omega (arith, c.loop-test.true)) (c.loop.invariant list after e)
    (c.in_ok-row.row, c.in_ok-row.len) c.in_ok-row.others.now (sym s.value) (ap (λ (n : ℕ). counted_from_at c.args.field n c.loop.least c.loop.rest.now) (sym c.first_block-block.ensures) ∙ k.value))

pub returns-then-end-from : goal.returns-then-end-from
returns-then-end-from c = λ list after e.
    let s = c.in_ok-row.ensures in
    let k = c.in_ok-end.ensures in
    block_differs c.args.field list c.args.count (c.args.blocks - c.loop.counter) c.args.rows.now c.loop.left c.loop.least c.loop.skips.now c.loop.rest.now (omega (arith, c.loop-test.true)) (c.loop.invariant list after e)
    (c.in_ok-row.row, c.in_ok-row.len) c.in_ok-row.others.now k.value.0 c.in_ok-end.after.now (sym s.value) (ap (λ (n : ℕ). counted_from_at c.args.field n c.loop.least c.loop.rest.now) (sym c.first_block-block.ensures) ∙ k.value.1)
    (λ end long.
    let same : c.in_ok-end.end ≡ c.from.result + 1 = omega (arith, k.value.2, end, c.from.ensures) in
    elim c.then-end-from.branch [ then-end-from-via-then-end-from w ↦ w.if-end-from.true same | then-end-from-via-else-end-from+then-rest-after w ↦ w.if-rest-after.true long ])

pub loop-preserved : goal.loop-preserved
loop-preserved c = λ list after e.
    let s = c.in_ok-row.ensures in
    let k = c.in_ok-end.ensures in
    let above : c.in_ok-end.end ≡ c.in_ok-row.row + 1 = omega (arith, c.if-end-from.false, c.from.ensures) in
    let fewer : c.args.blocks - c.loop.counter - 1 ≡ c.args.blocks - (c.loop.counter + 1) = omega arith in
    let left : c.loop.left - block_rows ≡ c.loop.left - c.first_block-block.result = omega (arith, c.first_block-block.ensures) in
    let p =
    block_passed c.args.field list c.args.count (c.args.blocks - c.loop.counter) c.args.rows.now c.loop.left c.loop.least c.loop.skips.now c.loop.rest.now (omega (arith, c.loop-test.true)) (c.loop.invariant list after e)
    (c.in_ok-row.row, c.in_ok-row.len) c.in_ok-row.others.now k.value.0 c.in_ok-end.after.now (sym s.value) (ap (λ (n : ℕ). counted_from_at c.args.field n c.loop.least c.loop.rest.now) (sym c.first_block-block.ensures) ∙ k.value.1)
    (sym k.value.2 ∙ above) c.if-rest-after.false s.below in
    subst (λ (j : ℕ). HasPassedBlocks c.args.field list c.args.count (c.args.blocks - (c.loop.counter + 1)) c.args.rows.now (c.loop.left - c.first_block-block.result) j c.in_ok-row.others.now c.in_ok-end.after.now) (sym above)
    (subst (λ (n : ℕ). HasPassedBlocks c.args.field list c.args.count n c.args.rows.now (c.loop.left - c.first_block-block.result) (c.in_ok-row.row + 1) c.in_ok-row.others.now c.in_ok-end.after.now) fewer
    (subst (λ (n : ℕ). HasPassedBlocks c.args.field list c.args.count (c.args.blocks - c.loop.counter - 1) c.args.rows.now n (c.in_ok-row.row + 1) c.in_ok-row.others.now c.in_ok-end.after.now) left p))

pub returns : goal.returns
returns c = λ list after e.
    let none : c.args.blocks - c.loop.counter ≡ 0 = omega (arith, c.loop-test.false) in
    let at = subst (λ (n : ℕ). HasPassedBlocks c.args.field list c.args.count n c.args.rows.now c.loop.left c.loop.least c.loop.skips.now c.loop.rest.now) none (c.loop.invariant list after e) in
    blocks_done c.args.field list c.args.count c.args.rows.now c.loop.left c.loop.least c.loop.skips.now c.loop.rest.now _ at c.skip_counted-2.ensures.value
