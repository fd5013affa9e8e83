use Rattle.std.proofs.Common.{◌≡◌, sym, arith}
use Rattle.body_forms.proofs.Loops.{at_start, goes_on, ends, is_done}
use Rattle.postings_plain.specs.Postings.{above_block}
use Rattle.postings_plain.specs.Reading.{skip_at}
use Rattle.postings_plain.proofs.blocks.skip_skips.Goals as goal

pub loop-init : goal.loop-init
loop-init c = record { below = omega arith; at = at_start skip_at above_block c.args.count 0 c.args.bytes.now }

pub loop-preserved : goal.loop-preserved
loop-preserved c =
    let e : c.from-least.result ≡ c.in_ok-row.row = c.from-least.ensures in
    let f = c.in_ok-row.ensures in
    rw e (record {
      below = omega (arith, f.below);
      at = goes_on skip_at above_block c.args.count c.loop.counter c.loop.least c.loop.rest.now _ (c.in_ok-row.row, c.in_ok-row.field-0-0-1) c.in_ok-row.after.now c.loop-test.true (sym f.value) c.loop.invariant.at;
    })

pub returns-in_err-row : goal.returns-in_err-row
returns-in_err-row c =
    let p = c.from_residual.ensures in
    let f = c.in_err-row.ensures in
    rw p (ends skip_at above_block c.args.count c.loop.counter c.loop.least c.loop.rest.now _ c.loop-test.true (sym f.value) c.loop.invariant.at)

pub returns : goal.returns
returns c = is_done skip_at above_block c.args.count c.loop.counter c.loop.least c.loop.rest.now _ c.loop-test.false c.loop.invariant.at
