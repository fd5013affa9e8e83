use Rattle.std.proofs.Common.{◌≡◌, arith}
use Rattle.postings_plain.proofs.CountedHits.{at_start, goes_on, stops, is_done}
use Rattle.postings_plain.proofs.entries.skip_counted.Goals as goal

pub loop-init : goal.loop-init
loop-init c = record { below = c.requires; passed = at_start c.args.field c.args.count c.args.least c.args.bytes.now }

pub loop-preserved : goal.loop-preserved
loop-preserved c =
    let e : c.from-end.result ≡ c.in_ok-row.row = c.from-end.ensures in
    let f = c.in_ok-row.ensures in
    rw e (record {
      below = omega (arith, f.below);
      passed = goes_on c.args.field c.args.count c.args.least c.loop.counter c.loop.end c.loop.rest.now c.args.bytes.now (c.in_ok-row.row, f.value.0) c.in_ok-row.after.now c.loop-test.true f.value.1 c.loop.invariant.passed;
    })

pub returns-in_err-row-clause-value : goal.returns-in_err-row-clause-value
returns-in_err-row-clause-value c =
    let p = c.from_residual.ensures in
    let f = c.in_err-row.ensures in
    rw p (stops c.args.field c.args.count c.args.least c.loop.counter c.loop.end c.loop.rest.now c.args.bytes.now c.loop-test.true f.value c.loop.invariant.passed)

pub returns : goal.returns
returns c = record { value = is_done c.args.field c.args.count c.args.least c.loop.counter c.loop.end c.loop.rest.now c.args.bytes.now c.loop-test.false c.loop.invariant.passed; below = c.loop.invariant.below }
