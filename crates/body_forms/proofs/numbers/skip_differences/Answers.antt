use Rattle.std.proofs.Common.{◌≡◌, sym, arith}
use Rattle.body_forms.specs.Numbers.{difference_at, above}
use Rattle.body_forms.proofs.Loops.{at_start, goes_on, ends, is_done}
use Rattle.body_forms.proofs.numbers.skip_differences.Goals as goal

pub loop-init : goal.loop-init
loop-init c = record { below = omega arith; at = at_start difference_at above c.args.count 0 c.args.bytes.now }

pub loop-preserved : goal.loop-preserved
loop-preserved c =
    let e : c.from-least.result ≡ c.in_ok-x.x = c.from-least.ensures in
    let f = c.in_ok-x.ensures in
    rw e (record {
      below = omega (arith, f.below);
      at = goes_on difference_at above c.args.count c.loop.counter c.loop.least c.loop.rest.now _ c.in_ok-x.x c.in_ok-x.after.now c.loop-test.true (sym f.value) c.loop.invariant.at;
    })

pub returns-in_err-x : goal.returns-in_err-x
returns-in_err-x c =
    let p = c.from_residual.ensures in
    let f = c.in_err-x.ensures in
    rw p (ends difference_at above c.args.count c.loop.counter c.loop.least c.loop.rest.now _ c.loop-test.true (sym f.value) c.loop.invariant.at)

pub returns : goal.returns
returns c = is_done difference_at above c.args.count c.loop.counter c.loop.least c.loop.rest.now _ c.loop-test.false c.loop.invariant.at
