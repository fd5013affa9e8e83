use Rattle.std.proofs.Common.{arith}
use Rattle.file_names.proofs.ReadingLemmas.{not_below, at_end}
use Rattle.file_names.proofs.radix.value_of.Goals as goal

pub returns-in_err-checked_mul : goal.returns-in_err-checked_mul
returns-in_err-checked_mul c =
    let h = c.in_err-checked_mul.ensures in
    rw c.from_residual.ensures (not_below c.loop-byte.value c.loop-byte.byte-index c.args.digits.now c.loop-byte-test.true c.loop-byte.invariant.whole (omega (arith, h)))

pub returns-in_err-value : goal.returns-in_err-value
returns-in_err-value c =
    let h = c.in_err-value.ensures in
    let g = c.in_ok-checked_mul.ensures in
    rw c.from_residual-in_err-value.ensures (not_below c.loop-byte.value c.loop-byte.byte-index c.args.digits.now c.loop-byte-test.true c.loop-byte.invariant.whole (omega (arith, h, g.1, c.from.ensures, c.digit_value-digit.ensures.value)))

pub returns : goal.returns
returns c = let e = at_end c.loop-byte.value c.loop-byte.byte-index c.args.digits.now c.loop-byte-test.false c.loop-byte.invariant.whole in (omega (arith, e, c.loop-byte.invariant.below), e)
