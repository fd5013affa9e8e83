use Rattle.std.proofs.Common.{arith}
use Rattle.script_text.proofs.NumberLemmas.{next_value}
use Rattle.script_text.proofs.numbers.value.Goals as goal

pub returns-in_err-tens : goal.returns-in_err-tens
returns-in_err-tens c =
    let next = next_value c.args.digits.now c.loop-digit.digit-index c.loop-digit.value c.loop-digit-test.true c.loop-digit.invariant in
    rw c.from_residual.ensures (omega (arith, next, c.in_err-tens.ensures))

pub returns-in_err-value : goal.returns-in_err-value
returns-in_err-value c =
    let next = next_value c.args.digits.now c.loop-digit.digit-index c.loop-digit.value c.loop-digit-test.true c.loop-digit.invariant in
    rw c.from_residual-in_err-value.ensures (omega (arith, next, c.in_err-value.ensures, c.in_ok-tens.ensures, c.saturating_sub.ensures, c.from.ensures))
