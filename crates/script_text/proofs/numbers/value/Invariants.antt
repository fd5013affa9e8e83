use Rattle.std.proofs.Common.{◌≡◌, drop}
use Rattle.script_text.specs.Refused.{value_from, value_of}
use Rattle.script_text.proofs.numbers.value.Given as goal

abbrev pub invariant-loop-digit : goal.invariant-loop-digit
invariant-loop-digit l = value_from l.value (drop l.digit-index l.digits) ≡ value_of l.digits
