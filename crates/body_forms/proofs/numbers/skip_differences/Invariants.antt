use Rattle.std.proofs.Common.{◌≤◌, ◌^◌}
use Rattle.body_forms.specs.Format.{chain_at}
use Rattle.body_forms.specs.Numbers.{difference_at, above}
use Rattle.body_forms.proofs.Loops.{IsAt}
use Rattle.body_forms.proofs.numbers.skip_differences.Given as goal

abbrev pub invariant-loop : goal.invariant-loop
invariant-loop l = record {
  below : l.least ≤ 2 ^ 32;
  at : IsAt difference_at above l.count l.counter l.least l.rest (chain_at difference_at above l.count 0 l.bytes);
}
