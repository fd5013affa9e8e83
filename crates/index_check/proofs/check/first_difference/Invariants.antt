use Rattle.std.proofs.Common.{◌≡◌, ◌≤◌, length, take}
use Rattle.index_check.proofs.check.first_difference.Given as goal

abbrev pub invariant-loop-at : goal.invariant-loop-at
invariant-loop-at l = record {
  same : take l.at l.found ≡ take l.at l.docs;
  within : l.at ≤ length l.docs;
}
