use Rattle.std.proofs.Common.{◌≡◌, ◌+◌, ◌++◌, drop}
use Rattle.seg_build.specs.Given.{live_rows, numbers_from}
use Rattle.seg_merge.proofs.joining.numbers_of.Given as goal

abbrev pub invariant-loop-row : goal.invariant-loop-row
invariant-loop-row l = record {
  numbers : l.numbers.items ++ numbers_from l.next (drop l.row l.live) ≡ numbers_from l.fn.next l.live;
  next : l.next + live_rows (drop l.row l.live) ≡ l.fn.next + live_rows l.live;
}
