use Rattle.std.proofs.Common.{◌≡◌, ◌++◌, map, drop}
use Rattle.report_judge.specs.Places.{place_of}
use Rattle.report_judge.proofs.lines.push_lines.Given as goal

abbrev pub invariant-loop-line : goal.invariant-loop-line
invariant-loop-line l = l.out.items ++ map place_of (drop l.line-index l.lines) ≡ l.fn.out.items ++ map place_of l.lines
