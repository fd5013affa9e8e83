use Rattle.std.proofs.Common.{◌≡◌, drop}
use Rattle.report_judge.specs.Places.{line_numbered}
use Rattle.report_judge.proofs.lines.numbered_in.Given as goal

abbrev pub invariant-loop-line : goal.invariant-loop-line
invariant-loop-line l = line_numbered l.number (drop l.line-index l.lines) ≡ line_numbered l.number l.lines
