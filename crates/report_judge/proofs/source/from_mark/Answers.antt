use Rattle.std.proofs.Common.{sym}
use Rattle.report_judge.proofs.SourceLaws.{from_mark}
use Rattle.report_judge.proofs.source.from_mark.Goals as goal

pub returns-then-is_mark-clause-report : goal.returns-then-is_mark-clause-report
returns-then-is_mark-clause-report c =
    (from_mark c.args.bytes.now c.loop-line.left.now c.in-Some.line.now c.loop-line.invariant c.in-Some.ensures.lines.0 (sym c.if-is_mark.ensures)).1
