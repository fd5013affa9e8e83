use Rattle.std.proofs.Common.{sym, reverse}
use Rattle.std.proofs.lemmas.Bool.{false≢true}
use Rattle.report_judge.proofs.ServingLaws.{fault_in_turn, fault_is_late}
use Rattle.report_judge.proofs.serving.fits_fault.Goals as goal

pub returns-then-is_answered : goal.returns-then-is_answered
returns-then-is_answered c = λ lines turn. (
  λ h. absurd (false≢true h),
  λ fits. absurd (fault_is_late lines (reverse c.args.entries.now) c.args.at c.args.command.now (sym c.if-is_merge.ensures) (sym c.if-is_answered.ensures) fits),
)

pub returns : goal.returns
returns c = λ lines turn.
    fault_in_turn lines (reverse c.args.entries.now) c.args.at c.args.command.now (sym c.if-is_merge.ensures) (sym c.if-is_answered.ensures) c.args.is_turn turn
