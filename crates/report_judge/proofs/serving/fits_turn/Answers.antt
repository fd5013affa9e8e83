use Rattle.std.proofs.Common.{sym, ◌∙◌, reverse}
use Rattle.std.proofs.lemmas.Bool.{false≢true}
use Rattle.report_judge.proofs.ServingLaws.{not_in_turn, suits_in_turn}
use Rattle.report_judge.proofs.serving.fits_turn.Goals as goal

pub returns-then-not-is_turn : goal.returns-then-not-is_turn
returns-then-not-is_turn c = λ lines turn. (
  λ h. absurd (false≢true h),
  λ fits. absurd (not_in_turn lines (reverse c.args.entries.now) c.args.at c.args.command.now c.args.event.now (sym c.if-is_fault.ensures) (sym turn ∙ c.if-not-is_turn.true) fits),
)

pub returns : goal.returns
returns c = λ lines turn.
    suits_in_turn lines (reverse c.args.entries.now) c.args.at c.args.command.now c.args.event.now (sym c.if-is_fault.ensures) (sym turn ∙ c.if-not-is_turn.false) c.suits.result c.suits.ensures
