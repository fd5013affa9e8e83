use Rattle.std.proofs.Common.{◌∙◌, refl, reverse, sym}
use Rattle.history_book.proofs.WholeLaws.{spared_whole}
use Rattle.history_book.proofs.book.Book.is_whole.Goals as goal

pub returns-then-not-has_met_fault : goal.returns-then-not-has_met_fault
returns-then-not-has_met_fault c = (
  λ it n node alive. sym (c.since.ensures n)
      ∙ spared_whole n c.args.at (reverse c.since.result.now) (sym c.has_met_fault.ensures ∙ c.if-not-has_met_fault.true),
  λ whole. refl,
)
