use Rattle.history_book.proofs.ToldLaws.{later_was_begun}
use Rattle.history_book.proofs.laws.later_was_begun.Goals as goal

pub returns : goal.returns
returns c = later_was_begun
