use Rattle.history_book.specs.Log.{printed}
use Rattle.history_book.proofs.FreshLaws.{fresh}
use Rattle.history_book.proofs.book.Book.is_fresh.Goals as goal

pub returns : goal.returns
returns c = fresh c.args.at (printed c.args.self.now.log) c.requires
