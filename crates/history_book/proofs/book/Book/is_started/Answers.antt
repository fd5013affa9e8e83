use Rattle.history_book.specs.Log.{printed}
use Rattle.history_book.proofs.OpenLaws.{last_started}
use Rattle.history_book.proofs.book.Book.is_started.Goals as goal

pub returns : goal.returns
returns c = last_started c.args.at (printed c.args.self.now.log) c.args.event.now c.requires.start c.requires.last
