use Rattle.std.proofs.Common.{refl}
use Rattle.history_rules.specs.declared.entry.Event.TheVariants.{Copying}
use Rattle.history_book.specs.Log.{printed}
use Rattle.history_book.proofs.OpenLaws.{last_started}
use Rattle.history_book.proofs.book.Book.copy_started.Goals as goal

pub returns : goal.returns
returns c = last_started c.args.at (printed c.args.self.now.log) (Copying c.args.n c.args.v) refl c.requires.last
