use Rattle.history_book.proofs.BookLemmas.{told}
use Rattle.std.proofs.Common.{refl}
use Rattle.history_rules.specs.declared.entry.Event.TheVariants.{Committing}
use Rattle.history_book.specs.Log.{printed}
use Rattle.history_book.proofs.OpenLaws.{commit_open, last_started}
use Rattle.history_book.proofs.book.Book.commit_flies.Goals as goal

pub returns-clause-flight : goal.returns-clause-flight
returns-clause-flight c = let t = told c.args.self.now _ _ _ _ _ _ _ _ _ _ c.self.view_is c.self.invariant.1 in
    commit_open _ c.args.n c.args.v c.args.at _ t.legal c.requires.last c.requires.survives.node

pub returns-clause-started : goal.returns-clause-started
returns-clause-started c = last_started c.args.at (printed c.args.self.now.log) (Committing c.args.n c.args.v) refl c.requires.last
