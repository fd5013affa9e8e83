use Rattle.history_book.proofs.BookLemmas.{told}
use Rattle.history_book.proofs.CommitLaws.{commit_ends}
use Rattle.history_book.proofs.book.Book.commit_may_end.Goals as goal

pub returns : goal.returns
returns c = let t = told c.args.self.now _ _ _ _ _ _ _ _ _ _ c.self.view_is c.self.invariant.1 in
    commit_ends _ _ c.args.n c.args.v c.args.at t.legal t.turns c.requires.flight c.requires.started
