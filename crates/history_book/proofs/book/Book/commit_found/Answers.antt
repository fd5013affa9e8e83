use Rattle.history_book.proofs.BookLemmas.{told}
use Rattle.history_book.proofs.CommitLaws.{commit_flies}
use Rattle.history_book.proofs.FoundLaws.{commit_found}
use Rattle.history_book.proofs.book.Book.commit_found.Goals as goal

pub returns-clause-found : goal.returns-clause-found
returns-clause-found c = let t = told c.args.self.now _ _ _ _ _ _ _ _ _ _ c.self.view_is c.self.invariant.1 in
    commit_found _ _ c.args.n c.args.at t.legal t.turns c.requires

pub returns-clause-flies : goal.returns-clause-flies
returns-clause-flies c = let t = told c.args.self.now _ _ _ _ _ _ _ _ _ _ c.self.view_is c.self.invariant.1 in
    commit_flies _ _ c.args.n c.args.at t.legal t.turns c.requires
