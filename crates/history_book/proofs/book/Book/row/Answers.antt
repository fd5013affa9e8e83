use Rattle.history_book.proofs.BookLemmas.{told, row_told}
use Rattle.history_book.proofs.book.Book.row.Goals as goal

pub returns : goal.returns
returns c = let t = told c.args.self.now _ _ _ _ _ _ _ _ _ _ c.self.view_is c.self.invariant.1 in
    row_told _ _ c.args.n.0 _ t.rows_tell c.requires.0 c.row_at-row.ensures
