use Rattle.history_book.proofs.BookLemmas.{told}
use Rattle.history_book.proofs.FreshLaws.{open_unanswered}
use Rattle.history_book.proofs.book.Book.is_unanswered.Goals as goal

pub returns : goal.returns
returns c = let t = told c.args.self.now _ _ _ _ _ _ _ _ _ _ c.self.view_is c.self.invariant.1 in
    open_unanswered c.args.at _ t.turns c.requires
