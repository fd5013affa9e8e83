use Rattle.std.proofs.Common.{sym, true≢false}
use Rattle.history_book.proofs.book.Book.show.Goals as goal

pub append-requires-clause-merge : goal.append-requires-clause-merge
append-requires-clause-merge c = λ task. absurd (true≢false (sym task))

pub append-requires-clause-told : goal.append-requires-clause-told
append-requires-clause-told c = λ shown. c.requires.told
