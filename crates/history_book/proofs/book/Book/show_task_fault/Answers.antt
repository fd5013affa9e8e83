use Rattle.std.proofs.Common.{sym, true≢false}
use Rattle.history_book.proofs.book.Book.show_task_fault.Goals as goal

pub append-requires-clause-line : goal.append-requires-clause-line
append-requires-clause-line c = λ start. absurd (true≢false (sym start))

pub append-requires-clause-ticket : goal.append-requires-clause-ticket
append-requires-clause-ticket c = λ ticket. absurd (true≢false (sym ticket))

pub append-requires-clause-turn : goal.append-requires-clause-turn
append-requires-clause-turn c = record { once = tt; flight = tt }

pub append-requires-clause-merge : goal.append-requires-clause-merge
append-requires-clause-merge c = λ task. c.requires.merge

pub append-requires-clause-told : goal.append-requires-clause-told
append-requires-clause-told c = λ shown. absurd (true≢false shown)
