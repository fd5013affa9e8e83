use Rattle.history_book.proofs.BookLemmas.{opened}
use Rattle.history_book.proofs.book.Book.new.Goals as goal

pub invariant_of-result : goal.invariant_of-result
invariant_of-result c =
    opened c.args.nodes _ _ _ c.first.result c.in_ok-rows.rows.items _ _ _ _ _ _ _ c.new-3.ensures.items c.new.ensures.items c.new-2.ensures.items c.first.ensures c.in_ok-rows.ensures.count c.in_ok-rows.ensures.rows
    c.new-4.ensures c.new-5.ensures c.new-6.ensures c.new-7.ensures
