use Rattle.std.proofs.lemmas.Result.{on_ok_weaker}
use Rattle.cluster_documents.proofs.ReadRows.{search_found, search_there, opened_ends, asking_ends}
use Rattle.cluster_documents.proofs.searches.answer_end.Goals as goal

pub unreachable-requires : goal.unreachable-requires
unreachable-requires g c = search_there c.args.at c.args.query.now c.args.answer _ _ _ c.book-2.ensures.log c.requires.right c.line.ensures c.in_default.is

pub end_search-requires-clause-node : goal.end_search-requires-clause-node
end_search-requires-clause-node g c =
    (search_found _ _ c.args.at c.args.query.now c.args.answer _ _ _ _ _ _ c.book.ensures.nodes c.book.ensures.log c.book-2.ensures.log c.is_legal.ensures.legal c.requires.right c.line.ensures c.in-Some.is c.in-Searching.is).node

pub end_search-requires-clause-started : goal.end_search-requires-clause-started
end_search-requires-clause-started g c =
    (search_found _ _ c.args.at c.args.query.now c.args.answer _ _ _ _ _ _ c.book.ensures.nodes c.book.ensures.log c.book-2.ensures.log c.is_legal.ensures.legal c.requires.right c.line.ensures c.in-Some.is c.in-Searching.is).started

pub end_search-requires-clause-right : goal.end_search-requires-clause-right
end_search-requires-clause-right g c =
    (search_found _ _ c.args.at c.args.query.now c.args.answer _ _ _ _ _ _ c.book.ensures.nodes c.book.ensures.log c.book-2.ensures.log c.is_legal.ensures.legal c.requires.right c.line.ensures c.in-Some.is c.in-Searching.is).right

pub end_search-requires-in-Asking-clause-node : goal.end_search-requires-in-Asking-clause-node
end_search-requires-in-Asking-clause-node g c =
    (search_found _ _ c.args.at c.args.query.now c.args.answer _ _ _ _ _ _ c.book.ensures.nodes c.book.ensures.log c.book-2.ensures.log c.is_legal.ensures.legal c.requires.right c.line.ensures c.in-Some.is c.in-Asking.is).node

pub end_search-requires-in-Asking-clause-started : goal.end_search-requires-in-Asking-clause-started
end_search-requires-in-Asking-clause-started g c =
    (search_found _ _ c.args.at c.args.query.now c.args.answer _ _ _ _ _ _ c.book.ensures.nodes c.book.ensures.log c.book-2.ensures.log c.is_legal.ensures.legal c.requires.right c.line.ensures c.in-Some.is c.in-Asking.is).started

pub end_search-requires-in-Asking-clause-right : goal.end_search-requires-in-Asking-clause-right
end_search-requires-in-Asking-clause-right g c =
    (search_found _ _ c.args.at c.args.query.now c.args.answer _ _ _ _ _ _ c.book.ensures.nodes c.book.ensures.log c.book-2.ensures.log c.is_legal.ensures.legal c.requires.right c.line.ensures c.in-Some.is c.in-Asking.is).right

pub unreachable-requires-in-Publishing : goal.unreachable-requires-in-Publishing
unreachable-requires-in-Publishing g c =
    search_found _ _ c.args.at c.args.query.now c.args.answer _ _ _ _ _ _ c.book.ensures.nodes c.book.ensures.log c.book-2.ensures.log c.is_legal.ensures.legal c.requires.right c.line.ensures c.in-Some.is c.in-Publishing.is

pub unreachable-requires-in-Copying : goal.unreachable-requires-in-Copying
unreachable-requires-in-Copying g c =
    search_found _ _ c.args.at c.args.query.now c.args.answer _ _ _ _ _ _ c.book.ensures.nodes c.book.ensures.log c.book-2.ensures.log c.is_legal.ensures.legal c.requires.right c.line.ensures c.in-Some.is c.in-Copying.is

pub unreachable-requires-in-Settling : goal.unreachable-requires-in-Settling
unreachable-requires-in-Settling g c =
    search_found _ _ c.args.at c.args.query.now c.args.answer _ _ _ _ _ _ c.book.ensures.nodes c.book.ensures.log c.book-2.ensures.log c.is_legal.ensures.legal c.requires.right c.line.ensures c.in-Some.is c.in-Settling.is

pub unreachable-requires-in-Committing : goal.unreachable-requires-in-Committing
unreachable-requires-in-Committing g c =
    search_found _ _ c.args.at c.args.query.now c.args.answer _ _ _ _ _ _ c.book.ensures.nodes c.book.ensures.log c.book-2.ensures.log c.is_legal.ensures.legal c.requires.right c.line.ensures c.in-Some.is c.in-Committing.is

pub returns-in-Searching-clause-ok : goal.returns-in-Searching-clause-ok
returns-in-Searching-clause-ok g c =
    let search = search_found _ _ c.args.at c.args.query.now c.args.answer _ _ _ _ _ _ c.book.ensures.nodes c.book.ensures.log c.book-2.ensures.log c.is_legal.ensures.legal c.requires.right c.line.ensures c.in-Some.is c.in-Searching.is in
    on_ok_weaker c.end_search.result (λ now. opened_ends c.args.at c.in-Searching.n _ c.in-Searching.v c.args.query.now c.args.answer c.args.state.now c.end_search.new.state search.last now) c.end_search.ensures.ok

pub returns-in-Asking-clause-ok : goal.returns-in-Asking-clause-ok
returns-in-Asking-clause-ok g c =
    let search = search_found _ _ c.args.at c.args.query.now c.args.answer _ _ _ _ _ _ c.book.ensures.nodes c.book.ensures.log c.book-2.ensures.log c.is_legal.ensures.legal c.requires.right c.line.ensures c.in-Some.is c.in-Asking.is in
    on_ok_weaker c.end_search-in-Asking.result (λ now. asking_ends c.args.at c.in-Asking.n c.in-Asking.t c.in-Asking.v c.args.query.now c.args.answer c.args.state.now c.end_search-in-Asking.new.state search.last now) c.end_search-in-Asking.ensures.ok
