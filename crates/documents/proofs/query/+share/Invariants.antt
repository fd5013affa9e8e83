use Rattle.std.proofs.Common.{◌≡◌, ◌++◌, drop}
use Rattle.documents.proofs.query.+share.Given as goal

abbrev pub invariant-share_queries-loop-query : goal.invariant-share_queries-loop-query
invariant-share_queries-loop-query l = l.copies.items ++ drop l.query-index l.query-items ≡ l.queries
