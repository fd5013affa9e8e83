use Rattle.std.proofs.Common.{◌≡◌}
use Rattle.index_check.specs.Rows.{row_documents}
use Rattle.index_check.proofs.standing.into_documents.Given as goal

abbrev pub invariant-loop-row : goal.invariant-loop-row
invariant-loop-row l = l.docs.items ≡ row_documents l.yielded
