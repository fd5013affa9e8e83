use Rattle.std.proofs.Common.{◌≡◌, ◌++◌, drop}
use Rattle.documents.specs.Ranking.{matching_hits}
use Rattle.documents.proofs.ranking.matching_hits.Given as goal

abbrev pub invariant-loop-doc : goal.invariant-loop-doc
invariant-loop-doc l = l.hits.items ++ matching_hits l.query (drop l.doc-index l.docs) ≡ matching_hits l.query l.docs
