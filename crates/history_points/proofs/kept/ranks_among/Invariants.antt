use Rattle.std.proofs.Common.{take}
use Rattle.documents.specs.Ranking.{matching_hits}
use Rattle.history_points.specs.Kept.{HasHits}
use Rattle.history_points.proofs.kept.ranks_among.Given as goal

abbrev pub invariant-loop-doc : goal.invariant-loop-doc
invariant-loop-doc l = HasHits (matching_hits l.query (take l.doc-index l.docs)) l.ranks
