use Rattle.std.proofs.Common.{map}
use Rattle.std.specs.Map.Iter.{deref_pair}
use Rattle.documents.specs.Documents.{document_of}
use Rattle.history_points.specs.Candidates.{HaveMatches}
use Rattle.history_points.proofs.candidates.candidates.Given as goal

abbrev pub invariant-loop-key : goal.invariant-loop-key
invariant-loop-key l = HaveMatches l.query (map document_of (map deref_pair l.yielded)) l.docs.items
