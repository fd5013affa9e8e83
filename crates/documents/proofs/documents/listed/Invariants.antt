use Rattle.std.proofs.Common.{◌≡◌, map}
use Rattle.std.specs.Map.Iter.{deref_pair}
use Rattle.documents.specs.Documents.{document_of}
use Rattle.documents.proofs.documents.listed.Given as goal

abbrev pub invariant-loop-key : goal.invariant-loop-key
invariant-loop-key l = l.docs.items ≡ map document_of (map deref_pair l.yielded)
