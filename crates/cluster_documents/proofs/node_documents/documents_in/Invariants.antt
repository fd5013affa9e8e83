use Rattle.std.proofs.Common.{◌≡◌, ◌++◌, drop}
use Rattle.seg_reader.specs.Shown.{live_documents}
use Rattle.cluster_documents.proofs.node_documents.documents_in.Given as goal

abbrev pub invariant-loop-at : goal.invariant-loop-at
invariant-loop-at l = l.docs.items ++ live_documents (drop l.at l.segments) ≡ live_documents l.segments
