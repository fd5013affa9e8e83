use Rattle.std.proofs.Common.{◌≡◌, ◌++◌, drop}
use Rattle.seg_reader.specs.Shown.{live_documents_of}
use Rattle.cluster_documents.proofs.ShownRows.{live_from}
use Rattle.cluster_documents.proofs.node_documents.push_documents.Given as goal

abbrev pub invariant-loop-row : goal.invariant-loop-row
invariant-loop-row l = l.docs.items ++ live_from (drop l.row l.segment.docs) (drop l.row l.segment.live) ≡ l.initial.docs.items ++ live_documents_of l.segment
