use Rattle.std.proofs.Common.{◌≡◌, map, drop}
use Rattle.std.specs.BTreeMap.{IsOrdered}
use Rattle.documents.specs.Documents.{document_of, after_ops, documents_after, key_cmp}
use Rattle.documents.proofs.documents.apply.Given as goal

abbrev pub invariant-loop-op : goal.invariant-loop-op
invariant-loop-op l = record {
  done : after_ops (map document_of l.texts.entries) (drop l.op-index l.ops) ≡ documents_after l.ops;
  ordered : IsOrdered key_cmp l.texts;
}
