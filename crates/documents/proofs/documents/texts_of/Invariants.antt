use Rattle.std.proofs.Common.{◌≡◌, map, take}
use Rattle.std.specs.BTreeMap.{IsOrdered}
use Rattle.documents.specs.Documents.{document_of, key_cmp}
use Rattle.documents.proofs.documents.texts_of.Given as goal

abbrev pub invariant-loop-doc : goal.invariant-loop-doc
invariant-loop-doc l = record {
  done : map document_of l.texts.entries ≡ take l.doc-index l.docs;
  ordered : IsOrdered key_cmp l.texts;
}
