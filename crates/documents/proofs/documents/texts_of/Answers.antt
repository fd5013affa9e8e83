use Rattle.std.proofs.Common.{ap, ◌∙◌, List, take}
use Rattle.nrt_base.specs.declared.doc.Doc.{Doc}
use Rattle.documents.specs.declared.operation.Op.TheVariants.{Put}
use Rattle.documents.specs.Documents.{after_op}
use Rattle.documents.proofs.DocumentLemmas.{put_next}
use Rattle.documents.proofs.documents.texts_of.Goals as goal

pub loop-doc-preserved : goal.loop-doc-preserved
loop-doc-preserved c = record {
  done =
      c.in_ok-put.ensures.after
      ∙ ap (λ (docs : List Doc). after_op docs (Put c.doc-item.result)) c.loop-doc.invariant.done
      ∙ ap (λ (doc : Doc). after_op (take c.loop-doc.doc-index c.args.docs.now) (Put doc)) c.doc-item.is
      ∙ put_next c.args.docs.now c.loop-doc.doc-index c.doc-item.result c.requires c.loop-doc-test.true;
  ordered = c.in_ok-put.ensures.ordered;
}
