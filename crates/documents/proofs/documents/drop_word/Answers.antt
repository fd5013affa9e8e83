use Rattle.std.proofs.Common.{ap, ◌∙◌, map, rules, tests}
use Rattle.std.specs.Prelude.{Bool, not}
use Rattle.nrt_base.specs.declared.doc.Doc.{Doc}
use Rattle.std.proofs.lemmas.Map.Made.{filter_same_pairs}
use Rattle.documents.specs.declared.operation.Op.TheVariants.{Drop}
use Rattle.documents.specs.Documents.{document_of, removes}
use Rattle.documents.proofs.DocumentLemmas.{documents_passing}
use Rattle.documents.proofs.documents.drop_word.Goals as goal

pub returns-clause-after : goal.returns-clause-after
returns-clause-after c =
    let stays : Doc → Bool = λ doc. not (removes (Drop c.args.word.now) doc) in
    ap (map document_of) (filter_same_pairs _ (λ e. stays (document_of e)) _ (λ k v b w f' t. search (rules, tests)) _ _ c.retain.ensures.filtered)
    ∙ documents_passing stays c.args.texts.now.entries
