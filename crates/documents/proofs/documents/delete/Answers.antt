use Rattle.std.proofs.Common.{ap, ◌∙◌, map}
use Rattle.documents.specs.Documents.{document_of}
use Rattle.documents.proofs.DocumentLemmas.{delete_from_remove}
use Rattle.documents.proofs.documents.delete.Goals as goal

pub returns-clause-after : goal.returns-clause-after
returns-clause-after c =
    ap (map document_of) c.remove.ensures.entries ∙ delete_from_remove c.args.texts.now.entries c.args.key.now c.requires
