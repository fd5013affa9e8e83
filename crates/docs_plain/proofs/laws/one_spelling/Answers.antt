use Rattle.docs_plain.proofs.FileLaws.{documents_one_to_one}
use Rattle.docs_plain.proofs.laws.one_spelling.Goals as goal

pub returns : goal.returns
returns c = documents_one_to_one
