use Rattle.body_forms.proofs.FileLaws.{files_one_to_one}
use Rattle.docs_plain.proofs.FileLaws.{documents_kind}
use Rattle.docs_plain.proofs.laws.one_file.Goals as goal

pub returns : goal.returns
returns c = λ id. files_one_to_one (documents_kind id)
