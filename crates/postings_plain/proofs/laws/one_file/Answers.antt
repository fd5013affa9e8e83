use Rattle.postings_plain.proofs.FileLaws.{files_one_to_one}
use Rattle.postings_plain.proofs.laws.one_file.Goals as goal

pub returns : goal.returns
returns c = files_one_to_one
