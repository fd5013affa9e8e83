use Rattle.postings_plain.proofs.FileLaws.{postings_one_to_one}
use Rattle.postings_plain.proofs.laws.one_spelling.Goals as goal

pub returns : goal.returns
returns c = postings_one_to_one
