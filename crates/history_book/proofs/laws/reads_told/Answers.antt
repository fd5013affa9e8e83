use Rattle.history_book.proofs.ToldLaws.{reads_told}
use Rattle.history_book.proofs.laws.reads_told.Goals as goal

pub returns : goal.returns
returns c = reads_told
