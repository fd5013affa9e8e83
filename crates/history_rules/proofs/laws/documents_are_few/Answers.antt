use Rattle.history_rules.proofs.LawLemmas.{documents_are_few}
use Rattle.history_rules.proofs.laws.documents_are_few.Goals as goal

pub returns : goal.returns
returns c = documents_are_few c.args.h.now
