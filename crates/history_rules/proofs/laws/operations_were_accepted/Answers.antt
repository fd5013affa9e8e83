use Rattle.history_rules.proofs.LawLemmas.{operations_were_accepted}
use Rattle.history_rules.proofs.laws.operations_were_accepted.Goals as goal

pub returns : goal.returns
returns c = operations_were_accepted c.args.h.now
