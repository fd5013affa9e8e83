use Rattle.history_rules.proofs.LawLemmas.{reopens_where_committed}
use Rattle.history_rules.proofs.laws.nodes_reopen_where_committed.Goals as goal

pub returns : goal.returns
returns c = reopens_where_committed c.args.h.now c.requires
