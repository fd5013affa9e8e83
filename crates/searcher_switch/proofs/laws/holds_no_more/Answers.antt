use Rattle.searcher_switch.proofs.Fewer.{no_more_step, no_more_begun}
use Rattle.searcher_switch.proofs.laws.holds_no_more.Goals as goal

pub returns-clause-step : goal.returns-clause-step
returns-clause-step c = no_more_step

pub returns-clause-begun : goal.returns-clause-begun
returns-clause-begun c = no_more_begun
