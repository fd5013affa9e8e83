use Rattle.searcher_switch.proofs.Standing.{stands_along}
use Rattle.searcher_switch.proofs.laws.stands_along.Goals as goal

pub returns : goal.returns
returns c = stands_along
