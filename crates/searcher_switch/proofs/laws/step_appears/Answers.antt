use Rattle.searcher_switch.proofs.Appearing.{step_appears, stop_appears}
use Rattle.searcher_switch.proofs.laws.step_appears.Goals as goal

pub returns-clause-step : goal.returns-clause-step
returns-clause-step c = step_appears

pub returns-clause-stopped : goal.returns-clause-stopped
returns-clause-stopped c = stop_appears
