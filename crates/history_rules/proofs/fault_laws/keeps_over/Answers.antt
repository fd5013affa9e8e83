use Rattle.history_rules.proofs.FaultLaws.{keeps_over}
use Rattle.history_rules.proofs.fault_laws.keeps_over.Goals as goal

pub returns : goal.returns
returns c = keeps_over
