use Rattle.history_rules.proofs.PassedLaws.{stays_unpassed}
use Rattle.history_rules.proofs.passed_laws.stays_unpassed.Goals as goal

pub returns : goal.returns
returns c = stays_unpassed
