use Rattle.history_rules.proofs.PassedLaws.{newest_is_unpassed}
use Rattle.history_rules.proofs.passed_laws.newest_is_unpassed.Goals as goal

pub returns : goal.returns
returns c = newest_is_unpassed
