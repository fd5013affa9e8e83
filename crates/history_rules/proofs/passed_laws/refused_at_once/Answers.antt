use Rattle.history_rules.proofs.PassedLaws.{refused_at_once}
use Rattle.history_rules.proofs.passed_laws.refused_at_once.Goals as goal

pub returns : goal.returns
returns c = refused_at_once
