use Rattle.history_rules.proofs.LawLemmas.{answers_are_scans}
use Rattle.history_rules.proofs.laws.answers_are_scans.Goals as goal

pub returns : goal.returns
returns c = answers_are_scans c.args.h.now c.requires
