use Rattle.history_rules.proofs.LawLemmas.{never_falls}
use Rattle.history_rules.proofs.laws.versions_never_fall.Goals as goal

pub returns : goal.returns
returns c = never_falls c.args.h.now c.requires
