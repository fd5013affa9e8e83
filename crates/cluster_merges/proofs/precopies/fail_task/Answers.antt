use Rattle.std.proofs.Common.{◌∙◌, sym}
use Rattle.cluster_merges.proofs.precopies.fail_task.Goals as goal

pub has_risen-requires : goal.has_risen-requires
has_risen-requires g c = record { count = c.requires.places ∙ sym c.requires.count }

pub returns-clause-ok : goal.returns-clause-ok
returns-clause-ok g c = record { ends = c.in_ok-end_task.ensures.ok; risen = sym c.has_risen.ensures ∙ c.if-not-has_risen.false }
