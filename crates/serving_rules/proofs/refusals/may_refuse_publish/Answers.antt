use Rattle.std.proofs.Common.{ap}
use Rattle.history_rules.specs.declared.entry.Event.TheVariants.{Refused}
use Rattle.serving_rules.proofs.refusals.may_refuse_publish.Goals as goal

pub may_be_full-is_full-requires-clause-documents : goal.may_be_full-is_full-requires-clause-documents
may_be_full-is_full-requires-clause-documents c = c.requires.documents (ap Refused c.in-TooManySegments.is)
