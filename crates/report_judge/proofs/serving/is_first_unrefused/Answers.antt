use Rattle.std.proofs.Common.{reverse, subst}
use Rattle.history_rules.specs.declared.entry.Event.{Event}
use Rattle.serving_rules.specs.Sizes.{CountsNewest}
use Rattle.report_judge.proofs.serving.is_first_unrefused.Goals as goal

pub may_be_refused-requires-clause-documents : goal.may_be_refused-requires-clause-documents
may_be_refused-requires-clause-documents c =
    subst (λ (e : Event). CountsNewest (reverse c.args.entries.now) e c.args.documents) c.in-Refused.is c.requires.documents
