use Rattle.std.proofs.Common.{◌↔◌, IsTrue, IfSome, reverse, subst, sym}
use Rattle.history_rules.specs.declared.entry.Event.{Event}
use Rattle.history_rules.specs.Legal.{KeepsRule}
use Rattle.history_points.specs.RightAnswers.{IsRightAnswer}
use Rattle.point_history.proofs.legality.keeps.Goals as goal

pub may_answer-requires-clause-told : goal.may_answer-requires-clause-told
may_answer-requires-clause-told c =
    subst (λ (e : Event). IfSome c.args.told (λ right. IsTrue right ↔ IsRightAnswer (reverse c.args.before.now) e)) c.in-Answered.is c.requires.told

pub returns-in_ok-may_answer-in-Answered-clause-rule : goal.returns-in_ok-may_answer-in-Answered-clause-rule
returns-in_ok-may_answer-in-Answered-clause-rule c =
    subst (λ (e : Event). IsTrue c.in_ok-may_answer-in-Answered.field-0 ↔ KeepsRule c.args.nodes (reverse c.args.before.now) c.args.entry.now.at e)
    (sym c.in-Answered.is) c.in_ok-may_answer-in-Answered.ensures
