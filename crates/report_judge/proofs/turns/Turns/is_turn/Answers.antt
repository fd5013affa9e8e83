use Rattle.std.proofs.Common.{List, ap, ◌∙◌, drop, reverse}
use Rattle.nrt_base.specs.declared.numbers.At.{At}
use Rattle.report_judge.specs.Places.{earlier_places}
use Rattle.report_judge.proofs.TurnLaws.{turn_early}
use Rattle.report_judge.proofs.turns.Turns.is_turn.Goals as goal

pub returns-then-earlier_answered : goal.returns-then-earlier_answered
returns-then-earlier_answered c =
    turn_early c.args.script.now (reverse c.args.entries.now) c.args.at c.args.self.now c.in-Some.places.now c.front-front.result c.requires.shown c.in-Some.ensures.value c.front-front.ensures
    (c.if-earlier_answered.ensures ∙ ap (λ (ps : List At). earlier_places ps c.args.at (reverse c.args.entries.now)) (c.split_at.ensures.back ∙ ap (λ (ps : List At). drop c.front-front.result ps) c.as_slice-places.ensures))
