use Rattle.std.proofs.Common.{reverse, ◌∙◌}
use Rattle.history_rules.specs.Nodes.{accepted_count}
use Rattle.history_points.proofs.AskedLaws.{point_ascends}
use Rattle.history_points.proofs.RightLaws.{few_texts, right_there}
use Rattle.history_points.proofs.right.is_right.Goals as goal

pub of-requires : goal.of-requires
of-requires c = point_ascends (reverse c.args.entries.now) c.args.v.0 c.as_slice.result.now (c.as_slice.ensures.value ∙ c.in_ok-docs.ensures.documents)

pub is_answer-requires-clause-few : goal.is_answer-requires-clause-few
is_answer-requires-clause-few c =
    few_texts c.in_ok-searched.searched c.in_ok-docs.docs.items (accepted_count (reverse c.args.entries.now)) (c.in_ok-searched.ensures.same ∙ c.as_slice.ensures.value) c.in_ok-docs.ensures.few c.requires.few

pub returns : goal.returns
returns c =
    right_there c.in_ok-right.right _ _ c.args.query.now c.args.answer.now (c.in_ok-searched.ensures.same ∙ c.as_slice.ensures.value ∙ c.in_ok-docs.ensures.documents) c.in_ok-right.ensures.right
