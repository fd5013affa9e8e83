use Rattle.std.proofs.Common.{◌∙◌}
use Rattle.history_points.proofs.KeptLaws.{answer_is}
use Rattle.history_points.proofs.kept.answer_of.Goals as goal

pub returns : goal.returns
returns c = λ docs query ascending has.
    answer_is docs query c.args.ranks.now _ _ ascending c.len-total.ensures.ordered has c.len-total.ensures.len (c.from_vec-hits.ensures ∙ c.in_ok-best.ensures)
