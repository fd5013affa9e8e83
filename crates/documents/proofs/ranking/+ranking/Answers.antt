use Rattle.std.proofs.Common.{ap, ◌∙◌, sym, arith}
use Rattle.documents.specs.declared.query.Query.{Query}
use Rattle.documents.specs.Ranking.{rank_of, fitting}
use Rattle.documents.proofs.RankLemmas.{rank_all, rank_any, whole_sum}
use Rattle.documents.proofs.ranking.+ranking.Goals as goal

pub rank_of-returns-in-All : goal.rank_of-returns-in-All
rank_of-returns-in-All t c =
    c.sum_of_ranks.ensures ∙ ap fitting (sym (rank_all c.in-All.parts c.args.words.now))
    ∙ ap (λ (q : Query). fitting (rank_of q c.args.words.now)) (sym c.in-All.is)

pub rank_of-returns-in-Any : goal.rank_of-returns-in-Any
rank_of-returns-in-Any t c =
    c.sum_of_ranks-in-Any.ensures ∙ ap fitting (sym (rank_any c.in-Any.parts c.args.words.now))
    ∙ ap (λ (q : Query). fitting (rank_of q c.args.words.now)) (sym c.in-Any.is)

pub sum_of_ranks-returns : goal.sum_of_ranks-returns
sum_of_ranks-returns t c = whole_sum (λ part. rank_of part c.args.words.now) c.as_slice-part-items.result.now c.loop-part.part-index c.loop-part.sum _ (omega arith) c.loop-part.invariant.small c.loop-part.invariant.told
