use Rattle.documents.proofs.RankLemmas.{few_hits}
use Rattle.documents.proofs.ranking.scan_if_told.Goals as goal

pub answer_of-requires : goal.answer_of-requires
answer_of-requires c =
    let found = rw c.in-Some.is at c.in_ok-hits.ensures in
    few_hits c.args.docs.now c.args.query.now c.in-Some.hits.items c.requires found
