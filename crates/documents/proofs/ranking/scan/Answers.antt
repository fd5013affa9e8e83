use Rattle.documents.proofs.RankLemmas.{never_too_high}
use Rattle.documents.proofs.ranking.scan.Goals as goal

pub unreachable-requires : goal.unreachable-requires
unreachable-requires c =
    let high = rw c.in-None.is at c.in_ok-answer.ensures in
    never_too_high c.args.query.now c.args.docs.now c.requires.formed high
