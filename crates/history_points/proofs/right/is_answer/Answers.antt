use Rattle.std.proofs.Common.{ap}
use Rattle.documents.specs.declared.answer.Answer.{Answer}
use Rattle.documents.specs.Documents.{documents_in}
use Rattle.documents.proofs.RankLemmas.{not_told}
use Rattle.history_points.proofs.right.is_answer.Goals as goal

pub returns-in-None-clause-right : goal.returns-in-None-clause-right
returns-in-None-clause-right c =
    let high = rw c.in-None.is at c.in_ok-right.ensures.answer in (
      λ e. absurd cc,
      λ same. absurd (not_told c.args.query.now (documents_in c.args.searched.now.texts) c.args.answer.now.hits c.read_first_rank.ensures high (ap (λ (a : Answer). a.hits) same)),
    )
