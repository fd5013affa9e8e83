use Rattle.query_eval.proofs.BestLemmas.{beyond_last}
use Rattle.query_eval.proofs.best.are_beyond.Goals as goal

pub returns : goal.returns
returns c = λ less. beyond_last c.args.hits.now c.args.rank c.index-hits.result c.if-hits-lt-MOST_HITS.false c.index-hits.is less
