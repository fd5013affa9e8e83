use Rattle.query_eval.proofs.PhraseLemmas.{aligned_bound}
use Rattle.query_eval.proofs.cursor.bound_of_phrase.Goals as goal

pub returns : goal.returns
returns c = aligned_bound c.args.words.now c.align.new.words c.args.row c.align.result c.align.ensures.found c.align.ensures.fewer
