use Rattle.query_eval.proofs.WordRowLemmas.{word_bound}
use Rattle.query_eval.proofs.cursor.bound_of_word.Goals as goal

pub returns : goal.returns
returns c = word_bound c.args.row c.args.rows.now c.next_from.new.self c.next_from.result c.next_from.ensures.left c.next_from.ensures.first c.next_from.ensures.above c.next_from.ensures.ascend
