use Rattle.std.proofs.Common.{subst}
use Rattle.query_eval.specs.Rows.{RowsAscend}
use Rattle.query_eval.proofs.WordRowLemmas.{left_above}
use Rattle.query_eval.proofs.word.WordRows.next_from.Goals as goal

pub returns-clause-above : goal.returns-clause-above
returns-clause-above c = left_above c.args.row c.args.self.now c.move_to.new.self c.move_to.ensures (subst RowsAscend c.self.view_is c.self.invariant)
