use Rattle.history_book.specs.Log.{printed}
use Rattle.cluster_state.proofs.AtWork.{follows}
use Rattle.cluster_state.proofs.due.show_where.Goals as goal

pub show_fault-requires-clause-merge : goal.show_fault-requires-clause-merge
show_fault-requires-clause-merge c = follows c.args.task c.args.at c.args.n c.args.kind (printed c.args.ledger.now.log) c.requires.works
