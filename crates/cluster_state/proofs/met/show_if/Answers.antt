use Rattle.std.proofs.lemmas.Bool.{lt-ltb}
use Rattle.history_book.specs.Log.{printed}
use Rattle.cluster_state.proofs.AtWork.{follows, may_fault}
use Rattle.cluster_state.proofs.met.show_if.Goals as goal

pub show_fault-requires-clause-rule : goal.show_fault-requires-clause-rule
show_fault-requires-clause-rule c =
    may_fault c.args.task c.args.ledger.now.nodes (printed c.args.ledger.now.log) c.args.at c.args.n c.args.kind c.requires.node (c.requires.planned (lt-ltb c.args.before c.args.now c.if-before-now.true)) c.requires.works c.requires.disk

pub show_fault-requires-clause-merge : goal.show_fault-requires-clause-merge
show_fault-requires-clause-merge c = follows c.args.task c.args.at c.args.n c.args.kind (printed c.args.ledger.now.log) c.requires.works
