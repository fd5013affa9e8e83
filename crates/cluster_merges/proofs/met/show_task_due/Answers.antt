use Rattle.std.proofs.Common.{true, sym}
use Rattle.history_book.specs.Log.{printed}
use Rattle.cluster_state.proofs.FilesDue.{none_due}
use Rattle.cluster_merges.proofs.DueFiles.{merges_then, fetches_merge}
use Rattle.cluster_merges.proofs.met.show_task_due.Goals as goal

-- no fault is due

pub returns-then-comes_whole-clause-fate : goal.returns-then-comes_whole-clause-fate
returns-then-comes_whole-clause-fate c = sym (c.comes_whole.ensures.whole c.if-comes_whole.true)

pub returns-then-comes_whole-clause-log : goal.returns-then-comes_whole-clause-log
returns-then-comes_whole-clause-log c = sym (none_due true c.args.at c.args.n.0 c.args.ledger.now.log (c.comes_whole.ensures.whole c.if-comes_whole.true))

-- one is

pub show_due-requires-clause-works : goal.show_due-requires-clause-works
show_due-requires-clause-works c = merges_then c.args.at c.args.n.0 c.args.ledger.now.log c.requires.merges (c.comes_whole.ensures.broken c.if-comes_whole.false)

pub show_due-requires-clause-fetched : goal.show_due-requires-clause-fetched
show_due-requires-clause-fetched c =
    fetches_merge c.args.ledger.now.nodes c.args.at (printed c.args.ledger.now.log) c.args.n.0
    (merges_then c.args.at c.args.n.0 c.args.ledger.now.log c.requires.merges (c.comes_whole.ensures.broken c.if-comes_whole.false)) c.requires.replica

pub show_due-requires-clause-alive : goal.show_due-requires-clause-alive
show_due-requires-clause-alive c = c.requires.replica.running
