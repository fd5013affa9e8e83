use Rattle.cluster_state.proofs.BookLaws.{primary_is_node}
use Rattle.cluster_state.proofs.Ledgers.{legal_of, told_of}
use Rattle.history_rules.specs.Nodes.{primary_of}
use Rattle.std.proofs.Common.{ap, ◌∙◌}
use Rattle.cluster_state.specs.Run.{Run}
use Rattle.history_book.specs.Log.{printed}
use Rattle.cluster_state.proofs.cluster.ClusterState.primary.Goals as goal

pub returns-clause-node : goal.returns-clause-node
returns-clause-node g c = primary_is_node g.D.Dir.cells c.args.self.now _ c.self.inside.ledger _ _ c.self.view_is c.requires.running (λ e. (c.self.invariant e).0) (legal_of c.book-book.ensures.nodes c.book-book.ensures.log c.is_legal.ensures.legal) (told_of c.book-book.ensures.log primary_of c.primary.ensures)

pub returns-clause-is : goal.returns-clause-is
returns-clause-is g c = told_of c.book-book.ensures.log primary_of c.primary.ensures ∙ ap (λ (r : Run). primary_of (printed r.log)) c.self.view_is
