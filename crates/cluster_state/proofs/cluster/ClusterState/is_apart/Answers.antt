use Rattle.cluster_state.proofs.BookLaws.{apart_of}
use Rattle.cluster_state.proofs.Ledgers.{legal_of, turns_of}
use Rattle.cluster_state.proofs.cluster.ClusterState.is_apart.Goals as goal

pub returns : goal.returns
returns g c = apart_of c.args.self.now _ c.self.inside.ledger c.args.at c.self.view_is (legal_of c.book-book.ensures.nodes c.book-book.ensures.log c.is_legal.ensures.legal) (turns_of c.book-book.ensures.log c.is_legal.ensures.turns) c.requires.line
