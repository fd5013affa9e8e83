use Rattle.cluster_state.proofs.Disks.{none_flying}
use Rattle.cluster_state.proofs.Ledgers.{legal_of, turns_of}
use Rattle.cluster_state.proofs.cluster.ClusterState.has_no_commit.Goals as goal

pub returns : goal.returns
returns g c = none_flying c.args.self.now _ c.self.inside.ledger c.args.at c.self.view_is (legal_of c.book-book.ensures.nodes c.book-book.ensures.log c.is_legal.ensures.legal) (turns_of c.book-book.ensures.log c.is_legal.ensures.turns) c.requires.line
