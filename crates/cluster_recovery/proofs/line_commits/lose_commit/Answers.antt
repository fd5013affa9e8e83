use Rattle.cluster_state.proofs.Rows.{legal_at, turns_at}
use Rattle.cluster_state.proofs.LifeRows.{lost_apart}
use Rattle.cluster_recovery.proofs.line_commits.lose_commit.Goals as goal

pub note-requires-clause-flights : goal.note-requires-clause-flights
note-requires-clause-flights g c =
    lost_apart _ _ c.args.at c.args.n c.args.v (legal_at _ _ _ _ c.book.ensures.nodes c.book.ensures.log c.is_legal.ensures.legal) (turns_at _ _ c.book.ensures.log c.is_legal.ensures.turns) c.requires.started c.requires.lost
