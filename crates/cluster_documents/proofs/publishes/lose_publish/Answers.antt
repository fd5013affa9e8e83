use Rattle.cluster_state.proofs.Rows.{lost_flight, legal_at, turns_at}
use Rattle.std.proofs.Common.{ap}
use Rattle.cluster_state.specs.FileChanges.{is_commit_line}
use Rattle.cluster_documents.proofs.publishes.lose_publish.Goals as goal

pub has_no_commit-requires : goal.has_no_commit-requires
has_no_commit-requires g c = record { line = ap is_commit_line c.requires.started }

pub note-requires-clause-line : goal.note-requires-clause-line
note-requires-clause-line g c =
    lost_flight _ _ c.args.at (legal_at _ _ _ _ c.book.ensures.nodes c.book.ensures.log c.is_legal.ensures.legal) (turns_at _ _ c.book.ensures.log c.is_legal.ensures.turns) c.requires.lost
