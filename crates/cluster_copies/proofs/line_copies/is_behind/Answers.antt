use Rattle.cluster_copies.proofs.CopyRows.{reached_by}
use Rattle.cluster_copies.proofs.line_copies.is_behind.Goals as goal

pub returns-clause-reached : goal.returns-clause-reached
returns-clause-reached c = λ other. reached_by _ _ c.args.n.0 _ _ c.is_legal.ensures.legal c.version.ensures c.newest.ensures other
