use Rattle.cluster_state.proofs.LifeRows.{fresh_no_commit}
use Rattle.cluster_state.proofs.Rows.{fresh_start}
use Rattle.cluster_recovery.proofs.faults.plan_fault.Goals as goal

pub is_apart-requires-clause-line : goal.is_apart-requires-clause-line
is_apart-requires-clause-line g c = fresh_start _ c.args.at c.requires.fresh

pub has_no_commit-requires : goal.has_no_commit-requires
has_no_commit-requires g c = record { line = fresh_no_commit _ c.args.at c.requires.fresh }
