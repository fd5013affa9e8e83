use Rattle.cluster_state.proofs.Rows.{fresh_start, refusal_rule, refusal_told, refusal_turn}
use Rattle.cluster_state.proofs.LifeRows.{fresh_no_commit}
use Rattle.cluster_state.proofs.refusals.refuse.Goals as goal

pub has_no_commit-requires : goal.has_no_commit-requires
has_no_commit-requires g c = record { line = fresh_no_commit _ c.args.at c.requires.fresh }

pub is_apart-requires-clause-line : goal.is_apart-requires-clause-line
is_apart-requires-clause-line g c = fresh_start _ c.args.at c.requires.fresh

pub note-requires-clause-rule : goal.note-requires-clause-rule
note-requires-clause-rule g c = refusal_rule _ _ c.args.at c.args.cause c.requires.fresh c.requires.cause

pub note-requires-clause-told : goal.note-requires-clause-told
note-requires-clause-told g c = refusal_told c.args.state.now.log c.args.at c.args.cause c.requires.fresh

pub note-requires-clause-turn : goal.note-requires-clause-turn
note-requires-clause-turn g c = refusal_turn _ c.args.at c.args.cause c.requires.fresh
