use Rattle.std.proofs.Common.{◌∙◌, false, ap, refl}
use Rattle.history_rules.specs.declared.cause.FaultKind.TheVariants.{Stop}
use Rattle.history_book.specs.Log.{Log}
use Rattle.cluster_state.specs.Met.{fault_if}
use Rattle.cluster_recovery.proofs.StaysDown.{stop_stands, still_unanswered, still_first, down_rule, down_turn}
use Rattle.cluster_recovery.proofs.down.note_down.Goals as goal

pub show_first-requires-2-clause-planned : goal.show_first-requires-2-clause-planned
show_first-requires-2-clause-planned c = stop_stands c.args.at c.args.n.0 c.args.before.0 c.args.now.0 c.args.before.1 c.args.now.1 c.args.ledger.now.log c.show_first.new.ledger.log c.show_first.ensures.log c.requires.stop

pub show_first-requires-2-clause-unanswered : goal.show_first-requires-2-clause-unanswered
show_first-requires-2-clause-unanswered c = still_unanswered c.args.at c.args.n.0 c.args.before.0 c.args.now.0 c.args.ledger.now.log c.show_first.new.ledger.log c.show_first.ensures.log c.requires.fresh.replied

pub show_first-requires-2-clause-unbegun : goal.show_first-requires-2-clause-unbegun
show_first-requires-2-clause-unbegun c = still_first c.args.at c.args.n.0 c.args.before.0 c.args.now.0 c.args.ledger.now.log c.show_first.new.ledger.log c.show_first.ensures.log c.requires.fresh.last

pub show-requires-clause-rule : goal.show-requires-clause-rule
show-requires-clause-rule c = down_rule c.args.ledger.now.nodes c.show_first-2.new.ledger.nodes c.args.at c.args.n.0 c.args.before c.args.now c.args.ledger.now.log c.show_first-2.new.ledger.log (c.show_first-2.ensures.log ∙ ap (λ (l : Log). fault_if false c.args.at c.args.n.0 Stop c.args.before.1 c.args.now.1 l) c.show_first.ensures.log) c.requires.fresh.begun c.requires.rose

pub show-requires-clause-turn : goal.show-requires-clause-turn
show-requires-clause-turn c = down_turn c.args.at c.args.n.0 c.args.before c.args.now c.args.ledger.now.log c.show_first-2.new.ledger.log (c.show_first-2.ensures.log ∙ ap (λ (l : Log). fault_if false c.args.at c.args.n.0 Stop c.args.before.1 c.args.now.1 l) c.show_first.ensures.log) c.requires.fresh.begun

pub returns-clause-rule : goal.returns-clause-rule
returns-clause-rule c = down_rule c.args.ledger.now.nodes c.args.ledger.now.nodes c.args.at c.args.n.0 c.args.before c.args.now c.args.ledger.now.log _ refl c.requires.fresh.begun c.requires.rose

pub returns-clause-turn : goal.returns-clause-turn
returns-clause-turn c = down_turn c.args.at c.args.n.0 c.args.before c.args.now c.args.ledger.now.log _ refl c.requires.fresh.begun
