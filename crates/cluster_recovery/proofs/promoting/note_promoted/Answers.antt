use Rattle.std.proofs.Common.{map}
use Rattle.cluster_state.specs.Met.{met_in}
use Rattle.cluster_recovery.proofs.MetLives.{met_promotion}
use Rattle.cluster_recovery.proofs.promoting.note_promoted.Goals as goal

pub show_promoted-requires-clause-rule : goal.show_promoted-requires-clause-rule
show_promoted-requires-clause-rule g c =
    met_promotion c.args.at c.args.before.now (map (met_in g.D.FaultDir.planned) c.args.places.now.items) c.args.ledger.now.log c.args.ledger.now.nodes c.show_met.new.ledger.nodes c.show_met.new.ledger.log c.args.n c.args.generation c.args.forced c.args.v c.show_met.ensures.log c.show_met.ensures.nodes c.requires.rule
