use Rattle.std.proofs.Common.{map, false, refl}
use Rattle.cluster_state.specs.Met.{met_in, with_met}
use Rattle.cluster_state.proofs.Behind.{may_follow, reigns_behind}
use Rattle.cluster_state.proofs.met.note_met.Goals as goal

pub show-requires-clause-rule : goal.show-requires-clause-rule
show-requires-clause-rule g c =
    (may_follow c.args.ledger.now.nodes c.show_met.new.ledger.nodes c.args.at c.args.event c.args.before.now (map (met_in g.D.FaultDir.planned) c.args.places.now.items) c.args.ledger.now.log c.show_met.new.ledger.log
    c.show_met.ensures.log c.show_met.ensures.nodes c.requires.over c.requires.rule c.requires.turn c.requires.told).rule

pub show-requires-clause-turn : goal.show-requires-clause-turn
show-requires-clause-turn g c =
    (may_follow c.args.ledger.now.nodes c.show_met.new.ledger.nodes c.args.at c.args.event c.args.before.now (map (met_in g.D.FaultDir.planned) c.args.places.now.items) c.args.ledger.now.log c.show_met.new.ledger.log
    c.show_met.ensures.log c.show_met.ensures.nodes c.requires.over c.requires.rule c.requires.turn c.requires.told).turn

pub show-requires-clause-told : goal.show-requires-clause-told
show-requires-clause-told g c =
    (may_follow c.args.ledger.now.nodes c.show_met.new.ledger.nodes c.args.at c.args.event c.args.before.now (map (met_in g.D.FaultDir.planned) c.args.places.now.items) c.args.ledger.now.log c.show_met.new.ledger.log
    c.show_met.ensures.log c.show_met.ensures.nodes c.requires.over c.requires.rule c.requires.turn c.requires.told).told

pub show-requires-clause-reigns : goal.show-requires-clause-reigns
show-requires-clause-reigns g c =
    reigns_behind c.args.at c.args.event c.args.before.now (map (met_in g.D.FaultDir.planned) c.args.places.now.items) c.args.ledger.now.log c.show_met.new.ledger.log c.show_met.ensures.log c.requires.reigns

pub returns-clause-rule : goal.returns-clause-rule
returns-clause-rule g c =
    (may_follow c.args.ledger.now.nodes c.args.ledger.now.nodes c.args.at c.args.event c.args.before.now (map (met_in g.D.FaultDir.planned) c.args.places.now.items) c.args.ledger.now.log
    (with_met false c.args.at 1 c.args.before.now (map (met_in g.D.FaultDir.planned) c.args.places.now.items) c.args.ledger.now.log)
    refl refl c.requires.over c.requires.rule c.requires.turn c.requires.told).rule

pub returns-clause-turn : goal.returns-clause-turn
returns-clause-turn g c =
    (may_follow c.args.ledger.now.nodes c.args.ledger.now.nodes c.args.at c.args.event c.args.before.now (map (met_in g.D.FaultDir.planned) c.args.places.now.items) c.args.ledger.now.log
    (with_met false c.args.at 1 c.args.before.now (map (met_in g.D.FaultDir.planned) c.args.places.now.items) c.args.ledger.now.log)
    refl refl c.requires.over c.requires.rule c.requires.turn c.requires.told).turn
