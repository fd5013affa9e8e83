use Rattle.std.proofs.Common.{◌≡◌, true, map, sym, subst}
use Rattle.history_rules.specs.Nodes.{is_running}
use Rattle.history_book.specs.Log.{Log, printed}
use Rattle.cluster_state.specs.Met.{met_in}
use Rattle.cluster_recovery.proofs.MetLives.{met_running}
use Rattle.cluster_recovery.proofs.lives.note_crashed.Goals as goal

pub show_crashed-requires-clause-runs : goal.show_crashed-requires-clause-runs
show_crashed-requires-clause-runs g c =
    subst (λ (l : Log). is_running c.args.n.0 (printed l) ≡ true) (sym c.show_met.ensures.log)
    (met_running c.args.at c.args.before.now (map (met_in g.D.FaultDir.planned) c.args.places.now.items) c.args.ledger.now.log c.args.n.0 c.requires.up)
