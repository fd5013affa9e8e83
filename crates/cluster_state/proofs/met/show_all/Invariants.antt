use Rattle.std.proofs.Common.{◌≡◌, ◌≤◌, ◌+◌, ◌*◌, drop, map}
use Rattle.history_book.specs.Log.{printed}
use Rattle.cluster_state.specs.Met.{met_in, with_met, MayMeet, ArePlanned}
use Rattle.cluster_state.proofs.met.show_all.Given as goal

abbrev pub invariant-loop-i : goal.invariant-loop-i
invariant-loop-i g l =
    (with_met l.task l.at (l.i + 1) (drop l.i l.before) (map (met_in g.D.FaultDir.planned) (drop l.i l.places.items)) l.ledger.log
    ≡ with_met l.task l.at 1 l.before (map (met_in g.D.FaultDir.planned) l.places.items) l.initial.ledger.log)
    × MayMeet l.task l.at (printed l.ledger.log)
    × ArePlanned (l.i + 1) (drop l.i l.before) (map (met_in g.D.FaultDir.planned) (drop l.i l.places.items)) (printed l.ledger.log)
    × (l.ledger.nodes ≡ l.initial.ledger.nodes)
    × (l.ledger.cut ≡ l.initial.ledger.cut)
    × (l.initial.ledger.room ≤ l.ledger.room + 2 * l.i)
    × (l.ledger.jobs ≡ l.initial.ledger.jobs)
    × (l.ledger.places ≡ l.initial.ledger.places)
