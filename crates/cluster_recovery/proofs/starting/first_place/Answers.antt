use Rattle.cluster_recovery.proofs.FirstNodes.{opens_primary, opens_replica}
use Rattle.cluster_recovery.proofs.starting.first_place.Goals.{then-n-eq1+in_ok-first_primary, else-n-eq1}
use Rattle.cluster_recovery.proofs.starting.first_place.Goals as goal

pub returns : goal.returns
returns g c = elim c.if-n-eq1.branch [
  | then-n-eq1+in_ok-first_primary w ↦
      opens_primary g.D.Dir.cells c.args.n _ c.new-held.result c.if-n-eq1.node w.if-n-eq1.true w.node-is c.new-held.ensures.items w.in_ok-first_primary.ensures.shows w.in_ok-first_primary.ensures.files w.in_ok-first_primary.ensures.names w.in_ok-first_primary.ensures.commits
  | else-n-eq1 w ↦
      opens_replica g.D.Dir.cells c.args.n c.in_ok-replica.replica c.new-held.result c.if-n-eq1.node w.if-n-eq1.false w.node-is c.new-held.ensures.items c.in_ok-replica.ensures
]
