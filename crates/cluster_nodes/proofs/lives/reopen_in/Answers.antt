use Rattle.std.proofs.Common.{refl, sym, subst}
use Rattle.nrt_base.specs.Causes.{Rose}
use Rattle.disk_model.specs.Disk.{reads_of}
use Rattle.replica_opening.specs.Opening.{CanOpen}
use Rattle.replica_opening.specs.Opened.{IsSettledOn, IsHandedBack}
use Rattle.replica_node.specs.Starting.{OpensOn}
use Rattle.cluster_nodes.proofs.Taking.{moved_one}
use Rattle.cluster_nodes.proofs.lives.reopen_in.Goals as goal

pub start_from-requires : goal.start_from-requires
start_from-requires g c = subst (λ d. IsSettledOn (g.D.Dir.cells d)) (sym c.dir_in-dir.ensures) (c.requires.settled c.take-node.result c.take-node.ensures.place)

pub has_disk_failed-requires : goal.has_disk_failed-requires
has_disk_failed-requires g c = c.in-Err.ensures.opens (subst (λ d. CanOpen (reads_of (g.D.Dir.cells d))) (sym c.dir_in-dir.ensures) (c.requires.opens c.take-node.result c.take-node.ensures.place))

pub returns-in-Ok : goal.returns-in-Ok
returns-in-Ok g c = record {
  place = c.take-node.result;
  there = c.take-node.ensures.place;
  replica = c.in-Ok.replica;
  opens = subst (λ d. OpensOn g.D.Dir.cells d c.in-Ok.replica) c.dir_in-dir.ensures c.in-Ok.ensures.opened;
  version = sym c.version-version.ensures.version;
  moves = moved_one _ _ _ c.args.n.0 _ c.take-node.ensures.count c.take-node.ensures.places c.put.ensures.count c.put.ensures.places;
}

pub returns-else-not-has_disk_failed : goal.returns-else-not-has_disk_failed
returns-else-not-has_disk_failed g c = record {
  place = c.take-node.result;
  there = c.take-node.ensures.place;
  dir = c.in-Err.refused.dir;
  back = subst (λ d. IsHandedBack (g.D.Dir.cells d) (g.D.Dir.cells c.in-Err.refused.dir)) c.dir_in-dir.ensures c.in-Err.ensures.refused.back;
  rose = subst (λ d. Rose (g.D.Dir.faults d) (g.D.Dir.faults c.in-Err.refused.dir)) c.dir_in-dir.ensures (c.in-Err.ensures.refused.failed (c.if-not-has_disk_failed.ensures.failed refl));
  moves = moved_one _ _ _ c.args.n.0 _ c.take-node.ensures.count c.take-node.ensures.places c.put-in-Err.ensures.count c.put-in-Err.ensures.places;
}
