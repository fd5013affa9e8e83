use Rattle.std.proofs.Common.{None, ap, refl}
use Rattle.index_primary.specs.declared.parts.PrimaryParts.{PrimaryParts}
use Rattle.cluster_nodes.specs.Outs.{want_of}
use Rattle.cluster_nodes.proofs.Stopping.{reads_alters, still_out, stops_behind}
use Rattle.cluster_nodes.proofs.jobs.read_for.Goals as goal

pub returns-in-Ok : goal.returns-in-Ok
returns-in-Ok g c = record {
  primary = reads_alters g.D.Dir.cells c.args.primary.now c.source.new.self c.source.ensures.cells c.source.ensures.others c.source.ensures.no_new c.source.ensures.whole;
  states = ap (λ (x : PrimaryParts _). x.states) c.source.ensures.others;
  there = c.in-Ok.ensures.bytes;
  replica = refl;
}

pub stop_for-requires-clause-out : goal.stop_for-requires-clause-out
stop_for-requires-clause-out g c = still_out g.D.Dir.cells c.args.primary.now c.source.new.self (want_of c.args.replica.now.job) (ap (λ (x : PrimaryParts _). x.states) c.source.ensures.others) c.requires.out

pub returns-in_ok-stop_for-in-Err : goal.returns-in_ok-stop_for-in-Err
returns-in_ok-stop_for-in-Err g c =
    stops_behind g.D.Dir.cells None c.args.primary.now c.source.new.self c.stop_for.new.primary c.args.replica.now c.stop_for.new.replica
    (reads_alters g.D.Dir.cells c.args.primary.now c.source.new.self c.source.ensures.cells c.source.ensures.others c.source.ensures.no_new c.source.ensures.whole) (ap (λ (x : PrimaryParts _). x.states) c.source.ensures.others) c.in_ok-stop_for-in-Err.ensures
