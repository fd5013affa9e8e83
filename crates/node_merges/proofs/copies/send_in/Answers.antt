use Rattle.node_merges.specs.MergeChanges.{SendsMerged}
use Rattle.node_merges.proofs.MergeSteps.{replica_answers}
use Rattle.node_merges.proofs.copies.send_in.Goals as goal

pub send-sent-requires-clause-may : goal.send-sent-requires-clause-may
send-sent-requires-clause-may g c = c.requires.may.may _ _ c.take_replica-replica.ensures.place

pub returns : goal.returns
returns g c = replica_answers (λ job. SendsMerged g.D.Dir.cells c.args.state.now job) c.send-sent.result c.args.places.now.items c.take_replica-replica.new.places.items c.put.new.places.items c.args.n.0 _ _ _ c.requires.may.slot
    c.take_replica-replica.ensures.count c.take_replica-replica.ensures.places c.put.ensures.count c.put.ensures.places c.take_replica-replica.ensures.place c.send-sent.ensures
