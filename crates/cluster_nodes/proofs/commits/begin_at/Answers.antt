use Rattle.cluster_nodes.proofs.CommitPlaces.{primary_begins, replica_begins}
use Rattle.cluster_nodes.proofs.commits.begin_at.Goals as goal

pub returns-in_ok-commit_begin-in-Primary : goal.returns-in_ok-commit_begin-in-Primary
returns-in_ok-commit_begin-in-Primary g c = primary_begins g.D.Dir.cells c.holds_no_more.ensures.begun c.args.node.now c.in-Primary.primary c.commit_begin.new.self c.in-Primary.is c.commit_begin.ensures.others c.commit_begin.ensures.stays c.commit_begin.ensures.whole c.in_ok-commit_begin-in-Primary.ensures.begun

pub returns-in_ok-commit_begin-in-Replica : goal.returns-in_ok-commit_begin-in-Replica
returns-in_ok-commit_begin-in-Replica g c = replica_begins g.D.Dir.cells c.args.node.now c.in-Replica.replica c.commit_begin-in-Replica.new.self c.in-Replica.is c.commit_begin-in-Replica.ensures.others c.commit_begin-in-Replica.ensures.whole
    c.commit_begin-in-Replica.ensures.standing c.commit_begin-in-Replica.ensures.sourced c.in_ok-commit_begin-in-Replica.ensures.begun
