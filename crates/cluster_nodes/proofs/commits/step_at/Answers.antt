use Rattle.cluster_nodes.proofs.CommitPlaces.{primary_steps, primary_fails, replica_steps, replica_fails}
use Rattle.cluster_nodes.proofs.commits.step_at.Goals as goal

pub returns-in-Ok : goal.returns-in-Ok
returns-in-Ok g c = primary_steps g.D.Dir.cells c.holds_no_more.ensures.step c.args.node.now c.in-Primary.primary c.commit_step.new.self c.in-Ok.done c.in-Primary.is c.commit_step.ensures.others c.commit_step.ensures.stays c.commit_step.ensures.appears c.commit_step.ensures.whole
    c.in-Ok.ensures.ok c.in-Ok.ensures.done

pub returns-in-Ok-commit_step : goal.returns-in-Ok-commit_step
returns-in-Ok-commit_step g c = replica_steps g.D.Dir.cells c.args.node.now c.in-Replica.replica c.commit_step-in-Replica.new.self c.in-Ok-commit_step.done c.in-Replica.is c.commit_step-in-Replica.ensures.others c.commit_step-in-Replica.ensures.whole
    c.commit_step-in-Replica.ensures.standing c.commit_step-in-Replica.ensures.sourced c.commit_step-in-Replica.ensures.appears c.in-Ok-commit_step.ensures.ok c.in-Ok-commit_step.ensures.done

pub returns-in_ok-is_commit_failed-in-Err : goal.returns-in_ok-is_commit_failed-in-Err
returns-in_ok-is_commit_failed-in-Err g c = primary_fails g.D.Dir.cells c.args.node.now c.in-Primary.primary c.commit_step.new.self c.in-Primary.is c.commit_step.ensures.others c.commit_step.ensures.stays c.commit_step.ensures.appears c.commit_step.ensures.whole c.in-Err.ensures.err

pub returns-in_ok-is_commit_failed-in-Err-commit_step : goal.returns-in_ok-is_commit_failed-in-Err-commit_step
returns-in_ok-is_commit_failed-in-Err-commit_step g c = replica_fails g.D.Dir.cells c.args.node.now c.in-Replica.replica c.commit_step-in-Replica.new.self c.in-Replica.is c.commit_step-in-Replica.ensures.others c.commit_step-in-Replica.ensures.whole
    c.commit_step-in-Replica.ensures.standing c.commit_step-in-Replica.ensures.sourced c.commit_step-in-Replica.ensures.appears c.in-Err-commit_step.ensures.err
