use Rattle.std.proofs.Common.{ap, sym, subst, arith}
use Rattle.copy_state.specs.declared.state.CopyState.{CopyState}
use Rattle.replica_node.specs.declared.parts.ReplicaParts.{ReplicaParts}
use Rattle.replica_node.specs.Replica.{MayLaunch}
use Rattle.node_merges.proofs.CopySteps.{may_launch, sends}
use Rattle.node_merges.proofs.copies.send.Goals as goal

pub launch_precopy-requires-clause-few : goal.launch_precopy-requires-clause-few
launch_precopy-requires-clause-few g c =
    let low = c.if-begun.false in
    let now = c.jobs-begun.ensures in
    let noted = ap (λ (r : ReplicaParts _). r.jobs) c.new_point.ensures.others in
    omega (arith, low, now, noted)

pub launch_precopy-requires-clause-launch : goal.launch_precopy-requires-clause-launch
launch_precopy-requires-clause-launch g c = subst (λ (s : CopyState). MayLaunch c.new_point.new.self s) (sym c.in_ok-copy.ensures)
    (may_launch c.args.state.now c.args.replica.now c.new_point.new.self c.requires.may c.new_point.ensures.seen c.new_point.ensures.copies c.new_point.ensures.job)

pub returns : goal.returns
returns g c = sends g.D.Dir.cells c.args.state.now c.in_ok-copy.copy c.in-Ok.job c.args.replica.now c.new_point.new.self c.launch_precopy.new.self c.in_ok-copy.ensures c.requires.may
    c.new_point.ensures.seen c.new_point.ensures.copies c.new_point.ensures.job c.new_point.ensures.others c.new_point.ensures.standing c.new_point.ensures.sourced c.new_point.ensures.appears
    c.in-Ok.ensures.number c.in-Ok.ensures.jobs c.in-Ok.ensures.begun c.in-Ok.ensures.others c.in-Ok.ensures.whole c.in-Ok.ensures.standing c.in-Ok.ensures.sourced
