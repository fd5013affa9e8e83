use Rattle.std.proofs.Common.{ap, ◌∙◌, sym, is_some}
use Rattle.replica_node.specs.declared.parts.ReplicaParts.{ReplicaParts}
use Rattle.replica_node.specs.Merges.{copy_at}
use Rattle.node_merges.proofs.CopySteps.{takes_none, takes_part, part_fits, part_lacks, part_is, loses_writing}
use Rattle.node_merges.proofs.copies.take_merged.Goals as goal

pub returns-then-not-lacks : goal.returns-then-not-lacks
returns-then-not-lacks g c = takes_none g.D.Dir.cells c.args.job c.args.part c.args.replica.now c.in-Some.copy.now c.version.ensures.whole (sym c.in-Some.ensures)

pub arrived-requires-clause-missing : goal.arrived-requires-clause-missing
arrived-requires-clause-missing g c = part_lacks g.D.Dir.cells _ c.in-Some.copy.now c.args.part.name (c.copy_runs.ensures g.D.Dir.cells c.args.job c.args.replica.now c.in-Some.copy.now c.version.ensures.whole (sym c.in-Some.ensures)).0
    (sym c.if-not-lacks.ensures.is)

pub arrived-requires-clause-wanted : goal.arrived-requires-clause-wanted
arrived-requires-clause-wanted g c = part_fits g.D.Dir.cells _ _ c.in-Some.copy.now c.args.part.name c.args.part.meta (c.copy_runs.ensures g.D.Dir.cells c.args.job c.args.replica.now c.in-Some.copy.now c.version.ensures.whole (sym c.in-Some.ensures)).0
    (sym c.in-Some.ensures) c.lacks.ensures.job (sym c.if-not-lacks.ensures.is) c.requires.may.wanted

pub returns-in-Ok : goal.returns-in-Ok
returns-in-Ok g c = takes_part g.D.Dir.cells c.args.job c.args.part c.args.replica.now c.arrived.new.self c.in-Some.copy.now (sym c.in-Some.ensures) (sym c.if-not-lacks.ensures.is)
    (part_is g.D.Dir.cells c.args.job c.args.part.name c.args.replica.now c.arrived.new.self c.in-Some.copy.now c.copy_runs.ensures c.version.ensures.whole (sym c.in-Some.ensures) c.in-Ok.ensures.ok)
    c.in-Ok.ensures.whole c.in-Ok.ensures.standing c.in-Ok.ensures.sourced c.in-Ok.ensures.appears

pub drop_copy-requires : goal.drop_copy-requires
drop_copy-requires g c = ap (λ (z : ReplicaParts _). is_some (copy_at c.args.job z.copies.running)) c.in-Err.ensures.err ∙ c.requires.may.runs

pub returns-in_ok-is_dir_failed-in-Err : goal.returns-in_ok-is_dir_failed-in-Err
returns-in_ok-is_dir_failed-in-Err g c =
    loses_writing g.D.Dir.cells c.args.job c.args.part c.args.replica.now c.arrived.new.self c.drop_copy.new.replica c.in-Some.copy.now (sym c.in-Some.ensures) (sym c.if-not-lacks.ensures.is) c.in-Err.ensures.err
    c.in-Err.ensures.standing c.in-Err.ensures.sourced c.in-Err.ensures.appears c.drop_copy.ensures

pub is_dir_failed-requires : goal.is_dir_failed-requires
is_dir_failed-requires g c = c.in-Err.ensures.fault
