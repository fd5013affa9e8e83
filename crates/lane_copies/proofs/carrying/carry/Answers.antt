use Rattle.std.proofs.Common.{Some, Err, ap, subst, sym, ◌∙◌}
use Rattle.copy_job.specs.declared.fault.JobFault.{JobFault}
use Rattle.copy_job.specs.Copying.{ArrivesByFate}
use Rattle.link_model.specs.Memory.{LinkState}
use Rattle.cluster_state.specs.DueFaults.{ArrivesBy}
use Rattle.lane_copies.proofs.Carried.{arrives_part, arrives_fault}
use Rattle.lane_copies.proofs.carrying.carry.Goals as goal

pub returns-in-Ok : goal.returns-in-Ok
returns-in-Ok g c =
    arrives_part c.args.file.now c.copy_file.result c.in-Ok.part c.in-Ok.is (subst (λ (o : _). ArrivesByFate o c.copy_file.result) (ap (λ (m : LinkState). Some m.next) (c.new-2.ensures ∙ c.with_fate-memory.ensures)) c.copy_file.ensures.fate)
    c.copy_file.ensures.part

pub returns : goal.returns
returns g c =
    subst (λ (fault : JobFault). ArrivesBy c.args.file.now (Err fault)) (sym c.in_ok-kept-in-Err.ensures.same)
    (arrives_fault c.args.file.now _ _ _ _ c.copy_file.result c.in-Err.fault c.in-Err.is c.in_ok-kept-in-Err.ensures.other
    (subst (λ (o : _). ArrivesByFate o c.copy_file.result) (ap (λ (m : LinkState). Some m.next) (c.new-2.ensures ∙ c.with_fate-memory.ensures)) c.copy_file.ensures.fate) c.copy_file.ensures.causes)
