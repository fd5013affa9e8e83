use Rattle.std.proofs.Common.{ap, ◌∙◌}
use Rattle.disk_model.specs.Faults.{Plans}
use Rattle.cluster_copies.proofs.FarPlans.{few_files, never_broken}
use Rattle.cluster_copies.proofs.SendPaths.{state_taken}
use Rattle.cluster_copies.proofs.sends.state_of.Goals as goal

pub returns-in-Ok-clause-state : goal.returns-in-Ok-clause-state
returns-in-Ok-clause-state g c =
    state_taken g.D.Dir.cells c.args.primary.now c.plan.new.self c.stop_at.new.self c.in-Ok.state c.plan.ensures.others c.plan.ensures.cells c.stop_at.ensures.others c.stop_at.ensures.cells c.in-Ok.ensures.state

pub unreachable-requires : goal.unreachable-requires
unreachable-requires g c =
    never_broken _ _ _ _ c.take_state.result c.in-Err-Failed.field-0 (few_files _ _ _ _ c.stop_at.ensures.whole.searched) (g.met.D.FaultDir.known c.stop_at.new.self.dir)
    (ap (λ (p : Plans). p.once) c.stop_at.ensures.plans ∙ ap (λ (p : Plans). p.once) c.plan.ensures.plans) (ap (λ (p : Plans). p.stop) c.stop_at.ensures.plans) c.take_state.ensures.calls
    c.in-Err-Failed.is c.in-Err-Failed.field-0-is
