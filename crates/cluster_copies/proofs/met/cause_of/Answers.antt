use Rattle.std.proofs.Common.{Err, ap, subst, sym}
use Rattle.copy_job.specs.declared.fault.JobFault.{JobFault}
use Rattle.link_model.specs.declared.fate.Fate.{Fate}
use Rattle.cluster_state.specs.DueFaults.{ArrivesBy, fate_cause}
use Rattle.cluster_copies.proofs.met.cause_of.Goals as goal

pub returns-in-LinkFailed : goal.returns-in-LinkFailed
returns-in-LinkFailed c = ap (λ (f : Fate). fate_cause f c.args.file.now.name) (sym (subst (λ (e : JobFault). ArrivesBy c.args.file.now (Err e)) c.in-LinkFailed.is c.requires))

pub returns-in-Damaged : goal.returns-in-Damaged
returns-in-Damaged c = ap (λ (f : Fate). fate_cause f c.args.file.now.name) (sym (subst (λ (e : JobFault). ArrivesBy c.args.file.now (Err e)) c.in-Damaged.is c.requires).0.1)

pub unreachable-requires : goal.unreachable-requires
unreachable-requires c = subst (λ (e : JobFault). ArrivesBy c.args.file.now (Err e)) c.in-Memory.is c.requires

pub unreachable-requires-in-DirFailed : goal.unreachable-requires-in-DirFailed
unreachable-requires-in-DirFailed c = subst (λ (e : JobFault). ArrivesBy c.args.file.now (Err e)) c.in-DirFailed.is c.requires

pub unreachable-requires-in-NameClash : goal.unreachable-requires-in-NameClash
unreachable-requires-in-NameClash c = subst (λ (e : JobFault). ArrivesBy c.args.file.now (Err e)) c.in-NameClash.is c.requires
