use Rattle.std.proofs.Common.{refl}
use Rattle.trans_log.proofs.Calm.{calm_stays, only_memory}
use Rattle.trans_log.proofs.log.write_record.Goals as goal

pub returns-in-Ok-clause-calm : goal.returns-in-Ok-clause-calm
returns-in-Ok-clause-calm g c = λ none. calm_stays _ _ c.write_new.result c.write_new.ensures.plans none

pub returns-in-Err-clause-calm : goal.returns-in-Err-clause-calm
returns-in-Err-clause-calm g c = λ none. calm_stays _ _ c.write_new.result c.write_new.ensures.plans none

pub returns-in-Err-clause-only : goal.returns-in-Err-clause-only
returns-in-Err-clause-only g c = λ none. only_memory _ _ c.write_new.result c.in-Err.fault c.refusal.result _ c.write_new.ensures.plans c.in-Err.is c.refusal.ensures.memory refl none
