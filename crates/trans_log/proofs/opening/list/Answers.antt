use Rattle.std.proofs.Common.{refl}
use Rattle.trans_log.proofs.Calm.{calm_stays, never_told}
use Rattle.trans_log.proofs.opening.list.Goals as goal

pub returns-in-Ok-clause-calm : goal.returns-in-Ok-clause-calm
returns-in-Ok-clause-calm g c = λ none. calm_stays _ _ c.list.result c.list.ensures.plans none

pub returns-in-Err-clause-calm : goal.returns-in-Err-clause-calm
returns-in-Err-clause-calm g c = λ none. calm_stays _ _ c.list.result c.list.ensures.plans none

pub returns-in-Err-clause-unfailed : goal.returns-in-Err-clause-unfailed
returns-in-Err-clause-unfailed g c = λ none. never_told _ _ c.list.result c.in-Err.fault c.refusal.result _ c.list.ensures.plans c.in-Err.is c.refusal.ensures.failed refl none
