use Rattle.std.specs.List.Sorted.{IsStrictlySortedBy}
use Rattle.std.proofs.Common.{refl, ap}
use Rattle.copy_job.specs.Jobs.{Job}
use Rattle.node_tests.proofs.Copying.{begun_names}
use Rattle.node_tests.proofs.takeovers.lacking.Goals as goal

pub begin-requires-clause-held : goal.begin-requires-clause-held
unfolding IsStrictlySortedBy
begin-requires-clause-held c = tt

pub returns-in-Ok-clause-parts : goal.returns-in-Ok-clause-parts
returns-in-Ok-clause-parts c = ap (λ (j : Job). j.parts) c.in-Ok.ensures.job

pub returns-in-Ok-clause-names : goal.returns-in-Ok-clause-names
returns-in-Ok-clause-names c = begun_names _ _ c.args.want _ refl c.in-Ok.job c.in-Ok.ensures.job
