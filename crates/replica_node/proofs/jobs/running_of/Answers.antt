use Rattle.std.proofs.Common.{◌∙◌, ap, sym, Option}
use Rattle.std.specs.Option.{option_map}
use Rattle.replica_node.specs.declared.job.PointJob.{PointJob}
use Rattle.replica_node.specs.Jobs.{running_point}
use Rattle.replica_node.proofs.Lent.{lent_some}
use Rattle.replica_node.proofs.jobs.running_of.Goals as goal

pub returns-in-Some : goal.returns-in-Some
returns-in-Some c = c.copy_of.ensures ∙ lent_some c.in-Some.point ∙ ap (λ (o : Option PointJob). option_map (λ (j : PointJob). j.copy) (running_point o)) (sym c.in-Some.is)
