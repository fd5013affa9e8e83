use Rattle.std.proofs.Common.{◌∙◌}
use Rattle.copy_job.proofs.Ascending.{named_by}
use Rattle.copy_job.proofs.takeover.is_named.Goals as goal

pub returns : goal.returns
returns c = c.is_ok.ensures.value ∙ named_by c.args.names.now c.args.name.now c.binary_search.result c.requires c.binary_search.ensures.bound c.binary_search.ensures.position
