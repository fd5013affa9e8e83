use Rattle.std.proofs.Common.{◌==◌, rules}
use Rattle.std.specs.Prelude.{not}
use Rattle.std.proofs.lemmas.Fn.{filter_same}
use Rattle.merge_tasks.specs.declared.tasks.OpenMerge.{OpenMerge}
use Rattle.merge_tasks.proofs.rows.leave_out.Goals as goal

pub returns : goal.returns
returns c = filter_same _ (λ (r : OpenMerge). not (r.seg.0 == c.args.seg.0)) _ (λ x b g h. search rules) _ _ c.retain.ensures.filtered
