use Rattle.std.proofs.Common.{◌==◌, rules}
use Rattle.std.specs.Prelude.{not}
use Rattle.std.proofs.lemmas.Fn.{filter_same}
use Rattle.merge_tasks.specs.declared.merges.MergeRow.{MergeRow}
use Rattle.merge_tasks.proofs.merges.without.Goals as goal

pub returns-clause-rows : goal.returns-clause-rows
returns-clause-rows c = filter_same _ (λ (r : MergeRow). not (r.seg.0 == c.args.seg.0)) _ (λ x b g h. search rules) _ _ c.retain.ensures.filtered
