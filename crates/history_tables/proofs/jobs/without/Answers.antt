use Rattle.std.proofs.Common.{◌==◌, rules}
use Rattle.std.specs.Prelude.{not}
use Rattle.std.proofs.lemmas.Fn.{filter_same}
use Rattle.history_tables.specs.declared.jobs.KeyedJob.{KeyedJob}
use Rattle.history_tables.proofs.jobs.without.Goals as goal

pub returns-clause-rows : goal.returns-clause-rows
returns-clause-rows c = filter_same _ (λ (r : KeyedJob). not (r.key == c.args.key)) _ (λ x b g h. search rules) _ _ c.retain.ensures.filtered
