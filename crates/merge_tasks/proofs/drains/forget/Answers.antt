use Rattle.std.proofs.Common.{rules}
use Rattle.std.specs.Prelude.{not}
use Rattle.std.proofs.lemmas.Fn.{filter_same}
use Rattle.history_rules.specs.Lines.{same_at}
use Rattle.merge_tasks.specs.declared.drains.DrainCount.{DrainCount}
use Rattle.merge_tasks.proofs.drains.forget.Goals as goal

pub returns : goal.returns
returns c = filter_same _ (λ (r : DrainCount). not (same_at r.at c.args.at)) _ (λ x b g h. search rules) _ _ c.retain.ensures.filtered
