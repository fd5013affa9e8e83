use Rattle.std.proofs.Common.{◌==◌, ◌&&◌, rules}
use Rattle.std.specs.Prelude.{not}
use Rattle.std.proofs.lemmas.Fn.{filter_same}
use Rattle.merge_tasks.specs.declared.tasks.Sent.{Sent}
use Rattle.merge_tasks.proofs.rows.leave_sent.Goals as goal

pub returns : goal.returns
returns c = filter_same _ (λ (s : Sent). not ((s.node.0 == c.args.n.0) && (s.job == c.args.job))) _ (λ x b g h. search rules) _ _ c.retain.ensures.filtered
