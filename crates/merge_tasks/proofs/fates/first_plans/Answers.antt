use Rattle.std.proofs.Common.{◌∙◌, ap, ◌+◌, ℕ, length, length-append}
use Rattle.merge_tasks.proofs.FateLaws.{none_more}
use Rattle.merge_tasks.proofs.fates.first_plans.Goals as goal

pub loop-next-preserved : goal.loop-next-preserved
loop-next-preserved c = record {
  count = ap length c.in_ok-push.ensures.items ∙ (length-append c.loop-next.rows.items _ ∙ ap (λ (n : ℕ). n + 1) c.loop-next.invariant.count);
  none = none_more c.loop-next.rows.items _ c.none.result c.in_ok-push.ensures.items c.none.ensures c.loop-next.invariant.none;
}
