use Rattle.std.proofs.Common.{◌∙◌, ap, ◌+◌, ℕ, length, length-append}
use Rattle.history_tables.proofs.NodeRowLemmas.{first_more}
use Rattle.history_tables.proofs.rows.first_rows.Goals as goal

pub loop-next-preserved : goal.loop-next-preserved
loop-next-preserved c = record {
  count = ap length c.in_ok-push.ensures.items ∙ (length-append c.loop-next.rows.items _ ∙ ap (λ (n : ℕ). n + 1) c.loop-next.invariant.count);
  rows = first_more c.loop-next.rows.items _ c.first.result c.in_ok-push.ensures.items c.first.ensures c.loop-next.invariant.rows;
}
