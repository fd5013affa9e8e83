use Rattle.std.proofs.Common.{sym, subst, true}
use Rattle.history_rules.specs.declared.entry.Event.TheVariants.{Fault}
use Rattle.history_book.specs.Log.{Log}
use Rattle.merge_tasks.specs.Merging.{MergesShow}
use Rattle.merge_tasks.proofs.MergeFrames.{merges_faulted}
use Rattle.merge_tasks.proofs.FateLaws.{plans_at, plans_shown}
use Rattle.merge_tasks.proofs.ledger.Ledger.show_task_fault.Goals as goal

pub invariant_of-self : goal.invariant_of-self
invariant_of-self c = (
  subst (λ (l : Log). MergesShow l c.self.inside.merges) (sym c.show_task_fault.ensures.log) (merges_faulted _ c.self.inside.merges c.args.at c.args.n c.args.kind c.self.invariant.0),
  plans_at c.step_plans.new.rows.items c.show_task_fault.ensures.log c.show_task_fault.ensures.nodes
      (plans_shown true _ _ c.self.inside.plans.items c.step_plans.new.rows.items c.args.at (Fault c.args.n c.args.kind) c.step_plans.ensures.count c.step_plans.ensures.rows c.self.invariant.1),
)
