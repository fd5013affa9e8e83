use Rattle.std.proofs.Common.{sym, subst}
use Rattle.history_book.specs.Log.{Log}
use Rattle.merge_tasks.specs.Merging.{MergesShow}
use Rattle.merge_tasks.proofs.MergeFrames.{merges_kept}
use Rattle.merge_tasks.proofs.FateLaws.{plans_at, plans_kept}
use Rattle.merge_tasks.proofs.ledger.Ledger.keep.Goals as goal

pub invariant_of-self : goal.invariant_of-self
invariant_of-self c = (
  subst (λ (l : Log). MergesShow l c.self.inside.merges) (sym c.keep.ensures.log) (merges_kept _ c.self.inside.merges c.args.inner c.requires.apart c.self.invariant.0),
  plans_at c.step_inside.new.rows.items c.keep.ensures.log c.keep.ensures.nodes
      (plans_kept _ _ c.self.inside.plans.items c.step_inside.new.rows.items c.args.inner c.step_inside.ensures.count c.step_inside.ensures.rows c.self.invariant.1),
)
