use Rattle.std.proofs.Common.{◌∷◌, ◌+◌, ◌∙◌, List, true, ap}
use Rattle.history_book.specs.Log.{Log, kept}
use Rattle.history_book.specs.declared.inner.Inner.TheVariants.{TaskEnd}
use Rattle.history_book.specs.declared.inner.Step.TheVariants.{PreCopy as PreCopyStep}
use Rattle.merge_tasks.specs.declared.drains.DrainCount.{DrainCount}
use Rattle.merge_tasks.specs.Board.{done_under, counts_one}
use Rattle.cluster_merges.proofs.precopies.end_task.Goals as goal

pub returns-clause-ok : goal.returns-clause-ok
returns-clause-ok g c = record {
  log = c.keep.ensures.log ∙ ap (λ (l : Log). kept (TaskEnd c.args.line c.args.seg c.args.by (PreCopyStep c.args.n c.args.job) true) ∷ l) c.in_ok-show_task_met.ensures.log;
  nodes = c.keep.ensures.nodes ∙ c.show_task_met.ensures.nodes;
  cut = c.keep.ensures.cut ∙ c.show_task_met.ensures.cut;
  rows = c.count.ensures.rows ∙ c.in_ok-settle.ensures.rows;
  posted = c.count.ensures.posted ∙ c.in_ok-settle.ensures.posted;
  counts = λ x. c.in_ok-count.ensures.counts x ∙ ap (λ (l : List DrainCount). done_under x l + counts_one x c.args.by) c.settle.ensures.counts;
}
