use Rattle.std.proofs.Common.{◌∷◌, ap, ◌∙◌, sym}
use Rattle.std.specs.Prelude.{true}
use Rattle.history_rules.specs.Lines.{publish_in_flight}
use Rattle.history_book.specs.Log.{Log, printed, kept}
use Rattle.history_book.specs.declared.inner.Inner.TheVariants.{MergeEnd, TaskEnd}
use Rattle.merge_tasks.specs.Merging.{merge_on, cut_after}
use Rattle.cluster_merges.specs.TaskMet.{mets}
use Rattle.cluster_merges.proofs.TaskBehind.{on_behind, calm_behind}
use Rattle.cluster_merges.proofs.met.end_behind.Goals as goal

pub end_merge-requires-clause-on : goal.end_merge-requires-clause-on
end_merge-requires-clause-on g c none =
    on_behind c.args.at c.args.before.now (mets g.D.FaultDir.planned c.args.places.now.items) c.args.ledger.now.log c.args.seg.0 c.requires.on
    (ap (λ (l : Log). merge_on c.args.seg.0 l) (sym c.in_ok-show_task_met.ensures.log) ∙ none)

pub end_merge-requires-clause-calm : goal.end_merge-requires-clause-calm
end_merge-requires-clause-calm g c cut =
    ap (λ (l : Log). publish_in_flight (printed l)) c.in_ok-show_task_met.ensures.log
    ∙ calm_behind c.args.at c.args.before.now (mets g.D.FaultDir.planned c.args.places.now.items) c.args.ledger.now.log (c.requires.calm cut)

pub returns-clause-ok : goal.returns-clause-ok
returns-clause-ok g c = record {
  log = c.keep.ensures.log
      ∙ ap (λ (l : Log). kept (TaskEnd c.args.line c.args.seg c.args.by c.args.step true) ∷ l) (c.end_merge.ensures.log ∙ ap (λ (l : Log). kept (MergeEnd c.args.seg c.args.cut) ∷ l) c.in_ok-show_task_met.ensures.log);
  nodes = c.keep.ensures.nodes ∙ (c.end_merge.ensures.nodes ∙ c.show_task_met.ensures.nodes);
  cut_is = c.keep.ensures.cut ∙ (c.end_merge.ensures.cut ∙ ap (cut_after c.args.cut) c.show_task_met.ensures.cut);
}
