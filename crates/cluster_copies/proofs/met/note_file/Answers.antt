use Rattle.std.proofs.Common.{◌≡◌, ◌∙◌, ◌∷◌, List, ℕ, Some, false, true, ap, map, refl, subst, sym}
use Rattle.codec_frame.specs.Bytes.{AreBytes}
use Rattle.history_rules.specs.Lines.{is_answered}
use Rattle.history_rules.specs.Nodes.{is_running}
use Rattle.history_rules.specs.Rules.{fetches_at}
use Rattle.history_book.specs.Log.{Log, printed, kept}
use Rattle.history_book.specs.declared.inner.Inner.TheVariants.{FileOut}
use Rattle.merge_tasks.specs.Fates.{fate_due}
use Rattle.cluster_state.specs.DueFaults.{with_due}
use Rattle.cluster_state.specs.Met.{met_in, with_met}
use Rattle.cluster_copies.proofs.MetLines.{met_words}
use Rattle.cluster_copies.proofs.met.note_file.Goals as goal

pub show_due-fate-requires-clause-works : goal.show_due-fate-requires-clause-works
show_due-fate-requires-clause-works g c =
    let w = met_words c.args.row.job.at c.args.row.job.at c.args.before.now (map (met_in g.D.FaultDir.planned) c.args.places.now.items) c.args.ledger.now.log in
    subst (λ (l : Log). is_answered c.args.row.job.at (printed l) ≡ false) (sym c.show_met.ensures.log) (w.answered ∙ c.requires.tells.unanswered)

pub show_due-fate-requires-clause-fetched : goal.show_due-fate-requires-clause-fetched
show_due-fate-requires-clause-fetched g c =
    subst (λ (z : ℕ × Log). fetches_at z.0 c.args.row.job.at (printed z.1) c.args.row.job.node.0 ≡ true) (λ i. (sym c.show_met.ensures.nodes i, sym c.show_met.ensures.log i)) c.requires.fetched

pub show_due-fate-requires-clause-alive : goal.show_due-fate-requires-clause-alive
show_due-fate-requires-clause-alive g c =
    let w = met_words c.args.row.job.at c.args.row.job.at c.args.before.now (map (met_in g.D.FaultDir.planned) c.args.places.now.items) c.args.ledger.now.log in
    subst (λ (l : Log). is_running c.args.row.job.node.0 (printed l) ≡ true) (sym c.show_met.ensures.log) (w.running c.args.row.job.node.0 ∙ c.requires.alive)

pub returns-clause-ok : goal.returns-clause-ok
returns-clause-ok g c = record {
  task_is = refl;
  bytes = subst AreBytes c.as_slice.ensures c.are_bytes.ensures;
  fate = c.show_due-fate.ensures.fate ∙ ap (fate_due c.args.row.job.node.0) c.show_met.ensures.log;
  spared = c.in_ok-must_be_spared.ensures;
  log =
      c.keep.ensures.log
      ∙ ap (λ (l : Log). kept (FileOut c.args.row.job.at.line c.args.row.job.node c.args.row.job.number c.args.file.0 c.in_ok-copy.copy c.show_due-fate.result (Some c.args.row.job.at)) ∷ l)
      (c.show_due-fate.ensures.log ∙ ap (with_due false c.args.row.job.at c.args.row.job.node.0) c.show_met.ensures.log)
      ∙ ap (λ (x : List ℕ). kept (FileOut c.args.row.job.at.line c.args.row.job.node c.args.row.job.number c.args.file.0 x c.show_due-fate.result (Some c.args.row.job.at)) ∷ with_due false c.args.row.job.at c.args.row.job.node.0
      (with_met false c.args.row.job.at 1 c.args.before.now (map (met_in g.D.FaultDir.planned) c.args.places.now.items) c.args.ledger.now.log)) c.in_ok-copy.ensures;
}
