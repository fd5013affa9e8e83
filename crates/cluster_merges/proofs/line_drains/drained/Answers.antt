use Rattle.std.proofs.Common.{◌≡◌, ◌⊎◌, ◌<◌, ◌∷◌, ◌∙◌, ℕ, [], refl, ap, sym, subst, inl, inr, arith, true≢false}
use Rattle.history_rules.specs.declared.entry.Event.TheVariants.{Drained}
use Rattle.history_book.specs.Log.{shown}
use Rattle.merge_tasks.specs.Board.{Board}
use Rattle.history_book.specs.Told.{counted_for}
use Rattle.cluster_state.specs.Run.{Run}
use Rattle.cluster_merges.specs.MergePaths.{IsBoard}
use Rattle.cluster_merges.proofs.CopyCalls.{nothing_done}
use Rattle.cluster_merges.proofs.line_drains.drained.Goals.{else-done-most-via-then-done-most+else-not-is_idle, else-done-most-via-else-done-most}
use Rattle.cluster_merges.proofs.line_drains.drained.Goals as goal

pub returns-then-not-is_idle-clause-ok : goal.returns-then-not-is_idle-clause-ok
returns-then-not-is_idle-clause-ok g c =
    let tasks : c.state.inside.tasks ≡ c.args.state.now.rest.tasks = ap (λ (r : Run). r.rest.tasks) c.state.view_is in
    let less : counted_for c.args.at c.args.state.now.log < c.args.most = omega (arith, c.if-done-most.true, c.counted-done.ensures) in
    (nothing_done c.args.state.now c.requires.running, less, λ none. true≢false (sym (c.if-not-is_idle.ensures.busy (ap (λ (b : Board). b.posted) tasks ∙ none))))

pub returns-clause-ok : goal.returns-clause-ok
returns-clause-ok g c =
    let tasks : c.state.inside.tasks ≡ c.args.state.now.rest.tasks = ap (λ (r : Run). r.rest.tasks) c.state.view_is in
    let r = c.args.state.now in
    let ends : (counted_for c.args.at r.log ≡ c.args.most) ⊎ (r.rest.tasks.posted ≡ []) = elim c.else-done-most.branch [
      | else-done-most-via-then-done-most+else-not-is_idle w ↦ inr (ap (λ (b : Board). b.posted) (sym tasks) ∙ w.if-not-is_idle.ensures.idle refl)
      | else-done-most-via-else-done-most w ↦ inl (omega (arith, w.if-done-most.false, c.counted-done.ensures, c.requires.few))
    ] in
    (subst (λ (n : ℕ). IsBoard r c.note_drained.new.cluster (shown c.args.at (Drained n c.args.most) ∷ r.log) r.rest.tasks.rows r.rest.tasks.posted) c.counted-done.ensures c.in_ok-note_drained.ensures.ok, ends)

pub returns-then-not-is_idle-clause-rest : goal.returns-then-not-is_idle-clause-rest
returns-then-not-is_idle-clause-rest g c = record { rest = refl }

pub returns-clause-rest : goal.returns-clause-rest
returns-clause-rest g c = c.in_ok-note_drained.ensures.rest
