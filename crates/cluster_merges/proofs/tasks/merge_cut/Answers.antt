use Rattle.std.proofs.Common.{◌≡◌, ◌∙◌, Bool, true, false, List, refl, ap, sym, subst}
use Rattle.history_rules.specs.Lines.{publish_in_flight}
use Rattle.history_rules.specs.Nodes.{primary_of}
use Rattle.history_book.specs.Log.{Log, printed}
use Rattle.merge_tasks.specs.declared.tasks.OpenMerge.{OpenMerge}
use Rattle.merge_tasks.specs.Board.{Board, open_merge, spread_at, is_copied}
use Rattle.cluster_state.specs.Run.{Run}
use Rattle.cluster_state.proofs.MergingPaths.{third_at}
use Rattle.cluster_merges.proofs.CopyCalls.{nothing_done}
use Rattle.cluster_merges.specs.TaskCalls.{CutsOnce}
use Rattle.cluster_merges.proofs.Turning.{no_row, none_of, some_of}
use Rattle.cluster_merges.proofs.tasks.merge_cut.Goals as goal

pub returns-then-not-is_copied-clause-ok : goal.returns-then-not-is_copied-clause-ok
returns-then-not-is_copied-clause-ok g c =
    let tasks : c.state.inside.tasks ≡ c.args.state.now.rest.tasks = ap (λ (r : Run). r.rest.tasks) c.state.view_is in
    let test : is_copied (spread_at (open_merge c.args.seg.0 c.args.state.now.rest.tasks.rows)) ≡ false = ap (λ (b : Board). is_copied (spread_at (open_merge c.args.seg.0 b.rows))) (sym tasks) ∙ sym c.if-not-is_copied.ensures in
    subst (λ (t : Bool). CutsOnce c.args.line c.args.seg c.args.by c.args.state.now c.args.state.now t) (sym test) (nothing_done c.args.state.now c.requires.running)

pub returns-then-is_some-clause-ok : goal.returns-then-is_some-clause-ok
returns-then-is_some-clause-ok g c =
    let tasks : c.state.inside.tasks ≡ c.args.state.now.rest.tasks = ap (λ (r : Run). r.rest.tasks) c.state.view_is in (
      nothing_done c.args.state.now c.requires.running,
      ap (λ (b : Board). is_copied (spread_at (open_merge c.args.seg.0 b.rows))) (sym tasks) ∙ sym c.if-not-is_copied.ensures,
      λ none. some_of c.publishing.result c.if-is_some.ensures (c.publishing.ensures ∙ ap (λ (l : Log). publish_in_flight (printed l)) c.book.ensures.log ∙ none),
    )

pub unreachable-requires : goal.unreachable-requires
unreachable-requires g c =
    let log : c.state.inside.ledger.log ≡ c.args.state.now.log = ap (λ (r : Run). r.log) c.state.view_is in
    no_row _ _ _ c.state.inside.tasks _ (third_at c.state.view_is c.requires.running c.state.invariant) (λ (rows : List OpenMerge). is_copied (spread_at (open_merge c.args.seg.0 rows))) refl (ap (λ (l : Log). primary_of (printed l)) log ∙ sym c.primary.ensures.is ∙ c.in_default.is) (sym c.if-not-is_copied.ensures)

pub cut_merge-requires-clause-calm : goal.cut_merge-requires-clause-calm
cut_merge-requires-clause-calm g c = sym (c.publishing.ensures ∙ ap (λ (l : Log). publish_in_flight (printed l)) c.book.ensures.log) ∙ none_of c.publishing.result (sym c.if-is_some.ensures)

pub returns-clause-ok : goal.returns-clause-ok
returns-clause-ok g c =
    let tasks : c.state.inside.tasks ≡ c.args.state.now.rest.tasks = ap (λ (r : Run). r.rest.tasks) c.state.view_is in
    let test : is_copied (spread_at (open_merge c.args.seg.0 c.args.state.now.rest.tasks.rows)) ≡ true = ap (λ (b : Board). is_copied (spread_at (open_merge c.args.seg.0 b.rows))) (sym tasks) ∙ sym c.if-not-is_copied.ensures in
    subst (λ (t : Bool). CutsOnce c.args.line c.args.seg c.args.by c.args.state.now c.cut_merge.new.cluster t) (sym test)
    (c.in_ok-cut_merge.ensures.ok, sym (c.publishing.ensures ∙ ap (λ (l : Log). publish_in_flight (printed l)) c.book.ensures.log) ∙ none_of c.publishing.result (sym c.if-is_some.ensures))

pub returns-then-not-is_copied-clause-rest : goal.returns-then-not-is_copied-clause-rest
returns-then-not-is_copied-clause-rest g c = record { rest = refl; still = λ same. refl }

pub returns-then-is_some-clause-rest : goal.returns-then-is_some-clause-rest
returns-then-is_some-clause-rest g c = record { rest = refl; still = λ same. refl }

pub returns-clause-rest : goal.returns-clause-rest
returns-clause-rest g c = c.in_ok-cut_merge.ensures.rest
