use Rattle.std.proofs.Common.{◌≡◌, ◌∙◌, Bool, List, refl, ap, sym, subst}
use Rattle.history_rules.specs.Nodes.{primary_of}
use Rattle.history_book.specs.Log.{Log, printed}
use Rattle.merge_tasks.specs.declared.tasks.OpenMerge.{OpenMerge}
use Rattle.merge_tasks.specs.Board.{Board, open_merge, spread_at, is_unwritten}
use Rattle.cluster_merges.specs.MergesKept.{KeepsBuiltBy}
use Rattle.cluster_state.specs.Run.{Run}
use Rattle.cluster_state.proofs.MergingPaths.{third_at}
use Rattle.cluster_merges.proofs.Turning.{no_row}
use Rattle.cluster_merges.proofs.tasks.merge_ready.Goals as goal

pub unreachable-requires : goal.unreachable-requires
unreachable-requires g c =
    let log : c.state.inside.ledger.log ≡ c.args.state.now.log = ap (λ (r : Run). r.log) c.state.view_is in
    no_row _ _ _ c.state.inside.tasks _ (third_at c.state.view_is c.requires.running c.state.invariant) (λ (rows : List OpenMerge). is_unwritten (open_merge c.args.seg.0 rows)) refl (ap (λ (l : Log). primary_of (printed l)) log ∙ sym c.primary.ensures.is ∙ c.in_default.is) (sym c.if-not-is_unwritten.ensures)

pub returns-then-not-is_unwritten-clause-rest : goal.returns-then-not-is_unwritten-clause-rest
returns-then-not-is_unwritten-clause-rest g c =
    let tasks : c.state.inside.tasks ≡ c.args.state.now.rest.tasks = ap (λ (r : Run). r.rest.tasks) c.state.view_is in
    subst (λ (t : Bool). KeepsBuiltBy t (spread_at (open_merge c.args.seg.0 c.args.state.now.rest.tasks.rows)) c.args.state.now c.args.state.now) (sym (ap (λ (b : Board). is_unwritten (open_merge c.args.seg.0 b.rows)) (sym tasks) ∙ sym c.if-not-is_unwritten.ensures)) refl
