use Rattle.std.proofs.Common.{◌≡◌, ◌∙◌, ap}
use Rattle.history_rules.specs.Lines.{entries_of_line}
use Rattle.history_book.specs.Log.{Log, printed}
use Rattle.history_book.specs.Told.{counted_for}
use Rattle.cluster_state.specs.Run.{Run}
use Rattle.cluster_state.proofs.MergingPaths.{third_at}
use Rattle.cluster_merges.proofs.Turning.{noted_count}
use Rattle.cluster_merges.proofs.line_drains.counted.Goals as goal

pub returns : goal.returns
returns g c =
    let log : c.state.inside.ledger.log ≡ c.args.state.now.log = ap (λ (r : Run). r.log) c.state.view_is in
    c.counted.ensures ∙ noted_count _ _ _ c.state.inside.tasks _ (third_at c.state.view_is c.requires.running c.state.invariant) c.args.at (ap (λ (l : Log). entries_of_line c.args.at (printed l)) log ∙ c.requires.fresh) ∙ ap (counted_for c.args.at) log
