use Rattle.std.proofs.Common.{sym, ◌∙◌}
use Rattle.std.specs.Ordering.{nat_cmp}
use Rattle.documents.specs.Documents.{key_cmp}
use Rattle.history_points.proofs.BestLaws.{first_stay, last_below, before_by}
use Rattle.history_points.proofs.best.are_before.Goals as goal

pub returns : goal.returns
returns c = λ before hits key below are.
    let last = c.index-best.result in
    let few = c.if-best-lt-MOST_HITS.false in
    first_stay hits c.args.best.now _ last few c.index-best.is
    (before_by (nat_cmp c.args.rank last.rank) (key_cmp last.key key) (sym c.has_rank.ensures ∙ before) (last_below hits c.args.best.now last key are below few c.index-best.is)) are
