use Rattle.std.proofs.Common.{subst, sym}
use Rattle.std.specs.List.{All}
use Rattle.std.proofs.lemmas.List.Elements.{All-push}
use Rattle.documents.specs.Documents.{after_op}
use Rattle.history_points.specs.Kept.{KeepsHits}
use Rattle.history_points.proofs.kept.keep_after.Goals as goal

pub returns : goal.returns
returns c = λ docs has all.
    let keeps = KeepsHits (after_op docs c.args.op.now) in
    subst (All keeps) (sym c.in_ok-push.ensures.items) (All-push keeps _ _ all (c.in_ok-follow.ensures c.if-not-branch.false docs has))
