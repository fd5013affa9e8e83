use Rattle.std.proofs.Common.{List, ℕ, ap, ◌∙◌, ◌++◌, ◌∷◌, []}
use Rattle.history_points.proofs.BestLaws.{first_taken}
use Rattle.history_points.proofs.best.add_hit.Goals as goal

pub returns : goal.returns
returns c = λ hits below are.
    first_taken hits c.args.best.now.items c.push.new.self.items c.cut.new.best.items _ are
    (c.in_ok-push.ensures.items ∙ ap (λ (key : List ℕ). c.args.best.now.items ++ record { key = key; rank = c.args.rank } ∷ []) c.in_ok-key.ensures)
    c.cut.ensures.first c.cut.ensures.sorted
