use Rattle.std.proofs.Common.{Vec, Global, ap}
use Rattle.history_points.specs.declared.kept.KeptQuery.{KeptQuery}
use Rattle.history_points.proofs.KeptLaws.{all_followed}
use Rattle.history_points.proofs.searched.SearchedTexts.change.Goals as goal

pub returns-clause-kept : goal.returns-clause-kept
returns-clause-kept c =
    all_followed c.args.self.now _ c.args.op.now c.replace-left.result.items (ap (λ (v : Vec KeptQuery Global). v.items) c.replace-left.ensures.value) c.requires c.in_ok-change.ensures.ordered c.in_ok-change.ensures.after c.in_ok-kept.ensures
