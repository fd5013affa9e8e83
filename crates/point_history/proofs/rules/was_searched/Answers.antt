use Rattle.std.proofs.Common.{sym, ◌∙◌}
use Rattle.point_history.proofs.RuleLaws.{searched_now}
use Rattle.point_history.proofs.rules.was_searched.Goals as goal

pub returns-then-version_of-v : goal.returns-then-version_of-v
returns-then-version_of-v c =
    searched_now c.args.at c.args.n.0 c.args.v.0 c.version_of.result c.args.entries.now (sym c.is_empty.ensures ∙ c.if-not-is_empty.true) c.version_of.ensures c.if-version_of-v.true
