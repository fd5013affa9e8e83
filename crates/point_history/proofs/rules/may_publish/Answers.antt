use Rattle.std.proofs.Common.{arith}
use Rattle.std.proofs.lemmas.Grind.{common_steps}
use Rattle.point_history.proofs.rules.may_publish.Goals as goal

pub returns-then-v-newest : goal.returns-then-v-newest
returns-then-v-newest c =
    let merged = c.has_merges_for_publish.ensures c.args.number c.args.v in
    grind (arith, common_steps, merged)
