use Rattle.std.proofs.Common.{arith}
use Rattle.text_query.proofs.LevelLemmas.{last_depth}
use Rattle.text_query.proofs.build.Level.tree.Goals as goal

pub returns-in_default : goal.returns-in_default
returns-in_default c = omega (arith, c.in_default.ensures, last_depth c.args.self)
