use Rattle.std.proofs.Common.{arith}
use Rattle.text_query.proofs.LevelLemmas.{or_depth}
use Rattle.text_query.proofs.build.Level.with_or.Goals as goal

pub returns-in_default : goal.returns-in_default
returns-in_default c = omega (arith, c.in_default.ensures, or_depth c.args.self)
