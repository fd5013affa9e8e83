use Rattle.std.proofs.Common.{arith}
use Rattle.text_query.proofs.LevelLemmas.{operand_depth}
use Rattle.text_query.proofs.build.Level.with_operand.Goals as goal

pub returns-in_default : goal.returns-in_default
returns-in_default c =
    let deep = rw c.in_default.is at c.in_ok-part.ensures in
    omega (arith, deep, operand_depth c.args.self c.args.part)
