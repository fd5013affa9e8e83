use Rattle.std.proofs.Common.{◌∷◌, reverse}
use Rattle.report_judge.proofs.TurnLaws.{turns_still}
use Rattle.report_judge.proofs.turns.Turns.take.Goals as goal

pub returns : goal.returns
returns c = λ script shows.
    c.in_ok-pass.ensures script (c.args.entry.now ∷ reverse c.args.before.now) c.requires.known (turns_still script (reverse c.args.before.now) c.args.entry.now c.args.self.now shows)
