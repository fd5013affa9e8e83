use Rattle.history_points.proofs.RightLaws.{told_there}
use Rattle.history_points.proofs.right.RightAnswers.told.Goals as goal

pub returns : goal.returns
returns c = told_there c.args.entries.now c.args.self.now.told c.args.at c.noted.result c.requires.told c.requires.within c.noted.ensures
