use Rattle.std.proofs.Common.{refl}
use Rattle.history_points.proofs.AskedLaws.{reached_texts, reached_there}
use Rattle.history_points.proofs.reached.Reached.reach.Goals as goal

pub go_on-requires-clause-texts : goal.go_on-requires-clause-texts
go_on-requires-clause-texts c = reached_texts c.args.entries.now c.args.self.now c.requires.reached

pub returns : goal.returns
returns c = λ reached. (
  reached_there c.args.entries.now _ c.args.place c.requires.within refl c.in_ok-reached.ensures.kept (c.in_ok-reached.ensures.texts reached),
  refl,
)
