use Rattle.std.proofs.Common.{refl}
use Rattle.history_points.proofs.AskedLaws.{none_reached}
use Rattle.history_points.proofs.reached.Reached.new.Goals as goal

pub returns : goal.returns
returns c = λ past. none_reached past _ refl c.new.ensures.kept c.new.ensures.none
