use Rattle.std.proofs.Common.{[]}
use Rattle.history_points.proofs.asked.AskedPoint.new.Goals as goal

pub returns : goal.returns
returns c = record { places = c.no_places.ensures; reached = c.new.ensures [] }
