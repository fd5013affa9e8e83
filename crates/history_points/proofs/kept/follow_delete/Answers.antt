use Rattle.history_points.proofs.KeptLaws.{has_deleted}
use Rattle.history_points.proofs.kept.follow_delete.Goals as goal

pub returns : goal.returns
returns c = λ docs. has_deleted c.args.query.now docs c.args.key.now c.args.ranks.now c.remove.new.self c.remove.ensures.updates.0
