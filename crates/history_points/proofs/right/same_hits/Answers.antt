use Rattle.std.proofs.Common.{refl}
use Rattle.history_points.proofs.HitLemmas.{hits_same}
use Rattle.history_points.proofs.right.same_hits.Goals as goal

pub returns : goal.returns
returns c = hits_same _ (λ a b. refl) c.eq.result c.args.a.now c.args.b.now c.eq.ensures
