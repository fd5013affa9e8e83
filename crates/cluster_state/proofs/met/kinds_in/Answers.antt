use Rattle.std.proofs.Common.{arith}
use Rattle.cluster_state.specs.Met.{met_in}
use Rattle.cluster_state.proofs.Mapped.{one_more, all_of}
use Rattle.cluster_state.proofs.met.kinds_in.Goals as goal

pub loop-place-preserved : goal.loop-place-preserved
loop-place-preserved g c = one_more (met_in g.D.FaultDir.planned) c.args.places.now c.loop-place.place-index c.place-item.result c.kinds_at.result c.loop-place.kinds.items c.push.new.self.items c.loop-place-test.true c.place-item.is c.kinds_at.ensures c.loop-place.invariant c.in_ok-push.ensures.items

pub returns : goal.returns
returns g c = all_of (met_in g.D.FaultDir.planned) c.args.places.now c.loop-place.place-index c.loop-place.kinds.items (let end = c.loop-place-test.false in omega (arith, end)) c.loop-place.invariant
