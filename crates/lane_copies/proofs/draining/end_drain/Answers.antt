use Rattle.std.proofs.Common.{arith}
use Rattle.std.proofs.lemmas.Result.{on_err_weaker}
use Rattle.cluster_state.specs.Run.{IsEnded}
use Rattle.lane_copies.proofs.Drains.{on_drain_shows}
use Rattle.lane_copies.proofs.draining.end_drain.Goals as goal

pub drained-requires-clause-few : goal.drained-requires-clause-few
drained-requires-clause-few g c = omega (arith, c.if-done-most.false, c.counted-done.ensures)

pub returns-clause-ok : goal.returns-clause-ok
returns-clause-ok g c = on_drain_shows c.args.at c.args.most c.args.site.now.run c.drained.new.self.run c.drained.result c.requires.fresh c.drained.ensures.ok c.drained.ensures.replied

pub returns-clause-err : goal.returns-clause-err
returns-clause-err g c = on_err_weaker c.drained.result (λ (e : IsEnded c.args.site.now.run c.drained.new.self.run). e.log) c.drained.ensures.err
