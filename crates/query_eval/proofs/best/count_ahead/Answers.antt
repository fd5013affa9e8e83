use Rattle.std.proofs.Common.{◌-◌, ◌<◌, ◌≤◌, length, sym, ◌∙◌, arith}
use Rattle.query_eval.specs.Best.{hit_with}
use Rattle.query_eval.proofs.BestLemmas.{count_ahead-le, count_stops, count_is}
use Rattle.query_eval.proofs.best.count_ahead.Goals as goal

pub loop-place-init : goal.loop-place-init
loop-place-init c = (omega arith, count_ahead-le c.args.hits.now (hit_with c.args.key.now c.args.rank))

pub returns-then-is_ahead-clause-ahead : goal.returns-then-is_ahead-clause-ahead
returns-then-is_ahead-clause-ahead c =
    let some : 0 < c.loop-place.place = c.loop-place-test.true in
    let up : c.loop-place.place ≤ length c.args.hits.now = c.loop-place.invariant.0 in
    count_is c.args.hits.now (hit_with c.args.key.now c.args.rank) c.loop-place.place (c.loop-place.place - 1) c.index-hits-place.result (omega (arith, some)) (omega (arith, some, up)) c.index-hits-place.is
    (sym c.is_ahead.ensures ∙ c.if-is_ahead.true) c.loop-place.invariant.1

pub loop-place-preserved : goal.loop-place-preserved
loop-place-preserved c =
    let some : 0 < c.loop-place.place = c.loop-place-test.true in
    let up : c.loop-place.place ≤ length c.args.hits.now = c.loop-place.invariant.0 in (
      omega (arith, up),
      count_stops c.args.hits.now (hit_with c.args.key.now c.args.rank) (c.loop-place.place - 1) c.index-hits-place.result (omega (arith, some, up)) c.index-hits-place.is
          (sym c.is_ahead.ensures ∙ c.if-is_ahead.false),
    )
