use Rattle.history_points.proofs.BestLaws.{passed_next, passed_all, none_first}
use Rattle.history_points.proofs.best.best_of.Goals as goal

pub loop-key-init : goal.loop-key-init
loop-key-init c = none_first _ c.new-best.ensures.items

pub loop-key-preserved : goal.loop-key-preserved
loop-key-preserved c =
    passed_next c.loop-key.yielded c.into_iter-key-iterator.result c.loop-key.key-iterator c.next.new.self c.next.result (c.in-Some.key, c.in-Some.rank) c.loop-key.best.items c.add_hit.new.best.items
    c.loop-key.yielded_by c.in-Some.is c.next.ensures.steps c.args.ranks.now c.into_iter-key-iterator.ensures.into_iter_gives.0 c.requires c.loop-key.invariant c.in_ok-add_hit.ensures

pub returns : goal.returns
returns c =
    passed_all c.loop-key.yielded c.into_iter-key-iterator.result c.loop-key.key-iterator c.next.new.self c.next.result c.loop-key.best.items
    c.loop-key.yielded_by c.in-None.is c.next.ensures.steps c.args.ranks.now c.into_iter-key-iterator.ensures.into_iter_gives.0 c.loop-key.invariant
