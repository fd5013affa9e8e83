use Rattle.std.proofs.Common.{◌<◌, length, rules, arith}
use Rattle.file_deleter.proofs.Removing.{tried_none, tried_stays, tried_gone}
use Rattle.file_deleter.proofs.removals.try_each.Goals as goal
use Rattle.file_deleter.proofs.removals.try_each.Goals.{then-stays, else-stays}

pub loop-index-init : goal.loop-index-init
loop-index-init g c = record { tried = tried_none _ _; capacity = search rules }

pub loop-index-preserved : goal.loop-index-preserved
loop-index-preserved g c =
    let lt : c.loop-index.index < length c.args.names.now.items = omega arith in
    let t = c.loop-index.invariant.tried in
    elim c.if-stays.branch [
      | then-stays w ↦ rw (w.names-is, w.kept-is) (record { tried = tried_stays _ _ _ _ _ _ _ _ t lt c.index.ensures w.if-stays.ensures; capacity = search rules })
      | else-stays w ↦ rw (w.names-is, w.kept-is) (record { tried = tried_gone _ _ _ _ _ _ _ _ t lt c.index.ensures w.if-stays.ensures; capacity = search rules })
    ]
