use Rattle.std.proofs.Common.{◌+◌, ◌≤◌, List, arith, rules, subst, sym, ap, ◌∙◌, take}
use Rattle.disk_model.specs.Disk.{Name}
use Rattle.disk_model.proofs.CellLemmas.{same_true}
use Rattle.file_deleter.specs.Holdings.{times, count_in}
use Rattle.file_deleter.proofs.NameLemmas.{times_within}
use Rattle.file_deleter.proofs.Falling.{times_more, fallen_more}
use Rattle.file_deleter.proofs.counts.take_all.Goals as goal

pub take_one-requires-clause-counted : goal.take_one-requires-clause-counted
take_one-requires-clause-counted c =
    let x = c.name-item.result in
    let is : times (take c.loop-name.name-index c.args.names.now) x + 1 ≤ times c.args.names.now x =
    subst (λ (y : Name). times (take c.loop-name.name-index c.args.names.now) y + 1 ≤ times c.args.names.now y) (sym c.name-item.is) (times_within c.args.names.now c.loop-name.name-index x c.loop-name-test.true) in
    omega (arith, is, c.requires.counted x, c.loop-name.invariant.counts x)

pub loop-name-preserved : goal.loop-name-preserved
loop-name-preserved c = record {
  counts = λ q. omega (arith, c.take_one.ensures.counts q, c.loop-name.invariant.counts q, times_more c.args.names.now c.loop-name.name-index c.name-item.result q c.loop-name-test.true c.name-item.is);
  positive = search rules;
  fallen = λ q.
      ap (λ (ns : List Name). times ns q) c.take_one.ensures.fallen
      ∙ fallen_more c.args.names.now c.loop-name.fallen.items c.loop-name.name-index c.name-item.result q (count_in c.take_one.new.counts.entries q) (count_in c.loop-name.counts.entries q) (count_in c.take_one.new.counts.entries c.name-item.result)
      c.loop-name-test.true c.name-item.is (c.take_one.ensures.counts q) (c.loop-name.invariant.fallen q) (λ e. ap (λ (n : Name). count_in c.take_one.new.counts.entries n) (same_true c.name-item.result q e));
  len = omega arith;
  capacity = omega arith;
  spare = omega arith;
}
