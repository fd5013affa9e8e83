use Rattle.std.proofs.Common.{arith, ◌∙◌}
use Rattle.file_deleter.specs.Removals.{directory_of}
use Rattle.file_deleter.proofs.NameLemmas.{times-permutation}
use Rattle.file_deleter.proofs.Sounding.{order_released}
use Rattle.file_deleter.proofs.tally.Tally.release.Goals as goal

pub returns-clause-released : goal.returns-clause-released
returns-clause-released g c = record {
  fallen = c.sort_unstable.new.self.items;
  first_failed = c.try_each.new.names.items;
  then_failed = c.try_each-2.new.names.items;
  between = directory_of g.D.Dir.cells g.D.Dir.plans g.D.Dir.faults c.try_each.new.dir;
  order = c.requires.sound.order;
  counts = c.take_all.ensures.counts;
  positive = c.take_all.ensures.positive;
  fell = λ q. times-permutation _ _ q c.sort_unstable.ensures.permutation ∙ c.take_all.ensures.fallen q;
  sorted = c.sort_unstable.ensures.sorted;
  first = c.try_each.ensures.removals;
  second = c.try_each-2.ensures.removals;
  merged = c.merge.ensures.times;
  now_sorted = c.merge.ensures.sorted;
}

pub returns-clause-sound : goal.returns-clause-sound
returns-clause-sound g c = record {
  order = order_released _ _ _ _ _ (returns-clause-released g c);
  room = record { counts = omega arith; due = omega arith; fallen = omega arith };
  fallen = c.merge.ensures.empty;
}
