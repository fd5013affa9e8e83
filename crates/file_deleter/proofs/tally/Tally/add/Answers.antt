use Rattle.std.proofs.Common.{List, sym, ap, subst, ◌∙◌, arith}
use Rattle.disk_model.specs.Disk.{Name, is_among}
use Rattle.file_deleter.specs.Tally.{IsInOrder}
use Rattle.file_deleter.proofs.Sounding.{order_added, due_added}
use Rattle.file_deleter.proofs.tally.Tally.add.Goals as goal

pub returns-clause-sound : goal.returns-clause-sound
returns-clause-sound c = record {
  order = subst (λ (ns : List Name). IsInOrder c.add_all.new.counts.entries ns) (sym c.drop_counted.ensures.items) (order_added c.args.self.now.counts.entries c.add_all.new.counts.entries c.args.self.now.due.items c.requires.order c.add_all.ensures.positive);
  room = record { counts = omega arith; due = omega arith; fallen = omega arith };
  fallen = c.requires.fallen;
}

pub returns-clause-adds : goal.returns-clause-adds
returns-clause-adds c = record {
  counts = c.add_all.ensures.counts;
  due = λ q. ap (λ (ns : List Name). is_among ns q) c.drop_counted.ensures.items ∙ due_added c.add_all.new.counts.entries c.args.self.now.due.items c.add_all.ensures.positive q;
}
