use Rattle.std.proofs.Common.{arith}
use Rattle.file_deleter.proofs.Sounding.{order_empty}
use Rattle.file_deleter.proofs.tally.Tally.new.Goals as goal

pub returns-clause-sound : goal.returns-clause-sound
returns-clause-sound c = record {
  order = order_empty _ _ c.new.ensures.empty c.new-2.ensures.items;
  room = record { counts = omega arith; due = omega arith; fallen = omega arith };
  fallen = c.new-3.ensures.items;
}
