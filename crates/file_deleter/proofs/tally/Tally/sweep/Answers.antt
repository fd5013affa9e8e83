use Rattle.std.proofs.Common.{arith}
use Rattle.file_deleter.proofs.Sounding.{order_tried}
use Rattle.file_deleter.proofs.tally.Tally.sweep.Goals as goal

pub returns-clause-sound : goal.returns-clause-sound
returns-clause-sound g c = record {
  order = order_tried _ _ _ _ _ c.requires.sound.order c.try_each.ensures.removals;
  room = record { counts = c.requires.sound.room.counts; due = omega (arith, c.requires.sound.room.due); fallen = c.requires.sound.room.fallen };
  fallen = c.requires.sound.fallen;
}
