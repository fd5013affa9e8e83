use Rattle.std.proofs.Common.{◌-◌}
use Rattle.postings_plain.proofs.BlockWriting.{BlocksWritten}
use Rattle.postings_plain.proofs.encoding.push_blocks.Given as goal

abbrev pub invariant-loop : goal.invariant-loop
invariant-loop l = BlocksWritten l.field l.blocks l.fn.rows l.fn.out.items (l.blocks - l.counter) l.left l.least l.area.items l.out.items
