use Rattle.std.proofs.Common.{◌≡◌, ◌*◌}
use Rattle.live_bits.specs.LiveRows.{has_bit}
use Rattle.live_bits.proofs.BitLaws.{below}
use Rattle.live_bits.proofs.bits.count_set.Given as goal

abbrev pub invariant-loop-byte : goal.invariant-loop-byte
invariant-loop-byte l = l.count ≡ below (has_bit l.bits) (8 * l.byte-index)
