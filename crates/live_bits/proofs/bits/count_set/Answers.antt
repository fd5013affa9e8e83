use Rattle.std.proofs.Common.{◌≡◌, ◌+◌, ◌*◌, length, get_or, sym, ap, ◌∙◌, arith}
use Rattle.std.proofs.lemmas.Nat.{ones_le_self}
use Rattle.live_bits.specs.LiveRows.{has_bit}
use Rattle.live_bits.proofs.BitLaws.{below, below_most, byte_counted, live-rows_in}
use Rattle.live_bits.proofs.bits.count_set.Goals as goal

pub overflow_add-count : goal.overflow_add-count
overflow_add-count c =
    let n = c.loop-byte.invariant in
    omega (arith, n, below_most (has_bit c.args.bits.now) (8 * c.loop-byte.byte-index), c.from-count.ensures, ones_le_self (get_or c.args.bits.now c.loop-byte.byte-index 0), c.type_inv.bits c.loop-byte.byte-index, c.requires, c.loop-byte-test.true)

pub loop-byte-preserved : goal.loop-byte-preserved
loop-byte-preserved c =
    let i = c.loop-byte.byte-index in
    let next : 8 * (i + 1) ≡ 8 * i + 8 = omega arith in
    let more = byte_counted c.args.bits.now i (omega (arith, c.type_inv.bits i)) in
    omega (arith, c.loop-byte.invariant, c.from-count.ensures, more, ap (below (has_bit c.args.bits.now)) next)

pub returns : goal.returns
returns c =
    let end : 8 * c.loop-byte.byte-index ≡ 8 * length c.args.bits.now = omega (arith, c.loop-byte-test.false, c.loop-byte.auto.byte-index-end) in
    c.loop-byte.invariant ∙ ap (below (has_bit c.args.bits.now)) end ∙ sym (live-rows_in (8 * length c.args.bits.now) c.args.bits.now)
