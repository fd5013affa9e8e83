use Rattle.std.proofs.Common.{◌+◌, ◌≤◌, length, arith}
use Rattle.wire_link.proofs.ChunkLaws.{part_size, joined_on, joined_last}
use Rattle.wire_link.proofs.link.joined.Goals as goal

pub brought-requires-clause-some : goal.brought-requires-clause-some
brought-requires-clause-some c =
    let size = part_size c.args.bytes.now c.loop-done.done _ _ (omega arith) c.in_ok-part.ensures.ok in
    omega (arith, size)

pub brought-requires-clause-most : goal.brought-requires-clause-most
brought-requires-clause-most c =
    let size = part_size c.args.bytes.now c.loop-done.done _ _ (omega arith) c.in_ok-part.ensures.ok in
    omega (arith, size)

pub loop-done-preserved : goal.loop-done-preserved
loop-done-preserved c =
    let least = c.min.ensures in
    let all = c.len-in-loop-done-2.ensures.value in
    let size : c.loop-done.done + c.min.result ≤ length c.args.bytes.now = omega (arith, least, all) in
    (size, joined_on c.args.bytes.now c.loop-done.done _ _ c.loop-done.file.items _ _ _ (omega arith) size c.in_ok-part.ensures.ok c.loop-done.invariant.1 c.in_ok-read.ensures c.as_slice.ensures c.in_ok-extend_from_slice.ensures.items)

pub loop-done-preserved-in_ok-extend_from_slice : goal.loop-done-preserved-in_ok-extend_from_slice
loop-done-preserved-in_ok-extend_from_slice c =
    let least = c.min.ensures in
    let all = c.len-in-loop-done-2.ensures.value in
    let size : c.loop-done.done + c.min.result ≤ length c.args.bytes.now = omega (arith, least, all) in
    (size, joined_on c.args.bytes.now c.loop-done.done _ _ c.loop-done.file.items _ _ _ (omega arith) size c.in_ok-part.ensures.ok c.loop-done.invariant.1 c.in_ok-read.ensures c.as_slice.ensures c.in_ok-extend_from_slice.ensures.items)

pub returns : goal.returns
returns c = joined_last c.args.bytes.now c.loop-done.done _ _ (omega arith) c.loop-done.invariant.1 c.in_ok-from_vec.ensures.ok
