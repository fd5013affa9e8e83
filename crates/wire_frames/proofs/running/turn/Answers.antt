use Rattle.std.proofs.Common.{◌≡◌, ◌<◌, ◌≤◌, ◌+◌, length, take, sym, subst, arith}
use Rattle.wire_frames.specs.Runs.{SaysFrames}
use Rattle.wire_frames.proofs.Reading.{taken_more, ends_large, ends_faulty}
use Rattle.wire_frames.proofs.running.turn.Goals as goal

pub returns-in-Ok-feed_piece-clause-turn : goal.returns-in-Ok-feed_piece-clause-turn
returns-in-Ok-feed_piece-clause-turn g c =
    let space = c.read_within.new.space in
    let most = c.in-Ok.ensures.most in
    let room = c.max-room.ensures in
    let min = c.min.ensures in
    let within : c.args.taken + c.in-Ok.count ≤ 16777216 = omega (arith, most, room, min) in
    let le : c.in-Ok.count ≤ length space = omega (arith, most, room, min) in
    λ before. (
      omega arith,
      within,
      λ t. taken_more before _ _ c.args.taken c.in-Ok.count space _ _ _ _ _ t c.in-Ok.ensures.bytes.0 le c.in-Ok-feed_piece.ensures.read (grind arith),
    )

pub returns-in-Err-feed_piece-clause-turn : goal.returns-in-Err-feed_piece-clause-turn
returns-in-Err-feed_piece-clause-turn g c =
    let space = c.read_within.new.space in
    let most = c.in-Ok.ensures.most in
    let room = c.max-room.ensures in
    let min = c.min.ensures in
    let within : c.args.taken + c.in-Ok.count ≤ 16777216 = omega (arith, most, room, min) in
    let le : c.in-Ok.count ≤ length space = omega (arith, most, room, min) in
    λ before t. subst (SaysFrames before (g.S.Source.left c.read_within.new.source)) (sym c.end_of.ensures)
    (ends_faulty before _ _ c.args.taken c.in-Ok.count space _ _ _ c.in-Err-feed_piece.fault t within c.in-Ok.ensures.bytes.0 le c.in-Err-feed_piece.ensures.cause (grind arith))

pub returns-then-taken-eq-LONGEST_STREAM-clause-turn : goal.returns-then-taken-eq-LONGEST_STREAM-clause-turn
returns-then-taken-eq-LONGEST_STREAM-clause-turn g c =
    let space = c.read_within.new.space in
    let most = c.in-Ok.ensures.most in
    let room = c.max-room.ensures in
    let min = c.min.ensures in
    let one : c.in-Ok.count ≤ 1 = omega (arith, most, room, min) in
    let le : c.in-Ok.count ≤ length space = omega (arith, most, room, min) in
    let some : 0 < c.in-Ok.count = omega arith in
    λ before t. ends_large before _ _ c.args.taken c.in-Ok.count space _ _ t c.if-taken-eq-LONGEST_STREAM.true c.in-Ok.ensures.bytes.0 some one le c.rest.ensures.unfinished
