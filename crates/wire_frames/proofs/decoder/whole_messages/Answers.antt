use Rattle.wire_frames.specs.Streams.{TakesMessage}
use Rattle.wire_frames.proofs.StreamLaws.{begins_more, message_shorter}
use Rattle.wire_frames.proofs.decoder.whole_messages.Goals as goal

pub loop-messages-smaller : goal.loop-messages-smaller
loop-messages-smaller c =
    let t : TakesMessage c.loop-messages.rest.now c.in-Some.message c.in-Some.after.now = rw c.in-Some.is at c.in_ok-message.ensures in
    message_shorter _ _ _ t

pub loop-messages-preserved : goal.loop-messages-preserved
loop-messages-preserved c =
    let t : TakesMessage c.loop-messages.rest.now c.in-Some.message c.in-Some.after.now = rw c.in-Some.is at c.in_ok-message.ensures in
    rw c.in_ok-push.ensures.items (begins_more _ _ _ _ _ c.loop-messages.invariant t)
