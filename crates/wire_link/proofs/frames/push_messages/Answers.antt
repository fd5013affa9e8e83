use Rattle.wire_link.proofs.CopyLaws.{messages_more}
use Rattle.wire_link.proofs.frames.push_messages.Goals as goal

pub loop-message-preserved : goal.loop-message-preserved
loop-message-preserved c =
    messages_more c.args.messages.now c.loop-message.message-index c.message-item.result c.args.out.now.items c.loop-message.out.items c.encode.new.out.items c.loop-message-test.true c.message-item.is c.loop-message.invariant
    c.encode.ensures.framable c.in_ok-encode.ensures.ok
