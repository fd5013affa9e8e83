use Rattle.std.proofs.lemmas.Result.{IfOk-weaker}
use Rattle.wire_frames.proofs.StreamLaws.{are_messages}
use Rattle.wire_frames.proofs.decoder.Decoder.feed_shared.Goals as goal

pub returns-clause-messages : goal.returns-clause-messages
returns-clause-messages c =
    rw (← c.self.view_is) (IfOk-weaker c.take_shared.result _ _ (λ messages h. are_messages _ messages.items _ h (c.take_shared.ensures.ended c.self.invariant)) c.take_shared.ensures.read)
