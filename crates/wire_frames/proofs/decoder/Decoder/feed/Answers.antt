use Rattle.std.proofs.lemmas.Result.{IfOk-weaker}
use Rattle.wire_frames.proofs.StreamLaws.{are_messages, fault_answer}
use Rattle.wire_frames.proofs.decoder.Decoder.feed.Goals as goal

pub returns-clause-messages : goal.returns-clause-messages
returns-clause-messages c =
    rw (← c.self.view_is) (IfOk-weaker c.take_in.result _ _ (λ messages h. are_messages _ messages.items _ h (c.take_in.ensures.ended c.self.invariant)) c.take_in.ensures.read)

pub returns-clause-fault : goal.returns-clause-fault
returns-clause-fault c =
    rw (← c.self.view_is) (λ f p. fault_answer (λ messages. messages.items) _ _ c.take_in.result c.take_in.ensures.read (c.take_in.ensures.ended c.self.invariant) c.take_in.ensures.cause f p)
