use denote.Exit.{yes}
use Rattle.lane_threads.proofs.EventParts.{event_send}
use Rattle.lane_threads.proofs.crossing.event_crosses.Goals as goal

pub returns : goal.returns
returns c =
    event_send (record { owned = c.sent.ensures.owned; leaving = λ k. c.sent.ensures.leaving yes }) (record { owned = c.sent-2.ensures.owned; leaving = λ k. c.sent-2.ensures.leaving yes })
    (record { owned = c.sent-3.ensures.owned; leaving = λ k. c.sent-3.ensures.leaving yes }) (record { owned = c.sent-4.ensures.owned; leaving = λ k. c.sent-4.ensures.leaving yes })
