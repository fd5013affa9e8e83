use denote.Exit.{yes}
use denote.Param.Send.{sendable}
use Rattle.cluster_run.proofs.BookParts.{book_send}
use Rattle.cluster_run.proofs.crossing.book_crosses.Goals as goal

pub returns : goal.returns
returns c =
    book_send (λ d. (search sendable, ((λ vs. c.sent.ensures.owned d.entries vs, λ k. c.sent.ensures.leaving yes d.entries), ((λ vs. c.sent-2.ensures.owned d.inners vs, λ k. c.sent-2.ensures.leaving yes d.inners), ((λ vs. c.sent-3.ensures.owned d.stops vs, λ k. c.sent-3.ensures.leaving yes d.stops), (search sendable, ((λ vs. c.sent-4.ensures.owned d.numbers vs, λ k. c.sent-4.ensures.leaving yes d.numbers), ((λ vs. c.sent-5.ensures.owned d.rows vs, λ k. c.sent-5.ensures.leaving yes d.rows), ((λ vs. c.sent-6.ensures.owned d.lines vs, λ k. c.sent-6.ensures.leaving yes d.lines), ((λ vs. c.sent-7.ensures.owned d.tickets vs, λ k. c.sent-7.ensures.leaving yes d.tickets), ((λ vs. c.sent-8.ensures.owned d.node_jobs vs, λ k. c.sent-8.ensures.leaving yes d.node_jobs), ((λ vs. c.sent-8.ensures.owned d.lane_jobs vs, λ k. c.sent-8.ensures.leaving yes d.lane_jobs), tt))))))))))))
