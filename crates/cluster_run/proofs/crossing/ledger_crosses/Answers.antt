use denote.Exit.{yes}
use denote.Param.Send.{IsSend, sendable}
use Rattle.std.proofs.Crossing.{crosses}
use Rattle.merge_tasks.specs.contracts.merges.Merges as merges
use Rattle.cluster_run.proofs.BookParts.{ledger_send}
use Rattle.cluster_run.proofs.crossing.ledger_crosses.Goals as goal

pub returns : goal.returns
returns c =
    let rows : IsSend merges.the_row = search (sendable, crosses) depth 20 in
    ledger_send (λ d. (
      (λ vs. c.book_crosses.ensures.owned d.book vs, λ k. c.book_crosses.ensures.leaving k d.book),
      (
        (λ vs. rows.owned d.merges vs, λ k. rows.leaving k d.merges),
        ((λ vs. c.sent.ensures.owned d.plans vs, λ k. c.sent.ensures.leaving yes d.plans), tt),
      ),
    ))
