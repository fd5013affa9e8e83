use Rattle.std.proofs.Common.{List, ap, ◌∙◌, reverse}
use Rattle.history_rules.specs.Tickets.{ticket_by}
use Rattle.history_tables.specs.Openings.{TicketRow, opened_of}
use Rattle.known_past.proofs.past.note_ticket.Goals as goal

pub returns : goal.returns
returns c = λ lane t.
    let past = reverse c.args.before.now in
    let next = ticket_by lane t c.args.entry.now.at c.args.entry.now.event past in
    c.step.ensures.rows past lane t c.requires.life ∙ ap (λ (rows : List TicketRow). next (opened_of rows lane t)) c.in_ok-reserve.ensures.rows ∙ ap next (c.requires.tickets lane t)
