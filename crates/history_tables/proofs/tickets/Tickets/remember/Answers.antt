use Rattle.std.proofs.Common.{◌==◌, ◌&&◌, ◌≤◌, ◌∙◌, Some, if◌then◌else◌, ap, sym, subst}
use Rattle.history_tables.specs.Openings.{TicketRows, opened_of, ticket_of}
use Rattle.history_tables.proofs.RowLemmas.{opened_by, when_ok}
use Rattle.history_tables.proofs.tickets.Tickets.remember.Goals as goal

pub returns : goal.returns
returns c = λ l t.
    let room = subst (λ (v : TicketRows). 1 ≤ v.room) (sym c.self.view_is) c.requires in
    let done = when_ok c.insert.result (c.insert.ensures.succeeds room) c.insert.ensures.updates in
    opened_by ((c.args.lane.0 == l) && (c.args.number.0 == t)) (Some c.args.opening) c.self.inside.openings.entries c.insert.new.self.entries l t
    (done.0 (record { lane = record { 0 = l }; number = record { 0 = t } }))
    ∙ ap (λ (v : TicketRows). if (c.args.lane.0 == l) && (c.args.number.0 == t) then Some (ticket_of c.args.opening) else opened_of v.rows l t) c.self.view_is
