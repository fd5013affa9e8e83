use Rattle.std.proofs.Common.{◌==◌, ◌&&◌, ◌∙◌, None, if◌then◌else◌, ap}
use Rattle.history_tables.specs.Openings.{TicketRows, opened_of}
use Rattle.history_tables.proofs.RowLemmas.{opened_by}
use Rattle.history_tables.proofs.tickets.Tickets.forget.Goals as goal

pub returns-clause-rows : goal.returns-clause-rows
returns-clause-rows c = λ l t.
    opened_by ((c.args.lane.0 == l) && (c.args.number.0 == t)) None c.self.inside.openings.entries c.swap_remove.new.self.entries l t
    (c.swap_remove.ensures.updates.0 (record { lane = record { 0 = l }; number = record { 0 = t } }))
    ∙ ap (λ (v : TicketRows). if (c.args.lane.0 == l) && (c.args.number.0 == t) then None else opened_of v.rows l t) c.self.view_is
