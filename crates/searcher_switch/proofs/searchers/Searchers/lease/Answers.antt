use Rattle.std.proofs.Common.{◌∙◌, ap, refl, slice_get}
use Rattle.searcher_switch.specs.Tickets.{ticket_place}
use Rattle.searcher_switch.proofs.Places.{leases, got_at}
use Rattle.searcher_switch.proofs.searchers.Searchers.lease.Goals as goal

pub returns : goal.returns
returns g c = leases c.args.ticket.now.number c.place-at.result c.args.self.now.tickets c.in-Some.open.now _
    (c.place-at.ensures ∙ ap (ticket_place c.args.ticket.now.number) c.as_slice.ensures) c.requires (let h = c.in-Some.ensures.lookup in got_at c.as_slice-2.result.now c.place-at.result c.in-Some.open.now h.3.0 h.1 ∙ ap (λ l. slice_get l c.place-at.result) c.as_slice-2.ensures) refl c.in_ok-share.ensures
