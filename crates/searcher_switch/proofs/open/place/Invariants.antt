use Rattle.std.proofs.Common.{◌≡◌, ◌+◌, ◌-◌, length, drop}
use Rattle.searcher_switch.specs.Tickets.{ticket_place}
use Rattle.searcher_switch.proofs.open.place.Given as goal

abbrev pub invariant-loop-i : goal.invariant-loop-i
invariant-loop-i g l = l.i + ticket_place l.number (drop l.i l.tickets) ≡ ticket_place l.number l.tickets

abbrev pub decreases-loop-i : goal.decreases-loop-i
decreases-loop-i g l = length l.tickets - l.i
