-- An open ticket was opened.
use Rattle.std.proofs.Common.{◌≡◌, ℕ, [], ◌∷◌, refl}
use Rattle.std.specs.Prelude.{is_some, Bool, true, false, ◌||◌, ◌==◌, if◌then◌else◌, Option, Some, None}
use Rattle.nrt_base.specs.declared.numbers.At.{At}
use Rattle.history_rules.specs.declared.entry.Event.{Event}
use Rattle.history_rules.specs.declared.entry.Event.TheVariants.{Opened, Closed}
use Rattle.history_rules.specs.Nodes.{Past, crashes}
use Rattle.history_rules.specs.Tickets.{Ticket, is_ticket, ticket_by, last_opened, while_alive, open_ticket, IsTicketOf}
use Rattle.history_facts.specs.Openings.{opens_by, was_opened}

opened_test : (none this was : Bool) (old : Option Ticket) (ticket : Ticket) → (is_some old ≡ true → was ≡ true)
    → is_some (if none then old else if this then Some ticket else old) ≡ true → (this || was) ≡ true
opened_test none true was old ticket earlier is = refl
opened_test true false was old ticket earlier is = earlier is
opened_test false false was old ticket earlier is = earlier is

closed_test : (this was : Bool) (old : Option Ticket) → (is_some old ≡ true → was ≡ true) → is_some (if this then None else old) ≡ true → was ≡ true
closed_test true was old earlier is = cc
closed_test false was old earlier is = earlier is

opened_step : (lane t : ℕ) (at : At) (e : Event) (past : Past) (old : Option Ticket) (was : Bool) → (is_some old ≡ true → was ≡ true)
    → is_some (ticket_by lane t at e past old) ≡ true → (opens_by lane t at e || was) ≡ true
opened_step lane t at (Opened n u v) past old was earlier is =
    opened_test (u.0 == 0) (is_ticket at u.0 lane t) was old (record { node = n.0; version = v.0; life = crashes n.0 past }) earlier is
opened_step lane t at (Closed n u) past old was earlier is = closed_test (is_ticket at u.0 lane t) was old earlier is
opened_step lane t at e past old was earlier is = earlier is

last_was_opened : (lane t : ℕ) (past : Past) → is_some (last_opened lane t past) ≡ true → was_opened lane t past ≡ true
last_was_opened lane t [] is = cc
last_was_opened lane t (e ∷ past) is =
    opened_step lane t e.at e.event past (last_opened lane t past) (was_opened lane t past) (last_was_opened lane t past) is

alive : (n v : ℕ) (past : Past) (o : Option Ticket) → IsTicketOf n v (while_alive past o) → is_some o ≡ true
alive n v past None held = absurd held
alive n v past (Some ticket) held = refl

numbered : (n v : ℕ) (zero : Bool) (o : Option Ticket) → IsTicketOf n v (if zero then None else o) → IsTicketOf n v o
numbered n v true o held = absurd held
numbered n v false o held = held

-- a ticket of a lane at a node was opened by the lane
pub held_was_opened : (lane t n v : ℕ) (past : Past) → IsTicketOf n v (open_ticket lane t past) → was_opened lane t past ≡ true
held_was_opened lane t n v past held =
    last_was_opened lane t past (alive n v past (last_opened lane t past) (numbered n v (t == 0) (while_alive past (last_opened lane t past)) held))
