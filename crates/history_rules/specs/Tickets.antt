-- The tickets that the entries before a place show.
use Rattle.std.specs.Prelude.{ℕ, is_some, ◌≡◌, [], ◌∷◌, Bool, ◌&&◌, ◌==◌, if◌then◌else◌, Option, Some, None}
use Rattle.nrt_base.specs.declared.numbers.At.{At}
use Rattle.history_rules.specs.declared.entry.Event.{Event}
use Rattle.history_rules.specs.declared.entry.Event.TheVariants.{Opened, Closed}
use Rattle.history_rules.specs.Nodes.{Past, crashes}

-- what was opened: the node, the version that it searched, and how often it had crashed
pub record Ticket : Type 0 where
  pub node : ℕ
  pub version : ℕ
  pub life : ℕ

-- it is this ticket of the lane
abbrev pub is_ticket : At → ℕ → ℕ → ℕ → Bool
is_ticket at u lane t = (at.lane.0 == lane) && (u == t)

abbrev pub ticket_by : ℕ → ℕ → At → Event → Past → Option Ticket → Option Ticket
ticket_by lane t at (Opened n u v) past old =
    if u.0 == 0 then old else if is_ticket at u.0 lane t then Some (record { node = n.0; version = v.0; life = crashes n.0 past }) else old
ticket_by lane t at (Closed n u) past old = if is_ticket at u.0 lane t then None else old
ticket_by lane t at e past old = old

-- the last opening of a ticket of a lane, unless it was closed since
abbrev pub last_opened : ℕ → ℕ → Past → Option Ticket
last_opened lane t [] = None
last_opened lane t (e ∷ past) = ticket_by lane t e.at e.event past (last_opened lane t past)

-- the ticket, where its node has not crashed since
abbrev pub while_alive : Past → Option Ticket → Option Ticket
while_alive past None = None
while_alive past (Some ticket) = if crashes ticket.node past == ticket.life then Some ticket else None

-- an open ticket of a lane: it was opened, and neither was it closed nor has its node crashed since
abbrev pub open_ticket : ℕ → ℕ → Past → Option Ticket
open_ticket lane t past = if t == 0 then None else while_alive past (last_opened lane t past)

-- the lane has this ticket
abbrev pub has_ticket : ℕ → ℕ → Past → Bool
has_ticket lane t past = is_some (open_ticket lane t past)

-- it is a ticket at this node, at this version
abbrev pub IsTicketOf : ℕ → ℕ → Option Ticket → Type 0
IsTicketOf n v None = ⊥
IsTicketOf n v (Some ticket) = (ticket.node ≡ n) × (ticket.version ≡ v)
