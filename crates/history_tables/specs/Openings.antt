-- The last openings of tickets.
use Rattle.std.specs.Prelude.{ℕ, ◌≡◌, List, Bool, false, not, Option, ◌&&◌, ◌==◌, ⊤}
use Rattle.std.specs.Map.{lookup}
use Rattle.std.specs.Option.{option_map}
use Rattle.history_rules.specs.declared.entry.Event.{Event}
use Rattle.history_rules.specs.declared.entry.Event.TheVariants.{Opened}
use Rattle.history_rules.specs.Nodes.{Past, crashes}
use Rattle.history_rules.specs.Tickets.{Ticket}
use Rattle.history_tables.specs.declared.tickets.Opening.{Opening}
use Rattle.history_tables.specs.declared.tickets.TicketKey.{TicketKey}

-- a ticket of a lane, and what was opened
abbrev pub TicketRow : Type 0
TicketRow = TicketKey × Opening

-- rows of tickets, and for how many more there is room
pub record TicketRows : Type 0 where
  pub rows : List TicketRow
  pub room : ℕ

-- the ticket of an opening
abbrev pub ticket_of : Opening → Ticket
ticket_of o = record { node = o.node.0; version = o.version.0; life = o.life }

-- the ticket of this number of the lane
abbrev pub is_ticket_key : ℕ → ℕ → TicketKey → Bool
is_ticket_key lane t key = (lane == key.lane.0) && (t == key.number.0)

-- what the rows say of a ticket of a lane
abbrev pub opened_of : List TicketRow → ℕ → ℕ → Option Ticket
opened_of rows lane t = option_map ticket_of (lookup (is_ticket_key lane t) rows)

-- the event opens a ticket
abbrev pub opens_ticket : Event → Bool
opens_ticket (Opened n t v) = not (t.0 == 0)
opens_ticket e = false

-- where a ticket is opened, this is how often its node has crashed
abbrev pub IsLife : Event → Past → ℕ → Type 0
IsLife (Opened n t v) past life = life ≡ crashes n.0 past
IsLife e past life = ⊤
