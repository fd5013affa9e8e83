-- Which tickets of nodes the entries before a place show to be out.
use Rattle.std.specs.Prelude.{ℕ, Bool, false, ◌&&◌, ◌||◌, not, ◌==◌, if◌then◌else◌}
use Rattle.nrt_base.specs.declared.numbers.At.{At}
use Rattle.nrt_base.specs.declared.numbers.TicketNo.{TicketNo}
use Rattle.history_rules.specs.declared.entry.Event.TheVariants.{Opened, Answered, Closed, Crashed}
use Rattle.history_rules.specs.Nodes.{Past, over}
use Rattle.cluster_nodes.specs.declared.held.HeldKey.{HeldKey}
use Rattle.cluster_nodes.specs.declared.held.HeldKey.TheVariants.{Ticket, Search}
use Rattle.cluster_nodes.specs.Held.{same_key}

-- for what a line opens: a ticket of its lane, or where it has no number a search of its own
abbrev pub key_by : At → TicketNo → HeldKey
key_by at t = if t.0 == 0 then Search at else Ticket at.lane t

-- A ticket of the node is out for this: it was opened there, since then neither was it closed nor the search answered, and the node has not
-- crashed.
abbrev pub is_ticket_out : ℕ → HeldKey → Past → Bool
is_ticket_out n key = over false (λ e past was. elim e.event [
  | Opened m t v ↦ ((m.0 == n) && same_key (key_by e.at t) key) || was
  | Answered m t v query answer ↦ not (((m.0 == n) && (t.0 == 0)) && same_key (Search e.at) key) && was
  | Closed m t ↦ not ((m.0 == n) && same_key (Ticket e.at.lane t) key) && was
  | Crashed m ↦ not (m.0 == n) && was
  | event ↦ was
])
