-- Which tickets the entries before a place opened, and what the open ones hold.
use Rattle.std.specs.Prelude.{ℕ, ◌≡◌, [], ◌∷◌, reverse, Bool, true, false, ◌||◌}
use Rattle.nrt_base.specs.declared.numbers.At.{At}
use Rattle.history_rules.specs.declared.entry.Event.{Event}
use Rattle.history_rules.specs.declared.entry.Event.TheVariants.{Opened}
use Rattle.history_rules.specs.Nodes.{Past, crashes}
use Rattle.history_rules.specs.Tickets.{Ticket, is_ticket, open_ticket, IsTicketOf}
use Rattle.history_rules.specs.Points.{has_documents}
use Rattle.history_facts.specs.declared.tickets.TicketOpening.{TicketOpening}

-- the ticket of an opening: its node and version, and how often the node had crashed before it
abbrev pub opening_of : TicketOpening → Ticket
opening_of k = record { node = k.n.0; version = k.v.0; life = crashes k.n.0 (reverse k.before.now) }

abbrev pub opens_by : ℕ → ℕ → At → Event → Bool
opens_by lane t at (Opened n u v) = is_ticket at u.0 lane t
opens_by lane t at e = false

-- the lane has opened such a ticket, which may be closed since
abbrev pub was_opened : ℕ → ℕ → Past → Bool
was_opened lane t [] = false
was_opened lane t (e ∷ past) = opens_by lane t e.at e.event || was_opened lane t past

-- no such ticket is at this node and at a version that has documents
abbrev pub HoldsNone : Past → ℕ → (ℕ → ℕ → Bool) → Type 0
HoldsNone past n such =
    (lane t v : ℕ) → such lane t ≡ true → IsTicketOf n v (open_ticket lane t past) → has_documents past v ≡ true → ⊥
