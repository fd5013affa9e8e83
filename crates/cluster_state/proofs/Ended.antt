-- What the log shows of tickets and searches after one has ended.
use Rattle.std.proofs.Common.{◌≡◌, ◌==◌, ◌&&◌, ℕ, Bool, true, false, ◌∷◌, None, Option, refl, ap, ◌∙◌, if◌then◌else◌}
use Rattle.std.specs.Prelude.{not}
use Rattle.std.proofs.Math.Bool.{and-false}
use Rattle.nrt_base.specs.declared.numbers.At.{At}
use Rattle.nrt_base.specs.declared.numbers.NodeNo.{NodeNo}
use Rattle.nrt_base.specs.declared.numbers.TicketNo.{TicketNo}
use Rattle.nrt_base.specs.declared.numbers.Version.{Version}
use Rattle.documents.specs.declared.query.Query.{Query}
use Rattle.documents.specs.declared.answer.Answer.{Answer}
use Rattle.history_rules.specs.declared.entry.Event.TheVariants.{Answered, Closed}
use Rattle.history_rules.specs.Nodes.{Past}
use Rattle.history_rules.specs.Lines.{same_at}
use Rattle.history_rules.specs.Tickets.{Ticket, is_ticket, last_opened, while_alive, open_ticket, IsTicketOf}
use Rattle.history_tables.specs.Begins.{open_line}
use Rattle.cluster_nodes.specs.declared.held.HeldKey.TheVariants.{Ticket as TicketKey, Search}
use Rattle.cluster_nodes.specs.Held.{same_key}
use Rattle.cluster_state.specs.TicketsOut.{is_ticket_out}
use Rattle.cluster_state.specs.Lookups.{IsSearchAt, IsSearching}
use Rattle.cluster_state.specs.State.{ticket_key}
use Rattle.cluster_state.specs.Moves.{EndsKey}
use Rattle.cluster_state.proofs.Growing.{alive_less, tickets_less, searches_less}

-- a ticket that is still open was open, and is another
closed_apart : (b : Bool) (past : Past) (n w : ℕ) (old : Option Ticket) → IsTicketOf n w (while_alive past (if b then None else old)) → (b ≡ false) × IsTicketOf n w (while_alive past old)
closed_apart true past n w old is = absurd is
closed_apart false past n w old is = (refl, is)

apart_or_none : (z b : Bool) (x y : Option Ticket) (n w : ℕ) → (IsTicketOf n w x → (b ≡ false) × IsTicketOf n w y) → IsTicketOf n w (if z then None else x) → (b ≡ false) × IsTicketOf n w (if z then None else y)
apart_or_none true b x y n w step is = absurd is
apart_or_none false b x y n w step is = step is

pub ticket_closed : (past : Past) (at : At) (n : NodeNo) (t : TicketNo) (lane u w : ℕ) → IsTicketOf n.0 w (open_ticket lane u (record { at = at; event = Closed n t } ∷ past))
    → (same_key (TicketKey at.lane t) (ticket_key lane u) ≡ false) × IsTicketOf n.0 w (open_ticket lane u past)
ticket_closed past at n t lane u w is =
    apart_or_none (u == 0) (is_ticket at t.0 lane u) (while_alive (record { at = at; event = Closed n t } ∷ past) (last_opened lane u (record { at = at; event = Closed n t } ∷ past))) (while_alive past (last_opened lane u past)) n.0 w
    (λ got. closed_apart (is_ticket at t.0 lane u) past n.0 w (last_opened lane u past)
    (alive_less past (record { at = at; event = Closed n t } ∷ past) (last_opened lane u (record { at = at; event = Closed n t } ∷ past)) n.0 w refl got)) is

pub ticket_searches : (past : Past) (at : At) (n : NodeNo) (t : TicketNo) (a : At) (w : ℕ) → IsSearching (record { at = at; event = Closed n t } ∷ past) a n.0 w
    → (same_key (TicketKey at.lane t) (Search a) ≡ false) × IsSearching past a n.0 w
ticket_searches past at n t a w is = (refl, searches_less past at (Closed n t) n.0 a w refl is)

-- a search that goes on went on, and is another
answered_apart : (b : Bool) (past : Past) (a : At) (n w : ℕ) → IsSearchAt n w (if b then None else open_line a past) → (b ≡ false) × IsSearchAt n w (open_line a past)
answered_apart true past a n w is = absurd is
answered_apart false past a n w is = (refl, is)

pub search_answered : (past : Past) (at : At) (n : NodeNo) (t : TicketNo) (v : Version) (query : Query) (answer : Answer) (a : At) (w : ℕ)
    → IsSearching (record { at = at; event = Answered n t v query answer } ∷ past) a n.0 w → (same_key (Search at) (Search a) ≡ false) × IsSearching past a n.0 w
search_answered past at n t v query answer a w is =
    let line = answered_apart (same_at at a) past a n.0 w is.line in (line.0, record { line = line.1; survives = record { node = is.survives.node } })

pub search_tickets : (past : Past) (at : At) (n : NodeNo) (t : TicketNo) (v : Version) (query : Query) (answer : Answer) (lane u w : ℕ)
    → IsTicketOf n.0 w (open_ticket lane u (record { at = at; event = Answered n t v query answer } ∷ past)) → (same_key (Search at) (ticket_key lane u) ≡ false) × IsTicketOf n.0 w (open_ticket lane u past)
search_tickets past at n t v query answer lane u w is = (refl, tickets_less past at (Answered n t v query answer) n.0 lane u w refl is)

-- what is not given back is still out
kept_out : (here same was : Bool) → same ≡ false → was ≡ true → (not (here && same) && was) ≡ true
kept_out here same was apart is = ap (λ (b : Bool). not (here && b) && was) apart ∙ (ap (λ (b : Bool). not b && was) (and-false here) ∙ is)

-- a ticket of a lane was closed
pub closed_key : (past : Past) (at : At) (n : NodeNo) (t : TicketNo) → EndsKey past (record { at = at; event = Closed n t } ∷ past) n.0 (TicketKey at.lane t)
closed_key past at n t = record {
  tickets = λ lane u w is. ticket_closed past at n t lane u w is;
  searches = λ a w is. ticket_searches past at n t a w is;
  out = λ other apart was. kept_out (n.0 == n.0) (same_key (TicketKey at.lane t) other) (is_ticket_out n.0 other past) apart was;
}

-- a search was answered
pub answered_key : (past : Past) (at : At) (n : NodeNo) (t : TicketNo) (v : Version) (query : Query) (answer : Answer) → EndsKey past (record { at = at; event = Answered n t v query answer } ∷ past) n.0 (Search at)
answered_key past at n t v query answer = record {
  tickets = λ lane u w is. search_tickets past at n t v query answer lane u w is;
  searches = λ a w is. search_answered past at n t v query answer a w is;
  out = λ other apart was. kept_out ((n.0 == n.0) && (t.0 == 0)) (same_key (Search at) other) (is_ticket_out n.0 other past) apart was;
}
