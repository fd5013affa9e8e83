-- What the log shows of tickets and searches after one was opened.
use Rattle.std.proofs.Common.{◌≡◌, ◌==◌, ◌&&◌, inl, inr, ℕ, Bool, true, false, true≢false, ◌∷◌, Some, None, Option, refl, ap, ◌∙◌, sym, subst, if◌then◌else◌, length}
use Rattle.nrt_base.specs.declared.numbers.At.{At}
use Rattle.nrt_base.specs.declared.numbers.NodeNo.{NodeNo}
use Rattle.nrt_base.specs.declared.numbers.TicketNo.{TicketNo}
use Rattle.nrt_base.specs.declared.numbers.Version.{Version}
use Rattle.history_rules.specs.declared.entry.Event.TheVariants.{Opened}
use Rattle.history_rules.specs.Nodes.{Past, crashes}
use Rattle.history_rules.specs.Lines.{same_at, before_start}
use Rattle.history_rules.specs.Points.{operations_of_generation}
use Rattle.history_rules.specs.Tickets.{Ticket, is_ticket, last_opened, while_alive, open_ticket, IsTicketOf}
use Rattle.history_tables.specs.declared.lines.BegunLine.{BegunLine}
use Rattle.history_tables.specs.Begins.{begin, begun_by, open_line, start_by}
use Rattle.cluster_nodes.specs.declared.held.HeldKey.TheVariants.{Ticket as TicketKey, Search}
use Rattle.cluster_nodes.specs.Held.{same_key}
use Rattle.cluster_state.specs.Lookups.{IsSearchAt, IsSearching}
use Rattle.cluster_state.specs.State.{ticket_key}
use Rattle.cluster_state.proofs.Growing.{alive_less, by_number}
use Rattle.cluster_documents.proofs.Holding.{IsNewOr}

-- ---- a ticket of a lane

new_ticket : (b : Bool) (past : Past) (n v w : ℕ) (old : Option Ticket)
    → IsTicketOf n w (while_alive past (if b then Some (record { node = n; version = v; life = crashes n past }) else old)) → IsNewOr b v w (IsTicketOf n w (while_alive past old))
new_ticket true past n v w old is = go (crashes n past == crashes n past) is
  where
    go : (b : Bool) → IsTicketOf n w (if b then Some (record { node = n; version = v; life = crashes n past }) else None) → IsNewOr true v w (IsTicketOf n w (while_alive past old))
    go true got = inl (refl, sym got.1)
    go false got = absurd got
new_ticket false past n v w old is = inr (refl, is)

new_or_none : (b s : Bool) (x y : Option Ticket) (n v w : ℕ) → (IsTicketOf n w x → IsNewOr s v w (IsTicketOf n w y)) → IsTicketOf n w (if b then None else x) → IsNewOr s v w (IsTicketOf n w (if b then None else y))
new_or_none true s x y n v w step is = absurd is
new_or_none false s x y n v w step is = step is

pub ticket_opened : (past : Past) (at : At) (n : NodeNo) (t : TicketNo) (v : Version) (lane u w : ℕ) → (t.0 == 0) ≡ false
    → IsTicketOf n.0 w (open_ticket lane u (record { at = at; event = Opened n t v } ∷ past))
    → IsNewOr (same_key (TicketKey at.lane t) (ticket_key lane u)) v.0 w (IsTicketOf n.0 w (open_ticket lane u past))
ticket_opened past at n t v lane u w some is =
    new_or_none (u == 0) (is_ticket at t.0 lane u) (while_alive (record { at = at; event = Opened n t v } ∷ past) (last_opened lane u (record { at = at; event = Opened n t v } ∷ past))) (while_alive past (last_opened lane u past)) n.0 v.0 w
    (λ got. new_ticket (is_ticket at t.0 lane u) past n.0 v.0 w (last_opened lane u past)
    (subst (λ (o : Option Ticket). IsTicketOf n.0 w (while_alive past o))
    (ap (λ (b : Bool). if b then last_opened lane u past else if is_ticket at t.0 lane u then Some (record { node = n.0; version = v.0; life = crashes n.0 past }) else last_opened lane u past) some)
    (alive_less past (record { at = at; event = Opened n t v } ∷ past) (last_opened lane u (record { at = at; event = Opened n t v } ∷ past)) n.0 w refl got)))
    is

-- a line that has opened a ticket searches nothing
opened_line : (b : Bool) (past : Past) (n : NodeNo) (t : TicketNo) (v : Version) (m w before accepted : ℕ) (old : Option BegunLine) → (t.0 == 0) ≡ false
    → IsSearchAt m w (if b then begun_by (Opened n t v) before accepted old else old) → IsSearchAt m w old
opened_line true past n t v m w before accepted old some is = go (t.0 == 0) some is
  where
    go : (z : Bool) → z ≡ false → IsSearchAt m w (begin (if z then start_by (Opened n (record { 0 = 0 }) v) else None) before accepted) → IsSearchAt m w old
    go true some got = absurd (true≢false some)
    go false some got = absurd got
opened_line false past n t v m w before accepted old some is = is

pub ticket_searched : (past : Past) (at : At) (n : NodeNo) (t : TicketNo) (v : Version) (a : At) (w : ℕ) → (t.0 == 0) ≡ false
    → IsSearching (record { at = at; event = Opened n t v } ∷ past) a n.0 w → IsNewOr (same_key (TicketKey at.lane t) (Search a)) v.0 w (IsSearching past a n.0 w)
ticket_searched past at n t v a w some is = inr (
  refl,
  record {
    line = opened_line (same_at at a) past n t v n.0 w (length past) (length (operations_of_generation past)) (open_line a past) some is.line;
    survives = record { node = is.survives.node ∙ ap (λ (b : Bool). crashes n.0 (if b && same_at at a then past else before_start a past)) some };
  },
)

-- ---- a search

pub search_ticket : (past : Past) (at : At) (n : NodeNo) (v : Version) (lane u w : ℕ) → IsTicketOf n.0 w (open_ticket lane u (record { at = at; event = Opened n (record { 0 = 0 }) v } ∷ past))
    → IsNewOr (same_key (Search at) (ticket_key lane u)) v.0 w (IsTicketOf n.0 w (open_ticket lane u past))
search_ticket past at n v lane u w is =
    inr (
      refl,
      by_number (u == 0) (while_alive (record { at = at; event = Opened n (record { 0 = 0 }) v } ∷ past) (last_opened lane u past)) (while_alive past (last_opened lane u past)) n.0 w
          (λ got. alive_less past (record { at = at; event = Opened n (record { 0 = 0 }) v } ∷ past) (last_opened lane u past) n.0 w refl got) is,
    )

pub search_opened : (past : Past) (at : At) (n : NodeNo) (v : Version) (a : At) (w : ℕ) → IsSearching (record { at = at; event = Opened n (record { 0 = 0 }) v } ∷ past) a n.0 w
    → IsNewOr (same_key (Search at) (Search a)) v.0 w (IsSearching past a n.0 w)
search_opened past at n v a w is = go (same_at at a) is.line is.survives.node
  where
    go : (b : Bool) → IsSearchAt n.0 w (if b then begun_by (Opened n (record { 0 = 0 }) v) (length past) (length (operations_of_generation past)) (open_line a past) else open_line a past)
        → crashes n.0 past ≡ crashes n.0 (if b then past else before_start a past) → IsNewOr b v.0 w (IsSearching past a n.0 w)
    go true line same = inl (refl, sym line.1)
    go false line same = inr (refl, record { line = line; survives = record { node = same } })
