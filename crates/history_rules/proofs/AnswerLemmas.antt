-- Each search of a legal history is at a point, through its ticket or by itself.
use Rattle.std.proofs.Common.{◌≡◌, ◌≢◌, ◌==◌, ◌&&◌, ℕ, [], ◌∷◌, Bool, true, false, Option, Some, None, if◌then◌else◌, refl, sym, ap, ◌∙◌, subst}
use Rattle.std.proofs.lemmas.Bool.{and_parts, eqb-true}
use Rattle.std.specs.Prelude.{⊤}
use Rattle.nrt_base.specs.declared.numbers.At.{At}
use Rattle.nrt_base.specs.declared.numbers.NodeNo.{NodeNo}
use Rattle.nrt_base.specs.declared.numbers.TicketNo.{TicketNo}
use Rattle.nrt_base.specs.declared.numbers.Version.{Version}
use Rattle.history_rules.specs.declared.entry.Entry.{Entry}
use Rattle.history_rules.specs.declared.entry.Event.{Event}
use Rattle.history_rules.specs.declared.entry.Event.TheVariants.{Opened, Asking, Closed}
use Rattle.history_rules.specs.Nodes.{Past, is_point, crashes}
use Rattle.history_rules.specs.Lines.{same_at, is_start, start_entry, before_start}
use Rattle.history_rules.specs.Tickets.{Ticket, is_ticket, ticket_by, last_opened, while_alive, open_ticket, IsTicketOf}
use Rattle.history_rules.specs.Started.{StartedSearch}
use Rattle.history_rules.specs.Legal.{KeepsRule, IsLegalPast}
use Rattle.history_rules.proofs.PastLemmas.{point_stays}
use Rattle.history_rules.proofs.NodeLemmas.{known}

-- the ticket, where there is one, is at a point
abbrev IsAtPoint : Past → Option Ticket → Type 0
IsAtPoint past None = ⊤
IsAtPoint past (Some ticket) = is_point ticket.version past ≡ true

at_point_stays : (past : Past) (e : Entry) (ticket : Option Ticket) → IsAtPoint past ticket → IsAtPoint (e ∷ past) ticket
at_point_stays past e None point = tt
at_point_stays past e (Some ticket) point = point_stays past e ticket.version point

at_point_if : (past : Past) (b : Bool) (yes' no' : Option Ticket) → IsAtPoint past yes' → IsAtPoint past no' → IsAtPoint past (if b then yes' else no')
at_point_if past true yes' no' left right = left
at_point_if past false yes' no' left right = right

opened_step : (size : ℕ) (past : Past) (at : At) (e : Event) (lane t : ℕ) → KeepsRule size past at e → IsLegalPast size past → IsAtPoint past (last_opened lane t past)
    → IsAtPoint (record { at = at; event = e } ∷ past) (ticket_by lane t at e past (last_opened lane t past))
opened_step size past at (Opened n u v) lane t keeps legal old =
    at_point_if past (u.0 == 0) (last_opened lane t past) (if is_ticket at u.0 lane t then Some (record { node = n.0; version = v.0; life = crashes n.0 past }) else last_opened lane t past)
    old
    (at_point_if past (is_ticket at u.0 lane t) (Some (record { node = n.0; version = v.0; life = crashes n.0 past })) (last_opened lane t past)
    (subst (λ (w : ℕ). is_point w past ≡ true) (sym keeps.searched) ((known size past legal).version n.0)) old)
opened_step size past at (Closed n u) lane t keeps legal old = at_point_if past (is_ticket at u.0 lane t) None (last_opened lane t past) tt old
opened_step size past at e lane t keeps legal old = at_point_stays past (record { at = at; event = e }) (last_opened lane t past) old

opened_at_point : (size : ℕ) (past : Past) (lane t : ℕ) → IsLegalPast size past → IsAtPoint past (last_opened lane t past)
opened_at_point size [] lane t legal = tt
opened_at_point size (e ∷ past) lane t legal =
    opened_step size past e.at e.event lane t legal.0 legal.1 (opened_at_point size past lane t legal.1)

alive_at_point : (past : Past) (ticket : Option Ticket) → IsAtPoint past ticket → IsAtPoint past (while_alive past ticket)
alive_at_point past None point = tt
alive_at_point past (Some ticket) point =
    at_point_if past (crashes ticket.node past == ticket.life) (Some ticket) None point tt

open_at_point : (size : ℕ) (past : Past) (lane t : ℕ) → IsLegalPast size past → IsAtPoint past (open_ticket lane t past)
open_at_point size past lane t legal =
    at_point_if past (t == 0) None (while_alive past (last_opened lane t past)) tt
    (alive_at_point past (last_opened lane t past) (opened_at_point size past lane t legal))

ticket_point : (past : Past) (ticket : Option Ticket) (n v : ℕ) → IsAtPoint past ticket → IsTicketOf n v ticket → is_point v past ≡ true
ticket_point past None n v point held = absurd held
ticket_point past (Some ticket) n v point held = subst (λ (w : ℕ). is_point w past ≡ true) held.1 point

search_step : (size : ℕ) (past : Past) (at : At) (e : Event) (n : NodeNo) (t : TicketNo) (v : Version) → KeepsRule size past at e → IsLegalPast size past
    → StartedSearch n t v (Some e) → is_point v.0 past ≡ true
search_step size past at (Opened m u w) n t v keeps legal started =
    subst (λ (x : ℕ). is_point x past ≡ true) (sym keeps.searched ∙ ap (λ (x : Version). x.0) started.2) ((known size past legal).version m.0)
search_step size past at (Asking m u w) n t v keeps legal started =
    subst (λ (x : ℕ). is_point x past ≡ true) (ap (λ (x : Version). x.0) started.2)
    (ticket_point past (open_ticket at.lane.0 u.0 past) m.0 w.0 (open_at_point size past at.lane.0 u.0 legal) keeps.held)
search_step size past at e n t v keeps legal started = absurd started

-- the version of a search that a line started is a point
pub search_at_point : (size : ℕ) (past : Past) (at : At) (n : NodeNo) (t : TicketNo) (v : Version) → IsLegalPast size past
    → StartedSearch n t v (start_entry at past) → is_point v.0 past ≡ true
search_at_point size [] at n t v legal started = absurd started
search_at_point size (e ∷ past) at n t v legal started =
    point_stays past e v.0 (since (is_start e.event && same_at e.at at) started (λ earlier. search_at_point size past at n t v legal.1 earlier))
  where
    since : (b : Bool) → StartedSearch n t v (if b then Some e.event else start_entry at past)
        → (StartedSearch n t v (start_entry at past) → is_point v.0 past ≡ true) → is_point v.0 past ≡ true
    since true started earlier = search_step size past e.at e.event n t v legal.0 legal.1 started
    since false started earlier = earlier started

-- a search at a ticket started where its ticket stood
pub asked_at_ticket : (size : ℕ) (past : Past) (at : At) (n : NodeNo) (t : TicketNo) (v : Version) → t.0 ≢ 0 → IsLegalPast size past
    → StartedSearch n t v (start_entry at past) → IsTicketOf n.0 v.0 (open_ticket at.lane.0 t.0 (before_start at past))
asked_at_ticket size [] at n t v some legal started = absurd started
asked_at_ticket size (e ∷ past) at n t v some legal started =
    since (is_start e.event && same_at e.at at) refl started (λ earlier. asked_at_ticket size past at n t v some legal.1 earlier)
  where
    by_event : (x : Event) → KeepsRule size past e.at x → is_start x ≡ true → e.at.lane.0 ≡ at.lane.0 → StartedSearch n t v (Some x)
        → IsTicketOf n.0 v.0 (open_ticket at.lane.0 t.0 past)
    by_event (Opened m u w) keeps start lane s = absurd (some (ap (λ (x : TicketNo). x.0) (sym s.1) ∙ eqb-true u.0 0 start))
    by_event (Asking m u w) keeps start lane s =
        subst (λ (p : ℕ × ℕ × ℕ × ℕ). IsTicketOf p.0 p.1 (open_ticket p.2 p.3 past)) (λ i. ((s.0 i).0, (s.2 i).0, lane i, (s.1 i).0)) keeps.held
    by_event x keeps start lane s = absurd s

    since : (b : Bool) → (is_start e.event && same_at e.at at) ≡ b → StartedSearch n t v (if b then Some e.event else start_entry at past)
        → (StartedSearch n t v (start_entry at past) → IsTicketOf n.0 v.0 (open_ticket at.lane.0 t.0 (before_start at past)))
        → IsTicketOf n.0 v.0 (open_ticket at.lane.0 t.0 (if b then past else before_start at past))
    since true here begun earlier =
        let parts = and_parts (is_start e.event) (same_at e.at at) here in
        let lane = (and_parts (e.at.lane.0 == at.lane.0) (e.at.line.0 == at.line.0) parts.1).0 in
        by_event e.event legal.0 parts.0 (eqb-true e.at.lane.0 at.lane.0 lane) begun
    since false here begun earlier = earlier begun
