-- What one more entry leaves of points, of tickets and searches, and of the publish in flight.
use Rattle.std.proofs.Common.{◌≡◌, ◌≢◌, ◌≤◌, ◌+◌, ◌&&◌, ◌==◌, ℕ, Bool, true, false, true≢false, List, [], ◌∷◌, Some, None, Option, refl, ap, ◌∙◌, sym, subst, arith, if◌then◌else◌, length}
use Rattle.std.specs.Prelude.{not, ◌||◌}
use Rattle.std.proofs.lemmas.Bool.Decides.{nat_tests}
use Rattle.std.proofs.Math.Bool.{and-false}
use Rattle.nrt_base.specs.declared.numbers.At.{At}
use Rattle.nrt_base.specs.declared.numbers.NodeNo.{NodeNo}
use Rattle.seg_reader.specs.Shown.{Shown}
use Rattle.seg_reader.specs.Stands.{AreSegmentsOf}
use Rattle.nrt_base.specs.declared.doc.Doc.{Doc}
use Rattle.history_rules.specs.declared.entry.Entry.{Entry}
use Rattle.history_rules.specs.declared.entry.Event.{Event}
use Rattle.history_rules.specs.declared.entry.Event.TheVariants.{Accepted, Publishing, Published, Switched, Opened, Answered, Crashed, Reopened, Promoted, Merging, Fault, Closed}
use Rattle.history_rules.specs.Nodes.{Past, is_at, primary_of, is_running, crashes, generation_of, version_of}
use Rattle.history_rules.specs.Lines.{same_at, is_start, is_reply, start_entry, before_start, without_at, publish_in_flight}
use Rattle.history_rules.specs.Points.{operations_of_generation}
use Rattle.history_rules.specs.Tickets.{Ticket, is_ticket, last_opened, while_alive, open_ticket, IsTicketOf}
use Rattle.history_rules.specs.Legal.{KeepsRule, IsLegalPast}
use Rattle.history_rules.proofs.PointLemmas.{operations_stay, documents_stay_lem}
use Rattle.history_rules.specs.Steps.{is_running_by, version_by}
use Rattle.history_tables.specs.declared.lines.BegunLine.{BegunLine}
use Rattle.history_tables.specs.Begins.{begin, begun_by, open_line, start_by}
use Rattle.history_tables.proofs.RowLemmas.{by_test, same_at_is}
use Rattle.history_book.specs.Turns.{AreInTurn}
use Rattle.history_book.proofs.LineLaws.{flying}
use Rattle.cluster_state.specs.Lookups.{IsSearchAt, IsSearching}
use Rattle.cluster_nodes.specs.declared.held.HeldKey.{HeldKey}
use Rattle.cluster_nodes.specs.declared.held.HeldKey.TheVariants.{Ticket as TicketKey, Search}
use Rattle.cluster_nodes.specs.Held.{same_key}
use Rattle.cluster_state.specs.TicketsOut.{key_by, is_ticket_out}
use Rattle.cluster_state.specs.State.{StandForVersion}
use Rattle.cluster_state.specs.Moves.{moves, moves_tickets, keeps_flight, FlightStays, Lasts, Fewer, WritesOn, Same}

-- ---- points

-- the documents of a point stay
pub stands_more : (size : ℕ) (past : Past) (e : Entry) (v : ℕ) (segs : List Shown) → IsLegalPast size (e ∷ past) → StandForVersion past v segs → StandForVersion (e ∷ past) v segs
stands_more size past e v segs legal was =
    let stays = operations_stay size (e ∷ []) past v legal was.known in
    record {
      known = stays.1;
      documents = subst (λ (docs : List Doc). AreSegmentsOf docs segs) (sym (documents_stay_lem size (e ∷ []) past v legal was.known)) was.documents;
    }

pub generation_more : (size : ℕ) (past : Past) (at : At) (e : Event) → KeepsRule size past at e → generation_of past ≤ generation_of (record { at = at; event = e } ∷ past)
generation_more size past at (Promoted m g f w) keeps = omega (arith, keeps.next)
generation_more size past at e keeps = omega arith

-- ---- tickets

-- the entry opens a ticket or a search at the node, or the node crashes
abbrev pub more_tickets : Event → ℕ → Bool
more_tickets (Opened m t v) n = m.0 == n
more_tickets (Crashed m) n = m.0 == n
more_tickets e n = false

-- so does none that moves no ticket
not_more : (e : Event) (n : ℕ) → moves_tickets e n ≡ false → more_tickets e n ≡ false
not_more (Opened m t v) n apart = apart
not_more (Crashed m) n apart = apart
not_more e n apart = refl

-- a node that has not crashed since has the tickets that it had
pub alive_less : (past now : Past) (x : Option Ticket) (n v : ℕ) → crashes n now ≡ crashes n past → IsTicketOf n v (while_alive now x) → IsTicketOf n v (while_alive past x)
alive_less past now None n v same is = is
alive_less past now (Some ticket) n v same is = go (crashes ticket.node now == ticket.life) refl is
  where
    go : (b : Bool) → (crashes ticket.node now == ticket.life) ≡ b → IsTicketOf n v (if b then Some ticket else None)
        → IsTicketOf n v (if crashes ticket.node past == ticket.life then Some ticket else None)
    go true here got =
        let count : crashes ticket.node now ≡ crashes ticket.node past = subst (λ (k : ℕ). crashes k now ≡ crashes k past) (sym got.0) same in
        subst (λ (b : Bool). IsTicketOf n v (if b then Some ticket else None)) (sym (ap (λ (k : ℕ). k == ticket.life) (sym count) ∙ here)) got
    go false here got = absurd got

pub by_number : (b : Bool) (x y : Option Ticket) (n v : ℕ) → (IsTicketOf n v x → IsTicketOf n v y) → IsTicketOf n v (if b then None else x) → IsTicketOf n v (if b then None else y)
by_number true x y n v step is = absurd is
by_number false x y n v step is = step is

-- a ticket that was opened at another node
opened_apart : (b : Bool) (past : Past) (m life w n v : ℕ) (old : Option Ticket) → (m == n) ≡ false
    → IsTicketOf n v (while_alive past (if b then Some (record { node = m; version = w; life = life }) else old)) → IsTicketOf n v (while_alive past old)
opened_apart true past m life w n v old apart is = go (crashes m past == life) is
  where
    go : (b : Bool) → IsTicketOf n v (if b then Some (record { node = m; version = w; life = life }) else None) → IsTicketOf n v (while_alive past old)
    go true got = absurd (true≢false (sym (let same : m ≡ n = got.0 in grind (arith, nat_tests)) ∙ apart))
    go false got = absurd got
opened_apart false past m life w n v old apart is = is

closed_less : (b : Bool) (past : Past) (n v : ℕ) (old : Option Ticket) → IsTicketOf n v (while_alive past (if b then None else old)) → IsTicketOf n v (while_alive past old)
closed_less true past n v old is = absurd is
closed_less false past n v old is = is

crashes_other : (m n k : ℕ) → (m == n) ≡ false → (if m == n then k + 1 else k) ≡ k
crashes_other m n k apart = ap (λ (b : Bool). if b then k + 1 else k) apart

pub tickets_less : (past : Past) (at : At) (e : Event) (n lane t v : ℕ) → more_tickets e n ≡ false
    → IsTicketOf n v (open_ticket lane t (record { at = at; event = e } ∷ past)) → IsTicketOf n v (open_ticket lane t past)
tickets_less past at (Opened m u w) n lane t v apart is =
    by_number (t == 0) (while_alive (record { at = at; event = Opened m u w } ∷ past) (last_opened lane t (record { at = at; event = Opened m u w } ∷ past))) (while_alive past (last_opened lane t past)) n v
    (λ got. zero (u.0 == 0) (alive_less past (record { at = at; event = Opened m u w } ∷ past) (last_opened lane t (record { at = at; event = Opened m u w } ∷ past)) n v refl got)) is
  where
    zero : (b : Bool) → IsTicketOf n v (while_alive past (if b then last_opened lane t past else if is_ticket at u.0 lane t then Some (record { node = m.0; version = w.0; life = crashes m.0 past }) else last_opened lane t past))
        → IsTicketOf n v (while_alive past (last_opened lane t past))
    zero true got = got
    zero false got = opened_apart (is_ticket at u.0 lane t) past m.0 (crashes m.0 past) w.0 n v (last_opened lane t past) apart got
tickets_less past at (Closed m u) n lane t v apart is =
    by_number (t == 0) (while_alive (record { at = at; event = Closed m u } ∷ past) (last_opened lane t (record { at = at; event = Closed m u } ∷ past))) (while_alive past (last_opened lane t past)) n v
    (λ got. closed_less (is_ticket at u.0 lane t) past n v (last_opened lane t past) (alive_less past (record { at = at; event = Closed m u } ∷ past) (last_opened lane t (record { at = at; event = Closed m u } ∷ past)) n v refl got)) is
tickets_less past at (Crashed m) n lane t v apart is =
    by_number (t == 0) (while_alive (record { at = at; event = Crashed m } ∷ past) (last_opened lane t past)) (while_alive past (last_opened lane t past)) n v
    (λ got. alive_less past (record { at = at; event = Crashed m } ∷ past) (last_opened lane t past) n v (crashes_other m.0 n (crashes n past) apart) got) is
tickets_less past at e n lane t v apart is =
    by_number (t == 0) (while_alive (record { at = at; event = e } ∷ past) (last_opened lane t past)) (while_alive past (last_opened lane t past)) n v
    (λ got. alive_less past (record { at = at; event = e } ∷ past) (last_opened lane t past) n v refl got) is

-- ---- searches

-- the line searched the node before the entry, and the entry started no line of the kind
record Searched (n v : ℕ) (e : Event) (s : Bool) (old : Option BegunLine) : Type 0 where
  pub before : IsSearchAt n v old
  pub start : (is_start e && s) ≡ false

line_less : (past : Past) (e : Event) (n v before accepted : ℕ) (s : Bool) (old : Option BegunLine) → more_tickets e n ≡ false
    → IsSearchAt n v (if s then begun_by e before accepted old else old) → Searched n v e s old
line_less past e n v before accepted false old apart is = record { before = is; start = and-false (is_start e) }
line_less past (Switched m w) n v before accepted true old apart is = record { before = is; start = refl }
line_less past (Fault m kind) n v before accepted true old apart is = record { before = is; start = refl }
line_less past (Opened m t w) n v before accepted true old apart is = opened (t.0 == 0) refl is
  where
    opened : (b : Bool) → (t.0 == 0) ≡ b → IsSearchAt n v (begin (if b then start_by (Opened m (record { 0 = 0 }) w) else None) before accepted) → Searched n v (Opened m t w) true old
    opened true zero got = absurd (true≢false (sym (let same : m.0 ≡ n = got.0 in grind (arith, nat_tests)) ∙ apart))
    opened false zero got = absurd got
line_less past e n v before accepted true old apart is = absurd is

crashes_same : (past : Past) (at : At) (e : Event) (n : ℕ) → more_tickets e n ≡ false → crashes n (record { at = at; event = e } ∷ past) ≡ crashes n past
crashes_same past at (Crashed m) n apart = crashes_other m.0 n (crashes n past) apart
crashes_same past at e n apart = refl

pub searches_less : (past : Past) (at : At) (e : Event) (n : ℕ) (a : At) (v : ℕ) → more_tickets e n ≡ false
    → IsSearching (record { at = at; event = e } ∷ past) a n v → IsSearching past a n v
searches_less past at e n a v apart is =
    let line = line_less past e n v (length past) (length (operations_of_generation past)) (same_at at a) (open_line a past) apart is.line in
    let start : before_start a (record { at = at; event = e } ∷ past) ≡ before_start a past = ap (λ (b : Bool). if b then past else before_start a past) line.start in
    record {
      line = line.before;
      survives = record { node = sym (crashes_same past at e n apart) ∙ (is.survives.node ∙ ap (crashes n) start) };
    }

-- an entry that moves no ticket of the node leaves those that are out
out_same : (past : Past) (at : At) (e : Event) (n : ℕ) (key : HeldKey) → moves_tickets e n ≡ false → is_ticket_out n key (record { at = at; event = e } ∷ past) ≡ is_ticket_out n key past
out_same past at (Opened m t v) n key apart = ap (λ (b : Bool). (b && same_key (key_by at t) key) || is_ticket_out n key past) apart
out_same past at (Answered m t v query answer) n key apart = ap (λ (b : Bool). not (b && same_key (Search at) key) && is_ticket_out n key past) apart
out_same past at (Closed m t) n key apart = ap (λ (b : Bool). not (b && same_key (TicketKey at.lane t) key) && is_ticket_out n key past) apart
out_same past at (Crashed m) n key apart = ap (λ (b : Bool). not b && is_ticket_out n key past) apart
out_same past at e n key apart = refl

pub fewer : (past : Past) (at : At) (e : Event) (n : ℕ) → moves_tickets e n ≡ false → Fewer past (record { at = at; event = e } ∷ past) n
fewer past at e n apart = record {
  tickets = λ lane t v is. tickets_less past at e n lane t v (not_more e n apart) is;
  searches = λ a v is. searches_less past at e n a v (not_more e n apart) is;
  out = λ key. out_same past at e n key apart;
}

pub lasts : (size : ℕ) (past : Past) (at : At) (e : Event) → IsLegalPast size past → KeepsRule size past at e → Lasts past (record { at = at; event = e } ∷ past)
lasts size past at e legal keeps = record {
  stands = λ v segs was. stands_more size past (record { at = at; event = e }) v segs (keeps, legal) was;
  generation = generation_more size past at e keeps;
}

-- ---- the publish in flight

without_apart : (at : At) (old : Option At) → ((a : At) → old ≡ Some a → same_at at a ≡ false) → without_at at old ≡ old
without_apart at None apart = refl
without_apart at (Some a) apart = ap (λ (b : Bool). if b then None else Some a) (apart a refl)

-- a line that did not start as a publish is not the one of the publish in flight
pub not_flying : (size : ℕ) (past : Past) (at : At) → IsLegalPast size past → AreInTurn past → start_entry at past ≢ Some Publishing → publish_in_flight past ≢ Some at
not_flying size past at legal turns other is = other (flying size past at legal turns is).entry

flight_apart : (past : Past) (at a : At) → publish_in_flight past ≢ Some at → publish_in_flight past ≡ Some a → same_at at a ≡ false
flight_apart past at a other is =
    by_test (same_at at a) (λ b. same_at at a ≡ b → same_at at a ≡ false)
    (λ here q. absurd (other (subst (λ (x : At). publish_in_flight past ≡ Some x) (sym (same_at_is at a here)) is)))
    (λ there q. there) refl

pub flight_stays : (past : Past) (at : At) (e : Event) → publish_in_flight past ≢ Some at
    → keeps_flight e (primary_of past) ≡ true → FlightStays past (record { at = at; event = e } ∷ past)
flight_stays past at e other keeps = record {
  flight = stays e keeps;
  start = λ a is. ap (λ (b : Bool). if is_start e && b then past else before_start a past) (flight_apart past at a other is)
      ∙ ap (λ (b : Bool). if b then past else before_start a past) (and-false (is_start e));
}
  where
    without : without_at at (publish_in_flight past) ≡ publish_in_flight past
    without = without_apart at (publish_in_flight past) (λ a is. flight_apart past at a other is)

    reply : (b : Bool) → (if b then without_at at (publish_in_flight past) else publish_in_flight past) ≡ publish_in_flight past
    reply true = without
    reply false = refl

    crash : (b : Bool) → not b ≡ true → (if b then None else without_at at (publish_in_flight past)) ≡ publish_in_flight past
    crash true keeps = absurd (true≢false (sym keeps))
    crash false keeps = without

    stays : (e : Event) → keeps_flight e (primary_of past) ≡ true → publish_in_flight (record { at = at; event = e } ∷ past) ≡ publish_in_flight past
    stays Publishing keeps = absurd (true≢false (sym keeps))
    stays (Published g v) keeps = absurd (true≢false (sym keeps))
    stays (Crashed m) keeps = crash (is_at (primary_of past) m.0) keeps
    stays e keeps = reply (is_reply e)

pub test_apart : (p : Option NodeNo) (m n : ℕ) → (m == n) ≡ false → is_at p m ≡ true → is_at p n ≡ false
test_apart None m n apart here = refl
test_apart (Some q) m n apart here = grind (arith, nat_tests)

flight_kept : (p : Option NodeNo) (e : Event) (n : ℕ) → is_at p n ≡ true → moves e p n ≡ false → keeps_flight e p ≡ true
flight_kept p Publishing n here apart = absurd (true≢false (sym here ∙ apart))
flight_kept p (Published g v) n here apart = absurd (true≢false (sym here ∙ apart))
flight_kept p (Crashed m) n here apart =
    by_test (is_at p m.0) (λ b. is_at p m.0 ≡ b → not (is_at p m.0) ≡ true)
    (λ is q. absurd (true≢false (sym here ∙ test_apart p m.0 n apart is))) (λ is q. ap not is) refl
flight_kept p e n here apart = refl

-- ---- a node that the entry does not move

primary_same : (size n : ℕ) (past : Past) (at : At) (e : Event) → KeepsRule size past at e → moves e (primary_of past) n ≡ false
    → is_at (primary_of (record { at = at; event = e } ∷ past)) n ≡ is_at (primary_of past) n
primary_same size n past at (Crashed m) keeps other = crash (is_at (primary_of past) m.0) refl
  where
    crash : (b : Bool) → is_at (primary_of past) m.0 ≡ b → is_at (if b then None else primary_of past) n ≡ is_at (primary_of past) n
    crash true here = sym (test_apart (primary_of past) m.0 n other here)
    crash false here = refl
primary_same size n past at (Promoted m g f w) keeps other = other ∙ ap (λ (p : Option NodeNo). is_at p n) (sym keeps.vacant)
primary_same size n past at e keeps other = refl

running_same : (n : ℕ) (e : Event) (p : Option NodeNo) (was : Bool) → moves e p n ≡ false → is_running_by n e was ≡ was
running_same n (Crashed m) p was other = rw other refl
running_same n (Reopened m w) p was other = rw other refl
running_same n e p was other = refl

version_same : (n : ℕ) (e : Event) (p : Option NodeNo) (was : ℕ) → moves e p n ≡ false → version_by n p e was ≡ was
version_same n (Published g w) p was other = rw other refl
version_same n (Switched m w) p was other = rw other refl
version_same n (Promoted m g f w) p was other = rw other refl
version_same n (Reopened m w) p was other = rw other refl
version_same n e p was other = refl

nobody_writes : (past now : Past) (n : ℕ) → is_at (primary_of past) n ≡ true → is_at (primary_of past) n ≡ false → WritesOn past now
nobody_writes past now n here other = absurd (true≢false (sym here ∙ other))

pub writes_same : (size n : ℕ) (past : Past) (at : At) (e : Event) → KeepsRule size past at e → moves e (primary_of past) n ≡ false → is_at (primary_of past) n ≡ true
    → WritesOn past (record { at = at; event = e } ∷ past)
writes_same size n past at (Accepted seq op) keeps other here = nobody_writes past _ n here other
writes_same size n past at Publishing keeps other here = nobody_writes past _ n here other
writes_same size n past at (Published g w) keeps other here = nobody_writes past _ n here other
writes_same size n past at (Merging seg) keeps other here = nobody_writes past _ n here other
writes_same size n past at (Promoted m g f w) keeps other here = nobody_writes past _ n here (ap (λ (p : Option NodeNo). is_at p n) keeps.vacant)
writes_same size n past at e keeps other here = record { newest = refl; generation = refl; names = refl; operations = refl; published = refl; puts = refl; merges = refl }

pub same : (size n : ℕ) (past : Past) (at : At) (e : Event) → IsLegalPast size past → AreInTurn past → KeepsRule size past at e
    → (is_at (primary_of past) n ≡ true → publish_in_flight past ≢ Some at) → moves e (primary_of past) n ≡ false → Same past (record { at = at; event = e } ∷ past) n
same size n past at e legal turns keeps line other = record {
  lasts = lasts size past at e legal keeps;
  running = running_same n e (primary_of past) (is_running n past) other;
  primary = primary_same size n past at e keeps other;
  version = version_same n e (primary_of past) (version_of n past) other;
  writer = λ here. writes_same size n past at e keeps other here;
  flight = λ here. flight_stays past at e (line here) (flight_kept (primary_of past) e n here other);
}
