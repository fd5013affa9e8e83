-- What a node shows after a ticket of it was opened, for a lane or for a search.
use Rattle.std.proofs.Common.{◌≡◌, ◌≢◌, ◌==◌, ◌&&◌, ℕ, Bool, true, false, true≢false, List, [], ◌∷◌, ◌++◌, Some, refl, ap, ◌∙◌, sym, subst, if◌then◌else◌}
use Rattle.std.specs.Prelude.{IfSome, is_some, IsSome, ◌||◌}
use Rattle.std.proofs.lemmas.Bool.{eq-eqb}
use Rattle.std.proofs.Math.Bool.{or-true}
use Rattle.nrt_base.specs.declared.numbers.At.{At}
use Rattle.nrt_base.specs.declared.numbers.NodeNo.{NodeNo}
use Rattle.nrt_base.specs.declared.numbers.TicketNo.{TicketNo}
use Rattle.nrt_base.specs.declared.numbers.Version.{Version}
use Rattle.disk_model.specs.Disk.{Cells}
use Rattle.seg_reader.specs.Shown.{Shown}
use Rattle.searcher_switch.specs.declared.open.Open.{Open}
use Rattle.searcher_switch.specs.declared.searchers.Searchers.{Searchers}
use Rattle.searcher_switch.specs.Tickets.{ticket_at}
use Rattle.history_rules.specs.declared.entry.Event.TheVariants.{Publishing, Opened}
use Rattle.history_rules.specs.Nodes.{Past, is_running, version_of}
use Rattle.history_rules.specs.Lines.{start_entry}
use Rattle.history_rules.specs.Tickets.{open_ticket, IsTicketOf}
use Rattle.history_rules.specs.Legal.{KeepsRule, IsLegalPast}
use Rattle.history_book.specs.Log.{Log, printed, shown}
use Rattle.history_book.specs.Turns.{AreInTurn}
use Rattle.cluster_nodes.specs.declared.held.HeldTicket.{HeldTicket}
use Rattle.cluster_nodes.specs.declared.held.HeldKey.{HeldKey}
use Rattle.cluster_nodes.specs.declared.held.HeldKey.TheVariants.{Search}
use Rattle.cluster_nodes.specs.declared.nodes.Node.{Node}
use Rattle.cluster_nodes.specs.declared.nodes.Node.TheVariants.{Primary, Replica, Down}
use Rattle.cluster_nodes.specs.declared.nodes.NodePlace.{NodePlace}
use Rattle.cluster_nodes.specs.Held.{same_key, held_number}
use Rattle.cluster_state.specs.Lookups.{IsSearching}
use Rattle.cluster_state.specs.TicketsOut.{key_by, is_ticket_out}
use Rattle.cluster_nodes.specs.Places.{searchers_of, tickets_of}
use Rattle.cluster_state.specs.State.{StandForVersion, IsPointAt, ticket_key, HoldsTickets, NodeShows, PlaceShows}
use Rattle.cluster_nodes.specs.Changes.{KeepsNode, HoldsMore}
use Rattle.cluster_state.proofs.Growing.{stands_more, same, not_flying}
use Rattle.cluster_state.proofs.Frames.{node_same}
use Rattle.cluster_documents.proofs.Holding.{IsNewOr, holds_more, node_kept}

-- what the log shows of a ticket after the entry: it is the new one, or it was there
abbrev pub TicketsAfter : Past → Past → ℕ → HeldKey → ℕ → Type 0
TicketsAfter past now n key v = (lane u w : ℕ) → IsTicketOf n w (open_ticket lane u now) → IsNewOr (same_key key (ticket_key lane u)) v w (IsTicketOf n w (open_ticket lane u past))

abbrev pub SearchesAfter : Past → Past → ℕ → HeldKey → ℕ → Type 0
SearchesAfter past now n key v = (a : At) (w : ℕ) → IsSearching now a n w → IsNewOr (same_key key (Search a)) v w (IsSearching past a n w)

-- what was opened is out
out_new : (past : Past) (at : At) (n : NodeNo) (t : TicketNo) (v : Version) (k : HeldKey) → same_key (key_by at t) k ≡ true → is_ticket_out n.0 k (record { at = at; event = Opened n t v } ∷ past) ≡ true
out_new past at n t v k same =
    let here : (n.0 == n.0) ≡ true = eq-eqb n.0 n.0 refl in
    ap (λ (b : Bool). (b && same_key (key_by at t) k) || is_ticket_out n.0 k past) here ∙ ap (λ (b : Bool). b || is_ticket_out n.0 k past) same

-- and what was out still is
out_old : (past : Past) (at : At) (n : NodeNo) (t : TicketNo) (v : Version) (k : HeldKey) → is_ticket_out n.0 k past ≡ true → is_ticket_out n.0 k (record { at = at; event = Opened n t v } ∷ past) ≡ true
out_old past at n t v k was = ap (λ (b : Bool). ((n.0 == n.0) && same_key (key_by at t) k) || b) was ∙ or-true ((n.0 == n.0) && same_key (key_by at t) k)

module _ {D : Type 0} (cells : D → Cells) where
  opened_on : (size : ℕ) (log : Log) (at : At) (n : NodeNo) (t : TicketNo) (v : Version) (key : HeldKey) (s : Searchers Shown) (after : List (Open Shown)) (held rows : List HeldTicket) (number : ℕ)
      → key_by at t ≡ key → IsLegalPast size (printed log) → KeepsRule size (printed log) at (Opened n t v) → v.0 ≡ version_of n.0 (printed log)
      → is_some (ticket_at number s.tickets) ≡ false → after ≡ s.tickets ++ record { number = number; point = s.point } ∷ []
      → ((k : HeldKey) → held_number rows k ≡ (if same_key key k then Some number else held_number held k))
      → TicketsAfter (printed log) (printed (shown at (Opened n t v) ∷ log)) n.0 key v.0 → SearchesAfter (printed log) (printed (shown at (Opened n t v) ∷ log)) n.0 key v.0
      → IsPointAt (printed log) (version_of n.0 (printed log)) s.point → HoldsTickets (printed log) n.0 s.tickets held → HoldsTickets (printed (shown at (Opened n t v) ∷ log)) n.0 after rows
  opened_on size log at n t v key s after held rows number kind legal keeps version fresh more holds opened searched point was =
      holds_more (printed log) (printed (shown at (Opened n t v) ∷ log)) n.0 number v.0 key s.point s.tickets after held rows fresh more holds
      (λ w segs stands. stands_more size (printed log) (record { at = at; event = Opened n t v }) w segs (keeps, legal) stands)
      (record {
        version = point.version ∙ sym version;
        stands = stands_more size (printed log) (record { at = at; event = Opened n t v }) v.0 s.point.readers (keeps, legal)
            (subst (λ (k : ℕ). StandForVersion (printed log) k s.point.readers) (sym version) point.stands);
      })
      (λ k same. out_new (printed log) at n t v k (ap (λ (l : HeldKey). same_key l k) kind ∙ same)) (λ k had. out_old (printed log) at n t v k had)
      opened searched was

  opened_tickets : (size : ℕ) (log : Log) (at : At) (n : NodeNo) (t : TicketNo) (v : Version) (key : HeldKey) (x : Node D) (after : List (Open Shown)) (held rows : List HeldTicket) (number : ℕ)
      → key_by at t ≡ key → IsLegalPast size (printed log) → KeepsRule size (printed log) at (Opened n t v) → v.0 ≡ version_of n.0 (printed log)
      → is_some (ticket_at number (tickets_of x)) ≡ false → IfSome (searchers_of x) (λ s. after ≡ s.tickets ++ record { number = number; point = s.point } ∷ [])
      → ((k : HeldKey) → held_number rows k ≡ (if same_key key k then Some number else held_number held k))
      → TicketsAfter (printed log) (printed (shown at (Opened n t v) ∷ log)) n.0 key v.0 → SearchesAfter (printed log) (printed (shown at (Opened n t v) ∷ log)) n.0 key v.0
      → NodeShows cells log n.0 x → HoldsTickets (printed log) n.0 (tickets_of x) held → HoldsTickets (printed (shown at (Opened n t v) ∷ log)) n.0 after rows
  opened_tickets size log at n t v key (Primary p) after held rows number kind legal keeps version fresh more holds opened searched shows was =
      opened_on size log at n t v key p.searchers after held rows number kind legal keeps version fresh more holds opened searched shows.point was
  opened_tickets size log at n t v key (Replica r) after held rows number kind legal keeps version fresh more holds opened searched shows was =
      opened_on size log at n t v key r.searchers after held rows number kind legal keeps version fresh more holds opened searched shows.point was
  opened_tickets size log at n t v key (Down d) after held rows number kind legal keeps version fresh more holds opened searched shows was =
      absurd (true≢false (sym keeps.running ∙ shows.down))

  pub opened_place : (size : ℕ) (log : Log) (at : At) (n : NodeNo) (t : TicketNo) (v : Version) (key : HeldKey) (old new : NodePlace D)
      → key_by at t ≡ key → IsLegalPast size (printed log) → AreInTurn (printed log) → KeepsRule size (printed log) at (Opened n t v) → start_entry at (printed log) ≢ Some Publishing → v.0 ≡ version_of n.0 (printed log)
      → KeepsNode cells old.node new.node → HoldsMore key old new
      → TicketsAfter (printed log) (printed (shown at (Opened n t v) ∷ log)) n.0 key v.0 → SearchesAfter (printed log) (printed (shown at (Opened n t v) ∷ log)) n.0 key v.0
      → PlaceShows cells log n.0 old → PlaceShows cells (shown at (Opened n t v) ∷ log) n.0 new
  opened_place size log at n t v key old new kind legal turns keeps line version kept more opened searched was = record {
    node_shows = node_kept cells (shown at (Opened n t v) ∷ log) n.0 old.node new.node kept
        (node_same cells log (shown at (Opened n t v) ∷ log) n.0 old.node (same size n.0 (printed log) at (Opened n t v) legal turns keeps (λ _. not_flying size (printed log) at legal turns line) refl) (λ a h there. there) was.node_shows);
    tickets = opened_tickets size log at n t v key old.node (tickets_of new.node) old.held.items new.held.items more.number kind legal keeps version more.opens.fresh more.opens.tickets more.rows opened searched was.node_shows was.tickets;
  }

  -- a running node has searchers
  pub running_searches : (log : Log) (n : ℕ) (x : Node D) → is_running n (printed log) ≡ true → NodeShows cells log n x → IsSome (searchers_of x)
  running_searches log n (Primary p) runs shows = refl
  running_searches log n (Replica r) runs shows = refl
  running_searches log n (Down d) runs shows = absurd (true≢false (sym runs ∙ shows.down))
