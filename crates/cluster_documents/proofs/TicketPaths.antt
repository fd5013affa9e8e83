-- What each path of tickets and searches leaves, from what its calls say.
use Rattle.std.proofs.Common.{◌≡◌, ◌≢◌, ◌==◌, ℕ, Bool, true, false, List, ◌∷◌, Some, Option, refl, ap, sym, subst, arith, if◌then◌else◌}
use Rattle.std.specs.Prelude.{IfSome, IsSome, is_some}
use Rattle.std.proofs.lemmas.Bool.Decides.{nat_tests}
use Rattle.nrt_base.specs.declared.numbers.At.{At}
use Rattle.nrt_base.specs.declared.numbers.NodeNo.{NodeNo}
use Rattle.nrt_base.specs.declared.numbers.TicketNo.{TicketNo}
use Rattle.nrt_base.specs.declared.numbers.Version.{Version}
use Rattle.disk_model.specs.Disk.{Cells}
use Rattle.seg_reader.specs.Shown.{Shown}
use Rattle.searcher_switch.specs.declared.searchers.Lease.{Lease}
use Rattle.searcher_switch.specs.Tickets.{ticket_at}
use Rattle.history_rules.specs.declared.entry.Event.{Event}
use Rattle.history_rules.specs.declared.entry.Event.TheVariants.{Publishing, Opened, Asking}
use Rattle.history_rules.specs.Nodes.{IsNode, primary_of, is_running, version_of}
use Rattle.history_rules.specs.Lines.{start_entry}
use Rattle.history_rules.specs.Tickets.{has_ticket, open_ticket}
use Rattle.history_rules.specs.Legal.{KeepsRule, IsLegalPast}
use Rattle.history_tables.specs.declared.tickets.Opening.{Opening}
use Rattle.history_tables.specs.Openings.{ticket_of}
use Rattle.history_book.specs.Log.{Log, printed, shown}
use Rattle.merge_tasks.specs.Merging.{Sheet}
use Rattle.history_book.specs.Laws.{IsFresh}
use Rattle.history_book.specs.Turns.{AreInTurn}
use Rattle.cluster_nodes.specs.declared.held.HeldKey.{HeldKey}
use Rattle.cluster_nodes.specs.declared.held.HeldKey.TheVariants.{Ticket as TicketKey, Search}
use Rattle.cluster_nodes.specs.declared.nodes.NodePlace.{NodePlace}
use Rattle.cluster_nodes.specs.Held.{held_number}
use Rattle.cluster_nodes.specs.Places.{place_of, searchers_of, tickets_of}
use Rattle.cluster_state.specs.TicketsOut.{key_by}
use Rattle.cluster_state.specs.Run.{Rest, Run}
use Rattle.cluster_state.specs.State.{ReadsAt, Shows}
use Rattle.cluster_nodes.specs.Changes.{KeepsNode, HoldsMore, HoldsLess, HoldsTicket, IsLeaseUnder}
use Rattle.cluster_state.specs.Moves.{moves, moves_tickets, EndsKey}
use Rattle.cluster_state.proofs.Frames.{PutsBack, was, noted, moved_at, place_at, rule_at}
use Rattle.cluster_state.proofs.Growing.{not_flying}
use Rattle.cluster_documents.proofs.Opened.{ticket_opened, ticket_searched, search_ticket, search_opened}
use Rattle.cluster_documents.proofs.Opening.{TicketsAfter, SearchesAfter, opened_place, running_searches}
use Rattle.cluster_documents.proofs.Closing.{closed_place}
use Rattle.cluster_documents.proofs.Leasing.{ticket_held, ticket_reads, gives_back, opened_reads, opened_held, there_now, ticket_node, ticket_is}
use Rattle.cluster_state.proofs.Turning.{fresh_line, past_has}

-- ---- rules

legal_is : (r : Run) (ended : Bool) (b : Sheet) → {left : Rest} → record { ended = ended; nodes = b.nodes; log = b.log; rest = left } ≡ r → IsLegalPast b.nodes (printed b.log) → IsLegalPast r.nodes (printed r.log)
legal_is r ended b view legal = subst (λ (x : Run). IsLegalPast x.nodes (printed x.log)) view legal

pub may_open : (r : Run) (ended : Bool) (b : Sheet) (at : At) (n : NodeNo) (t : TicketNo) (v : Version) → {left : Rest} → record { ended = ended; nodes = b.nodes; log = b.log; rest = left } ≡ r
    → IsFresh at (printed b.log) → IsNode r.nodes n.0 → is_running n.0 (printed r.log) ≡ true → v.0 ≡ version_of n.0 (printed b.log) → has_ticket at.lane.0 t.0 (printed r.log) ≡ false
    → KeepsRule r.nodes (printed r.log) at (Opened n t v)
may_open r ended b at n t v view fresh node up version free = record {
  node = node;
  running = up;
  searched = past_has (λ p. v.0 ≡ version_of n.0 p) r ended b view version;
  free = free;
  spared = (past_has (IsFresh at) r ended b view fresh).spared;
}

pub ask_node : (r : Run) (ended : Bool) (b : Sheet) (at : At) (t : TicketNo) (o : Opening) → {left : Rest} → record { ended = ended; nodes = b.nodes; log = b.log; rest = left } ≡ r → IsLegalPast b.nodes (printed b.log)
    → open_ticket at.lane.0 t.0 (printed r.log) ≡ Some (ticket_of o) → IsNode r.nodes o.node.0
ask_node r ended b at t o view legal held = ticket_node r.nodes at.lane.0 t.0 (printed r.log) (ticket_of o) (legal_is r ended b view legal) held

pub may_ask : (r : Run) (ended : Bool) (b : Sheet) (at : At) (t : TicketNo) (o : Opening) → {left : Rest} → record { ended = ended; nodes = b.nodes; log = b.log; rest = left } ≡ r → IsLegalPast b.nodes (printed b.log)
    → IsFresh at (printed b.log) → open_ticket at.lane.0 t.0 (printed r.log) ≡ Some (ticket_of o) → KeepsRule r.nodes (printed r.log) at (Asking o.node t o.version)
may_ask r ended b at t o view legal fresh held = record {
  node = ask_node r ended b at t o view legal held;
  held = ticket_is at.lane.0 t.0 (printed r.log) (ticket_of o) held;
  spared = (past_has (IsFresh at) r ended b view fresh).spared;
}

pub asks_at : (r : Run) (ended : Bool) (b0 b1 : Sheet) (at : At) (t : TicketNo) (o : Opening) → {left : Rest} → record { ended = ended; nodes = b0.nodes; log = b0.log; rest = left } ≡ r → b1.log ≡ b0.log → b1.nodes ≡ b0.nodes
    → IsLegalPast b0.nodes (printed b0.log) → IsFresh at (printed b0.log) → open_ticket at.lane.0 t.0 (printed r.log) ≡ Some (ticket_of o) → KeepsRule b1.nodes (printed b1.log) at (Asking o.node t o.version)
asks_at r ended b0 b1 at t o view e1 n1 legal fresh held = rule_at r ended b0 b1 at (Asking o.node t o.version) view e1 n1 (may_ask r ended b0 at t o view legal fresh held)

module _ {D : Type 0} (cells : D → Cells) where
  opened_path : (r : Run) (ended : Bool) (b0 b1 b2 : Sheet) (old mid new : List (Option (NodePlace D))) (at : At) (n : NodeNo) (t : TicketNo) (v : Version) (key : HeldKey) (x y : NodePlace D)
      → {left : Rest} → record { ended = ended; nodes = b0.nodes; log = b0.log; rest = left } ≡ r → r.ended ≡ false → (ended ≡ false → Shows cells b0.log b0.nodes old)
      → b1.log ≡ b0.log → b1.nodes ≡ b0.nodes → b2.log ≡ shown at (Opened n t v) ∷ b1.log → b2.nodes ≡ b1.nodes → IsLegalPast b1.nodes (printed b1.log) → AreInTurn (printed b1.log)
      → IsFresh at (printed b0.log) → KeepsRule r.nodes (printed r.log) at (Opened n t v) → key_by at t ≡ key
      → TicketsAfter (printed r.log) (printed (shown at (Opened n t v) ∷ r.log)) n.0 key v.0 → SearchesAfter (printed r.log) (printed (shown at (Opened n t v) ∷ r.log)) n.0 key v.0
      → PutsBack cells old mid new n.0 y → place_of old n.0 ≡ Some x → KeepsNode cells x.node y.node → HoldsMore key x y → Shows cells b2.log b2.nodes new
  opened_path r ended b0 b1 b2 old mid new at n t v key x y view running shows e1 n1 e2 n2 legal turns fresh keeps kind opened searched put there same more =
      let line = fresh_line (printed r.log) at (past_has (IsFresh at) r ended b0 view fresh) in
      moved_at cells r ended b0 b1 b2 old mid new at (Opened n t v) n.0 y x view running shows e1 n1 e2 n2 legal turns keeps
      (λ m apart here. line) (λ m apart. refl) (λ m apart. apart) put keeps.node there
      (λ all order was. opened_place cells r.nodes r.log at n t v key x y kind all order keeps line keeps.searched same more opened searched was)

  pub ticket_path : (r : Run) (ended : Bool) (b0 b1 b2 : Sheet) (old mid new : List (Option (NodePlace D))) (at : At) (n : NodeNo) (t : TicketNo) (v : Version) (x y : NodePlace D)
      → {left : Rest} → record { ended = ended; nodes = b0.nodes; log = b0.log; rest = left } ≡ r → r.ended ≡ false → (ended ≡ false → Shows cells b0.log b0.nodes old)
      → b1.log ≡ b0.log → b1.nodes ≡ b0.nodes → b2.log ≡ shown at (Opened n t v) ∷ b1.log → b2.nodes ≡ b1.nodes → IsLegalPast b1.nodes (printed b1.log) → AreInTurn (printed b1.log)
      → IsFresh at (printed b0.log) → KeepsRule r.nodes (printed r.log) at (Opened n t v) → t.0 ≢ 0
      → PutsBack cells old mid new n.0 y → place_of old n.0 ≡ Some x → KeepsNode cells x.node y.node → HoldsMore (TicketKey at.lane t) x y → Shows cells b2.log b2.nodes new
  ticket_path r ended b0 b1 b2 old mid new at n t v x y view running shows e1 n1 e2 n2 legal turns fresh keeps number put there same more =
      let some : (t.0 == 0) ≡ false = grind (arith, nat_tests) in
      opened_path r ended b0 b1 b2 old mid new at n t v (TicketKey at.lane t) x y view running shows e1 n1 e2 n2 legal turns fresh keeps
      (ap (λ (b : Bool). if b then Search at else TicketKey at.lane t) some) (λ lane u w is. ticket_opened (printed r.log) at n t v lane u w some is) (λ a w is. ticket_searched (printed r.log) at n t v a w some is) put there same more

  pub search_path : (r : Run) (ended : Bool) (b0 b1 b2 : Sheet) (old mid new : List (Option (NodePlace D))) (at : At) (n : NodeNo) (v : Version) (x y : NodePlace D)
      → {left : Rest} → record { ended = ended; nodes = b0.nodes; log = b0.log; rest = left } ≡ r → r.ended ≡ false → (ended ≡ false → Shows cells b0.log b0.nodes old)
      → b1.log ≡ b0.log → b1.nodes ≡ b0.nodes → b2.log ≡ shown at (Opened n (record { 0 = 0 }) v) ∷ b1.log → b2.nodes ≡ b1.nodes → IsLegalPast b1.nodes (printed b1.log) → AreInTurn (printed b1.log)
      → IsFresh at (printed b0.log) → KeepsRule r.nodes (printed r.log) at (Opened n (record { 0 = 0 }) v)
      → PutsBack cells old mid new n.0 y → place_of old n.0 ≡ Some x → KeepsNode cells x.node y.node → HoldsMore (Search at) x y → Shows cells b2.log b2.nodes new
  search_path r ended b0 b1 b2 old mid new at n v x y view running shows e1 n1 e2 n2 legal turns fresh keeps put there same more =
      opened_path r ended b0 b1 b2 old mid new at n (record { 0 = 0 }) v (Search at) x y view running shows e1 n1 e2 n2 legal turns fresh keeps
      refl (λ lane u w is. search_ticket (printed r.log) at n v lane u w is) (λ a w is. search_opened (printed r.log) at n v a w is) put there same more

  -- a ticket was given back
  pub without_path : (r : Run) (ended : Bool) (b0 b1 b2 : Sheet) (old mid new : List (Option (NodePlace D))) (at : At) (e : Event) (n : ℕ) (key : HeldKey) (x y : NodePlace D)
      → {left : Rest} → record { ended = ended; nodes = b0.nodes; log = b0.log; rest = left } ≡ r → r.ended ≡ false → (ended ≡ false → Shows cells b0.log b0.nodes old)
      → b1.log ≡ b0.log → b1.nodes ≡ b0.nodes → b2.log ≡ shown at e ∷ b1.log → b2.nodes ≡ b1.nodes → IsLegalPast b1.nodes (printed b1.log) → AreInTurn (printed b1.log)
      → KeepsRule r.nodes (printed r.log) at e → start_entry at (printed r.log) ≢ Some Publishing → ((p : Option NodeNo) (m : ℕ) → moves e p m ≡ false) → ((m : ℕ) → (n == m) ≡ false → moves_tickets e m ≡ false)
      → IsNode r.nodes n → EndsKey (printed r.log) (printed (shown at e ∷ r.log)) n key
      → PutsBack cells old mid new n y → place_of old n ≡ Some x → KeepsNode cells x.node y.node → HoldsLess key x y → Shows cells b2.log b2.nodes new
  without_path r ended b0 b1 b2 old mid new at e n key x y view running shows e1 n1 e2 n2 legal turns keeps line still apart node ends put there same less =
      moved_at cells r ended b0 b1 b2 old mid new at e n y x view running shows e1 n1 e2 n2 legal turns keeps
      (λ m _ here. line) (λ m _. still (primary_of (printed r.log)) m) apart put node there
      (λ all order was. closed_place cells r.nodes r.log at e n key x y all order keeps line (still (primary_of (printed r.log)) n) same less ends was)

  -- ---- what is at hand

  -- a running node has searchers
  pub running_at : (r : Run) (ended : Bool) (size n : ℕ) (log : Log) (places : List (Option (NodePlace D))) (x : NodePlace D) → {left : Rest} → record { ended = ended; nodes = size; log = log; rest = left } ≡ r → r.ended ≡ false
      → (ended ≡ false → Shows cells log size places) → IsNode r.nodes n → is_running n (printed r.log) ≡ true → place_of places n ≡ Some x → IsSome (searchers_of x.node)
  running_at r ended size n log places x view running shows node up there =
      running_searches cells r.log n x.node up (place_at cells r ended size n log places x view running shows node there).node_shows

  -- what a node holds may be given back
  pub gives_back_at : (r : Run) (ended : Bool) (size n : ℕ) (log : Log) (places : List (Option (NodePlace D))) (key : HeldKey) (x : NodePlace D) → {left : Rest} → record { ended = ended; nodes = size; log = log; rest = left } ≡ r → r.ended ≡ false
      → (ended ≡ false → Shows cells log size places) → IsNode r.nodes n → place_of places n ≡ Some x → IfSome (held_number x.held.items key) (λ number. is_some (ticket_at number (tickets_of x.node)) ≡ true)
  gives_back_at r ended size n log places key x view running shows node there = gives_back cells r.log n key x (place_at cells r ended size n log places x view running shows node there)

  -- ---- a search that starts

  pub search_held : (new mid : List (Option (NodePlace D))) (n : ℕ) (key : HeldKey) (x y : NodePlace D) → ((m : ℕ) → place_of new m ≡ (if n == m then Some y else place_of mid m)) → IsSome (searchers_of x.node) → HoldsMore key x y
      → HoldsTicket (place_of new n) key
  search_held new mid n key x y there runs more = subst (λ (o : Option (NodePlace D)). HoldsTicket o key) (sym (there_now cells new mid n y there)) (opened_held cells key x y runs more)

  pub search_reads : (r : Run) (ended : Bool) (size n : ℕ) (log : Log) (old mid new : List (Option (NodePlace D))) (key : HeldKey) (x y : NodePlace D) (lease : Lease Shown) → {left : Rest} → record { ended = ended; nodes = size; log = log; rest = left } ≡ r → r.ended ≡ false
      → (ended ≡ false → Shows cells log size old) → IsNode r.nodes n → is_running n (printed r.log) ≡ true → place_of old n ≡ Some x
      → ((m : ℕ) → place_of new m ≡ (if n == m then Some y else place_of mid m)) → HoldsMore key x y → IsLeaseUnder (place_of new n) key lease → ReadsAt (printed r.log) (version_of n (printed r.log)) lease
  search_reads r ended size n log old mid new key x y lease view running shows node up here there more under =
      opened_reads cells r.log n key x y lease (place_at cells r ended size n log old x view running shows node here) (running_at r ended size n log old x view running shows node up here) more
      (subst (λ (o : Option (NodePlace D)). IsLeaseUnder o key lease) (there_now cells new mid n y there) under)

  -- ---- a search of a ticket

  pub ask_held : (r : Run) (ended : Bool) (b : Sheet) (places : List (Option (NodePlace D))) (at : At) (t : TicketNo) (o : Opening) → {left : Rest} → record { ended = ended; nodes = b.nodes; log = b.log; rest = left } ≡ r → r.ended ≡ false
      → (ended ≡ false → Shows cells b.log b.nodes places) → IsLegalPast b.nodes (printed b.log) → open_ticket at.lane.0 t.0 (printed r.log) ≡ Some (ticket_of o) → HoldsTicket (place_of places o.node.0) (TicketKey at.lane t)
  ask_held r ended b places at t o view running shows legal held =
      ticket_held cells r.log o.node.0 at.lane.0 t.0 o.version.0 (place_of places o.node.0)
      ((was cells r ended b.nodes b.log places view running shows).each o.node.0 (ask_node r ended b at t o view legal held)) (ticket_is at.lane.0 t.0 (printed r.log) (ticket_of o) held)

  pub ask_reads : (r : Run) (ended : Bool) (b : Sheet) (places : List (Option (NodePlace D))) (at : At) (t : TicketNo) (o : Opening) (lease : Lease Shown) → {left : Rest} → record { ended = ended; nodes = b.nodes; log = b.log; rest = left } ≡ r → r.ended ≡ false
      → (ended ≡ false → Shows cells b.log b.nodes places) → IsLegalPast b.nodes (printed b.log) → open_ticket at.lane.0 t.0 (printed r.log) ≡ Some (ticket_of o) → IsLeaseUnder (place_of places o.node.0) (TicketKey at.lane t) lease
      → ReadsAt (printed r.log) o.version.0 lease
  ask_reads r ended b places at t o lease view running shows legal held under =
      ticket_reads cells r.log o.node.0 at.lane.0 t.0 o.version.0 lease (place_of places o.node.0)
      ((was cells r ended b.nodes b.log places view running shows).each o.node.0 (ask_node r ended b at t o view legal held)) (ticket_is at.lane.0 t.0 (printed r.log) (ticket_of o) held) under

  pub ask_path : (r : Run) (ended : Bool) (b0 b1 b2 : Sheet) (places : List (Option (NodePlace D))) (at : At) (t : TicketNo) (o : Opening)
      → {left : Rest} → record { ended = ended; nodes = b0.nodes; log = b0.log; rest = left } ≡ r → r.ended ≡ false → (ended ≡ false → Shows cells b0.log b0.nodes places)
      → b1.log ≡ b0.log → b1.nodes ≡ b0.nodes → b2.log ≡ shown at (Asking o.node t o.version) ∷ b1.log → b2.nodes ≡ b1.nodes → IsLegalPast b0.nodes (printed b0.log) → AreInTurn (printed b0.log)
      → IsLegalPast b1.nodes (printed b1.log) → AreInTurn (printed b1.log) → IsFresh at (printed b0.log) → open_ticket at.lane.0 t.0 (printed r.log) ≡ Some (ticket_of o) → Shows cells b2.log b2.nodes places
  ask_path r ended b0 b1 b2 places at t o view running shows e1 n1 e2 n2 legal turns later_legal later_turns fresh held =
      noted cells r ended b0 b1 b2 places at (Asking o.node t o.version) view running shows e1 n1 e2 n2 later_legal later_turns (may_ask r ended b0 at t o view legal fresh held)
      (not_flying r.nodes (printed r.log) at (legal_is r ended b0 view legal) (past_has AreInTurn r ended b0 view turns) (fresh_line (printed r.log) at (past_has (IsFresh at) r ended b0 view fresh)))
      (λ p m. refl) (λ m. refl)
