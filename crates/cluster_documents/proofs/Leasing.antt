-- What is read under a ticket that a node holds.
use Rattle.std.proofs.Common.{◌≡◌, ◌==◌, ℕ, Bool, true, false, true≢false, List, [], ◌∷◌, ◌++◌, Some, None, Option, refl, ap, ◌∙◌, sym, subst, if◌then◌else◌}
use Rattle.std.specs.Prelude.{IsSomeAnd, IfSome, is_some, IsSome}
use Rattle.std.proofs.lemmas.Bool.{eq-eqb}
use Rattle.nrt_base.specs.declared.numbers.Version.{Version}
use Rattle.seg_reader.specs.Shown.{Shown}
use Rattle.searcher_switch.specs.declared.open.Open.{Open}
use Rattle.searcher_switch.specs.declared.open.SearchPoint.{SearchPoint}
use Rattle.searcher_switch.specs.declared.searchers.Searchers.{Searchers}
use Rattle.searcher_switch.specs.declared.searchers.Lease.{Lease}
use Rattle.searcher_switch.specs.Searching.{IsLeaseOf}
use Rattle.searcher_switch.specs.Tickets.{ticket_at}
use Rattle.history_rules.specs.Nodes.{Past, IsNode, crashes, version_of}
use Rattle.history_rules.specs.Tickets.{Ticket, last_opened, while_alive, open_ticket, IsTicketOf}
use Rattle.history_rules.specs.Legal.{IsLegalPast}
use Rattle.history_book.proofs.LineLaws.{opened_node}
use Rattle.disk_model.specs.Disk.{Cells}
use Rattle.history_book.specs.Log.{Log, printed}
use Rattle.cluster_nodes.specs.declared.held.HeldTicket.{HeldTicket}
use Rattle.cluster_nodes.specs.declared.held.HeldKey.{HeldKey}
use Rattle.cluster_nodes.specs.declared.nodes.Node.{Node}
use Rattle.cluster_nodes.specs.declared.nodes.Node.TheVariants.{Primary, Replica, Down}
use Rattle.cluster_nodes.specs.declared.nodes.NodePlace.{NodePlace}
use Rattle.cluster_nodes.specs.Held.{same_key, held_number}
use Rattle.cluster_nodes.specs.Places.{place_of, searchers_of, tickets_of}
use Rattle.cluster_state.specs.State.{StandForVersion, IsPointAt, ReadsAt, ticket_key, HoldsTickets, NodeShows, PlaceShows}
use Rattle.cluster_nodes.specs.Changes.{HoldsMore, HoldsTicket, IsLeaseUnder}
use Rattle.cluster_nodes.proofs.Keys.{same_key_self}
use Rattle.cluster_documents.proofs.Holding.{ticket_last}

some_is : {A : Type 0} (P : A → Type 0) (o : Option A) → IsSomeAnd o P → is_some o ≡ true
some_is P None is = absurd is
some_is P (Some x) is = refl

-- what is held is open
held_open : (tickets : List (Open Shown)) (o : Option ℕ) (v : ℕ) → IsSomeAnd o (λ number. IsSomeAnd (ticket_at number tickets) (λ t. t.point.version.0 ≡ v))
    → IsSomeAnd o (λ number. is_some (ticket_at number tickets) ≡ true)
held_open tickets None v is = is
held_open tickets (Some number) v is = some_is (λ t. t.point.version.0 ≡ v) (ticket_at number tickets) is

-- the point of an open ticket, read
read_open : (past : Past) (v : ℕ) (lease : Lease Shown) (o : Option (Open Shown)) → IsSomeAnd o (λ t. t.point.version.0 ≡ v) → IsSomeAnd o (λ t. StandForVersion past t.point.version.0 t.point.readers)
    → IfSome o (IsLeaseOf lease) → ReadsAt past v lease
read_open past v lease None at stands is = absurd at
read_open past v lease (Some t) at stands is = record {
  version = ap (λ (w : Version). w.0) is.version ∙ at;
  stands = moved (sym at) is.readers stands;
}
  where
    moved : {v w : ℕ} {a b : List Shown} → v ≡ w → a ≡ b → StandForVersion past w b → StandForVersion past v a
    moved e f was = subst (λ (x : ℕ × List Shown). StandForVersion past x.0 x.1) (λ i. (sym e i, sym f i)) was

read_held : (past : Past) (n v : ℕ) (key : HeldKey) (tickets : List (Open Shown)) (held : List HeldTicket) (lease : Lease Shown) (o : Option ℕ) → held_number held key ≡ o → HoldsTickets past n tickets held
    → IsSomeAnd o (λ number. IsSomeAnd (ticket_at number tickets) (λ t. t.point.version.0 ≡ v)) → IsSomeAnd o (λ number. IfSome (ticket_at number tickets) (IsLeaseOf lease)) → ReadsAt past v lease
read_held past n v key tickets held lease None is holds at under = absurd at
read_held past n v key tickets held lease (Some number) is holds at under = read_open past v lease (ticket_at number tickets) at (holds.each key number is) under

module _ {D : Type 0} (cells : D → Cells) where
  -- a lane's ticket at a node is held there
  pub ticket_held : (log : Log) (n lane t v : ℕ) (x : Option (NodePlace D)) → IsSomeAnd x (PlaceShows cells log n) → IsTicketOf n v (open_ticket lane t (printed log)) → HoldsTicket x (ticket_key lane t)
  ticket_held log n lane t v None shows is = absurd shows
  ticket_held log n lane t v (Some x) shows is = held_open (tickets_of x.node) (held_number x.held.items (ticket_key lane t)) v (shows.tickets.opened lane t v is)

  -- what is read under it is its point
  pub ticket_reads : (log : Log) (n lane t v : ℕ) (lease : Lease Shown) (x : Option (NodePlace D)) → IsSomeAnd x (PlaceShows cells log n) → IsTicketOf n v (open_ticket lane t (printed log))
      → IsLeaseUnder x (ticket_key lane t) lease → ReadsAt (printed log) v lease
  ticket_reads log n lane t v lease None shows is under = absurd shows
  ticket_reads log n lane t v lease (Some x) shows is under =
      read_held (printed log) n v (ticket_key lane t) (tickets_of x.node) x.held.items lease (held_number x.held.items (ticket_key lane t)) refl shows.tickets (shows.tickets.opened lane t v is) under

  -- what a node holds may be given back
  pub gives_back : (log : Log) (n : ℕ) (key : HeldKey) (x : NodePlace D) → PlaceShows cells log n x → IfSome (held_number x.held.items key) (λ number. is_some (ticket_at number (tickets_of x.node)) ≡ true)
  gives_back log n key x shows = go (held_number x.held.items key) refl
    where
      go : (o : Option ℕ) → held_number x.held.items key ≡ o → IfSome o (λ number. is_some (ticket_at number (tickets_of x.node)) ≡ true)
      go None is = tt
      go (Some number) is = some_is (λ t. StandForVersion (printed log) t.point.version.0 t.point.readers) (ticket_at number (tickets_of x.node)) (shows.tickets.each key number is)

  -- ---- what was opened just now

  -- the new ticket is on the point
  new_open : (number : ℕ) (s : Searchers Shown) (after : List (Open Shown)) → is_some (ticket_at number s.tickets) ≡ false → after ≡ s.tickets ++ record { number = number; point = s.point } ∷ []
      → IsSomeAnd (ticket_at number after) (λ o. o.point ≡ s.point)
  new_open number s after fresh more =
      subst (λ (ts : List (Open Shown)). IsSomeAnd (ticket_at number ts) (λ o. o.point ≡ s.point)) (sym more)
      (ticket_last (λ o. o.point ≡ s.point) number s.tickets (record { number = number; point = s.point }) fresh refl refl)

  read_new : (past : Past) (v : ℕ) (lease : Lease Shown) (point : SearchPoint Shown) (o : Option (Open Shown)) → IsPointAt past v point → IsSomeAnd o (λ t. t.point ≡ point) → IfSome o (IsLeaseOf lease) → ReadsAt past v lease
  read_new past v lease point None at new is = absurd new
  read_new past v lease point (Some t) at new is = record {
    version = ap (λ (w : Version). w.0) is.version ∙ (ap (λ (q : SearchPoint Shown). q.version.0) new ∙ at.version);
    stands = subst (λ (segs : List Shown). StandForVersion past v segs) (sym (is.readers ∙ ap (λ (q : SearchPoint Shown). q.readers) new)) at.stands;
  }

  under_new : (past : Past) (v number : ℕ) (lease : Lease Shown) (s : Searchers Shown) (after : List (Open Shown)) (o : Option ℕ) → o ≡ Some number → IsPointAt past v s.point
      → is_some (ticket_at number s.tickets) ≡ false → after ≡ s.tickets ++ record { number = number; point = s.point } ∷ [] → IsSomeAnd o (λ k. IfSome (ticket_at k after) (IsLeaseOf lease)) → ReadsAt past v lease
  under_new past v number lease s after o here at fresh more is =
      read_new past v lease s.point (ticket_at number after) at (new_open number s after fresh more) (subst (λ (x : Option ℕ). IsSomeAnd x (λ k. IfSome (ticket_at k after) (IsLeaseOf lease))) here is)

  held_now : (key : HeldKey) (number : ℕ) (x y : NodePlace D) → ((k : HeldKey) → held_number y.held.items k ≡ (if same_key key k then Some number else held_number x.held.items k)) → held_number y.held.items key ≡ Some number
  held_now key number x y rows = rows key ∙ ap (λ (b : Bool). if b then Some number else held_number x.held.items key) (same_key_self key)

  reads_node : (log : Log) (n : ℕ) (key : HeldKey) (number : ℕ) (node : Node D) (lease : Lease Shown) (after : List (Open Shown)) (o : Option ℕ) → o ≡ Some number → NodeShows cells log n node
      → IsSome (searchers_of node) → is_some (ticket_at number (tickets_of node)) ≡ false → IfSome (searchers_of node) (λ s. after ≡ s.tickets ++ record { number = number; point = s.point } ∷ [])
      → IsSomeAnd o (λ k. IfSome (ticket_at k after) (IsLeaseOf lease)) → ReadsAt (printed log) (version_of n (printed log)) lease
  reads_node log n key number (Primary p) lease after o here shows runs fresh more is = under_new (printed log) (version_of n (printed log)) number lease p.searchers after o here shows.point fresh more is
  reads_node log n key number (Replica r) lease after o here shows runs fresh more is = under_new (printed log) (version_of n (printed log)) number lease r.searchers after o here shows.point fresh more is
  reads_node log n key number (Down d) lease after o here shows runs fresh more is = absurd (true≢false (sym runs))

  -- what is read under a ticket that was opened just now is what the node searches
  pub opened_reads : (log : Log) (n : ℕ) (key : HeldKey) (x y : NodePlace D) (lease : Lease Shown) → PlaceShows cells log n x → IsSome (searchers_of x.node) → HoldsMore key x y → IsLeaseUnder (Some y) key lease
      → ReadsAt (printed log) (version_of n (printed log)) lease
  opened_reads log n key x y lease shows runs more under =
      reads_node log n key more.number x.node lease (tickets_of y.node) (held_number y.held.items key) (held_now key more.number x y more.rows) shows.node_shows runs more.opens.fresh more.opens.tickets under

  holds_node : (number : ℕ) (node : Node D) (after : List (Open Shown)) (o : Option ℕ) → o ≡ Some number → IsSome (searchers_of node) → is_some (ticket_at number (tickets_of node)) ≡ false
      → IfSome (searchers_of node) (λ s. after ≡ s.tickets ++ record { number = number; point = s.point } ∷ []) → IsSomeAnd o (λ k. is_some (ticket_at k after) ≡ true)
  holds_node number (Primary p) after o here runs fresh more = subst (λ (x : Option ℕ). IsSomeAnd x (λ k. is_some (ticket_at k after) ≡ true)) (sym here) (some_is (λ t. t.point ≡ p.searchers.point) (ticket_at number after) (new_open number p.searchers after fresh more))
  holds_node number (Replica r) after o here runs fresh more = subst (λ (x : Option ℕ). IsSomeAnd x (λ k. is_some (ticket_at k after) ≡ true)) (sym here) (some_is (λ t. t.point ≡ r.searchers.point) (ticket_at number after) (new_open number r.searchers after fresh more))
  holds_node number (Down d) after o here runs fresh more = absurd (true≢false (sym runs))

  -- it is held
  pub opened_held : (key : HeldKey) (x y : NodePlace D) → IsSome (searchers_of x.node) → HoldsMore key x y → HoldsTicket (Some y) key
  opened_held key x y runs more = holds_node more.number x.node (tickets_of y.node) (held_number y.held.items key) (held_now key more.number x y more.rows) runs more.opens.fresh more.opens.tickets

  -- what was put in its place is there
  pub there_now : (new mid : List (Option (NodePlace D))) (n : ℕ) (x : NodePlace D) → ((m : ℕ) → place_of new m ≡ (if n == m then Some x else place_of mid m)) → place_of new n ≡ Some x
  there_now new mid n x there = there n ∙ ap (λ (b : Bool). if b then Some x else place_of mid n) (eq-eqb n n refl)

-- ---- the lane's ticket in the history

alive_last : (b : Bool) (past : Past) (x : Option Ticket) (ticket : Ticket) → (if b then None else while_alive past x) ≡ Some ticket → x ≡ Some ticket
alive_last true past x ticket is = absurd (cc)
alive_last false past None ticket is = absurd (cc)
alive_last false past (Some o) ticket is = go (crashes o.node past == o.life) is
  where
    go : (b : Bool) → (if b then Some o else None) ≡ Some ticket → Some o ≡ Some ticket
    go true got = got
    go false got = absurd (cc)

-- the node of an open ticket is one
pub ticket_node : (size lane t : ℕ) (past : Past) (ticket : Ticket) → IsLegalPast size past → open_ticket lane t past ≡ Some ticket → IsNode size ticket.node
ticket_node size lane t past ticket legal is = opened_node size lane t past ticket legal (alive_last (t == 0) past (last_opened lane t past) ticket is)

pub ticket_is : (lane t : ℕ) (past : Past) (ticket : Ticket) → open_ticket lane t past ≡ Some ticket → IsTicketOf ticket.node ticket.version (open_ticket lane t past)
ticket_is lane t past ticket is = subst (λ (o : Option Ticket). IsTicketOf ticket.node ticket.version o) (sym is) (refl, refl)
