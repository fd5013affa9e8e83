-- What calls make of a node's tickets.
use Rattle.std.specs.Prelude.{ℕ, ◌≡◌, ◌∷◌, ◌++◌, [], false, Option, Some, None, is_some, true, IfSome, IsSomeAnd, if◌then◌else◌}
use Rattle.disk_model.specs.Disk.{Cells}
use Rattle.seg_reader.specs.Shown.{Shown}
use Rattle.searcher_switch.specs.declared.searchers.Lease.{Lease}
use Rattle.searcher_switch.specs.Searching.{IsLeaseOf}
use Rattle.searcher_switch.specs.Tickets.{ticket_at, tickets_without}
use Rattle.index_primary.specs.Primary.{IsPrimary}
use Rattle.replica_node.specs.Replica.{IsWholeReplica, AreStanding}
use Rattle.cluster_nodes.specs.declared.held.HeldKey.{HeldKey}
use Rattle.cluster_nodes.specs.declared.nodes.Node.{Node}
use Rattle.cluster_nodes.specs.declared.nodes.Node.TheVariants.{Primary, Replica, Down}
use Rattle.cluster_nodes.specs.declared.nodes.NodePlace.{NodePlace}
use Rattle.cluster_nodes.specs.Held.{same_key, held_number}
use Rattle.cluster_nodes.specs.Places.{searchers_of, tickets_of}

module _ {D : Type 0} where
  -- the node is as it was but for its tickets, its counts and its directory
  abbrev pub KeepsNode : (D → Cells) → Node D → Node D → Type 0
  KeepsNode cells (Primary p) (Primary q) = (q ≡ record p { dir = q.dir; files = q.files; searchers = q.searchers }) × (q.searchers.point ≡ p.searchers.point) × (IsPrimary cells p → IsPrimary cells q)
  KeepsNode cells (Replica p) (Replica q) = (q ≡ record p { dir = q.dir; files = q.files; searchers = q.searchers }) × (q.searchers.point ≡ p.searchers.point) × (IsWholeReplica cells p → IsWholeReplica cells q) × (AreStanding cells p → AreStanding cells q)
  KeepsNode cells (Down d) (Down e) = e ≡ d
  KeepsNode cells old new = ⊥

  -- one ticket more, on the point that the node searches
  pub record OpensTicket (number : ℕ) (old new : Node D) : Type 0 where
    pub fresh : is_some (ticket_at number (tickets_of old)) ≡ false
    pub tickets : IfSome (searchers_of old) (λ s. tickets_of new ≡ s.tickets ++ record { number = number; point = s.point } ∷ [])

  -- the node holds a ticket more, for this, on the point that it searches
  pub record HoldsMore (key : HeldKey) (old new : NodePlace D) : Type 0 where
    pub number : ℕ
    pub opens : OpensTicket number old.node new.node
    pub rows : (k : HeldKey) → held_number new.held.items k ≡ (if same_key key k then Some number else held_number old.held.items k)

  -- the ticket with this number is closed, where there is a number
  abbrev pub ClosesTicket : Option ℕ → Node D → Node D → Type 0
  ClosesTicket None old new = tickets_of new ≡ tickets_of old
  ClosesTicket (Some number) old new = tickets_of new ≡ tickets_without number (tickets_of old)

  -- the ticket that the node held for this is closed
  pub record HoldsLess (key : HeldKey) (old new : NodePlace D) : Type 0 where
    pub closed : ClosesTicket (held_number old.held.items key) old.node new.node
    pub rows : (k : HeldKey) → held_number new.held.items k ≡ (if same_key key k then None else held_number old.held.items k)

  -- a ticket that is open at the node is held for this
  abbrev pub HoldsTicket : Option (NodePlace D) → HeldKey → Type 0
  HoldsTicket None key = ⊥
  HoldsTicket (Some place) key = IsSomeAnd (held_number place.held.items key) (λ number. is_some (ticket_at number (tickets_of place.node)) ≡ true)

  -- what is read is the point on which the ticket was opened that is held for this
  abbrev pub IsLeaseUnder : Option (NodePlace D) → HeldKey → Lease Shown → Type 0
  IsLeaseUnder None key lease = ⊥
  IsLeaseUnder (Some place) key lease = IsSomeAnd (held_number place.held.items key) (λ number. IfSome (ticket_at number (tickets_of place.node)) (IsLeaseOf lease))
