-- What the nodes of a cluster have to do with its log.
use Rattle.std.specs.Prelude.{ℕ, ◌≡◌, ◌≤◌, ◌<◌, List, [], length, true, false, Option, Some, None, IsSomeAnd}
use Rattle.std.specs.List.{All}
use Rattle.nrt_base.specs.declared.numbers.At.{At}
use Rattle.disk_model.specs.Disk.{Cells}
use Rattle.seg_reader.specs.Shown.{Shown}
use Rattle.seg_reader.specs.Stands.{AreSegmentsOf}
use Rattle.segment_infos.specs.declared.infos.Infos.{Infos}
use Rattle.script_serving.specs.Refusals.{put_publishes}
use Rattle.searcher_switch.specs.declared.searchers.Lease.{Lease}
use Rattle.searcher_switch.specs.declared.open.Open.{Open}
use Rattle.searcher_switch.specs.declared.open.SearchPoint.{SearchPoint}
use Rattle.searcher_switch.specs.Tickets.{ticket_at}
use Rattle.history_rules.specs.Nodes.{Past, IsNode, primary_of, is_at, is_running, generation_of, version_of, newest_version}
use Rattle.history_rules.specs.Lines.{start_entry, before_start, publish_in_flight}
use Rattle.history_rules.specs.Points.{documents_at, operations_of_generation, cut_of, names_drawn}
use Rattle.history_rules.specs.Tickets.{open_ticket, IsTicketOf}
use Rattle.history_rules.specs.Tasks.{merge_count}
use Rattle.history_book.specs.Log.{Log, printed}
use Rattle.index_primary.specs.declared.parts.PrimaryParts.{PrimaryParts}
use Rattle.index_primary.specs.declared.parts.Publish.{Publish}
use Rattle.index_primary.specs.Primary.{IsPrimary}
use Rattle.replica_node.specs.declared.parts.ReplicaParts.{ReplicaParts}
use Rattle.replica_node.specs.Replica.{IsWholeReplica, AreStanding}
use Rattle.cluster_nodes.specs.declared.held.HeldTicket.{HeldTicket}
use Rattle.cluster_nodes.specs.declared.held.HeldKey.{HeldKey}
use Rattle.cluster_nodes.specs.declared.held.HeldKey.TheVariants.{Ticket, Search}
use Rattle.cluster_nodes.specs.declared.nodes.Node.{Node}
use Rattle.cluster_nodes.specs.declared.nodes.Node.TheVariants.{Primary, Replica, Down}
use Rattle.cluster_nodes.specs.declared.nodes.NodePlace.{NodePlace}
use Rattle.cluster_nodes.specs.Held.{same_key, held_number}
use Rattle.cluster_state.specs.Lookups.{flush_out, IsSearching}
use Rattle.cluster_state.specs.TicketsOut.{is_ticket_out}
use Rattle.cluster_nodes.specs.Places.{place_of, tickets_of}

-- the segments are of the documents of the point of this version
pub record StandForVersion (past : Past) (v : ℕ) (segs : List Shown) : Type 0 where
  pub known : v ≤ newest_version past
  pub documents : AreSegmentsOf (documents_at past v) segs

-- the point that is searched has this version, and its documents
pub record IsPointAt (past : Past) (v : ℕ) (point : SearchPoint Shown) : Type 0 where
  pub version : point.version.0 ≡ v
  pub stands : StandForVersion past v point.readers

-- what is read is the point of this version
pub record ReadsAt (past : Past) (v : ℕ) (lease : Lease Shown) : Type 0 where
  pub version : lease.version.0 ≡ v
  pub stands : StandForVersion past v lease.readers

-- a ticket is open at the node, on a point of the history
abbrev pub IsOpenOn : Past → List (Open Shown) → ℕ → Type 0
IsOpenOn past tickets number =
    IsSomeAnd (ticket_at number tickets) (λ o. StandForVersion past o.point.version.0 o.point.readers)

-- a ticket is held for this, on the point of this version
abbrev pub HoldsAt : List (Open Shown) → List HeldTicket → HeldKey → ℕ → Type 0
HoldsAt tickets held key v =
    IsSomeAnd (held_number held key) (λ number. IsSomeAnd (ticket_at number tickets) (λ o. o.point.version.0 ≡ v))

-- a lane's ticket
abbrev pub ticket_key : ℕ → ℕ → HeldKey
ticket_key lane t = Ticket (record { 0 = lane }) (record { 0 = t })

-- Each ticket that is held is open at the node, the history shows that it is out, and no two are one; those that lanes have at the node are
-- held, and so is one for each search of it.
pub record HoldsTickets (past : Past) (n : ℕ) (tickets : List (Open Shown)) (held : List HeldTicket) : Type 0 where
  pub each : (key : HeldKey) (number : ℕ) → held_number held key ≡ Some number → IsOpenOn past tickets number
  pub out : (key : HeldKey) (number : ℕ) → held_number held key ≡ Some number → is_ticket_out n key past ≡ true
  pub apart : (a b : HeldKey) (number : ℕ) → held_number held a ≡ Some number → held_number held b ≡ Some number → same_key a b ≡ true
  pub opened : (lane t v : ℕ) → IsTicketOf n v (open_ticket lane t past) → HoldsAt tickets held (ticket_key lane t) v
  pub searched : (at : At) (v : ℕ) → IsSearching past at n v → HoldsAt tickets held (Search at) v

-- what was handed out of a publish in flight: the writer's segments, the number that it drew, and the cut at its start
pub record IsFlying (log : Log) (at : At) (publish : Publish) (segs : List Shown) : Type 0 where
  pub out : flush_out at log ≡ Some (record { seg = publish.seg; segs = segs })
  pub count : publish.count ≡ length (cut_of (before_start at (printed log)))

abbrev pub FlightShows : Log → Option At → Option Publish → List Shown → Type 0
FlightShows log None publish segs = publish ≡ None
FlightShows log (Some at) publish segs = IsSomeAnd publish (λ f. IsFlying log at f segs)

-- the writer stands for the newest point, and draws names of the present generation; a publish that had a put made each of its
-- segments, and each has a live row where no merge was started
pub record WritesAt (past : Past) (infos : Infos) (segs : List Shown) : Type 0 where
  pub documents : AreSegmentsOf (documents_at past (newest_version past)) segs
  pub generation : infos.generation.0 ≡ generation_of past
  pub version : infos.version.0 ≡ newest_version past
  pub counter : infos.counter ≡ names_drawn past
  pub few : length infos.segs ≤ put_publishes past
  pub live : merge_count past ≡ 0 → All (λ r. 0 < r.live) infos.segs

-- a node that is down
pub record DownShows (past : Past) (n : ℕ) : Type 0 where
  pub down : is_running n past ≡ false
  pub other : is_at (primary_of past) n ≡ false

module _ {D : Type 0} where
  -- the primary searches its point, and writes from the newest on; its operations that wait are the cut, and no merge is
  -- in flight or was cut over where none was started
  pub record PrimaryShows (cells : D → Cells) (log : Log) (n : ℕ) (p : PrimaryParts D) : Type 0 where
    pub running : is_running n (printed log) ≡ true
    pub primary : is_at (primary_of (printed log)) n ≡ true
    pub whole : IsPrimary cells p
    pub point : IsPointAt (printed log) (version_of n (printed log)) p.searchers.point
    pub writer : WritesAt (printed log) p.infos p.segs
    pub waiting : p.waiting ≡ cut_of (printed log)
    pub accepted : p.accepted ≡ length (operations_of_generation (printed log))
    pub uncut : merge_count (printed log) ≡ 0 → p.has_cut_over ≡ false
    pub calm : merge_count (printed log) ≡ 0 → p.merges ≡ []
    pub flight : FlightShows log (publish_in_flight (printed log)) p.publish p.segs

  -- a replica searches its point, and saw no later generation than the present one
  pub record ReplicaShows (cells : D → Cells) (past : Past) (n : ℕ) (r : ReplicaParts D) : Type 0 where
    pub running : is_running n past ≡ true
    pub other : is_at (primary_of past) n ≡ false
    pub whole : IsWholeReplica cells r
    pub standing : AreStanding cells r
    pub point : IsPointAt past (version_of n past) r.searchers.point
    pub seen : r.seen.0 ≤ generation_of past

  abbrev pub NodeShows : (D → Cells) → Log → ℕ → Node D → Type 0
  NodeShows cells log n (Primary p) = PrimaryShows cells log n p
  NodeShows cells log n (Replica r) = ReplicaShows cells (printed log) n r
  NodeShows cells log n (Down d) = DownShows (printed log) n

  -- a node is what the log shows, and holds the tickets that it shows
  pub record PlaceShows (cells : D → Cells) (log : Log) (n : ℕ) (place : NodePlace D) : Type 0 where
    pub node_shows : NodeShows cells log n place.node
    pub tickets : HoldsTickets (printed log) n (tickets_of place.node) place.held.items

  -- a cluster that has not ended: it has a node, each is in its place and is what the log shows, and only lines that started have work out
  pub record Shows (cells : D → Cells) (log : Log) (size : ℕ) (places : List (Option (NodePlace D))) : Type 0 where
    pub some : 1 ≤ size
    pub count : length places ≡ size
    pub each : (n : ℕ) → IsNode size n → IsSomeAnd (place_of places n) (PlaceShows cells log n)
    pub handed : (at : At) → start_entry at (printed log) ≡ None → flush_out at log ≡ None
