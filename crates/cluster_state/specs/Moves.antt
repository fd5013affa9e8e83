-- Which nodes an entry moves, and what stays of the others.
use Rattle.std.specs.Prelude.{ℕ, ◌≡◌, ◌≤◌, ◌==◌, ◌&&◌, List, Bool, true, false, not, Option, Some}
use Rattle.nrt_base.specs.declared.numbers.At.{At}
use Rattle.nrt_base.specs.declared.numbers.NodeNo.{NodeNo}
use Rattle.seg_reader.specs.Shown.{Shown}
use Rattle.history_rules.specs.declared.entry.Event.{Event}
use Rattle.history_rules.specs.declared.entry.Event.TheVariants.{Accepted, Publishing, Published, Switched, Opened, Answered, Closed, Crashed, Reopened, Promoted, Merging}
use Rattle.history_rules.specs.Nodes.{Past, primary_of, is_at, is_running, generation_of, version_of, newest_version}
use Rattle.history_rules.specs.Lines.{before_start, publish_in_flight}
use Rattle.history_rules.specs.Points.{operations_of_generation, published_in_generation, names_drawn}
use Rattle.history_rules.specs.Tickets.{open_ticket, IsTicketOf}
use Rattle.history_rules.specs.Tasks.{merge_count}
use Rattle.script_serving.specs.Refusals.{put_publishes}
use Rattle.cluster_state.specs.Lookups.{IsSearching}
use Rattle.cluster_nodes.specs.declared.held.HeldKey.{HeldKey}
use Rattle.cluster_nodes.specs.declared.held.HeldKey.TheVariants.{Search}
use Rattle.cluster_nodes.specs.Held.{same_key}
use Rattle.cluster_state.specs.State.{StandForVersion, ticket_key}
use Rattle.cluster_state.specs.TicketsOut.{is_ticket_out}

-- the entry moves a word of the node, but for its tickets and searches
abbrev pub moves : Event → Option NodeNo → ℕ → Bool
moves (Accepted seq op) p n = is_at p n
moves Publishing p n = is_at p n
moves (Published g v) p n = is_at p n
moves (Switched m v) p n = m.0 == n
moves (Crashed m) p n = m.0 == n
moves (Reopened m v) p n = m.0 == n
moves (Promoted m g f v) p n = m.0 == n
moves (Merging seg) p n = is_at p n
moves e p n = false

-- the entry opens a ticket or a search at the node or ends one, or the node crashes
abbrev pub moves_tickets : Event → ℕ → Bool
moves_tickets (Opened m t v) n = m.0 == n
moves_tickets (Answered m t v query answer) n = (m.0 == n) && (t.0 == 0)
moves_tickets (Closed m t) n = m.0 == n
moves_tickets (Crashed m) n = m.0 == n
moves_tickets e n = false

-- the entry leaves the publish in flight as it was: it neither starts nor ends one, nor does the primary crash
abbrev pub keeps_flight : Event → Option NodeNo → Bool
keeps_flight Publishing p = false
keeps_flight (Published g v) p = false
keeps_flight (Crashed m) p = not (is_at p m.0)
keeps_flight e p = true

-- the publish in flight is the one that was, and so is its start
pub record FlightStays (past now : Past) : Type 0 where
  pub flight : publish_in_flight now ≡ publish_in_flight past
  pub start : (at : At) → publish_in_flight past ≡ Some at → before_start at now ≡ before_start at past

-- what stays for every node: points are what they were, and generations only rise
pub record Lasts (past now : Past) : Type 0 where
  pub stands : (v : ℕ) (segs : List Shown) → StandForVersion past v segs → StandForVersion now v segs
  pub generation : generation_of past ≤ generation_of now

-- the tickets and searches of a node become no more, and the same tickets are out
pub record Fewer (past now : Past) (n : ℕ) : Type 0 where
  pub tickets : (lane t v : ℕ) → IsTicketOf n v (open_ticket lane t now) → IsTicketOf n v (open_ticket lane t past)
  pub searches : (at : At) (v : ℕ) → IsSearching now at n v → IsSearching past at n v
  pub out : (key : HeldKey) → is_ticket_out n key now ≡ is_ticket_out n key past

-- what the writer rests on
pub record WritesOn (past now : Past) : Type 0 where
  pub newest : newest_version now ≡ newest_version past
  pub generation : generation_of now ≡ generation_of past
  pub names : names_drawn now ≡ names_drawn past
  pub operations : operations_of_generation now ≡ operations_of_generation past
  pub published : published_in_generation now ≡ published_in_generation past
  pub puts : put_publishes now ≡ put_publishes past
  pub merges : merge_count now ≡ merge_count past

-- a node that an entry does not move, but for its tickets
pub record Same (past now : Past) (n : ℕ) : Type 0 where
  pub lasts : Lasts past now
  pub running : is_running n now ≡ is_running n past
  pub primary : is_at (primary_of now) n ≡ is_at (primary_of past) n
  pub version : version_of n now ≡ version_of n past
  pub writer : is_at (primary_of past) n ≡ true → WritesOn past now
  pub flight : is_at (primary_of past) n ≡ true → FlightStays past now

-- what was held for this is held no more: the lane's tickets and the searches at the node are others, and were there before; every other
-- ticket that was out still is
pub record EndsKey (past now : Past) (n : ℕ) (key : HeldKey) : Type 0 where
  pub tickets : (lane t v : ℕ) → IsTicketOf n v (open_ticket lane t now) → (same_key key (ticket_key lane t) ≡ false) × IsTicketOf n v (open_ticket lane t past)
  pub searches : (at : At) (v : ℕ) → IsSearching now at n v → (same_key key (Search at) ≡ false) × IsSearching past at n v
  pub out : (other : HeldKey) → same_key key other ≡ false → is_ticket_out n other past ≡ true → is_ticket_out n other now ≡ true
