-- What is known of each node.
use Rattle.std.specs.Prelude.{ℕ, ◌≡◌, ◌≤◌, ◌+◌, ◌==◌, ◌&&◌, true, false, length, max, nat_le, if◌then◌else◌, Option, Some, None, unwrap_or}
use Rattle.std.specs.Ordering.{nat_cmp}
use Rattle.std.specs.BTreeMap.{BTreeMap, get}
use Rattle.nrt_base.specs.declared.numbers.NodeNo.{NodeNo}
use Rattle.history_rules.specs.declared.entry.Event.{Event}
use Rattle.history_rules.specs.declared.entry.Event.TheVariants.{Published, Copying, Committing, Switched, Committed, Crashed, Reopened, Promoted, Planned, Fault, Refused}
use Rattle.history_rules.specs.Nodes.{Past, over, is_running, crashes, version_of}
use Rattle.history_rules.specs.Commits.{base_version, has_committed, is_stuck}
use Rattle.history_tables.specs.NodeRows.{crashed_at}
use Rattle.history_tables.specs.PlanRows.{PlansTell}
use Rattle.known_past.specs.declared.nodes.Commits.{Commits}
use Rattle.known_past.specs.declared.nodes.LinePlace.{LinePlace}
use Rattle.known_past.specs.declared.nodes.KnownNode.{KnownNode}
use Rattle.known_past.specs.declared.nodes.Life.{Life}

-- the greatest version that a copy to a node noted, or 0
abbrev pub highest_copied : ℕ → Past → ℕ
highest_copied n = over 0 (λ e past k. elim e.event [ Copying m v ↦ if m.0 == n then max k v.0 else k | _ ↦ k ])

-- the line of the last copy to a node of the greatest version that was copied there, and how many entries stood before that
abbrev pub last_copy : ℕ → Past → Option LinePlace
last_copy n = over None (λ e past k. elim e.event [
  | Copying m v ↦ if (m.0 == n) && nat_le (highest_copied n past) v.0 then Some (record { at = e.at; place = length past }) else k
  | _ ↦ k
])

-- how many entries there were after a node last crashed or reopened
abbrev pub last_changed : ℕ → Past → ℕ
last_changed n = over 0 (λ e past k. elim e.event [
  | Crashed m ↦ if m.0 == n then length past + 1 else k
  | Reopened m v ↦ if m.0 == n then length past + 1 else k
  | _ ↦ k
])

-- the line of the last commit that began at a node, and how many entries stood before that, unless the node has crashed since
abbrev pub commit_begun : ℕ → Past → Option LinePlace
commit_begun n = over None (λ e past k. elim e.event [
  | Committing m v ↦ if m.0 == n then Some (record { at = e.at; place = length past }) else k
  | Crashed m ↦ if m.0 == n then None else k
  | _ ↦ k
])

-- what is known of a node that no entry changed
abbrev pub first_node : KnownNode
first_node = record {
  life = record { running = true; crashes = 0; crashed = 0; changed = 0; version = 1; copied = 0; copying = None };
  commits = record { committed = false; stuck = false; base = 1; begun = None };
  plans = record { link = false; damage = false; disk = false; stop = false };
}

-- what is known of a node
abbrev pub node_known : BTreeMap ℕ KnownNode → ℕ → KnownNode
node_known nodes n = unwrap_or (get nat_cmp nodes n) first_node

-- the node that an event may change: the primary by a publish, and by a refusal the node whose commit it refuses
abbrev pub touched : Event → Option NodeNo → Option NodeNo → Option NodeNo
touched (Published g v) primary committer = primary
touched (Refused cause) primary committer = committer
touched (Switched n v) primary committer = Some n
touched (Crashed n) primary committer = Some n
touched (Reopened n v) primary committer = Some n
touched (Promoted n g f v) primary committer = Some n
touched (Committed n v) primary committer = Some n
touched (Planned n plan) primary committer = Some n
touched (Fault n kind) primary committer = Some n
touched (Copying n v) primary committer = Some n
touched (Committing n v) primary committer = Some n
touched e primary committer = None

-- what is known of a node's life is what these entries show
pub record LifeIsKnown (past : Past) (n : ℕ) (life : Life) : Type 0 where
  pub running : life.running ≡ is_running n past
  pub crashes : life.crashes ≡ crashes n past
  pub crashed : life.crashed ≡ crashed_at n past
  pub changed : life.changed ≡ last_changed n past
  pub version : life.version ≡ version_of n past
  pub copied : life.copied ≡ highest_copied n past
  pub copying : life.copying ≡ last_copy n past
  pub low : life.crashes ≤ length past

-- what is known of a node's commits is what these entries show
pub record CommitsAreKnown (past : Past) (n : ℕ) (commits : Commits) : Type 0 where
  pub committed : commits.committed ≡ has_committed n past
  pub stuck : commits.stuck ≡ is_stuck n past
  pub base : commits.base ≡ base_version n past
  pub begun : commits.begun ≡ commit_begun n past

-- what is known of a node is what these entries show
pub record NodeIsKnown (past : Past) (n : ℕ) (node : KnownNode) : Type 0 where
  pub life : LifeIsKnown past n node.life
  pub commits : CommitsAreKnown past n node.commits
  pub plans : PlansTell past n node.plans

-- the same of every node
abbrev pub AreNodesKnown : Past → BTreeMap ℕ KnownNode → Type 0
AreNodesKnown past nodes = (n : ℕ) → NodeIsKnown past n (node_known nodes n)
