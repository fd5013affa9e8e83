-- The faults of disks that a section's calls met, and the log with them in front.
use Rattle.std.specs.Prelude.{ℕ, ◌≡◌, List, [], ◌∷◌, ◌+◌, ◌==◌, ◌&&◌, ◌||◌, Bool, true, false, Option, Some, None, nat_lt, ⊤}
use Rattle.nrt_base.specs.declared.numbers.At.{At}
use Rattle.disk_model.specs.Disk.{Cells}
use Rattle.disk_model.specs.Faults.{Plans}
use Rattle.merge_tasks.specs.Board.{Board}
use Rattle.cluster_state.specs.State.{Shows}
use Rattle.cluster_state.specs.Files.{FilesShow}
use Rattle.cluster_state.specs.Merging.{MergesStand}
use Rattle.history_rules.specs.declared.cause.FaultKind.{FaultKind}
use Rattle.history_rules.specs.declared.cause.FaultKind.TheVariants.{Disk, Stop}
use Rattle.history_rules.specs.declared.entry.Event.TheVariants.{Fault}
use Rattle.history_rules.specs.Nodes.{Past, is_running}
use Rattle.history_rules.specs.Lines.{last_of_line, is_answered}
use Rattle.history_rules.specs.Faults.{is_planned}
use Rattle.history_rules.specs.Rules.{is_merging}
use Rattle.history_book.specs.Log.{Log, mark_for}
use Rattle.history_book.specs.declared.inner.Mark.{Mark}
use Rattle.cluster_nodes.specs.declared.nodes.NodePlace.{NodePlace}
use Rattle.cluster_nodes.specs.Places.{dir_of}

-- how often a disk has failed by a plan of one call, and how often by a stop
abbrev pub failures_by_plan : Plans → ℕ × ℕ
failures_by_plan p = (p.met_once, p.met_stop)

-- a fault of a disk, of the line or of a task of its merge
abbrev pub fault_by : Bool → At → ℕ → FaultKind → Mark
fault_by task at n kind = mark_for task (record { at = at; event = Fault (record { 0 = n }) kind })

abbrev pub fault_on : Bool → Bool → At → ℕ → FaultKind → Log → Log
fault_on true task at n kind log = fault_by task at n kind ∷ log
fault_on false task at n kind log = log

-- the log, with the fault in front where its number rose
abbrev pub fault_if : Bool → At → ℕ → FaultKind → ℕ → ℕ → Log → Log
fault_if task at n kind old new log = fault_on (nat_lt old new) task at n kind log

-- the log with the faults that rose in front: from this node on, by what each disk had met and has met now
abbrev pub with_met : Bool → At → ℕ → List (ℕ × ℕ) → List (ℕ × ℕ) → Log → Log
with_met task at n [] news log = log
with_met task at n (o ∷ olds) [] log = log
with_met task at n (o ∷ olds) (w ∷ news) log =
    with_met task at (n + 1) olds news (fault_if task at n Stop o.1 w.1 (fault_if task at n Disk o.0 w.0 log))

-- the line may meet a fault: it has no reply yet, or, where a task of its merge meets it, it is a merge
abbrev pub MayMeet : Bool → At → Past → Type 0
MayMeet true at past = is_merging (last_of_line at past) ≡ true
MayMeet false at past = is_answered at past ≡ false

-- where the number rose, a fault of this kind is planned at the node, which runs
abbrev pub IsPlannedIf : ℕ → FaultKind → ℕ → ℕ → Past → Type 0
IsPlannedIf n kind old new past = nat_lt old new ≡ true → (is_planned n kind past ≡ true) × (is_running n past ≡ true)

-- each fault that rose is planned, at a node that runs
abbrev pub ArePlanned : ℕ → List (ℕ × ℕ) → List (ℕ × ℕ) → Past → Type 0
ArePlanned n [] news past = ⊤
ArePlanned n (o ∷ olds) [] past = ⊤
ArePlanned n (o ∷ olds) (w ∷ news) past = (IsPlannedIf n Disk o.0 w.0 past × IsPlannedIf n Stop o.1 w.1 past) × ArePlanned (n + 1) olds news past

-- one rose at this node
abbrev pub has_risen : ℕ → ℕ → List (ℕ × ℕ) → List (ℕ × ℕ) → Bool
has_risen p n [] news = false
has_risen p n (o ∷ olds) [] = false
has_risen p n (o ∷ olds) (w ∷ news) = ((p == n) && (nat_lt o.0 w.0 || nat_lt o.1 w.1)) || has_risen p (n + 1) olds news

-- one rose at any node
abbrev pub has_any_risen : List (ℕ × ℕ) → List (ℕ × ℕ) → Bool
has_any_risen [] news = false
has_any_risen (o ∷ olds) [] = false
has_any_risen (o ∷ olds) (w ∷ news) = (nat_lt o.0 w.0 || nat_lt o.1 w.1) || has_any_risen olds news

module _ {D : Type 0} (planned : D → Plans) where
  -- what the disk of the node in a place has met
  abbrev pub met_in : Option (NodePlace D) → ℕ × ℕ
  met_in None = (0, 0)
  met_in (Some place) = failures_by_plan (planned (dir_of place.node))

-- all that is true of a cluster that runs, of its nodes in their places
abbrev pub ClusterStands : {D : Type 0} → (D → Cells) → ℕ → List (Option (NodePlace D)) → Bool → Board → Log → Type 0
ClusterStands cells size places cut board log = Shows cells log size places × FilesShow cells log size places × MergesStand log cut size board places
