-- What is remembered of nodes.
use Rattle.std.specs.Prelude.{ℕ, ◌≡◌, ◌≤◌, ◌+◌, List, Option, Some, length, Bool, true, false, slice_get, if◌then◌else◌, ◌==◌}
use Rattle.nrt_base.specs.declared.numbers.At.{At}
use Rattle.nrt_base.specs.declared.numbers.NodeNo.{NodeNo}
use Rattle.history_rules.specs.declared.entry.Event.{Event}
use Rattle.history_rules.specs.declared.entry.Event.TheVariants.{Crashed}
use Rattle.history_rules.specs.Nodes.{Past, over, primary_of, is_running, crashes, version_of, newest_version}
use Rattle.history_rules.specs.declared.cause.FaultKind.TheVariants.{Link, Damage, Disk, Stop}
use Rattle.history_rules.specs.Lines.{commit_in_flight, copy_in_flight}
use Rattle.history_rules.specs.Commits.{has_committed, is_stuck}
use Rattle.history_rules.specs.Faults.{is_planned}
use Rattle.history_tables.specs.declared.states.NodeState.{NodeState}
use Rattle.history_tables.specs.declared.rows.NodeRow.{NodeRow}
use Rattle.history_tables.specs.WorkRows.{KnowsNewest, IsCommitter}

-- how many entries there were after the last crash of a node
abbrev pub crashed_at : ℕ → Past → ℕ
crashed_at n = over 0 (λ e past k.
    elim e.event [ Crashed m ↦ if m.0 == n then length past + 1 else k | _ ↦ k ])

-- what is remembered of a node's life is what the entries show
pub record StateTells (past : Past) (n : ℕ) (state : NodeState) : Type 0 where
  pub running : state.running ≡ is_running n past
  pub crashes : state.crashes ≡ crashes n past
  pub crashed : state.crashed ≡ crashed_at n past
  pub version : state.version ≡ version_of n past
  pub committing : state.committing ≡ commit_in_flight n past
  pub low : state.crashes ≤ length past

-- a row is what the entries show of its node
pub record NodeTells (past : Past) (n : ℕ) (row : NodeRow) : Type 0 where
  pub running : row.state.running ≡ is_running n past
  pub crashes : row.state.crashes ≡ crashes n past
  pub crashed : row.state.crashed ≡ crashed_at n past
  pub version : row.state.version ≡ version_of n past
  pub committing : row.state.committing ≡ commit_in_flight n past
  pub low : row.state.crashes ≤ length past
  pub stuck : row.work.stuck ≡ is_stuck n past
  pub committed : row.work.committed ≡ has_committed n past
  pub copying : row.work.copying ≡ copy_in_flight n (newest_version past) past
  pub link : row.plans.link ≡ is_planned n Link past
  pub damage : row.plans.damage ≡ is_planned n Damage past
  pub disk : row.plans.disk ≡ is_planned n Disk past
  pub stop : row.plans.stop ≡ is_planned n Stop past

-- what rows are told of the place where an entry comes
pub record KnowsPlace (past : Past) (at : At) (e : Event) (size : ℕ) (primary line : Option NodeNo) : Type 0 where
  pub count : length past ≡ size
  pub source : primary_of past ≡ primary
  pub newest : (n : ℕ) → KnowsNewest n at past e
  pub commit : IsCommitter at past e line

-- node 1 stands first
abbrev pub RowsTell : Past → List NodeRow → Type 0
RowsTell past rows =
    (i : ℕ) (row : NodeRow) → slice_get rows i ≡ Some row → NodeTells past (i + 1) row

-- no count of crashes is above the number of entries
abbrev pub AreRowsLow : ℕ → List NodeRow → Type 0
AreRowsLow size rows =
    (i : ℕ) (row : NodeRow) → slice_get rows i ≡ Some row → row.state.crashes ≤ size

-- the first rows tell of these entries, the others of those
abbrev pub told_by : Bool → Past → Past → Past
told_by true now before = now
told_by false now before = before
