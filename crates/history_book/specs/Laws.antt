-- Laws of the past that callers cite.
use Rattle.std.specs.Prelude.{ℕ, ◌≡◌, ◌≢◌, ◌≤◌, ◌++◌, ◌==◌, List, Bool, true, false, Option, Some, None, length, take}
use Rattle.std.specs.List.{list_any}
use Rattle.nrt_base.specs.declared.numbers.At.{At}
use Rattle.nrt_base.specs.declared.numbers.NodeNo.{NodeNo}
use Rattle.nrt_base.specs.declared.numbers.Version.{Version}
use Rattle.documents.specs.declared.operation.Op.{Op}
use Rattle.history_rules.specs.declared.entry.Event.{Event}
use Rattle.history_rules.specs.declared.entry.Event.TheVariants.{Publishing, Committing}
use Rattle.history_rules.specs.Nodes.{Past, version_of, primary_of, crashes, primary_crashes, generation_of, newest_version, is_made_in_generation}
use Rattle.history_rules.specs.Lines.{start_entry, before_start, last_of_line, is_answered}
use Rattle.history_rules.specs.Faults.{has_met_fault}
use Rattle.history_rules.specs.Commits.{is_stuck, reopenable_versions}
use Rattle.history_rules.specs.Points.{accepted_at_start, published_in_generation, operations_of_generation, operations_at, operations_at_start, operations_written, cut_of}
use Rattle.history_facts.specs.Origins.{operations_before_generation}
use Rattle.history_tables.specs.declared.lines.BegunLine.{BegunLine}
use Rattle.history_tables.specs.declared.lines.Start.TheVariants.{Publishing as PublishStart}
use Rattle.history_tables.specs.Begins.{event_of, open_line}

-- the entry by which a line started, and the entries before it, are those remembered
pub record Started (begin : Option Event) (start : Past) (b : BegunLine) : Type 0 where
  pub entry : begin ≡ Some (event_of b.start)
  pub before : b.before ≡ length start
  pub accepted : b.accepted ≡ length (operations_of_generation start)

-- the publish of this line is in flight: nothing was published since it started
pub record Flying (past : Past) (at : At) : Type 0 where
  pub entry : start_entry at past ≡ Some Publishing
  pub open_is : open_line at past ≡ Some (record { start = PublishStart; before = length (before_start at past); accepted = accepted_at_start at past })
  pub newest : newest_version past ≡ newest_version (before_start at past)
  pub published : published_in_generation past ≡ published_in_generation (before_start at past)
  pub source : primary_crashes past ≡ primary_crashes (before_start at past)
  pub runs : primary_of past ≢ None

-- from a place to a later one under the same primary its generation goes on
pub record Reigns (older past : Past) : Type 0 where
  pub primary : primary_of past ≡ primary_of older
  pub generation : generation_of past ≡ generation_of older
  pub made : (v : ℕ) → is_made_in_generation v older ≡ true → is_made_in_generation v past ≡ true
  pub base : operations_before_generation past ≡ operations_before_generation older
  pub more : List Op
  pub accepted : operations_of_generation past ≡ operations_of_generation older ++ more
  pub newest : newest_version older ≤ newest_version past

-- what is written is what the newest point has, and the cut
pub record Written (past : Past) : Type 0 where
  pub newest : operations_at past (newest_version past)
      ≡ operations_before_generation past ++ take (published_in_generation past) (operations_of_generation past)
  pub within : published_in_generation past ≤ length (operations_of_generation past)
  pub written : operations_written past ≡ operations_at past (newest_version past) ++ cut_of past

-- a line whose newest entry but faults is its start
pub record LastStarted (begin : Option Event) (switched : Bool) (line : Option BegunLine) (e : Event) : Type 0 where
  pub entry : begin ≡ Some e
  pub unswitched : switched ≡ false
  pub is_open : line ≢ None

-- what the publish of a line found written: the newest point's operations, and the cut of its start
pub record Flushed (past : Past) (at : At) : Type 0 where
  pub found : operations_at_start at past
      ≡ operations_at (before_start at past) (newest_version (before_start at past)) ++ cut_of (before_start at past)
  pub within : published_in_generation past ≤ accepted_at_start at past
  pub accepted : accepted_at_start at past ≤ length (operations_of_generation past)

-- a line of which no entry stands there
pub record IsFresh (at : At) (past : Past) : Type 0 where
  pub begun : start_entry at past ≡ None
  pub last : last_of_line at past ≡ None
  pub replied : is_answered at past ≡ false
  pub spared : has_met_fault at past ≡ false
  pub line : open_line at past ≡ None

-- a reopening of the node may find this version
abbrev pub may_find : ℕ → ℕ → Past → Bool
may_find n v past = list_any (λ w. w == v) (reopenable_versions n past)

-- the line's commit is in flight at the node: a reopening may find the version of its start, and where the node is stuck,
-- what it searches now
pub record CommitFound (past : Past) (n : NodeNo) (at : At) : Type 0 where
  pub version : Version
  pub entry : start_entry at past ≡ Some (Committing n version)
  pub found : may_find n.0 version.0 past ≡ true
  pub late : is_stuck n.0 past ≡ true → may_find n.0 (version_of n.0 past) past ≡ true

-- while the line's commit is in flight at the node, neither the node has crashed nor the line has its reply since its start
pub record CommitFlies (past : Past) (n : ℕ) (at : At) : Type 0 where
  pub alive : crashes n past ≡ crashes n (before_start at past)
  pub is_open : open_line at past ≢ None
