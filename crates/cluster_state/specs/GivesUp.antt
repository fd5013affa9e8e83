-- What a publish that is given up leaves of the primary, and how a publish ends.
use Rattle.std.specs.Prelude.{ℕ, ◌≡◌, ◌∷◌, ◌+◌, Bool, true, false, List, Some, map}
use Rattle.nrt_base.specs.declared.numbers.At.{At}
use Rattle.nrt_base.specs.declared.numbers.NodeNo.{NodeNo}
use Rattle.disk_model.specs.Disk.{Name, Cells}
use Rattle.searcher_switch.specs.Appearing.{AppearsOnly}
use Rattle.index_primary.specs.declared.parts.PrimaryParts.{PrimaryParts}
use Rattle.index_primary.specs.Held.{IsOwnFile}
use Rattle.index_primary.specs.Primary.{KeepsHeldBytes, loose_of}
use Rattle.index_primary.specs.Calls.{DrawsOnly, HoldsNoNew}
use Rattle.history_rules.specs.declared.entry.Event.{Event}
use Rattle.history_rules.specs.declared.entry.Event.TheVariants.{Publishing, Published, Refused}
use Rattle.history_rules.specs.declared.cause.Cause.TheVariants.{DiskFault, Lost}
use Rattle.history_rules.specs.Nodes.{Past, generation_of, newest_version, primary_of}
use Rattle.history_rules.specs.Lines.{before_start}
use Rattle.history_rules.specs.Started.{is_lost}
use Rattle.history_book.specs.Log.{Log, printed, shown}
use Rattle.cluster_state.specs.Run.{Run, IsNow}
use Rattle.cluster_state.specs.Met.{failures_by_plan, has_risen, with_met}

-- The primary gave up what it was writing: it holds nothing more, and what came to stand has names of its own segments.
pub record GivesUpFiles {D : Type 0} (cells : D → Cells) (old new : PrimaryParts D) : Type 0 where
  pub stays : KeepsHeldBytes cells old new
  pub no_new : HoldsNoNew old new
  pub drawn : DrawsOnly old new
  pub appears : AppearsOnly (IsOwnFile old.infos (loose_of old)) (cells old.dir) (cells new.dir)
  pub commits : new.commits ≡ old.commits
  pub point : new.point_infos ≡ old.point_infos
  pub generation : new.infos.generation ≡ old.infos.generation

-- the reply of a publish: its point, or that a disk failed
abbrev pub publish_reply : Bool → Past → Event
publish_reply true past = Published (record { 0 = generation_of past }) (record { 0 = newest_version past + 1 })
publish_reply false past = Refused DiskFault

-- the log with the faults of disks in front that rose from the one to the other
abbrev pub met_log : At → Run → Run → Log
met_log at old new = with_met false at 1 (map failures_by_plan old.rest.plans) (map failures_by_plan new.rest.plans) old.log

-- the same of a task of the merge that this line started
abbrev pub task_met_log : At → Run → Run → Log
task_met_log line old new = with_met true line 1 (map failures_by_plan old.rest.plans) (map failures_by_plan new.rest.plans) old.log

-- a fault of the node's disk was met from the one to the other
abbrev pub disk_failed : ℕ → Run → Run → Bool
disk_failed n old new = has_risen n 1 (map failures_by_plan old.rest.plans) (map failures_by_plan new.rest.plans)

-- one of the primary's disk was
pub record PrimaryFails (old new : Run) : Type 0 where
  pub p : NodeNo
  pub primary : primary_of (printed old.log) ≡ Some p
  pub risen : disk_failed p.0 old new ≡ true

-- a publish has ended, with its point or, where the primary's disk failed in this call, given up, behind the faults of disks that it met
pub record PublishEnds (at : At) (old new : Run) (published : Bool) : Type 0 where
  pub now : IsNow old new (shown at (publish_reply published (printed old.log)) ∷ met_log at old new)
  pub failed : published ≡ false → PrimaryFails old new

-- a publish has ended, by whether its line is lost
abbrev pub PublishEndsBy : Bool → At → Run → Run → Type 0
PublishEndsBy true at old new = IsNow old new (shown at (Refused Lost) ∷ old.log)
PublishEndsBy false at old new = (published : Bool) × PublishEnds at old new published

-- how a publish ends: its line is lost exactly where the primary has crashed since its start; else its point is there, or it was given up
abbrev pub EndsPublish : At → Run → Run → Type 0
EndsPublish at old new = PublishEndsBy (is_lost (printed old.log) (before_start at (printed old.log)) Publishing) at old new
