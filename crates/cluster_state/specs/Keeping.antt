-- What a call that moves one node leaves of what callers are told.
use Rattle.std.specs.Prelude.{ℕ, ◌≡◌, ◌==◌, false}
use Rattle.history_rules.specs.Nodes.{primary_of, is_at, newest_version}
use Rattle.history_book.specs.Log.{printed}
use Rattle.cluster_nodes.specs.declared.tasks.CopyTask.{CopyTask}
use Rattle.cluster_state.specs.Run.{Run, calls_at, files_at, merged_at, plans_at, names_at, KeepsRest}
use Rattle.cluster_state.specs.declared.turn.Turn.{Turn}
use Rattle.cluster_state.specs.declared.turn.Turn.TheVariants.{Work, Done, Busy}

-- callers are told the same so of all nodes but this one
abbrev pub TellsSameOfOthers : {T : Type 0} → (ℕ → Run → T) → ℕ → Run → Run → Type 0
TellsSameOfOthers told n old new = (m : ℕ) → (n == m) ≡ false → told m new ≡ told m old

-- the disks of all nodes but the primary and this one have the plans that they had, and have met nothing
abbrev pub KeepsOtherDisks : ℕ → Run → Run → Type 0
KeepsOtherDisks n old new = (m : ℕ) → is_at (primary_of (printed old.log)) m ≡ false → (n == m) ≡ false → plans_at m new ≡ plans_at m old

-- what callers are told beside the log is as before, but for the faults of disks and the names of their files, and for the files of the job at this
-- node
pub record KeepsButFiles (n : ℕ) (old new : Run) : Type 0 where
  pub rest : new.rest ≡ record old.rest { jobs = new.rest.jobs; plans = new.rest.plans; names = new.rest.names }
  pub files : TellsSameOfOthers files_at n old new

-- the same, but for its copies of merged segments too, of which a job that begins ends some
pub record KeepsButJob (n : ℕ) (old new : Run) : Type 0 where
  pub rest : new.rest ≡ record old.rest { jobs = new.rest.jobs; copies = new.rest.copies; plans = new.rest.plans; names = new.rest.names }
  pub files : TellsSameOfOthers files_at n old new
  pub copies : TellsSameOfOthers merged_at n old new

-- by what a line hands out that may begin a job: all is as before but for the job at the node of this task, or but for nothing
abbrev pub KeepsButBegun : Run → Run → Turn CopyTask → Type 0
KeepsButBegun old new (Work task) = KeepsButJob task.node.0 old new
KeepsButBegun old new Done = KeepsRest old new
KeepsButBegun old new Busy = KeepsRest old new

-- what callers are told beside the log is as before, but for what is planned for this node's disk and what it has met, the names of its files,
-- and the calls that its commit still needs
pub record KeepsButCommit (n : ℕ) (old new : Run) : Type 0 where
  pub rest : new.rest ≡ record old.rest { calls_left = new.rest.calls_left; plans = new.rest.plans; names = new.rest.names }
  pub calls : TellsSameOfOthers calls_at n old new
  pub plans : TellsSameOfOthers plans_at n old new
  pub names : TellsSameOfOthers names_at n old new

-- what callers are told beside the log is as before, but for the faults of disks and the names of their files, and for what they are told of this
-- node
pub record KeepsButNode (n : ℕ) (old new : Run) : Type 0 where
  pub rest : new.rest ≡ record old.rest { calls_left = new.rest.calls_left; jobs = new.rest.jobs; copies = new.rest.copies; plans = new.rest.plans; names = new.rest.names }
  pub calls : TellsSameOfOthers calls_at n old new
  pub files : TellsSameOfOthers files_at n old new
  pub copies : TellsSameOfOthers merged_at n old new

-- what callers are told beside the log is as before, but for the faults of disks and the names of their files; and, where there is a new point, for
-- the sizes of the primary's segments and whether a merge was cut over
pub record KeepsButPoint (old new : Run) : Type 0 where
  pub rest : new.rest ≡ record old.rest { cut = new.rest.cut; sizes = new.rest.sizes; plans = new.rest.plans; names = new.rest.names }
  pub still : newest_version (printed new.log) ≡ newest_version (printed old.log) → KeepsRest old new
