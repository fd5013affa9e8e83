-- What a step of a merge leaves of what callers are told beside the log.
use Rattle.std.specs.Prelude.{ℕ, ◌≡◌, ◌==◌, Bool, true, false, not, List, Option, Some, None, length}
use Rattle.std.specs.List.{filter}
use Rattle.nrt_base.specs.declared.numbers.SegNo.{SegNo}
use Rattle.history_book.specs.Log.{Log}
use Rattle.merge_tasks.specs.declared.tasks.Spread.{Spread}
use Rattle.merge_tasks.specs.Board.{open_merge, spread_at, is_unwritten}
use Rattle.cluster_nodes.specs.declared.nodes.NodePlace.{NodePlace}
use Rattle.cluster_nodes.specs.Places.{place_of}
use Rattle.cluster_nodes.specs.declared.tasks.FileTask.{FileTask}
use Rattle.cluster_state.specs.CallsLeft.{place_calls}
use Rattle.cluster_state.specs.JobsIn.{place_files}
use Rattle.cluster_state.specs.MergedCopies.{place_copies}
use Rattle.cluster_state.specs.Sizes.{sizes_in}
use Rattle.cluster_state.specs.Run.{MergedCopy, Run, merged_at, KeepsRest}
use Rattle.cluster_state.specs.Keeping.{TellsSameOfOthers}
use Rattle.cluster_state.specs.declared.turn.Turn.{Turn}
use Rattle.cluster_state.specs.declared.turn.Turn.TheVariants.{Work, Done, Busy}
use Rattle.cluster_merges.specs.SentTold.{KeepsButSent, TellsSends}
use Rattle.cluster_merges.specs.declared.precopies.CopyTurn.{CopyTurn}
use Rattle.cluster_merges.specs.declared.precopies.CopyTurn.TheVariants.{Waits, Hands, Ends, Fails}

-- what callers are told beside the log is as before, but for the tasks of merges
pub record KeepsButTasks (old new : Run) : Type 0 where
  pub rest : new.rest ≡ record old.rest { tasks = new.rest.tasks }

-- The same, but for the faults of disks and the names of their files, and, where a merge starts, for the sizes of the primary's segments: one that is
-- merged is not to be chosen.
pub record KeepsButSizes (old new : Run) : Type 0 where
  pub rest : new.rest ≡ record old.rest { sizes = new.rest.sizes; tasks = new.rest.tasks; plans = new.rest.plans; names = new.rest.names }
  pub still : new.rest.tasks.rows ≡ old.rest.tasks.rows → KeepsRest old new

-- the same where a merge ends, but for whether one was cut over, too
pub record KeepsButCut (old new : Run) : Type 0 where
  pub rest : new.rest ≡ record old.rest { cut = new.rest.cut; sizes = new.rest.sizes; tasks = new.rest.tasks; plans = new.rest.plans; names = new.rest.names }
  pub still : new.rest.tasks.rows ≡ old.rest.tasks.rows → KeepsRest old new

-- what the task to build a segment leaves, by whether it had ended before, and by what has become of its merge: it was given up, or copies of it
-- were sent
abbrev pub KeepsBuiltBy : Bool → Option Spread → Run → Run → Type 0
KeepsBuiltBy false spread old new = KeepsRest old new
KeepsBuiltBy true None old new = KeepsButSizes old new
KeepsBuiltBy true (Some spread) old new = KeepsButSent spread old new

-- what the task to build this segment leaves
abbrev pub KeepsBuilt : SegNo → Run → Run → Type 0
KeepsBuilt seg old new = KeepsBuiltBy (is_unwritten (open_merge seg.0 old.rest.tasks.rows)) (spread_at (open_merge seg.0 new.rest.tasks.rows)) old new

-- the copies but that of this number
abbrev pub copies_but : ℕ → List MergedCopy → List MergedCopy
copies_but job copies = filter (λ c. not (c.number == job)) copies

-- What callers are told beside the log is as before, but for the faults of disks and the names of their files, for the tasks of merges, and for the
-- copy of this number at this node.
pub record KeepsButCopies (n job : ℕ) (old new : Run) : Type 0 where
  pub rest : new.rest ≡ record old.rest { copies = new.rest.copies; tasks = new.rest.tasks; plans = new.rest.plans; names = new.rest.names }
  pub copies : TellsSameOfOthers merged_at n old new
  pub own : copies_but job (merged_at n new) ≡ copies_but job (merged_at n old)

-- by what came of the next step of a copy to a node: all is as before where it waits, or is handed a file
abbrev pub KeepsButEnded : ℕ → ℕ → Run → Run → CopyTurn → Type 0
KeepsButEnded n job old new Waits = KeepsRest old new
KeepsButEnded n job old new (Hands file) = KeepsRest old new
KeepsButEnded n job old new Ends = KeepsButCopies n job old new
KeepsButEnded n job old new Fails = KeepsButCopies n job old new

-- the same, as a line sees it
abbrev pub KeepsCopyTurn : ℕ → ℕ → Run → Run → Turn FileTask → Type 0
KeepsCopyTurn n job old new (Work file) = KeepsRest old new
KeepsCopyTurn n job old new Busy = KeepsRest old new
KeepsCopyTurn n job old new Done = KeepsButCopies n job old new

-- ---- over what a path has in hand

module _ {D : Type 0} where
  -- callers are told the same of all places, but for the sizes of the primary's segments, and for the copies of merged segments
  pub record TellsCallsAndJobs (old new : List (Option (NodePlace D))) : Type 0 where
    pub count : length new ≡ length old
    pub calls : (m : ℕ) → place_calls (place_of new m) ≡ place_calls (place_of old m)
    pub files : (m : ℕ) → place_files (place_of new m) ≡ place_files (place_of old m)

  -- the same of all places, but for the sizes of the primary's segments
  pub record TellsButSizes (old new : List (Option (NodePlace D))) : Type 0 where
    pub both : TellsCallsAndJobs old new
    pub copies : (m : ℕ) → place_copies (place_of new m) ≡ place_copies (place_of old m)

  -- the same of all places, but for the copy of this number at this one
  pub record TellsButCopies (n job : ℕ) (old new : List (Option (NodePlace D))) : Type 0 where
    pub both : TellsCallsAndJobs old new
    pub sizes : sizes_in new ≡ sizes_in old
    pub copies : (m : ℕ) → (n == m) ≡ false → place_copies (place_of new m) ≡ place_copies (place_of old m)
    pub own : copies_but job (place_copies (place_of new n)) ≡ copies_but job (place_copies (place_of old n))

  -- the same of all places
  pub record TellsAll (old new : List (Option (NodePlace D))) : Type 0 where
    pub both : TellsCallsAndJobs old new
    pub sizes : sizes_in new ≡ sizes_in old
    pub copies : (m : ℕ) → place_copies (place_of new m) ≡ place_copies (place_of old m)

  -- by what came of the next step of a copy to this one
  abbrev pub TellsButEnded : ℕ → ℕ → List (Option (NodePlace D)) → List (Option (NodePlace D)) → CopyTurn → Type 0
  TellsButEnded n job old new Waits = TellsAll old new
  TellsButEnded n job old new (Hands file) = TellsAll old new
  TellsButEnded n job old new Ends = TellsButCopies n job old new
  TellsButEnded n job old new Fails = TellsButCopies n job old new

  -- by what has become of a merge whose segment was built
  abbrev pub TellsBuilt : Log → Option Spread → List (Option (NodePlace D)) → List (Option (NodePlace D)) → Type 0
  TellsBuilt log None old new = TellsButSizes old new
  TellsBuilt log (Some spread) old new = TellsSends log spread.state spread.left old new
