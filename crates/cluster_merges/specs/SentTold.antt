-- What callers are told of nodes to which copies of a merged segment were sent.
use Rattle.std.specs.Prelude.{ℕ, nat_lt, ◌≡◌, ◌==◌, ◌&&◌, ◌++◌, ◌∷◌, [], Bool, false, not, List, Option, Some, None, is_some, length, if◌then◌else◌}
use Rattle.std.specs.List.{AllByRecursion, list_any}
use Rattle.disk_model.specs.Disk.{Name}
use Rattle.copy_state.specs.declared.state.CopyState.{CopyState}
use Rattle.history_rules.specs.Nodes.{generation_of}
use Rattle.history_book.specs.Jobs.{job_at}
use Rattle.history_book.specs.Log.{Log, printed}
use Rattle.merge_tasks.specs.declared.tasks.Sent.{Sent}
use Rattle.merge_tasks.specs.declared.tasks.Spread.{Spread}
use Rattle.cluster_nodes.specs.declared.nodes.NodePlace.{NodePlace}
use Rattle.cluster_nodes.specs.Places.{place_of}
use Rattle.cluster_state.specs.CallsLeft.{place_calls}
use Rattle.cluster_state.specs.JobsIn.{place_files}
use Rattle.cluster_state.specs.MergedCopies.{place_copies}
use Rattle.cluster_state.specs.Sizes.{sizes_in}
use Rattle.cluster_state.specs.Run.{JobFiles, MergedCopy, Run, no_files, files_at, merged_at}

-- a copy was sent to this node
abbrev pub goes_to : ℕ → List Sent → Bool
goes_to n sent = list_any (λ s. s.node.0 == n) sent

-- the first file that a copy state names
abbrev pub first_name : CopyState → Option Name
first_name state = elim state.files [ [] ↦ None | f ∷ fs ↦ Some f.0 ]

-- the copies that are left at a node once it is told of a generation: none, where that is above the greatest that it has seen
abbrev pub copies_left : (seen generation : ℕ) → List MergedCopy → List MergedCopy
copies_left seen generation copies = if nat_lt seen generation then [] else copies

-- the files of the job at a node once it is told of a generation, by whether the job runs: one that was stopped is gone, where the generation is above
-- the greatest that the node has seen
abbrev pub files_left : Bool → ℕ → JobFiles → JobFiles
files_left runs generation files = if nat_lt files.seen generation && not runs then record no_files { seen = generation } else record files { seen = generation }

-- A copy of the newest generation was sent to a node, where these were the files of its job and its copies, and are now: the copy is the last one, under
-- its number.
pub record TellsSent (log : Log) (state : CopyState) (s : Sent) (files_were files : JobFiles) (copies_were copies : List MergedCopy) : Type 0 where
  pub misses : Bool
  pub copies_are : copies ≡ copies_left files_were.seen (generation_of (printed log)) copies_were ++ record { number = s.job; first = first_name state; misses = misses } ∷ []
  pub files_are : files ≡ files_left (is_some (job_at s.node.0 log)) (generation_of (printed log)) files_were

-- Copies of a merged segment were sent: callers are told of each, and of the nodes to which none was sent the same as before; and but for the
-- tasks of merges and the faults of disks and the names of their files all else is as before.
pub record KeepsButSent (spread : Spread) (old new : Run) : Type 0 where
  pub rest : new.rest ≡ record old.rest { jobs = new.rest.jobs; copies = new.rest.copies; tasks = new.rest.tasks; plans = new.rest.plans; names = new.rest.names }
  pub each : AllByRecursion (λ s. TellsSent old.log spread.state s (files_at s.node.0 old) (files_at s.node.0 new) (merged_at s.node.0 old) (merged_at s.node.0 new)) spread.left
  pub files : (m : ℕ) → goes_to m spread.left ≡ false → files_at m new ≡ files_at m old
  pub copies : (m : ℕ) → goes_to m spread.left ≡ false → merged_at m new ≡ merged_at m old

-- the same, over what a path has in hand
pub record TellsSends {D : Type 0} (log : Log) (state : CopyState) (sent : List Sent) (old new : List (Option (NodePlace D))) : Type 0 where
  pub count : length new ≡ length old
  pub calls : (m : ℕ) → place_calls (place_of new m) ≡ place_calls (place_of old m)
  pub sizes : sizes_in new ≡ sizes_in old
  pub each : AllByRecursion
      (λ s. TellsSent log state s (place_files (place_of old s.node.0)) (place_files (place_of new s.node.0)) (place_copies (place_of old s.node.0)) (place_copies (place_of new s.node.0))) sent
  pub files : (m : ℕ) → goes_to m sent ≡ false → place_files (place_of new m) ≡ place_files (place_of old m)
  pub copies : (m : ℕ) → goes_to m sent ≡ false → place_copies (place_of new m) ≡ place_copies (place_of old m)
