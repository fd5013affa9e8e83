-- What tests know of a primary.
use Rattle.std.specs.Prelude.{◌≡◌, List, ◌∷◌, map, Bool, true, false, Option, Some, None, is_some}
use Rattle.std.specs.List.{All}
use Rattle.disk_model.specs.Disk.{Name, Cells}
use Rattle.commit_steps.specs.Commits.{ImagesShowNothing}
use Rattle.seg_merge.specs.declared.task.MergeTask.{MergeTask}
use Rattle.index_primary.specs.declared.parts.PrimaryParts.{PrimaryParts}
use Rattle.index_primary.specs.declared.states.Merging.{Merging}
use Rattle.index_primary.specs.StartCalls.{IsFitTask}
use Rattle.node_tests.specs.declared.seen.Seen.{Seen}

-- no name reads, and no image shows a commit
pub record IsEmpty (cells : Cells) : Type 0 where
  pub none : (q : Name) → (cells q).now ≡ None
  pub images : ImagesShowNothing cells

-- of each merge in flight what it is made from, and whether its files are written
abbrev pub tasks_of : List Merging → List (MergeTask × Bool)
tasks_of ms = map (λ m. (m.task, is_some m.merged)) ms

abbrev pub unmade_tasks : List MergeTask → List (MergeTask × Bool)
unmade_tasks tasks = map (λ task. (task, false)) tasks

-- that one whose files are written comes first
abbrev pub given_tasks : Option MergeTask → List MergeTask → List (MergeTask × Bool)
given_tasks None tasks = unmade_tasks tasks
given_tasks (Some task) tasks = (task, true) ∷ unmade_tasks tasks

-- what is seen of a primary is so, and no publish is in flight
pub record IsSeen {D : Type 0} (p : PrimaryParts D) (seen : Seen) : Type 0 where
  pub accepted : p.accepted ≡ seen.accepted
  pub version : p.infos.version.0 ≡ seen.version
  pub publish : p.publish ≡ None
  pub merges : tasks_of p.merges ≡ given_tasks seen.ready seen.merges
  pub fit : All IsFitTask seen.merges
