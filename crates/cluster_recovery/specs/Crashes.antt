-- What callers are told beside the log of a cluster of which a node crashed.
use Rattle.std.specs.Prelude.{ℕ, ◌≡◌, ◌==◌, Bool, true, false, []}
use Rattle.history_rules.specs.Nodes.{primary_of, is_at}
use Rattle.history_book.specs.Log.{printed}
use Rattle.cluster_state.specs.Run.{Run, no_files, calls_at, files_at, merged_at, names_at, KeepsRest}
use Rattle.cluster_state.specs.Keeping.{TellsSameOfOthers, KeepsButNode}
use Rattle.cluster_state.specs.LifeCalls.{crashed_tasks}

-- callers are told of no commit, no job and no copy of a merged segment at this node
pub record TellsNothingOf (n : ℕ) (r : Run) : Type 0 where
  pub calls : calls_at n r ≡ 0
  pub files : files_at n r ≡ no_files
  pub copies : merged_at n r ≡ []

-- The primary crashed: no merge is cut over, posted or in flight, no segment has a size, and no copy of a merged segment runs. The calls that the
-- commits of the other nodes still need, and the files of their jobs, are as before.
pub record PrimaryFell (n : ℕ) (old new : Run) : Type 0 where
  pub cut : new.rest.cut ≡ false
  pub sizes : new.rest.sizes ≡ []
  pub tasks : new.rest.tasks ≡ crashed_tasks true old.rest.tasks
  pub copies : (m : ℕ) → merged_at m new ≡ []
  pub calls : TellsSameOfOthers calls_at n old new
  pub files : TellsSameOfOthers files_at n old new

-- the files of all nodes but the primary and this one have the names that they had
abbrev pub KeepsOtherNames : ℕ → Run → Run → Type 0
KeepsOtherNames n old new = (m : ℕ) → is_at (primary_of (printed old.log)) m ≡ false → (n == m) ≡ false → names_at m new ≡ names_at m old

-- what callers are told beside the log, behind a line that crashes a node, by whether the node runs and whether it is the primary
abbrev pub CrashTells : (up primary : Bool) → ℕ → Run → Run → Type 0
CrashTells false primary n old new = KeepsRest old new
CrashTells true false n old new = KeepsButNode n old new × TellsNothingOf n new × KeepsOtherNames n old new
CrashTells true true n old new = PrimaryFell n old new × TellsNothingOf n new
