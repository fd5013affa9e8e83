-- Merge and drain lines, and tasks, over the paths of merges.
use Rattle.std.proofs.Common.{◌≡◌, ℕ, Bool, true, false, List, [], ◌∷◌, Option, Some, None, is_some, refl, sym, ap, ◌∙◌, true≢false}
use Rattle.std.proofs.lemmas.Option.{none-some}
use Rattle.nrt_base.specs.declared.numbers.At.{At}
use Rattle.nrt_base.specs.declared.numbers.NodeNo.{NodeNo}
use Rattle.history_rules.specs.declared.cause.Cause.{Cause}
use Rattle.history_rules.specs.declared.cause.Cause.TheVariants.{Nothing, NamesSpent}
use Rattle.history_rules.specs.declared.entry.Event.TheVariants.{Refused}
use Rattle.history_rules.specs.Commits.{is_disk_fault}
use Rattle.history_rules.specs.Lines.{entries_of_line}
use Rattle.history_rules.specs.Nodes.{primary_of}
use Rattle.history_book.specs.Log.{Log, printed, shown}
use Rattle.cluster_nodes.specs.declared.nodes.NodePlace.{NodePlace}
use Rattle.merge_tasks.specs.declared.tasks.OpenMerge.{OpenMerge}
use Rattle.history_book.specs.Told.{counted_for}
use Rattle.merge_tasks.specs.Board.{Board, done_under}
use Rattle.merge_tasks.proofs.TaskFrames.{undrained}
use Rattle.cluster_state.specs.Run.{Run}
use Rattle.cluster_state.specs.Merging.{MergesStand}
use Rattle.cluster_merges.specs.MergePaths.{IsAsBefore, StartsMergeFor}
use Rattle.cluster_state.specs.Calls.{LineRefused}
use Rattle.cluster_merges.specs.TaskCalls.{RefusesMerge, StartsAtPrimary, MergeLine}

-- ---- what stands of merges
module _ {D : Type 0} (log : Log) (cut : Bool) (size : ℕ) (board : Board) (places : List (Option (NodePlace D))) (stand : MergesStand log cut size board places) where
  -- without a primary no merge is in flight
  pub no_row : (test : List OpenMerge → Bool) → test [] ≡ false → primary_of (printed log) ≡ None → test board.rows ≡ true → ⊥
  no_row test none vacant is = true≢false (sym is ∙ ap test (stand.vacant vacant).1.1 ∙ none)

  -- of a line of which nothing stands there as many tasks count as are noted
  pub noted_count : (at : At) → entries_of_line at (printed log) ≡ [] → done_under at board.counts ≡ counted_for at log
  noted_count at fresh = stand.tasks.counts at (undrained at (printed log) fresh)

-- ---- merges that start

-- none starts for want of inputs or of names alone, which is no fault of a disk
pub plain_cause : (at : At) (factor : ℕ) (old new : Run) (cause : Cause) → StartsMergeFor at factor old new (Some cause) → is_disk_fault cause ≡ false
plain_cause at factor old new Nothing w = refl
plain_cause at factor old new NamesSpent w = refl
plain_cause at factor old new cause w = absurd w

-- the cluster runs on, and its log is as before
pub not_started : (at : At) (factor : ℕ) (old new : Run) (cause : Cause) → StartsMergeFor at factor old new (Some cause) → IsAsBefore old new
not_started at factor old new Nothing w = w.0
not_started at factor old new NamesSpent w = w.0
not_started at factor old new cause w = absurd w

-- a refusal behind it is the line's
refused_over : (at : At) (cause : Cause) (old mid new : Run) → IsAsBefore old mid → LineRefused at cause mid new → new.rest.tasks ≡ mid.rest.tasks → RefusesMerge at cause old new
refused_over at cause old mid new was is tasks = record {
  is = record {
    running = is.running;
    nodes = is.nodes ∙ was.is.nodes;
    log = is.log ∙ ap (λ (l : Log). shown at (Refused cause) ∷ l) was.is.log;
  };
  rows_are = ap (λ (b : Board). b.rows) tasks ∙ was.rows_are;
  posted_are = ap (λ (b : Board). b.posted) tasks ∙ was.posted_are;
}

pub refused_so : (at : At) (factor : ℕ) (old mid new : Run) (cause : Cause) → StartsMergeFor at factor old mid (Some cause) → LineRefused at cause mid new → new.rest.tasks ≡ mid.rest.tasks → StartsAtPrimary at factor old new
refused_so at factor old mid new Nothing w is tasks = (Some Nothing, (refused_over at Nothing old mid new w.0 is tasks, w.1))
refused_so at factor old mid new NamesSpent w is tasks = (Some NamesSpent, (refused_over at NamesSpent old mid new w.0 is tasks, w.1, w.2))
refused_so at factor old mid new cause w is tasks = absurd w

-- a primary runs, so the line starts there or is refused
pub starts_there : (at : At) (factor : ℕ) (old new : Run) (p : NodeNo) → primary_of (printed old.log) ≡ Some p → StartsAtPrimary at factor old new → MergeLine at factor old new
starts_there at factor old new p runs starts = record {
  vacant = λ none. absurd (none-some p (sym none ∙ runs));
  cause = starts.0;
  starts = λ some. starts.1;
}

-- ---- publishes
pub none_of : (o : Option At) → is_some o ≡ false → o ≡ None
none_of None e = refl
none_of (Some at) e = absurd (true≢false e)

pub some_of : (o : Option At) → true ≡ is_some o → o ≡ None → ⊥
some_of o e none = true≢false (e ∙ ap is_some none)
