-- What a task of a merge leaves behind the faults of disks that it met.
use Rattle.std.specs.Prelude.{ℕ, ◌≡◌, ◌+◌, ◌∷◌, ◌++◌, List, map, Bool, true, false, Option, Some}
use Rattle.nrt_base.specs.declared.numbers.At.{At}
use Rattle.nrt_base.specs.declared.numbers.LineNo.{LineNo}
use Rattle.nrt_base.specs.declared.numbers.NodeNo.{NodeNo}
use Rattle.nrt_base.specs.declared.numbers.SegNo.{SegNo}
use Rattle.disk_model.specs.Faults.{Plans}
use Rattle.copy_state.specs.declared.state.CopyState.{CopyState}
use Rattle.history_book.specs.Log.{printed, kept}
use Rattle.history_book.specs.declared.inner.Inner.TheVariants.{MergeEnd, TaskEnd}
use Rattle.history_book.specs.declared.inner.Step.{Step}
use Rattle.history_book.specs.declared.inner.Step.TheVariants.{Merge as MergeStep}
use Rattle.merge_tasks.specs.Merging.{Sheet, cut_after}
use Rattle.merge_tasks.specs.Board.{Board, with_spread, without_merge, posts_of, post_after, done_under, counts_one}
use Rattle.merge_tasks.specs.declared.tasks.Sent.{Sent}
use Rattle.cluster_nodes.specs.declared.nodes.NodePlace.{NodePlace}
use Rattle.cluster_state.specs.Met.{met_in, with_met, has_risen}
use Rattle.cluster_state.specs.Settles.{AreReplicas}
use Rattle.cluster_state.specs.Sizes.{sizes_in}
use Rattle.cluster_merges.specs.MergePaths.{begun_log}
use Rattle.cluster_merges.specs.MergeSizes.{SizesEnd}

-- the ledger behind the faults of disks that a task met of the merge which a line started
abbrev pub behind : At → List (ℕ × ℕ) → List (ℕ × ℕ) → Sheet → Sheet
behind at olds news b = record b { log = with_met true at 1 olds news b.log }

-- a merge has ended, cut over or not, and its task, behind the faults of disks that rose
pub record EndsBehind (at : At) (line : LineNo) (seg : SegNo) (by : Option At) (step : Step) (cut : Bool) (olds news : List (ℕ × ℕ)) (b now : Sheet) : Type 0 where
  pub log : now.log ≡ kept (TaskEnd line seg by step true) ∷ kept (MergeEnd seg cut) ∷ with_met true at 1 olds news b.log
  pub nodes : now.nodes ≡ b.nodes
  pub cut_is : now.cut ≡ cut_after cut b.cut

-- what every disk had met before, and has met now
abbrev pub mets : {D : Type 0} → (D → Plans) → List (Option (NodePlace D)) → List (ℕ × ℕ)
mets planned places = map (met_in planned) places

-- a merge has ended, and is no row any more; its task counts
pub record EndsMergeOf {D : Type 0} (planned : D → Plans) (at : At) (line : LineNo) (seg : SegNo) (by : Option At) (step : Step) (cut : Bool) (b now : Sheet) (board after : Board) (old new : List (Option (NodePlace D))) : Type 0 where
  pub behind : EndsBehind at line seg by step cut (mets planned old) (mets planned new) b now
  pub rows : after.rows ≡ without_merge seg.0 board.rows
  pub posted : after.posted ≡ board.posted
  pub counts : (x : At) → done_under x after.counts ≡ done_under x board.counts + counts_one x by
  pub sizes : SizesEnd cut (sizes_in old) (sizes_in new)

-- a merge was given up, as the disk of this node failed
pub record GivesUpOf {D : Type 0} (planned : D → Plans) (p : NodeNo) (at : At) (line : LineNo) (seg : SegNo) (by : Option At) (step : Step) (b now : Sheet) (board after : Board) (old new : List (Option (NodePlace D))) : Type 0 where
  pub merge : EndsMergeOf planned at line seg by step false b now board after old new
  pub risen : has_risen p.0 1 (mets planned old) (mets planned new) ≡ true

-- the files of a merge are written, and a copy of them has begun to each replica that runs, in order; a task is posted for each, or, where none
-- runs, the one to cut over; all that behind the faults of disks that rose
pub record WritesBehind (at : At) (line : LineNo) (seg : SegNo) (by : Option At) (olds news : List (ℕ × ℕ)) (b now : Sheet) (board after : Board) : Type 0 where
  pub state : CopyState
  pub sent : List Sent
  pub replicas : AreReplicas b.nodes (printed b.log) (map (λ s. s.node) sent)
  pub log : now.log ≡ kept (TaskEnd line seg by MergeStep true) ∷ begun_log line sent (with_met true at 1 olds news b.log)
  pub nodes : now.nodes ≡ b.nodes
  pub rows : after.rows ≡ with_spread seg.0 (Some (record { state = state; left = sent; all = true })) board.rows
  pub posted : after.posted ≡ (board.posted ++ posts_of seg line sent) ++ post_after seg line sent
