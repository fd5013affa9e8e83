-- What a call of a task does, as whoever took the task is owed it.
use Rattle.std.specs.Prelude.{◌≡◌, false, Option}
use Rattle.nrt_base.specs.declared.numbers.At.{At}
use Rattle.history_book.specs.Log.{name_by}
use Rattle.cluster_state.specs.Run.{Run}
use Rattle.lane_threads.specs.Owes.{GoesByTask}

-- a call of a task did some of its work, for the drain line that took it or for none
pub record DoesTask (by : Option At) (old new : Run) : Type 0 where
  pub running : new.ended ≡ false
  pub nodes : new.nodes ≡ old.nodes
  pub goes : GoesByTask false (name_by by) old.log new.log
