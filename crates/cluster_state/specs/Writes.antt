-- What publishes hand out and take back.
use Rattle.std.specs.Prelude.{◌≡◌, ◌≤◌, ◌<◌, ◌∷◌, true, IsSome, IsTrue, ◌↔◌, Option, Some, None, length}
use Rattle.std.specs.List.{All}
use Rattle.nrt_base.specs.declared.numbers.At.{At}
use Rattle.seg_reader.specs.Sound.{IsSound}
use Rattle.segment_steps.specs.declared.flushing.FlushTask.{FlushTask}
use Rattle.segment_steps.specs.declared.flushing.FlushWork.{FlushWork}
use Rattle.segment_steps.specs.Next.{IsFlushOf}
use Rattle.history_rules.specs.declared.entry.Event.TheVariants.{Publishing}
use Rattle.history_rules.specs.Lines.{before_start}
use Rattle.history_rules.specs.Points.{cut_of, cut_has_put}
use Rattle.script_serving.specs.Refusals.{may_be_full}
use Rattle.history_book.specs.Log.{Log, printed, shown, kept}
use Rattle.history_book.specs.declared.inner.Inner.TheVariants.{FlushOut}
use Rattle.cluster_state.specs.Lookups.{flush_out}
use Rattle.cluster_state.specs.Run.{Run, IsNow}

-- the primary has as many segments as there may be
abbrev pub IsFull : Run → Type 0
IsFull r = 256 ≤ length r.rest.sizes

-- A publish is handed out: the cut, a number exactly where it has a put, and the segments that it stands on, which the log shows of
-- its line. Where it has a put there is room for one more segment.
pub record HandsFlush (at : At) (old new : Run) (task : FlushTask) : Type 0 where
  pub now : IsNow old new (kept (FlushOut at task.seg task.segs) ∷ shown at Publishing ∷ old.log)
  pub out : flush_out at new.log ≡ Some (record { seg = task.seg; segs = task.segs })
  pub ops : task.ops ≡ cut_of (printed old.log)
  pub seg : IsSome task.seg ↔ IsTrue (cut_has_put (printed old.log))
  pub sound : All IsSound task.segs
  pub few : cut_has_put (printed old.log) ≡ true → length old.rest.sizes < 256

-- the work was made for what was handed out of the publish of the line
pub record IsFlushed (at : At) (log : Log) (work : FlushWork) : Type 0 where
  pub task : FlushTask
  pub out : flush_out at log ≡ Some (record { seg = task.seg; segs = task.segs })
  pub ops : task.ops ≡ cut_of (before_start at (printed log))
  pub flushed : IsFlushOf task work

-- a publish starts: its work is handed out, or there is a put and as many segments as there may be, by the log too, and all is as before
abbrev pub StartsPublish : At → Run → Run → Option FlushTask → Type 0
StartsPublish at old new (Some task) = HandsFlush at old new task
StartsPublish at old new None = IsNow old new old.log × (cut_has_put (printed old.log) ≡ true) × (may_be_full (printed old.log) ≡ true) × IsFull old
