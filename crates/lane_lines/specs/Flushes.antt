-- What a lane knows of a publish that was handed out to it.
use Rattle.std.specs.Prelude.{◌≡◌, Some, IsSome, IsTrue, ◌↔◌}
use Rattle.std.specs.List.{All, list_any}
use Rattle.nrt_base.specs.declared.numbers.At.{At}
use Rattle.documents.specs.Documents.{is_put}
use Rattle.seg_reader.specs.Sound.{IsSound}
use Rattle.segment_steps.specs.declared.flushing.FlushTask.{FlushTask}
use Rattle.history_rules.specs.declared.entry.Event.TheVariants.{Publishing}
use Rattle.history_rules.specs.Lines.{last_of_line, before_start}
use Rattle.history_rules.specs.Points.{cut_of}
use Rattle.history_book.specs.Log.{Log, printed}
use Rattle.cluster_state.specs.Lookups.{flush_out}

-- the publish of the line has begun, and this was handed out of it: the cut at its start, a number exactly where that has a put, and sound segments
pub record IsFlushing (at : At) (task : FlushTask) (log : Log) : Type 0 where
  pub started : last_of_line at (printed log) ≡ Some Publishing
  pub out : flush_out at log ≡ Some (record { seg = task.seg; segs = task.segs })
  pub ops : task.ops ≡ cut_of (before_start at (printed log))
  pub seg : IsSome task.seg ↔ IsTrue (list_any is_put task.ops)
  pub sound : All IsSound task.segs
