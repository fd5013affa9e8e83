-- A publish that was handed out stays so, whatever others append.
use Rattle.std.proofs.Common.{◌≡◌, List, [], ◌∷◌, ◌++◌, Bool, Some, Option, ap, ◌∙◌, sym, subst, if◌then◌else◌}
use Rattle.std.specs.Prelude.{IsSome, IsTrue, ◌↔◌}
use Rattle.std.specs.List.{list_any}
use Rattle.history_tables.proofs.RowLemmas.{same_at_self}
use Rattle.nrt_base.specs.declared.numbers.At.{At}
use Rattle.documents.specs.declared.operation.Op.{Op}
use Rattle.documents.specs.Documents.{is_put}
use Rattle.segment_steps.specs.declared.flushing.FlushTask.{FlushTask}
use Rattle.segment_steps.specs.declared.flushing.FlushWork.{FlushWork}
use Rattle.segment_steps.specs.Next.{IsFlushOf}
use Rattle.history_rules.specs.declared.entry.Event.TheVariants.{Publishing}
use Rattle.history_rules.specs.Lines.{before_start, entries_of_line}
use Rattle.history_rules.specs.Points.{cut_of}
use Rattle.history_book.specs.declared.inner.Mark.TheVariants.{Shown, TaskFault, Kept}
use Rattle.history_book.specs.Log.{Log, printed}
use Rattle.lane_threads.specs.Walks.{GrowsByOthers, LineStays}
use Rattle.cluster_state.specs.Run.{Run}
use Rattle.cluster_state.specs.Lookups.{Handed, handed_by, or_older, flush_out}
use Rattle.cluster_state.specs.Writes.{IsFlushed}
use Rattle.cluster_state.specs.declared.turn.Turn.{Turn}
use Rattle.cluster_state.specs.declared.turn.Turn.TheVariants.{Work, Done, Busy}
use Rattle.cluster_state.specs.Calls.{PublishStarts}
use Rattle.cluster_site.specs.Given.{IsRepliedAtDone, IsBegunAtWork}
use Rattle.cluster_site.specs.Flights.{HasPublish, WaitsWhere}
use Rattle.cluster_site.specs.Turns.{IsUnbegunIn, TurnShows}
use Rattle.lane_lines.specs.Flushes.{IsFlushing}

-- what the start of a publish shows
pub publish_shows : (at : At) (old new : Run) (turn : Turn FlushTask) → entries_of_line at (printed old.log) ≡ [] → PublishStarts at old new turn → IsRepliedAtDone at new turn
    → IsBegunAtWork at (λ task. Publishing) new turn → TurnShows (IsFlushing at) (IsUnbegunIn at) at new turn
publish_shows at old new (Work task) fresh starts replied begun =
    let hands = starts.0 in
    let before : before_start at (printed new.log) ≡ printed old.log =
    ap (λ (l : Log). before_start at (printed l)) hands.now.log ∙ ap (λ (b : Bool). if b then printed old.log else before_start at (printed old.log)) (same_at_self at) in
    record {
      started = begun.last;
      out = hands.out;
      ops = hands.ops ∙ ap cut_of (sym before);
      seg = subst (λ (ops : List Op). IsSome task.seg ↔ IsTrue (list_any is_put ops)) (sym hands.ops) hands.seg;
      sound = hands.sound;
    }
publish_shows at old new Done fresh starts replied begun = replied
publish_shows at old new Busy fresh starts replied begun = subst (λ (r : Run). entries_of_line at (printed r.log) ≡ []) (sym starts.0) fresh

-- where it waits a publish is in flight
pub publish_waits : (at : At) (old new : Run) (turn : Turn FlushTask) → PublishStarts at old new turn → WaitsWhere HasPublish new.log turn
publish_waits at old new (Work task) starts = tt
publish_waits at old new Done starts = tt
publish_waits at old new Busy starts = subst (λ (r : Run). HasPublish r.log) (sym starts.0) starts.2

out_there : (at : At) (more old : Log) (h : Handed) → flush_out at old ≡ Some h → flush_out at (more ++ old) ≡ Some h
out_there at [] old h is = is
out_there at (Shown e ∷ more) old h is = out_there at more old h is
out_there at (TaskFault e ∷ more) old h is = out_there at more old h is
out_there at (Kept i ∷ more) old h is = ap (λ (o : Option Handed). or_older o (handed_by at i)) (out_there at more old h is)

-- work that was made for what was handed out is so behind what others append
pub flushed_stays : {logged : Bool} (at : At) (old new : Log) (work : FlushWork) → GrowsByOthers logged at.lane.0 old new → LineStays at old new → IsFlushed at old work → IsFlushed at new work
flushed_stays at old new work grows stays f =
    record {
      task = f.task;
      out = ap (flush_out at) grows.log ∙ out_there at grows.more old (record { seg = f.task.seg; segs = f.task.segs }) f.out;
      ops = f.ops ∙ ap cut_of (sym stays.before);
      flushed = f.flushed;
    }

-- what was made of a publish that was handed out
pub flushed_work : (at : At) (log : Log) (task : FlushTask) (work : FlushWork) → IsFlushing at task log → IsFlushOf task work → IsFlushed at log work
flushed_work at log task work f flushed = record { task = task; out = f.out; ops = f.ops; flushed = flushed }
