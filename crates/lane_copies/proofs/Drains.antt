-- A drain line that does tasks has no entry until its reply.
use Rattle.std.proofs.Common.{◌≡◌, ℕ, Bool, [], Option, ap, ◌∙◌, None}
use Rattle.std.specs.Prelude.{Result, Ok, Err, IfOk}
use Rattle.nrt_base.specs.declared.numbers.At.{At}
use Rattle.history_rules.specs.Lines.{entries_of_line}
use Rattle.history_book.specs.declared.inner.Mark.{Mark}
use Rattle.history_book.specs.Log.{Log, printed}
use Rattle.script_serving.specs.declared.script.LineCommand.{LineCommand}
use Rattle.hist_lock.specs.declared.grows.Grows.{Ghosts}
use Rattle.hist_lock.specs.declared.lock.HistLock.{HistLock}
use Rattle.hist_lock.specs.declared.lock.LaneSeat.{LaneSeat}
use Rattle.lane_threads.specs.Seats.{log_seen}
use Rattle.cluster_state.specs.declared.turn.Turn.{Turn}
use Rattle.cluster_state.specs.declared.turn.Turn.TheVariants.{Work, Done, Busy}
use Rattle.cluster_merges.specs.TaskCalls.{DrainTurns}
use Rattle.cluster_site.specs.Sites.{SiteRun}
use Rattle.cluster_site.specs.Given.{IsRepliedAtDone}
use Rattle.cluster_site.specs.Turns.{NeverWaits, IsUnbegunIn, TurnShows, TakesLineTo}
use Rattle.cluster_state.specs.Run.{Run}
use Rattle.lane_copies.specs.Taken.{WorksOn}
use Rattle.lane_copies.proofs.Silence.{silent_serves, silent_fresh}

-- where it waits its line has no entry still
pub on_drain_shows : {E : Type 0} (at : At) (most : ℕ) (old new : Run) (r : Result (Turn (Unit {0})) E) → entries_of_line at (printed old.log) ≡ [] → IfOk r (DrainTurns at most old new)
    → IfOk r (IsRepliedAtDone at new) → IfOk r (TurnShows (λ w. NeverWaits) (IsUnbegunIn at) at new)
on_drain_shows at most old new (Ok (Work w)) fresh turns replied = absurd turns
on_drain_shows at most old new (Ok Done) fresh turns replied = replied
on_drain_shows at most old new (Ok Busy) fresh turns replied = ap (λ (l : Log). entries_of_line at (printed l)) turns.0.is.log ∙ fresh
on_drain_shows at most old new (Err e) fresh turns replied = tt

-- tasks that were done for it took no line of its lane on
pub works_line : {g : Ghosts SiteRun Mark} {logged : Bool} (lock : HistLock SiteRun Mark) (command : LineCommand) (at : At) (by : Option At) (before after : LaneSeat SiteRun Mark g) → IsUnbegunIn at (log_seen before)
    → WorksOn logged lock at.lane.0 by before after → TakesLineTo logged (IsUnbegunIn at) lock command at before after
works_line {logged = logged} lock command at by before after fresh works =
    let grows = works.grows in
    record {
      taken = record {
        seat = works.seat;
        goes = record {
          more = grows.more;
          log = grows.log;
          faults = grows.faults;
          serves = λ lines found early. silent_serves logged at.lane.0 by lines None grows.more (log_seen before) grows.silent;
        };
      };
      now = silent_fresh at by (log_seen before) (log_seen after) grows fresh;
    }
