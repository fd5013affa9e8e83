-- What the calls of a commit show of its line.
use Rattle.std.proofs.Common.{◌≡◌, [], Bool, Some, ap, ◌∙◌, sym, subst}
use Rattle.std.specs.Prelude.{Result, OnOk}
use Rattle.nrt_base.specs.declared.numbers.At.{At}
use Rattle.nrt_base.specs.declared.numbers.NodeNo.{NodeNo}
use Rattle.history_rules.specs.declared.entry.Event.TheVariants.{Committing}
use Rattle.history_rules.specs.Lines.{last_of_line, entries_of_line}
use Rattle.history_book.specs.declared.inner.Mark.{Mark}
use Rattle.history_book.specs.Log.{Log, printed}
use Rattle.script_serving.specs.declared.script.LineCommand.TheVariants.{Commit}
use Rattle.hist_lock.specs.declared.grows.Grows.{Ghosts}
use Rattle.hist_lock.specs.declared.lock.LaneSeat.{LaneSeat}
use Rattle.hist_lock.specs.declared.lock.HistLock.{HistLock}
use Rattle.lane_threads.specs.Seats.{EndsItsLine}
use Rattle.cluster_nodes.specs.declared.tasks.CommitTask.{CommitTask}
use Rattle.cluster_state.specs.Run.{Run}
use Rattle.cluster_state.specs.declared.turn.Turn.{Turn}
use Rattle.cluster_state.specs.declared.turn.Turn.TheVariants.{Work, Done, Busy}
use Rattle.cluster_state.specs.LifeCalls.{CommitStarts, CommitSteps}
use Rattle.cluster_state.proofs.MetLines.{met_last}
use Rattle.cluster_site.specs.Sites.{SiteRun}
use Rattle.cluster_site.specs.Given.{IsRepliedAtDone, IsBegunAtWork}
use Rattle.cluster_site.specs.Flights.{HasCommitAt, WaitsWhere}
use Rattle.cluster_site.specs.Turns.{IsUnbegunIn, NeverWaits, TurnShows}
use Rattle.lane_lines.specs.Commits.{HasBegunCommit, IsCommitting}

pub commit_shows : (at : At) (n : NodeNo) (old new : Run) (turn : Turn CommitTask) → entries_of_line at (printed old.log) ≡ [] → CommitStarts at n old new turn → IsRepliedAtDone at new turn
    → IsBegunAtWork at (λ task. Committing n task.version) new turn → TurnShows (IsCommitting at n) (IsUnbegunIn at) at new turn
commit_shows at n old new (Work task) fresh starts replied begun =
    record { node = starts.0.node; begun = begun.last ∙ ap (λ (m : NodeNo). Some (Committing m task.version)) (sym starts.0.node) }
commit_shows at n old new Done fresh starts replied begun = replied
commit_shows at n old new Busy fresh starts replied begun = subst (λ (r : Run). entries_of_line at (printed r.log) ≡ []) (sym starts.0) fresh

-- where it waits a commit is in flight there
pub commit_waits : (at : At) (n : NodeNo) (old new : Run) (turn : Turn CommitTask) → CommitStarts at n old new turn → WaitsWhere (HasCommitAt n.0) new.log turn
commit_waits at n old new (Work task) starts = tt
commit_waits at n old new Done starts = tt
commit_waits at n old new Busy starts = subst (λ (r : Run). HasCommitAt n.0 r.log) (sym starts.0) starts.2

pub step_shows : (at : At) (task : CommitTask) (old new : Run) (turn : Turn (Unit {0})) → HasBegunCommit at task old.log → CommitSteps at task.node task.version old new turn → IsRepliedAtDone at new turn
    → TurnShows (λ made. HasBegunCommit at task) NeverWaits at new turn
step_shows at task old new (Work made) begun steps replied = ap (λ (l : Log). last_of_line at (printed l)) steps.0.log ∙ (met_last at old new ∙ begun)
step_shows at task old new Done begun steps replied = replied
step_shows at task old new Busy begun steps replied = absurd steps

-- the node of what was handed out is the one that the line commits
pub on_node : {T E : Type 0} {g : Ghosts SiteRun Mark} (logged : Bool) (lock : HistLock SiteRun Mark) (at : At) (m n : NodeNo) (r : Result T E) (before after : LaneSeat SiteRun Mark g) → m ≡ n
    → OnOk r (EndsItsLine logged lock (Commit m) at before after) → OnOk r (EndsItsLine logged lock (Commit n) at before after)
on_node logged lock at m n r before after is ends = subst (λ (k : NodeNo). OnOk r (EndsItsLine logged lock (Commit k) at before after)) is ends
