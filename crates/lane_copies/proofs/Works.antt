-- What a section of a call of a task did, for the lane or worker that took it.
use Rattle.std.proofs.Common.{◌≡◌, ◌⊎◌, ◌∷◌, ℕ, Bool, [], Option, Some, None, refl, ap, ◌∙◌, sym, subst, inl, inr, reverse}
use Rattle.std.specs.Prelude.{Result, Ok, Err, OnOk, OnErr, IfOk}
use Rattle.std.proofs.lemmas.Result.{on_ok_weaker}
use Rattle.nrt_base.specs.declared.numbers.At.{At}
use Rattle.nrt_base.specs.declared.numbers.LineNo.{LineNo}
use Rattle.nrt_base.specs.declared.numbers.NodeNo.{NodeNo}
use Rattle.nrt_base.specs.declared.numbers.SegNo.{SegNo}
use Rattle.history_book.specs.declared.inner.Mark.{Mark}
use Rattle.history_book.specs.declared.inner.Mark.TheVariants.{Shown, TaskFault, Kept}
use Rattle.history_book.specs.Log.{Log, name_of, name_by, name_inside, lane_name}
use Rattle.script_serving.specs.declared.script.LineCommand.TheVariants.{Settle}
use Rattle.hist_lock.specs.declared.grows.Grows.{Ghosts}
use Rattle.hist_lock.specs.declared.lock.HistLock.{HistLock}
use Rattle.hist_lock.specs.declared.lock.LaneSeat.{LaneSeat}
use Rattle.hist_lock.specs.History.{Extends}
use Rattle.hist_lock.specs.Seats.{history_seen}
use Rattle.lane_threads.specs.Owes.{AddsEntries, AddsByTask, GoesByLine, GoesByTask}
use Rattle.lane_threads.proofs.IdleLemmas.{apart_none, apart_first}
use Rattle.lane_threads.specs.Seats.{log_seen, IsLaneSeat}
use Rattle.merge_tasks.specs.declared.tasks.Task.{Task}
use Rattle.merge_tasks.specs.TaskLog.{carried_out}
use Rattle.merge_tasks.specs.Board.{IsToldKind}
use Rattle.cluster_nodes.specs.declared.tasks.FileTask.{FileTask}
use Rattle.cluster_state.specs.Run.{Run, IsEnded}
use Rattle.cluster_merges.specs.MergePaths.{TakesTask}
use Rattle.cluster_state.specs.declared.turn.Turn.{Turn}
use Rattle.cluster_state.specs.declared.turn.Turn.TheVariants.{Work, Done, Busy}
use Rattle.cluster_merges.specs.TaskCalls.{PrecopyTurns, CutTurns}
use Rattle.cluster_site.specs.Flights.{HasPublish, HasJobAt, WaitsWhere}
use Rattle.cluster_site.specs.Sites.{SiteRun, DoesAtSite, DoesTaskAtSite, is_logged}
use Rattle.cluster_site.proofs.Sections.{EntersSite, IsLeft, call_extends}
use Rattle.lane_copies.specs.Taken.{IsTakerAt, GrowsSilently, WorksOn, TakesOn, HandsOn}
use Rattle.lane_copies.proofs.Silence.{silent_first, silent_then, section_silent}

-- ---- what a task adds a line of its taker's lane may add

taker_named : (at : At) (by : Option At) → IsTakerAt at by → (n : ℕ) → (n ≡ name_by by) ⊎ (n ≡ 0) → (n ≡ lane_name at.lane.0) ⊎ (n ≡ 0)
taker_named at None is n (inl mine) = inr mine
taker_named at None is n (inr nobodys) = inr nobodys
taker_named at (Some b) is n (inl mine) = inl (mine ∙ ap (λ (a : At). lane_name a.lane.0) is)
taker_named at (Some b) is n (inr nobodys) = inr nobodys

line_adds : (logged : Bool) (at : At) (by : Option At) → IsTakerAt at by → (more old : Log) → AddsByTask logged (name_by by) more old → AddsEntries logged Settle at more old
line_adds logged at by is [] old h = tt
line_adds logged at by is (Shown e ∷ more) old h = absurd h
line_adds logged at by is (TaskFault e ∷ more) old h = (h.0, h.1, line_adds logged at by is more old h.2)
line_adds logged at by is (Kept i ∷ more) old h = (taker_named at by is (name_inside i) h.0, line_adds logged at by is more old h.1)

line_does : (at : At) (by : Option At) → IsTakerAt at by → (old new : SiteRun) → DoesTaskAtSite by old new → DoesAtSite Settle at old new
line_does at by is old new does =
    let goes : GoesByLine (is_logged old) Settle at old.run.log new.run.log =
    record { more = does.goes.more; log = does.goes.log; adds = line_adds (is_logged old) at by is does.goes.more old.run.log does.goes.adds } in
    record { running = does.running; nodes = does.nodes; logged = does.logged; goes = goes; none = apart_none Settle at old.run.log new.run.log refl goes; first = apart_first Settle at old.run.log new.run.log refl goes }

-- ---- what a task waits for

-- a copy that waits finds the job of a point at its node
pub precopy_waits : (line : LineNo) (seg : SegNo) (by : Option At) (n : NodeNo) (job : ℕ) (old new : Run) (turn : Turn FileTask) → PrecopyTurns line seg by n job old new turn → WaitsWhere (HasJobAt n.0) new.log turn
precopy_waits line seg by n job old new (Work file) turns = tt
precopy_waits line seg by n job old new Done turns = tt
precopy_waits line seg by n job old new Busy turns = subst (HasJobAt n.0) (sym turns.2.is.log) turns.1

-- a cut-over that waits finds a publish in flight
pub cut_waits : (line : LineNo) (seg : SegNo) (by : Option At) (old new : Run) (turn : Turn (Unit {0})) → CutTurns line seg by old new turn → WaitsWhere HasPublish new.log turn
cut_waits line seg by old new (Work w) turns = tt
cut_waits line seg by old new Done turns = tt
cut_waits line seg by old new Busy turns = subst HasPublish (sym turns.0.is.log) turns.2

-- ---- one section

module _ {g : Ghosts SiteRun Mark} {logged : Bool} (lock : HistLock SiteRun Mark) (at : At) (by : Option At) (before inside : LaneSeat SiteRun Mark g) (found new : SiteRun) (entered : EntersSite logged lock at before inside found) where
  -- behind a call of a task the lock may be given back
  pub task_extends : {T E : Type 0} (r : Result T E) → IsTakerAt at by → OnOk r (DoesTaskAtSite by found new) → OnErr r (IsEnded found.run new.run) → Extends name_of at.lane.0 (history_seen inside) (reverse new.run.log)
  task_extends r is does err = call_extends lock Settle at before inside found new entered r (on_ok_weaker r (line_does at by is found new) does) err

  module _ (after : LaneSeat SiteRun Mark g) (left : IsLeft lock at after new) (seen : log_seen after ≡ new.run.log) where
    works : DoesTaskAtSite by found new → WorksOn logged lock at.lane.0 by before after
    works does =
        let grows : GrowsSilently logged at.lane.0 by (log_seen before) new.run.log =
        section_silent at.lane.0 by (log_seen before) found.run.log new.run.log entered.has.apart (subst (λ (b : Bool). GoesByTask b (name_by by) found.run.log new.run.log) entered.logged_is does.goes) in
        record { seat = left logged grows.faults; grows = subst (GrowsSilently logged at.lane.0 by (log_seen before)) (sym seen) grows }

    pub on_works : {T E : Type 0} (r : Result T E) → OnOk r (DoesTaskAtSite by found new) → OnOk r (WorksOn logged lock at.lane.0 by before after)
    on_works (Ok x) does = works does
    on_works (Err e) does = tt

    pub on_takes : {E : Type 0} (r : Result (Option Task) E) → OnOk r (DoesTaskAtSite by found new) → IfOk r (TakesTask by found.run new.run) → IfOk r (TakesOn logged lock at.lane.0 by before after)
    on_takes (Ok None) does takes = works does
    on_takes (Ok (Some task)) does takes = (
      works does,
      record { told = subst (λ (l : Log). IsToldKind l task.seg task.kind) (sym seen) takes.told; fit = takes.fit },
      takes.taker,
    )
    on_takes (Err e) does takes = tt

    pub on_hands : {E : Type 0} (line : LineNo) (seg : SegNo) (n : NodeNo) (job : ℕ) (r : Result (Turn FileTask) E) → OnOk r (DoesTaskAtSite by found new) → IfOk r (PrecopyTurns line seg by n job found.run new.run)
        → IfOk r (HandsOn logged lock at.lane.0 by before after)
    on_hands line seg n job (Ok (Work file)) does turns =
        (works does, record { out = ap (carried_out file.name) seen ∙ turns.1.out; meta = turns.1.meta; footer = turns.1.footer })
    on_hands line seg n job (Ok Done) does turns = works does
    on_hands line seg n job (Ok Busy) does turns = works does
    on_hands line seg n job (Err e) does turns = tt

-- ---- sections of one task, or of several

module _ {g : Ghosts SiteRun Mark} {logged : Bool} (lock : HistLock SiteRun Mark) (lane : ℕ) (by : Option At) where
  -- nothing was done yet
  pub works_first : (s : LaneSeat SiteRun Mark g) → IsLaneSeat logged lock lane s → WorksOn logged lock lane by s s
  works_first s seat = record { seat = seat; grows = silent_first lane by (log_seen s) seat.faults }

  pub works_then : (a b c : LaneSeat SiteRun Mark g) → WorksOn logged lock lane by a b → WorksOn logged lock lane by b c → WorksOn logged lock lane by a c
  works_then a b c h k = record { seat = k.seat; grows = silent_then lane by (log_seen a) (log_seen b) (log_seen c) h.grows k.grows }

  pub on_works_then : {T E : Type 0} (a b c : LaneSeat SiteRun Mark g) → WorksOn logged lock lane by a b → (r : Result T E) → OnOk r (WorksOn logged lock lane by b c) → OnOk r (WorksOn logged lock lane by a c)
  on_works_then a b c h (Ok x) k = works_then a b c h k
  on_works_then a b c h (Err e) k = tt
