-- Sections of a job and of a settle, and how they join.
use Rattle.std.proofs.Common.{◌≡◌, ℕ, Bool, Option, Some, refl, ap, ◌∙◌, sym, subst}
use Rattle.std.specs.Prelude.{Result, Ok, Err, IfOk, OnOk, ⊤}
use Rattle.nrt_base.specs.declared.numbers.At.{At}
use Rattle.nrt_base.specs.declared.numbers.NodeNo.{NodeNo}
use Rattle.history_rules.specs.declared.entry.Event.{Event}
use Rattle.history_rules.specs.declared.entry.Event.TheVariants.{Copying, Settling}
use Rattle.history_rules.specs.Lines.{start_entry}
use Rattle.history_rules.specs.Legal.{IsLegalPast}
use Rattle.history_book.specs.declared.inner.Mark.{Mark}
use Rattle.history_book.specs.Log.{Log, printed}
use Rattle.script_serving.specs.declared.script.LineCommand.{LineCommand}
use Rattle.script_serving.specs.declared.script.LineCommand.TheVariants.{Copy, Settle}
use Rattle.hist_lock.specs.declared.grows.Grows.{Ghosts}
use Rattle.hist_lock.specs.declared.lock.LaneSeat.{LaneSeat}
use Rattle.hist_lock.specs.declared.lock.HistLock.{HistLock}
use Rattle.lane_threads.proofs.WalkLemmas.{goes_then}
use Rattle.lane_threads.proofs.LineLemmas.{goes_first}
use Rattle.lane_threads.specs.Seats.{log_seen, IsLaneSeat, EndsItsLine}
use Rattle.cluster_nodes.specs.declared.tasks.CopyTask.{CopyTask}
use Rattle.cluster_nodes.specs.declared.tasks.SettleTask.{SettleTask}
use Rattle.cluster_state.specs.Settles.{IsSettling}
use Rattle.cluster_site.specs.Sites.{SiteRun, DoesAtSite}
use Rattle.cluster_state.specs.declared.turn.Turn.{Turn}
use Rattle.cluster_state.specs.declared.turn.Turn.TheVariants.{Work, Done, Busy}
use Rattle.cluster_state.specs.CopyCalls.{CopiesFor, AreFrom}
use Rattle.cluster_site.specs.Turns.{TakesLineTo}
use Rattle.cluster_site.proofs.Sections.{EntersSite, IsLeft, call_takes}
use Rattle.lane_copies.specs.Jobs.{IsJobStart, IsCopyStart, IsCopyingBy, IsCopyReplied, HasBegunToSettle, IsSettlingOn, IsStillSettling, BeginsCopy, BeginsNextJob, LeavesJob, LeavesJobAt, StepsJob, TurnsJob}
use Rattle.lane_copies.proofs.Stays.{settling_stays}

pub some_copies : (n : ℕ) (o : Option Event) → IsJobStart n o → (command : LineCommand) × CopiesFor command o
some_copies n (Some (Copying m v)) job = (Copy m, refl)
some_copies n (Some (Settling v)) job = (Settle, tt)
some_copies n o job = absurd job

module _ {g : Ghosts SiteRun Mark} {logged : Bool} (size : ℕ) (lock : HistLock SiteRun Mark) (at : At) (task : CopyTask) (before inside after : LaneSeat SiteRun Mark g) (found new : SiteRun)
    (entered : EntersSite logged lock at before inside found) (legal : IsLegalPast found.run.nodes (printed found.run.log)) (nodes : found.run.nodes ≡ size) (left : IsLeft lock at after new) (seen : log_seen after ≡ new.run.log)
    (c : IsCopyingBy at task (log_seen before)) where
  abbrev DoesAll : Type 0
  DoesAll = (command : LineCommand) → CopiesFor command (start_entry at (printed found.run.log)) → DoesAtSite command at found new

  takes : (command : LineCommand) → DoesAll → CopiesFor command (start_entry at (printed (log_seen before))) → TakesLineTo logged (λ log. ⊤) lock command at before after
  takes command does asks =
      call_takes lock command at before inside found new entered after left seen (λ (log : Log). ⊤) (does command (subst (CopiesFor command) (sym entered.has.stays.start) asks)) tt

  some : (command : LineCommand) × CopiesFor command (start_entry at (printed (log_seen before)))
  some = some_copies task.node.0 (start_entry at (printed (log_seen before))) c.started

  settles_on : (now : Log → Type 0) → DoesAll → LeavesJob at task now found.run new.run → (s : SettleTask) → IsStillSettling size at s (log_seen before) → AreFrom task.node s.left.items → IsStillSettling size at s (log_seen after)
  settles_on now does leaves s was from =
      let there : IsSettling size (printed found.run.log) at s =
      settling_stays size at (log_seen before) found.run.log (subst (λ (k : ℕ). IsLegalPast k (printed found.run.log)) nodes legal) entered.has.apart entered.has.stays s (was c.is_open) in
      let on : IsStillSettling new.run.nodes at s new.run.log = leaves.settles s (subst (λ (k : ℕ). IsSettling k (printed found.run.log) at s) (sym nodes) there) from in
      let same : new.run.nodes ≡ size = (does some.0 (subst (CopiesFor some.0) (sym entered.has.stays.start) some.1)).nodes ∙ nodes in
      subst (IsStillSettling size at s) (sym seen) (subst (λ (k : ℕ). IsStillSettling k at s new.run.log) same on)

  section_steps : (now : Log → Type 0) → DoesAll → LeavesJob at task now found.run new.run → StepsJob logged size lock at task now before after
  section_steps now does leaves =
      record {
        seat = (takes some.0 does some.1).taken.seat;
        goes = λ command asks. (takes command does asks).taken.goes;
        start = ap (λ (l : Log). start_entry at (printed l)) seen ∙ (leaves.start ∙ entered.has.stays.start);
        settles = settles_on now does leaves;
        now = subst now (sym seen) leaves.now;
      }

  turns_of : {W : Type 0} (out : W → Log → Type 0) (turn : Turn W) → DoesAll → LeavesJobAt out at task found.run new.run turn → TurnsJob logged out size lock at task before after turn
  turns_of out (Work w) does leaves = section_steps (out w) does leaves
  turns_of out Done does leaves = section_steps (IsCopyReplied at) does leaves
  turns_of out Busy does leaves = absurd leaves

  -- a section of one call of a job
  pub on_turns : {W E : Type 0} (out : W → Log → Type 0) (r : Result (Turn W) E) → ((command : LineCommand) → CopiesFor command (start_entry at (printed found.run.log)) → OnOk r (DoesAtSite command at found new))
      → IfOk r (LeavesJobAt out at task found.run new.run) → IfOk r (TurnsJob logged out size lock at task before after)
  on_turns out (Ok turn) does leaves = turns_of out turn does leaves
  on_turns out (Err x) does leaves = tt

-- ---- sections of one job

module _ {g : Ghosts SiteRun Mark} {logged : Bool} (size : ℕ) (lock : HistLock SiteRun Mark) (at : At) (task : CopyTask) where
  pub steps_first : (s : LaneSeat SiteRun Mark g) → IsLaneSeat logged lock at.lane.0 s → IsCopyingBy at task (log_seen s) → StepsJob logged size lock at task (IsCopyingBy at task) s s
  steps_first s seat c =
      record { seat = seat; goes = λ command asks. goes_first logged command at (log_seen s) seat.faults; start = refl; settles = λ left was from. was; now = c }

  pub steps_then : {P : Log → Type 0} (Q : Log → Type 0) (a b c : LaneSeat SiteRun Mark g) → StepsJob logged size lock at task P a b → StepsJob logged size lock at task Q b c → StepsJob logged size lock at task Q a c
  steps_then Q a b c h k =
      record {
        seat = k.seat;
        goes = λ command asks. goes_then logged command at (log_seen a) (log_seen b) (log_seen c) (h.goes command asks) (k.goes command (subst (CopiesFor command) (sym h.start) asks));
        start = k.start ∙ h.start;
        settles = λ left was from. k.settles left (h.settles left was from) from;
        now = k.now;
      }

  -- ---- copies

  copy_ended : (n : NodeNo) (b c : LaneSeat SiteRun Mark g) → BeginsCopy at n task (log_seen b) → StepsJob logged size lock at task (IsCopyReplied at) b c → EndsItsLine logged lock (Copy n) at b c
  copy_ended n b c begins k =
      record {
        seat = k.seat;
        ran = record {
          goes = k.goes (Copy n) (subst (CopiesFor (Copy n)) (sym begins.started) refl);
          replied = k.now (subst IsCopyStart (sym (k.start ∙ begins.started)) tt);
        };
      }

pub on_copy_ended : {T E : Type 0} {g : Ghosts SiteRun Mark} (logged : Bool) (size : ℕ) (lock : HistLock SiteRun Mark) (at : At) (task : CopyTask) (n : NodeNo) (r : Result T E) (b c : LaneSeat SiteRun Mark g) → BeginsCopy at n task (log_seen b)
    → OnOk r (StepsJob logged size lock at task (IsCopyReplied at) b c) → OnOk r (EndsItsLine logged lock (Copy n) at b c)
on_copy_ended logged size lock at task n (Ok x) b c begins k = copy_ended size lock at task n b c begins k
on_copy_ended logged size lock at task n (Err x) b c begins k = tt

-- ---- settles

-- a settle that has begun has this left, while it is open
pub record IsSettlingYet (size : ℕ) (at : At) (left : SettleTask) (log : Log) : Type 0 where
  pub begun : HasBegunToSettle at left log
  pub still : IsStillSettling size at left log

pub settling_yet : (size : ℕ) (at : At) (left : SettleTask) (log : Log) → IsSettlingOn size at left log → IsSettlingYet size at left log
settling_yet size at left log s = record { begun = s.started; still = λ line. s }

module _ {g : Ghosts SiteRun Mark} {logged : Bool} (size : ℕ) (lock : HistLock SiteRun Mark) (at : At) (left : SettleTask) where
  -- a settle waits
  pub settle_waits : (b c : LaneSeat SiteRun Mark g) → TakesLineTo logged (IsSettlingOn size at left) lock Settle at b c → TakesLineTo logged (IsSettlingYet size at left) lock Settle at b c
  settle_waits b c k = record { taken = k.taken; now = settling_yet size at left (log_seen c) k.now }

  -- a job of a settle has ended
  pub settle_goes_on : (task : CopyTask) (b c : LaneSeat SiteRun Mark g) → BeginsNextJob size at left task (log_seen b) → StepsJob logged size lock at task (IsCopyReplied at) b c
      → TakesLineTo logged (IsSettlingYet size at left) lock Settle at b c
  settle_goes_on task b c begins k =
      record {
        taken = record { seat = k.seat; goes = k.goes Settle (subst (CopiesFor Settle) (sym begins.settling.started) tt) };
        now = record { begun = k.start ∙ begins.settling.started; still = k.settles left (λ line. begins.settling) begins.first };
      }
