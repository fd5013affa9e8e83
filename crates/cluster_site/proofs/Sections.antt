-- What a section of one call did for its line, and how sections join.
use Rattle.std.proofs.Common.{◌≡◌, ℕ, List, [], Bool, Option, Some, None, refl, ap, ◌∙◌, sym, subst, reverse, inl, inr}
use Rattle.std.specs.Prelude.{Result, Ok, Err, OnOk, OnErr, IfOk, IsSome, IsSomeAnd}
use Rattle.std.proofs.lemmas.Result.{on_ok_weaker, on_err_weaker}
use Rattle.nrt_base.specs.declared.numbers.At.{At}
use Rattle.history_rules.specs.Lines.{entries_of_line}
use Rattle.history_rules.specs.Legal.{IsLegalPast}
use Rattle.history_book.specs.declared.inner.Mark.{Mark}
use Rattle.history_book.specs.Log.{Log, printed, name_of}
use Rattle.script_serving.specs.declared.script.LineCommand.{LineCommand}
use Rattle.hist_lock.specs.declared.grows.Grows.{Ghosts}
use Rattle.hist_lock.specs.declared.lock.LaneSeat.{LaneSeat}
use Rattle.hist_lock.specs.declared.lock.HistLock.{HistLock}
use Rattle.hist_lock.specs.History.{Extends}
use Rattle.hist_lock.specs.Seats.{history_seen}
use Rattle.lane_threads.specs.Owes.{GoesByLine, FaultsFit}
use Rattle.lane_threads.proofs.WalkLemmas.{goes_then}
use Rattle.lane_threads.proofs.LineLemmas.{goes_first, ran_after}
use Rattle.lane_threads.specs.Seats.{log_seen, IsLaneSeat, HasEntered, EndsItsLine}
use Rattle.lane_threads.proofs.SeatLemmas.{line_extends, section_extends, section_taken, section_ended}
use Rattle.cluster_state.specs.Run.{IsEnded}
use Rattle.cluster_state.specs.declared.turn.Turn.{Turn}
use Rattle.cluster_state.specs.declared.turn.Turn.TheVariants.{Work, Done, Busy}
use Rattle.cluster_core.specs.Doing.{IsReplied}
use Rattle.cluster_site.specs.Sites.{SiteRun, DoesAtSite, is_logged}
use Rattle.cluster_site.specs.Flights.{HasPublish, HasCommitAt, HasJobAt, HasFlight, WaitsWhere}
use Rattle.cluster_site.specs.Turns.{TakesLineTo, IsUnbegunIn, TurnShows, TurnsLine}

-- ---- one call

no_answer : Result (Unit {0}) (Unit {0})
no_answer = Ok tt

-- of two facts of an answer
pub if_ok_two : {X E : Type 0} {A B D : X → Type 0} (r : Result X E) → ((x : X) → A x → B x → D x) → IfOk r A → IfOk r B → IfOk r D
if_ok_two (Ok x) f a b = f x a b
if_ok_two (Err e) f a b = tt

-- of three facts of an answer
pub if_ok_three : {X E : Type 0} {A B C D : X → Type 0} (r : Result X E) → ((x : X) → A x → B x → C x → D x) → IfOk r A → IfOk r B → IfOk r C → IfOk r D
if_ok_three (Ok x) f a b c = f x a b c
if_ok_three (Err e) f a b c = tt

-- ---- the value that the lock lends is the one that was found

-- the lock was taken for a line at a site that was set up so
pub record EntersSite {g : Ghosts SiteRun Mark} (logged : Bool) (lock : HistLock SiteRun Mark) (at : At) (before inside : LaneSeat SiteRun Mark g) (found : SiteRun) : Type 0 where
  pub has : HasEntered logged lock at before inside found.run.log
  pub logged_is : is_logged found ≡ logged

pub found_entered : {g : Ghosts SiteRun Mark} {logged : Bool} (lock : HistLock SiteRun Mark) (at : At) (before inside : LaneSeat SiteRun Mark g) (found held : SiteRun) → found ≡ held → HasEntered logged lock at before inside held.run.log
    → is_logged held ≡ logged → EntersSite logged lock at before inside found
found_entered {logged = logged} lock at before inside found held is entered same =
    subst (λ (s : SiteRun). EntersSite logged lock at before inside s) (sym is) (record { has = entered; logged_is = same })

pub found_legal : (found held : SiteRun) → found ≡ held → IsLegalPast held.run.nodes (printed held.run.log) → IsLegalPast found.run.nodes (printed found.run.log)
found_legal found held is legal = subst (λ (s : SiteRun). IsLegalPast s.run.nodes (printed s.run.log)) (sym is) legal

pub found_nodes : (size : ℕ) (found held : SiteRun) → found ≡ held → held.run.nodes ≡ size → found.run.nodes ≡ size
found_nodes size found held is nodes = ap (λ (s : SiteRun). s.run.nodes) is ∙ nodes

-- a seat behind a section is its lane's, whatever is logged
abbrev pub IsLeft : {g : Ghosts SiteRun Mark} → HistLock SiteRun Mark → At → LaneSeat SiteRun Mark g → SiteRun → Type 0
IsLeft lock at after new = (logged : Bool) → FaultsFit logged new.run.log → IsLaneSeat logged lock at.lane.0 after

module _ {g : Ghosts SiteRun Mark} {logged : Bool} (lock : HistLock SiteRun Mark) (command : LineCommand) (at : At) (before inside : LaneSeat SiteRun Mark g) (found new : SiteRun) (entered : EntersSite logged lock at before inside found) where
  goes_here : DoesAtSite command at found new → GoesByLine logged command at found.run.log new.run.log
  goes_here does = subst (λ (b : Bool). GoesByLine b command at found.run.log new.run.log) entered.logged_is does.goes

  -- behind a call of its line a seat may give the lock back, also where it failed and appended nothing
  pub log_extends : {T E : Type 0} (r : Result T E) → OnOk r (DoesAtSite command at found new) → OnErr r (new.run.log ≡ found.run.log) → Extends name_of at.lane.0 (history_seen inside) (reverse new.run.log)
  log_extends r does err =
      subst (λ (h : List Mark). Extends name_of at.lane.0 h (reverse new.run.log)) (sym entered.has.seen)
      (section_extends r logged lock command at before inside found.run.log new.run.log entered.has.inside.first (on_ok_weaker r (λ (d : DoesAtSite command at found new). goes_here d) does) err)

  pub call_extends : {T E : Type 0} (r : Result T E) → OnOk r (DoesAtSite command at found new) → OnErr r (IsEnded found.run new.run) → Extends name_of at.lane.0 (history_seen inside) (reverse new.run.log)
  call_extends r does err = log_extends r does (on_err_weaker r (λ (e : IsEnded found.run new.run). e.log) err)

  -- also where it failed behind some entries
  pub goes_extends : GoesByLine (is_logged found) command at found.run.log new.run.log → Extends name_of at.lane.0 (history_seen inside) (reverse new.run.log)
  goes_extends goes =
      subst (λ (h : List Mark). Extends name_of at.lane.0 h (reverse new.run.log)) (sym entered.has.seen) (line_extends (is_logged found) command at found.run.log new.run.log entered.has.inside.first goes)

  module _ (after : LaneSeat SiteRun Mark g) (left : IsLeft lock at after new) (seen : log_seen after ≡ new.run.log) where
    -- it took its line on
    pub call_takes : (now : Log → Type 0) → DoesAtSite command at found new → now new.run.log → TakesLineTo logged now lock command at before after
    call_takes now does is =
        record { taken = section_taken no_answer logged lock command at before after found.run.log new.run.log entered.has (left logged) seen (goes_here does) does.none does.first; now = subst now (sym seen) is }

    -- it ended its line
    pub call_ends : DoesAtSite command at found new → IsReplied at new.run → EndsItsLine logged lock command at before after
    call_ends does replied = section_ended no_answer logged lock command at before after found.run.log new.run.log entered.has (left logged) seen (goes_here does) does.none does.first replied

    pub on_call_ends : {T E : Type 0} (r : Result T E) → OnOk r (DoesAtSite command at found new) → OnOk r (IsReplied at new.run) → OnOk r (EndsItsLine logged lock command at before after)
    on_call_ends (Ok x) does replied = call_ends does replied
    on_call_ends (Err x) does replied = tt

    pub call_turns : {W : Type 0} (out : W → Log → Type 0) (still : Log → Type 0) (turn : Turn W) → DoesAtSite command at found new → TurnShows out still at new.run turn
        → TurnsLine logged out still lock command at before after turn
    call_turns out still (Work w) does shows = call_takes (out w) does shows
    call_turns out still Done does shows = call_ends does shows
    call_turns out still Busy does shows = call_takes still does shows

    pub on_call_turns : {W E : Type 0} (out : W → Log → Type 0) (still : Log → Type 0) (r : Result (Turn W) E) → OnOk r (DoesAtSite command at found new) → IfOk r (TurnShows out still at new.run)
        → IfOk r (TurnsLine logged out still lock command at before after)
    on_call_turns out still (Ok turn) does shows = call_turns out still turn does shows
    on_call_turns out still (Err x) does shows = tt

-- ---- sections of one line

module _ {g : Ghosts SiteRun Mark} {logged : Bool} (lock : HistLock SiteRun Mark) (command : LineCommand) (at : At) where
  -- nothing was done yet
  pub takes_none : (s : LaneSeat SiteRun Mark g) → IsLaneSeat logged lock at.lane.0 s → (now : Log → Type 0) → now (log_seen s) → TakesLineTo logged now lock command at s s
  takes_none s seat now is = record { taken = record { seat = seat; goes = goes_first logged command at (log_seen s) seat.faults }; now = is }

  pub takes_first : (s : LaneSeat SiteRun Mark g) → IsLaneSeat logged lock at.lane.0 s → entries_of_line at (printed (log_seen s)) ≡ [] → TakesLineTo logged (IsUnbegunIn at) lock command at s s
  takes_first s seat fresh = takes_none s seat (IsUnbegunIn at) fresh

  module _ {P : Log → Type 0} (a b c : LaneSeat SiteRun Mark g) (h : TakesLineTo logged P lock command at a b) where
    pub takes_then : (Q : Log → Type 0) → TakesLineTo logged Q lock command at b c → TakesLineTo logged Q lock command at a c
    takes_then Q k =
        record { taken = record { seat = k.taken.seat; goes = goes_then logged command at (log_seen a) (log_seen b) (log_seen c) h.taken.goes k.taken.goes }; now = k.now }

    pub takes_ends : EndsItsLine logged lock command at b c → EndsItsLine logged lock command at a c
    takes_ends k = record { seat = k.seat; ran = ran_after logged command at (log_seen a) (log_seen b) (log_seen c) h.taken.goes k.ran }

    pub on_takes_ends : {T E : Type 0} (r : Result T E) → OnOk r (EndsItsLine logged lock command at b c) → OnOk r (EndsItsLine logged lock command at a c)
    on_takes_ends (Ok x) k = takes_ends k
    on_takes_ends (Err x) k = tt

-- ---- what is waited for

-- a turn waits only where this is so of what its seat has seen
pub on_waits : {W E : Type 0} (holds : Log → Type 0) (new seen : Log) (r : Result (Turn W) E) → seen ≡ new → IfOk r (WaitsWhere holds new) → IfOk r (WaitsWhere holds seen)
on_waits holds new seen r is h = subst (λ (log : Log). IfOk r (WaitsWhere holds log)) (sym is) h

pub some_there : {X : Type 0} (o : Option X) (P : X → Type 0) → IsSomeAnd o P → IsSome o
some_there None P h = absurd h
some_there (Some x) P h = refl

pub publish_waited : (log : Log) → HasPublish log → HasFlight log
publish_waited log there = inl there

pub commit_waited : (n : ℕ) (log : Log) → HasCommitAt n log → HasFlight log
commit_waited n log there = inr (n, inl there)

pub job_waited : (n : ℕ) (log : Log) → HasJobAt n log → HasFlight log
job_waited n log there = inr (n, inr there)
