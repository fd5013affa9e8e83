-- What a section of a line did whose call may hand out work.
use Rattle.std.specs.Prelude.{◌≡◌, [], Bool}
use Rattle.nrt_base.specs.declared.numbers.At.{At}
use Rattle.history_rules.specs.Lines.{entries_of_line}
use Rattle.history_book.specs.declared.inner.Mark.{Mark}
use Rattle.history_book.specs.Log.{Log, printed}
use Rattle.script_serving.specs.declared.script.LineCommand.{LineCommand}
use Rattle.hist_lock.specs.declared.grows.Grows.{Ghosts}
use Rattle.hist_lock.specs.declared.lock.LaneSeat.{LaneSeat}
use Rattle.hist_lock.specs.declared.lock.HistLock.{HistLock}
use Rattle.lane_threads.specs.Seats.{log_seen, TakesLineOn, EndsItsLine}
use Rattle.cluster_state.specs.declared.turn.Turn.{Turn}
use Rattle.cluster_state.specs.declared.turn.Turn.TheVariants.{Work, Done, Busy}
use Rattle.cluster_state.specs.Run.{Run}
use Rattle.cluster_core.specs.Doing.{IsReplied}
use Rattle.cluster_site.specs.Sites.{SiteRun}

-- a line that never waits
abbrev pub NeverWaits : Log → Type 0
NeverWaits log = ⊥

-- the line has no entry
abbrev pub IsUnbegunIn : At → Log → Type 0
IsUnbegunIn at log = entries_of_line at (printed log) ≡ []

-- what a turn shows of its line
abbrev pub TurnShows : {W : Type 0} → (W → Log → Type 0) → (Log → Type 0) → At → Run → Turn W → Type 0
TurnShows out still at new (Work w) = out w new.log
TurnShows out still at new Done = IsReplied at new
TurnShows out still at new Busy = still new.log

module _ {g : Ghosts SiteRun Mark} where
  -- some of what a line asks for was done, and this is so of the entries that its seat has seen
  pub record TakesLineTo (logged : Bool) (holds : Log → Type 0) (lock : HistLock SiteRun Mark) (command : LineCommand) (at : At) (before after : LaneSeat SiteRun Mark g) : Type 0 where
    pub taken : TakesLineOn logged lock command at before after
    pub now : holds (log_seen after)

  -- work was handed out to a line, of which this is so; or the line was done; or it waits, and is still so
  abbrev pub TurnsLine : {W : Type 0} → Bool → (W → Log → Type 0) → (Log → Type 0) → HistLock SiteRun Mark → LineCommand → At → LaneSeat SiteRun Mark g → LaneSeat SiteRun Mark g → Turn W → Type 0
  TurnsLine logged out still lock command at before after (Work w) = TakesLineTo logged (out w) lock command at before after
  TurnsLine logged out still lock command at before after Done = EndsItsLine logged lock command at before after
  TurnsLine logged out still lock command at before after Busy = TakesLineTo logged still lock command at before after
