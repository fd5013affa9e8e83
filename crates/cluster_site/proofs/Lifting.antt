-- What calls that are owed without a log do where there is one: while nothing is due to be accepted again, they do as much.
use Rattle.std.proofs.Common.{◌≡◌, ◌∷◌, ◌++◌, ℕ, Bool, true, false, List, [], Option, Some, None, refl, ap, ◌∙◌, sym, subst, drop}
use Rattle.std.specs.Prelude.{is_some}
use Rattle.std.proofs.lemmas.Bool.{false≢true, true≢false}
use Rattle.nrt_base.specs.declared.numbers.At.{At}
use Rattle.nrt_base.specs.declared.numbers.Gen.{Gen}
use Rattle.nrt_base.specs.declared.numbers.NodeNo.{NodeNo}
use Rattle.nrt_base.specs.declared.numbers.Version.{Version}
use Rattle.documents.specs.declared.operation.Op.{Op}
use Rattle.history_rules.specs.declared.cause.Cause.{Cause}
use Rattle.history_rules.specs.declared.entry.Event.{Event}
use Rattle.history_rules.specs.declared.entry.Event.TheVariants.{Accepted, Copying, Promoted, Refused, Fault as Met}
use Rattle.history_rules.specs.Nodes.{Past}
use Rattle.history_rules.specs.Lines.{last_of_line}
use Rattle.script_serving.specs.declared.script.LineCommand.{LineCommand}
use Rattle.script_serving.specs.declared.script.LineCommand.TheVariants.{Put, Delete, Drop, Publish, Merge, Copy, Promote}
use Rattle.script_serving.specs.Refusals.{refusal}
use Rattle.script_serving.specs.Replays.{logged_operations, replay_due}
use Rattle.script_serving.specs.Serves.{Begins, First, Follows, Suits}
use Rattle.history_book.specs.declared.inner.Mark.TheVariants.{Shown, TaskFault, Kept}
use Rattle.history_book.specs.Log.{Log, printed, FollowsMerging}
use Rattle.lane_threads.specs.Owes.{SuitsOrFault, SuitsOrReplays, AddsEntries, GoesByLine, AddsByTask, GoesByTask}
use Rattle.lane_threads.proofs.IdleLemmas.{is_publish, is_merge}
use Rattle.trans_log.specs.declared.record.LogOp.{LogOp}
use Rattle.cluster_site.specs.Sites.{AreLogged, IsInStep}

-- a line that asks for this begins a generation
abbrev pub is_promotion : LineCommand → Bool
is_promotion (Promote n force) = true
is_promotion command = false

-- a line that asks for this accepts no operation, and begins no generation: nothing of it is logged
abbrev pub is_unlogged : LineCommand → Bool
is_unlogged (Put doc) = false
is_unlogged (Delete key) = false
is_unlogged (Drop word) = false
is_unlogged (Promote n force) = false
is_unlogged command = true

-- nor does it publish or merge
abbrev pub is_quiet : LineCommand → Bool
is_quiet Publish = false
is_quiet (Merge factor) = false
is_quiet command = is_unlogged command

pub quiet_unlogged : (command : LineCommand) → is_quiet command ≡ true → is_unlogged command ≡ true
quiet_unlogged Publish quiet = refl
quiet_unlogged (Merge factor) quiet = refl
quiet_unlogged command quiet = quiet

pub quiet_apart : (command : LineCommand) → is_quiet command ≡ true → is_publish command ≡ false
quiet_apart Publish quiet = absurd (false≢true quiet)
quiet_apart command quiet = refl

pub quiet_unmerged : (command : LineCommand) → is_quiet command ≡ true → is_merge command ≡ false
quiet_unmerged (Merge factor) quiet = absurd (false≢true quiet)
quiet_unmerged command quiet = refl

unlogged_unpromoted : (command : LineCommand) → is_unlogged command ≡ true → is_promotion command ≡ false
unlogged_unpromoted (Promote n force) quiet = absurd (false≢true quiet)
unlogged_unpromoted command quiet = refl

-- ---- one entry

no_accept : (command : LineCommand) (past : Past) (seq : ℕ) (op : Op) → is_unlogged command ≡ true → Begins command past (Accepted seq op) → ⊥
no_accept (Put doc) past seq op quiet h = false≢true quiet
no_accept (Delete key) past seq op quiet h = false≢true quiet
no_accept (Drop word) past seq op quiet h = false≢true quiet
no_accept command past seq op quiet h = h

no_promotion : (command : LineCommand) (past : Past) (n : NodeNo) (g : Gen) (f v : Version) → is_promotion command ≡ false → Begins command past (Promoted n g f v) → ⊥
no_promotion (Promote m force) past n g f v other h = true≢false other
no_promotion command past n g f v other h = h

no_late_promotion : (command : LineCommand) (last : Event) (n : NodeNo) (g : Gen) (f v : Version) → Follows command last (Promoted n g f v) → ⊥
no_late_promotion (Copy m) (Copying k w) n g f v h = h
no_late_promotion (Copy m) last n g f v h = h
no_late_promotion command last n g f v h = h

no_late_accept : (command : LineCommand) (last : Event) (seq : ℕ) (op : Op) → Follows command last (Accepted seq op) → ⊥
no_late_accept (Copy m) (Copying k w) seq op h = h
no_late_accept (Copy m) last seq op h = h
no_late_accept command last seq op h = h

promoted_unrefused : (n : NodeNo) (g : Gen) (f v : Version) (cause : Cause) → ◌≡◌ {A = Event} (Promoted n g f v) (Refused cause) → ⊥
promoted_unrefused n g f v cause is = absurd (cc)

accepted_unrefused : (seq : ℕ) (op : Op) (cause : Cause) → ◌≡◌ {A = Event} (Accepted seq op) (Refused cause) → ⊥
accepted_unrefused seq op cause is = absurd (cc)

module _ (command : LineCommand) (at a : At) (past : Past) where
  -- nothing is due behind an entry of a line that promotes nothing
  unpromoted_first : is_promotion command ≡ false → replay_due past ≡ [] → (o : Option Cause) (e : Event) → First command at past o e → replay_due (record { at = a; event = e } ∷ past) ≡ []
  unpromoted_first other none (Some cause) (Promoted n g f v) h = absurd (promoted_unrefused n g f v cause h)
  unpromoted_first other none None (Promoted n g f v) h = absurd (no_promotion command past n g f v other h)
  unpromoted_first other none o (Accepted seq op) h = ap (drop 1) none
  unpromoted_first other none o e h = none

  unpromoted_suits : is_promotion command ≡ false → replay_due past ≡ [] → (o : Option Event) (e : Event) → Suits command at past o e → replay_due (record { at = a; event = e } ∷ past) ≡ []
  unpromoted_suits other none None e suits = unpromoted_first other none (refusal command at.lane.0 past) e suits
  unpromoted_suits other none (Some last) (Promoted n g f v) suits = absurd (no_late_promotion command last n g f v suits.1)
  unpromoted_suits other none (Some last) (Accepted seq op) suits = ap (drop 1) none
  unpromoted_suits other none (Some last) e suits = none

  none_due : is_promotion command ≡ false → replay_due past ≡ [] → (e : Event) → SuitsOrFault command at past e → replay_due (record { at = a; event = e } ∷ past) ≡ []
  none_due other none (Met n kind) suits = none
  none_due other none e suits = unpromoted_suits other none (last_of_line at past) e suits

  -- an entry of a quiet line leaves what is logged
  quiet_first : is_unlogged command ≡ true → (o : Option Cause) (e : Event) → First command at past o e → logged_operations (record { at = a; event = e } ∷ past) ≡ logged_operations past
  quiet_first quiet (Some cause) (Accepted seq op) h = absurd (accepted_unrefused seq op cause h)
  quiet_first quiet None (Accepted seq op) h = absurd (no_accept command past seq op quiet h)
  quiet_first quiet o e h = refl

  quiet_suits : is_unlogged command ≡ true → (o : Option Event) (e : Event) → Suits command at past o e → logged_operations (record { at = a; event = e } ∷ past) ≡ logged_operations past
  quiet_suits quiet None e suits = quiet_first quiet (refusal command at.lane.0 past) e suits
  quiet_suits quiet (Some last) (Accepted seq op) suits = absurd (no_late_accept command last seq op suits.1)
  quiet_suits quiet (Some last) e suits = refl

  same_logged : is_unlogged command ≡ true → (e : Event) → SuitsOrFault command at past e → logged_operations (record { at = a; event = e } ∷ past) ≡ logged_operations past
  same_logged quiet (Met n kind) suits = refl
  same_logged quiet e suits = quiet_suits quiet (last_of_line at past) e suits

-- so does a fault of a merge's task
fault_due : (a : At) (past : Past) (e : Event) → FollowsMerging a e past → replay_due (record { at = a; event = e } ∷ past) ≡ replay_due past
fault_due a past (Met n kind) follows = refl
fault_due a past e follows = absurd follows

fault_logged : (a : At) (past : Past) (e : Event) → FollowsMerging a e past → logged_operations (record { at = a; event = e } ∷ past) ≡ logged_operations past
fault_logged a past (Met n kind) follows = refl
fault_logged a past e follows = absurd follows

-- ---- the entries of a call

-- a call of a line that promotes nothing
line_adds : (command : LineCommand) (at : At) (more old : Log) → is_promotion command ≡ false → replay_due (printed old) ≡ [] → AddsEntries false command at more old
    → AddsEntries true command at more old × (replay_due (printed (more ++ old)) ≡ [])
line_adds command at [] old other none h = (tt, none)
line_adds command at (Shown e ∷ more) old other none h =
    let rest = line_adds command at more old other none h.2 in
    let past : Past = printed (more ++ old) in (
      (h.0, subst (λ (ops : List Op). SuitsOrReplays ops command at past e.event) (sym rest.1) h.1, rest.0),
      none_due command at e.at past other rest.1 e.event h.1,
    )
line_adds command at (TaskFault e ∷ more) old other none h =
    let rest = line_adds command at more old other none h.2 in
    ((h.0, rest.1, rest.0), fault_due e.at (printed (more ++ old)) e.event h.0 ∙ rest.1)
line_adds command at (Kept i ∷ more) old other none h = let rest = line_adds command at more old other none h.1 in ((h.0, rest.0), rest.1)

-- a quiet one
quiet_logged : (command : LineCommand) (at : At) (more old : Log) → is_unlogged command ≡ true → AddsEntries false command at more old → logged_operations (printed (more ++ old)) ≡ logged_operations (printed old)
quiet_logged command at [] old quiet h = refl
quiet_logged command at (Shown e ∷ more) old quiet h = same_logged command at e.at (printed (more ++ old)) quiet e.event h.1 ∙ quiet_logged command at more old quiet h.2
quiet_logged command at (TaskFault e ∷ more) old quiet h = fault_logged e.at (printed (more ++ old)) e.event h.0 ∙ quiet_logged command at more old quiet h.2
quiet_logged command at (Kept i ∷ more) old quiet h = quiet_logged command at more old quiet h.1

-- a call of a task
task_adds : (seat : ℕ) (more old : Log) → replay_due (printed old) ≡ [] → AddsByTask false seat more old → AddsByTask true seat more old × (replay_due (printed (more ++ old)) ≡ [])
task_adds seat [] old none h = (tt, none)
task_adds seat (Shown e ∷ more) old none h = absurd h
task_adds seat (TaskFault e ∷ more) old none h =
    let rest = task_adds seat more old none h.2 in ((h.0, rest.1, rest.0), fault_due e.at (printed (more ++ old)) e.event h.0 ∙ rest.1)
task_adds seat (Kept i ∷ more) old none h = let rest = task_adds seat more old none h.1 in ((h.0, rest.0), rest.1)

task_logged : (seat : ℕ) (more old : Log) → AddsByTask false seat more old → logged_operations (printed (more ++ old)) ≡ logged_operations (printed old)
task_logged seat [] old h = refl
task_logged seat (Shown e ∷ more) old h = absurd h
task_logged seat (TaskFault e ∷ more) old h = fault_logged e.at (printed (more ++ old)) e.event h.0 ∙ task_logged seat more old h.2
task_logged seat (Kept i ∷ more) old h = task_logged seat more old h.1

-- ---- whether there is a log or none

still_logged : (records : List LogOp) (more old new : Log) → new ≡ more ++ old → logged_operations (printed (more ++ old)) ≡ logged_operations (printed old) → replay_due (printed (more ++ old)) ≡ []
    → AreLogged records (printed old) → AreLogged records (printed new)
still_logged records more old new is logged none was =
    subst (λ (l : Log). AreLogged records (printed l)) (sym is) (record { operations = was.operations ∙ sym logged; replayed = none })

-- a call of a line that promotes nothing goes on as the line may where operations are logged
pub line_goes : (kept : Option (List LogOp)) (command : LineCommand) (at : At) (old new : Log) → is_promotion command ≡ false → IsInStep kept (printed old) → GoesByLine false command at old new
    → GoesByLine (is_some kept) command at old new
line_goes None command at old new other step goes = goes
line_goes (Some records) command at old new other step goes =
    record { more = goes.more; log = goes.log; adds = (line_adds command at goes.more old other step.replayed goes.adds).0 }

-- a quiet one leaves the log in step too
pub quiet_goes : (kept : Option (List LogOp)) (command : LineCommand) (at : At) (old new : Log) → is_unlogged command ≡ true → IsInStep kept (printed old) → GoesByLine false command at old new
    → GoesByLine (is_some kept) command at old new × IsInStep kept (printed new)
quiet_goes None command at old new quiet step goes = (goes, tt)
quiet_goes (Some records) command at old new quiet step goes =
    let lifted = line_adds command at goes.more old (unlogged_unpromoted command quiet) step.replayed goes.adds in
    (record { more = goes.more; log = goes.log; adds = lifted.0 }, still_logged records goes.more old new goes.log (quiet_logged command at goes.more old quiet goes.adds) lifted.1 step)

-- so does one of a task
pub task_goes : (kept : Option (List LogOp)) (seat : ℕ) (old new : Log) → IsInStep kept (printed old) → GoesByTask false seat old new
    → GoesByTask (is_some kept) seat old new × IsInStep kept (printed new)
task_goes None seat old new step goes = (goes, tt)
task_goes (Some records) seat old new step goes =
    let lifted = task_adds seat goes.more old step.replayed goes.adds in
    (record { more = goes.more; log = goes.log; adds = lifted.0 }, still_logged records goes.more old new goes.log (task_logged seat goes.more old goes.adds) lifted.1 step)
