-- What each row of copies and settles does for its line, from the entries that it adds.
use Rattle.std.proofs.Common.{◌≡◌, ◌≢◌, ◌<◌, ◌==◌, ℕ, Bool, true, false, [], ◌∷◌, Some, None, Option, refl, ap, ◌∙◌, sym, subst, if◌then◌else◌, inl, inr}
use Rattle.std.specs.Prelude.{⊤, IfOk, OnOk, Result, Ok, Err}
use Rattle.std.specs.declared.alloc.AllocError.{AllocError}
use Rattle.std.proofs.lemmas.Option.{same_Some}
use Rattle.nrt_base.specs.declared.numbers.At.{At}
use Rattle.nrt_base.specs.declared.numbers.NodeNo.{NodeNo}
use Rattle.nrt_base.specs.declared.numbers.Version.{Version}
use Rattle.disk_model.specs.Disk.{Name}
use Rattle.history_rules.specs.declared.cause.Cause.{Cause}
use Rattle.history_rules.specs.declared.cause.Cause.TheVariants.{Lost, DiskFault}
use Rattle.history_rules.specs.declared.entry.Event.{Event}
use Rattle.history_rules.specs.declared.entry.Event.TheVariants.{Copying, Switched, Copied, Settling, Settled, Refused}
use Rattle.history_rules.specs.Nodes.{Past, version_of, newest_version}
use Rattle.history_rules.specs.Lines.{is_answered, last_of_line, start_entry, before_start, highest_switched}
use Rattle.history_rules.specs.Legal.{IsLegalPast}
use Rattle.history_rules.specs.Started.{is_lost}
use Rattle.history_tables.specs.declared.jobs.Job.{Job}
use Rattle.history_tables.specs.declared.jobs.JobRow.{JobRow}
use Rattle.history_tables.specs.Begins.{open_line}
use Rattle.history_tables.proofs.RowLemmas.{same_at_self}
use Rattle.history_book.specs.Laws.{IsFresh}
use Rattle.history_book.specs.Log.{Log, printed, shown, kept}
use Rattle.history_book.specs.Jobs.{StartsJob}
use Rattle.history_book.specs.Turns.{AreInTurn}
use Rattle.link_model.specs.declared.fate.Fate.{Fate}
use Rattle.link_model.specs.declared.fate.Fate.TheVariants.{Whole, Fail, Damage}
use Rattle.history_book.specs.declared.inner.Inner.TheVariants.{JobBegun, FileOut, JobEnd}
use Rattle.history_book.proofs.FreshLaws.{open_unanswered}
use Rattle.script_serving.specs.declared.script.LineCommand.{LineCommand}
use Rattle.script_serving.specs.declared.script.LineCommand.TheVariants.{Copy, Settle}
use Rattle.script_serving.specs.Refusals.{refusal, is_copy_cause}
use Rattle.script_serving.specs.Serves.{First, Follows, Suits}
use Rattle.cluster_state.specs.Given.{CopyTask, FileTask, SettleTask}
use Rattle.cluster_state.specs.Run.{Run, IsNow}
use Rattle.cluster_state.specs.DueFaults.{fate_cause, with_due}
use Rattle.cluster_state.specs.GivesUp.{met_log}
use Rattle.cluster_state.specs.Copies.{newest_of, GoesOn, JobRefused, ended_log}
use Rattle.cluster_state.specs.Settles.{IsSettling}
use Rattle.cluster_state.specs.declared.standing.Standing.{Standing}
use Rattle.cluster_state.specs.declared.standing.Standing.TheVariants.{Runs, Passed, Ends}
use Rattle.cluster_state.specs.declared.turn.Turn.{Turn}
use Rattle.cluster_state.specs.declared.turn.Turn.TheVariants.{Work, Done, Busy}
use Rattle.lane_threads.specs.Owes.{SuitsOrFault}
use Rattle.cluster_core.specs.Doing.{Does, IsReplied, IsRepliedAtDone, IsBegunAtWork}
use Rattle.cluster_state.specs.CopyCalls.{CopiesFor, copying_log, CopyEnds, CopyAnswered, CopyStarts, CopyStartsWhen, is_node_lost, overtaken, standing_of, log_after, IsOpenJob, stopped_log, JobSteps, PartArrives, SettleStarts, settle_end_event, SettleGoesOn}
use Rattle.cluster_core.proofs.Does.{does_was, runs_in, one_does, none_does, first_suits, refused_does, one_replied, lost_reply, refused_for_does, refused_for_replied, begun_by}
use Rattle.cluster_core.proofs.MetDoes.{Meets, meets_none, met_here, behind_does, one_behind, none_behind, first_behind, later_behind, begun_behind, top_replied, meets_over_due}
use Rattle.cluster_copies.proofs.CopyRows.{copy_newest, started_newest}

-- ---- copy starts

copy_adds : (at : At) (n : NodeNo) (old : Run) (log : Log) → Meets false (Copy n) at old.log log → IsFresh at (printed old.log) → refusal (Copy n) at.lane.0 (printed old.log) ≡ None
    → SuitsOrFault (Copy n) at (printed log) (Copying n (newest_of (printed old.log)))
copy_adds at n old log m fresh is =
    first_behind (Copy n) at old.log log (Copying n (newest_of (printed old.log))) m fresh
    (subst (λ (r : Option Cause). First (Copy n) at (printed log) r (Copying n (newest_of (printed old.log)))) (sym is) refl)

open_copied : (at : At) (n : NodeNo) (v : Version) (past : Past) → is_answered at past ≡ false → SuitsOrFault (Copy n) at (record { at = at; event = Copying n v } ∷ past) (Copied n v)
open_copied at n v past unanswered = rw (same_at_self at) (unanswered, refl)

open_failed : (at : At) (n : NodeNo) (v : Version) (past : Past) → is_answered at past ≡ false → SuitsOrFault (Copy n) at (record { at = at; event = Copying n v } ∷ past) (Refused DiskFault)
open_failed at n v past unanswered = rw (same_at_self at) (unanswered, refl)

copy_ends : (at : At) (n : NodeNo) (old new : Run) (newest : Bool) → refusal (Copy n) at.lane.0 (printed old.log) ≡ None → IsFresh at (printed old.log) → CopyEnds newest at n old new → Does (Copy n) at old new
copy_ends at n old new true is fresh now =
    let v : Version = newest_of (printed old.log) in
    let m : Meets false (Copy n) at old.log old.log = meets_none false (Copy n) at old.log refl fresh.replied in
    behind_does (Copy n) at old new (shown at (Copied n v) ∷ shown at (Copying n v) ∷ []) old.log m now (refl, open_copied at n v (printed old.log) fresh.replied, (refl, copy_adds at n old old.log m fresh is, tt))
copy_ends at n old new false is fresh fails =
    let v : Version = newest_of (printed old.log) in
    let m : Meets false (Copy n) at old.log (met_log at old new) = met_here (Copy n) at old new fresh.replied in
    behind_does (Copy n) at old new (shown at (Refused DiskFault) ∷ shown at (Copying n v) ∷ []) (met_log at old new) m fails.now
    (refl, open_failed at n v (printed (met_log at old new)) m.unanswered, (refl, copy_adds at n old (met_log at old new) m fresh is, tt))

copy_answered : (at : At) (n : NodeNo) (old new : Run) (o : Option Cause) → refusal (Copy n) at.lane.0 (printed old.log) ≡ o → IsFresh at (printed old.log) → CopyAnswered at n o old new → Does (Copy n) at old new
copy_answered at n old new (Some cause) is fresh answered = refused_does (Copy n) at old new cause fresh is answered
copy_answered at n old new None is fresh answered = copy_ends at n old new (version_of n.0 (printed old.log) == newest_version (printed old.log)) is fresh answered

pub copy_does : (at : At) (n : NodeNo) (old new : Run) (turn : Turn CopyTask) → old.ended ≡ false → IsFresh at (printed old.log) → CopyStarts at n old new turn → CopyStartsWhen at n old.log turn → Does (Copy n) at old new
copy_does at n old new (Work task) running fresh starts exact =
    let m : Meets false (Copy n) at old.log (met_log at old new) = met_here (Copy n) at old new fresh.replied in
    behind_does (Copy n) at old new (kept (JobBegun at.line n task.job (Some (newest_of (printed old.log))) (Some at)) ∷ shown at (Copying n (newest_of (printed old.log))) ∷ []) (met_log at old new) m starts.now
    (inl refl, (refl, copy_adds at n old (met_log at old new) m fresh exact.0.unrefused, tt))
copy_does at n old new Done running fresh starts exact = copy_answered at n old new (refusal (Copy n) at.lane.0 (printed old.log)) refl fresh starts
copy_does at n old new Busy running fresh starts exact =
    none_does (Copy n) at old new (subst (λ (r : Run). IsNow old r old.log) (sym starts.0) (record { running = running; nodes = refl; log = refl }))

pub copy_done : (at : At) (n : NodeNo) (s r new : Run) (result : Result (Turn CopyTask) AllocError) → s ≡ r → s.ended ≡ false → IsFresh at (printed s.log) → IfOk result (CopyStarts at n s new)
    → IfOk result (CopyStartsWhen at n s.log) → OnOk result (Does (Copy n) at r new)
copy_done at n s r new (Ok turn) is running fresh starts exact =
    does_was (Copy n) at s r new is (copy_does at n s new turn running fresh starts exact)
copy_done at n s r new (Err e) is running fresh starts exact = tt

ends_replied : (at : At) (n : NodeNo) (old new : Run) (newest : Bool) → CopyEnds newest at n old new → IsReplied at new
ends_replied at n old new true now = top_replied at new (Copied n (newest_of (printed old.log))) (shown at (Copying n (newest_of (printed old.log))) ∷ old.log) refl now.log
ends_replied at n old new false fails = top_replied at new (Refused DiskFault) (copying_log at n old new) refl fails.now.log

answered_replied : (at : At) (n : NodeNo) (old new : Run) (o : Option Cause) → CopyAnswered at n o old new → IsReplied at new
answered_replied at n old new (Some cause) answered = one_replied at old new (Refused cause) refl answered
answered_replied at n old new None answered = ends_replied at n old new (version_of n.0 (printed old.log) == newest_version (printed old.log)) answered

pub copy_replied : (at : At) (n : NodeNo) (old new : Run) (turn : Turn CopyTask) → CopyStarts at n old new turn → IsRepliedAtDone at new turn
copy_replied at n old new (Work task) starts = tt
copy_replied at n old new Done starts = answered_replied at n old new (refusal (Copy n) at.lane.0 (printed old.log)) starts
copy_replied at n old new Busy starts = tt

pub copy_begun : (at : At) (n : NodeNo) (old new : Run) (turn : Turn CopyTask) → IsFresh at (printed old.log) → CopyStarts at n old new turn
    → IsBegunAtWork at (λ task. Copying n (newest_of (printed old.log))) new turn
copy_begun at n old new (Work task) fresh starts =
    begun_behind (Copy n) at old.log (met_log at old new) new (Copying n (newest_of (printed old.log))) (met_here (Copy n) at old new fresh.replied) refl (rw (same_at_self at) refl) (ap printed starts.now.log)
copy_begun at n old new Done fresh starts = tt
copy_begun at n old new Busy fresh starts = tt

-- ---- a job goes on

-- what follows the newest entry of a line suits it
follows_suits : (command : LineCommand) (at : At) (past : Past) (e : Event) (o : Option Event) → last_of_line at past ≡ o → o ≢ None → is_answered at past ≡ false
    → ((last : Event) → last_of_line at past ≡ Some last → Follows command last e) → Suits command at past (last_of_line at past) e
follows_suits command at past e None is some unanswered follows = absurd (some refl)
follows_suits command at past e (Some last) is some unanswered follows = subst (λ (l : Option Event). Suits command at past l e) (sym is) (unanswered, follows last is)

-- a line that has started, and is open, is followed by what suits it
module _ (at : At) (size : ℕ) (log : Log) (begun : Event) (legal : IsLegalPast size (printed log)) (turns : AreInTurn (printed log)) (start : start_entry at (printed log) ≡ Some begun)
    (line : open_line at (printed log) ≢ None) where
  unanswered : is_answered at (printed log) ≡ false
  unanswered = open_unanswered at (printed log) turns line

  suits_after : (command : LineCommand) (e : Event) → ((last : Event) → last_of_line at (printed log) ≡ Some last → Follows command last e) → Suits command at (printed log) (last_of_line at (printed log)) e
  suits_after command e follows =
      follows_suits command at (printed log) e (last_of_line at (printed log)) refl (started_newest (printed log) at begun start) unanswered follows

late_copy : (command : LineCommand) (begun last : Event) (cause : Cause) → CopiesFor command (Some begun) → is_copy_cause cause ≡ true → Follows command last (Refused cause)
late_copy (Copy n) begun last cause copies late = late
late_copy Settle begun last cause copies late = late
late_copy command begun last cause copies late = absurd copies

-- where a line of a job is refused, it is for a cause of copies
abbrev IsLate : Standing → Type 0
IsLate (Ends cause) = is_copy_cause cause ≡ true
IsLate standing = ⊤

late_overtaken : (later : Option Version) → IsLate (overtaken later)
late_overtaken None = tt
late_overtaken (Some v) = refl

late_standing : (lost left : Bool) (later : Option Version) → IsLate (if lost then Ends Lost else if left then Passed else overtaken later)
late_standing true left later = refl
late_standing false true later = tt
late_standing false false later = late_overtaken later

node_is : (m n : NodeNo) → m.0 ≡ n.0 → m ≡ n
node_is m n is = ap (λ (k : ℕ). the_node k) is
  where
    the_node : ℕ → NodeNo
    the_node k = record { 0 = k }

module _ (job : Job) (later : Option Version) (size : ℕ) (old new : Run) (begun : Event) (legal : IsLegalPast size (printed old.log)) (turns : AreInTurn (printed old.log))
    (start : start_entry job.at (printed old.log) ≡ Some begun) (line : open_line job.at (printed old.log) ≢ None) where
  late_does : (command : LineCommand) (cause : Cause) → CopiesFor command (Some begun) → is_copy_cause cause ≡ true → IsNow old new (shown job.at (Refused cause) ∷ old.log) → Does command job.at old new
  late_does command cause copies late now =
      one_does command job.at old new (Refused cause) now (suits_after job.at size old.log begun legal turns start line command (Refused cause) (λ last is. late_copy command begun last cause copies late))

  stops_does : (command : LineCommand) (standing : Standing) (log : Log) → CopiesFor command (Some begun) → IsLate standing → log_after job.at standing old.log ≡ Some log → IsNow old new log → Does command job.at old new
  stops_does command Runs log copies late is now = absurd (cc)
  stops_does command Passed log copies late is now = none_does command job.at old new (subst (IsNow old new) (sym (same_Some old.log log is)) now)
  stops_does command (Ends cause) log copies late is now = late_does command cause copies late (subst (IsNow old new) (sym (same_Some (shown job.at (Refused cause) ∷ old.log) log is)) now)

  abbrev met : Log
  met = met_log job.at old new

  meets : (command : LineCommand) → Meets false command job.at old.log met
  meets command = met_here command job.at old new (unanswered job.at size old.log begun legal turns start line)

  -- what follows the newest entry of the line, behind the faults that it met
  suits_met : (command : LineCommand) (e : Event) → ((last : Event) → last_of_line job.at (printed old.log) ≡ Some last → Follows command last e) → Suits command job.at (printed met) (last_of_line job.at (printed met)) e
  suits_met command e follows = by (last_of_line job.at (printed old.log)) refl
    where
      by : (o : Option Event) → last_of_line job.at (printed old.log) ≡ o → Suits command job.at (printed met) (last_of_line job.at (printed met)) e
      by None is = absurd (started_newest (printed old.log) job.at begun start is)
      by (Some last) is = later_behind command job.at old.log met last e (meets command) is (follows last is)

  handed_does : (command : LineCommand) (file : FileTask) → GoesOn job old new (Some file) → Does command job.at old new
  handed_does command file goes =
      behind_does command job.at old new (kept (FileOut job.at.line job.node job.number file.name file.source file.fate (Some job.at)) ∷ []) (with_due false job.at job.node.0 met)
      (meets_over_due false command job.at old.log job.node.0 met (meets command)) goes.now (inl refl, tt)

  -- the line was refused, and the job has ended
  failed_does : (command : LineCommand) (cause : Cause) → CopiesFor command (Some begun) → is_copy_cause cause ≡ true → JobRefused job cause old new → Does command job.at old new
  failed_does command cause copies late refused =
      behind_does command job.at old new (kept (JobEnd job.at.line job.node job.number) ∷ shown job.at (Refused cause) ∷ []) met (meets command) refused.now
      (inr refl, (refl, suits_met command (Refused cause) (λ last is. late_copy command begun last cause copies late), tt))

  switched_copied : (m n : NodeNo) (v : Version) → n ≡ m → SuitsOrFault (Copy m) job.at (record { at = job.at; event = Switched job.node job.version } ∷ printed met) (Copied n v)
  switched_copied m n v same = rw (same_at_self job.at) ((meets (Copy m)).unanswered, same)

  ended_does : (command : LineCommand) (e : Event) → begun ≡ e → CopiesFor command (Some e) → StartsJob (before_start job.at (printed old.log)) job.node.0 job.version.0 (Some e)
      → highest_switched job.at (printed old.log) < job.node.0 → IsNow old new (ended_log job (Some e) met) → Does command job.at old new
  ended_does (Copy m) (Copying n v) is copies starts high now =
      let same : n ≡ job.node = node_is n job.node starts.0 in
      let newest : last_of_line job.at (printed old.log) ≡ Some (Copying n v) =
      copy_newest size (printed old.log) job.at n v legal (start ∙ ap Some is) line (subst (λ (k : NodeNo). highest_switched job.at (printed old.log) < k.0) (sym same) high) in
      behind_does (Copy m) job.at old new (kept (JobEnd job.at.line job.node job.number) ∷ shown job.at (Copied n v) ∷ shown job.at (Switched job.node job.version) ∷ []) met (meets (Copy m)) now (
        inr refl,
        (
          refl,
          switched_copied m n v copies,
          (refl, later_behind (Copy m) job.at old.log met (Copying n v) (Switched job.node job.version) (meets (Copy m)) newest (sym same ∙ copies), tt),
        ),
      )
  ended_does Settle (Settling w) is copies starts high now =
      behind_does Settle job.at old new (kept (JobEnd job.at.line job.node job.number) ∷ shown job.at (Switched job.node job.version) ∷ []) met (meets Settle) now
      (inr refl, (refl, suits_met Settle (Switched job.node job.version) (λ last is. tt), tt))
  ended_does command e is copies starts high now = absurd copies

-- a job that goes on, or was stopped
pub goes_does : (command : LineCommand) (row : JobRow) (size : ℕ) (old new : Run) (begun : Event) (turn : Turn FileTask) → IsLegalPast size (printed old.log) → AreInTurn (printed old.log)
    → start_entry row.job.at (printed old.log) ≡ Some begun → open_line row.job.at (printed old.log) ≢ None → highest_switched row.job.at (printed old.log) < row.job.node.0
    → StartsJob (before_start row.job.at (printed old.log)) row.job.node.0 row.job.version.0 (Some begun) → CopiesFor command (Some begun)
    → JobSteps (stopped_log begun row old.log) row.job old new turn → Does command row.job.at old new
goes_does command row size old new begun turn legal turns start line high starts copies goes = by (stopped_log begun row old.log) refl turn goes
  where
    by : (o : Option Log) → stopped_log begun row old.log ≡ o → (turn : Turn FileTask) → JobSteps o row.job old new turn → Does command row.job.at old new
    by (Some log) is turn goes =
        stops_does row.job row.later size old new begun legal turns start line command (standing_of begun row (printed old.log)) log copies
        (late_standing (is_lost (printed old.log) (before_start row.job.at (printed old.log)) begun) (is_node_lost (printed old.log) row.job) row.later) is goes.1
    by None is (Work file) goes = handed_does row.job row.later size old new begun legal turns start line command file goes
    by None is Done (inl ends) =
        ended_does row.job row.later size old new begun legal turns start line command begun refl copies starts high (subst (λ (o : Option Event). IsNow old new (ended_log row.job o (met_log row.job.at old new))) start ends)
    by None is Done (inr refused) = failed_does row.job row.later size old new begun legal turns start line command DiskFault copies refl refused
    by None is Busy goes = absurd goes

-- where a file does not come in, its line is refused for a cause of copies
late_fate : (fate : Fate) (name : Name) → is_copy_cause (fate_cause fate name) ≡ true
late_fate Whole name = refl
late_fate Fail name = refl
late_fate (Damage byte) name = refl

pub arrives_does : (command : LineCommand) (row : JobRow) (file : FileTask) (size : ℕ) (old new : Run) (begun : Event) (turn : Turn (Unit {0})) → IsLegalPast size (printed old.log) → AreInTurn (printed old.log)
    → start_entry row.job.at (printed old.log) ≡ Some begun → open_line row.job.at (printed old.log) ≢ None → CopiesFor command (Some begun)
    → PartArrives row.job file (stopped_log begun row old.log) old new turn → Does command row.job.at old new
arrives_does command row file size old new begun turn legal turns start line copies arrives = by (stopped_log begun row old.log) refl turn arrives
  where
    by : (o : Option Log) → stopped_log begun row old.log ≡ o → (turn : Turn (Unit {0})) → PartArrives row.job file o old new turn → Does command row.job.at old new
    by (Some log) is turn arrives =
        stops_does row.job row.later size old new begun legal turns start line command (standing_of begun row (printed old.log)) log copies
        (late_standing (is_lost (printed old.log) (before_start row.job.at (printed old.log)) begun) (is_node_lost (printed old.log) row.job) row.later) is arrives.1
    by None is (Work done) arrives =
        none_behind command row.job.at old new (met_log row.job.at old new) (meets row.job row.later size old new begun legal turns start line command) arrives.1
    by None is Done arrives = failed_does row.job row.later size old new begun legal turns start line command (fate_cause file.fate file.name) copies (late_fate file.fate file.name) arrives
    by None is Busy arrives = absurd arrives

-- ---- settles

pub settle_does : (at : At) (old new : Run) (turn : Turn SettleTask) → IsFresh at (printed old.log) → SettleStarts at old new turn → Does Settle at old new
settle_does at old new (Work task) fresh starts =
    one_does Settle at old new (Settling (newest_of (printed old.log))) starts.0
    (first_suits Settle at (printed old.log) (Settling (newest_of (printed old.log))) fresh
    (subst (λ (r : Option Cause). First Settle at (printed old.log) r (Settling (newest_of (printed old.log)))) (sym starts.2) tt))
settle_does at old new Done fresh starts = refused_for_does Settle at old new (refusal Settle at.lane.0 (printed old.log)) fresh refl starts
settle_does at old new Busy fresh starts = absurd starts

pub settle_replied : (at : At) (old new : Run) (turn : Turn SettleTask) → SettleStarts at old new turn → IsRepliedAtDone at new turn
settle_replied at old new (Work task) starts = tt
settle_replied at old new Done starts = refused_for_replied at old new (refusal Settle at.lane.0 (printed old.log)) starts
settle_replied at old new Busy starts = tt

pub settle_begun : (at : At) (old new : Run) (turn : Turn SettleTask) → IsFresh at (printed old.log) → SettleStarts at old new turn → IsBegunAtWork at (λ task. Settling (newest_of (printed old.log))) new turn
settle_begun at old new (Work task) fresh starts =
    begun_by at old new (Settling (newest_of (printed old.log))) refl (rw (same_at_self at) refl) fresh (ap printed starts.0.log)
settle_begun at old new Done fresh starts = tt
settle_begun at old new Busy fresh starts = tt

settle_end : (at : At) (size : ℕ) (v : Version) (lost : Bool) (old new : Run) (begun : Event) → IsLegalPast size (printed old.log) → AreInTurn (printed old.log)
    → start_entry at (printed old.log) ≡ Some begun → open_line at (printed old.log) ≢ None → IsNow old new (shown at (if lost then Refused Lost else Settled v) ∷ old.log) → Does Settle at old new
settle_end at size v true old new begun legal turns start line now =
    one_does Settle at old new (Refused Lost) now (suits_after at size old.log begun legal turns start line Settle (Refused Lost) (λ last is. refl))
settle_end at size v false old new begun legal turns start line now =
    one_does Settle at old new (Settled v) now (suits_after at size old.log begun legal turns start line Settle (Settled v) (λ last is. tt))

pub settled_does : (at : At) (size : ℕ) (left : SettleTask) (old new : Run) (begun : Event) (turn : Turn CopyTask) → old.ended ≡ false → IsLegalPast size (printed old.log) → AreInTurn (printed old.log)
    → start_entry at (printed old.log) ≡ Some begun → open_line at (printed old.log) ≢ None → SettleGoesOn at old new left turn → Does Settle at old new
settled_does at size left old new begun turn running legal turns start line = by turn
  where
    m : Meets false Settle at old.log (met_log at old new)
    m = met_here Settle at old new (unanswered at size old.log begun legal turns start line)

    failed : (o : Option Event) → last_of_line at (printed old.log) ≡ o → Suits Settle at (printed (met_log at old new)) (last_of_line at (printed (met_log at old new))) (Refused DiskFault)
    failed None is = absurd (started_newest (printed old.log) at begun start is)
    failed (Some last) is = later_behind Settle at old.log (met_log at old new) last (Refused DiskFault) m is refl

    by : (turn : Turn CopyTask) → SettleGoesOn at old new left turn → Does Settle at old new
    by (Work job) goes =
        behind_does Settle at old new (kept (JobBegun at.line job.node job.job (Some (newest_of (printed old.log))) (Some at)) ∷ []) (met_log at old new) m goes.0.now (inl refl, tt)
    by Done (inl ends) =
        settle_end at size left.version (is_lost (printed old.log) (before_start at (printed old.log)) (Settling left.version)) old new begun legal turns start line
        (subst (λ (e : Event). IsNow old new (shown at e ∷ old.log)) ends.2 ends.1)
    by Done (inr fails) = one_behind Settle at old new (Refused DiskFault) (met_log at old new) m fails.begins.now (failed (last_of_line at (printed old.log)) refl)
    by Busy goes = none_does Settle at old new (subst (λ (r : Run). IsNow old r old.log) (sym goes.0) (record { running = running; nodes = refl; log = refl }))

pub settled_replied : (at : At) (left : SettleTask) (old new : Run) (turn : Turn CopyTask) → SettleGoesOn at old new left turn → IsRepliedAtDone at new turn
settled_replied at left old new (Work job) goes = tt
settled_replied at left old new Done (inl ends) =
    one_replied at old new (settle_end_event at left.version (printed old.log)) (lost_reply (is_lost (printed old.log) (before_start at (printed old.log)) (Settling left.version)) (Settled left.version) refl)
    (subst (λ (e : Event). IsNow old new (shown at e ∷ old.log)) ends.2 ends.1)
settled_replied at left old new Done (inr fails) = top_replied at new (Refused DiskFault) (met_log at old new) refl fails.begins.now.log
settled_replied at left old new Busy goes = tt

-- ---- in the terms of a call, whose cluster has this state

pub next_done : (command : LineCommand) (at : At) (row : JobRow) (size : ℕ) (s r new : Run) (l : Log) (result : Result (Turn FileTask) AllocError) → s ≡ r → l ≡ s.log → row.job.at ≡ at → IsOpenJob s.log row
    → IsLegalPast size (printed s.log) → AreInTurn (printed s.log) → StartsJob (before_start row.job.at (printed l)) row.job.node.0 row.job.version.0 (start_entry row.job.at (printed l))
    → IfOk result (λ turn. (begun : Event) → start_entry row.job.at (printed s.log) ≡ Some begun → JobSteps (stopped_log begun row s.log) row.job s new turn)
    → CopiesFor command (start_entry at (printed r.log)) → OnOk result (Does command at r new)
next_done command at row size s r new l (Err e) view same at_is job legal turns starts ok copies = tt
next_done command at row size s r new l (Ok turn) view same at_is job legal turns starts ok copies =
    does_was command at s r new view (subst (λ (a : At). Does command a s new) at_is
    (by (start_entry row.job.at (printed s.log)) refl (subst (λ (x : Log). StartsJob (before_start row.job.at (printed x)) row.job.node.0 row.job.version.0 (start_entry row.job.at (printed x))) same starts)
    (copies_in command at row.job.at s r view at_is copies)))
  where
    copies_in : (command : LineCommand) (at a : At) (s r : Run) → s ≡ r → a ≡ at → CopiesFor command (start_entry at (printed r.log)) → CopiesFor command (start_entry a (printed s.log))
    copies_in command at a s r view at_is copies = subst (λ (x : Run × At). CopiesFor command (start_entry x.1 (printed x.0.log))) (λ i. (sym view i, sym at_is i)) copies

    by : (o : Option Event) → start_entry row.job.at (printed s.log) ≡ o → StartsJob (before_start row.job.at (printed s.log)) row.job.node.0 row.job.version.0 o → CopiesFor command o → Does command row.job.at s new
    by None is starts copies = absurd starts
    by (Some begun) is starts copies = goes_does command row size s new begun turn legal turns is job.is_open job.ordered starts copies (ok begun is)

pub arrived_done : (command : LineCommand) (at : At) (row : JobRow) (file : FileTask) (size : ℕ) (s r new : Run) (result : Result (Turn (Unit {0})) AllocError) → s ≡ r → row.job.at ≡ at → IsOpenJob s.log row
    → IsLegalPast size (printed s.log) → AreInTurn (printed s.log)
    → IfOk result (λ turn. (begun : Event) → start_entry row.job.at (printed s.log) ≡ Some begun → PartArrives row.job file (stopped_log begun row s.log) s new turn)
    → CopiesFor command (start_entry at (printed r.log)) → OnOk result (Does command at r new)
arrived_done command at row file size s r new (Err e) view at_is job legal turns ok copies = tt
arrived_done command at row file size s r new (Ok turn) view at_is job legal turns ok copies =
    does_was command at s r new view (subst (λ (a : At). Does command a s new) at_is
    (by (start_entry row.job.at (printed s.log)) refl (subst (λ (x : Run × At). CopiesFor command (start_entry x.1 (printed x.0.log))) (λ i. (sym view i, sym at_is i)) copies)))
  where
    uncopied : (command : LineCommand) → CopiesFor command None → ⊥
    uncopied (Copy n) copies = copies
    uncopied Settle copies = copies
    uncopied command copies = copies

    by : (o : Option Event) → start_entry row.job.at (printed s.log) ≡ o → CopiesFor command o → Does command row.job.at s new
    by None is copies = absurd (uncopied command copies)
    by (Some begun) is copies = arrives_does command row file size s new begun turn legal turns is job.is_open copies (ok begun is)

pub settle_done : (at : At) (size : ℕ) (old left : SettleTask) (s r new : Run) (result : Result (Turn CopyTask) AllocError) → s ≡ r → r.ended ≡ false → IsSettling r.nodes (printed r.log) at old
    → IsLegalPast size (printed s.log) → AreInTurn (printed s.log) → IfOk result (SettleGoesOn at s new left) → OnOk result (Does Settle at r new)
settle_done at size old left s r new (Err e) view running settling legal turns ok = tt
settle_done at size old left s r new (Ok turn) view running settling legal turns ok =
    let here = subst (λ (x : Run). IsSettling x.nodes (printed x.log) at old) (sym view) settling in
    does_was Settle at s r new view (settled_does at size left s new (Settling old.version) turn (runs_in s r view running) legal turns here.started here.is_open ok)

-- a line with a job asked for copies
pub copies_asked : (at : At) (row : JobRow) (s r : Run) (l : Log) → s ≡ r → l ≡ s.log → row.job.at ≡ at
    → StartsJob (before_start row.job.at (printed l)) row.job.node.0 row.job.version.0 (start_entry row.job.at (printed l)) → (command : LineCommand) × CopiesFor command (start_entry at (printed r.log))
copies_asked at row s r l view same at_is starts =
    subst (λ (x : Log × At). (command : LineCommand) × CopiesFor command (start_entry x.1 (printed x.0))) (λ i. ((same ∙ ap (λ (z : Run). z.log) view) i, at_is i)) (by (start_entry row.job.at (printed l)) starts)
  where
    by : (o : Option Event) → StartsJob (before_start row.job.at (printed l)) row.job.node.0 row.job.version.0 o → (command : LineCommand) × CopiesFor command o
    by None starts = absurd starts
    by (Some (Copying m w)) starts = (Copy m, refl)
    by (Some (Settling w)) starts = (Settle, tt)
    by (Some e) starts = absurd starts
