-- What the calls of a job leave of its line, and of a settle.
use Rattle.std.proofs.Common.{◌≡◌, ◌≢◌, ◌<◌, ◌≤◌, ◌⊎◌, ◌&&◌, ◌||◌, ◌==◌, ℕ, Bool, true, false, List, [], ◌∷◌, Some, None, Option, length, not, inl, inr, refl, ap, ◌∙◌, sym, subst, if◌then◌else◌, true≢false}
use Rattle.std.specs.Prelude.{Result, Ok, Err, IfOk, OnOk, IsTrue, ◌↔◌, IsSomeAnd}
use Rattle.std.specs.List.{All, AllPairs, Contains}
use Rattle.std.proofs.lemmas.Bool.{eqb-true, eq-eqb, not-false}
use Rattle.std.proofs.lemmas.Option.{same_Some}
use Rattle.std.proofs.Math.Bool.{and-false}
use Rattle.history_tables.proofs.RowLemmas.{same_at_self, refused_closed}
use Rattle.file_deleter.proofs.NameLemmas.{same_self}
use Rattle.disk_model.specs.Disk.{Content, same}
use Rattle.nrt_base.specs.declared.numbers.At.{At}
use Rattle.nrt_base.specs.declared.numbers.NodeNo.{NodeNo}
use Rattle.nrt_base.specs.declared.numbers.Version.{Version}
use Rattle.history_rules.specs.declared.cause.Cause.{Cause}
use Rattle.history_rules.specs.declared.cause.Cause.TheVariants.{Lost, DiskFault}
use Rattle.history_rules.specs.declared.entry.Entry.{Entry}
use Rattle.history_rules.specs.declared.entry.Event.{Event}
use Rattle.history_rules.specs.declared.entry.Event.TheVariants.{Publishing, Copying, Switched, Settling, Opened, Asking, Committing, Fault, Refused}
use Rattle.history_rules.specs.Nodes.{Past, version_of, newest_version, crashes, primary_crashes}
use Rattle.history_rules.specs.Lines.{same_at, is_start, is_reply, is_answered, start_entry, before_start, entries_of_line}
use Rattle.history_rules.specs.Points.{operations_of_generation}
use Rattle.history_rules.specs.Started.{is_lost}
use Rattle.history_tables.specs.declared.jobs.Job.{Job}
use Rattle.history_tables.specs.declared.jobs.JobRow.{JobRow}
use Rattle.history_tables.specs.declared.jobs.JobStep.TheVariants.{Passes}
use Rattle.history_tables.specs.declared.lines.Start.TheVariants.{Searching as SearchStart}
use Rattle.history_tables.specs.declared.lines.BegunLine.{BegunLine}
use Rattle.history_tables.specs.Begins.{begin, begun_by, open_line}
use Rattle.history_tables.specs.JobRows.{row_if_some}
use Rattle.history_book.specs.Log.{Log, printed, shown}
use Rattle.history_book.specs.Jobs.{job_at, job_of}
use Rattle.script_serving.specs.declared.script.LineCommand.TheVariants.{Settle}
use Rattle.cluster_nodes.specs.declared.tasks.CopyTask.{CopyTask}
use Rattle.cluster_nodes.specs.declared.tasks.FileTask.{FileTask}
use Rattle.cluster_nodes.specs.declared.tasks.SettleTask.{SettleTask}
use Rattle.cluster_state.specs.Run.{Run, IsNow}
use Rattle.cluster_state.specs.FilesOut.{file_out, is_by, is_job}
use Rattle.cluster_state.specs.DueFaults.{MeetsFate, fate_cause, with_due}
use Rattle.cluster_state.specs.GivesUp.{met_log}
use Rattle.cluster_state.specs.Copies.{newest_of, IsCopying, JobRuns, HandsFile, JobRefused, ended_log}
use Rattle.cluster_state.proofs.MetLines.{met_start, met_open, met_high, met_job, met_settling, due_start, due_open, due_high, due_job}
use Rattle.cluster_state.specs.Settles.{IsLeft, IsSettling}
use Rattle.cluster_state.specs.declared.standing.Standing.{Standing}
use Rattle.cluster_state.specs.declared.standing.Standing.TheVariants.{Runs, Passed, Ends}
use Rattle.cluster_state.specs.declared.turn.Turn.{Turn}
use Rattle.cluster_state.specs.declared.turn.Turn.TheVariants.{Work, Done, Busy}
use Rattle.cluster_state.specs.CopyCalls.{is_node_lost, overtaken, standing_of, log_after, stopped_log, StopsTurn, JobGoesOn, JobTakes, AreFrom, IsBeingCopied, CopyStarts, CopyStartsWhen, SettleStarts, SettleGoesOn, SettlesOn}
use Rattle.cluster_site.specs.Sites.{SiteRun, DoesAtSite}
use Rattle.cluster_site.specs.Given.{IsReplied, IsRepliedAtDone, IsBegunAtWork}
use Rattle.cluster_site.specs.Flights.{HasFlight, WaitsWhere}
use Rattle.cluster_site.proofs.Sections.{some_there, job_waited}
use Rattle.cluster_site.specs.Turns.{IsUnbegunIn, NeverWaits, TurnShows}
use Rattle.lane_copies.specs.Jobs.{IsJobStart, IsCopyStart, IsCopyingBy, HasFileOut, IsCopyReplied, IsCopiedSomewhere, BeginsCopy, BeginsNextJob, HasBegunToSettle, IsSettlingOn, LeavesJob, LeavesJobAt}

-- ---- the job has no end

has_it : {X : Type 0} (P : X → Type 0) (o : Option X) (x : X) → IsSomeAnd o P → o ≡ Some x → P x
has_it P None x h is = absurd h
has_it P (Some y) x h is = let same : y ≡ x = cc in subst P same h

-- the line copies by the job, since that has no end
pub is_copying : (at : At) (task : CopyTask) (log : Log) (found : Bool) → (IsTrue found ↔ IsSomeAnd (job_of at.lane.0 log) (λ row. row.ended ≡ false)) → found ≡ true → IsCopyingBy at task log
    → IsCopying at log task
is_copying at task log found tells is c =
    record {
      row = c.row;
      last = c.last;
      at_is = c.at_is;
      node = c.node;
      number = c.number;
      line = c.line;
      unended = has_it (λ (row : JobRow). row.ended ≡ false) (job_of at.lane.0 log) c.row (tells.0 is) c.last;
      is_open = c.is_open;
      ordered = c.ordered;
    }

-- ---- where the job stands

-- what is said of a job that was not stopped
pub record IsUnstopped (past : Past) (row : JobRow) : Type 0 where
  pub alone : row.later ≡ None
  pub node : crashes row.job.node.0 past ≡ crashes row.job.node.0 (before_start row.job.at past)
  pub source : primary_crashes past ≡ primary_crashes (before_start row.job.at past)

-- a line that copies by the job is lost where its source is
source_lost : (past start : Past) (n : ℕ) (begun : Event) → IsJobStart n (Some begun) → is_lost past start begun ≡ false → primary_crashes past ≡ primary_crashes start
source_lost past start n (Copying m v) job unlost =
    eqb-true (primary_crashes past) (primary_crashes start) (not-false (primary_crashes past == primary_crashes start) (right_false (not (crashes m.0 past == crashes m.0 start)) (not (primary_crashes past == primary_crashes start)) unlost))
  where
    right_false : (a b : Bool) → (a || b) ≡ false → b ≡ false
    right_false true b is = absurd (true≢false is)
    right_false false b is = is
source_lost past start n (Settling v) job unlost = eqb-true (primary_crashes past) (primary_crashes start) (not-false (primary_crashes past == primary_crashes start) unlost)
source_lost past start n begun job unlost = absurd job

pub unstopped : (begun : Event) (row : JobRow) (log : Log) → IsJobStart row.job.node.0 (Some begun) → stopped_log begun row log ≡ None → IsUnstopped (printed log) row
unstopped begun row log job none = by (is_lost past start begun) refl (is_node_lost past row.job) refl row.later refl
  where
    past : Past
    past = printed log

    start : Past
    start = before_start row.job.at past

    stands : Bool → Bool → Option Version → Standing
    stands lost gone later = if lost then Ends Lost else if gone then Passed else overtaken later

    by : (lost : Bool) → is_lost past start begun ≡ lost → (gone : Bool) → is_node_lost past row.job ≡ gone → (later : Option Version) → row.later ≡ later → IsUnstopped past row
    by true is gone is' later is'' = absurd (cc)
    by false is true is' later is'' = absurd (cc)
    by false is false is' (Some v) is'' = absurd (cc)
    by false is false is' None is'' =
        record {
          alone = is'';
          node = eqb-true (crashes row.job.node.0 past) (crashes row.job.node.0 start) (not-false (crashes row.job.node.0 past == crashes row.job.node.0 start) is');
          source = source_lost past start row.job.node.0 begun job is;
        }

pub runs_of : (at : At) (task : CopyTask) (log : Log) (c : IsCopying at log task) → IsUnstopped (printed log) c.row → JobRuns log c.row
runs_of at task log c u =
    record {
      last = ap (λ (a : At). job_of a.lane.0 log) c.at_is ∙ c.last;
      unended = c.unended;
      alone = u.alone;
      survives = record { node = u.node };
      source = record { source = u.source };
    }

-- ---- a job that was stopped

refused_replied : (at : At) (past : Past) (cause : Cause) → is_answered at (record { at = at; event = Refused cause } ∷ past) ≡ true
refused_replied at past cause = rw (same_at_self at) refl

-- a settle passes a node; a copy is lost with it
passed_settle : (begun : Event) (row : JobRow) (past : Past) → IsJobStart row.job.node.0 (Some begun) → standing_of begun row past ≡ Passed → IsCopyStart (Some begun) → ⊥
passed_settle (Copying n v) row past job is copy = by (is_lost past start (Copying n v)) refl (is_node_lost past row.job) refl
  where
    start : Past
    start = before_start row.job.at past

    gone_there : is_node_lost past row.job ≡ not (crashes n.0 past == crashes n.0 start)
    gone_there = ap (λ (k : ℕ). not (crashes k past == crashes k start)) (sym job)

    left_false : (a b : Bool) → (a || b) ≡ false → a ≡ false
    left_false true b is = absurd (true≢false is)
    left_false false b is = refl

    never : (later : Option Version) → overtaken later ≡ Passed → ⊥
    never None is = absurd (cc)
    never (Some v) is = absurd (cc)

    by : (lost : Bool) → is_lost past start (Copying n v) ≡ lost → (gone : Bool) → is_node_lost past row.job ≡ gone → ⊥
    by true is' gone is'' = absurd (cc)
    by false is' true is'' =
        true≢false (sym is'' ∙ (gone_there ∙ left_false (not (crashes n.0 past == crashes n.0 start)) (not (primary_crashes past == primary_crashes start)) is'))
    by false is' false is'' = let there : overtaken row.later ≡ Passed = cc in never row.later there
passed_settle begun row past job is copy = absurd copy

-- how a line that copies by the job has started
pub record HasStarted (n : ℕ) (at : At) (past : Past) : Type 0 where
  pub begun : Event
  pub start : start_entry at past ≡ Some begun
  pub job : IsJobStart n (Some begun)

pub has_started : (n : ℕ) (at : At) (past : Past) → IsJobStart n (start_entry at past) → HasStarted n at past
has_started n at past job = by (start_entry at past) refl job
  where
    by : (o : Option Event) → start_entry at past ≡ o → IsJobStart n o → HasStarted n at past
    by None is job = absurd job
    by (Some begun) is job = record { begun = begun; start = is; job = job }

-- the log of a job is as before, so that a settle goes on
leaves_same : (at : At) (task : CopyTask) (now : Log → Type 0) (old new : Run) → IsNow old new old.log → now old.log → LeavesJob at task now old new
leaves_same at task now old new same is =
    record {
      start = ap (λ (l : Log). start_entry at (printed l)) same.log;
      settles = λ left settling from line.
          subst (λ (size : ℕ). IsSettling size (printed new.log) at left) (sym same.nodes) (subst (λ (l : Log). IsSettling old.nodes (printed l) at left) (sym same.log) settling);
      now = subst now (sym same.log) is;
    }

module _ (at : At) (task : CopyTask) (old new : Run) (row : JobRow) (mine : row.job.at ≡ at) (node : row.job.node ≡ task.node) (s : HasStarted task.node.0 at (printed old.log)) where
  there : IsJobStart row.job.node.0 (Some s.begun)
  there = subst (λ (n : NodeNo). IsJobStart n.0 (Some s.begun)) (sym node) s.job

  pub stopped_leaves : (log : Log) → stopped_log s.begun row old.log ≡ Some log → IsNow old new log → LeavesJob at task (IsCopyReplied at) old new
  stopped_leaves log is now = by (standing_of s.begun row (printed old.log)) refl is
    where
      by : (st : Standing) → standing_of s.begun row (printed old.log) ≡ st → log_after row.job.at st old.log ≡ Some log → LeavesJob at task (IsCopyReplied at) old new
      by Runs is' after = absurd (cc)
      by Passed is' after =
          let same : IsNow old new old.log = subst (IsNow old new) (sym (same_Some old.log log after)) now in
          leaves_same at task (IsCopyReplied at) old new same
          (λ copy. absurd (passed_settle s.begun row (printed old.log) there is' (subst IsCopyStart s.start copy)))
      by (Ends cause) is' after =
          let refused : new.log ≡ shown at (Refused cause) ∷ old.log =
          now.log ∙ (sym (same_Some (shown row.job.at (Refused cause) ∷ old.log) log after) ∙ ap (λ (a : At). shown a (Refused cause) ∷ old.log) mine) in
          record {
            start = ap (λ (l : Log). start_entry at (printed l)) refused;
            settles = λ left settling from line. absurd (line (ap (λ (l : Log). open_line at (printed l)) refused ∙ refused_closed at (printed old.log) cause));
            now = λ copy. ap (λ (l : Log). is_answered at (printed l)) refused ∙ refused_replied at (printed old.log) cause;
          }

-- ---- a job that goes on

-- the line copies by the job behind the faults of disks that it met
met_copying : (at : At) (task : CopyTask) (old new : Run) → IsCopyingBy at task old.log → IsCopyingBy at task (met_log at old new)
met_copying at task old new c =
    record {
      row = c.row;
      last = met_job at old new at.lane.0 ∙ c.last;
      at_is = c.at_is;
      node = c.node;
      number = c.number;
      line = c.line;
      started = subst (IsJobStart task.node.0) (sym (met_start at old new)) c.started;
      is_open = λ none. c.is_open (sym (met_open at old new) ∙ none);
      ordered = subst (λ (k : ℕ). k < task.node.0) (sym (met_high at old new)) c.ordered;
    }

-- the log of a job is as before but for these faults, so that a settle goes on
leaves_met : (at : At) (task : CopyTask) (now : Log → Type 0) (old new : Run) → IsNow old new (met_log at old new) → now (met_log at old new) → LeavesJob at task now old new
leaves_met at task now old new met is =
    record {
      start = ap (λ (l : Log). start_entry at (printed l)) met.log ∙ met_start at old new;
      settles = λ left settling from line.
          subst (λ (x : ℕ × Log). IsSettling x.0 (printed x.1) at left) (λ i. (sym met.nodes i, sym met.log i)) (met_settling at old new old.nodes left settling);
      now = subst now (sym met.log) is;
    }

-- the line of a job was refused, and the job has ended
refused_leaves : (at : At) (task : CopyTask) (job : Job) (cause : Cause) (old new : Run) → job.at ≡ at → JobRefused job cause old new → LeavesJob at task (IsCopyReplied at) old new
refused_leaves at task job cause old new mine refused =
    let is : printed new.log ≡ record { at = at; event = Refused cause } ∷ printed (met_log at old new) =
    ap printed refused.now.log ∙ ap (λ (a : At). record { at = a; event = Refused cause } ∷ printed (met_log a old new)) mine in
    record {
      start = ap (start_entry at) is ∙ met_start at old new;
      settles = λ left settling from line. absurd (line (ap (open_line at) is ∙ refused_closed at (printed (met_log at old new)) cause));
      now = λ copy. ap (is_answered at) is ∙ refused_replied at (printed (met_log at old new)) cause;
    }

-- behind the faults that a file meets too
due_copying : (at by : At) (task : CopyTask) (n : ℕ) (log : Log) → IsCopyingBy at task log → IsCopyingBy at task (with_due false by n log)
due_copying at by task n log c =
    record {
      row = c.row;
      last = due_job at.lane.0 by n log ∙ c.last;
      at_is = c.at_is;
      node = c.node;
      number = c.number;
      line = c.line;
      started = subst (IsJobStart task.node.0) (sym (due_start at by n log)) c.started;
      is_open = λ none. c.is_open (sym (due_open at by n log) ∙ none);
      ordered = subst (λ (k : ℕ). k < task.node.0) (sym (due_high at by n log)) c.ordered;
    }

hands_copying : (at : At) (task : CopyTask) (job : Job) (old new : Run) (file : FileTask) → job.at ≡ at → IsCopyingBy at task old.log → HandsFile job old new file → IsCopyingBy at task new.log
hands_copying at task job old new file mine c hands =
    let m : IsCopyingBy at task (with_due false job.at job.node.0 (met_log job.at old new)) =
    due_copying at job.at task job.node.0 (met_log job.at old new) (subst (λ (a : At). IsCopyingBy at task (met_log a old new)) (sym mine) (met_copying at task old new c)) in
    subst (IsCopyingBy at task) (sym hands.now.log)
    (record {
      row = m.row;
      last = ap (row_if_some Passes) m.last;
      at_is = m.at_is;
      node = m.node;
      number = m.number;
      line = m.line;
      started = m.started;
      is_open = m.is_open;
      ordered = m.ordered;
    })

is_job_here : (at : At) (task : CopyTask) (job : Job) → job.at ≡ at → job.node ≡ task.node → job.number ≡ task.job → is_job at task.node.0 task.job (Some job.at) job.node.0 job.number ≡ true
is_job_here at task job mine node number =
    let a : is_by at (Some job.at) ≡ true = ap (same_at at) mine ∙ same_at_self at in
    let b : (task.node.0 == job.node.0) ≡ true = eq-eqb task.node.0 job.node.0 (sym (ap (λ (m : NodeNo). m.0) node)) in
    let c : (task.job == job.number) ≡ true = eq-eqb task.job job.number (sym number) in
    rw (a, b, c) refl

handed_out : (at : At) (job : Job) (task : CopyTask) (old new : Run) (file : FileTask) → job.at ≡ at → job.node ≡ task.node → job.number ≡ task.job → HandsFile job old new file
    → file_out at task.node.0 task.job file.name new.log ≡ Some file.source
handed_out at job task old new file mine node number hands =
    let out : Log → Content = file_out at task.node.0 task.job file.name in
    ap out hands.now.log
    ∙ (ap (λ (b : Bool). if b && same file.name file.name then Some file.source else out (with_due false job.at job.node.0 (met_log job.at old new))) (is_job_here at task job mine node number)
    ∙ ap (λ (b : Bool). if b then Some file.source else out (with_due false job.at job.node.0 (met_log job.at old new))) (same_self file.name))

ended_start : (at : At) (job : Job) (begun : Option Event) (log : Log) → start_entry at (printed (ended_log job begun log)) ≡ start_entry at (printed log)
ended_start at job (Some (Copying n v)) log = refl
ended_start at job begun log = refl

ended_reply : (at : At) (job : Job) (begun : Option Event) (log : Log) → job.at ≡ at → IsCopyStart begun → is_answered at (printed (ended_log job begun log)) ≡ true
ended_reply at job (Some (Copying n v)) log mine start = rw (mine, same_at_self at) refl
ended_reply at job begun log mine start = absurd start

-- where a job was stopped its call says so
abbrev pub StopsAt : {W : Type 0} → At → Run → Run → Turn W → Type 0
StopsAt at old new turn = (row : JobRow) (begun : Event) (log : Log) → job_of at.lane.0 old.log ≡ Some row → start_entry at (printed old.log) ≡ Some begun → stopped_log begun row old.log ≡ Some log → StopsTurn log old new turn

module _ (at : At) (task : CopyTask) (old new : Run) (c : IsCopyingBy at task old.log) (copying : IsCopying at old.log task) where
  started : HasStarted task.node.0 at (printed old.log)
  started = has_started task.node.0 at (printed old.log) c.started

  -- the job that no other call stopped runs
  runs : stopped_log started.begun copying.row old.log ≡ None → JobRuns old.log copying.row
  runs none = runs_of at task old.log copying (unstopped started.begun copying.row old.log (there at task old new copying.row copying.at_is copying.node started) none)

  -- a stopped job has ended, whatever its call would have handed out
  stops_here : {W : Type 0} (out : W → Log → Type 0) (turn : Turn W) (log : Log) → stopped_log started.begun copying.row old.log ≡ Some log → StopsAt at old new turn → LeavesJobAt out at task old new turn
  stops_here out turn log is stops =
      let stopped : StopsTurn log old new turn = stops copying.row started.begun log copying.last started.start is in
      subst (LeavesJobAt out at task old new) (sym stopped.0) (stopped_leaves at task old new copying.row copying.at_is copying.node started log is stopped.1)

  start_met : start_entry at (printed (met_log copying.row.job.at old new)) ≡ start_entry at (printed old.log)
  start_met = subst (λ (a : At). start_entry at (printed (met_log a old new)) ≡ start_entry at (printed old.log)) (sym copying.at_is) (met_start at old new)

  pub next_leaves : (turn : Turn FileTask) → ((row : JobRow) → JobRuns old.log row → row.job.at ≡ at → JobGoesOn row.job old new turn) → StopsAt at old new turn
      → ((left : SettleTask) → IsSettling old.nodes (printed old.log) at left → AreFrom task.node left.left.items → SettlesOn at left new) → LeavesJobAt (HasFileOut at task) at task old new turn
  next_leaves turn ok stops settling = by (stopped_log started.begun copying.row old.log) refl
    where
      goes_on : (turn : Turn FileTask) → JobGoesOn copying.row.job old new turn → LeavesJobAt (HasFileOut at task) at task old new turn
      goes_on (Work file) hands = record {
        start = ap (λ (l : Log). start_entry at (printed l)) hands.now.log ∙ (due_start at copying.row.job.at copying.row.job.node.0 (met_log copying.row.job.at old new) ∙ start_met);
        settles = settling;
        now = record {
          copying = hands_copying at task copying.row.job old new file copying.at_is c hands;
          out = handed_out at copying.row.job task old new file copying.at_is copying.node copying.number hands;
          met = subst (λ (z : At × NodeNo). MeetsFate file.fate z.0 z.1.0 (printed new.log)) (λ i. (copying.at_is i, copying.node i)) hands.met;
          meta = hands.meta;
          footer = hands.footer;
        };
      }
      goes_on Done (inl ends) =
          let begun : Option Event = start_entry copying.row.job.at (printed old.log) in
          let met : Log = met_log copying.row.job.at old new in
          let same : start_entry at (printed new.log) ≡ start_entry at (printed old.log) =
          ap (λ (l : Log). start_entry at (printed l)) ends.log ∙ (ended_start at copying.row.job begun met ∙ start_met) in
          record {
            start = same;
            settles = settling;
            now = λ copy. ap (λ (l : Log). is_answered at (printed l)) ends.log
                ∙ ended_reply at copying.row.job begun met copying.at_is
                (subst IsCopyStart (same ∙ ap (λ (a : At). start_entry a (printed old.log)) (sym copying.at_is)) copy);
          }
      goes_on Done (inr refused) = refused_leaves at task copying.row.job DiskFault old new copying.at_is refused
      goes_on Busy ends = absurd ends

      by : (o : Option Log) → stopped_log started.begun copying.row old.log ≡ o → LeavesJobAt (HasFileOut at task) at task old new turn
      by (Some log) is = stops_here (HasFileOut at task) turn log is stops
      by None is = goes_on turn (ok copying.row (runs is) copying.at_is)

  pub take_leaves : (file : FileTask) (turn : Turn (Unit {0})) → ((row : JobRow) → JobRuns old.log row → row.job.at ≡ at → JobTakes row.job file old new turn) → StopsAt at old new turn
      → LeavesJobAt (λ taken. IsCopyingBy at task) at task old new turn
  take_leaves file turn ok stops = by (stopped_log started.begun copying.row old.log) refl
    where
      goes_on : (turn : Turn (Unit {0})) → JobTakes copying.row.job file old new turn → LeavesJobAt (λ taken. IsCopyingBy at task) at task old new turn
      goes_on (Work done) takes =
          leaves_met at task (IsCopyingBy at task) old new (subst (λ (a : At). IsNow old new (met_log a old new)) copying.at_is takes.1) (met_copying at task old new c)
      goes_on Done refused = refused_leaves at task copying.row.job (fate_cause file.fate file.name) old new copying.at_is refused
      goes_on Busy takes = absurd takes

      by : (o : Option Log) → stopped_log started.begun copying.row old.log ≡ o → LeavesJobAt (λ taken. IsCopyingBy at task) at task old new turn
      by (Some log) is = stops_here (λ taken. IsCopyingBy at task) turn log is stops
      by None is = goes_on turn (ok copying.row (runs is) copying.at_is)

-- ---- a settle

closed_mine : (x : Event) (past : Past) (at : At) → (start_entry at past ≢ None → open_line at past ≡ None → is_answered at past ≡ true)
    → (if is_start x && true then Some x else start_entry at past) ≢ None → begun_by x (length past) (length (operations_of_generation past)) (open_line at past) ≡ None
    → ((is_reply x && true) || is_answered at past) ≡ true
closed_mine Publishing past at was start closed = absurd (cc)
closed_mine (Copying n v) past at was start closed = absurd (cc)
closed_mine (Settling v) past at was start closed = absurd (cc)
closed_mine (Asking n t v) past at was start closed = absurd (cc)
closed_mine (Committing n v) past at was start closed = absurd (cc)
closed_mine (Opened n t v) past at was start closed = opens (t.0 == 0) closed
  where
    opens : (z : Bool) → begin (if z then Some (SearchStart n v) else None) (length past) (length (operations_of_generation past)) ≡ None → ((not z && true) || is_answered at past) ≡ true
    opens true closed = absurd (cc)
    opens false closed = refl
closed_mine (Switched n v) past at was start closed = was start closed
closed_mine (Fault n k) past at was start closed = was start closed
closed_mine x past at was start closed = refl

closed_step : (e : Entry) (past : Past) (at : At) (s : Bool) → (start_entry at past ≢ None → open_line at past ≡ None → is_answered at past ≡ true)
    → (if is_start e.event && s then Some e.event else start_entry at past) ≢ None
    → (if s then begun_by e.event (length past) (length (operations_of_generation past)) (open_line at past) else open_line at past) ≡ None
    → ((is_reply e.event && s) || is_answered at past) ≡ true
closed_step e past at true was start closed = closed_mine e.event past at was start closed
closed_step e past at false was start closed =
    ap (λ (b : Bool). b || is_answered at past) (and-false (is_reply e.event))
    ∙ was (subst (λ (b : Bool). (if b then Some e.event else start_entry at past) ≢ None) (and-false (is_start e.event)) start) closed

-- a line that has started and is not open has its reply
pub closed_replied : (at : At) (past : Past) → start_entry at past ≢ None → open_line at past ≡ None → is_answered at past ≡ true
closed_replied at [] start closed = absurd (start refl)
closed_replied at (e ∷ past) start closed = closed_step e past at (same_at e.at at) (closed_replied at past) start closed

begins_copying : (at : At) (task : CopyTask) (log : Log) → IsJobStart task.node.0 (start_entry at (printed log)) → IsCopying at log task → IsCopyingBy at task log
begins_copying at task log started c =
    record {
      row = c.row;
      last = c.last;
      at_is = c.at_is;
      node = c.node;
      number = c.number;
      line = c.line;
      started = started;
      is_open = c.is_open;
      ordered = c.ordered;
    }

-- a settle has as much left as its copy
pub settle_copied : (size : ℕ) (past : Past) (at : At) (left copy : SettleTask) → copy.version ≡ left.version → copy.left.items ≡ left.left.items → IsSettling size past at left → IsSettling size past at copy
settle_copied size past at left copy version nodes s =
    let both : (left.version, left.left.items) ≡ (copy.version, copy.left.items) = (λ i. (sym version i, sym nodes i)) in
    record {
      started = subst (λ (v : Version). start_entry at past ≡ Some (Settling v)) (sym version) s.started;
      is_open = s.is_open;
      left = subst (λ (x : Version × List NodeNo). All (IsLeft size past at x.0.0) x.1) both s.left;
      ascending = subst (λ (ns : List NodeNo). AllPairs (λ m n. m.0 < n.0) ns) (sym nodes) s.ascending;
      reached = λ n node replica survives.
          subst (λ (x : Version × List NodeNo). Contains x.1 n ⊎ (x.0.0 ≤ version_of n.0 past)) both (s.reached n node replica survives);
    }

-- what the next step of a settle shows
pub begins_shows : (at : At) (old new : Run) (left : SettleTask) (task : CopyTask) → SettleGoesOn at old new left (Work task) → BeginsNextJob new.nodes at left task new.log
begins_shows at old new left task goes =
    record {
      copying = begins_copying at task new.log (subst (IsJobStart task.node.0) (sym goes.1.started) tt) goes.0.copying;
      settling = goes.1;
      first = goes.2.first;
    }

pub waits_shows : (at : At) (old new : Run) (left next : SettleTask) → IsSettling old.nodes (printed old.log) at left → SettleGoesOn at old new next Busy → IsSettlingOn new.nodes at left new.log
waits_shows at old new left next s goes = subst (λ (r : Run). IsSettling r.nodes (printed r.log) at left) (sym goes.0) s

-- a line that copies is what others wait for
pub copied_waited : (n : ℕ) (log : Log) → IsBeingCopied log n → HasFlight log
copied_waited n log copied = job_waited n log (some_there (job_at n log) (λ (job : Job). job.version.0 ≡ newest_version (printed log)) copied)

-- where it waits a job for the newest version runs at a node
pub settle_held : (at : At) (old new : Run) (left : SettleTask) → SettleGoesOn at old new left Busy → IsCopiedSomewhere new.log
settle_held at old new left goes = subst (λ (r : Run). IsCopiedSomewhere r.log) (sym goes.0) (goes.1.0, goes.1.2)

-- ---- starts

-- where it waits a job for the newest version runs there
pub copy_waits : (at : At) (n : NodeNo) (old new : Run) (turn : Turn CopyTask) → CopyStarts at n old new turn → CopyStartsWhen at n old.log turn → WaitsWhere (λ log. IsBeingCopied log n.0) new.log turn
copy_waits at n old new (Work task) starts when = tt
copy_waits at n old new Done starts when = tt
copy_waits at n old new Busy starts when = subst (λ (r : Run). IsBeingCopied r.log n.0) (sym starts.0) when.1

pub copy_shows : (at : At) (n : NodeNo) (old new : Run) (turn : Turn CopyTask) → entries_of_line at (printed old.log) ≡ [] → CopyStarts at n old new turn → IsRepliedAtDone at new turn
    → IsBegunAtWork at (λ task. Copying n (newest_of (printed old.log))) new turn → TurnShows (BeginsCopy at n) (IsUnbegunIn at) at new turn
copy_shows at n old new (Work task) fresh starts replied begun =
    let start : start_entry at (printed new.log) ≡ Some (Copying n (newest_of (printed old.log))) =
    ap (λ (l : Log). start_entry at (printed l)) starts.now.log
    ∙ ap (λ (b : Bool). if b then Some (Copying n (newest_of (printed old.log))) else start_entry at (printed (met_log at old new))) (same_at_self at) in
    record {
      copying = begins_copying at task new.log (subst (IsJobStart task.node.0) (sym start) (sym (ap (λ (m : NodeNo). m.0) starts.node))) starts.copying;
      version = newest_of (printed old.log);
      started = start;
    }
copy_shows at n old new Done fresh starts replied begun = replied
copy_shows at n old new Busy fresh starts replied begun = subst (λ (r : Run). entries_of_line at (printed r.log) ≡ []) (sym starts.0) fresh

pub settle_starts : (size : ℕ) (at : At) (old new : Run) (turn : Turn SettleTask) → new.nodes ≡ size → SettleStarts at old new turn → IsRepliedAtDone at new turn
    → TurnShows (IsSettlingOn size at) NeverWaits at new turn
settle_starts size at old new (Work left) nodes starts replied = subst (λ (k : ℕ). IsSettling k (printed new.log) at left) nodes starts.1
settle_starts size at old new Done nodes starts replied = replied
settle_starts size at old new Busy nodes starts replied = absurd starts

-- ---- answers of calls

module _ {E : Type 0} (at : At) (task : CopyTask) (old new : Run) (c : IsCopyingBy at task old.log) (copying : IsCopying at old.log task) where
  pub on_next_leaves : (r : Result (Turn FileTask) E) → IfOk r (λ turn. (row : JobRow) → JobRuns old.log row → row.job.at ≡ at → JobGoesOn row.job old new turn) → IfOk r (λ turn. StopsAt at old new turn)
      → ((left : SettleTask) → IsSettling old.nodes (printed old.log) at left → AreFrom task.node left.left.items → OnOk r (SettlesOn at left new)) → IfOk r (LeavesJobAt (HasFileOut at task) at task old new)
  on_next_leaves (Ok turn) ok stops settling = next_leaves at task old new c copying turn ok stops settling
  on_next_leaves (Err x) ok stops settling = tt

  pub on_take_leaves : (file : FileTask) (r : Result (Turn (Unit {0})) E) → IfOk r (λ turn. (row : JobRow) → JobRuns old.log row → row.job.at ≡ at → JobTakes row.job file old new turn) → IfOk r (λ turn. StopsAt at old new turn)
      → IfOk r (LeavesJobAt (λ taken. IsCopyingBy at task) at task old new)
  on_take_leaves file (Ok turn) ok stops = take_leaves at task old new c copying file turn ok stops
  on_take_leaves file (Err x) ok stops = tt

-- a settle that is not open has its reply
pub closed_settle : (at : At) (r : Run) (left : SettleTask) (found : Bool) → (IsTrue found ↔ (open_line at (printed r.log) ≢ None)) → found ≡ false → HasBegunToSettle at left r.log → IsReplied at r
closed_settle at r left found tells is begun =
    closed_replied at (printed r.log) (λ none. let some : Some (Settling left.version) ≡ None = sym begun ∙ none in absurd (cc)) (by (open_line at (printed r.log)) refl)
  where
    by : (o : Option BegunLine) → open_line at (printed r.log) ≡ o → o ≡ None
    by None is' = refl
    by (Some b) is' = absurd (true≢false (sym (tells.1 (λ none. let some : Some b ≡ None = sym is' ∙ none in cc)) ∙ is))

pub on_settle_starts : {E : Type 0} (size : ℕ) (at : At) (found new : SiteRun) (r : Result (Turn SettleTask) E) → found.run.nodes ≡ size → OnOk r (DoesAtSite Settle at found new) → IfOk r (SettleStarts at found.run new.run)
    → IfOk r (IsRepliedAtDone at new.run) → IfOk r (TurnShows (IsSettlingOn size at) NeverWaits at new.run)
on_settle_starts size at found new (Ok turn) nodes does starts replied = settle_starts size at found.run new.run turn (does.nodes ∙ nodes) starts replied
on_settle_starts size at found new (Err x) nodes does starts replied = tt

pub on_next_job : {E : Type 0} (size : ℕ) (at : At) (left : SettleTask) (found new : SiteRun) (r : Result (Turn CopyTask) E) → found.run.nodes ≡ size → OnOk r (DoesAtSite Settle at found new)
    → IfOk r (TurnShows (BeginsNextJob new.run.nodes at left) (IsSettlingOn new.run.nodes at left) at new.run) → IfOk r (TurnShows (BeginsNextJob size at left) (IsSettlingOn size at left) at new.run)
on_next_job size at left found new (Ok turn) nodes does shows =
    subst (λ (k : ℕ). TurnShows (BeginsNextJob k at left) (IsSettlingOn k at left) at new.run turn) (does.nodes ∙ nodes) shows
on_next_job size at left found new (Err x) nodes does shows = tt
