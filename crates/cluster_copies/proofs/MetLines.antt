-- What the words of a line and of a job are behind faults of disks, and the rule of a line that one of these refuses.
use Rattle.std.proofs.Common.{◌≡◌, ◌≢◌, ◌≤◌, ◌<◌, ◌==◌, ◌||◌, ◌&&◌, nat_lt, nat_le, ℕ, Bool, true, false, true≢false, List, [], ◌∷◌, ◌⊎◌, inr, Some, None, Option, refl, map, ap, ◌∙◌, sym, subst, arith}
use Rattle.std.specs.Prelude.{not, ⊤}
use Rattle.std.specs.List.{Contains}
use Rattle.std.proofs.lemmas.List.Elements.{All-weaker}
use Rattle.std.proofs.lemmas.Bool.{eq-eqb, eqb-true, or_from, or_right}
use Rattle.std.proofs.lemmas.Bool.Decides.{nat_tests}
use Rattle.nrt_base.specs.declared.numbers.At.{At}
use Rattle.nrt_base.specs.declared.numbers.NodeNo.{NodeNo}
use Rattle.nrt_base.specs.declared.numbers.Version.{Version}
use Rattle.history_rules.specs.declared.cause.FaultKind.{FaultKind}
use Rattle.history_rules.specs.declared.cause.Cause.{Cause}
use Rattle.history_rules.specs.declared.cause.Cause.TheVariants.{DiskFault}
use Rattle.history_rules.specs.declared.entry.Event.{Event}
use Rattle.history_rules.specs.declared.entry.Event.TheVariants.{Copying, Settling, Fault, Refused}
use Rattle.history_rules.specs.Nodes.{Past, IsNode, IsReplica, is_at, is_running, primary_of, primary_crashes, crashes, generation_of, newest_version, version_of}
use Rattle.history_rules.specs.Lines.{same_at, start_entry, before_start, is_answered, highest_switched, has_switched, NodeSurvives, SourceSurvives}
use Rattle.history_rules.specs.Started.{is_node_of, is_source_of, is_lost, is_copy}
use Rattle.history_rules.specs.Faults.{has_fault, has_file_fault, fails_now, is_of_disk}
use Rattle.history_rules.specs.Rules.{MayRefuseLine, IsLineWhole}
use Rattle.history_rules.specs.Commits.{is_passed}
use Rattle.history_rules.specs.Legal.{KeepsRule, IsLegalPast}
use Rattle.history_rules.proofs.FaultLaws.{both}
use Rattle.history_rules.proofs.PassedLaws.{stays_unpassed}
use Rattle.history_tables.specs.declared.jobs.Job.{Job}
use Rattle.history_tables.specs.declared.jobs.JobRow.{JobRow}
use Rattle.history_tables.specs.JobRows.{while_going}
use Rattle.history_tables.specs.Begins.{open_line}
use Rattle.history_book.specs.Log.{Log, printed}
use Rattle.history_book.specs.Jobs.{last_job, job_at, job_of, IsOlder, StartsJob, IsCancelled, LaneJobShows}
use Rattle.history_book.specs.Turns.{InTurn, IsUnbegun}
use Rattle.history_book.proofs.JobLaws.{source_runs}
use Rattle.history_book.proofs.ReignLaws.{reigns_on}
use Rattle.cluster_state.specs.FilesOut.{file_out}
use Rattle.cluster_nodes.specs.declared.tasks.CopyTask.{CopyTask}
use Rattle.cluster_nodes.specs.declared.tasks.SettleTask.{SettleTask}
use Rattle.cluster_state.specs.declared.turn.Turn.TheVariants.{Work}
use Rattle.cluster_state.specs.Run.{Run}
use Rattle.cluster_state.specs.Copies.{JobRuns, BeginsJob}
use Rattle.cluster_state.specs.CopyCalls.{SettleWaits, IsNotBeingCopied, SettleGoesOn}
use Rattle.cluster_state.specs.GivesUp.{met_log}
use Rattle.cluster_state.specs.Settles.{IsLeft, IsSettling, WaitsFor}
use Rattle.cluster_state.specs.Met.{fault_by, failures_by_plan, with_met, has_risen}
use Rattle.cluster_state.proofs.Faulted.{met_has, met_keeps}
use Rattle.cluster_state.proofs.Planned.{met_there}
use Rattle.cluster_state.proofs.MetFails.{fails_behind}
use Rattle.cluster_state.proofs.Turning.{later_turn}
use Rattle.cluster_copies.proofs.CopyRows.{unlost, unswitched_job}

-- ---- words

-- behind the one log the words of a line, of all nodes and of their jobs are those behind the other
pub record SameWords (at : At) (log now : Log) : Type 0 where
  pub begun : start_entry at (printed now) ≡ start_entry at (printed log)
  pub before : before_start at (printed now) ≡ before_start at (printed log)
  pub answered : is_answered at (printed now) ≡ is_answered at (printed log)
  pub line : open_line at (printed now) ≡ open_line at (printed log)
  pub switched : highest_switched at (printed now) ≡ highest_switched at (printed log)
  pub primary : primary_of (printed now) ≡ primary_of (printed log)
  pub fallen : primary_crashes (printed now) ≡ primary_crashes (printed log)
  pub generation : generation_of (printed now) ≡ generation_of (printed log)
  pub newest : newest_version (printed now) ≡ newest_version (printed log)
  pub running : (n : ℕ) → is_running n (printed now) ≡ is_running n (printed log)
  pub crashed : (n : ℕ) → crashes n (printed now) ≡ crashes n (printed log)
  pub version : (n : ℕ) → version_of n (printed now) ≡ version_of n (printed log)
  pub job : (n : ℕ) → job_at n now ≡ job_at n log
  pub last : (lane : ℕ) → job_of lane now ≡ job_of lane log
  pub file : (n number : ℕ) (q : List ℕ) → file_out at n number q now ≡ file_out at n number q log

-- the job at a node is no other behind a fault
going_on : (n : ℕ) (past : Past) (at : At) (m : NodeNo) (kind : FaultKind) (o : Option JobRow) → while_going n (record { at = at; event = Fault m kind } ∷ past) o ≡ while_going n past o
going_on n past at m kind None = refl
going_on n past at m kind (Some row) = refl

pub same_words : (at : At) (log : Log) → SameWords at log log
same_words at log = record {
  begun = refl;
  before = refl;
  answered = refl;
  line = refl;
  switched = refl;
  primary = refl;
  fallen = refl;
  generation = refl;
  newest = refl;
  running = λ n. refl;
  crashed = λ n. refl;
  version = λ n. refl;
  job = λ n. refl;
  last = λ lane. refl;
  file = λ n number q. refl;
}

-- so they are behind one fault more
pub fault_words : (at by : At) (log : Log) (n : ℕ) (kind : FaultKind) (l : Log) → SameWords at log l → SameWords at log (fault_by false by n kind ∷ l)
fault_words at by log n kind l is = record {
  begun = is.begun;
  before = is.before;
  answered = is.answered;
  line = both (same_at by at) (open_line at (printed l)) ∙ is.line;
  switched = both (same_at by at) (highest_switched at (printed l)) ∙ is.switched;
  primary = is.primary;
  fallen = is.fallen;
  generation = is.generation;
  newest = is.newest;
  running = is.running;
  crashed = is.crashed;
  version = is.version;
  job = λ m. going_on m (printed l) by (record { 0 = n }) kind (last_job false m l) ∙ is.job m;
  last = is.last;
  file = is.file;
}

-- so they are behind faults of disks
pub met_words : (at by : At) (olds news : List (ℕ × ℕ)) (log : Log) → SameWords at log (with_met false by 1 olds news log)
met_words at by olds news log = met_has (SameWords at log) false by (λ n kind l is. fault_words at by log n kind l is) 1 olds news log (same_words at log)

-- ---- what rests on these

module _ (at : At) (log now : Log) (w : SameWords at log now) where
  pub unbegun_still : IsUnbegun at (printed log) → IsUnbegun at (printed now)
  unbegun_still is = record { begun = w.begun ∙ is.begun; replied = w.answered ∙ is.replied }

  pub replica_still : (n : ℕ) → IsReplica (printed log) n → IsReplica (printed now) n
  replica_still n is = record { running = w.running n ∙ is.running; other = ap (λ (o : Option NodeNo). is_at o n) w.primary ∙ is.other }

  pub source_still : SourceSurvives (printed log) at → SourceSurvives (printed now) at
  source_still is = record { source = w.fallen ∙ (is.source ∙ ap primary_crashes (sym w.before)) }

  pub node_still : (n : ℕ) → NodeSurvives (printed log) at n → NodeSurvives (printed now) at n
  node_still n is = record { node = w.crashed n ∙ (is.node ∙ ap (crashes n) (sym w.before)) }

  pub line_still : open_line at (printed log) ≢ None → open_line at (printed now) ≢ None
  line_still some none = some (sym w.line ∙ none)

  pub older_still : (n v : ℕ) → v ≡ newest_version (printed log) → IsOlder v (job_at n log) → IsOlder (newest_version (printed now)) (job_at n now)
  older_still n v is older = subst (λ (z : ℕ × Option Job). IsOlder z.0 z.1) (λ i. ((is ∙ sym w.newest) i, sym (w.job n) i)) older

  pub waits_still : (size v : ℕ) (n : NodeNo) → WaitsFor size (printed log) at v n → WaitsFor size (printed now) at v n
  waits_still size v n is = record {
    node = is.node;
    was = subst (λ (p : Past). IsReplica p n.0) (sym w.before) is.was;
    replica = replica_still n.0 is.replica;
    survives = node_still n.0 is.survives;
    behind = subst (λ (k : ℕ). k < v) (sym (w.version n.0)) is.behind;
    ordered = subst (λ (k : ℕ). k < n.0) (sym w.switched) is.ordered;
  }

pub runs_still : (row : JobRow) (log now : Log) → SameWords row.job.at log now → JobRuns log row → JobRuns now row
runs_still row log now w is = record {
  last = w.last row.job.at.lane.0 ∙ is.last;
  unended = is.unended;
  alone = is.alone;
  survives = node_still row.job.at log now w row.job.node.0 is.survives;
  source = source_still row.job.at log now w is.source;
}

-- ---- what holds behind faults of disks

-- a line that met no fault in a file has met none
pub whole_still : (size : ℕ) (at by : At) (olds news : List (ℕ × ℕ)) (log : Log) → IsLineWhole size (printed log) at → IsLineWhole size (printed (with_met false by 1 olds news log)) at
whole_still size at by olds news log was =
    met_keeps (λ l. IsLineWhole size (printed l) at) false by
    (λ m kind l disk is k node alive. or_from (((m == k) && not (is_of_disk kind)) && same_at by at) (has_file_fault k at (printed l)) (no_file (m == k) (is_of_disk kind) (same_at by at) disk) (is k node (record { node = alive.node })))
    1 olds news log was
  where
    no_file : (b d s : Bool) → d ≡ true → ((b && not d) && s) ≡ false
    no_file true true s is = refl
    no_file false d s is = refl
    no_file b false s is = absurd (true≢false (sym is))

-- a version that no copy passed is passed by none
pub unpassed_still : (m v : ℕ) (by : At) (olds news : List (ℕ × ℕ)) (log : Log) → is_passed m v (printed log) ≡ false → is_passed m v (printed (with_met false by 1 olds news log)) ≡ false
unpassed_still m v by olds news log was =
    met_has (λ l. is_passed m v (printed l) ≡ false) false by (λ n kind l none. stays_unpassed m v (printed l) (record { at = by; event = Fault (record { 0 = n }) kind }) refl none) 1 olds news log was

-- ---- the rule

-- a fault at one of the nodes is one at some of these
fault_wider : (m : ℕ) (q : ℕ → Bool) (at : At) (past : Past) → q m ≡ true → has_fault (λ k. m == k) is_of_disk at past ≡ true → has_fault q is_of_disk at past ≡ true
fault_wider m q at [] here met = absurd (true≢false (sym met))
fault_wider m q at (e ∷ past) here met = step (fault_wider m q at past here) e.event met
  where
    more : (b c : Bool) (x : Bool) → (b || x) ≡ true → (b ≡ true → c ≡ true) → (x ≡ true → has_fault q is_of_disk at past ≡ true) → (c || has_fault q is_of_disk at past) ≡ true
    more true true x some keeps later = refl
    more true false x some keeps later = absurd (true≢false (sym (keeps refl)))
    more false true x some keeps later = refl
    more false false x some keeps later = later some

    same : (k : ℕ) (d s b : Bool) → (m == k) ≡ b → ((b && d) && s) ≡ true → ((q k && d) && s) ≡ true
    same k d s true is so = ap (λ (c : Bool). (c && d) && s) (subst (λ (j : ℕ). q j ≡ true) (eqb-true m k is) here) ∙ so
    same k d s false is so = absurd (true≢false (sym so))

    step : (has_fault (λ k. m == k) is_of_disk at past ≡ true → has_fault q is_of_disk at past ≡ true) → (x : Event) → has_fault (λ k. m == k) is_of_disk at (record { at = e.at; event = x } ∷ past) ≡ true → has_fault q is_of_disk at (record { at = e.at; event = x } ∷ past) ≡ true
    step rest (Fault k kind) some = more (((m == k.0) && is_of_disk kind) && same_at e.at at) (((q k.0) && is_of_disk kind) && same_at e.at at) (has_fault (λ j. m == j) is_of_disk at past) some
        (λ so. same k.0 (is_of_disk kind) (same_at e.at at) (m == k.0) refl so) rest
    step rest x some = rest some

-- a line that has started is refused for a fault of a disk that it met now, at a node of its own or at its source
pub may_fail : (size : ℕ) (past : Past) (at : At) (begun : Event) (m : ℕ) → start_entry at past ≡ Some begun → is_lost past (before_start at past) begun ≡ false → (is_copy begun && has_switched at past) ≡ false
    → (is_node_of size (before_start at past) begun m || is_source_of (before_start at past) begun m) ≡ true → has_fault (λ k. m == k) is_of_disk at past ≡ true → fails_now at past ≡ true → KeepsRule size past at (Refused DiskFault)
may_fail size past at begun m started lost switched mine met fails =
    subst (λ (o : Option Event). MayRefuseLine size past at o DiskFault) (sym started) (record {
      lost = sym lost;
      met = λ other. (fault_wider m (λ k. is_node_of size (before_start at past) begun k || is_source_of (before_start at past) begun k) at past mine met, fails);
      unswitched = switched;
    })

-- an open line is refused in its turn
pub break_turn : (past : Past) (at : At) (cause : Cause) → open_line at past ≢ None → InTurn past at (Refused cause)
break_turn past at cause line = later_turn past at (Refused cause) refl (inr line)

pub fail_turn : (past : Past) (at : At) → open_line at past ≢ None → InTurn past at (Refused DiskFault)
fail_turn past at line = break_turn past at DiskFault line

-- the line started as a copy or a settle
abbrev pub IsJobStart : Event → Type 0
IsJobStart (Copying n v) = ⊤
IsJobStart (Settling v) = ⊤
IsJobStart e = ⊥

-- what is known of such a line that a fault of a disk at this node may refuse, before it met one
pub record MeetsFault (size : ℕ) (past : Past) (at : At) (m : ℕ) : Type 0 where
  pub begun : Event
  pub copies : IsJobStart begun
  pub started : start_entry at past ≡ Some begun
  pub unlost : is_lost past (before_start at past) begun ≡ false
  pub unswitched : (is_copy begun && has_switched at past) ≡ false
  pub mine : (is_node_of size (before_start at past) begun m || is_source_of (before_start at past) begun m) ≡ true

-- the line is as lost as before
pub lost_still : (at : At) (log now : Log) → SameWords at log now → (begun : Event) → is_lost (printed log) (before_start at (printed log)) begun ≡ false → IsJobStart begun → is_lost (printed now) (before_start at (printed now)) begun ≡ false
lost_still at log now w (Copying n v) none starts = (λ i. not (w.crashed n.0 i == crashes n.0 (w.before i)) || not (w.fallen i == primary_crashes (w.before i))) ∙ none
lost_still at log now w (Settling v) none starts = (λ i. not (w.fallen i == primary_crashes (w.before i))) ∙ none
lost_still at log now w e none starts = absurd starts

-- behind the faults it is refused, where one rose there
pub fails_met : (size : ℕ) (at : At) (m : ℕ) (olds news : List (ℕ × ℕ)) (log : Log) → MeetsFault size (printed log) at m → has_risen m 1 olds news ≡ true → KeepsRule size (printed (with_met false at 1 olds news log)) at (Refused DiskFault)
fails_met size at m olds news log k risen =
    may_fail size (printed now) at k.begun m (w.begun ∙ k.started) (lost_still at log now w k.begun k.unlost k.copies)
    (ap (λ (h : ℕ). is_copy k.begun && nat_lt 0 h) w.switched ∙ k.unswitched) (ap (λ (p : Past). is_node_of size p k.begun m || is_source_of p k.begun m) w.before ∙ k.mine)
    (met_there at m 1 olds news log risen) (fails_behind at m olds news log risen)
  where
    now : Log
    now = with_met false at 1 olds news log

    w : SameWords at log now
    w = met_words at at olds news log

-- ---- lines with a job

-- how the line of a job started
pub job_start : (start : Past) (n v : ℕ) (o : Option Event) → StartsJob start n v o → (begun : Event) × (o ≡ Some begun)
job_start start n v None starts = absurd starts
job_start start n v (Some begun) starts = (begun, refl)

module _ (size : ℕ) (past : Past) (at : At) (n v : ℕ) where
  copies : (begun : Event) → StartsJob (before_start at past) n v (Some begun) → IsJobStart begun
  copies (Copying m w) starts = tt
  copies (Settling w) starts = tt
  copies begun starts = absurd starts

  at_source : (p : NodeNo) (begun : Event) → StartsJob (before_start at past) n v (Some begun) → primary_of (before_start at past) ≡ Some p
      → (is_node_of size (before_start at past) begun p.0 || is_source_of (before_start at past) begun p.0) ≡ true
  at_source p (Copying m w) starts source = or_right (is_node_of size (before_start at past) (Copying m w) p.0) (is_at (primary_of (before_start at past)) p.0) (ap (λ (o : Option NodeNo). is_at o p.0) source ∙ eq-eqb p.0 p.0 refl)
  at_source p (Settling w) starts source = or_right (is_node_of size (before_start at past) (Settling w) p.0) (is_at (primary_of (before_start at past)) p.0) (ap (λ (o : Option NodeNo). is_at o p.0) source ∙ eq-eqb p.0 p.0 refl)
  at_source p begun starts source = absurd starts

  pub at_here : IsNode size n → (begun : Event) → StartsJob (before_start at past) n v (Some begun) → is_node_of size (before_start at past) begun n ≡ true
  at_here node (Copying m w) starts = eq-eqb m.0 n starts.0
  at_here node (Settling w) starts = rw (le_is 1 n node.0, le_is n size node.1, starts.running, starts.other) refl
    where
      le_is : (a b : ℕ) → a ≤ b → nat_le a b ≡ true
      le_is a b low = grind (arith, nat_tests)
  at_here node begun starts = absurd starts

  at_node : IsNode size n → (begun : Event) → StartsJob (before_start at past) n v (Some begun) → (is_node_of size (before_start at past) begun n || is_source_of (before_start at past) begun n) ≡ true
  at_node node begun starts = ap (λ (b : Bool). b || is_source_of (before_start at past) begun n) (at_here node begun starts)

  module _ (legal : IsLegalPast size past) (begun : Event) (started : start_entry at past ≡ Some begun) (starts : StartsJob (before_start at past) n v (Some begun)) (line : open_line at past ≢ None) (ordered : highest_switched at past < n)
      (alive : NodeSurvives past at n) (source : SourceSurvives past at) where
    meets : (m : ℕ) → (is_node_of size (before_start at past) begun m || is_source_of (before_start at past) begun m) ≡ true → MeetsFault size past at m
    meets m mine = record { begun = begun; copies = copies begun starts; started = started; unlost = unlost past (before_start at past) n v begun starts alive.node source.source; unswitched = unswitched_job size past at n v begun legal starts started line ordered; mine = mine }

    -- the disk of its source may fail
    pub meets_source : (p : NodeNo) → primary_of past ≡ Some p → MeetsFault size past at p.0
    meets_source p primary = meets p.0 (at_source p begun starts (sym (reigns_on size at past legal (source_runs size past at n v legal (Some begun) started starts) source.source).primary ∙ primary))

    -- and that of its node
    pub meets_node : IsNode size n → MeetsFault size past at n
    meets_node node = meets n (at_node node begun starts)

-- what the log shows of the last job of a lane
cancel_still : (size : ℕ) (past : Past) (at by : At) (m : NodeNo) (kind : FaultKind) (v : Version) (o : Option Event) → IsCancelled size past at v o → IsCancelled size (record { at = by; event = Fault m kind } ∷ past) at v o
cancel_still size past at by m kind v None is = is
cancel_still size past at by m kind v (Some begun) is = record { point = is.point; above = is.above; beside = is.beside }

pub lane_step : (size : ℕ) (row : JobRow) (by : At) (m : ℕ) (kind : FaultKind) (l : Log) → LaneJobShows size (printed l) row → LaneJobShows size (printed (fault_by false by m kind ∷ l)) row
lane_step size row by m kind l is = record {
  node = is.node;
  started = is.started;
  newest = is.newest;
  before = is.before;
  made = λ source high. is.made (record { source = source.source }) high;
  later = λ v some alive source. cancel_still size (printed l) row.job.at by (record { 0 = m }) kind v (start_entry row.job.at (printed l)) (is.later v some (record { node = alive.node }) (record { source = source.source }));
}

pub lane_still : (size : ℕ) (row : JobRow) (by : At) (olds news : List (ℕ × ℕ)) (log : Log) → LaneJobShows size (printed log) row → LaneJobShows size (printed (with_met false by 1 olds news log)) row
lane_still size row by olds news log was = met_has (λ l. LaneJobShows size (printed l) row) false by (λ m kind l is. lane_step size row by m kind l is) 1 olds news log was

-- ---- settles

module _ (at : At) (log now : Log) (w : SameWords at log now) (size : ℕ) (v : ℕ) where
  alive_before : (n : ℕ) → NodeSurvives (printed now) at n → NodeSurvives (printed log) at n
  alive_before n is = record { node = sym (w.crashed n) ∙ (is.node ∙ ap (crashes n) w.before) }

  left_still : (n : NodeNo) → IsLeft size (printed log) at v n → IsLeft size (printed now) at v n
  left_still n is = record {
    node = is.node;
    replica = subst (λ (p : Past). IsReplica p n.0) (sym w.before) is.replica;
    ordered = λ alive. subst (λ (z : ℕ × ℕ). (z.0 < n.0) ⊎ (v ≤ z.1)) (λ i. (sym w.switched i, sym (w.version n.0) i)) (is.ordered (alive_before n.0 alive));
  }

-- a settle goes on behind them
settling_still : (at : At) (log now : Log) → SameWords at log now → (size : ℕ) (task : SettleTask) → IsSettling size (printed log) at task → IsSettling size (printed now) at task
settling_still at log now w size task is = record {
  started = w.begun ∙ is.started;
  is_open = line_still at log now w is.is_open;
  left = All-weaker (IsLeft size (printed log) at task.version.0) (IsLeft size (printed now) at task.version.0) (λ n was. left_still at log now w size task.version.0 n was) task.left.items is.left;
  ascending = is.ascending;
  reached = λ n node replica alive. subst (λ (k : ℕ). Contains task.left.items n ⊎ (task.version.0 ≤ k)) (sym (w.version n.0))
      (is.reached n node (subst (λ (p : Past). IsReplica p n.0) w.before replica) (alive_before at log now w size task.version.0 n.0 alive));
}

-- once a job of it has begun
pub settles_on : (at : At) (n : NodeNo) (old new : Run) (task : CopyTask) (left : SettleTask) → BeginsJob at n old new (met_log at old new) task → IsSettling old.nodes (printed old.log) at left → IsSettling new.nodes (printed new.log) at left
settles_on at n old new task left begins is =
    subst (λ (x : ℕ × Log). IsSettling x.0 (printed x.1) at left) (λ i. (sym begins.now.nodes i, sym begins.now.log i))
    (settling_still at old.log (met_log at old new) (met_words at at (map failures_by_plan old.rest.plans) (map failures_by_plan new.rest.plans) old.log) old.nodes left is)

pub settle_works : (at : At) (n : NodeNo) (old new : Run) (task : CopyTask) (left : SettleTask) → BeginsJob at n old new (met_log at old new) task → IsSettling old.nodes (printed old.log) at left → SettleWaits at left old n → IsNotBeingCopied old.log n.0
    → SettleGoesOn at old new left (Work task)
settle_works at n old new task left begins is waits free =
    subst (λ (m : NodeNo). BeginsJob at m old new (met_log at old new) task × IsSettling new.nodes (printed new.log) at left × SettleWaits at left old m × IsNotBeingCopied old.log m.0) (sym begins.node)
    (begins, settles_on at n old new task left begins is, waits, free)
