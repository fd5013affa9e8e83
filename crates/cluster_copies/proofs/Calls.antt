-- What calls of copies and settles rest on behind the faults that they met, in the terms of a call.
use Rattle.std.proofs.Common.{◌≡◌, ◌≢◌, ◌<◌, ◌≤◌, ◌+◌, ◌*◌, arith, map, ◌==◌, ◌||◌, nat_lt, ℕ, Bool, true, false, if◌then◌else◌, List, ◌∷◌, ◌⊎◌, inl, inr, Some, None, Option, refl, ap, ◌∙◌, sym, subst, length}
use Rattle.std.specs.Prelude.{IfSome, not}
use Rattle.std.proofs.lemmas.Bool.{eq-eqb, eqb-true, or_right}
use Rattle.std.proofs.lemmas.List.{length-map}
use Rattle.nrt_base.specs.declared.numbers.At.{At}
use Rattle.nrt_base.specs.declared.numbers.NodeNo.{NodeNo}
use Rattle.nrt_base.specs.declared.numbers.Version.{Version}
use Rattle.disk_model.specs.Disk.{Name, Cells}
use Rattle.disk_model.specs.Faults.{Plans}
use Rattle.copy_job.specs.declared.copying.Part.{Part}
use Rattle.copy_job.proofs.Placings.{own_to}
use Rattle.replica_node.specs.declared.job.PointJob.{PointJob}
use Rattle.replica_node.specs.declared.parts.ReplicaParts.{ReplicaParts}
use Rattle.history_rules.specs.declared.cause.Cause.{Cause}
use Rattle.history_rules.specs.declared.cause.Cause.TheVariants.{DiskFault}
use Rattle.history_rules.specs.declared.entry.Event.{Event}
use Rattle.history_rules.specs.declared.entry.Event.TheVariants.{Publishing, Copying, Settling, Refused}
use Rattle.history_rules.specs.Nodes.{Past, IsNode, IsReplica, is_at, is_running, primary_of, crashes, primary_crashes, newest_version, version_of}
use Rattle.history_rules.specs.Lines.{start_entry, before_start, is_answered, SourceSurvives, copy_in_flight}
use Rattle.history_rules.specs.Points.{IsDrawnFile}
use Rattle.history_rules.specs.Rules.{IsLineWhole, fetches_at}
use Rattle.history_rules.specs.Legal.{KeepsRule, IsLegalPast}
use Rattle.history_tables.specs.declared.jobs.JobRow.{JobRow}
use Rattle.history_tables.specs.JobRows.{while_going}
use Rattle.history_tables.specs.Begins.{open_line}
use Rattle.history_tables.proofs.RowLemmas.{same_at_self}
use Rattle.history_book.specs.Log.{Log, printed, shown, kept}
use Rattle.history_book.specs.declared.inner.Inner.TheVariants.{JobEnd}
use Rattle.history_book.specs.Jobs.{job_at, last_job, IsOlder, StartsJob, LaneJobShows}
use Rattle.history_book.specs.Turns.{InTurn, AreInTurn, IsUnbegun}
use Rattle.history_book.proofs.LineLaws.{without_some}
use Rattle.link_model.specs.declared.fate.Fate.{Fate}
use Rattle.link_model.specs.declared.fate.Fate.TheVariants.{Whole}
use Rattle.merge_tasks.specs.Board.{Board}
use Rattle.merge_tasks.specs.Fates.{fate_by, fate_due, file_plans}
use Rattle.merge_tasks.specs.Merging.{Sheet}
use Rattle.cluster_nodes.specs.declared.nodes.Node.TheVariants.{Primary, Replica}
use Rattle.cluster_nodes.specs.declared.nodes.NodePlace.{NodePlace}
use Rattle.cluster_nodes.specs.Places.{place_of}
use Rattle.cluster_nodes.specs.JobChanges.{StopsAt}
use Rattle.cluster_nodes.specs.JobPlaces.{AltersIn, StopsIn}
use Rattle.cluster_state.specs.Run.{JobFiles, Rest, Run, files_at}
use Rattle.cluster_state.specs.JobsIn.{job_files, place_files, jobs_in}
use Rattle.cluster_state.specs.DueFaults.{MeetsFate, fate_cause, with_due}
use Rattle.cluster_state.specs.FilesOut.{file_out}
use Rattle.history_rules.specs.Faults.{has_just_failed}
use Rattle.cluster_state.specs.FileChanges.{is_commit_line}
use Rattle.cluster_state.specs.Copies.{JobRuns}
use Rattle.cluster_state.specs.Settles.{WaitsFor}
use Rattle.cluster_state.specs.Met.{ArePlanned, met_in, with_met, has_risen, ClusterStands}
use Rattle.cluster_state.proofs.Naming.{FilesLast}
use Rattle.cluster_state.proofs.FilesDue.{due_meets, due_stands, fetches, plans_still}
use Rattle.cluster_state.proofs.JobsLeft.{files_are}
use Rattle.cluster_state.proofs.FileJobs.{job_here, runs_at}
use Rattle.cluster_state.proofs.Ledgers.{asked_of, asked_size}
use Rattle.cluster_state.proofs.MetFails.{risen_fails}
use Rattle.cluster_state.proofs.Planned.{met_there}
use Rattle.cluster_state.proofs.MetStands.{behind, run_behind, counted, stands_behind}
use Rattle.cluster_copies.specs.Going.{IsGoing, HasRoomToTell, CanTell}
use Rattle.cluster_copies.proofs.CopyPaths.{copy_before, copy_entry, copy_open, copy_switched, may_copy}
use Rattle.cluster_copies.proofs.Ending.{not_publish, not_commit}
use Rattle.cluster_copies.proofs.Failing.{altered_stands, refused_stands, started_stands, stopped_stands}
use Rattle.cluster_copies.proofs.PartPaths.{there_both}
use Rattle.cluster_copies.proofs.MetLines.{SameWords, MeetsFault, met_words, unbegun_still, replica_still, source_still, node_still, older_still, waits_still, runs_still, line_still, lane_still, whole_still, fails_met, break_turn, fail_turn, job_start, may_fail, meets_source, meets_node, at_here}
use Rattle.cluster_copies.proofs.DueLines.{due_words, lane_due_still, breaks_met}

-- the ledger, and what callers see, behind the faults that were met and those that the next file for a node meets
abbrev pub behind_due : At → ℕ → List (ℕ × ℕ) → List (ℕ × ℕ) → Sheet → Sheet
behind_due at n olds news b = record b { log = with_due false at n (with_met false at 1 olds news b.log) }

abbrev pub run_due : At → ℕ → List (ℕ × ℕ) → List (ℕ × ℕ) → Sheet → Run → Run
run_due at n olds news b r = record { ended = r.ended; nodes = b.nodes; log = with_due false at n (with_met false at 1 olds news b.log); rest = r.rest }

-- what is known in every call, once there is room
pub record Call {D : Type 0} (cells : D → Cells) (r : Run) (b0 b1 : Sheet) (old : List (Option (NodePlace D))) (board : Board) : Type 0 where
  pub ended : Bool
  pub left : Rest
  pub view : record { ended = ended; nodes = b0.nodes; log = b0.log; rest = left } ≡ r
  pub running : r.ended ≡ false
  pub all : ended ≡ false → ClusterStands cells b0.nodes old b0.cut board b0.log
  pub e1 : b1.log ≡ b0.log
  pub n1 : b1.nodes ≡ b0.nodes
  pub c1 : b1.cut ≡ b0.cut

-- by what a function knows
abbrev pub call_of : {D : Type 0} {cells : D → Cells} {r : Run} {b0 b1 : Sheet} {old : List (Option (NodePlace D))} {board : Board} {ended : Bool} {left : Rest} → record { ended = ended; nodes = b0.nodes; log = b0.log; rest = left } ≡ r → r.ended ≡ false
    → (ended ≡ false → ClusterStands cells b0.nodes old b0.cut board b0.log) → b1.log ≡ b0.log → b1.nodes ≡ b0.nodes → b1.cut ≡ b0.cut → Call cells r b0 b1 old board
call_of {ended = ended} {left = left} view running all e1 n1 c1 = record { ended = ended; left = left; view = view; running = running; all = all; e1 = e1; n1 = n1; c1 = c1 }

module _ {D : Type 0} {cells : D → Cells} {r : Run} {b0 b1 : Sheet} {old : List (Option (NodePlace D))} {board : Board} (k : Call cells r b0 b1 old board) where
  pub as_nodes : length old ≡ b1.nodes
  as_nodes = counted cells r k.ended b0 b1 old board k.view k.running k.all k.n1

  pub met_stands : (at : At) (olds news : List (ℕ × ℕ)) → ClusterStands cells b1.nodes old b1.cut board (with_met false at 1 olds news b1.log)
  met_stands at olds news = stands_behind cells r k.ended b0 b1 old board k.view k.running k.all at olds news k.e1 k.n1 k.c1

  -- what is asked of the log, and of how many nodes there are
  pub log_has : (P : Log → Type 0) → P r.log → P b1.log
  log_has P has = asked_of P k.view k.e1 has

  pub nodes_have : (P : ℕ → Type 0) → P r.nodes → P b1.nodes
  nodes_have P has = asked_size P k.view k.n1 has

-- ---- what disks met is told

-- there is room for it, as it was made for what they had met
pub ledger_room : {D : Type 0} (cells : D → Cells) (planned : D → Plans) (r : Run) (b0 b1 : Sheet) (old : List (Option (NodePlace D))) (board : Board) (more : ℕ) {ended : Bool} {left : Rest} {before items : List (ℕ × ℕ)}
    → record { ended = ended; nodes = b0.nodes; log = b0.log; rest = left } ≡ r → r.ended ≡ false → (ended ≡ false → ClusterStands cells b0.nodes old b0.cut board b0.log) → b1.nodes ≡ b0.nodes
    → before ≡ items → items ≡ map (met_in planned) old → 2 * length items + more ≤ b1.room → length items ≤ 255 → HasRoomToTell more before old b1
ledger_room cells planned r b0 b1 old board more {ended = ended} {before = before} {items = items} view running all n1 same met room few =
    let counts : length old ≡ b1.nodes = counted cells r ended b0 b1 old board view running all n1 in
    record {
      room = subst (λ (xs : List (ℕ × ℕ)). 2 * length xs + more ≤ b1.room) (sym same) room;
      count = ap (λ (xs : List (ℕ × ℕ)). length xs) (same ∙ met) ∙ (length-map old (met_in planned) ∙ counts);
      nodes = counts;
      few = subst (λ (xs : List (ℕ × ℕ)). length xs ≤ 255) (sym same) few;
    }

pub can_tell : {D : Type 0} (planned : D → Plans) {at : At} {more : ℕ} {before : List (ℕ × ℕ)} {old : List (Option (NodePlace D))} {b : Sheet} (less : ℕ) (new : List (Option (NodePlace D))) → HasRoomToTell more before old b → less ≤ more → length new ≡ length old
    → ArePlanned 1 before (map (met_in planned) new) (printed b.log) → is_answered at (printed b.log) ≡ false → CanTell planned at less before new b
can_tell planned less new r fewer same met unanswered = record {
  room = record { room = (let room = r.room in omega (arith, room, fewer)); count = r.count; nodes = same ∙ r.nodes; few = r.few };
  met = met;
  unanswered = unanswered;
}

-- ---- what the files of jobs are

module _ {D : Type 0} (r now : Run) (old new : List (Option (NodePlace D))) (before : r.rest.jobs ≡ jobs_in old) (after : now.rest.jobs ≡ jobs_in new) where
  -- the primary has none
  pub altered_files : (cells : D → Cells) (p n : ℕ) → AltersIn cells p old new → files_at n now ≡ files_at n r
  altered_files cells p n b = files_are n now new after ∙ (by (p == n) refl ∙ sym (files_are n r old before))
    where
      x : NodePlace D
      x = record { node = Primary b.primary; held = b.at.held }

      by : (t : Bool) → (p == n) ≡ t → place_files (place_of new n) ≡ place_files (place_of old n)
      by true here =
          ap place_files (b.moves.there n ∙ ap (λ (u : Bool). if u then Some x else place_of old n) here)
          ∙ sym (ap (λ (k : ℕ). place_files (place_of old k)) (sym (eqb-true p n here)) ∙ ap place_files b.at.there)
      by false away = ap place_files (b.moves.there n ∙ ap (λ (u : Bool). if u then Some x else place_of old n) away)

  -- a job that was stopped keeps them
  pub stopped_files : (cells : D → Cells) (p n : ℕ) (part : Option Part) (b : StopsIn cells part p n old new) (j : PointJob) → b.both.replica.parts.job ≡ Some j → StopsAt cells part j b.both.primary.parts b.primary b.both.replica.parts b.replica
      → files_at n now ≡ files_at n r
  stopped_files cells p n part b j runs stops =
      files_are n now new after ∙ (ap place_files there_n ∙ ((λ i. job_files (seen i) (stops.job i))
      ∙ (ap (λ (names : List Name). let f : JobFiles = record { seen = b.both.replica.parts.seen.0; missing = j.copy.missing; brought = names } in f) (own_to j.copy.parts stops.placed)
      ∙ (ap (job_files b.both.replica.parts.seen.0) (sym runs) ∙ (sym (ap place_files b.both.replica.there) ∙ sym (files_are n r old before))))))
    where
      y : NodePlace D
      y = record { node = Replica b.replica; held = b.both.replica.held }

      there_n : place_of new n ≡ Some y
      there_n = b.moves.there n ∙ ap (λ (t : Bool). if t then Some y else if p == n then Some (record { node = Primary b.primary; held = b.both.primary.held }) else place_of old n) (eq-eqb n n refl)

      seen : b.replica.seen.0 ≡ b.both.replica.parts.seen.0
      seen = ap (λ (z : ReplicaParts D). z.seen.0) stops.others

-- ---- calls of a job that runs

-- what a job rests on stays, where the log and the number of nodes are the same
pub going_same : {row : JobRow} {p : NodeNo} {m n : ℕ} {a b : Log} → n ≡ m → b ≡ a → IsGoing row p m a → IsGoing row p n b
going_same {row = row} {p = p} same_nodes same_log going = subst (λ (x : ℕ × Log). IsGoing row p x.0 x.1) (λ i. (sym same_nodes i, sym same_log i)) going

pub going_at : {row : JobRow} {p : NodeNo} {r : Run} {ended : Bool} {m n : ℕ} {a b : Log} {left : Rest} → record { ended = ended; nodes = m; log = a; rest = left } ≡ r → n ≡ m → b ≡ a → IsGoing row p r.nodes r.log → IsGoing row p n b
going_at view same_nodes same_log going = going_same (same_nodes ∙ ap (λ (x : Run). x.nodes) view) (same_log ∙ ap (λ (x : Run). x.log) view) going

module _ {row : JobRow} {p : NodeNo} {size : ℕ} {log : Log} (w : IsGoing row p size log) where
  abbrev at : At
  at = row.job.at

  abbrev n : ℕ
  n = row.job.node.0

  begun1 : (begun : Event) × (start_entry at (printed log) ≡ Some begun)
  begun1 = job_start (before_start at (printed log)) n row.job.version.0 (start_entry at (printed log)) w.lane.started

  starts1 : StartsJob (before_start at (printed log)) n row.job.version.0 (Some begun1.0)
  starts1 = subst (λ (o : Option Event). StartsJob (before_start at (printed log)) n row.job.version.0 o) begun1.1 w.lane.started

  module _ (olds news : List (ℕ × ℕ)) where
    abbrev met : Log
    met = with_met false at 1 olds news log

    words : SameWords at log met
    words = met_words at at olds news log

    pub runs_met : JobRuns met row
    runs_met = runs_still row log met words w.runs

    pub lane_met : LaneJobShows size (printed met) row
    lane_met = lane_still size row at olds news log w.lane

    pub replica_met : IsReplica (printed met) n
    replica_met = replica_still at log met words n w.replica

    pub source_met : IsNode size p.0
    source_met = w.source

    pub line_met : open_line at (printed met) ≢ None
    line_met = line_still at log met words w.line

    pub begun_met : start_entry at (printed met) ≡ start_entry at (printed log)
    begun_met = words.begun

    pub primary_met : primary_of (printed met) ≡ Some p
    primary_met = words.primary ∙ w.primary

    -- a file for its node may meet a fault
    pub fetches_met : fetches_at size at (printed met) n ≡ true
    fetches_met = fetches size at (printed met) n row.job.version.0 lane_met.node lane_met.started

    pub alive1 : is_running n (printed log) ≡ true
    alive1 = sym (words.running n) ∙ replica_met.running

    -- at the log behind those that the next file meets
    abbrev due : Log
    due = with_due false at n met

    words_due : SameWords at met due
    words_due = due_words at at n met

    pub runs_due : JobRuns due row
    runs_due = runs_still row met due words_due runs_met

    pub lane_due : LaneJobShows size (printed due) row
    lane_due = lane_due_still size row at n met lane_met

    pub replica_due : IsReplica (printed due) n
    replica_due = replica_still at met due words_due n replica_met

    pub primary_due : primary_of (printed due) ≡ Some p
    primary_due = words_due.primary ∙ primary_met

    -- the line has met what makes of the file what becomes of it
    pub meets_due : (fate_due n log ≡ Whole) ⊎ IsLineWhole size (printed log) at → MeetsFate (fate_due n met) at n (printed due)
    meets_due spared = elim spared [
      | inl whole ↦ subst (λ (f : Fate). MeetsFate f at n (printed due)) (sym (ap fate_by (plans_still false n at olds news log) ∙ whole)) tt
      | inr whole ↦ due_meets false at n (file_plans n met) met
          (whole_still size at at olds news log whole n lane_met.node (node_still at log met words n w.runs.survives))
    ]

    -- its line may be refused for the disk of its source, and for that of its node
    pub source_rule : has_risen p.0 1 olds news ≡ true → KeepsRule size (printed met) at (Refused DiskFault)
    source_rule risen = fails_met size at p.0 olds news log
        (meets_source size (printed log) at n row.job.version.0 w.legal begun1.0 begun1.1 starts1 w.line w.ordered w.runs.survives w.runs.source p w.primary) risen

    pub node_rule : has_risen n 1 olds news ≡ true → KeepsRule size (printed met) at (Refused DiskFault)
    node_rule risen = fails_met size at n olds news log
        (meets_node size (printed log) at n row.job.version.0 w.legal begun1.0 begun1.1 starts1 w.line w.ordered w.runs.survives w.runs.source w.lane.node) risen

    -- and for what it met in a file
    pub file_rule : (fate : Fate) (name : Name) → fate ≢ Whole → MeetsFate fate at n (printed log) → IsDrawnFile (printed met) name → KeepsRule size (printed met) at (Refused (fate_cause fate name))
    file_rule fate name broken found drawn =
        let meets : MeetsFault size (printed log) at n = meets_node size (printed log) at n row.job.version.0 w.legal begun1.0 begun1.1 starts1 w.line w.ordered w.runs.survives w.runs.source w.lane.node in
        breaks_met size at n olds news log fate name meets
        (at_here size (printed log) at n row.job.version.0 w.lane.node meets.begun (subst (λ (o : Option Event). StartsJob (before_start at (printed log)) n row.job.version.0 o) meets.started w.lane.started))
        broken found drawn

    pub broken_turn : (cause : Cause) → InTurn (printed met) at (Refused cause)
    broken_turn cause = break_turn (printed met) at cause line_met

    pub refused_turn : InTurn (printed met) at (Refused DiskFault)
    refused_turn = broken_turn DiskFault

    -- the job at the node, once its line was refused
    refused_job : (cause : Cause) (o : Option JobRow) → while_going n (printed (shown at (Refused cause) ∷ met)) o ≡ while_going n (printed met) o
    refused_job cause None = refl
    refused_job cause (Some x) = refl

    -- it is the one that went on
    pub job_met : (cause : Cause) → job_at n (shown at (Refused cause) ∷ met) ≡ Some row.job
    job_met cause = refused_job cause (last_job false n met) ∙ (words.job n ∙ runs_at size log row w.runs w.lane)

    pub out_met : (part : Option Part) → IfSome part (λ x. file_out at n row.job.number x.name log ≡ Some x.bytes) → IfSome part (λ x. file_out at n row.job.number x.name met ≡ Some x.bytes)
    out_met None out = tt
    out_met (Some part) out = words.file n row.job.number part.name ∙ out

pub record JobCall {D : Type 0} (cells : D → Cells) (r : Run) (b0 b1 : Sheet) (old : List (Option (NodePlace D))) (board : Board) (row : JobRow) (p : NodeNo) : Type 0 where
  pub call : Call cells r b0 b1 old board
  pub going : IsGoing row p r.nodes r.log

abbrev pub job_call : {D : Type 0} {cells : D → Cells} {r : Run} {b0 b1 : Sheet} {old : List (Option (NodePlace D))} {board : Board} {row : JobRow} {p : NodeNo} → Call cells r b0 b1 old board → IsGoing row p r.nodes r.log → JobCall cells r b0 b1 old board row p
job_call call going = record { call = call; going = going }

module _ {D : Type 0} {cells : D → Cells} {r : Run} {b0 b1 : Sheet} {old : List (Option (NodePlace D))} {board : Board} {row : JobRow} {p : NodeNo} (k : JobCall cells r b0 b1 old board row p) where
  -- at the ledger before and behind the call that made room
  pub going0 : IsGoing row p b0.nodes b0.log
  going0 = going_at k.call.view refl refl k.going

  pub going1 : IsGoing row p b1.nodes b1.log
  going1 = going_at k.call.view k.call.n1 k.call.e1 k.going

  module _ (olds news : List (ℕ × ℕ)) where
    pub due_stand : ClusterStands cells b1.nodes old b1.cut board (with_due false row.job.at row.job.node.0 (with_met false row.job.at 1 olds news b1.log))
    due_stand = due_stands cells b1.nodes old b1.cut board false row.job.at row.job.node.0 (with_met false row.job.at 1 olds news b1.log) (met_stands k.call row.job.at olds news)

    abbrev behind_met : Log
    behind_met = with_met false row.job.at 1 olds news b1.log

    -- it was refused, and the job stopped
    pub refused_path : (cause : Cause) (b2 : Sheet) (new : List (Option (NodePlace D))) (part : Option Part) → FilesLast → IsLegalPast b1.nodes (printed behind_met) → AreInTurn (printed behind_met) → KeepsRule b1.nodes (printed behind_met) row.job.at (Refused cause)
        → b2.log ≡ kept (JobEnd row.job.at.line row.job.node row.job.number) ∷ shown row.job.at (Refused cause) ∷ behind_met → b2.nodes ≡ b1.nodes → b2.cut ≡ b1.cut
        → IfSome part (λ x. file_out row.job.at row.job.node.0 row.job.number x.name b1.log ≡ Some x.bytes) → StopsIn cells part p.0 row.job.node.0 old new → ClusterStands cells b2.nodes new b2.cut board b2.log
    refused_path cause b2 new part lasting legal turns rule e2 n2 c2 out b =
        let w = going1 in
        subst (λ (z : Log × (Bool × ℕ)). ClusterStands cells z.1.1 new z.1.0 board z.0) (λ i. (sym e2 i, (sym c2 i, sym n2 i)))
        (stopped_stands cells b1.nodes b1.cut board (shown row.job.at (Refused cause) ∷ behind_met) old new p row.job part lasting
        (refused_stands cells b1.nodes b1.cut board behind_met old row.job.at cause legal turns rule (broken_turn w olds news cause)
        (not_publish (printed behind_met) (before_start row.job.at (printed b1.log)) row.job.at row.job.node.0 row.job.version.0 (Some (begun1 w).0) (begun_met w olds news ∙ (begun1 w).1) (starts1 w))
        (not_commit (printed behind_met) (before_start row.job.at (printed b1.log)) row.job.at row.job.node.0 row.job.version.0 (Some (begun1 w).0) (begun_met w olds news ∙ (begun1 w).1) (starts1 w)) (met_stands k.call row.job.at olds news))
        w.source w.lane.node (primary_met w olds news) (job_met w olds news cause) (out_met w olds news part out) b
        (λ a flies. (without_some row.job.at a (copy_in_flight row.job.node.0 (newest_version (printed behind_met)) (printed behind_met)) flies).1))

  -- the files of the job that was stopped are those from before
  pub refused_files : (now : Run) (new : List (Option (NodePlace D))) (part : Option Part) (b : StopsIn cells part p.0 row.job.node.0 old new) → r.rest.jobs ≡ jobs_in old → now.rest.jobs ≡ jobs_in new → files_at row.job.node.0 now ≡ files_at row.job.node.0 r
  refused_files now new part b before after =
      let both = k.call.all (ap (λ (x : Run). x.ended) k.call.view ∙ k.call.running) in
      let is : job_at row.job.node.0 b0.log ≡ Some row.job = runs_at b0.nodes b0.log row going0.runs going0.lane in
      let h = job_here cells both.1.source b0.log row.job.node.0 row.job b.both.replica.parts is (there_both cells b0.log b0.nodes row.job.node.0 old both.0 both.1 b.both.replica.parts b.both.replica.held going0.lane.node b.both.replica.there).1 in
      stopped_files r now old new before after cells p.0 row.job.node.0 part b h.point h.runs
      (subst (λ (o : Option PointJob). IfSome o (λ j. StopsAt cells part j b.both.primary.parts b.primary b.both.replica.parts b.replica)) h.going b.stops)

-- ---- a copy that starts

-- what is asked of a copy that begins a job
pub record CopyCall {D : Type 0} (cells : D → Cells) (r : Run) (b0 b1 : Sheet) (old : List (Option (NodePlace D))) (board : Board) (at : At) (p n : NodeNo) (v : Version) : Type 0 where
  pub call : Call cells r b0 b1 old board
  pub unbegun : IsUnbegun at (printed b0.log)
  pub node_p : IsNode r.nodes p.0
  pub node : IsNode r.nodes n.0
  pub primary : primary_of (printed r.log) ≡ Some p
  pub replica : IsReplica (printed r.log) n.0
  pub behind : version_of n.0 (printed r.log) < newest_version (printed r.log)
  pub older : IsOlder (newest_version (printed r.log)) (job_at n.0 r.log)
  pub newest : v.0 ≡ newest_version (printed b0.log)

module _ {D : Type 0} {cells : D → Cells} {r : Run} {b0 b1 : Sheet} {old : List (Option (NodePlace D))} {board : Board} {at : At} {p n : NodeNo} {v : Version} (k : CopyCall cells r b0 b1 old board at p n v) where
  module _ (olds news : List (ℕ × ℕ)) where
    abbrev met_copy : Log
    met_copy = with_met false at 1 olds news b1.log

    words_copy : SameWords at b1.log met_copy
    words_copy = met_words at at olds news b1.log

    pub copy_unbegun : IsUnbegun at (printed met_copy)
    copy_unbegun = unbegun_still at b1.log met_copy words_copy (subst (λ (l : Log). IsUnbegun at (printed l)) (sym k.call.e1) k.unbegun)

    pub copy_starts : InTurn (printed met_copy) at (Copying n v)
    copy_starts = record { once = copy_unbegun; flight = tt }

    pub copy_primary : primary_of (printed met_copy) ≡ Some p
    copy_primary = words_copy.primary ∙ log_has k.call (λ l. primary_of (printed l) ≡ Some p) k.primary

    pub copy_replica : IsReplica (printed met_copy) n.0
    copy_replica = replica_still at b1.log met_copy words_copy n.0 (log_has k.call (λ l. IsReplica (printed l) n.0) k.replica)

    pub copy_behind : version_of n.0 (printed met_copy) < newest_version (printed met_copy)
    copy_behind = subst (λ (z : ℕ × ℕ). z.0 < z.1) (λ i. (sym (words_copy.version n.0) i, sym words_copy.newest i)) (log_has k.call (λ l. version_of n.0 (printed l) < newest_version (printed l)) k.behind)

    pub copy_older : IsOlder (newest_version (printed met_copy)) (job_at n.0 met_copy)
    copy_older = older_still at b1.log met_copy words_copy n.0 (newest_version (printed b1.log)) refl (log_has k.call (λ l. IsOlder (newest_version (printed l)) (job_at n.0 l)) k.older)

    pub copy_newest : v.0 ≡ newest_version (printed met_copy)
    copy_newest = k.newest ∙ (ap (λ (l : Log). newest_version (printed l)) (sym k.call.e1) ∙ sym words_copy.newest)

    pub copy_node : IsNode b1.nodes n.0
    copy_node = nodes_have k.call (λ z. IsNode z n.0) k.node

    pub copy_source : IsNode b1.nodes p.0
    copy_source = nodes_have k.call (λ z. IsNode z p.0) k.node_p

    -- it keeps its rule behind the faults
    pub copy_rule : KeepsRule b1.nodes (printed met_copy) at (Copying n v)
    copy_rule =
        let st = met_stands k.call at olds news in
        may_copy cells (run_behind at olds news b1 r) r.ended b1.nodes met_copy old at p n v refl k.call.running (λ e. (st.0, st.1)) copy_node copy_primary copy_replica copy_newest copy_older

    -- and is refused where the disk of its source failed
    pub copy_fails : has_risen p.0 1 olds news ≡ true → KeepsRule b1.nodes (record { at = at; event = Copying n v } ∷ printed met_copy) at (Refused DiskFault)
    copy_fails risen =
        let past : Past = printed met_copy in
        may_fail b1.nodes (record { at = at; event = Copying n v } ∷ past) at (Copying n v) p.0 (copy_entry past at n v)
        ((λ i. not (crashes n.0 past == crashes n.0 (copy_before past at n v i)) || not (primary_crashes past == primary_crashes (copy_before past at n v i)))
        ∙ rw (eq-eqb (crashes n.0 past) (crashes n.0 past) refl, eq-eqb (primary_crashes past) (primary_crashes past) refl) refl)
        (ap (nat_lt 0) (copy_switched past at n v))
        (or_right (n.0 == p.0) (is_at (primary_of (before_start at (record { at = at; event = Copying n v } ∷ past))) p.0)
        (ap (λ (q : Past). is_at (primary_of q) p.0) (copy_before past at n v) ∙ (ap (λ (o : Option NodeNo). is_at o p.0) copy_primary ∙ eq-eqb p.0 p.0 refl)))
        (met_there at p.0 1 olds news b1.log risen)
        (ap (λ (b : Bool). if b then has_just_failed at past else has_just_failed at (record { at = at; event = Copying n v } ∷ past)) (same_at_self at) ∙ risen_fails at p.0 1 olds news b1.log risen)

    pub copy_fail_turn : InTurn (record { at = at; event = Copying n v } ∷ printed met_copy) at (Refused DiskFault)
    copy_fail_turn = fail_turn (record { at = at; event = Copying n v } ∷ printed met_copy) at (copy_open (printed met_copy) at n v)

    -- it was refused, and no job began
    pub no_copy_path : (b3 : Sheet) (new : List (Option (NodePlace D))) → IsLegalPast b1.nodes (printed met_copy) → AreInTurn (printed met_copy) → has_risen p.0 1 olds news ≡ true
        → b3.log ≡ shown at (Refused DiskFault) ∷ shown at (Copying n v) ∷ met_copy → b3.nodes ≡ b1.nodes → b3.cut ≡ b1.cut → AltersIn cells p.0 old new → ClusterStands cells b3.nodes new b3.cut board b3.log
    no_copy_path b3 new legal turns risen e3 n3 c3 b =
        subst (λ (z : Log × (Bool × ℕ)). ClusterStands cells z.1.1 new z.1.0 board z.0) (λ i. (sym e3 i, (sym c3 i, sym n3 i)))
        (started_stands cells b1.nodes b1.cut board met_copy new at n v legal turns copy_rule copy_starts (copy_fails risen) copy_fail_turn
        (altered_stands cells b1.nodes b1.cut board met_copy old new p.0 copy_source b (met_stands k.call at olds news)))

-- ---- a settle that goes on

-- what is asked of a settle that begins a job
pub record SettleCall {D : Type 0} (cells : D → Cells) (r : Run) (b0 b1 : Sheet) (old : List (Option (NodePlace D))) (board : Board) (at : At) (p n : NodeNo) (v w : Version) : Type 0 where
  pub call : Call cells r b0 b1 old board
  pub legal : IsLegalPast b0.nodes (printed b0.log)
  pub started : start_entry at (printed r.log) ≡ Some (Settling w)
  pub line : open_line at (printed r.log) ≢ None
  pub node_p : IsNode r.nodes p.0
  pub primary : primary_of (printed r.log) ≡ Some p
  pub survives : SourceSurvives (printed r.log) at
  pub waits : WaitsFor r.nodes (printed r.log) at w.0 n
  pub older : IsOlder (newest_version (printed r.log)) (job_at n.0 r.log)
  pub newest : v.0 ≡ newest_version (printed b0.log)

module _ {D : Type 0} {cells : D → Cells} {r : Run} {b0 b1 : Sheet} {old : List (Option (NodePlace D))} {board : Board} {at : At} {p n : NodeNo} {v w : Version} (k : SettleCall cells r b0 b1 old board at p n v w) where
  waits1 : WaitsFor b1.nodes (printed b1.log) at w.0 n
  waits1 = subst (λ (x : ℕ × Log). WaitsFor x.0 (printed x.1) at w.0 n) (λ i. (sym (k.call.n1 ∙ ap (λ (x : Run). x.nodes) k.call.view) i, sym (k.call.e1 ∙ ap (λ (x : Run). x.log) k.call.view) i)) k.waits

  started1 : start_entry at (printed b1.log) ≡ Some (Settling w)
  started1 = log_has k.call (λ l. start_entry at (printed l) ≡ Some (Settling w)) k.started

  line1' : open_line at (printed b1.log) ≢ None
  line1' = log_has k.call (λ l. open_line at (printed l) ≢ None) k.line

  survives1 : SourceSurvives (printed b1.log) at
  survives1 = log_has k.call (λ l. SourceSurvives (printed l) at) k.survives

  module _ (olds news : List (ℕ × ℕ)) where
    abbrev met_settle : Log
    met_settle = with_met false at 1 olds news b1.log

    words_settle : SameWords at b1.log met_settle
    words_settle = met_words at at olds news b1.log

    pub settle_started : start_entry at (printed met_settle) ≡ Some (Settling w)
    settle_started = words_settle.begun ∙ started1

    pub settle_line : open_line at (printed met_settle) ≢ None
    settle_line = line_still at b1.log met_settle words_settle line1'

    pub settle_survives : SourceSurvives (printed met_settle) at
    settle_survives = source_still at b1.log met_settle words_settle survives1

    pub settle_waits : WaitsFor b1.nodes (printed met_settle) at w.0 n
    settle_waits = waits_still at b1.log met_settle words_settle b1.nodes w.0 n waits1

    pub settle_primary : primary_of (printed met_settle) ≡ Some p
    settle_primary = words_settle.primary ∙ log_has k.call (λ l. primary_of (printed l) ≡ Some p) k.primary

    pub settle_older : IsOlder (newest_version (printed met_settle)) (job_at n.0 met_settle)
    settle_older = older_still at b1.log met_settle words_settle n.0 (newest_version (printed b1.log)) refl (log_has k.call (λ l. IsOlder (newest_version (printed l)) (job_at n.0 l)) k.older)

    pub settle_newest : v.0 ≡ newest_version (printed met_settle)
    settle_newest = k.newest ∙ (ap (λ (l : Log). newest_version (printed l)) (sym k.call.e1) ∙ sym words_settle.newest)

    pub settle_source : IsNode b1.nodes p.0
    settle_source = nodes_have k.call (λ z. IsNode z p.0) k.node_p

    -- it is refused where the disk of its source failed
    pub settle_rule : has_risen p.0 1 olds news ≡ true → KeepsRule b1.nodes (printed met_settle) at (Refused DiskFault)
    settle_rule risen = fails_met b1.nodes at p.0 olds news b1.log
        (meets_source b1.nodes (printed b1.log) at n.0 v.0 (subst (λ (x : ℕ × Log). IsLegalPast x.0 (printed x.1)) (λ i. (sym k.call.n1 i, sym k.call.e1 i)) k.legal) (Settling w) started1 waits1.was line1' waits1.ordered waits1.survives survives1
        p (log_has k.call (λ l. primary_of (printed l) ≡ Some p) k.primary)) risen

    pub settle_fail_turn : InTurn (printed met_settle) at (Refused DiskFault)
    settle_fail_turn = fail_turn (printed met_settle) at settle_line

    -- it was refused, and no job began
    pub no_settle_path : (b2 : Sheet) (new : List (Option (NodePlace D))) → IsLegalPast b1.nodes (printed met_settle) → AreInTurn (printed met_settle) → has_risen p.0 1 olds news ≡ true → b2.log ≡ shown at (Refused DiskFault) ∷ met_settle → b2.nodes ≡ b1.nodes → b2.cut ≡ b1.cut
        → AltersIn cells p.0 old new → ClusterStands cells b2.nodes new b2.cut board b2.log
    no_settle_path b2 new legal turns risen e2 n2 c2 b =
        subst (λ (z : Log × (Bool × ℕ)). ClusterStands cells z.1.1 new z.1.0 board z.0) (λ i. (sym e2 i, (sym c2 i, sym n2 i)))
        (refused_stands cells b1.nodes b1.cut board met_settle new at DiskFault legal turns (settle_rule risen) settle_fail_turn
        (λ is. settle_is (sym settle_started ∙ is)) (ap is_commit_line settle_started) (altered_stands cells b1.nodes b1.cut board met_settle old new p.0 settle_source b (met_stands k.call at olds news)))
      where
        settle_is : Some (Settling w) ≡ Some Publishing → ⊥
        settle_is same = absurd (cc)
