-- What others append leaves a job of a line, and what a settle has left, where they are.
use Rattle.std.proofs.Common.{◌≡◌, ◌≢◌, ◌≤◌, ◌<◌, ◌&&◌, ◌||◌, ◌==◌, ℕ, Bool, true, false, true≢false, [], ◌∷◌, ◌++◌, Some, None, Option, length, refl, ap, ◌∙◌, sym, subst, inl, inr, arith, if◌then◌else◌}
use Rattle.std.specs.Prelude.{not}
use Rattle.std.proofs.Math.Bool.{and-false}
use Rattle.std.proofs.lemmas.Bool.{or_right}
use Rattle.std.proofs.lemmas.Bool.Decides.{nat_tests}
use Rattle.std.proofs.lemmas.List.Elements.{All-weaker}
use Rattle.nrt_base.specs.declared.numbers.At.{At}
use Rattle.nrt_base.specs.declared.numbers.NodeNo.{NodeNo}
use Rattle.disk_model.specs.Disk.{Name, Content, same}
use Rattle.history_rules.specs.declared.entry.Event.{Event}
use Rattle.history_rules.specs.declared.entry.Event.TheVariants.{Fault as Met, Merging}
use Rattle.history_rules.specs.declared.entry.Entry.{Entry}
use Rattle.history_rules.specs.declared.cause.FaultKind.{FaultKind}
use Rattle.history_rules.specs.declared.cause.FaultKind.TheVariants.{Link, Damage}
use Rattle.history_rules.specs.Faults.{has_fault, same_kind}
use Rattle.history_rules.specs.Nodes.{Past, IsReplica, crashes, is_running, version_of}
use Rattle.history_rules.specs.Lines.{same_at, is_reply, is_answered, before_start, highest_switched, NodeSurvives}
use Rattle.history_rules.specs.Points.{operations_of_generation}
use Rattle.history_rules.specs.Legal.{IsLegalPast}
use Rattle.history_rules.proofs.NodeLemmas.{crashes_rise, runs_through}
use Rattle.history_rules.proofs.PastLemmas.{legal_before}
use Rattle.history_tables.specs.declared.jobs.Job.{Job}
use Rattle.history_tables.specs.declared.jobs.JobRow.{JobRow}
use Rattle.history_tables.specs.declared.jobs.JobStep.{JobStep}
use Rattle.history_tables.specs.declared.jobs.JobStep.TheVariants.{Begins, Ends, Passes}
use Rattle.history_tables.specs.declared.lines.BegunLine.{BegunLine}
use Rattle.history_tables.specs.Begins.{begun_by, open_line}
use Rattle.history_tables.specs.JobRows.{row_by, row_if_some, is_going, last_job_by}
use Rattle.history_book.specs.declared.inner.Inner.{Inner}
use Rattle.history_book.specs.declared.inner.Inner.TheVariants.{JobBegun, FileOut, JobEnd}
use Rattle.history_book.specs.declared.inner.Mark.TheVariants.{Shown, TaskFault, Kept}
use Rattle.history_book.specs.Log.{Log, printed, lane_name, name_inside, begins_merge, has_merging, FollowsMerging, FaultsFollow}
use Rattle.history_book.specs.Turns.{AreInTurn}
use Rattle.history_book.proofs.FreshLaws.{open_unanswered}
use Rattle.history_book.specs.Jobs.{job_step, job_of}
use Rattle.history_book.proofs.ReignLaws.{since_start, node_crashes_rise}
use Rattle.lane_threads.specs.Walks.{NoneOf, GrowsByOthers, LineStays}
use Rattle.lane_threads.proofs.WalkLemmas.{other_lane}
use Rattle.history_tables.proofs.RowLemmas.{by_test, same_at_is}
use Rattle.lane_threads.proofs.StayLemmas.{merging_there, other_line, more_printed}
use Rattle.link_model.specs.declared.fate.Fate.{Fate}
use Rattle.link_model.specs.declared.fate.Fate.TheVariants.{Whole, Fail, Damage as DamageFate}
use Rattle.cluster_nodes.specs.declared.tasks.CopyTask.{CopyTask}
use Rattle.cluster_nodes.specs.declared.tasks.FileTask.{FileTask}
use Rattle.cluster_nodes.specs.declared.tasks.SettleTask.{SettleTask}
use Rattle.cluster_state.specs.DueFaults.{MeetsFate}
use Rattle.cluster_state.specs.FilesOut.{file_out, handed_file, is_job}
use Rattle.cluster_state.specs.Settles.{IsLeft, IsSettling}
use Rattle.lane_copies.specs.Jobs.{IsJobStart, IsCopyingBy, HasFileOut, IsStillSettling}

-- ---- the line

still_by : (b : Bool) (a : At) (e : Event) (past : Past) (n m : ℕ) (o : Option BegunLine) → FollowsMerging a e past → (if b then begun_by e n m o else o) ≡ o
still_by true a (Met k kind) past n m o h = refl
still_by false a (Met k kind) past n m o h = refl
still_by b a e past n m o h = absurd h

module _ (at : At) where
  open_apart : (more old : Log) → NoneOf at.lane.0 more → FaultsFollow (more ++ old) → open_line at (printed (more ++ old)) ≡ open_line at (printed old)
  open_apart [] old h f = refl
  open_apart (Shown e ∷ more) old h f =
      let past : Past = printed (more ++ old) in
      ap (λ (b : Bool). if b then begun_by e.event (length past) (length (operations_of_generation past)) (open_line at past) else open_line at past) (other_line e.at at h.0)
      ∙ open_apart more old h.1 f
  open_apart (TaskFault e ∷ more) old h f =
      let past : Past = printed (more ++ old) in
      still_by (same_at e.at at) e.at e.event past (length past) (length (operations_of_generation past)) (open_line at past) f.0 ∙ open_apart more old h.1 f.1
  open_apart (Kept i ∷ more) old h f = open_apart more old h.1 f

  high_fault : (a : At) (e : Event) (past : Past) → FollowsMerging a e past → highest_switched at (record { at = a; event = e } ∷ past) ≡ highest_switched at past
  high_fault a (Met k kind) past h = elim (same_at a at) as (λ b. (if b then highest_switched at past else highest_switched at past) ≡ highest_switched at past) [ true ↦ refl | false ↦ refl ]
  high_fault a e past h = absurd h

  high_other : (a : At) (e : Event) (past : Past) → same_at a at ≡ false → highest_switched at (record { at = a; event = e } ∷ past) ≡ highest_switched at past
  high_other a e past other = rw other refl

  high_apart : (more old : Log) → NoneOf at.lane.0 more → FaultsFollow (more ++ old) → highest_switched at (printed (more ++ old)) ≡ highest_switched at (printed old)
  high_apart [] old h f = refl
  high_apart (Shown e ∷ more) old h f = high_other e.at e.event (printed (more ++ old)) (other_line e.at at h.0) ∙ high_apart more old h.1 f
  high_apart (TaskFault e ∷ more) old h f = high_fault e.at e.event (printed (more ++ old)) f.0 ∙ high_apart more old h.1 f.1
  high_apart (Kept i ∷ more) old h f = high_apart more old h.1 f

-- ---- the job

-- the last job of a lane is the same, however far it has come
pub record IsSameJob (o : Option JobRow) (job : Job) : Type 0 where
  pub row : JobRow
  pub last : o ≡ Some row
  pub job_is : row.job ≡ job

row_job : (step : JobStep) (row : JobRow) → (row_by step row).job ≡ row.job
row_job (Begins job) row = elim ((row.job.node.0 == job.node.0) && is_going row) as (λ b. (if b then record row { later = Some job.version } else row).job ≡ row.job) [ true ↦ refl | false ↦ refl ]
row_job (Ends line n number) row =
    elim (((row.job.at.line.0 == line.0) && (row.job.node.0 == n.0)) && (row.job.number == number)) as (λ b. (if b then record row { ended = true } else row).job ≡ row.job) [ true ↦ refl | false ↦ refl ]
row_job Passes row = refl

stepped : (step : JobStep) (o : Option JobRow) (job : Job) → IsSameJob o job → IsSameJob (row_if_some step o) job
stepped step o job s =
    record { row = row_by step s.row; last = ap (row_if_some step) s.last; job_is = row_job step s.row ∙ s.job_is }

job_kept : (lane : ℕ) (i : Inner) (before : ℕ) (o : Option JobRow) (job : Job) → name_inside i ≢ lane_name lane → IsSameJob o job → IsSameJob (last_job_by true lane (job_step i) before o) job
job_kept lane (JobBegun line n number (Some v) (Some a)) before o job other s =
    let apart : (a.lane.0 == lane) ≡ false = other_lane a.lane.0 lane other in
    let began : Job = record { at = a; node = n; number = number; version = v } in
    rw apart (stepped (Begins began) o job s)
job_kept lane (JobEnd line n number) before o job other s = stepped (Ends line n number) o job s
job_kept lane i before o job other s = stepped Passes o job s

job_apart : (lane : ℕ) (more old : Log) (job : Job) → NoneOf lane more → IsSameJob (job_of lane old) job → IsSameJob (job_of lane (more ++ old)) job
job_apart lane [] old job h s = s
job_apart lane (Shown e ∷ more) old job h s = job_apart lane more old job h.1 s
job_apart lane (TaskFault e ∷ more) old job h s = job_apart lane more old job h.1 s
job_apart lane (Kept i ∷ more) old job h s = job_kept lane i (length (printed (more ++ old))) (job_of lane (more ++ old)) job h.0 (job_apart lane more old job h.1 s)

-- ---- files that are out

by_other : (at a : At) (n number m k : ℕ) → lane_name a.lane.0 ≢ lane_name at.lane.0 → is_job at n number (Some a) m k ≡ false
by_other at a n number m k other =
    let apart : (a.lane.0 == at.lane.0) ≡ false = other_lane a.lane.0 at.lane.0 other in
    let flipped : (at.lane.0 == a.lane.0) ≡ false = grind (arith, nat_tests) in
    ap (λ (t : Bool). ((t && (at.line.0 == a.line.0)) && (n == m)) && (number == k)) flipped

out_kept : (at : At) (n number : ℕ) (q : Name) (i : Inner) (old : Content) → name_inside i ≢ lane_name at.lane.0 → handed_file at n number q i old ≡ old
out_kept at n number q (JobBegun line m k v (Some a)) old other = ap (λ (b : Bool). if b then None else old) (by_other at a n number m.0 k other)
out_kept at n number q (JobBegun line m k v None) old other = refl
out_kept at n number q (FileOut line m k name source fate (Some a)) old other = ap (λ (b : Bool). if b && same name q then Some source else old) (by_other at a n number m.0 k other)
out_kept at n number q (FileOut line m k name source fate None) old other = refl
out_kept at n number q i old other = refl

pub out_apart : (at : At) (n number : ℕ) (q : Name) (more old : Log) → NoneOf at.lane.0 more → file_out at n number q (more ++ old) ≡ file_out at n number q old
out_apart at n number q [] old h = refl
out_apart at n number q (Shown e ∷ more) old h = out_apart at n number q more old h.1
out_apart at n number q (TaskFault e ∷ more) old h = out_apart at n number q more old h.1
out_apart at n number q (Kept i ∷ more) old h = out_kept at n number q i (file_out at n number q (more ++ old)) h.0 ∙ out_apart at n number q more old h.1

-- ---- what the line met

-- a line with a merge has its reply
merging_replied : (at : At) (past : Past) → has_merging at past ≡ true → is_answered at past ≡ true
merging_replied at [] is = absurd (true≢false (sym is))
merging_replied at (e ∷ past) is = step e.event (same_at e.at at) (has_merging at past) (λ was. merging_replied at past was) is
  where
    step : (x : Event) (s m : Bool) → (m ≡ true → is_answered at past ≡ true) → ((begins_merge x && s) || m) ≡ true → ((is_reply x && s) || is_answered at past) ≡ true
    step (Merging seg) true m rest is = refl
    step (Merging seg) false m rest is = rest is
    step x s m rest is = or_right (is_reply x && s) (is_answered at past) (rest is)

rest_false : (a b : Bool) → (a || b) ≡ false → b ≡ false
rest_false true b is = absurd (true≢false is)
rest_false false b is = is

module _ (at : At) (node : ℕ → Bool) (kinds : FaultKind → Bool) where
  -- the fault of a merge's task is none of a line that has no reply
  not_mine : (a : At) (e : Event) (past : Past) → FollowsMerging a e past → is_answered at past ≡ false → same_at a at ≡ false
  not_mine a e past f unanswered =
      by_test (same_at a at) (λ b. b ≡ false)
      (λ same. absurd (true≢false (sym (merging_replied at past (subst (λ (x : At). has_merging x past ≡ true) (same_at_is a at same) (merging_there a e past f))) ∙ unanswered)))
      (λ other. refl)

  met_step : (e : Entry) (past : Past) → same_at e.at at ≡ false → has_fault node kinds at (e ∷ past) ≡ has_fault node kinds at past
  met_step e past other =
      let hurt : Bool = elim e.event [ Met m met ↦ node m.0 && kinds met | _ ↦ false ] in
      let was : Bool = has_fault node kinds at past in
      ap (λ (t : Bool). (hurt && t) || was) other ∙ ap (λ (b : Bool). b || was) (and-false hurt)

  met_apart : (more old : Log) → NoneOf at.lane.0 more → FaultsFollow (more ++ old) → is_answered at (printed (more ++ old)) ≡ false → has_fault node kinds at (printed (more ++ old)) ≡ has_fault node kinds at (printed old)
  met_apart [] old h f unanswered = refl
  met_apart (Shown e ∷ more) old h f unanswered =
      met_step e (printed (more ++ old)) (other_line e.at at h.0)
      ∙ met_apart more old h.1 f (rest_false (is_reply e.event && same_at e.at at) (is_answered at (printed (more ++ old))) unanswered)
  met_apart (TaskFault e ∷ more) old h f unanswered =
      let rest : is_answered at (printed (more ++ old)) ≡ false = rest_false (is_reply e.event && same_at e.at at) (is_answered at (printed (more ++ old))) unanswered in
      met_step e (printed (more ++ old)) (not_mine e.at e.event (printed (more ++ old)) f.0 rest) ∙ met_apart more old h.1 f.1 rest
  met_apart (Kept i ∷ more) old h f unanswered = met_apart more old h.1 f unanswered

-- ---- together

module _ {logged : Bool} (at : At) (old new : Log) (grows : GrowsByOthers logged at.lane.0 old new) (stays : LineStays at old new) where
  follow : FaultsFollow (grows.more ++ old)
  follow = subst FaultsFollow grows.log grows.faults.follow

  pub open_stays : open_line at (printed new) ≡ open_line at (printed old)
  open_stays = ap (λ (l : Log). open_line at (printed l)) grows.log ∙ open_apart at grows.more old grows.apart follow

  pub high_stays : highest_switched at (printed new) ≡ highest_switched at (printed old)
  high_stays = ap (λ (l : Log). highest_switched at (printed l)) grows.log ∙ high_apart at grows.more old grows.apart follow

  pub out_stays : (n number : ℕ) (q : Name) → file_out at n number q new ≡ file_out at n number q old
  out_stays n number q = ap (file_out at n number q) grows.log ∙ out_apart at n number q grows.more old grows.apart

  met_stays : is_answered at (printed new) ≡ false → (node : ℕ → Bool) (kinds : FaultKind → Bool) → has_fault node kinds at (printed new) ≡ has_fault node kinds at (printed old)
  met_stays unanswered node kinds =
      ap (λ (l : Log). has_fault node kinds at (printed l)) grows.log
      ∙ met_apart at node kinds grows.more old grows.apart follow (subst (λ (l : Log). is_answered at (printed l) ≡ false) grows.log unanswered)

  -- what makes of a file what becomes of it
  fate_stays : is_answered at (printed new) ≡ false → (fate : Fate) (n : ℕ) → MeetsFate fate at n (printed old) → MeetsFate fate at n (printed new)
  fate_stays unanswered Whole n met = tt
  fate_stays unanswered Fail n met = met_stays unanswered (λ m. m == n) (same_kind Link) ∙ met
  fate_stays unanswered (DamageFate byte) n met =
      met_stays unanswered (λ k. (k == n) && not (has_fault (λ m. m == k) (same_kind Link) at (printed new))) (same_kind Damage)
      ∙ ((λ i. has_fault (λ k. (k == n) && not (met_stays unanswered (λ m. m == k) (same_kind Link) i)) (same_kind Damage) at (printed old)) ∙ met)

  pub copying_stays : (task : CopyTask) → IsCopyingBy at task old → IsCopyingBy at task new
  copying_stays task c =
      let s : IsSameJob (job_of at.lane.0 new) c.row.job =
      subst (λ (l : Log). IsSameJob (job_of at.lane.0 l) c.row.job) (sym grows.log)
      (job_apart at.lane.0 grows.more old c.row.job grows.apart (record { row = c.row; last = c.last; job_is = refl })) in
      record {
        row = s.row;
        last = s.last;
        at_is = ap (λ (j : Job). j.at) s.job_is ∙ c.at_is;
        node = ap (λ (j : Job). j.node) s.job_is ∙ c.node;
        number = ap (λ (j : Job). j.number) s.job_is ∙ c.number;
        line = c.line;
        started = subst (IsJobStart task.node.0) (sym stays.start) c.started;
        is_open = λ none. c.is_open (sym open_stays ∙ none);
        ordered = subst (λ (k : ℕ). k < task.node.0) (sym high_stays) c.ordered;
      }

  -- a file that is out to the job
  pub file_stays : AreInTurn (printed new) → (task : CopyTask) (file : FileTask) → HasFileOut at task file old → HasFileOut at task file new
  file_stays turns task file has =
      let copying : IsCopyingBy at task new = copying_stays task has.copying in
      record {
        copying = copying;
        out = out_stays task.node.0 task.job file.name ∙ has.out;
        met = fate_stays (open_unanswered at (printed new) turns copying.is_open) file.fate task.node.0 has.met;
        meta = has.meta;
        footer = has.footer;
      }

-- ---- what a settle has left

crashes_more : (n : ℕ) (more past : Past) → crashes n past ≤ crashes n (more ++ past)
crashes_more n [] past = omega arith
crashes_more n (e ∷ more) past = omega (arith, crashes_more n more past, crashes_rise n (more ++ past) e)

-- a node that has not crashed since a line's start had not crashed before others went on, and its version is no lower now
pub record IsAlive (at : At) (n : ℕ) (old new : Past) : Type 0 where
  pub survives : NodeSurvives old at n
  pub version : version_of n old ≤ version_of n new

alive : (size : ℕ) (at : At) (n : ℕ) (more old : Past) → IsLegalPast size (more ++ old) → before_start at (more ++ old) ≡ before_start at old → IsReplica (before_start at old) n
    → NodeSurvives (more ++ old) at n → IsAlive at n old (more ++ old)
alive size at n more old legal before replica survives =
    let start : Past = before_start at old in
    let whole : crashes n (more ++ old) ≡ crashes n start = survives.node ∙ ap (crashes n) before in
    let low = node_crashes_rise n at old in
    let high = crashes_more n more old in
    let same : crashes n old ≡ crashes n start = omega arith in
    let since = since_start at old in
    let there : IsLegalPast size (since.newer ++ start) = subst (IsLegalPast size) since.split (legal_before size more old legal) in
    let few : crashes n (since.newer ++ start) ≤ crashes n start = subst (λ (p : Past). crashes n p ≤ crashes n start) since.split (omega arith) in
    let ran : is_running n old ≡ true = subst (λ (p : Past). is_running n p ≡ true) (sym since.split) (runs_through size n since.newer start there replica.running few).running in
    record { survives = record { node = same }; version = (runs_through size n more old legal ran (omega arith)).version }

module _ {logged : Bool} (size : ℕ) (at : At) (old new : Log) (legal : IsLegalPast size (printed new)) (grows : GrowsByOthers logged at.lane.0 old new) (stays : LineStays at old new) where
  alive_here : (n : ℕ) → IsReplica (before_start at (printed old)) n → NodeSurvives (printed new) at n → IsAlive at n (printed old) (printed new)
  alive_here n replica survives =
      let all : printed new ≡ printed grows.more ++ printed old = ap printed grows.log ∙ more_printed grows.more (old) in
      subst (λ (p : Past). IsAlive at n (printed old) p) (sym all)
      (alive size at n (printed grows.more) (printed old) (subst (IsLegalPast size) all legal) (ap (before_start at) (sym all) ∙ stays.before) replica (subst (λ (p : Past). NodeSurvives p at n) all survives))

  was_replica : (n : ℕ) → IsReplica (before_start at (printed new)) n → IsReplica (before_start at (printed old)) n
  was_replica n = subst (λ (p : Past). IsReplica p n) stays.before

  left_still : (v : ℕ) (n : NodeNo) → IsLeft size (printed old) at v n → IsLeft size (printed new) at v n
  left_still v n left = record {
    node = left.node;
    replica = subst (λ (p : Past). IsReplica p n.0) (sym stays.before) left.replica;
    ordered = λ survives.
        let a : IsAlive at n.0 (printed old) (printed new) = alive_here n.0 left.replica survives in
        elim (left.ordered a.survives) [
          | inl low ↦ inl (subst (λ (k : ℕ). k < n.0) (sym (high_stays at old new grows stays)) low)
          | inr reached ↦ inr (omega (arith, reached, a.version))
        ];
  }

  pub settling_stays : (task : SettleTask) → IsSettling size (printed old) at task → IsSettling size (printed new) at task
  settling_stays task s = record {
    started = stays.start ∙ s.started;
    is_open = λ none. s.is_open (sym (open_stays at old new grows stays) ∙ none);
    left = All-weaker (IsLeft size (printed old) at task.version.0) (IsLeft size (printed new) at task.version.0) (left_still task.version.0) task.left.items s.left;
    ascending = s.ascending;
    reached = λ n node replica survives.
        let a : IsAlive at n.0 (printed old) (printed new) = alive_here n.0 (was_replica n.0 replica) survives in
        elim (s.reached n node (was_replica n.0 replica) a.survives) [
          | inl is ↦ inl is
          | inr reached ↦ inr (omega (arith, reached, a.version))
        ];
  }

pub still_settling_stays : {logged : Bool} (size nodes : ℕ) (at : At) (old new : Log) → nodes ≡ size → IsLegalPast nodes (printed new) → GrowsByOthers logged at.lane.0 old new → LineStays at old new → (task : SettleTask)
    → IsStillSettling size at task old → IsStillSettling nodes at task new
still_settling_stays size nodes at old new same legal grows stays task s line =
    subst (λ (k : ℕ). IsSettling k (printed new) at task) (sym same)
    (settling_stays size at old new (subst (λ (k : ℕ). IsLegalPast k (printed new)) same legal) grows stays task (s (λ none. line (open_stays at old new grows stays ∙ none))))
