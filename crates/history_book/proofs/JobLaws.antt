-- A job that was overtaken: a later one at its node began for another line, so that its own may be refused as cancelled.
use Rattle.std.proofs.Common.{◌≡◌, ◌≢◌, ◌≤◌, ◌<◌, ◌+◌, ◌&&◌, ◌||◌, ◌==◌, ◌++◌, ⊎_elim, ℕ, Bool, true, false, true≢false, [], ◌∷◌, Some, None, Option, length, max, nat_le, refl, ap, ◌∙◌, sym, subst, arith, if◌then◌else◌}
use Rattle.std.specs.Prelude.{not, nat_lt, is_some}
use Rattle.std.proofs.lemmas.Bool.{eqb-true, eq-eqb, or_cases, or_right}
use Rattle.std.proofs.lemmas.Bool.Decides.{nat_tests}
use Rattle.std.proofs.Math.Bool.{and-false}
use Rattle.nrt_base.specs.declared.numbers.At.{At}
use Rattle.nrt_base.specs.declared.numbers.LineNo.{LineNo}
use Rattle.nrt_base.specs.declared.numbers.NodeNo.{NodeNo}
use Rattle.nrt_base.specs.declared.numbers.Version.{Version}
use Rattle.history_rules.specs.declared.entry.Entry.{Entry}
use Rattle.history_rules.specs.declared.entry.Event.{Event}
use Rattle.history_rules.specs.declared.entry.Event.TheVariants.{Published, Copying, Settling, Crashed, Reopened, Promoted}
use Rattle.history_rules.specs.Nodes.{Past, primary_by, version_of, IsNode, IsReplica, is_at, primary_of, primary_crashes, is_running, crashes, newest_version, is_point, is_made_in_generation}
use Rattle.history_rules.specs.Commits.{is_passed}
use Rattle.history_rules.specs.Lines.{highest_switched, same_at, is_start, is_reply, is_answered, start_entry, before_start, NodeSurvives, SourceSurvives}
use Rattle.history_rules.specs.Rules.{StartedCopy, MaySwitch, MayCancel, IsLineWhole}
use Rattle.history_rules.specs.Started.{is_node_of, is_copied_beside, is_settled_beside}
use Rattle.history_rules.specs.Legal.{KeepsRule, IsLegalPast}
use Rattle.history_rules.proofs.PastLemmas.{point_stays, newest_made}
use Rattle.history_rules.proofs.NodeLemmas.{known, crashes_rise, runs_through}
use Rattle.history_tables.specs.NodeRows.{crashed_at}
use Rattle.history_tables.specs.Numbering.{primary_crashed}
use Rattle.history_rules.specs.Steps.{is_running_by}
use Rattle.history_book.specs.Steps.{crashed_by, primary_crashed_by}
use Rattle.history_book.specs.declared.inner.Inner.{Inner}
use Rattle.history_book.specs.declared.inner.Inner.TheVariants.{JobBegun, JobEnd}
use Rattle.history_book.specs.declared.inner.Mark.TheVariants.{Shown, TaskFault, Kept}
use Rattle.history_tables.specs.declared.jobs.Job.{Job}
use Rattle.history_tables.specs.declared.jobs.JobRow.{JobRow}
use Rattle.history_tables.specs.declared.jobs.JobStep.{JobStep}
use Rattle.history_tables.specs.declared.jobs.JobStep.TheVariants.{Begins, Ends, Passes}
use Rattle.history_tables.specs.JobRows.{new_job_row, is_going, row_by, row_if_some, last_job_by, while_going}
use Rattle.history_book.specs.Jobs.{job_step, last_job, job_at, job_of, StartsJob, IsOlder, MayBeginJob, IsInside, AreInside, IsCancelled, LaneJobShows, JobRests}
use Rattle.history_book.specs.Log.{Log, printed}
use Rattle.history_book.specs.Turns.{StartsOnce, InTurn, AreInTurn}
use Rattle.history_tables.proofs.RowLemmas.{same_at_is}
use Rattle.history_book.proofs.FreshLaws.{open_unanswered}
use Rattle.history_book.proofs.ToldLaws.{passes_old}
use Rattle.history_book.proofs.ReignLaws.{since_start, reigns_on, start_kept, start_short, node_alive, source_alive, node_crashes_rise, source_crashes_rise, primary_crashes_rise}

going_if : (b : Bool) (r : JobRow) (v : Version) → is_going (if b then record r { later = Some v } else r) ≡ true → b ≡ false
going_if true r v going = absurd (true≢false (sym going ∙ and-false (not r.ended)))
going_if false r v going = refl

ended_if : (b : Bool) (r : JobRow) → is_going (if b then record r { ended = true } else r) ≡ true → b ≡ false
ended_if true r going = absurd (true≢false (sym going))
ended_if false r going = refl

-- a job that goes on is as it was
going_same : (s : JobStep) (r : JobRow) → is_going (row_by s r) ≡ true → row_by s r ≡ r
going_same (Begins job) r going = ap (λ (b : Bool). if b then record r { later = Some job.version } else r) (going_if ((r.job.node.0 == job.node.0) && is_going r) r job.version going)
going_same (Ends line n number) r going = ap (λ (b : Bool). if b then record r { ended = true } else r) (ended_if (((r.job.at.line.0 == line.0) && (r.job.node.0 == n.0)) && (r.job.number == number)) r going)
going_same Passes r going = refl

-- no later job has begun at the node of one that goes on
going_apart : (job : Job) (r : JobRow) → is_going (row_by (Begins job) r) ≡ true → (job.node.0 == r.job.node.0) ≡ false
going_apart job r going =
    let on : is_going r ≡ true = ap is_going (sym (going_same (Begins job) r going)) ∙ going in
    apart (r.job.node.0 == job.node.0) refl (going_if ((r.job.node.0 == job.node.0) && is_going r) r job.version going) on
  where
    apart : (b : Bool) → (r.job.node.0 == job.node.0) ≡ b → (b && is_going r) ≡ false → is_going r ≡ true → (job.node.0 == r.job.node.0) ≡ false
    apart true is none on = absurd (true≢false (sym on ∙ none))
    apart false is none on = grind (arith, nat_tests)

going_more : (s : JobStep) (before : ℕ) (log : Log) (r : JobRow) → is_going (row_by s r) ≡ true → last_job false r.job.node.0 log ≡ Some r
    → last_job_by false r.job.node.0 s before (last_job false r.job.node.0 log) ≡ Some (row_by s r)
going_more (Begins job) before log r going was =
    ap (λ (b : Bool). if b then Some (new_job_row job before) else row_if_some (Begins job) (last_job false r.job.node.0 log)) (going_apart job r going) ∙ ap (row_if_some (Begins job)) was
going_more (Ends line n number) before log r going was = ap (row_if_some (Ends line n number)) was
going_more Passes before log r going was = ap (row_if_some Passes) was

going_old : (s : JobStep) (before : ℕ) (log : Log) (o : Option JobRow) (row : JobRow) → row_if_some s o ≡ Some row → is_going row ≡ true
    → ((r : JobRow) → o ≡ Some r → is_going r ≡ true → last_job false r.job.node.0 log ≡ Some r)
    → last_job_by false row.job.node.0 s before (last_job false row.job.node.0 log) ≡ Some row
going_old s before log None row is going was = absurd (cc)
going_old s before log (Some r) row is going was =
    let made : row_by s r ≡ row = cc in
    let on : is_going (row_by s r) ≡ true = ap is_going made ∙ going in
    let same : row_by s r ≡ r = going_same s r on in
    let old : last_job false r.job.node.0 log ≡ Some r = was r refl (ap is_going (sym same) ∙ on) in
    subst (λ (x : JobRow). last_job_by false x.job.node.0 s before (last_job false x.job.node.0 log) ≡ Some x) (sym same ∙ made)
    (going_more s before log r on old ∙ ap Some same)

going_step : (lane : ℕ) (s : JobStep) (before : ℕ) (log : Log) (row : JobRow) → last_job_by true lane s before (last_job true lane log) ≡ Some row → is_going row ≡ true
    → ((r : JobRow) → last_job true lane log ≡ Some r → is_going r ≡ true → last_job false r.job.node.0 log ≡ Some r)
    → last_job_by false row.job.node.0 s before (last_job false row.job.node.0 log) ≡ Some row
going_step lane (Begins job) before log row is going was = begins (job.at.lane.0 == lane) is
  where
    begins : (b : Bool) → (if b then Some (new_job_row job before) else row_if_some (Begins job) (last_job true lane log)) ≡ Some row
        → last_job_by false row.job.node.0 (Begins job) before (last_job false row.job.node.0 log) ≡ Some row
    begins true new =
        let made : new_job_row job before ≡ row = cc in
        subst (λ (x : JobRow). last_job_by false x.job.node.0 (Begins job) before (last_job false x.job.node.0 log) ≡ Some x) made
        (ap (λ (b : Bool). if b then Some (new_job_row job before) else row_if_some (Begins job) (last_job false job.node.0 log)) (eq-eqb job.node.0 job.node.0 refl))
    begins false old = going_old (Begins job) before log (last_job true lane log) row old going was
going_step lane (Ends line n number) before log row is going was = going_old (Ends line n number) before log (last_job true lane log) row is going was
going_step lane Passes before log row is going was = going_old Passes before log (last_job true lane log) row is going was

-- a job of a lane that goes on is the last one at its node
pub going_at : (lane : ℕ) (log : Log) (row : JobRow) → job_of lane log ≡ Some row → is_going row ≡ true → last_job false row.job.node.0 log ≡ Some row
going_at lane [] row is going = absurd (cc)
going_at lane (Shown e ∷ log) row is going = going_at lane log row is going
going_at lane (TaskFault e ∷ log) row is going = going_at lane log row is going
going_at lane (Kept i ∷ log) row is going = going_step lane (job_step i) (length (printed log)) log row is going (λ r was on. going_at lane log r was on)

-- the newest version is a point
newest_step : (size : ℕ) (past : Past) (at : At) (e : Event) → KeepsRule size past at e → is_point (newest_version past) past ≡ true
    → is_point (newest_version (record { at = at; event = e } ∷ past)) (record { at = at; event = e } ∷ past) ≡ true
newest_step size past at (Published g w) keeps was =
    let next : w.0 ≡ newest_version past + 1 = keeps.next in
    let top : max (newest_version past) w.0 ≡ w.0 = omega arith in
    ap (λ (k : ℕ). if w.0 == k then true else is_point k past) top ∙ ap (λ (b : Bool). if b then true else is_point w.0 past) (eq-eqb w.0 w.0 refl)
newest_step size past at (Promoted m g f w) keeps was =
    let above : w.0 ≡ f.0 + 1 = keeps.above in
    let high : newest_version past ≤ f.0 = keeps.high in
    let top : max (newest_version past) w.0 ≡ w.0 = omega arith in
    ap (λ (k : ℕ). if w.0 == k then true else is_point k past) top ∙ ap (λ (b : Bool). if b then true else is_point w.0 past) (eq-eqb w.0 w.0 refl)
newest_step size past at e keeps was = was

newest_point : (size : ℕ) (past : Past) → IsLegalPast size past → is_point (newest_version past) past ≡ true
newest_point size [] legal = refl
newest_point size (e ∷ past) legal = newest_step size past e.at e.event legal.0 (newest_point size past legal.1)

newest_rises : (past : Past) (e : Entry) → newest_version past ≤ newest_version (e ∷ past)
newest_rises past e = step e.event
  where
    step : (e' : Event) → newest_version past ≤ newest_version (record { at = e.at; event = e' } ∷ past)
    step (Published g w) = omega arith
    step (Promoted m g f w) = omega arith
    step e' = omega arith

newest_since : (newer older : Past) → newest_version older ≤ newest_version (newer ++ older)
newest_since [] older = omega arith
newest_since (e ∷ newer) older = let rise = newest_rises (newer ++ older) e in let rest = newest_since newer older in omega (arith, rest, rise)

pub newest_before : (at : At) (past : Past) → newest_version (before_start at past) ≤ newest_version past
newest_before at past = let s = since_start at past in subst (λ (p : Past). newest_version (before_start at past) ≤ newest_version p) (sym s.split) (newest_since s.newer (before_start at past))

-- a line without a reply had none at a line's start
answered_since : (b : At) (newer older : Past) → is_answered b (newer ++ older) ≡ false → is_answered b older ≡ false
answered_since b [] older none = none
answered_since b (e ∷ newer) older none = answered_since b newer older (rest (is_reply e.event && same_at e.at b) none)
  where
    rest : (t : Bool) → (t || is_answered b (newer ++ older)) ≡ false → is_answered b (newer ++ older) ≡ false
    rest true none = absurd (true≢false none)
    rest false none = none

answered_before : (b at : At) (past : Past) → is_answered b past ≡ false → is_answered b (before_start at past) ≡ false
answered_before b at past none = let s = since_start at past in answered_since b s.newer (before_start at past) (subst (λ (p : Past). is_answered b p ≡ false) s.split none)

-- a settle of another line, which had no reply at this line's start
settled_beside : (at b : At) (start past : Past) (w : Version) → same_at b at ≡ false → is_answered b start ≡ false → start_entry b past ≡ Some (Settling w) → is_settled_beside start at past ≡ true
settled_beside at b start [] w apart none is = absurd (cc)
settled_beside at b start (e ∷ past) w apart none is = since (is_start e.event) (same_at e.at b) refl is (settled_beside at b start past w apart none)
  where
    settles : Event → Bool
    settles e' = elim e' [ Settling v ↦ true | _ ↦ false ]

    since : (t s : Bool) → same_at e.at b ≡ s → (if t && s then Some e.event else start_entry b past) ≡ Some (Settling w)
        → (start_entry b past ≡ Some (Settling w) → is_settled_beside start at past ≡ true)
        → ((settles e.event && not (same_at e.at at) && not (is_answered e.at start)) || is_settled_beside start at past) ≡ true
    since true true here got was =
        let same : e.event ≡ Settling w = cc in
        let line : e.at ≡ b = same_at_is e.at b here in
        let one : settles e.event ≡ true = ap settles same in
        let two : same_at e.at at ≡ false = ap (λ (a : At). same_at a at) line ∙ apart in
        let three : is_answered e.at start ≡ false = ap (λ (a : At). is_answered a start) line ∙ none in
        rw (one, two, three) refl
    since true false other got was = or_right _ _ (was got)
    since false s other got was = or_right _ _ (was got)

-- a copy of another line, which noted a later version than this line's start did
copied_beside : (size : ℕ) (at b : At) (node : ℕ → Bool) (past : Past) (m : NodeNo) (w : Version) → IsLegalPast size past → same_at b at ≡ false → node m.0 ≡ true
    → start_entry at past ≢ None → newest_version (before_start at past) < w.0 → start_entry b past ≡ Some (Copying m w) → is_copied_beside node w.0 at past ≡ true
copied_beside size at b node [] m w legal apart mine begun below is = absurd (cc)
copied_beside size at b node (e ∷ past) m w legal apart mine begun below is =
    since (is_start e.event && same_at e.at at) refl begun below (λ old low got. copied_beside size at b node past m w legal.1 apart mine old low got)
  where
    copies : Event → Bool
    copies e' = elim e' [ Copying k u ↦ node k.0 && (u.0 == w.0) | _ ↦ false ]

    other : (t s : Bool) → same_at e.at b ≡ s → (if t && s then Some e.event else start_entry b past) ≡ Some (Copying m w)
        → (start_entry b past ≡ Some (Copying m w) → is_copied_beside node w.0 at past ≡ true)
        → ((copies e.event && not (same_at e.at at)) || is_copied_beside node w.0 at past) ≡ true
    other true true here got was =
        let same : e.event ≡ Copying m w = cc in
        let line : e.at ≡ b = same_at_is e.at b here in
        let one : copies e.event ≡ true = ap copies same ∙ rw (mine, eq-eqb w.0 w.0 refl) refl in
        let two : same_at e.at at ≡ false = ap (λ (a : At). same_at a at) line ∙ apart in
        rw (one, two) refl
    other true false q got was = or_right _ _ (was got)
    other false s q got was = or_right _ _ (was got)

    -- at this line's start the other one had not begun
    early : same_at e.at at ≡ true → newest_version past < w.0 → (t s : Bool) → same_at e.at b ≡ s → (if t && s then Some e.event else start_entry b past) ≡ Some (Copying m w) → ⊥
    early mine low true true here got =
        let one = same_at_is e.at at mine in
        let two = same_at_is e.at b here in
        true≢false (sym (subst (λ (a : At). same_at a at ≡ true) two mine) ∙ apart)
    early mine low true false q got =
        let kept = (start_kept size b past (Copying m w) legal.1 got).newest in
        let low' = newest_before b past in omega arith
    early mine low false s q got =
        let kept = (start_kept size b past (Copying m w) legal.1 got).newest in
        let low' = newest_before b past in omega arith

    split : (t s : Bool) → (t && s) ≡ true → s ≡ true
    split true s is = is
    split false s none = absurd (true≢false (sym none))

    since : (t : Bool) → (is_start e.event && same_at e.at at) ≡ t → (if t then Some e.event else start_entry at past) ≢ None → newest_version (if t then past else before_start at past) < w.0
        → (start_entry at past ≢ None → newest_version (before_start at past) < w.0 → start_entry b past ≡ Some (Copying m w) → is_copied_beside node w.0 at past ≡ true)
        → (if t then false else ((copies e.event && not (same_at e.at at)) || is_copied_beside node w.0 at past)) ≡ true
    since true mine begun below was = absurd (early (split (is_start e.event) (same_at e.at at) mine) below (is_start e.event) (same_at e.at b) refl is)
    since false not_mine begun below was = other (is_start e.event) (same_at e.at b) refl is (was begun below)

-- from its start on the line of a job is the same line, after one more entry
module _ (size : ℕ) (past : Past) (e : Entry) (at : At) (turn : InTurn past e.at e.event) (begun : start_entry at past ≢ None) where
  still_apart : (is_start e.event && same_at e.at at) ≡ false
  still_apart = tests (is_start e.event) (same_at e.at at) refl turn.once
    where
      tests : (t s : Bool) → same_at e.at at ≡ s → StartsOnce t e.at past → (t && s) ≡ false
      tests true true here once = absurd (begun (ap (λ (a : At). start_entry a past) (sym (same_at_is e.at at here)) ∙ once.begun))
      tests true false other once = refl
      tests false s q once = refl

  still_started : start_entry at (e ∷ past) ≡ start_entry at past
  still_started = ap (λ (b : Bool). if b then Some e.event else start_entry at past) still_apart

  still_before : before_start at (e ∷ past) ≡ before_start at past
  still_before = ap (λ (b : Bool). if b then past else before_start at past) still_apart

  -- who has not crashed since the line's start had not before the entry
  node_before : (n : ℕ) → NodeSurvives (e ∷ past) at n → NodeSurvives past at n
  node_before n now =
      let rise = crashes_rise n past e in
      let low = node_crashes_rise n at past in
      let same : crashes n (e ∷ past) ≡ crashes n (before_start at past) = now.node ∙ ap (crashes n) still_before in
      record { node = omega arith }

  source_before : SourceSurvives (e ∷ past) at → SourceSurvives past at
  source_before now =
      let rise : primary_crashes past ≤ primary_crashes (e ∷ past) = primary_crashes_rise e.event (primary_of past) (primary_crashes past) in
      let low = source_crashes_rise at past in
      let same : primary_crashes (e ∷ past) ≡ primary_crashes (before_start at past) = now.source ∙ ap primary_crashes still_before in
      record { source = omega arith }

  copied_still : (node : ℕ → Bool) (v : ℕ) → is_copied_beside node v at past ≡ true → is_copied_beside node v at (e ∷ past) ≡ true
  copied_still node v was = ap (λ (b : Bool). if b then false else copies e.event && not (same_at e.at at) || is_copied_beside node v at past) still_apart ∙ or_right _ _ was
    where
      copies : Event → Bool
      copies e' = elim e' [ Copying n w ↦ node n.0 && (w.0 == v) | _ ↦ false ]

  -- a line that may be cancelled still may be
  cancelled_still : (v : Version) (begin : Option Event) → IsCancelled size past at v begin → IsCancelled size (e ∷ past) at v begin
  cancelled_still v None may = absurd may
  cancelled_still v (Some begin) may =
      subst (λ (p : Past). MayCancel size (e ∷ past) at p begin v) (sym still_before)
      (record {
        point = point_stays past e v.0 may.point;
        above = may.above;
        beside = ⊎_elim
            (λ copied. ap (λ (b : Bool). b || is_settled_beside (before_start at past) at (e ∷ past)) (copied_still (is_node_of size (before_start at past) begin) v.0 copied))
            (λ settled. or_right _ _ (or_right _ _ settled))
            (or_cases _ _ may.beside);
      })

-- a version of the present generation stays one while a primary runs
made_more : (size : ℕ) (past : Past) (e : Entry) (v : ℕ) → KeepsRule size past e.at e.event → primary_of past ≢ None → is_made_in_generation v past ≡ true → is_made_in_generation v (e ∷ past) ≡ true
made_more size past e v keeps runs was = step e.event keeps
  where
    step : (e' : Event) → KeepsRule size past e.at e' → is_made_in_generation v (record { at = e.at; event = e' } ∷ past) ≡ true
    step (Published g w) k = elim (w.0 == v) as (λ b. (if b then true else is_made_in_generation v past) ≡ true) [ true ↦ refl | false ↦ was ]
    step (Promoted m g f w) k = absurd (runs k.vacant)
    step e' k = was

-- a primary ran at the start of a line that copies
pub source_runs : (size : ℕ) (past : Past) (at : At) (n v : ℕ) → IsLegalPast size past → (o : Option Event) → start_entry at past ≡ o → StartsJob (before_start at past) n v o → primary_of (before_start at past) ≢ None
source_runs size past at n v legal (Some (Copying m w)) is started = (start_kept size at past (Copying m w) legal is).source
source_runs size past at n v legal (Some (Settling w)) is started = (start_kept size at past (Settling w) legal is).source
source_runs size past at n v legal o is started = absurd started

begun_of : (start : Past) (n v : ℕ) (o : Option Event) → StartsJob start n v o → o ≢ None
begun_of start n v None started = absurd started
begun_of start n v (Some e) started = λ none. absurd (cc)

-- what the log shows of a job, after one more printed entry
shows_more : (size : ℕ) (past : Past) (e : Entry) (row : JobRow) → KeepsRule size past e.at e.event → IsLegalPast size past → InTurn past e.at e.event → LaneJobShows size past row → LaneJobShows size (e ∷ past) row
shows_more size past e row keeps legal turn s =
    let at = row.job.at in
    let begun = begun_of (before_start at past) row.job.node.0 row.job.version.0 (start_entry at past) s.started in
    let started = still_started size past e at turn begun in
    let before = still_before size past e at turn begun in
    record {
      node = s.node;
      started = subst (λ (p : Past). StartsJob p row.job.node.0 row.job.version.0 (start_entry at (e ∷ past))) (sym before)
          (subst (λ (o : Option Event). StartsJob (before_start at past) row.job.node.0 row.job.version.0 o) (sym started) s.started);
      newest = subst (λ (p : Past). newest_version p ≤ row.job.version.0) (sym before) s.newest;
      before = subst (λ (p : Past). length p ≤ row.before) (sym before) s.before;
      made = λ source high.
          let was = source_before size past e at turn begun source in
          made_more size past e row.job.version.0 keeps
          (λ none. source_runs size past at row.job.node.0 row.job.version.0 legal (start_entry at past) refl s.started (sym (reigns_on size at past legal (source_runs size past at row.job.node.0 row.job.version.0 legal (start_entry at past) refl s.started) was.source).primary ∙ none))
          (s.made was high);
      later = λ v is alive source. subst (λ (o : Option Event). IsCancelled size (e ∷ past) at v o) (sym started)
          (cancelled_still size past e at turn begun v (start_entry at past)
          (s.later v is (node_before size past e at turn begun row.job.node.0 alive) (source_before size past e at turn begun source)));
    }

-- what the log shows of a job that begins
shows_new : (size : ℕ) (log : Log) (job : Job) → IsLegalPast size (printed log) → MayBeginJob size log job.at job.node.0 job.version.0 → LaneJobShows size (printed log) (new_job_row job (length (printed log)))
shows_new size log job legal may = record {
  node = may.node;
  started = may.started;
  newest = let is = may.newest in let low = newest_before job.at (printed log) in omega arith;
  before = start_short job.at (printed log);
  made = λ source high.
      let is : job.version.0 ≡ newest_version (printed log) = may.newest in
      subst (λ (v : ℕ). is_made_in_generation v (printed log) ≡ true) (sym is) (newest_made size (printed log) legal (omega arith));
  later = λ v none alive source. absurd (no_later v none);
}
  where
    no_later : (v : Version) → ◌≡◌ {A = Option Version} None (Some v) → ⊥
    no_later v none = absurd (cc)

-- what the log shows of a job behind which another begins
shows_begun : (size : ℕ) (past : Past) (job : Job) (r : JobRow) → LaneJobShows size past r
    → ((r.job.node.0 == job.node.0) ≡ true → is_going r ≡ true → NodeSurvives past r.job.at r.job.node.0 → SourceSurvives past r.job.at
    → IsCancelled size past r.job.at job.version (start_entry r.job.at past))
    → LaneJobShows size past (row_by (Begins job) r)
shows_begun size past job r s cancels = tests ((r.job.node.0 == job.node.0) && is_going r) refl
  where
    both : (a b : Bool) → (a && b) ≡ true → (a ≡ true) × (b ≡ true)
    both true b is = (refl, is)
    both false b none = absurd (true≢false (sym none))

    tests : (b : Bool) → ((r.job.node.0 == job.node.0) && is_going r) ≡ b → LaneJobShows size past (if b then record r { later = Some job.version } else r)
    tests true is = let mine = both (r.job.node.0 == job.node.0) (is_going r) is in record {
      node = s.node;
      started = s.started;
      newest = s.newest;
      before = s.before;
      made = s.made;
      later = λ v later alive source. subst (λ (w : Version). IsCancelled size past r.job.at w (start_entry r.job.at past)) (same job.version v later) (cancels mine.0 mine.1 alive source);
    }
      where
        same : (w v : Version) → Some w ≡ Some v → w ≡ v
        same w v is = cc
    tests false is = s

shows_ended : (size : ℕ) (past : Past) (line : LineNo) (n : NodeNo) (number : ℕ) (r : JobRow) → LaneJobShows size past r → LaneJobShows size past (row_by (Ends line n number) r)
shows_ended size past line n number r s = tests (((r.job.at.line.0 == line.0) && (r.job.node.0 == n.0)) && (r.job.number == number))
  where
    tests : (b : Bool) → LaneJobShows size past (if b then record r { ended = true } else r)
    tests true = record { node = s.node; started = s.started; newest = s.newest; before = s.before; made = s.made; later = s.later }
    tests false = s

lane_by : (lane : ℕ) (s : JobStep) (before : ℕ) (old : Option JobRow) (row : JobRow) → last_job_by true lane s before old ≡ Some row
    → ((r : JobRow) → old ≡ Some r → r.job.at.lane.0 ≡ lane) → row.job.at.lane.0 ≡ lane
lane_by lane s before old row is was = steps s is
  where
    kept : (s' : JobStep) (r : JobRow) → (row_by s' r).job ≡ r.job
    kept (Begins job) r = elim ((r.job.node.0 == job.node.0) && is_going r) as (λ b. (if b then record r { later = Some job.version } else r).job ≡ r.job) [ true ↦ refl | false ↦ refl ]
    kept (Ends line n number) r = elim (((r.job.at.line.0 == line.0) && (r.job.node.0 == n.0)) && (r.job.number == number)) as (λ b. (if b then record r { ended = true } else r).job ≡ r.job) [ true ↦ refl | false ↦ refl ]
    kept Passes r = refl

    goes : (s' : JobStep) (o : Option JobRow) → old ≡ o → row_if_some s' o ≡ Some row → row.job.at.lane.0 ≡ lane
    goes s' None q none = absurd (cc)
    goes s' (Some r) q got =
        let made : row_by s' r ≡ row = cc in
        ap (λ (x : JobRow). x.job.at.lane.0) (sym made) ∙ (ap (λ (j : Job). j.at.lane.0) (kept s' r) ∙ was r q)

    steps : (s' : JobStep) → last_job_by true lane s' before old ≡ Some row → row.job.at.lane.0 ≡ lane
    steps (Begins job) got = begins (job.at.lane.0 == lane) refl got
      where
        begins : (b : Bool) → (job.at.lane.0 == lane) ≡ b → (if b then Some (new_job_row job before) else row_if_some (Begins job) old) ≡ Some row → row.job.at.lane.0 ≡ lane
        begins true here new = let made : new_job_row job before ≡ row = cc in ap (λ (x : JobRow). x.job.at.lane.0) (sym made) ∙ eqb-true job.at.lane.0 lane here
        begins false other new = goes (Begins job) old refl new
    steps (Ends line n number) got = goes (Ends line n number) old refl got
    steps Passes got = goes Passes old refl got

-- the last job of a lane is of a line of it
lane_is : (lane : ℕ) (log : Log) (row : JobRow) → job_of lane log ≡ Some row → row.job.at.lane.0 ≡ lane
lane_is lane [] row is = absurd (cc)
lane_is lane (Shown e ∷ log) row is = lane_is lane log row is
lane_is lane (TaskFault e ∷ log) row is = lane_is lane log row is
lane_is lane (Kept i ∷ log) row is = lane_by lane (job_step i) (length (printed log)) (last_job true lane log) row is (λ r was. lane_is lane log r was)

-- a job for a later version begins at the node of one that goes on: the line of that may be cancelled
module _ (size : ℕ) (log : Log) (job : Job) (r : JobRow) (legal : IsLegalPast size (printed log)) (turns : AreInTurn (printed log))
    (may : MayBeginJob size log job.at job.node.0 job.version.0) (s : LaneJobShows size (printed log) r) (apart : same_at job.at r.job.at ≡ false)
    (here : r.job.node.0 ≡ job.node.0) (going : is_going r ≡ true) (last : last_job false r.job.node.0 log ≡ Some r)
    (alive : NodeSurvives (printed log) r.job.at r.job.node.0) (source : SourceSurvives (printed log) r.job.at) where
  le_more : (a b c : ℕ) → nat_le a b ≡ true → b ≤ c → nat_le a c ≡ true
  le_more a b c low more = grind (arith, nat_tests)

  runs : job_at r.job.node.0 log ≡ Some r.job
  runs =
      let ended : r.ended ≡ false = not_ended r.ended (is_some r.later) going in
      let node : nat_le (crashed_at r.job.node.0 (printed log)) r.before ≡ true =
      le_more _ (length (before_start r.job.at (printed log))) r.before (node_alive r.job.node.0 r.job.at (printed log) ∙ eq-eqb _ _ alive.node) s.before in
      let primary : nat_le (primary_crashed (printed log)) r.before ≡ true =
      le_more _ (length (before_start r.job.at (printed log))) r.before (source_alive r.job.at (printed log) ∙ eq-eqb _ _ source.source) s.before in
      ap (while_going r.job.node.0 (printed log)) last ∙ rw (ended, node, primary) refl
    where
      not_ended : (e l : Bool) → (not e && not l) ≡ true → e ≡ false
      not_ended true l none = absurd (true≢false (sym none))
      not_ended false l is = refl

  below : r.job.version.0 < job.version.0
  below = subst (IsOlder job.version.0) runs (subst (λ (n : ℕ). IsOlder job.version.0 (job_at n log)) (sym here) may.older)

  above_is : (w : ℕ) → w ≤ r.job.version.0 → nat_lt w job.version.0 ≡ true
  above_is w low = let high = below in grind (arith, nat_tests)

  begun : start_entry r.job.at (printed log) ≢ None
  begun = begun_of (before_start r.job.at (printed log)) r.job.node.0 r.job.version.0 (start_entry r.job.at (printed log)) s.started

  beside_by : (node : ℕ → Bool) → node r.job.node.0 ≡ true → (o : Option Event) → start_entry job.at (printed log) ≡ o → StartsJob (before_start job.at (printed log)) job.node.0 job.version.0 o
      → (is_copied_beside node job.version.0 r.job.at (printed log) || is_settled_beside (before_start r.job.at (printed log)) r.job.at (printed log)) ≡ true
  beside_by node mine (Some (Copying m w)) is started =
      let there : node m.0 ≡ true = ap node (started.0 ∙ sym here) ∙ mine in
      let low = s.newest in
      let high = below in
      let version : w.0 ≡ job.version.0 = started.1 in
      let late : newest_version (before_start r.job.at (printed log)) < w.0 = omega arith in
      let copied = copied_beside size r.job.at job.at node (printed log) m w legal apart there begun late is in
      ap (λ (b : Bool). b || is_settled_beside (before_start r.job.at (printed log)) r.job.at (printed log)) (ap (λ (v : ℕ). is_copied_beside node v r.job.at (printed log)) (sym version) ∙ copied)
  beside_by node mine (Some (Settling w)) is started =
      or_right _ _ (settled_beside r.job.at job.at (before_start r.job.at (printed log)) (printed log) w apart
      (answered_before job.at r.job.at (printed log) (open_unanswered job.at (printed log) turns may.is_open)) is)
  beside_by node mine o is started = absurd started

  cancelled_by : (o : Option Event) → start_entry r.job.at (printed log) ≡ o → StartsJob (before_start r.job.at (printed log)) r.job.node.0 r.job.version.0 o
      → IsCancelled size (printed log) r.job.at job.version o
  cancelled_by (Some (Copying m w)) is started =
      let low : w.0 ≤ r.job.version.0 = let same = started.1 in omega arith in
      record {
        point = ap (λ (v : ℕ). is_point v (printed log)) may.newest ∙ newest_point size (printed log) legal;
        above = above_is w.0 low;
        beside = beside_by (is_node_of size (before_start r.job.at (printed log)) (Copying m w)) (eq-eqb m.0 r.job.node.0 started.0) (start_entry job.at (printed log)) refl may.started;
      }
  cancelled_by (Some (Settling w)) is started =
      let noted = (start_kept size r.job.at (printed log) (Settling w) legal is).newest in
      let low : w.0 ≤ r.job.version.0 = let was = s.newest in omega arith in
      record {
        point = ap (λ (v : ℕ). is_point v (printed log)) may.newest ∙ newest_point size (printed log) legal;
        above = above_is w.0 low;
        beside = beside_by (is_node_of size (before_start r.job.at (printed log)) (Settling w)) replica (start_entry job.at (printed log)) refl may.started;
      }
    where
      replica : is_node_of size (before_start r.job.at (printed log)) (Settling w) r.job.node.0 ≡ true
      replica =
          let range : IsNode size r.job.node.0 = s.node in
          let low : nat_le 1 r.job.node.0 ≡ true = let one = range.0 in grind (arith, nat_tests) in
          let high : nat_le r.job.node.0 size ≡ true = let two = range.1 in grind (arith, nat_tests) in
          rw (low, high, started.running, started.other) refl
  cancelled_by o is started = absurd started

  cancels : IsCancelled size (printed log) r.job.at job.version (start_entry r.job.at (printed log))
  cancels = cancelled_by (start_entry r.job.at (printed log)) refl s.started

kept_step : (size lane : ℕ) (log : Log) (i : Inner) → IsLegalPast size (printed log) → AreInTurn (printed log) → IsInside size log i
    → ((r : JobRow) → job_of lane log ≡ Some r → LaneJobShows size (printed log) r)
    → (row : JobRow) → last_job_by true lane (job_step i) (length (printed log)) (last_job true lane log) ≡ Some row → LaneJobShows size (printed log) row
kept_step size lane log (JobBegun line n number (Some v) (Some at)) legal turns inside was row is = begins (at.lane.0 == lane) refl is
  where
    job : Job
    job = record { at = at; node = n; number = number; version = v }

    apart_at : (a b : At) (k : ℕ) → (a.lane.0 == k) ≡ false → b.lane.0 ≡ k → same_at a b ≡ false
    apart_at a b k other mine = rw mine (ap (λ (t : Bool). t && (a.line.0 == b.line.0)) other)

    goes : (at.lane.0 == lane) ≡ false → (o : Option JobRow) → last_job true lane log ≡ o → row_if_some (Begins job) o ≡ Some row → LaneJobShows size (printed log) row
    goes other None there none = absurd (cc)
    goes other (Some r) there got =
        let made : row_by (Begins job) r ≡ row = cc in
        let s = was r there in
        subst (λ (x : JobRow). LaneJobShows size (printed log) x) made
        (shows_begun size (printed log) job r s
        (λ mine going alive source. cancels size log job r legal turns inside.1 s (apart_at at r.job.at lane other (lane_is lane log r there)) (eqb-true r.job.node.0 n.0 mine) going
        (going_at lane log r there going) alive source))

    begins : (b : Bool) → (at.lane.0 == lane) ≡ b → (if b then Some (new_job_row job (length (printed log))) else row_if_some (Begins job) (last_job true lane log)) ≡ Some row
        → LaneJobShows size (printed log) row
    begins true here new =
        let made : new_job_row job (length (printed log)) ≡ row = cc in
        subst (λ (x : JobRow). LaneJobShows size (printed log) x) made (shows_new size log job legal inside.1)
    begins false other old = goes other (last_job true lane log) refl old
kept_step size lane log (JobEnd line n number) legal turns inside was row is = goes (last_job true lane log) refl is
  where
    goes : (o : Option JobRow) → last_job true lane log ≡ o → row_if_some (Ends line n number) o ≡ Some row → LaneJobShows size (printed log) row
    goes None there none = absurd (cc)
    goes (Some r) there got =
        let made : row_by (Ends line n number) r ≡ row = cc in
        subst (λ (x : JobRow). LaneJobShows size (printed log) x) made (shows_ended size (printed log) line n number r (was r there))
kept_step size lane log i legal turns inside was row is = was row (passes_old (last_job true lane log) row is)

-- what the log shows of the last job of a lane
pub job_shows : (size lane : ℕ) (log : Log) → IsLegalPast size (printed log) → AreInTurn (printed log) → AreInside size log → (row : JobRow) → job_of lane log ≡ Some row
    → LaneJobShows size (printed log) row
job_shows size lane [] legal turns inside row is = absurd (cc)
job_shows size lane (Shown e ∷ log) legal turns inside row is = shows_more size (printed log) e row legal.0 legal.1 turns.0 (job_shows size lane log legal.1 turns.1 inside row is)
job_shows size lane (TaskFault e ∷ log) legal turns inside row is = shows_more size (printed log) e row legal.0 legal.1 turns.0 (job_shows size lane log legal.1 turns.1 inside row is)
job_shows size lane (Kept i ∷ log) legal turns inside row is =
    kept_step size lane log i legal turns inside.0 (λ r was. job_shows size lane log legal turns inside.1 r was) row is

-- the node of a job is a replica while neither it nor the primary has crashed since the line's start
pub job_replica : (size : ℕ) (past : Past) (row : JobRow) → IsLegalPast size past → LaneJobShows size past row
    → NodeSurvives past row.job.at row.job.node.0 → SourceSurvives past row.job.at → IsReplica past row.job.node.0
job_replica size past row legal s alive source =
    let since = since_start at past in
    let was = started (start_entry at past) refl s.started in
    let runs = runs_through size n since.newer (before_start at past) (subst (IsLegalPast size) since.split legal) was.running (still since.newer since.split) in
    record {
      running = subst (λ (p : Past). is_running n p ≡ true) (sym since.split) runs.running;
      other = ap (λ (p : Option NodeNo). is_at p n) (reigns_on size at past legal (source_runs size past at n row.job.version.0 legal (start_entry at past) refl s.started) source.source).primary ∙ was.other;
    }
  where
    at : At
    at = row.job.at

    n : ℕ
    n = row.job.node.0

    still : (newer : Past) → past ≡ newer ++ before_start at past → crashes n (newer ++ before_start at past) ≤ crashes n (before_start at past)
    still newer split = let same = alive.node in let moved : crashes n past ≡ crashes n (newer ++ before_start at past) = ap (crashes n) split in omega arith

    started : (o : Option Event) → start_entry at past ≡ o → StartsJob (before_start at past) n row.job.version.0 o → IsReplica (before_start at past) n
    started (Some (Copying m w)) is begins = subst (IsReplica (before_start at past)) begins.0 (start_kept size at past (Copying m w) legal is).replica
    started (Some (Settling w)) is begins = begins
    started o is begins = absurd begins

-- each point has a version of 1 or more
point_positive : (size : ℕ) (past : Past) (v : ℕ) → IsLegalPast size past → is_point v past ≡ true → 1 ≤ v
point_positive size [] v legal is = let one = eqb-true v 1 is in omega arith
point_positive size (e ∷ past) v legal is = step e.event legal.0 is (point_positive size past v legal.1)
  where
    new : (w : ℕ) (b : Bool) → (w == v) ≡ b → (if b then true else is_point v past) ≡ true → 1 ≤ w → (is_point v past ≡ true → 1 ≤ v) → 1 ≤ v
    new w true same point high was = let is = eqb-true w v same in omega arith
    new w false other point high was = was point

    step : (e' : Event) → KeepsRule size past e.at e' → is_point v (record { at = e.at; event = e' } ∷ past) ≡ true → (is_point v past ≡ true → 1 ≤ v) → 1 ≤ v
    step (Published g w) keeps point was = let next : w.0 ≡ newest_version past + 1 = keeps.next in new w.0 (w.0 == v) refl point (omega arith) was
    step (Promoted m g f w) keeps point was = let above : w.0 ≡ f.0 + 1 = keeps.above in new w.0 (w.0 == v) refl point (omega arith) was
    step e' keeps point was = was point

-- the node of a job that is below the version of the line's start may switch to the job's
pub job_switches : (size : ℕ) (past : Past) (row : JobRow) → IsLegalPast size past → LaneJobShows size past row → NodeSurvives past row.job.at row.job.node.0 → SourceSurvives past row.job.at
    → version_of row.job.node.0 past < newest_version (before_start row.job.at past) → is_passed row.job.node.0 row.job.version.0 past ≡ false → IsLineWhole size past row.job.at → highest_switched row.job.at past < row.job.node.0
    → MaySwitch size past row.job.at row.job.node row.job.version
job_switches size past row legal s alive source below latest whole ordered =
    let high = s.newest in
    let one = point_positive size past (version_of row.job.node.0 past) legal ((known size past legal).version row.job.node.0) in
    record {
      node = s.node;
      replica = job_replica size past row legal s alive source;
      made = s.made source (omega arith);
      above = omega arith;
      latest = latest;
      ordered = ordered;
      started = started (start_entry row.job.at past) refl s.started;
      whole = whole;
      survives = alive;
      source = source;
    }
  where
    start : Past
    start = before_start row.job.at past

    started : (o : Option Event) → start_entry row.job.at past ≡ o → StartsJob start row.job.node.0 row.job.version.0 o → StartedCopy past start row.job.node.0 row.job.version.0 o
    started (Some (Copying m w)) is begins = begins
    started (Some (Settling w)) is begins =
        let noted : w.0 ≡ newest_version start = (start_kept size row.job.at past (Settling w) legal is).newest in
        let high = s.newest in (omega arith, omega arith, begins)
    started o is begins = absurd begins

-- ---- what a job that runs rests on

too_late : (size before : ℕ) → nat_le (size + 1) before ≡ true → before ≤ size → ⊥
too_late size before late low = grind (arith, nat_tests)

node_step : (past : Past) (e : Event) (n before : ℕ) → before ≤ length past → (nat_le (crashed_at n past) before ≡ true → is_running n past ≡ true)
    → nat_le (crashed_by n e (length past) (crashed_at n past)) before ≡ true → is_running_by n e (is_running n past) ≡ true
node_step past (Crashed m) n before low was alive = crash (m.0 == n) alive
  where
    crash : (b : Bool) → nat_le (if b then length past + 1 else crashed_at n past) before ≡ true → (if b then false else is_running n past) ≡ true
    crash true late = absurd (too_late (length past) before late low)
    crash false old = was old
node_step past (Reopened m v) n before low was alive = reopens (m.0 == n)
  where
    reopens : (b : Bool) → (if b then true else is_running n past) ≡ true
    reopens true = refl
    reopens false = was alive
node_step past e n before low was alive = was alive

source_step : (past : Past) (e : Event) (before : ℕ) → before ≤ length past → (nat_le (primary_crashed past) before ≡ true → primary_of past ≢ None)
    → nat_le (primary_crashed_by e (primary_of past) (length past) (primary_crashed past)) before ≡ true → primary_by e (primary_of past) ≢ None
source_step past (Crashed m) before low was alive = crash (is_at (primary_of past) m.0) alive
  where
    crash : (b : Bool) → nat_le (if b then length past + 1 else primary_crashed past) before ≡ true → (if b then None else primary_of past) ≢ None
    crash true late = absurd (too_late (length past) before late low)
    crash false old = was old
source_step past (Promoted m g f v) before low was alive = λ none. absurd (cc)
source_step past e before low was alive = was alive

rests_more : (past : Past) (e : Entry) (n before : ℕ) → JobRests past n before → JobRests (e ∷ past) n before
rests_more past e n before was = record {
  low = let low = was.low in omega (arith, low);
  node = node_step past e.event n before was.low was.node;
  source = source_step past e.event before was.low was.source;
}

rests_new : (size : ℕ) (log : Log) (job : Job) → IsLegalPast size (printed log) → MayBeginJob size log job.at job.node.0 job.version.0 → JobRests (printed log) job.node.0 (length (printed log))
rests_new size log job legal may =
    let runs = source_runs size (printed log) job.at job.node.0 job.version.0 legal (start_entry job.at (printed log)) refl may.started in
    record {
      low = omega arith;
      node = λ alive. (job_replica size (printed log) (new_job_row job (length (printed log))) legal (shows_new size log job legal may) may.survives may.source).running;
      source = λ alive none. runs (sym (reigns_on size job.at (printed log) legal runs may.source.source).primary ∙ none);
    }

rests_kept : (size n : ℕ) (log : Log) (i : Inner) → IsLegalPast size (printed log) → IsInside size log i → ((r : JobRow) → last_job false n log ≡ Some r → JobRests (printed log) n r.before)
    → (row : JobRow) → last_job_by false n (job_step i) (length (printed log)) (last_job false n log) ≡ Some row → JobRests (printed log) n row.before
rests_kept size n log i legal inside was row is = steps i inside is
  where
    same_before : (s : JobStep) (r : JobRow) → (row_by s r).before ≡ r.before
    same_before (Begins job) r = elim ((r.job.node.0 == job.node.0) && is_going r) as (λ b. (if b then record r { later = Some job.version } else r).before ≡ r.before) [ true ↦ refl | false ↦ refl ]
    same_before (Ends line m number) r = elim (((r.job.at.line.0 == line.0) && (r.job.node.0 == m.0)) && (r.job.number == number)) as (λ b. (if b then record r { ended = true } else r).before ≡ r.before) [ true ↦ refl | false ↦ refl ]
    same_before Passes r = refl

    goes : (s : JobStep) (o : Option JobRow) → last_job false n log ≡ o → row_if_some s o ≡ Some row → JobRests (printed log) n row.before
    goes s None there none = absurd (cc)
    goes s (Some r) there got =
        let made : row_by s r ≡ row = cc in
        subst (λ (k : ℕ). JobRests (printed log) n k) (sym (same_before s r) ∙ ap (λ (x : JobRow). x.before) made) (was r there)

    begins : (line : LineNo) (m : NodeNo) (number : ℕ) (v : Version) (at : At) (b : Bool) → (m.0 == n) ≡ b → MayBeginJob size log at m.0 v.0
        → (if b then Some (new_job_row (record { at = at; node = m; number = number; version = v }) (length (printed log))) else row_if_some (Begins (record { at = at; node = m; number = number; version = v })) (last_job false n log)) ≡ Some row
        → JobRests (printed log) n row.before
    begins line m number v at true here may new =
        let job : Job = record { at = at; node = m; number = number; version = v } in
        let made : new_job_row job (length (printed log)) ≡ row = cc in
        subst (λ (k : ℕ). JobRests (printed log) k row.before) (eqb-true m.0 n here)
        (subst (λ (x : JobRow). JobRests (printed log) m.0 x.before) made (rests_new size log job legal may))
    begins line m number v at false other may old = goes (Begins (record { at = at; node = m; number = number; version = v })) (last_job false n log) refl old

    steps : (j : Inner) → IsInside size log j → last_job_by false n (job_step j) (length (printed log)) (last_job false n log) ≡ Some row → JobRests (printed log) n row.before
    steps (JobBegun line m number (Some v) (Some at)) inside' got = begins line m number v at (m.0 == n) refl inside'.1 got
    steps (JobEnd line m number) inside' got = goes (Ends line m number) (last_job false n log) refl got
    steps j inside' got = was row (passes_old (last_job false n log) row got)

job_rests : (size n : ℕ) (log : Log) → IsLegalPast size (printed log) → AreInside size log → (row : JobRow) → last_job false n log ≡ Some row → JobRests (printed log) n row.before
job_rests size n [] legal inside row is = absurd (cc)
job_rests size n (Shown e ∷ log) legal inside row is = rests_more (printed log) e n row.before (job_rests size n log legal.1 inside row is)
job_rests size n (TaskFault e ∷ log) legal inside row is = rests_more (printed log) e n row.before (job_rests size n log legal.1 inside row is)
job_rests size n (Kept i ∷ log) legal inside row is = rests_kept size n log i legal inside.0 (λ r was. job_rests size n log legal inside.1 r was) row is

none_going : (a b c : Bool) (job : Job) → (b && c) ≡ false → (if a && b && c then Some job else None) ≡ None
none_going true true true job low = absurd (true≢false low)
none_going true true false job low = refl
none_going true false c job low = refl
none_going false true true job low = refl
none_going false true false job low = refl
none_going false false c job low = refl

idle_if : (past : Past) (n : ℕ) (o : Option JobRow) → ((row : JobRow) → o ≡ Some row → (nat_le (crashed_at n past) row.before && nat_le (primary_crashed past) row.before) ≡ false)
    → while_going n past o ≡ None
idle_if past n None rests = refl
idle_if past n (Some row) rests = none_going (not row.ended) (nat_le (crashed_at n past) row.before) (nat_le (primary_crashed past) row.before) row.job (rests row refl)

-- no job runs at a node that is down
pub down_idle : (size n : ℕ) (log : Log) → IsLegalPast size (printed log) → AreInside size log → is_running n (printed log) ≡ false → job_at n log ≡ None
down_idle size n log legal inside down = idle_if (printed log) n (last_job false n log)
    (λ row is. crashed row.before (nat_le (primary_crashed (printed log)) row.before) (nat_le (crashed_at n (printed log)) row.before) refl (job_rests size n log legal inside row is))
  where
    crashed : (before : ℕ) (c b : Bool) → nat_le (crashed_at n (printed log)) before ≡ b → JobRests (printed log) n before → (b && c) ≡ false
    crashed before c true alive rests = absurd (true≢false (sym (rests.node alive) ∙ down))
    crashed before c false late rests = refl

-- nor anywhere where no primary runs
pub vacant_idle : (size n : ℕ) (log : Log) → IsLegalPast size (printed log) → AreInside size log → primary_of (printed log) ≡ None → job_at n log ≡ None
vacant_idle size n log legal inside none = idle_if (printed log) n (last_job false n log)
    (λ row is. crashed row.before (nat_le (crashed_at n (printed log)) row.before) (nat_le (primary_crashed (printed log)) row.before) refl (job_rests size n log legal inside row is))
  where
    crashed : (before : ℕ) (b c : Bool) → nat_le (primary_crashed (printed log)) before ≡ c → JobRests (printed log) n before → (b && c) ≡ false
    crashed before b true alive rests = absurd (rests.source alive none)
    crashed before b false late rests = and-false b
