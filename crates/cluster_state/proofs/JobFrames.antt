-- What one more entry leaves of the job that the log shows at a replica.
use Rattle.std.proofs.Common.{◌≡◌, ◌≢◌, ◌≤◌, ◌+◌, ◌&&◌, ◌==◌, ℕ, Bool, true, false, true≢false, [], ◌∷◌, Some, None, Option, refl, ap, ◌∙◌, sym, subst, arith, if◌then◌else◌, length, ◌||◌}
use Rattle.std.specs.Prelude.{not, nat_lt}
use Rattle.std.proofs.lemmas.Bool.{eqb-true, not-true}
use Rattle.std.proofs.lemmas.Bool.Decides.{nat_tests}
use Rattle.history_tables.proofs.RowLemmas.{same_at_self, same_at_is}
use Rattle.nrt_base.specs.declared.numbers.At.{At}
use Rattle.nrt_base.specs.declared.numbers.LineNo.{LineNo}
use Rattle.nrt_base.specs.declared.numbers.NodeNo.{NodeNo}
use Rattle.nrt_base.specs.declared.numbers.Version.{Version}
use Rattle.disk_model.specs.Disk.{Name, same}
use Rattle.history_rules.specs.declared.entry.Event.{Event}
use Rattle.history_rules.specs.declared.entry.Event.TheVariants.{Published, Copying, Switched, Crashed, Reopened, Promoted}
use Rattle.history_rules.specs.Nodes.{Past, is_at, primary_of, version_of, newest_version}
use Rattle.history_rules.specs.Lines.{same_at, is_start, is_reply, start_entry, before_start, without_at, copy_in_flight}
use Rattle.history_rules.specs.Commits.{is_passed}
use Rattle.history_rules.specs.Passed.{starts_above}
use Rattle.history_rules.proofs.PassedLaws.{stays_unpassed}
use Rattle.history_rules.specs.Legal.{KeepsRule, IsLegalPast}
use Rattle.history_tables.specs.declared.jobs.Job.{Job}
use Rattle.history_tables.specs.declared.jobs.JobRow.{JobRow}
use Rattle.history_tables.specs.declared.jobs.JobStep.{JobStep}
use Rattle.history_tables.specs.declared.jobs.JobStep.TheVariants.{Begins, Ends, Passes}
use Rattle.history_tables.specs.JobRows.{new_job_row, is_going, row_by, row_if_some, last_job_by, while_going}
use Rattle.history_book.specs.declared.inner.Inner.{Inner}
use Rattle.history_book.specs.declared.inner.Inner.TheVariants.{JobBegun, FileOut, JobEnd}
use Rattle.history_book.specs.declared.inner.Mark.TheVariants.{Shown, TaskFault, Kept}
use Rattle.history_book.specs.Log.{Log, printed, shown, kept}
use Rattle.history_book.specs.Jobs.{job_step, last_job}
use Rattle.history_book.specs.Turns.{StartsOnce, InTurn, AreInTurn}
use Rattle.history_book.proofs.LineLaws.{without_some}
use Rattle.cluster_state.specs.FilesOut.{is_by, is_job, file_out}
use Rattle.cluster_state.proofs.Points.{points_alone, points_then, points_shown}
use Rattle.cluster_state.specs.FileChanges.{keeps_jobs, leaves_job, SameJob}

-- ---- copies in flight

-- no copy in flight is of a version above the newest
pub flight_low : (size : ℕ) (past : Past) (n v : ℕ) (a : At) → IsLegalPast size past → copy_in_flight n v past ≡ Some a → v ≤ newest_version past
flight_low size [] n v a legal is = absurd (cc)
flight_low size (e ∷ past) n v a legal is = step e.event legal.0 is (λ was. flight_low size past n v a legal.1 was)
  where
    reply : (b : Bool) → (if b then without_at e.at (copy_in_flight n v past) else copy_in_flight n v past) ≡ Some a → copy_in_flight n v past ≡ Some a
    reply true is = (without_some e.at a (copy_in_flight n v past) is).0
    reply false is = is

    step : (e' : Event) → KeepsRule size past e.at e' → copy_in_flight n v (record { at = e.at; event = e' } ∷ past) ≡ Some a → (copy_in_flight n v past ≡ Some a → v ≤ newest_version past)
        → v ≤ newest_version (record { at = e.at; event = e' } ∷ past)
    step (Copying m w) keeps is was = copied (m.0 == n) (w.0 == v) refl is
      where
        copied : (b c : Bool) → (w.0 == v) ≡ c → (if b && c then Some e.at else copy_in_flight n v past) ≡ Some a → v ≤ newest_version past
        copied true true here is = let newest : w.0 ≡ newest_version past = keeps.newest in let one : w.0 ≡ v = eqb-true w.0 v here in omega arith
        copied true false here is = was is
        copied false c here is = was is
    step (Crashed m) keeps is was = crashed ((m.0 == n) || is_at (primary_of past) m.0) is
      where
        crashed : (b : Bool) → (if b then None else without_at e.at (copy_in_flight n v past)) ≡ Some a → v ≤ newest_version past
        crashed true is = absurd (cc)
        crashed false is = was (without_some e.at a (copy_in_flight n v past) is).0
    step (Published g w) keeps is was = let low = was (reply true is) in omega arith
    step (Promoted m g f w) keeps is was = let low = was (reply true is) in omega arith
    step e' keeps is was = was (reply (is_reply e') is)

-- the event starts a copy to this node
abbrev pub IsCopyStart : ℕ → Option Event → Type 0
IsCopyStart n None = ⊥
IsCopyStart n (Some e) = elim e [ Copying m v ↦ m.0 ≡ n | _ ↦ ⊥ ]

-- the line of a copy in flight started as one
pub copy_flying : (past : Past) (n v : ℕ) (a : At) → AreInTurn past → copy_in_flight n v past ≡ Some a → IsCopyStart n (start_entry a past)
copy_flying [] n v a turns is = absurd (cc)
copy_flying (e ∷ past) n v a turns is = step e.event turns.0 is (λ was. copy_flying past n v a turns.1 was)
  where
    reply : (b : Bool) → (if b then without_at e.at (copy_in_flight n v past) else copy_in_flight n v past) ≡ Some a → copy_in_flight n v past ≡ Some a
    reply true is = (without_some e.at a (copy_in_flight n v past) is).0
    reply false is = is

    -- the line that had started has not started again
    still : (e' : Event) → InTurn past e.at e' → IsCopyStart n (start_entry a past) → IsCopyStart n (start_entry a (record { at = e.at; event = e' } ∷ past))
    still e' turn was = tests (is_start e') (same_at e.at a) refl turn.once
      where
        tests : (t s : Bool) → same_at e.at a ≡ s → StartsOnce t e.at past → IsCopyStart n (if t && s then Some e' else start_entry a past)
        tests true true here once = absurd (subst (IsCopyStart n) (ap (λ (b : At). start_entry b past) (sym (same_at_is e.at a here)) ∙ once.begun) was)
        tests true false here once = was
        tests false s here once = was

    step : (e' : Event) → InTurn past e.at e' → copy_in_flight n v (record { at = e.at; event = e' } ∷ past) ≡ Some a → (copy_in_flight n v past ≡ Some a → IsCopyStart n (start_entry a past))
        → IsCopyStart n (start_entry a (record { at = e.at; event = e' } ∷ past))
    step (Copying m w) turn is was = copied (m.0 == n) (w.0 == v) refl is
      where
        copied : (b c : Bool) → (m.0 == n) ≡ b → (if b && c then Some e.at else copy_in_flight n v past) ≡ Some a → IsCopyStart n (start_entry a (record { at = e.at; event = Copying m w } ∷ past))
        copied true true here is =
            let line : e.at ≡ a = cc in
            subst (λ (b : At). IsCopyStart n (start_entry b (record { at = e.at; event = Copying m w } ∷ past))) line
            (subst (λ (s : Bool). IsCopyStart n (if s then Some (Copying m w) else start_entry e.at past)) (sym (same_at_self e.at)) (eqb-true m.0 n here))
        copied true false here is = still (Copying m w) turn (was is)
        copied false c here is = still (Copying m w) turn (was is)
    step (Crashed m) turn is was = crashed ((m.0 == n) || is_at (primary_of past) m.0) is
      where
        crashed : (b : Bool) → (if b then None else without_at e.at (copy_in_flight n v past)) ≡ Some a → IsCopyStart n (start_entry a (record { at = e.at; event = Crashed m } ∷ past))
        crashed true is = absurd (cc)
        crashed false is = still (Crashed m) turn (was (without_some e.at a (copy_in_flight n v past) is).0)
    step e' turn is was = still e' turn (was (reply (is_reply e') is))

-- ---- a printed entry

-- a line that has started has not started again
pub begun_still : (past : Past) (at : At) (e : Event) (a : At) → InTurn past at e → start_entry a past ≢ None
    → (start_entry a (record { at = at; event = e } ∷ past) ≢ None) × (before_start a (record { at = at; event = e } ∷ past) ≡ before_start a past)
begun_still past at e a turn begun = tests (is_start e) (same_at at a) refl turn.once
  where
    tests : (t s : Bool) → same_at at a ≡ s → StartsOnce t at past → ((if t && s then Some e else start_entry a past) ≢ None) × ((if t && s then past else before_start a past) ≡ before_start a past)
    tests true true here once = absurd (begun (ap (λ (b : At). start_entry b past) (sym (same_at_is at a here)) ∙ once.begun))
    tests true false here once = (begun, refl)
    tests false s here once = (begun, refl)

module _ (size : ℕ) (log : Log) (at : At) (n : ℕ) (legal : IsLegalPast size (printed log)) (turns : AreInTurn (printed log)) (other : is_at (primary_of (printed log)) n ≡ false) where
  abbrev after : Event → Past
  after e = record { at = at; event = e } ∷ printed log

  job_same : (e : Event) (o : Option JobRow) → keeps_jobs e n ≡ true → while_going n (after e) o ≡ while_going n (printed log) o
  job_same e None keeps = refl
  job_same (Crashed m) (Some row) keeps = absurd (true≢false (sym keeps))
  job_same e (Some row) keeps = refl

  latest_same : (e : Event) → keeps_jobs e n ≡ true → (v : ℕ) → is_passed n v (printed log) ≡ false → is_passed n v (after e) ≡ false
  latest_same e keeps v = stays_unpassed n v (printed log) (record { at = at; event = e }) (unstarted e keeps)
    where
      unstarted : (x : Event) → keeps_jobs x n ≡ true → starts_above n v x ≡ false
      unstarted (Copying m w) keeps = ap (λ (b : Bool). b && nat_lt v w.0) (not-true (m.0 == n) keeps)
      unstarted x keeps = refl

  version_same : (e : Event) → keeps_jobs e n ≡ true → version_of n (after e) ≡ version_of n (printed log)
  version_same (Published g w) keeps = ap (λ (b : Bool). if b then w.0 else version_of n (printed log)) other
  version_same (Switched m w) keeps = ap (λ (b : Bool). if b then w.0 else version_of n (printed log)) (not-true (m.0 == n) keeps)
  version_same (Reopened m w) keeps = ap (λ (b : Bool). if b then w.0 else version_of n (printed log)) (not-true (m.0 == n) keeps)
  version_same (Promoted m g f w) keeps = absurd (true≢false (sym keeps))
  version_same e keeps = refl

  flight_same : (e : Event) → KeepsRule size (printed log) at e → keeps_jobs e n ≡ true → (a : At) → copy_in_flight n (newest_version (after e)) (after e) ≡ Some a
      → (copy_in_flight n (newest_version (printed log)) (printed log) ≡ Some a) × (newest_version (after e) ≡ newest_version (printed log))
  flight_same (Published g w) rule keeps a is =
      let next : w.0 ≡ newest_version (printed log) + 1 = rule.next in
      let low = flight_low size (printed log) n (newest_version (after (Published g w))) a legal (without_some at a (copy_in_flight n (newest_version (after (Published g w))) (printed log)) is).0 in
      absurd (omega (arith, next, low))
  flight_same (Copying m w) rule keeps a is = (copied (m.0 == n) (not-true (m.0 == n) keeps) (w.0 == newest_version (printed log)) is, refl)
    where
      copied : (b : Bool) → b ≡ false → (c : Bool) → (if b && c then Some at else copy_in_flight n (newest_version (printed log)) (printed log)) ≡ Some a
          → copy_in_flight n (newest_version (printed log)) (printed log) ≡ Some a
      copied true none c is = absurd (true≢false none)
      copied false none c is = is
  flight_same (Crashed m) rule keeps a is = absurd (true≢false (sym keeps))
  flight_same (Promoted m g f w) rule keeps a is = absurd (true≢false (sym keeps))
  flight_same e rule keeps a is = (reply (is_reply e) is, refl)
    where
      reply : (b : Bool) → (if b then without_at at (copy_in_flight n (newest_version (printed log)) (printed log)) else copy_in_flight n (newest_version (printed log)) (printed log)) ≡ Some a
          → copy_in_flight n (newest_version (printed log)) (printed log) ≡ Some a
      reply true is = (without_some at a (copy_in_flight n (newest_version (printed log)) (printed log)) is).0
      reply false is = is

  -- an entry that starts no copy to the replica, and does not switch it
  pub same_shown : (e : Event) → KeepsRule size (printed log) at e → InTurn (printed log) at e → keeps_jobs e n ≡ true → SameJob log (shown at e ∷ log) n
  same_shown e rule turn keeps = record {
    job = job_same e (last_job false n log) keeps;
    points = points_shown size (printed log) at e legal rule;
    latest = latest_same e keeps;
    version = version_same e keeps;
    start = λ job is begun. begun_still (printed log) at e job.at turn begun;
    flight = flight_same e rule keeps;
    handed = λ job q is. refl;
  }

-- ---- an entry of inner work

-- the last job at a node is one to it
pub job_node : (n : ℕ) (log : Log) (row : JobRow) → last_job false n log ≡ Some row → row.job.node.0 ≡ n
job_node n [] row is = absurd (cc)
job_node n (Shown e ∷ log) row is = job_node n log row is
job_node n (TaskFault e ∷ log) row is = job_node n log row is
job_node n (Kept i ∷ log) row is = step (job_step i) is (λ r was. job_node n log r was)
  where
    kept_node : (s : JobStep) (r : JobRow) → (row_by s r).job ≡ r.job
    kept_node (Begins job) r = elim ((r.job.node.0 == job.node.0) && is_going r) as (λ b. (if b then record r { later = Some job.version } else r).job ≡ r.job) [ true ↦ refl | false ↦ refl ]
    kept_node (Ends line m number) r = elim (((r.job.at.line.0 == line.0) && (r.job.node.0 == m.0)) && (r.job.number == number)) as (λ b. (if b then record r { ended = true } else r).job ≡ r.job) [ true ↦ refl | false ↦ refl ]
    kept_node Passes r = refl

    goes : (s : JobStep) (o : Option JobRow) → last_job false n log ≡ o → row_if_some s o ≡ Some row → ((r : JobRow) → last_job false n log ≡ Some r → r.job.node.0 ≡ n) → row.job.node.0 ≡ n
    goes s None there none was = absurd (cc)
    goes s (Some r) there got was =
        let made : row_by s r ≡ row = cc in
        ap (λ (x : JobRow). x.job.node.0) (sym made) ∙ (ap (λ (j : Job). j.node.0) (kept_node s r) ∙ was r there)

    step : (s : JobStep) → last_job_by false n s (length (printed log)) (last_job false n log) ≡ Some row → ((r : JobRow) → last_job false n log ≡ Some r → r.job.node.0 ≡ n) → row.job.node.0 ≡ n
    step (Begins job) got was = begins (job.node.0 == n) refl got
      where
        begins : (b : Bool) → (job.node.0 == n) ≡ b → (if b then Some (new_job_row job (length (printed log))) else row_if_some (Begins job) (last_job false n log)) ≡ Some row → row.job.node.0 ≡ n
        begins true here new = let made : new_job_row job (length (printed log)) ≡ row = cc in ap (λ (x : JobRow). x.job.node.0) (sym made) ∙ eqb-true job.node.0 n here
        begins false here new = goes (Begins job) (last_job false n log) refl new was
    step (Ends line m number) got was = goes (Ends line m number) (last_job false n log) refl got was
    step Passes got was = goes Passes (last_job false n log) refl got was

apart_from : (k n m : ℕ) → k ≡ n → (m == n) ≡ false → (k == m) ≡ false
apart_from k n m is apart = grind (arith, nat_tests)

-- the last job at a node, after an entry of inner work that is about another
row_kept : (n : ℕ) (log : Log) (i : Inner) → leaves_job i n ≡ true → last_job false n (kept i ∷ log) ≡ last_job false n log
row_kept n log i leaves = step i leaves
  where
    passed : (o : Option JobRow) → row_if_some Passes o ≡ o
    passed None = refl
    passed (Some row) = refl

    begun : (job : Job) (o : Option JobRow) → last_job false n log ≡ o → (job.node.0 == n) ≡ false → row_if_some (Begins job) o ≡ o
    begun job None is apart = refl
    begun job (Some row) is apart = ap (λ (b : Bool). Some (if b && is_going row then record row { later = Some job.version } else row)) (apart_from row.job.node.0 n job.node.0 (job_node n log row is) apart)

    ended : (line : LineNo) (m : NodeNo) (number : ℕ) (o : Option JobRow) → last_job false n log ≡ o → (m.0 == n) ≡ false → row_if_some (Ends line m number) o ≡ o
    ended line m number None is apart = refl
    ended line m number (Some row) is apart =
        ap (λ (b : Bool). Some (if ((row.job.at.line.0 == line.0) && b) && (row.job.number == number) then record row { ended = true } else row)) (apart_from row.job.node.0 n m.0 (job_node n log row is) apart)
        ∙ elim (row.job.at.line.0 == line.0) as (λ b. Some (if (b && false) && (row.job.number == number) then record row { ended = true } else row) ≡ Some row) [ true ↦ refl | false ↦ refl ]

    begins : (line : _) (m : NodeNo) (number : ℕ) (v : Option Version) (by : Option At) → (m.0 == n) ≡ false → last_job false n (kept (JobBegun line m number v by) ∷ log) ≡ last_job false n log
    begins line m number None by apart = passed (last_job false n log)
    begins line m number (Some v) None apart = passed (last_job false n log)
    begins line m number (Some v) (Some a) apart =
        let job : Job = record { at = a; node = m; number = number; version = v } in
        ap (λ (b : Bool). if b then Some (new_job_row job (length (printed log))) else row_if_some (Begins job) (last_job false n log)) apart ∙ begun job (last_job false n log) refl apart

    step : (i' : Inner) → leaves_job i' n ≡ true → last_job false n (kept i' ∷ log) ≡ last_job false n log
    step (JobBegun line m number v by) leaves = begins line m number v by (not-true (m.0 == n) leaves)
    step (JobEnd line m number) leaves = ended line m number (last_job false n log) refl (not-true (m.0 == n) leaves)
    step i' leaves = passed (last_job false n log)

-- what was handed out to a job at the node is what was
out_kept : (n : ℕ) (log : Log) (i : Inner) (a : At) (number : ℕ) (q : Name) → leaves_job i n ≡ true → file_out a n number q (kept i ∷ log) ≡ file_out a n number q log
out_kept n log i a number q leaves = step i leaves
  where
    apart : (by : Option At) (m : NodeNo) (k : ℕ) → not (m.0 == n) ≡ true → is_job a n number by m.0 k ≡ false
    apart by m k leaves = tests (is_by a by) (n == m.0) (number == k) (apart_from n n m.0 refl (not-true (m.0 == n) leaves))
      where
        tests : (x y z : Bool) → y ≡ false → (x && y && z) ≡ false
        tests true true z is = absurd (true≢false is)
        tests true false z is = refl
        tests false y z is = refl

    step : (i' : Inner) → leaves_job i' n ≡ true → file_out a n number q (kept i' ∷ log) ≡ file_out a n number q log
    step (JobBegun line m k v by) leaves = ap (λ (b : Bool). if b then None else file_out a n number q log) (apart by m k leaves)
    step (FileOut line m k name source fate by) leaves = ap (λ (b : Bool). if b && same name q then Some source else file_out a n number q log) (apart by m k leaves)
    step i' leaves = refl

-- an entry of inner work that is about no job at the node
pub same_inner : (log : Log) (i : Inner) (n : ℕ) → leaves_job i n ≡ true → SameJob log (kept i ∷ log) n
same_inner log i n leaves = record {
  job = ap (while_going n (printed log)) (row_kept n log i leaves);
  points = points_alone (printed log);
  latest = λ v none. none;
  version = refl;
  start = λ job is begun. (begun, refl);
  flight = λ a is. (is, refl);
  handed = λ job q is. out_kept n log i job.at job.number q leaves;
}

-- two steps in a row
pub same_then : (log mid now : Log) (n : ℕ) → SameJob log mid n → SameJob mid now n → SameJob log now n
same_then log mid now n a b = record {
  job = b.job ∙ a.job;
  points = points_then (printed log) (printed mid) (printed now) a.points b.points;
  latest = λ v none. b.latest v (a.latest v none);
  version = b.version ∙ a.version;
  start = λ job is begun. let x = a.start job is begun in let y = b.start job (a.job ∙ is) x.0 in (y.0, y.1 ∙ x.1);
  flight = λ at is. let y = b.flight at is in let x = a.flight at y.0 in (x.0, y.1 ∙ x.1);
  handed = λ job q is. b.handed job q (a.job ∙ is) ∙ a.handed job q is;
}

-- nothing happened to the job of a node
pub job_stays : (log : Log) (n : ℕ) → SameJob log log n
job_stays log n = record {
  job = refl;
  points = points_alone (printed log);
  latest = λ v none. none;
  version = refl;
  start = λ job is begun. (begun, refl);
  flight = λ at is. (is, refl);
  handed = λ job q is. refl;
}
