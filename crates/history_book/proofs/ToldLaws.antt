-- What is told at each place, and that one more entry keeps it.
use Rattle.std.proofs.Common.{◌≡◌, ◌==◌, ◌&&◌, ◌++◌, ◌⊎◌, inl, inr, ℕ, if◌then◌else◌, length, List, [], ◌∷◌, Bool, true, false, Option, Some, None, refl, sym, ap, ◌∙◌, subst}
use Rattle.std.proofs.lemmas.Bool.{eqb-true, and_parts}
use Rattle.nrt_base.specs.declared.numbers.At.{At}
use Rattle.nrt_base.specs.declared.numbers.Version.{Version}
use Rattle.history_rules.specs.declared.entry.Entry.{Entry}
use Rattle.history_rules.specs.declared.entry.Event.{Event}
use Rattle.std.specs.Prelude.{IsSomeAnd}
use Rattle.history_rules.specs.declared.cause.Cause.{Cause}
use Rattle.history_rules.specs.declared.cause.Cause.TheVariants.{Cancelled}
use Rattle.history_rules.specs.declared.entry.Event.TheVariants.{Refused}
use Rattle.history_rules.specs.Lines.{start_entry}
use Rattle.history_book.specs.declared.inner.Inner.{Inner}
use Rattle.history_book.specs.declared.inner.Mark.{Mark}
use Rattle.history_book.specs.declared.inner.Mark.TheVariants.{Shown, TaskFault, Kept}
use Rattle.history_book.specs.Log.{Log, mark_for, printed, shown}
use Rattle.history_book.specs.declared.inner.Inner.TheVariants.{JobBegun, JobEnd}
use Rattle.history_book.specs.Jobs.{job_step, last_job, job_of}
use Rattle.history_tables.specs.declared.jobs.Job.{Job}
use Rattle.history_tables.specs.declared.jobs.JobRow.{JobRow}
use Rattle.history_tables.specs.declared.jobs.JobStep.TheVariants.{Begins, Ends, Passes}
use Rattle.history_tables.specs.JobRows.{new_job_row, is_going, row_by, row_if_some, last_job_by}
use Rattle.history_book.specs.Told.{IsSo, IsTold}
use Rattle.history_book.specs.ToldReads.{ReadsTold, HasJob, LaterWasBegun}

pub reads_told : ReadsTold
reads_told [] older at e told = told.0
reads_told (Shown x ∷ newer) older at e told = reads_told newer older at e told.1
reads_told (TaskFault x ∷ newer) older at e told = reads_told newer older at e told
reads_told (Kept i ∷ newer) older at e told = reads_told newer older at e told

-- the book's `append`: one printed entry more, of a merge's task or not
pub told_shown : (task : Bool) (e : Entry) (old new : Log) → new ≡ mark_for task e ∷ old → (task ≡ false → IsSo old e.at e.event) → IsTold old → IsTold new
told_shown true e old new is so was = subst IsTold (sym is) was
told_shown false e old new is so was = subst IsTold (sym is) (so refl, was)

-- the book's `keep`: one entry of inner work more
pub told_kept : (i : Inner) (old new : Log) → new ≡ Kept i ∷ old → IsTold old → IsTold new
told_kept i old new is was = subst IsTold (sym is) was

-- a line that has not started may be refused for any cause
pub so_unstarted : (log : Log) (at : At) (cause : Cause) → start_entry at (printed log) ≡ None → IsSo log at (Refused cause)
so_unstarted log at (Cancelled v) none = λ some. absurd (some none)
so_unstarted log at cause none = tt

-- a line that a later job has overtaken
pub so_cancelled : (log : Log) (row : JobRow) (v : Version) → job_of row.job.at.lane.0 log ≡ Some row → row.later ≡ Some v → IsSo log row.job.at (Refused (Cancelled v))
so_cancelled log row v there later = λ started. record { job = subst (λ (o : Option JobRow). IsSomeAnd o (λ (r : JobRow). (r.job.at ≡ row.job.at) × (r.later ≡ Some v))) (sym there) (refl, later) }

-- a row that an entry passes stays as it was
pub passes_old : (o : Option JobRow) (row : JobRow) → row_if_some Passes o ≡ Some row → o ≡ Some row
passes_old None row is = absurd (cc)
passes_old (Some r) row is = is

later_step : (lane : ℕ) (log : Log) (i : Inner) (row : JobRow) (v : Version)
    → ((r : JobRow) (v : Version) → job_of lane log ≡ Some r → r.later ≡ Some v → HasJob r.job.node.0 v log)
    → last_job_by true lane (job_step i) (length (printed log)) (last_job true lane log) ≡ Some row → row.later ≡ Some v → HasJob row.job.node.0 v (Kept i ∷ log)
later_step lane log (JobBegun line n number (Some w) (Some at)) row v was is later = begins (at.lane.0 == lane) refl is
  where
    job : Job
    job = record { at = at; node = n; number = number; version = w }

    overtakes : (r : JobRow) → last_job true lane log ≡ Some r → (c : Bool) → ((r.job.node.0 == n.0) && is_going r) ≡ c
        → (if c then record r { later = Some w } else r) ≡ row → HasJob row.job.node.0 v (Kept (JobBegun line n number (Some w) (Some at)) ∷ log)
    overtakes r there true both made =
        let node : r.job.node.0 ≡ n.0 = eqb-true r.job.node.0 n.0 (and_parts (r.job.node.0 == n.0) (is_going r) both).0 in
        let mine : Some w ≡ Some v = ap (λ (x : JobRow). x.later) made ∙ later in
        let at_node : r.job.node.0 ≡ row.job.node.0 = ap (λ (x : JobRow). x.job.node.0) made in
        inl (sym node ∙ at_node, cc)
    overtakes r there false other made = inr (subst (λ (x : JobRow). HasJob x.job.node.0 v log) made (was r v there (ap (λ (x : JobRow). x.later) made ∙ later)))

    goes : (o : Option JobRow) → last_job true lane log ≡ o → row_if_some (Begins job) o ≡ Some row → HasJob row.job.node.0 v (Kept (JobBegun line n number (Some w) (Some at)) ∷ log)
    goes None there none = absurd (cc)
    goes (Some r) there got = let made : row_by (Begins job) r ≡ row = cc in overtakes r there ((r.job.node.0 == n.0) && is_going r) refl made

    begins : (b : Bool) → (at.lane.0 == lane) ≡ b → (if b then Some (new_job_row job (length (printed log))) else row_if_some (Begins job) (last_job true lane log)) ≡ Some row
        → HasJob row.job.node.0 v (Kept (JobBegun line n number (Some w) (Some at)) ∷ log)
    begins true here new =
        let made : new_job_row job (length (printed log)) ≡ row = cc in
        let never : None ≡ Some v = ap (λ (x : JobRow). x.later) made ∙ later in absurd (cc)
    begins false other old = goes (last_job true lane log) refl old
later_step lane log (JobEnd line n number) row v was is later = goes (last_job true lane log) refl is
  where
    ended : (r : JobRow) → last_job true lane log ≡ Some r → (c : Bool) → (if c then record r { ended = true } else r) ≡ row → HasJob row.job.node.0 v log
    ended r there true made = subst (λ (k : ℕ). HasJob k v log) (ap (λ (x : JobRow). x.job.node.0) made) (was r v there (ap (λ (x : JobRow). x.later) made ∙ later))
    ended r there false made = subst (λ (k : ℕ). HasJob k v log) (ap (λ (x : JobRow). x.job.node.0) made) (was r v there (ap (λ (x : JobRow). x.later) made ∙ later))

    goes : (o : Option JobRow) → last_job true lane log ≡ o → row_if_some (Ends line n number) o ≡ Some row → HasJob row.job.node.0 v (Kept (JobEnd line n number) ∷ log)
    goes None there none = absurd (cc)
    goes (Some r) there got =
        let made : row_by (Ends line n number) r ≡ row = cc in
        inr (ended r there (((r.job.at.line.0 == line.0) && (r.job.node.0 == n.0)) && (r.job.number == number)) made)
later_step lane log i row v was is later = inr (was row v (passes_old (last_job true lane log) row is) later)

pub later_was_begun : LaterWasBegun
later_was_begun lane [] row v is later = absurd (cc)
later_was_begun lane (Shown e ∷ log) row v is later = later_was_begun lane log row v is later
later_was_begun lane (TaskFault e ∷ log) row v is later = later_was_begun lane log row v is later
later_was_begun lane (Kept i ∷ log) row v is later = later_step lane log i row v (later_was_begun lane log) is later
