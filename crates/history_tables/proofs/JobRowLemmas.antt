-- Rows of jobs under their keys: after a removal, after one more, and after a step of each.
use Rattle.std.proofs.Common.{◌≡◌, ◌==◌, ◌++◌, ℕ, Bool, true, false, List, [], ◌∷◌, Some, None, refl, ap, ◌∙◌, arith, if◌then◌else◌, map}
use Rattle.std.specs.Prelude.{not}
use Rattle.std.specs.List.{filter}
use Rattle.std.proofs.lemmas.Bool.Decides.{nat_tests}
use Rattle.history_tables.specs.declared.jobs.JobRow.{JobRow}
use Rattle.history_tables.specs.declared.jobs.JobStep.{JobStep}
use Rattle.history_tables.specs.declared.jobs.KeyedJob.{KeyedJob}
use Rattle.history_tables.specs.JobRows.{row_under, row_by, row_if_some, keyed_by}

job_row_without : (rows : List KeyedJob) (key k : ℕ) → row_under (filter (λ r. not (r.key == key)) rows) k ≡ (if key == k then None else row_under rows k)
job_row_without [] key k = grind (arith, nat_tests)
job_row_without (r ∷ rows) key k = grind (arith, nat_tests, job_row_without rows key k)

pub job_row_kept : (old new : List KeyedJob) (key k : ℕ) → new ≡ filter (λ r. not (r.key == key)) old → row_under new k ≡ (if key == k then None else row_under old k)
job_row_kept old new key k e = ap (λ rows. row_under rows k) e ∙ job_row_without old key k

job_row_end : (rows : List KeyedJob) (r : KeyedJob) (k : ℕ) → row_under rows r.key ≡ None → row_under (rows ++ r ∷ []) k ≡ (if r.key == k then Some r.row else row_under rows k)
job_row_end [] r k fresh = refl
job_row_end (q ∷ rows) r k fresh = ends (q.key == r.key) refl fresh (job_row_end rows r k)
  where
    ends : (t : Bool) → (q.key == r.key) ≡ t → (if t then Some q.row else row_under rows r.key) ≡ None
        → (row_under rows r.key ≡ None → row_under (rows ++ r ∷ []) k ≡ (if r.key == k then Some r.row else row_under rows k))
        → (if q.key == k then Some q.row else row_under (rows ++ r ∷ []) k) ≡ (if r.key == k then Some r.row else if q.key == k then Some q.row else row_under rows k)
    ends true is none more = absurd (cc)
    ends false is none more = let rest = more none in grind (arith, nat_tests, rest, is)

pub job_row_last : (old new : List KeyedJob) (key : ℕ) (row : JobRow) (k : ℕ) → new ≡ old ++ (record { key = key; row = row }) ∷ [] → row_under old key ≡ None
    → row_under new k ≡ (if key == k then Some row else row_under old k)
job_row_last old new key row k e fresh = ap (λ rows. row_under rows k) e ∙ job_row_end old (record { key = key; row = row }) k fresh

job_rows_after : (rows : List KeyedJob) (step : JobStep) (k : ℕ) → row_under (map (keyed_by step) rows) k ≡ row_if_some step (row_under rows k)
job_rows_after [] step k = refl
job_rows_after (r ∷ rows) step k = tests (r.key == k) (job_rows_after rows step k)
  where
    tests : (t : Bool) → row_under (map (keyed_by step) rows) k ≡ row_if_some step (row_under rows k)
        → (if t then Some (row_by step r.row) else row_under (map (keyed_by step) rows) k) ≡ row_if_some step (if t then Some r.row else row_under rows k)
    tests true rest = refl
    tests false rest = rest

pub job_row_after : (old new : List KeyedJob) (step : JobStep) (k : ℕ) → new ≡ map (keyed_by step) old → row_under new k ≡ row_if_some step (row_under old k)
job_row_after old new step k e = ap (λ rows. row_under rows k) e ∙ job_rows_after old step k
