-- A part that arrives under its temporary name.
use Rattle.std.proofs.Common.{◌≡◌, ℕ, ◌+◌, Bool, true, false, [], ◌∷◌, cond, refl, sym, ap, ◌∙◌, arith, true≢false}
use Rattle.file_names.specs.Names.{temp_name_of, is_commit_name, is_pending_name}
use Rattle.file_names.proofs.NameLaws.{temp_name_not_commit, temp_name_not_pending}
use Rattle.disk_model.specs.Disk.{Name, same, is_among}
use Rattle.disk_model.proofs.CellLemmas.{same_true}
use Rattle.file_deleter.specs.Holdings.{times}
use Rattle.file_deleter.proofs.NameLemmas.{times-append, times_one, among_times}
use Rattle.searcher_switch.specs.Node.{AddsOnly}
use Rattle.copy_job.specs.Parts.{present_names}
use Rattle.copy_job.specs.Jobs.{Job, job_names, with_part}
use Rattle.replica_opening.specs.Known.{IsLasting}
use Rattle.copy_job.proofs.Naming.{times-present_insert}
use Rattle.replica_node.proofs.Temporary.{one_apart}

-- ---- names of a job with one part more
module _ (j now : Job) (name : Name) where
  pub part_added : now ≡ with_part j name → (q : Name) → times (job_names now) q ≡ times (job_names j) q + times (temp_name_of name j.number ∷ []) q
  part_added e q = ap (λ (x : Job). times (job_names x) q) e
      ∙ omega (arith, times-append (present_names (with_part j name).parts) j.reused q, times-append (present_names j.parts) j.reused q, times-present_insert (record { own = name; now = temp_name_of name j.number }) j.parts q, times_one (temp_name_of name j.number) q)

  pub adds_made : now ≡ with_part j name → AddsOnly (temp_name_of name j.number ∷ []) (job_names j) (job_names now)
  adds_made e = record { each = λ q none apart. omega (arith, none, apart, part_added e q) }

  pub adds_none : now ≡ j → AddsOnly (temp_name_of name j.number ∷ []) (job_names j) (job_names now)
  adds_none e = record { each = λ q none apart. ap (λ (x : Job). times (job_names x) q) e ∙ none }

-- ---- the temporary name
module _ (name : Name) (job : ℕ) where
  pub temp_plain : (q : Name) → is_among (temp_name_of name job ∷ []) q ≡ true → (is_commit_name q ≡ false) × (is_pending_name q ≡ false)
  temp_plain q there = (ap is_commit_name (sym (one_of q there)) ∙ temp_name_not_commit name job, ap is_pending_name (sym (one_of q there)) ∙ temp_name_not_pending name job)
    where
      one_of : (q : Name) → is_among (temp_name_of name job ∷ []) q ≡ true → temp_name_of name job ≡ q
      one_of q there = by (same (temp_name_of name job) q) refl
        where
          by : (b : Bool) → same (temp_name_of name job) q ≡ b → temp_name_of name job ≡ q
          by true e = same_true (temp_name_of name job) q e
          by false e = let n = among_times (temp_name_of name job ∷ []) q there in absurd (omega (arith, n, times_one (temp_name_of name job) q ∙ ap (λ b. cond b 1 0) e))

  pub temp_none : (q : Name) → is_pending_name q ≡ true → times (temp_name_of name job ∷ []) q ≡ 0
  temp_none q named = by (same (temp_name_of name job) q) refl
    where
      by : (b : Bool) → same (temp_name_of name job) q ≡ b → times (temp_name_of name job ∷ []) q ≡ 0
      by true e = absurd (true≢false (sym named ∙ (ap is_pending_name (sym (same_true (temp_name_of name job) q e)) ∙ temp_name_not_pending name job)))
      by false e = times_one (temp_name_of name job) q ∙ ap (λ b. cond b 1 0) e

-- it is none of a file of a segment
pub temp_lasting : (name : Name) (job : ℕ) (q : Name) → IsLasting q → times (temp_name_of name job ∷ []) q ≡ 0
temp_lasting name job q lasting = one_apart (temp_name_of name job) q (λ e. lasting.temporary name job (sym e))
