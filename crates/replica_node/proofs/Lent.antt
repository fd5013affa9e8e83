-- The job of a newer point that runs, as a replica lends it.
use Rattle.std.proofs.Common.{◌≡◌, ◌∙◌, ℕ, Bool, true, false, true≢false, Some, None, Option, is_some, refl, ap, sym, subst}
use Rattle.std.specs.Prelude.{IfSome, IsSome, if◌then◌else◌}
use Rattle.std.specs.Option.{option_map}
use Rattle.std.proofs.lemmas.Option.{same_Some, none-some}
use Rattle.copy_job.specs.Jobs.{Job}
use Rattle.replica_node.specs.declared.job.PointJob.{PointJob}
use Rattle.replica_node.specs.Jobs.{running_point}

-- the copy of a job is lent where it runs
pub lent_some : (j : PointJob) → (if j.stopped then None else Some j.copy) ≡ option_map (λ (i : PointJob). i.copy) (running_point (Some j))
lent_some j = by j.stopped
  where
    by : (b : Bool) → (if b then None else Some j.copy) ≡ option_map (λ (i : PointJob). i.copy) (if b then None else Some j)
    by true = refl
    by false = refl

-- this is the copy of the job there, which runs
pub record RunsHere (c : Job) (o : Option PointJob) : Type 0 where
  pub job : PointJob
  pub there : o ≡ Some job
  pub going : job.stopped ≡ false
  pub point : running_point o ≡ Some job
  pub copy : c ≡ job.copy

pub runs_here : (o : Option PointJob) (c : Job) → Some c ≡ option_map (λ (j : PointJob). j.copy) (running_point o) → RunsHere c o
runs_here None c lent = absurd (none-some c (sym lent))
runs_here (Some j) c lent = by j.stopped refl
  where
    by : (b : Bool) → j.stopped ≡ b → RunsHere c (Some j)
    by true e = absurd (none-some c (sym (lent ∙ ap (λ (b : Bool). option_map (λ (i : PointJob). i.copy) (if b then None else Some j)) e)))
    by false e = record {
      job = j;
      there = refl;
      going = e;
      point = ap (λ (b : Bool). if b then None else Some j) e;
      copy = same_Some c j.copy (lent ∙ ap (λ (b : Bool). option_map (λ (i : PointJob). i.copy) (if b then None else Some j)) e);
    }

-- what holds of the job that runs holds of the job there
pub job_has : (P : PointJob → Type 0) (o : Option PointJob) (c : Job) → RunsHere c o → IfSome (running_point o) P → IfSome o P
job_has P o c is has = subst (λ (x : Option PointJob). IfSome x P) (sym is.there) (subst (λ (x : Option PointJob). IfSome x P) is.point has)

-- it is the copy of the job there
pub lent_is : (o : Option PointJob) (c : Job) → RunsHere c o → IfSome o (λ j. c ≡ j.copy)
lent_is o c is = subst (λ (x : Option PointJob). IfSome x (λ j. c ≡ j.copy)) (sym is.there) is.copy

-- where none is lent, none runs
pub nothing_runs : (o : Option PointJob) → None ≡ option_map (λ (j : PointJob). j.copy) (running_point o) → running_point o ≡ None
nothing_runs o lent = by (running_point o) lent
  where
    by : (r : Option PointJob) → None ≡ option_map (λ (j : PointJob). j.copy) r → r ≡ None
    by None e = refl
    by (Some j) e = absurd (none-some j.copy e)

module _ {A : Type 0} (f : A → Job) where
  pub none_runs : (answer : Option A) (o : Option PointJob) → option_map f answer ≡ option_map (λ (j : PointJob). j.copy) (running_point o) → ((x : A) → answer ≡ Some x → ⊥) → running_point o ≡ None
  none_runs None o lent none = nothing_runs o lent
  none_runs (Some x) o lent none = absurd (none x refl)

  -- so one is lent where one runs
  pub none_lent : (answer : Option A) (o : Option PointJob) → option_map f answer ≡ option_map (λ (j : PointJob). j.copy) (running_point o) → IsSome (running_point o) → ((x : A) → answer ≡ Some x → ⊥) → ⊥
  none_lent answer o lent some none = true≢false (sym some ∙ ap (λ (r : Option PointJob). is_some r) (none_runs answer o lent none))

-- the number of the job that runs
pub job_named : (o : Option PointJob) (c : Job) (number : ℕ) → RunsHere c o → number ≡ c.number → IfSome o (λ j. j.copy.number ≡ number)
job_named o c number is same = subst (λ (x : Option PointJob). IfSome x (λ j. j.copy.number ≡ number)) (sym is.there) (sym (same ∙ ap (λ (x : Job). x.number) is.copy))
