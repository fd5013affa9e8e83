-- The job or the copy that a call by number is about.
use Rattle.std.proofs.Common.{◌≡◌, ℕ, true, false, Option, Some, is_some, sym, ap, subst, ◌∙◌}
use Rattle.std.specs.Prelude.{IfSome}
use Rattle.std.specs.Option.{option_map}
use Rattle.std.specs.List.{AllByRecursion}
use Rattle.disk_model.specs.Disk.{Name, Content, Cells, reads_of}
use Rattle.copy_job.specs.Jobs.{Job}
use Rattle.replica_node.specs.declared.job.PointJob.{PointJob}
use Rattle.replica_node.specs.declared.merges.MergeCopies.{MergeCopies}
use Rattle.replica_node.specs.declared.parts.ReplicaParts.{ReplicaParts}
use Rattle.replica_node.specs.Sources.{CopiesFrom, HeldReadAs, IsSourced}
use Rattle.replica_node.specs.Starting.{IsJustOpened}
use Rattle.replica_node.specs.Jobs.{running_point}
use Rattle.replica_node.specs.Running.{running_job, with_job}
use Rattle.replica_node.proofs.Lent.{runs_here}

-- ---- which one it is
-- the law of `replica_node` on the job of a newer point
abbrev PointRuns : {D : Type 0} → ReplicaParts D → ℕ → Type 0
PointRuns p number = (j : PointJob) → p.job ≡ Some j → j.stopped ≡ false → j.copy.number ≡ number → (running_job number p ≡ Some j.copy) × ((k : Job) → with_job number k p ≡ record p { job = Some (record j { copy = k }) })

module _ {D : Type 0} (p : ReplicaParts D) (number : ℕ) (seen : Job) (law : PointRuns p number) (lent : Some seen ≡ option_map (λ (j : PointJob). j.copy) (running_point p.job)) (same : number ≡ seen.number) where
  pub seen_runs : running_job number p ≡ Some seen
  seen_runs = let f = runs_here p.job seen lent in (law f.job f.there f.going (sym (ap (λ (k : Job). k.number) f.copy) ∙ sym same)).0 ∙ ap Some (sym f.copy)

-- a claim of the one that runs
pub of_running : {D : Type 0} (P : Job → Type 0) (p : ReplicaParts D) (number : ℕ) (seen : Job) → running_job number p ≡ Some seen → P seen → IfSome (running_job number p) P
of_running P p number seen runs h = subst (λ (o : Option Job). IfSome o P) (sym runs) h

pub some_runs : {D : Type 0} (p : ReplicaParts D) (number : ℕ) (seen : Job) → running_job number p ≡ Some seen → is_some (running_job number p) ≡ true
some_runs p number seen runs = ap (λ (o : Option Job). is_some o) runs

-- ---- a replica that was just opened
-- where nothing is held that reads otherwise, nothing is, as no copy runs
pub just_sourced : {D : Type 0} (cells : D → Cells) (p : ReplicaParts D) → IsJustOpened p → (source : Name → Content) → HeldReadAs source (cells p.dir) p.files → IsSourced source cells p
just_sourced cells p is source held = record {
  held = held;
  job = subst (λ (o : Option PointJob). IfSome o (λ j. CopiesFrom source (reads_of (cells p.dir)) j.copy)) (sym is.job) tt;
  merges = subst (λ (k : MergeCopies). AllByRecursion (CopiesFrom source (reads_of (cells p.dir))) k.running) (sym is.copies) tt;
}
