-- How many calls of its directory a step of a book makes.
use Rattle.std.proofs.Common.{◌≡◌, ℕ, true, Option, Some, None, List, Ok, Err, refl, ap, subst, ◌∙◌, ◌++◌}
use Rattle.disk_model.specs.Disk.{Name, after_sync_names}
use Rattle.disk_model.specs.Faults.{Plans, FailsByPlans}
use Rattle.disk_model.specs.declared.dir.DirFault.TheVariants.{Memory as DirMemory}
use Rattle.file_deleter.specs.Holdings.{Holdings}
use Rattle.file_deleter.specs.Removals.{Directory, Removals}
use Rattle.commit_steps.specs.declared.states.Commit.{Commit}
use Rattle.commit_steps.specs.declared.stage.Stage.{Stage}
use Rattle.commit_steps.specs.declared.stage.Stage.TheVariants.{Begun, Synced, Written, Pending, Named, Renamed}
use Rattle.commit_steps.specs.declared.stage.Progress.{Progress}
use Rattle.commit_steps.specs.declared.stage.Progress.TheVariants.{Made}
use Rattle.commit_steps.specs.Book.{progress_of, is_last_call}
use Rattle.commit_steps.specs.StepCalls.{RemovesLast, EndsCommit}

-- where no memory is found, plans count nothing
pub uncounted : (plans : Option Plans) → FailsByPlans {T = Unit {0}} plans plans (Err DirMemory)
uncounted None = tt
uncounted (Some p) = refl

-- a call that makes the commit is the last one
pub made_last : (s : Stage) (c : Commit) → ◌≡◌ {A = Progress} (Made c) (progress_of s) → is_last_call s ≡ true
made_last (Begun s) c e = absurd cc
made_last (Synced s) c e = absurd cc
made_last (Written s) c e = absurd cc
made_last (Pending s) c e = absurd cc
made_last (Named s) c e = absurd cc
made_last (Renamed s) c e = refl

-- removals go by what was due, whatever room there is
removes_roomy : (last : Option Commit) (old mid new : Holdings) (before after : Directory) → mid.due ≡ old.due → RemovesLast last mid new before after → RemovesLast last old new before after
removes_roomy None old mid new before after e r = r
removes_roomy (Some c) old mid new before after e r = record {
  fallen = r.fallen;
  failed = r.failed;
  fell = r.fell;
  ascending = r.ascending;
  removals = subst (λ (due : List Name). Removals (r.fallen ++ due) r.failed before after) e r.removals;
  due = r.due;
}

-- the last call, and the removals behind it
pub ends_commit : (last : Option Commit) (old room mid new : Holdings) (places : ℕ) (before between after : Directory) → room ≡ record old { room = places } → mid ≡ room
    → between.cells ≡ after_sync_names {T = Unit {0}} before.cells (Ok tt) → FailsByPlans {T = Unit {0}} before.plans between.plans (Ok tt)
    → RemovesLast last mid new between after → EndsCommit last old new before after
ends_commit last old room mid new places before between after made same synced counted removals = record {
  between = between;
  synced = synced;
  counted = counted;
  removals = removes_roomy last old mid new between after (ap (λ (h : Holdings). h.due) (same ∙ made)) removals;
}
