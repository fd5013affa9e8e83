-- How many calls of its directory a step makes, as plans count them.
use Rattle.std.specs.Prelude.{◌≡◌, ◌<◌, ◌≤◌, ℕ, zero, suc, Bool, true, false, Option, Some, None, Result, Ok, Err}
use Rattle.disk_model.specs.Disk.{after_sync_names}
use Rattle.disk_model.specs.declared.dir.DirFault.{DirFault}
use Rattle.disk_model.specs.declared.dir.DirFault.TheVariants.{Failed}
use Rattle.disk_model.specs.Faults.{Plans, is_met, counted, FailsByPlans}
use Rattle.file_deleter.specs.Holdings.{Holdings}
use Rattle.file_deleter.specs.Removals.{Directory, RemovesInOrder}
use Rattle.commit_steps.specs.declared.states.Commit.{Commit}
use Rattle.commit_steps.specs.declared.states.CommitFault.{CommitFault}
use Rattle.commit_steps.specs.Flights.{fault_of}

-- the last commit's names are given back: those that nobody holds are removed, ascending, and then those that were due; without a last commit nothing is called
abbrev pub RemovesLast : Option Commit → Holdings → Holdings → Directory → Directory → Type 0
RemovesLast None old new before after = after ≡ before
RemovesLast (Some c) old new before after = RemovesInOrder c.names old new before after

-- the last sync of names, and behind it the removals of the commit before
pub record EndsCommit (last : Option Commit) (old new : Holdings) (before after : Directory) : Type 0 where
  pub between : Directory
  pub synced : between.cells ≡ after_sync_names {T = Unit {0}} before.cells (Ok tt)
  pub counted : FailsByPlans {T = Unit {0}} before.plans between.plans (Ok tt)
  pub removals : RemovesLast last old new between after

-- a step makes one call, which plans count; where it ends the commit, removals come behind it; where no memory was found, plans count nothing
abbrev pub StepCalls : Option Commit → Holdings → Holdings → Directory → Directory → Result Bool CommitFault → Type 0
StepCalls last old new before after (Ok true) = EndsCommit last old new before after
StepCalls last old new before after (Ok false) = FailsByPlans {T = Unit {0}} before.plans after.plans (Ok tt)
StepCalls last old new before after (Err e) = FailsByPlans {T = Unit {0}} before.plans after.plans (Err (fault_of e))

-- ---- calls in a row
-- the plans after these many calls that were counted
abbrev pub counted_times : ℕ → Plans → Plans
counted_times zero p = p
counted_times (suc n) p = counted (counted_times n p)

-- none of these many calls meets a plan
abbrev pub NoneMeets : ℕ → Plans → Type 0
NoneMeets zero p = Unit {0}
NoneMeets (suc n) p = NoneMeets n p × (is_met (counted_times n p) ≡ false)

-- these many calls were counted, and none failed
abbrev pub MakesCalls : ℕ → Option Plans → Option Plans → Type 0
MakesCalls n None after = Unit {0}
MakesCalls n (Some p) after = NoneMeets n p × (after ≡ Some (counted_times n p))

-- fewer calls than these were counted, and then one failed
pub record FailsAmong (n : ℕ) (before after : Option Plans) : Type 0 where
  pub made : ℕ
  pub fewer : made < n
  pub between : Option Plans
  pub calls : MakesCalls made before between
  pub fails : FailsByPlans {T = Unit {0}} between after (Err Failed)

-- these many calls at most were counted, and none failed
pub record StopsAmong (n : ℕ) (before after : Option Plans) : Type 0 where
  pub made : ℕ
  pub most : made ≤ n
  pub calls : MakesCalls made before after

-- as many calls as these in a row, up to the first that fails
abbrev pub CallsInRow : {T : Type 0} → ℕ → Option Plans → Option Plans → Result T DirFault → Type 0
CallsInRow n before after (Ok x) = MakesCalls n before after
CallsInRow n before after (Err Failed) = FailsAmong n before after
CallsInRow n before after (Err e) = StopsAmong n before after
