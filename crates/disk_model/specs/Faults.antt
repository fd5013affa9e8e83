-- When a call of a directory fails, and the faults that are planned for one.
use Rattle.std.specs.Prelude.{◌≡◌, ℕ, ◌+◌, ◌-◌, ◌^◌, ◌≤◌, Bool, true, false, ◌||◌, ◌&&◌, if◌then◌else◌, nat_eq, nat_lt, Option, Some, None, Result, Ok, Err, IsErrOf}
use Rattle.file_names.specs.Given.{Rose}
use Rattle.disk_model.specs.declared.dir.DirFault.{DirFault}
use Rattle.disk_model.specs.declared.dir.DirFault.TheVariants.{Memory, Missing, Exists, Failed}

-- the count of faults did not fall, and rose where the call answered Failed
pub record CountsFaults {T : Type 0} (before now : ℕ) (result : Result T DirFault) : Type 0 where
  pub later : before ≤ now
  pub failed : IsErrOf result Failed → Rose before now

-- out of memory, or a fault of the disk
abbrev pub IsMemoryOrFailed : DirFault → Type 0
IsMemoryOrFailed Memory = Unit {0}
IsMemoryOrFailed Failed = Unit {0}
IsMemoryOrFailed Missing = ⊥
IsMemoryOrFailed Exists = ⊥

-- the faults planned: the call that fails once and the first of those that fail from then on, counted from 1, 0 for none; and how many faults each kind has met
pub record Plans : Type 0 where
  pub once : ℕ
  pub stop : ℕ
  pub met_once : ℕ
  pub met_stop : ℕ

-- the plans after a crash: none is left, and the faults that were met stay counted
abbrev pub ended : Plans → Plans
ended p = record p { once = 0; stop = 0 }

-- how many faults the plans have met
abbrev pub faults_met : Plans → ℕ
faults_met p = p.met_once + p.met_stop

-- the next call meets a plan
abbrev pub is_met : Plans → Bool
is_met p = (nat_eq p.once 1 || nat_eq p.stop 1) && nat_lt (faults_met p) (2 ^ 64 - 2)

-- the first of the calls that fail from then on, one call later
abbrev pub next_stop : ℕ → ℕ
next_stop stop = if nat_eq stop 1 then 1 else stop - 1

-- one more where a plan that stands at this call is met
abbrev pub one_if : Bool → ℕ
one_if b = if b then 1 else 0

-- the plans after a call that was counted: a call that meets both plans counts for both
abbrev pub counted : Plans → Plans
counted p = record {
  once = p.once - 1;
  stop = next_stop p.stop;
  met_once = p.met_once + one_if (is_met p && nat_eq p.once 1);
  met_stop = p.met_stop + one_if (is_met p && nat_eq p.stop 1);
}

-- where the plans are known, a call fails exactly by them; one that is refused Missing, Exists or Memory is not counted
abbrev pub FailsByPlans : {T : Type 0} → Option Plans → Option Plans → Result T DirFault → Type 0
FailsByPlans None new r = Unit {0}
FailsByPlans (Some p) new (Ok x) = (is_met p ≡ false) × (new ≡ Some (counted p))
FailsByPlans (Some p) new (Err Failed) = (is_met p ≡ true) × (new ≡ Some (counted p))
FailsByPlans (Some p) new (Err e) = new ≡ Some p
