-- A directory for which no fault is planned does not fail.
use Rattle.std.proofs.Common.{◌≡◌, true, false, Option, Some, None, Result, Ok, Err, refl, ap, ◌∙◌, sym, subst, true≢false}
use Rattle.std.specs.Prelude.{IsErrOf, OnErr}
use Rattle.disk_model.specs.declared.dir.DirFault.{DirFault}
use Rattle.disk_model.specs.declared.dir.DirFault.TheVariants.{Memory, Missing, Exists, Failed}
use Rattle.disk_model.specs.Faults.{Plans, FailsByPlans, is_met, counted}
use Rattle.trans_log.specs.declared.log.LogFault.{LogFault}
use Rattle.trans_log.specs.declared.log.LogFault.TheVariants.{Memory as LogMemory, Failed as LogFailed}
use Rattle.trans_log.specs.Logs.{IsCalm}

unmet : (p : Plans) → (p.once ≡ 0) × (p.stop ≡ 0) → is_met p ≡ false
unmet p calm = rw (calm.0, calm.1) refl

counted_calm : (p : Plans) → (p.once ≡ 0) × (p.stop ≡ 0) → ((counted p).once ≡ 0) × ((counted p).stop ≡ 0)
counted_calm p calm = (rw calm.0 refl, rw calm.1 refl)

calm_of : (p : Plans) (o : Option Plans) → o ≡ Some p → (p.once ≡ 0) × (p.stop ≡ 0) → IsCalm o
calm_of p o is calm = subst IsCalm (sym is) calm

-- behind a call none is planned
pub calm_stays : {T : Type 0} (old now : Option Plans) (r : Result T DirFault) → FailsByPlans old now r → IsCalm old → IsCalm now
calm_stays None now r fails calm = absurd calm
calm_stays (Some p) now (Ok x) fails calm = calm_of (counted p) now fails.1 (counted_calm p calm)
calm_stays (Some p) now (Err Failed) fails calm = calm_of (counted p) now fails.1 (counted_calm p calm)
calm_stays (Some p) now (Err Memory) fails calm = calm_of p now fails calm
calm_stays (Some p) now (Err Missing) fails calm = calm_of p now fails calm
calm_stays (Some p) now (Err Exists) fails calm = calm_of p now fails calm

-- and it does not fail
pub never_failed : {T : Type 0} (old now : Option Plans) (r : Result T DirFault) → FailsByPlans old now r → IsCalm old → IsErrOf r Failed → ⊥
never_failed {T = T} old now r fails calm failed = by old (subst (λ (x : Result T DirFault). FailsByPlans old now x) failed fails) calm
  where
    by : (old : Option Plans) → FailsByPlans {T = T} old now (Err Failed) → IsCalm old → ⊥
    by None fails calm = calm
    by (Some p) fails calm = true≢false (sym fails.0 ∙ unmet p calm)

-- so what refuses a call of the log is want of memory
pub only_memory : {T U : Type 0} (old now : Option Plans) (r : Result T DirFault) (fault : DirFault) (told : LogFault) (result : Result U LogFault) → FailsByPlans old now r → r ≡ Err fault
    → ((fault ≡ Failed → ⊥) → told ≡ LogMemory) → result ≡ Err told → IsCalm old → OnErr result (IsErrOf result LogMemory)
only_memory {U = U} old now r fault told result fails is memory answer calm =
    let same : ◌≡◌ {A = Result U LogFault} (Err told) (Err LogMemory) = ap Err (memory (λ failed. never_failed old now r fails calm (is ∙ ap Err failed))) in
    subst (λ (x : Result U LogFault). OnErr x (IsErrOf x LogMemory)) (sym answer) same

-- what a refusal tells
abbrev pub told_by : {U : Type 0} → Result U LogFault → LogFault
told_by (Ok x) = LogMemory
told_by (Err e) = e

-- and it is not told that the disk failed
pub never_told : {T U : Type 0} (old now : Option Plans) (r : Result T DirFault) (fault : DirFault) (told : LogFault) (result : Result U LogFault) → FailsByPlans old now r → r ≡ Err fault
    → (told ≡ LogFailed → fault ≡ Failed) → result ≡ Err told → IsCalm old → IsErrOf result LogFailed → ⊥
never_told old now r fault told result fails is failed answer calm bad = never_failed old now r fails calm (is ∙ ap Err (failed (ap told_by (sym answer ∙ bad))))
