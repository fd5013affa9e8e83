-- What arrives of a file that is carried over a link of its fate.
use Rattle.std.proofs.Common.{◌≡◌, ◌≢◌, ℕ, Some, Result, Ok, Err, refl, subst}
use Rattle.std.specs.Prelude.{IfOk}
use Rattle.link_model.specs.declared.fate.Fate.{Fate}
use Rattle.link_model.specs.declared.fate.Fate.TheVariants.{Whole, Fail, Damage}
use Rattle.copy_job.specs.declared.fault.JobFault.{JobFault}
use Rattle.copy_job.specs.declared.fault.JobFault.TheVariants.{Memory, LinkFailed, Damaged, DirFailed, NameClash}
use Rattle.copy_job.specs.declared.copying.Part.{Part}
use Rattle.copy_job.specs.Copying.{ArrivesByFate, HasCopyCause, IsPartOf}
use Rattle.cluster_nodes.specs.declared.tasks.FileTask.{FileTask}
use Rattle.cluster_state.specs.DueFaults.{ArrivesBy}

-- a part that came
pub arrives_part : (file : FileTask) (r : Result Part JobFault) (part : Part) → r ≡ Ok part → ArrivesByFate (Some file.fate) r → IfOk r (IsPartOf file.name file.source file.meta) → ArrivesBy file (Ok part)
arrives_part file r part is came whole =
    by file.fate refl (subst (λ (q : Result Part JobFault). ArrivesByFate (Some file.fate) q) is came)
    (subst (λ (q : Result Part JobFault). IfOk q (IsPartOf file.name file.source file.meta)) is whole)
  where
    by : (fate : Fate) → file.fate ≡ fate → ArrivesByFate (Some fate) (Ok part) → IsPartOf file.name file.source file.meta part → ArrivesBy file (Ok part)
    by Whole becomes came' whole' = (becomes, whole')
    by Fail becomes came' whole' = absurd came'
    by (Damage byte) becomes came' whole' = absurd came'

-- what kept a file back, but for want of memory
pub arrives_fault : (file : FileTask) (faults faults_now damages damages_now : ℕ) (r : Result Part JobFault) (fault : JobFault) → r ≡ Err fault → fault ≢ Memory → ArrivesByFate (Some file.fate) r
    → HasCopyCause file.name file.meta faults faults_now damages damages_now r → ArrivesBy file (Err fault)
arrives_fault file faults faults_now damages damages_now r fault is other came cause =
    by file.fate fault refl other (subst (λ (q : Result Part JobFault). ArrivesByFate (Some file.fate) q) is came)
    (subst (λ (q : Result Part JobFault). HasCopyCause file.name file.meta faults faults_now damages damages_now q) is cause)
  where
    by : (fate : Fate) (e : JobFault) → file.fate ≡ fate → e ≢ Memory → ArrivesByFate (Some fate) (Err e) → HasCopyCause file.name file.meta faults faults_now damages damages_now (Err e) → ArrivesBy file (Err e)
    by fate Memory becomes other' came' cause' = absurd (other' refl)
    by Whole LinkFailed becomes other' came' cause' = absurd came'
    by Fail LinkFailed becomes other' came' cause' = becomes
    by (Damage byte) LinkFailed becomes other' came' cause' = absurd came'
    by Whole (Damaged name want found) becomes other' came' cause' = absurd came'
    by Fail (Damaged name want found) becomes other' came' cause' = absurd came'
    by (Damage byte) (Damaged name want found) becomes other' came' cause' = ((byte, becomes), cause'.2, cause'.4)
    by fate DirFailed becomes other' came' cause' = absurd cause'
    by fate (NameClash name ours theirs) becomes other' came' cause' = absurd cause'
