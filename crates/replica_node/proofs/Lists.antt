-- Names one after the other.
use Rattle.std.proofs.Common.{◌≡◌, ℕ, ◌+◌, ◌<◌, List, [], ◌∷◌, length, ◌++◌, take, get_or, arith, ap, ◌∙◌, refl, add-one}
use Rattle.disk_model.specs.Disk.{Name}
use Rattle.file_deleter.specs.Holdings.{times}
use Rattle.file_deleter.proofs.NameLemmas.{times-append, times-cons}
use Rattle.std.proofs.Math.Seq.{take-suc}
use Rattle.copy_job.specs.declared.part.JobPart.{JobPart}
use Rattle.copy_job.specs.Parts.{present_names}

pub push_times : (old new : List Name) (x : Name) → new ≡ old ++ x ∷ [] → (q : Name) → times new q ≡ times old q + times (x ∷ []) q
push_times old new x e q = ap (λ (ns : List Name). times ns q) e ∙ times-append old (x ∷ []) q

pub one_more : (names : List Name) (i : ℕ) (d : Name) (q : Name) → i < length names → times (take (i + 1) names) q ≡ times (take i names) q + times (get_or names i d ∷ []) q
one_more names i d q lt = ap (λ (xs : List Name). times xs q) (ap (λ n. take n names) (add-one i) ∙ take-suc names i d lt) ∙ times-append (take i names) (get_or names i d ∷ []) q

pub present_append : (ps : List JobPart) (p : JobPart) (q : Name) → times (present_names (ps ++ p ∷ [])) q ≡ times (present_names ps) q + times (p.now ∷ []) q
present_append [] p q = let z : times [] q ≡ 0 = refl in omega (arith, z)
present_append (y ∷ ps) p q = omega (arith, times-cons y.now (present_names (ps ++ p ∷ [])) q, times-cons y.now (present_names ps) q, present_append ps p q)

pub present_more : (ps : List JobPart) (i : ℕ) (d : JobPart) (q : Name) → i < length ps → times (present_names (take (i + 1) ps)) q ≡ times (present_names (take i ps)) q + times ((get_or ps i d).now ∷ []) q
present_more ps i d q lt = ap (λ (xs : List JobPart). times (present_names xs) q) (ap (λ n. take n ps) (add-one i) ∙ take-suc ps i d lt) ∙ present_append (take i ps) (get_or ps i d) q
