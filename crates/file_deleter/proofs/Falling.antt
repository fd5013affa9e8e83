-- Counts that fall, and the names that fall to 0.
use Rattle.std.proofs.Common.{◌≡◌, ℕ, ◌+◌, ◌<◌, ◌&&◌, ◌||◌, Bool, true, false, List, [], ◌∷◌, ◌++◌, length, take, get_or, refl, sym, ap, ◌∙◌, cond, arith, nat_eq, zero-add, add-zero}
use Rattle.std.proofs.Math.Bool.{and-true, and-false}
use Rattle.std.proofs.lemmas.Bool.Decides.{nat_tests}
use Rattle.std.proofs.lemmas.List.{take_more}
use Rattle.disk_model.specs.Faults.{one_if}
use Rattle.disk_model.specs.Disk.{Name, same, is_among}
use Rattle.disk_model.proofs.CellLemmas.{among_more}
use Rattle.file_deleter.specs.Holdings.{times}
use Rattle.file_deleter.proofs.NameLemmas.{times-append, times_one}

-- one more name
pub times_more : (names : List Name) (i : ℕ) (x q : Name) → i < length names → x ≡ get_or names i x → times (take (i + 1) names) q ≡ times (take i names) q + cond (same x q) 1 0
times_more names i x q lt is = ap (λ (ns : List Name). times ns q) (take_more names i x lt ∙ ap (λ (n : Name). take i names ++ n ∷ []) (sym is)) ∙ times-append (take i names) (x ∷ []) q ∙ ap (λ n. times (take i names) q + n) (times_one x q)

-- of one name: it was counted m times and is counted n times, and stands among the fallen where it is counted no more
one_more : (n m : ℕ) → n + 1 ≡ m → one_if (nat_eq m 0) ≡ 0
one_more n m e = grind (arith, nat_tests)

fell : (among here : Bool) (n m : ℕ) → n + cond here 1 0 ≡ m → cond (among && nat_eq m 0) 1 0 + cond (here && nat_eq n 0) 1 0 ≡ cond ((among || (here || false)) && nat_eq n 0) 1 0
fell true true n m e = ap (λ k. k + cond (nat_eq n 0) 1 0) (one_more n m e) ∙ zero-add (cond (nat_eq n 0) 1 0)
fell true false n m e = add-zero (cond (nat_eq m 0) 1 0) ∙ ap (λ k. cond (nat_eq k 0) 1 0) (sym e ∙ add-zero n)
fell false true n m e = zero-add (cond (nat_eq n 0) 1 0)
fell false false n m e = refl

piece : (x q : Name) (b : Bool) → times (cond b (x ∷ []) []) q ≡ cond (same x q && b) 1 0
piece x q true = times_one x q ∙ ap (λ t. cond t 1 0) (sym (and-true (same x q)))
piece x q false = ap (λ t. cond t 1 0) (sym (and-false (same x q)))

at_same : (s : Bool) (n here : ℕ) → (s ≡ true → here ≡ n) → one_if (s && nat_eq here 0) ≡ one_if (s && nat_eq n 0)
at_same true n here e = ap (λ k. cond (nat_eq k 0) 1 0) (e refl)
at_same false n here e = refl

pub fallen_more : (names before : List Name) (i : ℕ) (x q : Name) (n m here : ℕ) → i < length names → x ≡ get_or names i x
    → n + cond (same x q) 1 0 ≡ m → times before q ≡ cond (is_among (take i names) q && nat_eq m 0) 1 0 → (same x q ≡ true → here ≡ n)
    → times (before ++ cond (nat_eq here 0) (x ∷ []) []) q ≡ cond (is_among (take (i + 1) names) q && nat_eq n 0) 1 0
fallen_more names before i x q n m here lt is c was at =
    times-append before (cond (nat_eq here 0) (x ∷ []) []) q
    ∙ ap (λ k. k + times (cond (nat_eq here 0) (x ∷ []) []) q) was
    ∙ ap (λ k. cond (is_among (take i names) q && nat_eq m 0) 1 0 + k) (piece x q (nat_eq here 0) ∙ at_same (same x q) n here at)
    ∙ fell (is_among (take i names) q) (same x q) n m c
    ∙ ap (λ b. cond (b && nat_eq n 0) 1 0) (sym (among_more names i x q lt is))
