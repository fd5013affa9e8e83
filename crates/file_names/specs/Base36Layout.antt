-- How the digits of a number lie in 13 bytes: at the end, and zeros before them.
use Rattle.std.specs.Prelude.{◌≡◌, ℕ, ◌-◌, ◌≤◌, List, ◌++◌, length, drop, replicate}
use Rattle.std.proofs.Common.{arith, sym, ap, ◌∙◌}
use Rattle.std.proofs.lemmas.Grind.{common_steps}

length_end : (n : ℕ) (bytes : List ℕ) → length bytes ≡ 13 → n ≤ 13 → 13 - length (drop n bytes) ≡ n
length_end n bytes whole le = grind (arith, common_steps)

-- the bytes and the start are those that the end of the bytes gives back
pub inverse_of_view : (n : ℕ) (bytes : List ℕ) → length bytes ≡ 13 → n ≤ 13 → bytes ≡ replicate n 0 ++ drop n bytes
    → ◌≡◌ {A = List ℕ × ℕ} (replicate (13 - length (drop n bytes)) 0 ++ drop n bytes, 13 - length (drop n bytes)) (bytes, n)
inverse_of_view n bytes whole le padded =
    let same : 13 - length (drop n bytes) ≡ n = length_end n bytes whole le in
    λ i. ((ap (λ m. replicate m 0 ++ drop n bytes) same ∙ sym padded) i, same i)
