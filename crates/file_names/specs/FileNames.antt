-- How a file's name lies in 64 bytes: its own bytes first, and zeros behind them.
use Rattle.std.specs.Prelude.{◌≡◌, ℕ, ◌-◌, ◌≤◌, List, ◌++◌, length, take, replicate}
use Rattle.std.proofs.Common.{arith, sym, ap, ◌∙◌}
use Rattle.std.proofs.lemmas.Grind.{common_steps}

length_front : (n : ℕ) (bytes : List ℕ) → n ≤ length bytes → length (take n bytes) ≡ n
length_front n bytes le = grind (arith, common_steps)

-- the bytes and the length are those that the front of the bytes gives back
pub inverse_of_view : (n : ℕ) (bytes : List ℕ) → length bytes ≡ 64 → n ≤ 64 → bytes ≡ take n bytes ++ replicate (64 - n) 0
    → ◌≡◌ {A = List ℕ × ℕ} (take n bytes ++ replicate (64 - length (take n bytes)) 0, length (take n bytes)) (bytes, n)
inverse_of_view n bytes whole le padded =
    let same : length (take n bytes) ≡ n = length_front n bytes (omega arith) in
    λ i. ((ap (λ m. take n bytes ++ replicate (64 - m) 0) same ∙ sym padded) i, same i)
