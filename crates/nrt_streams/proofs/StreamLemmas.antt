-- What a read from memory moves.
use Rattle.std.proofs.Common.{◌≡◌, ℕ, ◌+◌, ◌<◌, ◌≤◌, List, [], ◌++◌, length, take, drop, sym, ap, ◌∙◌, arith}
use Rattle.std.proofs.lemmas.Grind.{common_steps}
use Rattle.std.proofs.Math.Seq.{take-append_seam}

-- the front of the space has the front of the bytes, and what is left is the rest
pub read_gives : (bytes given out buf : List ℕ) (at n m : ℕ) → at ≤ length bytes → given ≡ drop at bytes → n ≡ length (take m given) → out ≡ take m given ++ drop n buf
    → drop at bytes ≡ take n out ++ drop (at + n) bytes
read_gives bytes given out buf at n m le is count filled =
    let front : take n out ≡ take m given = ap (λ k. take k out) count ∙ ap (λ xs. take (length (take m given)) xs) filled ∙ take-append_seam (take m given) (drop n buf) in
    let rest : drop (at + n) bytes ≡ drop m given = grind (arith, common_steps, le, is, count) in
    sym is ∙ grind (arith, common_steps, front, rest)

-- nothing is read into some space only where nothing is left
pub read_ends : (bytes given : List ℕ) (at n m : ℕ) → at ≤ length bytes → given ≡ drop at bytes → n ≡ length (take m given) → 0 < m → n ≡ 0 → drop (at + n) bytes ≡ []
read_ends bytes given at n m le is count some none = grind (arith, common_steps, le, is, count, some, none)
