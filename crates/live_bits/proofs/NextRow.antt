-- Rows that were passed, since their bits are clear.
use Rattle.std.proofs.Common.{◌≡◌, ℕ, ◌+◌, ◌-◌, ◌*◌, ◌/◌, ◌%◌, ◌^◌, ◌<◌, ◌≤◌, ◌==◌, true, false, List, get_or, sym, ap, ◌∙◌, inl, inr, arith}
use Rattle.std.specs.Int.{bit_at}
use Rattle.std.proofs.lemmas.Bool.{cases_lt}
use Rattle.std.proofs.lemmas.List.{get_or_past}
use Rattle.std.proofs.lemmas.Nat.Bits.{bit_at-zero}
use Rattle.live_bits.specs.LiveRows.{has_bit, AreDeadFrom, IsFirstLive}
use Rattle.live_bits.specs.Held.{rows_in}
use Rattle.live_bits.proofs.BitLaws.{at_place}
use Rattle.live_bits.proofs.Packing.{length-rows_in, rows_in_at}
use Rattle.live_bits.proofs.Editing.{shifted_bit}

-- no bit is set from one row on up to another
pub record IsClearTo (bits : List ℕ) (least row : ℕ) : Type 0 where
  pub above : least ≤ row
  pub clear : (i : ℕ) → least ≤ i → i < row → has_bit bits i ≡ false

pub none_passed : (bits : List ℕ) (least : ℕ) → IsClearTo bits least least
none_passed bits least = record { above = omega arith; clear = λ i le lt. absurd (omega (arith, le, lt)) }

-- a bit, by what is left of its byte from a row on
bit_left : (bits : List ℕ) (row k : ℕ) → row % 8 + k < 8 → has_bit bits (row + k) ≡ (bit_at (get_or bits (row / 8) 0 / 2 ^ (row % 8)) k == 1)
bit_left bits row k lt =
    let whole : row + k ≡ 8 * (row / 8) + (row % 8 + k) = omega arith in
    ap (has_bit bits) whole ∙ at_place bits (row / 8) (row % 8 + k) lt ∙ ap (λ (x : ℕ). x == 1) (sym (shifted_bit (get_or bits (row / 8) 0) (row % 8) k))

pub first_bit : (bits : List ℕ) (row : ℕ) → has_bit bits row ≡ (get_or bits (row / 8) 0 / 2 ^ (row % 8) % 2 == 1)
first_bit bits row =
    let none : row ≡ row + 0 = omega arith in
    let rest : ℕ = get_or bits (row / 8) 0 / 2 ^ (row % 8) in
    let same : rest / 2 ^ 0 % 2 ≡ rest % 2 = omega arith in
    ap (has_bit bits) none ∙ bit_left bits row 0 (omega arith) ∙ ap (λ (x : ℕ). x == 1) same

-- one row whose bit is clear was passed
pub one_passed : (bits : List ℕ) (least row : ℕ) → IsClearTo bits least row → has_bit bits row ≡ false → IsClearTo bits least (row + 1)
one_passed bits least row is here = record {
  above = let le = is.above in omega (arith, le);
  clear = λ i le lt. elim (cases_lt i row) [
    | inl before ↦ is.clear i le before
    | inr past ↦ let e : i ≡ row = omega (arith, past, lt) in ap (has_bit bits) e ∙ here
  ];
}

-- the rest of a byte was passed
pub rest_passed : (bits : List ℕ) (least row : ℕ) → IsClearTo bits least row → get_or bits (row / 8) 0 / 2 ^ (row % 8) ≡ 0 → IsClearTo bits least (row + (8 - row % 8))
rest_passed bits least row is none = record {
  above = let le = is.above in omega (arith, le);
  clear = λ i le lt. elim (cases_lt i row) [
    | inl before ↦ is.clear i le before
    | inr past ↦
        let k : ℕ = i - row in
        let e : i ≡ row + k = omega (arith, past) in
        ap (has_bit bits) e ∙ bit_left bits row k (omega (arith, past, lt)) ∙ ap (λ (x : ℕ). bit_at x k == 1) none ∙ ap (λ (x : ℕ). x == 1) (bit_at-zero k)
  ];
}

-- where all rows were passed, none is live
pub none_from : (bits : List ℕ) (rows least row : ℕ) → IsClearTo bits least row → rows ≤ row → AreDeadFrom least (rows_in rows bits)
none_from bits rows least row is all i le = elim (cases_lt i rows) [
  | inl lt ↦ rows_in_at rows bits i lt ∙ is.clear i le (omega (arith, lt, all))
  | inr past ↦ get_or_past (rows_in rows bits) i false (omega (arith, length-rows_in rows bits, past))
]

-- the first row whose bit is set
pub first_from : (bits : List ℕ) (rows least row : ℕ) → IsClearTo bits least row → row < rows → has_bit bits row ≡ true → IsFirstLive least (rows_in rows bits) row
first_from bits rows least row is lt set = record {
  above = is.above;
  within = omega (arith, length-rows_in rows bits, lt);
  is_live = rows_in_at rows bits row lt ∙ set;
  dead = λ i le below. rows_in_at rows bits i (omega (arith, below, lt)) ∙ is.clear i le below;
}
