-- What the code does to bits: it clears one, makes all set, and looks past the last row.
use Rattle.std.proofs.Common.{◌≡◌, ℕ, zero, suc, ◌+◌, ◌-◌, ◌*◌, ◌/◌, ◌%◌, ◌^◌, ◌<◌, ◌==◌, Bool, true, false, cond, List, length, get_or, set, replicate, refl, sym, ap, subst, ◌∙◌, inl, inr, arith, bit_and, w8}
use Rattle.std.specs.Int.{bit_at}
use Rattle.std.proofs.lemmas.Bool.{cases_lt, cases_eq}
use Rattle.std.proofs.lemmas.List.{ext_get_or, get_or_past, length-set, length-replicate, get_or-replicate, get_or-set_same, get_or-set_other}
use Rattle.std.proofs.lemmas.List.Sums.{sum_by-set, sum_by-cons}
use Rattle.std.proofs.lemmas.Nat.{and_le_l, le-div, pow-add, pow_pos}
use Rattle.std.proofs.lemmas.Nat.Bits.{bit_at-lt, bit_at-zero, bit_at_above, bit_at_ones, bit_at_ones_above, bit_at_clear_same, bit_at_clear_other, same_from_bits, ones_shr}
use Rattle.std.proofs.Math.Nat.{div-div-eq-div-mul, div-le_self}
use Rattle.codec_frame.specs.Bytes.{AreBytes}
use Rattle.live_bits.specs.LiveRows.{has_bit, live_rows}
use Rattle.live_bits.specs.Held.{rows_in, HoldsRows, ClearsBit}
use Rattle.live_bits.proofs.BitLaws.{at_place}
use Rattle.live_bits.proofs.Packing.{length-rows_in, rows_in_at, EndsClear, packed_rows}

at_byte : (bits : List ℕ) (i b : ℕ) → get_or bits (i / 8) 0 ≡ b → has_bit bits i ≡ (bit_at b (i % 8) == 1)
at_byte bits i b e = ap (λ (x : ℕ). bit_at x (i % 8) == 1) e

-- ---- one bit is cleared

abbrev pub cleared : List ℕ → ℕ → List ℕ
cleared bits row = set bits (row / 8) (bit_and (get_or bits (row / 8) 0) (255 - 1 * 2 ^ (row % 8) % 256))

cleared_here : (bits : List ℕ) (row : ℕ) → row / 8 < length bits → has_bit (cleared bits row) row ≡ false
cleared_here bits row lt =
    let b = get_or bits (row / 8) 0 in
    let within : row % 8 < 8 = omega arith in
    at_byte (cleared bits row) row _ (get_or-set_same bits (row / 8) _ 0 lt) ∙ ap (λ (x : ℕ). x == 1) (bit_at_clear_same w8 b (row % 8) within)

cleared_others : (bits : List ℕ) (row i : ℕ) → row / 8 < length bits → (i ≡ row → ⊥) → has_bit (cleared bits row) i ≡ has_bit bits i
cleared_others bits row i lt ne =
    let v = bit_and (get_or bits (row / 8) 0) (255 - 1 * 2 ^ (row % 8) % 256) in
    let within : row % 8 < 8 = omega arith in
    let small : i % 8 < 8 = omega arith in
    elim (cases_eq (i / 8) (row / 8)) [
      | inl same ↦
          let apart : i % 8 ≡ row % 8 → ⊥ = λ e. ne (omega (arith, same, e)) in
          at_byte (cleared bits row) i v (ap (λ (k : ℕ). get_or (cleared bits row) k 0) same ∙ get_or-set_same bits (row / 8) v 0 lt)
          ∙ ap (λ (x : ℕ). x == 1) (bit_at_clear_other w8 (get_or bits (row / 8) 0) (row % 8) within (i % 8) small apart)
          ∙ sym (at_byte bits i (get_or bits (row / 8) 0) (ap (λ (k : ℕ). get_or bits k 0) same))
      | inr other ↦ at_byte (cleared bits row) i (get_or bits (i / 8) 0) (get_or-set_other bits (row / 8) (i / 8) v 0 other)
    ]

cleared_fits : (bits : List ℕ) (row : ℕ) → AreBytes bits → AreBytes (cleared bits row)
cleared_fits bits row fits i =
    let b = get_or bits (row / 8) 0 in
    let v = bit_and b (255 - 1 * 2 ^ (row % 8) % 256) in
    elim (cases_eq i (row / 8)) [
      | inl same ↦
          elim (cases_lt (row / 8) (length bits)) [
            | inl lt ↦ omega (arith, ap (λ (k : ℕ). get_or (cleared bits row) k 0) same, get_or-set_same bits (row / 8) v 0 lt, and_le_l b (255 - 1 * 2 ^ (row % 8) % 256), fits (row / 8))
            | inr ge ↦ omega (arith, get_or_past (cleared bits row) i 0 (omega (arith, length-set bits (row / 8) v, ge, same)))
          ]
      | inr other ↦ omega (arith, get_or-set_other bits (row / 8) i v 0 other, fits i)
    ]

pub clears : (bits : List ℕ) (row : ℕ) → row / 8 < length bits → ClearsBit bits (cleared bits row) row
clears bits row lt = record {
  long = length-set bits (row / 8) _;
  here = cleared_here bits row lt;
  others = λ i ne. cleared_others bits row i lt ne;
  fits = cleared_fits bits row;
}

pub cleared_rows : (n : ℕ) (old new : List ℕ) (row : ℕ) → row < n → ClearsBit old new row → rows_in n new ≡ set (rows_in n old) row false
cleared_rows n old new row lt h =
    let before = length-rows_in n old in
    let after = length-rows_in n new in
    ext_get_or false (rows_in n new) (set (rows_in n old) row false) (after ∙ sym before ∙ sym (length-set (rows_in n old) row false))
    (λ i below. rows_in_at n new i (omega (arith, after, below)) ∙ elim (cases_eq i row) [
      | inl same ↦ ap (has_bit new) same ∙ h.here ∙ sym (ap (λ (k : ℕ). get_or (set (rows_in n old) row false) k false) same ∙ get_or-set_same (rows_in n old) row false false (omega (arith, before, lt)))
      | inr other ↦ h.others i other ∙ sym (get_or-set_other (rows_in n old) row i false false other ∙ rows_in_at n old i (omega (arith, after, below)))
    ])

one_fewer : (live : List Bool) (row : ℕ) → row < length live → get_or live row false ≡ true → live_rows (set live row false) + 1 ≡ live_rows live
one_fewer live row lt e =
    let h = sum_by-set (λ (b : Bool). cond b 1 0) live row false false lt in
    let one : ◌≡◌ {A = ℕ} (cond (get_or live row false) 1 0) 1 = ap (λ (b : Bool). cond b 1 0) e in
    omega (arith, h, one)

pub clear_holds : (n live : ℕ) (old new : List ℕ) (row : ℕ) → row < n → has_bit old row ≡ true → HoldsRows old n live → ClearsBit old new row → HoldsRows new n (live - 1)
clear_holds n live old new row lt set_before h k =
    let long = length-rows_in n old in
    let fewer = one_fewer (rows_in n old) row (omega (arith, long, lt)) (rows_in_at n old row lt ∙ set_before) in
    record {
      few = h.few;
      packed = packed_rows n new (k.fits h.packed.bytes) (k.long ∙ h.packed.enough ∙ ap (λ (m : ℕ). (m + 7) / 8) long)
          (λ i le. k.others i (λ e. omega (arith, e, le, lt)) ∙ h.packed.each i ∙ get_or_past (rows_in n old) i false (omega (arith, long, le)));
      count = omega (arith, h.count, fewer, ap live_rows (cleared_rows n old new row lt k));
    }

-- ---- all rows are live

pub all_live : (n : ℕ) → live_rows (replicate n true) ≡ n
all_live zero = refl
all_live (suc n) = sum_by-cons (λ (b : Bool). cond b 1 0) true (replicate n true) ∙ omega (arith, all_live n)

-- each row's bit is set, and no other bit
pub record AllSet (bits : List ℕ) (n : ℕ) : Type 0 where
  pub fits : AreBytes bits
  pub long : length bits ≡ (n + 7) / 8
  pub set_below : (i : ℕ) → i < n → has_bit bits i ≡ true
  pub clear : EndsClear bits n

pub all_rows : (n : ℕ) (bits : List ℕ) → ((i : ℕ) → i < n → has_bit bits i ≡ true) → rows_in n bits ≡ replicate n true
all_rows n bits h =
    let long = length-rows_in n bits in
    ext_get_or false (rows_in n bits) (replicate n true) (long ∙ sym (length-replicate n true))
    (λ i lt. rows_in_at n bits i (omega (arith, long, lt)) ∙ h i (omega (arith, long, lt)) ∙ sym (get_or-replicate n i true false (omega (arith, long, lt))))

pub all_hold : (n : ℕ) (bits : List ℕ) → n < 2 ^ 32 → AllSet bits n → HoldsRows bits n n
all_hold n bits few h = record { few = few; packed = packed_rows n bits h.fits h.long h.clear; count = sym (ap live_rows (all_rows n bits h.set_below) ∙ all_live n) }

ones_at : (bits : List ℕ) (i : ℕ) → get_or bits (i / 8) 0 ≡ 255 → has_bit bits i ≡ true
ones_at bits i e =
    let small : i % 8 < 8 = omega arith in
    at_byte bits i 255 e ∙ ap (λ (x : ℕ). x == 1) (bit_at_ones 8 (i % 8) small)

none_at : (bits : List ℕ) (i : ℕ) → get_or bits (i / 8) 0 ≡ 0 → has_bit bits i ≡ false
none_at bits i e = at_byte bits i 0 e ∙ ap (λ (x : ℕ). x == 1) (bit_at-zero (i % 8))

full_fits : (n : ℕ) → AreBytes (replicate {A = ℕ} n 255)
full_fits n i =
    elim (cases_lt i n) [
      | inl lt ↦ omega (arith, get_or-replicate {A = ℕ} n i 255 0 lt)
      | inr ge ↦ omega (arith, get_or_past (replicate {A = ℕ} n 255) i 0 (omega (arith, length-replicate {A = ℕ} n 255, ge)))
    ]

pub made : (bits : List ℕ) (m n : ℕ) → bits ≡ replicate m 255 → m ≡ (n + 7) / 8 → bits ≡ replicate ((n + 7) / 8) 255
made bits m n e f = e ∙ ap (λ (k : ℕ). replicate k 255) f

-- whole bytes
pub whole_bytes : (n : ℕ) (bits : List ℕ) → n % 8 ≡ 0 → bits ≡ replicate ((n + 7) / 8) 255 → AllSet bits n
whole_bytes n bits none e =
    let m : ℕ = (n + 7) / 8 in
    subst (λ (x : List ℕ). AllSet x n) (sym e) (record {
      fits = full_fits m;
      long = length-replicate {A = ℕ} m 255;
      set_below = λ i lt. ones_at (replicate {A = ℕ} m 255) i (get_or-replicate {A = ℕ} m (i / 8) 255 0 (omega arith));
      clear = λ i le. none_at (replicate {A = ℕ} m 255) i (get_or_past (replicate {A = ℕ} m 255) (i / 8) 0 (omega (arith, length-replicate {A = ℕ} m 255)));
    })

abbrev with_last : ℕ → List ℕ
with_last n = set (replicate ((n + 7) / 8) 255) (n / 8) (255 / 2 ^ (8 - n % 8))

last_is : (n : ℕ) → (n % 8 ≡ 0 → ⊥) → 255 / 2 ^ (8 - n % 8) ≡ 2 ^ (n % 8) - 1
last_is n some =
    let back : 8 - (8 - n % 8) ≡ n % 8 = omega arith in
    ones_shr 8 (8 - n % 8) (omega arith) ∙ ap (λ (k : ℕ). 2 ^ k - 1) back

last_at : (n i : ℕ) → (n % 8 ≡ 0 → ⊥) → i / 8 ≡ n / 8 → get_or (with_last n) (i / 8) 0 ≡ 2 ^ (n % 8) - 1
last_at n i some same =
    let m : ℕ = (n + 7) / 8 in
    ap (λ (k : ℕ). get_or (with_last n) k 0) same
    ∙ get_or-set_same (replicate {A = ℕ} m 255) (n / 8) (255 / 2 ^ (8 - n % 8)) 0 (omega (arith, length-replicate {A = ℕ} m 255, some))
    ∙ last_is n some

last_fits : (n : ℕ) → AreBytes (with_last n)
last_fits n i =
    let m : ℕ = (n + 7) / 8 in
    let v : ℕ = 255 / 2 ^ (8 - n % 8) in
    elim (cases_eq i (n / 8)) [
      | inl same ↦
          elim (cases_lt (n / 8) m) [
            | inl lt ↦ omega (arith, ap (λ (k : ℕ). get_or (with_last n) k 0) same, get_or-set_same (replicate {A = ℕ} m 255) (n / 8) v 0 (omega (arith, length-replicate {A = ℕ} m 255, lt)), div-le_self 255 (2 ^ (8 - n % 8)))
            | inr ge ↦ omega (arith, get_or_past (with_last n) i 0 (omega (arith, length-set (replicate {A = ℕ} m 255) (n / 8) v, length-replicate {A = ℕ} m 255, ge, same)))
          ]
      | inr other ↦ omega (arith, get_or-set_other (replicate {A = ℕ} m 255) (n / 8) i v 0 other, full_fits m i)
    ]

-- whole bytes, and a last one that is set as far as the rows go
pub last_byte : (n : ℕ) (bits : List ℕ) → (n % 8 ≡ 0 → ⊥) → bits ≡ with_last n → AllSet bits n
last_byte n bits some e =
    let m : ℕ = (n + 7) / 8 in
    let v : ℕ = 255 / 2 ^ (8 - n % 8) in
    let long : length (with_last n) ≡ m = length-set (replicate {A = ℕ} m 255) (n / 8) v ∙ length-replicate {A = ℕ} m 255 in
    subst (λ (x : List ℕ). AllSet x n) (sym e) (record {
      fits = last_fits n;
      long = long;
      set_below = λ i lt. elim (cases_eq (i / 8) (n / 8)) [
        | inl same ↦ at_byte (with_last n) i (2 ^ (n % 8) - 1) (last_at n i some same) ∙ ap (λ (x : ℕ). x == 1) (bit_at_ones (n % 8) (i % 8) (omega (arith, same, lt)))
        | inr other ↦ ones_at (with_last n) i (get_or-set_other (replicate {A = ℕ} m 255) (n / 8) (i / 8) v 0 other ∙ get_or-replicate {A = ℕ} m (i / 8) 255 0 (omega (arith, lt)))
      ];
      clear = λ i le. elim (cases_eq (i / 8) (n / 8)) [
        | inl same ↦ at_byte (with_last n) i (2 ^ (n % 8) - 1) (last_at n i some same) ∙ ap (λ (x : ℕ). x == 1) (bit_at_ones_above (n % 8) (i % 8) (omega (arith, same, le)))
        | inr other ↦ none_at (with_last n) i (get_or_past (with_last n) (i / 8) 0 (omega (arith, long, le, other)))
      ];
    })

-- ---- the bits past the last row

pub shifted_bit : (b r j : ℕ) → bit_at (b / 2 ^ r) j ≡ bit_at b (r + j)
shifted_bit b r j = ap (λ (x : ℕ). x % 2) (div-div-eq-div-mul b (2 ^ r) (2 ^ j) ∙ ap (λ (x : ℕ). b / x) (sym (pow-add 2 r j)))

below_of_shift : (b r : ℕ) → b / 2 ^ r ≡ 0 → b < 2 ^ r
below_of_shift b r e =
    elim (cases_lt b (2 ^ r)) [
      | inl lt ↦ lt
      | inr ge ↦ absurd (let h = le-div 1 b (2 ^ r) (pow_pos r) (omega (arith, ge)) in omega (arith, h, e))
    ]

pub past_is_clear : (n : ℕ) (bits : List ℕ) → length bits ≡ (n + 7) / 8 → (n % 8 ≡ 0 → ⊥) → get_or bits (n / 8) 0 / 2 ^ (n % 8) ≡ 0 → EndsClear bits n
past_is_clear n bits long some e i le =
    let b = get_or bits (n / 8) 0 in
    elim (cases_eq (i / 8) (n / 8)) [
      | inl same ↦ at_byte bits i b (ap (λ (k : ℕ). get_or bits k 0) same) ∙ ap (λ (x : ℕ). x == 1) (bit_at_above b (n % 8) (i % 8) (below_of_shift b (n % 8) e) (omega (arith, same, le)))
      | inr other ↦ none_at bits i (get_or_past bits (i / 8) 0 (omega (arith, long, le, other)))
    ]

no_bit : (x : ℕ) → x < 2 → (x == 1) ≡ false → x ≡ 0
no_bit zero h e = refl
no_bit (suc zero) h e = absurd cc
no_bit (suc (suc x)) h e = absurd (omega arith)

pub clear_is_past : (n : ℕ) (bits : List ℕ) → AreBytes bits → EndsClear bits n → get_or bits (n / 8) 0 / 2 ^ (n % 8) ≡ 0
clear_is_past n bits fits clear =
    let b = get_or bits (n / 8) 0 in
    let r = n % 8 in
    same_from_bits (b / 2 ^ r) 0 (λ j. shifted_bit b r j ∙ elim (cases_lt (r + j) 8) [
      | inl lt ↦ no_bit (bit_at b (r + j)) (bit_at-lt b (r + j)) (sym (at_place bits (n / 8) (r + j) lt) ∙ clear (8 * (n / 8) + (r + j)) (omega arith))
      | inr ge ↦ bit_at_above b 8 (r + j) (fits (n / 8)) ge
    ] ∙ sym (bit_at-zero j))
