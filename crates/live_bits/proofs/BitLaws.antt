-- The bits of bytes, and how many are set.
use Rattle.std.proofs.Common.{◌≡◌, ℕ, zero, suc, ◌+◌, ◌-◌, ◌*◌, ◌/◌, ◌%◌, ◌<◌, ◌≤◌, ◌==◌, Bool, true, false, cond, List, length, get_or, map, refl, sym, ap, ◌∙◌, arith}
use Rattle.std.specs.List.{range_with_len}
use Rattle.std.specs.Int.{bit_at}
use Rattle.std.specs.Int.RustNames.{count_ones}
use lib.Lanes.{mask_l}
use Rattle.std.proofs.lemmas.List.{ext_get_or}
use Rattle.std.proofs.lemmas.List.FromFn.{sum_by-map-range_with_len_more, get_or-map-range_with_len}
use Rattle.std.proofs.lemmas.Nat.Bits.{bit_at-lt, same_from_bits_below}
use Rattle.std.proofs.lemmas.Simd.{mask_l-lt, bit_mask_l, ones-mask_l}
use Rattle.codec_frame.specs.Bytes.{AreBytes}
use Rattle.live_bits.specs.LiveRows.{has_bit, live_rows}
use Rattle.live_bits.specs.Held.{rows_in}

-- how many of the first n places pass
abbrev pub below : (ℕ → Bool) → ℕ → ℕ
below f zero = 0
below f (suc n) = below f n + cond (f n) 1 0

pub live-rows_in : (n : ℕ) (bits : List ℕ) → live_rows (rows_in n bits) ≡ below (has_bit bits) n
unfolding rows_in
live-rows_in zero bits = refl
live-rows_in (suc n) bits =
    let e : suc n ≡ n + 1 = omega arith in
    ap (λ (k : ℕ). live_rows (map (has_bit bits) (range_with_len 0 k))) e
    ∙ sum_by-map-range_with_len_more (λ (b : Bool). cond b 1 0) (has_bit bits) 0 n n (omega arith)
    ∙ ap (λ (m : ℕ). m + cond (has_bit bits n) 1 0) (live-rows_in n bits)

pub below_more : (f : ℕ → Bool) (n k : ℕ) → below f (n + k) ≡ below f n + below (λ j. f (n + j)) k
below_more f n zero = let e : n + 0 ≡ n = omega arith in ap (below f) e ∙ omega arith
below_more f n (suc k) = let e : n + suc k ≡ suc (n + k) = omega arith in ap (below f) e ∙ omega (arith, below_more f n k)

pub below_none : (f : ℕ → Bool) (k : ℕ) → ((j : ℕ) → j < k → f j ≡ false) → below f k ≡ 0
below_none f zero h = refl
below_none f (suc k) h = rw (h k (omega arith)) (omega (arith, below_none f k (λ j lt. h j (omega arith))))

pub below_same : (f g : ℕ → Bool) (k : ℕ) → ((j : ℕ) → j < k → f j ≡ g j) → below f k ≡ below g k
below_same f g zero h = refl
below_same f g (suc k) h = rw (h k (omega arith)) (ap (λ (n : ℕ). n + cond (g k) 1 0) (below_same f g k (λ j lt. h j (omega arith))))

at_most_one : (b : Bool) → cond b 1 0 ≤ 1
at_most_one true = omega arith
at_most_one false = omega arith

pub below_most : (f : ℕ → Bool) (n : ℕ) → below f n ≤ n
below_most f zero = omega arith
below_most f (suc n) = omega (arith, below_most f n, at_most_one (f n))

-- where nothing is set from n on, the rest adds nothing
pub below_past : (f : ℕ → Bool) (n m : ℕ) → n ≤ m → ((j : ℕ) → n ≤ j → f j ≡ false) → below f m ≡ below f n
below_past f n m le h =
    let e : m ≡ n + (m - n) = omega arith in
    ap (below f) e ∙ below_more f n (m - n) ∙ omega (arith, below_none (λ j. f (n + j)) (m - n) (λ j _. h (n + j) (omega arith)))

-- ---- one byte

abbrev bit_of : ℕ → ℕ → Bool
bit_of b j = bit_at b j == 1

as_bit : (x : ℕ) → x < 2 → cond (x == 1) 1 0 ≡ x
as_bit zero h = refl
as_bit (suc zero) h = refl
as_bit (suc (suc n)) h = absurd (omega arith)

mask_is : (b : ℕ) → b < 256 → mask_l (map (bit_of b) (range_with_len 0 8)) ≡ b
mask_is b h =
    let eight = map (bit_of b) (range_with_len 0 8) in
    same_from_bits_below 8 (mask_l eight) b (mask_l-lt eight) h
    (λ i lt. bit_mask_l eight i ∙ ap (λ (m : Bool). cond m 1 0) (get_or-map-range_with_len (bit_of b) 0 8 i i false lt (omega arith)) ∙ as_bit (bit_at b i) (bit_at-lt b i))

pub ones_of_byte : (b : ℕ) → b < 256 → count_ones b ≡ below (bit_of b) 8
ones_of_byte b h = ap count_ones (sym (mask_is b h)) ∙ ones-mask_l (bit_of b) (range_with_len 0 8)

pub at_place : (bits : List ℕ) (i j : ℕ) → j < 8 → has_bit bits (8 * i + j) ≡ (bit_at (get_or bits i 0) j == 1)
at_place bits i j lt =
    let q : (8 * i + j) / 8 ≡ i = omega arith in
    let r : (8 * i + j) % 8 ≡ j = omega arith in
    rw (q, r) refl

-- the bits of one more byte
pub byte_counted : (bits : List ℕ) (i : ℕ) → get_or bits i 0 < 256 → below (has_bit bits) (8 * i + 8) ≡ below (has_bit bits) (8 * i) + count_ones (get_or bits i 0)
byte_counted bits i h =
    below_more (has_bit bits) (8 * i) 8
    ∙ ap (λ (n : ℕ). below (has_bit bits) (8 * i) + n) (below_same (λ j. has_bit bits (8 * i + j)) (bit_of (get_or bits i 0)) 8 (λ j lt. at_place bits i j lt) ∙ sym (ones_of_byte (get_or bits i 0) h))

bit_same : (x y : ℕ) → x < 2 → y < 2 → (x == 1) ≡ (y == 1) → x ≡ y
bit_same x y a b e = sym (as_bit x a) ∙ ap (λ (m : Bool). cond m 1 0) e ∙ as_bit y b

-- bytes with the same bits are the same
pub same_bits : (a b : List ℕ) → AreBytes a → AreBytes b → length a ≡ length b → ((i : ℕ) → has_bit a i ≡ has_bit b i) → a ≡ b
same_bits a b fa fb len same =
    ext_get_or 0 a b len (λ k lt. same_from_bits_below 8 (get_or a k 0) (get_or b k 0) (fa k) (fb k)
    (λ j small. bit_same (bit_at (get_or a k 0) j) (bit_at (get_or b k 0) j) (bit_at-lt (get_or a k 0) j) (bit_at-lt (get_or b k 0) j) (sym (at_place a k j small) ∙ same (8 * k + j) ∙ at_place b k j small)))
