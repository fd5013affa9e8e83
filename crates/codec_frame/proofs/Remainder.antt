-- The register holds the remainder of the division.
use Rattle.std.proofs.Common.{◌≡◌, ℕ, zero, suc, ◌+◌, ◌-◌, ◌*◌, ◌/◌, ◌%◌, ◌^◌, ◌<◌, ◌≤◌, max, Bool, true, false, not, List, [], ◌∷◌, ◌++◌, length, replicate, map, refl, sym, ap, ◌∙◌, arith, bit_xor, pow-suc, append_assoc}
use Rattle.std.specs.Prelude.{◌==◌}
use Rattle.std.specs.List.{flat_map}
use Rattle.std.specs.Int.Bits.{xor_assoc, xor_self, xor_zero_r, xor_shifted, xor_block}
use Rattle.std.proofs.lemmas.Nat.{xor_comm, xor_lt, pow_pos}
use Rattle.std.proofs.lemmas.List.{length-append, length-replicate, length-map}
use Rattle.std.proofs.lemmas.List.Concat.{flat_map-cons}
use Rattle.codec_frame.specs.Bytes.{AreBytes}
use Rattle.codec_frame.specs.Register.{step, steps, taken_in}
use Rattle.codec_frame.specs.Division.{low_bits, invert_first, xor, plus, scaled, divisor_below, divisor, times_divisor, IsRemainder, divided, dividend, bit, bits_value, IsCrc, crc_of}
use Rattle.codec_frame.proofs.Steps.{step-xor, steps-xor, steps-zero, step-double, steps-shifted, steps-add, taken_in-lt}
use Rattle.codec_frame.proofs.ByteLaws.{AreBytes-rest}

bit-xor : (a b : Bool) → bit (xor a b) ≡ bit_xor (bit a) (bit b)
bit-xor true true = refl
bit-xor true false = refl
bit-xor false true = refl
bit-xor false false = refl

bit-not : (b : Bool) → bit (not b) ≡ bit_xor 1 (bit b)
bit-not true = refl
bit-not false = refl

bit-lt : (b : Bool) → bit b < 2
bit-lt true = omega arith
bit-lt false = omega arith

bits_value-plus : (p q : List Bool) → bits_value (plus p q) ≡ bit_xor (bits_value p) (bits_value q)
bits_value-plus [] q = refl
bits_value-plus (a ∷ p) [] = sym (xor_zero_r (bits_value (a ∷ p)))
bits_value-plus (a ∷ p) (b ∷ q) = rw (bits_value-plus p q, bit-xor a b) (sym (xor_block 1 (bits_value p) (bits_value q) (bit a) (bit b) (bit-lt a) (bit-lt b)))

bits_value-append : (p q : List Bool) → bits_value (p ++ q) ≡ bits_value p + bits_value q * 2 ^ length p
bits_value-append [] q = omega arith
bits_value-append (b ∷ p) q = rw (bits_value-append p q, pow-suc) (omega arith)

bits_value-zeros : (n : ℕ) → bits_value (replicate n false) ≡ 0
bits_value-zeros zero = refl
bits_value-zeros (suc n) = rw (bits_value-zeros n) refl

bits_value-none : (p : List Bool) → bits_value (map (λ _. false) p) ≡ 0
bits_value-none [] = refl
bits_value-none (b ∷ p) = rw (bits_value-none p) refl

bits_value-scaled : (b : Bool) (p : List Bool) → bits_value (scaled b p) ≡ bit b * bits_value p
bits_value-scaled true p = omega arith
bits_value-scaled false p = bits_value-none p ∙ omega arith

length-plus : (p q : List Bool) → length (plus p q) ≡ max (length p) (length q)
length-plus [] q = omega arith
length-plus (a ∷ p) [] = omega arith
length-plus (a ∷ p) (b ∷ q) = omega (arith, length-plus p q)

length-scaled : (b : Bool) (p : List Bool) → length (scaled b p) ≡ length p
length-scaled true p = refl
length-scaled false p = simp length-map

length-times_divisor : (q : List Bool) → length (times_divisor q) ≡ 32 + length q
length-times_divisor [] = refl
length-times_divisor (b ∷ q) =
    let zeros : length (scaled b divisor ++ replicate (length q) false) ≡ 33 + length q = length-append (scaled b divisor) (replicate (length q) false) ∙ rw (length-scaled b divisor, length-replicate (length q) false) refl in
    length-plus (scaled b divisor ++ replicate (length q) false) (false ∷ times_divisor q) ∙ omega (arith, zeros, length-times_divisor q)

-- what a coefficient of the quotient adds
bits_value-times_divisor : (b : Bool) (q : List Bool) → bits_value (times_divisor (b ∷ q)) ≡ bit_xor (bit b * (0xedb88320 * 2 + 1)) (bits_value (times_divisor q) * 2)
bits_value-times_divisor b q =
    let first : bits_value (scaled b divisor ++ replicate (length q) false) ≡ bit b * (0xedb88320 * 2 + 1) =
    bits_value-append (scaled b divisor) (replicate (length q) false) ∙ rw (bits_value-scaled b divisor, bits_value-zeros (length q)) (omega arith) in
    bits_value-plus (scaled b divisor ++ replicate (length q) false) (false ∷ times_divisor q) ∙ rw first (ap (bit_xor (bit b * (0xedb88320 * 2 + 1))) (let e : bits_value (times_divisor q) * 2 + 0 ≡ bits_value (times_divisor q) * 2 = omega arith in e))

step-divisor : (b : Bool) → step (bit b * (0xedb88320 * 2 + 1)) ≡ 0
unfolding step
step-divisor true = refl
step-divisor false = refl

steps-times_divisor : (q : List Bool) → steps (length q) (bits_value (times_divisor q)) ≡ 0
unfolding steps
steps-times_divisor [] = refl
steps-times_divisor (b ∷ q) =
    let one : step (bits_value (times_divisor (b ∷ q))) ≡ bits_value (times_divisor q) =
    ap step (bits_value-times_divisor b q) ∙ step-xor (bit b * (0xedb88320 * 2 + 1)) (bits_value (times_divisor q) * 2) ∙ rw (step-divisor b, step-double (bits_value (times_divisor q))) refl in
    ap (steps (length q)) one ∙ steps-times_divisor q

bits_value-zeros_before : (n : ℕ) (r : List Bool) → bits_value (replicate n false ++ r) ≡ bits_value r * 2 ^ n
bits_value-zeros_before n r = bits_value-append (replicate n false) r ∙ rw (bits_value-zeros n, length-replicate n false) (omega arith)

-- the remainder is what the steps leave
pub bits_value-remainder : (p r : List Bool) → IsRemainder p r → bits_value r ≡ steps (length p - 32) (bits_value p)
bits_value-remainder p r d =
    let n : ℕ = length d.quotient in
    let len : length p ≡ 32 + n = ap length d.whole ∙ length-plus (times_divisor d.quotient) (replicate n false ++ r) ∙ omega (arith, length-times_divisor d.quotient, length-append (replicate n false) r, length-replicate n false, d.below) in
    let count : length p - 32 ≡ n = omega arith in
    let parts : bits_value p ≡ bit_xor (bits_value (times_divisor d.quotient)) (bits_value r * 2 ^ n) = ap bits_value d.whole ∙ bits_value-plus (times_divisor d.quotient) (replicate n false ++ r) ∙ ap (bit_xor (bits_value (times_divisor d.quotient))) (bits_value-zeros_before n r) in
    let left : steps n (bits_value p) ≡ bits_value r = ap (steps n) parts ∙ steps-xor n (bits_value (times_divisor d.quotient)) (bits_value r * 2 ^ n) ∙ rw (steps-times_divisor d.quotient, steps-shifted n (bits_value r)) refl in
    sym (ap (λ (k : ℕ). steps k (bits_value p)) count ∙ left)

-- ---- the other way: the steps give a quotient

abbrev quotient_of : ℕ → ℕ → List Bool
quotient_of zero v = []
quotient_of (suc n) v = (v % 2 == 1) ∷ quotient_of n (step v)

length-quotient_of : (n v : ℕ) → length (quotient_of n v) ≡ n
length-quotient_of zero v = refl
length-quotient_of (suc n) v = ap suc (length-quotient_of n (step v))

bit-odd : (k : ℕ) → k < 2 → bit (k == 1) ≡ k
bit-odd zero h = refl
bit-odd (suc zero) h = refl
bit-odd (suc (suc k)) h = absurd (omega arith)

undo : (a b : ℕ) → bit_xor a (bit_xor b a) ≡ b
undo a b = ap (bit_xor a) (xor_comm b a) ∙ sym (xor_assoc a a b) ∙ ap (λ (x : ℕ). bit_xor x b) (xor_self a)

-- a step back
step_back : (v : ℕ) → bit_xor (v % 2 * (0xedb88320 * 2 + 1)) (step v * 2) ≡ v
unfolding step
step_back v =
    let g : ℕ = v % 2 * 0xedb88320 in
    let x : ℕ = bit_xor (v / 2) g in
    let left : v % 2 * (0xedb88320 * 2 + 1) ≡ g * 2 + v % 2 = omega arith in
    let right : x * 2 ≡ x * 2 + 0 = omega arith in
    let block : bit_xor (g * 2 + v % 2) (x * 2 + 0) ≡ bit_xor g x * 2 + bit_xor (v % 2) 0 = xor_block 1 g x (v % 2) 0 (omega arith) (omega arith) in
    rw (left, right) (block ∙ rw (undo g (v / 2), xor_zero_r (v % 2)) (omega arith))

bits_value-divided : (n v : ℕ) → bit_xor (bits_value (times_divisor (quotient_of n v))) (steps n v * 2 ^ n) ≡ v
unfolding steps
bits_value-divided zero v = omega arith
bits_value-divided (suc n) v =
    let q : List Bool = quotient_of n (step v) in
    let t : ℕ = bits_value (times_divisor q) in
    let s : ℕ = steps n (step v) in
    let ih : bit_xor t (s * 2 ^ n) ≡ step v = bits_value-divided n (step v) in
    let doubled : bit_xor (t * 2 + 0) (s * 2 ^ n * 2 + 0) ≡ bit_xor t (s * 2 ^ n) * 2 + 0 = xor_block 1 t (s * 2 ^ n) 0 0 (omega arith) (omega arith) in
    let e1 : t * 2 ≡ t * 2 + 0 = omega arith in
    let e2 : s * 2 ^ suc n ≡ s * 2 ^ n * 2 + 0 = rw pow-suc (omega arith) in
    let e3 : bit_xor t (s * 2 ^ n) * 2 + 0 ≡ step v * 2 = omega (arith, ih) in
    let both : bit_xor (t * 2) (s * 2 ^ suc n) ≡ step v * 2 = rw (e2, e1) (doubled ∙ e3) in
    let d : ℕ = bit (v % 2 == 1) * (0xedb88320 * 2 + 1) in
    let d-is : d ≡ v % 2 * (0xedb88320 * 2 + 1) = ap (λ (b : ℕ). b * (0xedb88320 * 2 + 1)) (bit-odd (v % 2) (omega arith)) in
    ap (λ (x : ℕ). bit_xor x (s * 2 ^ suc n)) (bits_value-times_divisor (v % 2 == 1) q)
    ∙ xor_assoc d (t * 2) (s * 2 ^ suc n) ∙ ap (bit_xor d) both ∙ ap (λ (x : ℕ). bit_xor x (step v * 2)) d-is ∙ step_back v

bits_value-low_bits : (n v : ℕ) → v < 2 ^ n → bits_value (low_bits n v) ≡ v
bits_value-low_bits zero v h = omega arith
bits_value-low_bits (suc n) v h =
    let below : v / 2 < 2 ^ n = omega (arith, pow-suc 2 n) in
    rw (bits_value-low_bits n (v / 2) below, bit-odd (v % 2) (omega arith)) (omega arith)

length-low_bits : (n v : ℕ) → length (low_bits n v) ≡ n
length-low_bits zero v = refl
length-low_bits (suc n) v = ap suc (length-low_bits n (v / 2))

same_bit : (a b : Bool) (m n : ℕ) → m * 2 + bit a ≡ n * 2 + bit b → (a ≡ b) × (m ≡ n)
same_bit true true m n e = (refl, omega arith)
same_bit true false m n e = absurd (omega arith)
same_bit false true m n e = absurd (omega arith)
same_bit false false m n e = (refl, omega arith)

same_from_number : (p q : List Bool) → length p ≡ length q → bits_value p ≡ bits_value q → p ≡ q
same_from_number [] [] len e = refl
same_from_number [] (b ∷ q) len e = absurd (omega arith)
same_from_number (a ∷ p) [] len e = absurd (omega arith)
same_from_number (a ∷ p) (b ∷ q) len e =
    let s = same_bit a b (bits_value p) (bits_value q) e in
    rw (s.0, same_from_number p q (omega arith) s.1) refl

pub is_remainder : (n : ℕ) (p : List Bool) → length p ≡ 32 + n → steps n (bits_value p) < 2 ^ 32 → IsRemainder p (low_bits 32 (steps n (bits_value p)))
is_remainder n p len below =
    let v : ℕ = bits_value p in
    let q : List Bool = quotient_of n v in
    let r : List Bool = low_bits 32 (steps n v) in
    let lr : length r ≡ 32 = length-low_bits 32 (steps n v) in
    let lq : length q ≡ n = length-quotient_of n v in
    let long : length (plus (times_divisor q) (replicate (length q) false ++ r)) ≡ length p =
    length-plus (times_divisor q) (replicate (length q) false ++ r) ∙ omega (arith, length-times_divisor q, length-append (replicate (length q) false) r, length-replicate (length q) false) in
    let value : bits_value (plus (times_divisor q) (replicate (length q) false ++ r)) ≡ v =
    bits_value-plus (times_divisor q) (replicate (length q) false ++ r) ∙ rw (bits_value-zeros_before (length q) r, bits_value-low_bits 32 (steps n v) below, lq) (bits_value-divided n v) in
    record { quotient = q; whole = same_from_number p _ (sym long) (sym value); below = lr }

-- ---- the bytes

bits_value-invert_first : (n : ℕ) (p : List Bool) → n ≤ length p → bits_value (invert_first n p) ≡ bit_xor (2 ^ n - 1) (bits_value p)
bits_value-invert_first zero p h = refl
bits_value-invert_first (suc n) [] h = absurd (omega arith)
bits_value-invert_first (suc n) (b ∷ p) h =
    let ones : 2 ^ suc n - 1 ≡ (2 ^ n - 1) * 2 + 1 = omega (arith, pow-suc 2 n, pow_pos n) in
    rw (ones, bits_value-invert_first n p (omega arith), bit-not b) (sym (xor_block 1 (2 ^ n - 1) (bits_value p) 1 (bit b) (omega arith) (bit-lt b)))

length-invert_first : (n : ℕ) (p : List Bool) → length (invert_first n p) ≡ length p
length-invert_first zero p = refl
length-invert_first (suc n) [] = refl
length-invert_first (suc n) (b ∷ p) = ap suc (length-invert_first n p)

-- the bytes as one number, the first byte lowest
abbrev pub bytes_number : List ℕ → ℕ
bytes_number [] = 0
bytes_number (b ∷ bytes) = bytes_number bytes * 2 ^ 8 + b

abbrev bits_of : List ℕ → List Bool
bits_of bytes = flat_map (low_bits 8) bytes ++ replicate 32 false

bits_value-bits_of : (bytes : List ℕ) → AreBytes bytes → bits_value (bits_of bytes) ≡ bytes_number bytes
bits_value-bits_of [] fits = refl
bits_value-bits_of (b ∷ bytes) fits =
    let front : List Bool = low_bits 8 b in
    let back : List Bool = bits_of bytes in
    let e : bits_of (b ∷ bytes) ≡ front ++ back = ap (λ (p : List Bool). p ++ replicate 32 false) (flat_map-cons (low_bits 8) b bytes) ∙ append_assoc front (flat_map (low_bits 8) bytes) (replicate 32 false) in
    ap bits_value e ∙ bits_value-append front back ∙ rw (bits_value-bits_of bytes (AreBytes-rest b bytes fits), bits_value-low_bits 8 b (fits 0)) (omega arith)

length-bits_of : (bytes : List ℕ) → length (bits_of bytes) ≡ 32 + 8 * length bytes
length-bits_of [] = refl
length-bits_of (b ∷ bytes) =
    let front : List Bool = low_bits 8 b in
    let back : List Bool = bits_of bytes in
    let e : bits_of (b ∷ bytes) ≡ front ++ back = ap (λ (p : List Bool). p ++ replicate 32 false) (flat_map-cons (low_bits 8) b bytes) ∙ append_assoc front (flat_map (low_bits 8) bytes) (replicate 32 false) in
    ap length e ∙ length-append front back ∙ omega (arith, length-low_bits 8 b, length-bits_of bytes)

-- a register that takes in bytes one by one is the division of them all
pub taken_in-steps : (bytes : List ℕ) (s : ℕ) → AreBytes bytes → taken_in s bytes ≡ steps (8 * length bytes) (bit_xor s (bytes_number bytes))
unfolding taken_in steps
taken_in-steps [] s fits =
    sym (xor_zero_r s)
taken_in-steps (b ∷ bytes) s fits =
    let n : ℕ = bytes_number bytes in
    let split : n * 2 ^ 8 + b ≡ bit_xor (n * 2 ^ 8) b = sym (xor_shifted n 8 b (fits 0)) in
    let order : bit_xor s (bit_xor (n * 2 ^ 8) b) ≡ bit_xor (bit_xor s b) (n * 2 ^ 8) = ap (bit_xor s) (xor_comm (n * 2 ^ 8) b) ∙ sym (xor_assoc s b (n * 2 ^ 8)) in
    let front : steps 8 (bit_xor s (n * 2 ^ 8 + b)) ≡ bit_xor (steps 8 (bit_xor s b)) n =
    ap (λ (x : ℕ). steps 8 (bit_xor s x)) split ∙ ap (steps 8) order ∙ steps-xor 8 (bit_xor s b) (n * 2 ^ 8) ∙ ap (bit_xor (steps 8 (bit_xor s b))) (steps-shifted 8 n) in
    let count : 8 * suc (length bytes) ≡ 8 + 8 * length bytes = omega arith in
    taken_in-steps bytes (steps 8 (bit_xor s b)) (AreBytes-rest b bytes fits)
    ∙ sym (ap (λ (k : ℕ). steps k (bit_xor s (n * 2 ^ 8 + b))) count ∙ steps-add 8 (8 * length bytes) (bit_xor s (n * 2 ^ 8 + b)) ∙ ap (steps (8 * length bytes)) front)

bits_value-dividend : (bytes : List ℕ) → AreBytes bytes → bits_value (dividend bytes) ≡ bit_xor 0xffffffff (bytes_number bytes)
bits_value-dividend bytes fits =
    let enough : 32 ≤ length (bits_of bytes) = omega (arith, length-bits_of bytes) in
    bits_value-invert_first 32 (bits_of bytes) enough ∙ ap (bit_xor 0xffffffff) (bits_value-bits_of bytes fits)

length-dividend : (bytes : List ℕ) → length (dividend bytes) ≡ 32 + 8 * length bytes
length-dividend bytes = length-invert_first 32 (bits_of bytes) ∙ length-bits_of bytes

register_is : (bytes : List ℕ) → AreBytes bytes → steps (8 * length bytes) (bits_value (dividend bytes)) ≡ taken_in 0xffffffff bytes
register_is bytes fits = ap (steps (8 * length bytes)) (bits_value-dividend bytes fits) ∙ sym (taken_in-steps bytes 0xffffffff fits)

-- division by hand does the steps
bits_value-divided_by_hand : (n : ℕ) (p : List Bool) → bits_value (divided n p) ≡ steps n (bits_value p)
unfolding steps step
bits_value-divided_by_hand zero p = refl
bits_value-divided_by_hand (suc n) [] = sym (steps-zero n)
bits_value-divided_by_hand (suc n) (b ∷ p) =
    let v : ℕ = bits_value p * 2 + bit b in
    let half : v / 2 ≡ bits_value p = omega (arith, bit-lt b) in
    let low : v % 2 ≡ bit b = omega (arith, bit-lt b) in
    let one : bits_value (plus (scaled b divisor_below) p) ≡ step v =
    bits_value-plus (scaled b divisor_below) p ∙ ap (λ (x : ℕ). bit_xor x (bits_value p)) (bits_value-scaled b divisor_below)
    ∙ xor_comm (bit b * 0xedb88320) (bits_value p) ∙ rw (half, low) refl in
    bits_value-divided_by_hand n (plus (scaled b divisor_below) p) ∙ ap (steps n) one

length-divided : (n : ℕ) (p : List Bool) → 32 + n ≤ length p → 32 + n ≤ length (divided n p) + n
length-divided zero p h = omega arith
length-divided (suc n) [] h = absurd (omega arith)
length-divided (suc n) (b ∷ p) h =
    let len : length (plus (scaled b divisor_below) p) ≡ length p = length-plus (scaled b divisor_below) p ∙ omega (arith, length-scaled b divisor_below) in
    omega (arith, length-divided n (plus (scaled b divisor_below) p) (omega arith))

-- the CRC-32 is the inverted register
pub crc_of-register : (bytes : List ℕ) → AreBytes bytes → crc_of bytes ≡ bit_xor 0xffffffff (taken_in 0xffffffff bytes)
unfolding crc_of
crc_of-register bytes fits =
    let n : ℕ = 8 * length bytes in
    let enough : 32 + n ≤ length (divided n (dividend bytes)) + n = length-divided n (dividend bytes) (omega (arith, length-dividend bytes)) in
    bits_value-invert_first 32 (divided n (dividend bytes)) (omega arith)
    ∙ ap (bit_xor 0xffffffff) (bits_value-divided_by_hand n (dividend bytes) ∙ register_is bytes fits)

-- the CRC-32 is the one that the division gives
pub crc_is_remainder : (bytes : List ℕ) → AreBytes bytes → IsCrc bytes (crc_of bytes)
crc_is_remainder bytes fits =
    let n : ℕ = 8 * length bytes in
    let v : ℕ = bits_value (dividend bytes) in
    let reg : steps n v ≡ taken_in 0xffffffff bytes = register_is bytes fits in
    let below : steps n v < 2 ^ 32 = rw reg (taken_in-lt bytes 0xffffffff fits (omega arith)) in
    let r : List Bool = low_bits 32 (steps n v) in
    let value : bits_value (invert_first 32 r) ≡ bit_xor 0xffffffff (taken_in 0xffffffff bytes) =
    bits_value-invert_first 32 r (omega (arith, length-low_bits 32 (steps n v))) ∙ ap (bit_xor 0xffffffff) (bits_value-low_bits 32 (steps n v) below ∙ reg) in
    (r, is_remainder n (dividend bytes) (length-dividend bytes) below, crc_of-register bytes fits ∙ sym value)

pub crc_is_the_only : (bytes : List ℕ) (c : ℕ) → AreBytes bytes → IsCrc bytes c → c ≡ crc_of bytes
crc_is_the_only bytes c fits d =
    let r : List Bool = d.0 in
    let count : length (dividend bytes) - 32 ≡ 8 * length bytes = omega (arith, length-dividend bytes) in
    let left : bits_value r ≡ taken_in 0xffffffff bytes = bits_value-remainder (dividend bytes) r d.1 ∙ ap (λ (k : ℕ). steps k (bits_value (dividend bytes))) count ∙ register_is bytes fits in
    d.2 ∙ bits_value-invert_first 32 r (omega (arith, d.1.below)) ∙ ap (bit_xor 0xffffffff) left ∙ sym (crc_of-register bytes fits)

pub crc_of-lt : (bytes : List ℕ) → AreBytes bytes → crc_of bytes < 2 ^ 32
crc_of-lt bytes fits = rw (crc_of-register bytes fits) (xor_lt 32 0xffffffff (taken_in 0xffffffff bytes) (omega arith) (taken_in-lt bytes 0xffffffff fits (omega arith)))
