-- Three registers that take in the words in turn stand for one wide register, in which the second and the third count 64 and 128
-- places higher.
use Rattle.std.proofs.Common.{◌≡◌, ℕ, ◌+◌, ◌*◌, ◌-◌, ◌^◌, ◌≤◌, suc, List, [], ◌∷◌, length, take, drop, refl, sym, ap, ◌∙◌, arith, bit_xor}
use Rattle.std.specs.Int.Bits.{xor_assoc, xor_self, xor_zero_r}
use Rattle.std.proofs.lemmas.Nat.{xor_comm, xor_block}
use Rattle.std.proofs.lemmas.List.{length-take, length-drop}
use Rattle.codec_frame.specs.Register.{steps, taken_in}
use Rattle.codec_frame.proofs.Steps.{steps-xor, steps-shifted, steps-add, steps-none, taken_in-cut}

-- what is added to the register goes through the places of the bytes
taken_in-xor : (bytes : List ℕ) (s t : ℕ) → taken_in (bit_xor s t) bytes ≡ bit_xor (taken_in s bytes) (steps (8 * length bytes) t)
unfolding taken_in
taken_in-xor [] s t = ap (bit_xor s) (sym (steps-none t))
taken_in-xor (b ∷ bytes) s t =
    let order : bit_xor (bit_xor s t) b ≡ bit_xor (bit_xor s b) t = xor_assoc s t b ∙ ap (bit_xor s) (xor_comm t b) ∙ sym (xor_assoc s b t) in
    let count : 8 * suc (length bytes) ≡ 8 + 8 * length bytes = omega arith in
    let first : steps 8 (bit_xor (bit_xor s t) b) ≡ bit_xor (steps 8 (bit_xor s b)) (steps 8 t) = ap (steps 8) order ∙ steps-xor 8 (bit_xor s b) t in
    let later : steps (8 * length bytes) (steps 8 t) ≡ steps (8 * suc (length bytes)) t = sym (steps-add 8 (8 * length bytes) t) ∙ ap (λ (n : ℕ). steps n t) (sym count) in
    ap (λ (x : ℕ). taken_in x bytes) first ∙ taken_in-xor bytes (steps 8 (bit_xor s b)) (steps 8 t) ∙ ap (bit_xor (taken_in (steps 8 (bit_xor s b)) bytes)) later

-- with two words to come, a part of the register may count 128 places higher
taken_in-higher : (rest : List ℕ) (x y : ℕ) → 16 ≤ length rest → taken_in (bit_xor x y) rest ≡ taken_in (bit_xor x (steps 128 y * 2 ^ 128)) rest
taken_in-higher rest x y h =
    let m : ℕ = 8 * length rest - 128 in
    let count : 8 * length rest ≡ 128 + m = omega arith in
    let low : steps (8 * length rest) y ≡ steps m (steps 128 y) = ap (λ (n : ℕ). steps n y) count ∙ steps-add 128 m y in
    let high : steps (8 * length rest) (steps 128 y * 2 ^ 128) ≡ steps m (steps 128 y) =
    ap (λ (n : ℕ). steps n (steps 128 y * 2 ^ 128)) count ∙ steps-add 128 m (steps 128 y * 2 ^ 128) ∙ ap (steps m) (steps-shifted 128 (steps 128 y)) in
    taken_in-xor rest x y ∙ ap (bit_xor (taken_in x rest)) (low ∙ sym high) ∙ sym (taken_in-xor rest x (steps 128 y * 2 ^ 128))

-- one word, after which what counts 64 places higher counts as the rest
taken_in-joined : (even odd : ℕ) (word : List ℕ) → length word ≡ 8 → taken_in (bit_xor even (odd * 2 ^ 64)) word ≡ bit_xor (taken_in even word) odd
taken_in-joined even odd word len =
    let count : 8 * length word ≡ 64 = omega arith in
    taken_in-xor word even (odd * 2 ^ 64) ∙ ap (bit_xor (taken_in even word)) (ap (λ (n : ℕ). steps n (odd * 2 ^ 64)) count ∙ steps-shifted 64 odd)

-- the three registers as one
abbrev pub wide : (first second third : ℕ) → ℕ
wide first second third = bit_xor first (bit_xor second (third * 2 ^ 64) * 2 ^ 64)

pub wide_alone : (first : ℕ) → wide first 0 0 ≡ first
wide_alone first = xor_zero_r first

xor_scaled : (a b : ℕ) → bit_xor (a * 2 ^ 64) (b * 2 ^ 64) ≡ bit_xor a b * 2 ^ 64
xor_scaled a b =
    let left : a * 2 ^ 64 ≡ a * 2 ^ 64 + 0 = omega arith in
    let right : b * 2 ^ 64 ≡ b * 2 ^ 64 + 0 = omega arith in
    let none : bit_xor 0 0 ≡ 0 = xor_self 0 in
    let sum : bit_xor a b * 2 ^ 64 + 0 ≡ bit_xor a b * 2 ^ 64 = omega arith in
    ap (λ (x : ℕ). bit_xor x (b * 2 ^ 64)) left ∙ ap (bit_xor (a * 2 ^ 64 + 0)) right ∙ xor_block 64 a b 0 0 (omega arith) (omega arith) ∙ ap (λ (x : ℕ). bit_xor a b * 2 ^ 64 + x) none ∙ sum

-- the third counts 128 places higher
regroup : (first second third : ℕ) → wide first second third ≡ bit_xor (bit_xor first (second * 2 ^ 64)) (third * 2 ^ 128)
regroup first second third =
    let high : third * 2 ^ 64 * 2 ^ 64 ≡ third * 2 ^ 128 = omega arith in
    ap (bit_xor first) (sym (xor_scaled second (third * 2 ^ 64)) ∙ ap (bit_xor (second * 2 ^ 64)) high) ∙ sym (xor_assoc first (second * 2 ^ 64) (third * 2 ^ 128))

-- a word at the front
pub word_taken : (register after : ℕ) (left word rest : List ℕ) → word ≡ take 8 left → rest ≡ drop 8 left → after ≡ taken_in register word → taken_in after rest ≡ taken_in register left
word_taken register after left word rest ew er ea = rw (ea, ew, er) (taken_in-cut 8 register left)

length-word : (bytes : List ℕ) → 8 ≤ length bytes → length (take 8 bytes) ≡ 8
length-word bytes h = omega (arith, h, length-take 8 bytes)

-- a word goes into the first register, which becomes the third
pub word_passed : (a b c after : ℕ) (left word rest : List ℕ) → 24 ≤ length left → word ≡ take 8 left → rest ≡ drop 8 left → after ≡ steps 128 (taken_in a word)
    → taken_in (wide b c after) rest ≡ taken_in (wide a b c) left
word_passed a b c after left word rest long ew er e =
    let len : length word ≡ 8 = rw ew (length-word left (omega (arith, long))) in
    let more : 16 ≤ length rest = rw er (omega (arith, long, length-drop 8 left)) in
    let others : ℕ = bit_xor b (c * 2 ^ 64) in
    let taken : taken_in (wide a b c) word ≡ bit_xor others (taken_in a word) = taken_in-joined a others word len ∙ xor_comm (taken_in a word) others in
    ap (λ (x : ℕ). taken_in x rest) (regroup b c after ∙ ap (λ (x : ℕ). bit_xor others (x * 2 ^ 128)) e)
    ∙ sym (taken_in-higher rest others (taken_in a word) more)
    ∙ ap (λ (x : ℕ). taken_in x rest) (sym taken)
    ∙ word_taken (wide a b c) (taken_in (wide a b c) word) left word rest ew er refl

-- behind three words two are left
pub words_leave : (left behind rest after : List ℕ) → 40 ≤ length left → behind ≡ drop 8 left → rest ≡ drop 8 behind → after ≡ drop 8 rest → (32 ≤ length behind) × (24 ≤ length rest) × (16 ≤ length after)
words_leave left behind rest after long eb er ea =
    let one : length behind ≡ length left - 8 = ap length eb ∙ length-drop 8 left in
    let two : length rest ≡ length behind - 8 = ap length er ∙ length-drop 8 behind in
    let three : length after ≡ length rest - 8 = ap length ea ∙ length-drop 8 rest in
    (omega (arith, long, one), omega (arith, long, one, two), omega (arith, long, one, two, three))

-- the last two words join the registers
pub last_taken : (a b c joined register : ℕ) (left word rest next after : List ℕ) → 16 ≤ length left → word ≡ take 8 left → rest ≡ drop 8 left → next ≡ take 8 rest → after ≡ drop 8 rest
    → joined ≡ bit_xor (taken_in a word) b → register ≡ taken_in joined next → taken_in (bit_xor register c) after ≡ taken_in (wide a b c) left
last_taken a b c joined register left word rest next after long ew er en ea j e =
    let len : length word ≡ 8 = rw ew (length-word left (omega (arith, long))) in
    let more : 8 ≤ length rest = rw er (omega (arith, long, length-drop 8 left)) in
    let last : length next ≡ 8 = rw en (length-word rest more) in
    let first : bit_xor joined (c * 2 ^ 64) ≡ taken_in (wide a b c) word =
    ap (λ (x : ℕ). bit_xor x (c * 2 ^ 64)) j ∙ xor_assoc (taken_in a word) b (c * 2 ^ 64) ∙ sym (taken_in-joined a (bit_xor b (c * 2 ^ 64)) word len) in
    word_taken (bit_xor joined (c * 2 ^ 64)) (bit_xor register c) rest next after en ea (ap (λ (x : ℕ). bit_xor x c) e ∙ sym (taken_in-joined joined c next last))
    ∙ word_taken (wide a b c) (bit_xor joined (c * 2 ^ 64)) left word rest ew er first
