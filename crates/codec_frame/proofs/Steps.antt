-- The laws of a division step: it is linear, it keeps 32 bits, and it loses nothing of them.
use Rattle.std.proofs.Common.{◌≡◌, ℕ, zero, suc, ◌+◌, ◌*◌, ◌/◌, ◌%◌, ◌^◌, ◌<◌, ◌≤◌, List, [], ◌∷◌, ◌++◌, length, get_or, refl, sym, ap, ◌∙◌, arith, bit_xor, pow-suc, take, drop, drop-cons, add-one}
use Rattle.std.specs.Int.Bits.{xor_assoc, xor_self, xor_zero_l, xor_zero_r}
use Rattle.std.proofs.lemmas.List.{drop_all, take-append-drop}
use Rattle.std.proofs.lemmas.Nat.{xor_comm, xor_lt, xor_shr, xor_mod}
use Rattle.codec_frame.specs.Register.{step, steps, taken_in}
use Rattle.codec_frame.specs.Bytes.{AreBytes}
use Rattle.codec_frame.proofs.ByteLaws.{AreBytes-rest}

-- two sums of four
pub exchange : (a b c d : ℕ) → bit_xor (bit_xor a b) (bit_xor c d) ≡ bit_xor (bit_xor a c) (bit_xor b d)
exchange a b c d =
    xor_assoc a b (bit_xor c d)
    ∙ ap (bit_xor a) (sym (xor_assoc b c d) ∙ ap (λ (x : ℕ). bit_xor x d) (xor_comm b c) ∙ xor_assoc c b d)
    ∙ sym (xor_assoc a c (bit_xor b d))

scale-xor : (a b g : ℕ) → a < 2 → b < 2 → bit_xor a b * g ≡ bit_xor (a * g) (b * g)
scale-xor zero zero g ha hb = let e : 0 * g ≡ 0 = omega arith in rw e refl
scale-xor zero (suc zero) g ha hb = let e : 0 * g ≡ 0 = omega arith in rw e refl
scale-xor (suc zero) zero g ha hb = let e : 0 * g ≡ 0 = omega arith in rw e (sym (xor_zero_r (1 * g)))
scale-xor (suc zero) (suc zero) g ha hb = let e : 0 * g ≡ 0 = omega arith in e ∙ sym (xor_self (1 * g))
scale-xor (suc (suc a)) b g ha hb = absurd (omega arith)
scale-xor zero (suc (suc b)) g ha hb = absurd (omega arith)
scale-xor (suc zero) (suc (suc b)) g ha hb = absurd (omega arith)

pub step-xor : (a b : ℕ) → step (bit_xor a b) ≡ bit_xor (step a) (step b)
unfolding step
step-xor a b =
    let half : bit_xor a b / 2 ≡ bit_xor (a / 2) (b / 2) = xor_shr a b 1 in
    let low : bit_xor a b % 2 ≡ bit_xor (a % 2) (b % 2) = xor_mod a b 1 in
    let scaled : bit_xor (a % 2) (b % 2) * 0xedb88320 ≡ bit_xor (a % 2 * 0xedb88320) (b % 2 * 0xedb88320) = scale-xor (a % 2) (b % 2) 0xedb88320 (omega arith) (omega arith) in
    rw (half, low, scaled) (exchange (a / 2) (b / 2) (a % 2 * 0xedb88320) (b % 2 * 0xedb88320))

pub steps-xor : (n a b : ℕ) → steps n (bit_xor a b) ≡ bit_xor (steps n a) (steps n b)
unfolding steps
steps-xor zero a b = refl
steps-xor (suc n) a b = ap (steps n) (step-xor a b) ∙ steps-xor n (step a) (step b)

pub steps-zero : (n : ℕ) → steps n 0 ≡ 0
unfolding steps step
steps-zero zero = refl
steps-zero (suc n) = steps-zero n

pub step-double : (v : ℕ) → step (v * 2) ≡ v
unfolding step
step-double v =
    let half : v * 2 / 2 ≡ v = omega arith in
    let low : v * 2 % 2 ≡ 0 = omega arith in
    rw (half, low) (xor_zero_r v)

pub steps-shifted : (n v : ℕ) → steps n (v * 2 ^ n) ≡ v
unfolding steps
steps-shifted zero v = omega arith
steps-shifted (suc n) v =
    let e : v * 2 ^ suc n ≡ (v * 2 ^ n) * 2 = rw pow-suc (omega arith) in
    ap (λ (x : ℕ). steps n (step x)) e ∙ ap (steps n) (step-double (v * 2 ^ n)) ∙ steps-shifted n v

pub steps-add : (m n v : ℕ) → steps (m + n) v ≡ steps n (steps m v)
unfolding steps
steps-add zero n v = ap (λ (k : ℕ). steps k v) (let e : 0 + n ≡ n = omega arith in e)
steps-add (suc m) n v = ap (λ (k : ℕ). steps k v) (let e : suc m + n ≡ suc (m + n) = omega arith in e) ∙ steps-add m n (step v)

pub step-lt : (v : ℕ) → v < 2 ^ 32 → step v < 2 ^ 32
unfolding step
step-lt v h = xor_lt 32 (v / 2) (v % 2 * 0xedb88320) (omega arith) (omega arith)

pub steps-lt : (n v : ℕ) → v < 2 ^ 32 → steps n v < 2 ^ 32
unfolding steps
steps-lt zero v h = h
steps-lt (suc n) v h = steps-lt n (step v) (step-lt v h)

same_from_xor : (a b : ℕ) → bit_xor a b ≡ 0 → a ≡ b
same_from_xor a b e =
    sym (xor_zero_r a) ∙ ap (bit_xor a) (sym (xor_self b)) ∙ sym (xor_assoc a b b) ∙ ap (λ (x : ℕ). bit_xor x b) e ∙ xor_zero_l b

pub step_loses_nothing : (v : ℕ) → v < 2 ^ 32 → step v ≡ 0 → v ≡ 0
unfolding step
step_loses_nothing v h e =
    let same : v / 2 ≡ v % 2 * 0xedb88320 = same_from_xor (v / 2) (v % 2 * 0xedb88320) e in
    omega arith

pub steps_lose_nothing : (n v : ℕ) → v < 2 ^ 32 → steps n v ≡ 0 → v ≡ 0
unfolding steps
steps_lose_nothing zero v h e = e
steps_lose_nothing (suc n) v h e = step_loses_nothing v h (steps_lose_nothing n (step v) (step-lt v h) e)

-- registers that differ stay different
pub steps_apart : (n a b : ℕ) → a < 2 ^ 32 → b < 2 ^ 32 → steps n a ≡ steps n b → a ≡ b
steps_apart n a b ha hb e =
    same_from_xor a b (steps_lose_nothing n (bit_xor a b) (xor_lt 32 a b ha hb)
    (steps-xor n a b ∙ ap (λ (x : ℕ). bit_xor x (steps n b)) e ∙ xor_self (steps n b)))

pub xor_back : (a b c : ℕ) → bit_xor a b ≡ bit_xor a c → b ≡ c
xor_back a b c e =
    let undo : (x : ℕ) → bit_xor a (bit_xor a x) ≡ x = λ x. sym (xor_assoc a a x) ∙ ap (λ (y : ℕ). bit_xor y x) (xor_self a) ∙ xor_zero_l x in
    sym (undo b) ∙ ap (bit_xor a) e ∙ undo c

pub take_in-lt : (s b : ℕ) → s < 2 ^ 32 → b < 256 → steps 8 (bit_xor s b) < 2 ^ 32
take_in-lt s b hs hb = steps-lt 8 (bit_xor s b) (xor_lt 32 s b hs (omega arith))

pub taken_in_apart : (bytes : List ℕ) (s t : ℕ) → AreBytes bytes → s < 2 ^ 32 → t < 2 ^ 32 → taken_in s bytes ≡ taken_in t bytes → s ≡ t
unfolding taken_in
taken_in_apart [] s t fits hs ht e = e
taken_in_apart (b ∷ bytes) s t fits hs ht e =
    let hb : b < 256 = fits 0 in
    let later : steps 8 (bit_xor s b) ≡ steps 8 (bit_xor t b) =
    taken_in_apart bytes (steps 8 (bit_xor s b)) (steps 8 (bit_xor t b)) (AreBytes-rest b bytes fits) (take_in-lt s b hs hb) (take_in-lt t b ht hb) e in
    xor_back b s t (xor_comm b s ∙ steps_apart 8 (bit_xor s b) (bit_xor t b) (xor_lt 32 s b hs (omega arith)) (xor_lt 32 t b ht (omega arith)) later ∙ xor_comm t b)

pub taken_in-lt : (bytes : List ℕ) (s : ℕ) → AreBytes bytes → s < 2 ^ 32 → taken_in s bytes < 2 ^ 32
unfolding taken_in
taken_in-lt [] s fits hs = hs
taken_in-lt (b ∷ bytes) s fits hs = taken_in-lt bytes (steps 8 (bit_xor s b)) (AreBytes-rest b bytes fits) (take_in-lt s b hs (fits 0))

pub taken_in-append : (front back : List ℕ) (s : ℕ) → taken_in s (front ++ back) ≡ taken_in (taken_in s front) back
unfolding taken_in
taken_in-append [] back s = refl
taken_in-append (b ∷ front) back s = taken_in-append front back (steps 8 (bit_xor s b))

-- one byte altered: the register differs
pub register_tells_one_byte : (front back : List ℕ) (x y : ℕ) → AreBytes front → AreBytes back → x < 256 → y < 256
    → taken_in 0xffffffff (front ++ x ∷ back) ≡ taken_in 0xffffffff (front ++ y ∷ back) → x ≡ y
unfolding taken_in
register_tells_one_byte front back x y ff fb hx hy both =
    let s : ℕ = taken_in 0xffffffff front in
    let hs : s < 2 ^ 32 = taken_in-lt front 0xffffffff ff (omega arith) in
    let after : taken_in (steps 8 (bit_xor s x)) back ≡ taken_in (steps 8 (bit_xor s y)) back = sym (taken_in-append front (x ∷ back) 0xffffffff) ∙ both ∙ taken_in-append front (y ∷ back) 0xffffffff in
    let register : steps 8 (bit_xor s x) ≡ steps 8 (bit_xor s y) = taken_in_apart back _ _ fb (take_in-lt s x hs hx) (take_in-lt s y hs hy) after in
    xor_back s x y (steps_apart 8 (bit_xor s x) (bit_xor s y) (xor_lt 32 s x hs (omega arith)) (xor_lt 32 s y hs (omega arith)) register)

-- the byte at i, and the bytes after it
pub taken_in-drop : (s i : ℕ) (bytes : List ℕ) → i < length bytes → taken_in s (drop i bytes) ≡ taken_in (steps 8 (bit_xor s (get_or bytes i 0))) (drop (i + 1) bytes)
unfolding taken_in
taken_in-drop s i bytes h = rw (add-one, drop-cons bytes i 0 h) refl

pub taken_in-end : (s i : ℕ) (bytes : List ℕ) → length bytes ≤ i → taken_in s (drop i bytes) ≡ s
unfolding taken_in
taken_in-end s i bytes h = rw (drop_all i bytes h) refl

pub steps-none : (v : ℕ) → steps 0 v ≡ v
unfolding steps
steps-none v = refl

pub taken_in-cut : (n s : ℕ) (bytes : List ℕ) → taken_in (taken_in s (take n bytes)) (drop n bytes) ≡ taken_in s bytes
taken_in-cut n s bytes = sym (taken_in-append (take n bytes) (drop n bytes) s) ∙ ap (taken_in s) (take-append-drop n bytes)
