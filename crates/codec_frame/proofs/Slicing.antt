-- The tables hold what the steps give, and slicing a word into bytes divides it.
use Rattle.std.proofs.Common.{◌≡◌, ℕ, zero, suc, ◌+◌, ◌*◌, ◌/◌, ◌%◌, ◌^◌, ◌<◌, Bool, true, eqb, List, [], ◌∷◌, length, get_or, refl, sym, ap, ◌∙◌, arith, bit_xor, drop, pow-suc}
use Rattle.std.specs.Prelude.{◌&&◌}
use Rattle.std.proofs.lemmas.Bool.{and_parts, eqb-true}
use Rattle.std.proofs.lemmas.List.{drop_all}
use Rattle.std.specs.Int.{w64, from_le_bytes}
use Rattle.std.specs.Int.Bits.{xor_zero_r, xor_shifted}
use Rattle.std.proofs.lemmas.Nat.{xor_comm, shr-shr}
use Rattle.byteorder.specs.Endian.{little_number}
use Rattle.codec_frame.specs.declared.tables.TheConstants.{LAST, PASSED}
use Rattle.codec_frame.specs.Register.{step, steps, taken_in}
use Rattle.codec_frame.specs.Bytes.{AreBytes}
use Rattle.codec_frame.proofs.Steps.{steps-xor, steps-shifted, steps-add, steps-zero}
use Rattle.codec_frame.proofs.Remainder.{bytes_number, taken_in-steps}

-- the test that computes: entry i of a row is b + i after k steps
unfoldable is_row : ℕ → ℕ → List ℕ → Bool
is_row k b [] = true
is_row k b (x ∷ xs) = eqb x (steps k b) && is_row k (suc b) xs

unfoldable are_rows : ℕ → List (List ℕ) → Bool
are_rows k [] = true
are_rows k (r ∷ rs) = is_row (8 * k) 0 r && are_rows (suc k) rs

last_is_right : are_rows 1 LAST ≡ true
unfolding are_rows is_row steps step
last_is_right = refl

passed_is_right : are_rows 17 PASSED ≡ true
unfolding are_rows is_row steps step
passed_is_right = refl

is_row-at : (k b i : ℕ) (xs : List ℕ) → is_row k b xs ≡ true → i < length xs → get_or xs i 0 ≡ steps k (b + i)
unfolding is_row
is_row-at k b i [] e h = absurd (omega arith)
is_row-at k b zero (x ∷ xs) e h =
    let p = and_parts (eqb x (steps k b)) (is_row k (suc b) xs) e in
    let n : b + 0 ≡ b = omega arith in
    rw n (eqb-true _ _ p.0)
is_row-at k b (suc i) (x ∷ xs) e h =
    let p = and_parts (eqb x (steps k b)) (is_row k (suc b) xs) e in
    let n : suc b + i ≡ b + suc i = omega arith in
    is_row-at k (suc b) i xs p.1 (omega arith) ∙ ap (steps k) n

are_rows-at : (k j i : ℕ) (rs : List (List ℕ)) → are_rows k rs ≡ true → j < length rs → i < length (get_or rs j []) → get_or (get_or rs j []) i 0 ≡ steps (8 * (k + j)) i
unfolding are_rows
are_rows-at k j i [] e h hi = absurd (omega arith)
are_rows-at k zero i (r ∷ rs) e h hi =
    let p = and_parts (is_row (8 * k) 0 r) (are_rows (suc k) rs) e in
    let n : k + 0 ≡ k = omega arith in
    let z : 0 + i ≡ i = omega arith in
    rw n (is_row-at (8 * k) 0 i r p.0 hi ∙ ap (steps (8 * k)) z)
are_rows-at k (suc j) i (r ∷ rs) e h hi =
    let p = and_parts (is_row (8 * k) 0 r) (are_rows (suc k) rs) e in
    let n : suc k + j ≡ k + suc j = omega arith in
    are_rows-at (suc k) j i rs p.1 (omega arith) hi ∙ ap (λ (m : ℕ). steps (8 * m) i) n

-- each row has 256 entries
abbrev long_rows : List (List ℕ) → Bool
long_rows [] = true
long_rows (r ∷ rs) = eqb (length r) 256 && long_rows rs

long_rows-at : (j : ℕ) (rs : List (List ℕ)) → long_rows rs ≡ true → j < length rs → length (get_or rs j []) ≡ 256
long_rows-at j [] e h = absurd (omega arith)
long_rows-at zero (r ∷ rs) e h = eqb-true _ _ (and_parts (eqb (length r) 256) (long_rows rs) e).0
long_rows-at (suc j) (r ∷ rs) e h = long_rows-at j rs (and_parts (eqb (length r) 256) (long_rows rs) e).1 (omega arith)

row_entry : (first k b : ℕ) (rows : List (List ℕ)) → are_rows first rows ≡ true → long_rows rows ≡ true → k < length rows → b < 256 → get_or (get_or rows k []) b 0 ≡ steps (8 * (k + first)) b
row_entry first k b rows right long hk hb =
    let len : length (get_or rows k []) ≡ 256 = long_rows-at k rows long hk in
    let n : first + k ≡ k + first = omega arith in
    are_rows-at first k b rows right hk (omega arith) ∙ ap (λ (m : ℕ). steps (8 * m) b) n

pub last_entry : (k b : ℕ) → k < 8 → b < 256 → get_or (get_or LAST k []) b 0 ≡ steps (8 * (k + 1)) b
last_entry k b hk hb = row_entry 1 k b LAST last_is_right refl hk hb

pub passed_entry : (k b : ℕ) → k < 8 → b < 256 → get_or (get_or PASSED k []) b 0 ≡ steps (8 * (k + 17)) b
passed_entry k b hk hb = row_entry 17 k b PASSED passed_is_right refl hk hb

-- the bytes of a word, each through the steps that are left for it
pub steps-byte : (k w : ℕ) → steps (8 * (k + 1)) w ≡ bit_xor (steps (8 * (k + 1)) (w % 256)) (steps (8 * k) (w / 256))
steps-byte k w =
    let split : w ≡ bit_xor (w % 256) (w / 256 * 2 ^ 8) =
    sym (xor_comm (w % 256) (w / 256 * 2 ^ 8) ∙ xor_shifted (w / 256) 8 (w % 256) (omega arith) ∙ omega arith) in
    let count : 8 * (k + 1) ≡ 8 + 8 * k = omega arith in
    let high : steps (8 * (k + 1)) (w / 256 * 2 ^ 8) ≡ steps (8 * k) (w / 256) =
    ap (λ (m : ℕ). steps m (w / 256 * 2 ^ 8)) count ∙ steps-add 8 (8 * k) (w / 256 * 2 ^ 8) ∙ ap (steps (8 * k)) (steps-shifted 8 (w / 256)) in
    ap (steps (8 * (k + 1))) split ∙ steps-xor (8 * (k + 1)) (w % 256) (w / 256 * 2 ^ 8) ∙ ap (bit_xor (steps (8 * (k + 1)) (w % 256))) high

-- the bytes of a word from bit s up, n + 1 of them, each through its steps, of which k bytes' worth are left after the last
abbrev pub by_bytes : (k n s w : ℕ) → ℕ
by_bytes k zero s w = steps (8 * (k + 1)) (w / 2 ^ s % 256)
by_bytes k (suc n) s w = bit_xor (by_bytes k n (s + 8) w) (steps (8 * (k + suc n + 1)) (w / 2 ^ s % 256))

-- a word through its steps is the sum of its bytes through theirs
steps-by_bytes : (k n s w : ℕ) → w / 2 ^ s < 256 * 256 ^ n → steps (8 * (k + n + 1)) (w / 2 ^ s) ≡ by_bytes k n s w
steps-by_bytes k zero s w h =
    let high : w / 2 ^ s / 256 ≡ 0 = omega arith in
    let count : k + 0 + 1 ≡ k + 1 = omega arith in
    let last : steps (8 * k) (w / 2 ^ s / 256) ≡ 0 = ap (steps (8 * k)) high ∙ steps-zero (8 * k) in
    rw count (steps-byte k (w / 2 ^ s) ∙ ap (bit_xor (steps (8 * (k + 1)) (w / 2 ^ s % 256))) last ∙ xor_zero_r _)
steps-by_bytes k (suc n) s w h =
    let up : w / 2 ^ s / 256 ≡ w / 2 ^ (s + 8) = shr-shr w s 8 in
    let less : w / 2 ^ (s + 8) < 256 * 256 ^ n = omega (arith, up, pow-suc 256 n) in
    let count : k + suc n ≡ k + n + 1 = omega arith in
    let rest : steps (8 * (k + suc n)) (w / 2 ^ s / 256) ≡ by_bytes k n (s + 8) w =
    ap (λ (m : ℕ). steps (8 * m) (w / 2 ^ s / 256)) count ∙ ap (steps (8 * (k + n + 1))) up ∙ steps-by_bytes k n (s + 8) w less in
    steps-byte (k + suc n) (w / 2 ^ s) ∙ ap (bit_xor (steps (8 * (k + suc n + 1)) (w / 2 ^ s % 256))) rest ∙ xor_comm _ (by_bytes k n (s + 8) w)

-- a word that k bytes follow
pub steps-word_at : (k w : ℕ) → w < 2 ^ 64 → steps (8 * (k + 8)) w ≡ bit_xor (by_bytes k 6 8 w) (steps (8 * (k + 8)) (w % 256))
steps-word_at k w h =
    let count : k + 7 + 1 ≡ k + 8 = omega arith in
    let before : k + 6 + 1 ≡ k + 7 = omega arith in
    let rest : steps (8 * (k + 7)) (w / 256) ≡ by_bytes k 6 8 w = ap (λ (m : ℕ). steps (8 * m) (w / 256)) (sym before) ∙ steps-by_bytes k 6 8 w (omega arith) in
    rw (← count) (steps-byte (k + 7) w ∙ ap (bit_xor (steps (8 * (k + 7 + 1)) (w % 256))) rest ∙ xor_comm _ (by_bytes k 6 8 w))

number-at : (k : ℕ) (bs : List ℕ) → bytes_number (drop k bs) ≡ bytes_number (drop (k + 1) bs) * 2 ^ 8 + get_or bs k 0
number-at zero [] = refl
number-at zero (b ∷ bs) = refl
number-at (suc k) [] = let n : suc k + 1 ≡ suc (k + 1) = omega arith in rw n refl
number-at (suc k) (b ∷ bs) = let n : suc k + 1 ≡ suc (k + 1) = omega arith in rw n (number-at k bs)

pub bytes_number-le : (bs : List ℕ) → length bs ≡ 8 → bytes_number bs ≡ from_le_bytes w64 bs
bytes_number-le bs len =
    let none : bytes_number (drop 8 bs) ≡ 0 = rw (drop_all 8 bs (omega arith)) refl in
    omega (arith, number-at 0 bs, number-at 1 bs, number-at 2 bs, number-at 3 bs, number-at 4 bs, number-at 5 bs, number-at 6 bs, number-at 7 bs, none)

pub taken_in-word : (s w : ℕ) (bytes : List ℕ) → AreBytes bytes → length bytes ≡ 8 → w ≡ bit_xor (from_le_bytes w64 bytes) s → taken_in s bytes ≡ steps 64 w
taken_in-word s w bytes fits len e =
    let count : 8 * length bytes ≡ 64 = omega arith in
    let word : bit_xor s (bytes_number bytes) ≡ w = rw (bytes_number-le bytes len, xor_comm s (from_le_bytes w64 bytes)) (sym e) in
    taken_in-steps bytes s fits ∙ rw (count, word) refl

-- the same of the word as it is read
pub taken_in-read : (s n : ℕ) (word : List ℕ) → AreBytes word → length word ≡ 8 → n ≡ little_number 8 word → taken_in s word ≡ steps 64 (bit_xor n s)
taken_in-read s n word fits len e =
    let same : little_number 8 word ≡ from_le_bytes w64 word = omega arith in
    taken_in-word s (bit_xor n s) word fits len (ap (λ (x : ℕ). bit_xor x s) (e ∙ same))
