-- The positions in the first row that is left.
use Rattle.std.proofs.Common.{◌≡◌, ℕ, zero, suc, ◌+◌, ◌-◌, ◌<◌, ◌≤◌, List, [], ◌∷◌, ◌++◌, length, take, drop, get_or, Some, None, refl, sym, ap, subst, ◌∙◌, arith}
use Rattle.std.specs.List.{AllByRecursion}
use Rattle.std.specs.List.Sorted.{IsStrictlySortedBy}
use Rattle.std.specs.Ordering.{nat_cmp}
use Rattle.std.specs.declared.cmp.Ordering.TheVariants.{Less}
use Rattle.std.proofs.lemmas.Bool.{lt-ltb}
use Rattle.std.proofs.lemmas.Bool.Decides.{nat_tests}
use Rattle.std.proofs.lemmas.List.{take_all}
use Rattle.codec_frame.specs.Bytes.{AreBytes}
use Rattle.body_forms.specs.Format.{Read, ◌>>=◌, chain_at, ChainFits}
use Rattle.body_forms.specs.VInts.{vint, vint_within}
use Rattle.body_forms.specs.Numbers.{MayCome, difference_at, above, positive_at, ascending, ascending_at}
use Rattle.body_forms.proofs.Formats.{bind_some, read_is}
use Rattle.body_forms.proofs.NumberLaws.{ascending_format}
use Rattle.postings_plain.specs.Postings.{Hit}
use Rattle.postings_plain.specs.Rows.{first_positions}
use Rattle.postings_plain.specs.Reading.{positions_at, numbers_or_none, AreNumbers}
use Rattle.postings_plain.proofs.Passing.{rows_at, head_of, none_left}

pub counted_places : (bytes xs tail : List ℕ) (count : ℕ) (rest : List ℕ) → ascending_at bytes ≡ Some (xs, tail) → ◌≡◌ {A = Read ℕ} (Some (count, rest)) (positive_at bytes) → chain_at difference_at above count 0 rest ≡ Some (xs, tail)
counted_places bytes xs tail count rest e r =
    let f = bind_some (positive_at bytes) (λ n. chain_at difference_at above n.0 0 n.1) (xs, tail) e in
    let q = read_is count f.0.0 rest f.0.1 (r ∙ f.1) in
    ap (λ (n : ℕ). chain_at difference_at above n 0 rest) q.0 ∙ ap (λ (b : List ℕ). chain_at difference_at above f.0.0 0 b) q.1 ∙ f.2

pub count_is_there : (bytes xs tail : List ℕ) → ascending_at bytes ≡ Some (xs, tail) → ◌≡◌ {A = Read ℕ} None (positive_at bytes) → ⊥
count_is_there bytes xs tail e r =
    let f = bind_some (positive_at bytes) (λ n. chain_at difference_at above n.0 0 n.1) (xs, tail) e in
    let bad = r ∙ f.1 in cc

pub are_read : (r : Read (List ℕ)) (xs tail : List ℕ) → r ≡ Some (xs, tail) → AreNumbers r
are_read r xs tail e = subst AreNumbers (sym e) tt

second : (a b : ℕ) (xs ys : List ℕ) → ◌≡◌ {A = Hit} (a, xs) (b, ys) → xs ≡ ys
second a b xs ys e = ap (λ (h : Hit). h.1) e

-- the places of the first row, where its difference was read
pub record FirstPlaces (field : ℕ) (after : List ℕ) (hs : List Hit) : Type 0 where
  pub left : List ℕ
  pub read : positions_at field after ≡ Some (first_positions hs, left)

pub first_row_places : (field count least : ℕ) (rest : List ℕ) (hs : List Hit) (tail : List ℕ) (x : ℕ) (after : List ℕ) → 0 < count → rows_at field count least rest ≡ Some (hs, tail)
    → ◌≡◌ {A = Read ℕ} (Some (x, after)) (difference_at least rest) → FirstPlaces field after hs
first_row_places field count least rest hs tail x after pos e r =
    let h = head_of field count least rest hs tail pos e in
    let f = bind_some (difference_at least rest) (λ d. positions_at field d.1 >>= λ y. Some ((d.0, y.0), y.1)) (h.head, h.after) h.first in
    let g = bind_some (positions_at field f.0.1) (λ y. Some ((f.0.0, y.0), y.1)) (h.head, h.after) f.2 in
    let q = read_is (f.0.0, g.0.0) h.head g.0.1 h.after g.2 in
    let m = read_is x f.0.0 after f.0.1 (r ∙ f.1) in
    let same : g.0.0 ≡ first_positions hs = second f.0.0 h.head.0 g.0.0 h.head.1 q.0 ∙ ap first_positions (sym h.whole) in
    record { left = g.0.1; read = ap (positions_at field) m.1 ∙ g.1 ∙ ap (λ (p : List ℕ). Some (p, g.0.1)) same }

pub word_places : (field : ℕ) (after : List ℕ) (hs : List Hit) → 0 < field → (p : FirstPlaces field after hs) → ascending_at after ≡ Some (first_positions hs, p.left)
word_places zero after hs pos p = absurd (omega arith)
word_places (suc field) after hs pos p = p.read

pub empty_places : (field count least : ℕ) (rest : List ℕ) (hs : List Hit) (tail : List ℕ) → count ≡ 0 → rows_at field count least rest ≡ Some (hs, tail) → first_positions hs ≡ []
empty_places field count least rest hs tail z e = ap first_positions (none_left field count least rest hs tail z e)

pub key_places : (field count least : ℕ) (rest : List ℕ) (hs : List Hit) (tail : List ℕ) → field ≡ 0 → rows_at field count least rest ≡ Some (hs, tail) → first_positions hs ≡ []
key_places (suc field) count least rest hs tail z e = absurd (omega arith)
key_places zero zero least rest hs tail z e = empty_places zero zero least rest hs tail refl e
key_places zero (suc n) least rest hs tail z e =
    let h = head_of zero (suc n) least rest hs tail (omega arith) e in
    let f = bind_some (difference_at least rest) (λ d. Some ((d.0, []), d.1)) (h.head, h.after) h.first in
    let q = read_is (f.0.0, []) h.head f.0.1 h.after f.2 in
    ap first_positions h.whole ∙ sym (second f.0.0 h.head.0 [] h.head.1 q.0)

pub difference_is_there : (field count least : ℕ) (rest : List ℕ) (hs : List Hit) (tail : List ℕ) → 0 < count → rows_at field count least rest ≡ Some (hs, tail) → ◌≡◌ {A = Read ℕ} None (difference_at least rest) → ⊥
difference_is_there field count least rest hs tail pos e r =
    let h = head_of field count least rest hs tail pos e in
    let f = bind_some (difference_at least rest) (λ d. positions_at field d.1 >>= λ y. Some ((d.0, y.0), y.1)) (h.head, h.after) h.first in
    let bad = r ∙ f.1 in cc

-- ---- how many there are

one_more : (n x : ℕ) (r : Read (List ℕ)) → length (numbers_or_none r) ≤ n → length (numbers_or_none (r >>= λ xs. Some (x ∷ xs.0, xs.1))) ≤ suc n
one_more n x None h = omega arith
one_more n x (Some xs) h = omega (arith, h)

after_first : (n : ℕ) → ((k : ℕ) (bytes : List ℕ) → length (numbers_or_none (chain_at difference_at above n k bytes)) ≤ n) → (r : Read ℕ)
    → length (numbers_or_none (r >>= λ x. chain_at difference_at above n (above x.0) x.1 >>= λ xs. Some (x.0 ∷ xs.0, xs.1))) ≤ suc n
after_first n others None = omega arith
after_first n others (Some x) = one_more n x.0 (chain_at difference_at above n (above x.0) x.1) (others (above x.0) x.1)

pub length-numbers : (n k : ℕ) (bytes : List ℕ) → length (numbers_or_none (chain_at difference_at above n k bytes)) ≤ n
length-numbers zero k bytes = omega arith
length-numbers (suc n) k bytes = after_first n (length-numbers n) (difference_at k bytes)

long : (n k : ℕ) (bytes xs tail : List ℕ) → chain_at difference_at above n k bytes ≡ Some (xs, tail) → length xs ≡ n
long zero k bytes xs tail e = let q = read_is [] xs bytes tail e in ap length (sym q.0)
long (suc n) k bytes xs tail e =
    let f = bind_some (difference_at k bytes) (λ x. chain_at difference_at above n (above x.0) x.1 >>= λ xs. Some (x.0 ∷ xs.0, xs.1)) (xs, tail) e in
    let g = bind_some (chain_at difference_at above n (above f.0.0) f.0.1) (λ xs. Some (f.0.0 ∷ xs.0, xs.1)) (xs, tail) f.2 in
    let q = read_is (f.0.0 ∷ g.0.0) xs g.0.1 tail g.2 in
    ap length (sym q.0) ∙ ap suc (long n (above f.0.0) f.0.1 g.0.0 g.0.1 g.1)

-- as many as are said to be there
pub length-places : (bytes xs tail : List ℕ) (count : ℕ) (rest : List ℕ) → ascending_at bytes ≡ Some (xs, tail) → ◌≡◌ {A = Read ℕ} (Some (count, rest)) (positive_at bytes) → length xs ≡ count
length-places bytes xs tail count rest e r = long count 0 rest xs tail (counted_places bytes xs tail count rest e r)

pub counts_positions : (field : ℕ) (bytes xs rest : List ℕ) (count : ℕ) (after : List ℕ) → 0 < field → ascending_at bytes ≡ Some (xs, rest) → ◌≡◌ {A = Read ℕ} (Some (count, after)) (positive_at bytes)
    → (positions : List ℕ) × (positions_at field bytes ≡ Some (positions, rest)) × (length positions ≡ count)
counts_positions zero bytes xs rest count after pos e r = absurd (omega arith)
counts_positions (suc field) bytes xs rest count after pos e r = (xs, e, length-places bytes xs rest count after e r)

small_vint : (n : ℕ) → n < 128 → vint n ≡ n ∷ []
unfolding vint_within
small_vint n h = rw (lt-ltb n 128 h) refl

-- one position, of one byte
one_place : (p : ℕ) (rest : List ℕ) → p < 128 → ascending_at (1 ∷ p ∷ rest) ≡ Some (p ∷ [], rest)
one_place p rest small =
    let same : p - (0 - 1) ≡ p = omega arith in
    let text : ascending (p ∷ []) ≡ 1 ∷ p ∷ [] = ap (λ (k : ℕ). vint 1 ++ (vint k ++ [])) same ∙ ap (λ (t : List ℕ). t ++ (vint p ++ [])) (small_vint 1 (omega arith)) ∙ ap (λ (t : List ℕ). 1 ∷ (t ++ [])) (small_vint p small) in
    subst (λ (t : List ℕ). ascending_at (t ++ rest) ≡ Some (p ∷ [], rest)) text (ascending_format.again (p ∷ []) rest ((omega arith, omega arith), ((omega arith, omega (arith, small)), tt)))

pub one_position : (bytes : List ℕ) → 2 ≤ length bytes → get_or bytes 0 0 ≡ 1 → get_or bytes 1 0 < 128 → (x : ℕ) × (ascending_at bytes ≡ Some (x ∷ [], take (length bytes - 2) (drop 2 bytes)))
one_position [] len is small = absurd (omega (arith, len))
one_position (b ∷ []) len is small = absurd (omega (arith, len))
one_position (b ∷ p ∷ rest) len is small =
    let after : take (suc (suc (length rest)) - 2) rest ≡ rest = take_all _ rest (omega arith) in
    (p, ap (λ (c : ℕ). ascending_at (c ∷ p ∷ rest)) is ∙ one_place p rest small ∙ ap (λ (xs : List ℕ). Some (p ∷ [], xs)) (sym after))

pub skips_one : (field : ℕ) (bytes rest : List ℕ) → 0 < field → (position : ℕ) × (ascending_at bytes ≡ Some (position ∷ [], rest)) → (positions : List ℕ) × (positions_at field bytes ≡ Some (positions, rest)) × (length positions ≡ 1)
skips_one zero bytes rest pos one = absurd (omega arith)
skips_one (suc field) bytes rest pos one = (one.0 ∷ [], one.1, refl)

-- as many as are left to be read
pub length-left : (n k : ℕ) (bytes : List ℕ) → AreNumbers (chain_at difference_at above n k bytes) → length (numbers_or_none (chain_at difference_at above n k bytes)) ≡ n
length-left n k bytes are = by_read (chain_at difference_at above n k bytes) refl are
  where
    by_read : (r : Read (List ℕ)) → chain_at difference_at above n k bytes ≡ r → AreNumbers r → length (numbers_or_none r) ≡ n
    by_read None e h = absurd h
    by_read (Some x) e h = long n k bytes x.0 x.1 e

-- ---- they ascend

all_above : (x k : ℕ) (xs : List ℕ) → x < k → ChainFits MayCome above k xs → AllByRecursion (λ y. nat_cmp x y ≡ Less) xs
all_above x k [] lt fits = tt
all_above x k (y ∷ xs) lt fits = (less, all_above x (y + 1) xs (omega (arith, lt, fits.0.0)) fits.1)
  where
    less : nat_cmp x y ≡ Less
    less = let up : x < y = omega (arith, lt, fits.0.0) in grind (arith, nat_tests)

strictly : (k : ℕ) (xs : List ℕ) → ChainFits MayCome above k xs → IsStrictlySortedBy nat_cmp xs
unfolding IsStrictlySortedBy
strictly k [] fits = tt
strictly k (x ∷ xs) fits = (all_above x (x + 1) xs (omega arith) fits.1, strictly (x + 1) xs fits.1)

pub none_ascend : (xs : List ℕ) → xs ≡ [] → IsStrictlySortedBy nat_cmp xs
none_ascend xs e = subst (IsStrictlySortedBy nat_cmp) (sym e) (strictly 0 [] tt)

pub counted_ascend : (bytes xs tail : List ℕ) (count : ℕ) (rest : List ℕ) → AreBytes bytes → ascending_at bytes ≡ Some (xs, tail) → ◌≡◌ {A = Read ℕ} (Some (count, rest)) (positive_at bytes)
    → IsStrictlySortedBy nat_cmp (numbers_or_none (chain_at difference_at above count 0 rest))
counted_ascend bytes xs tail count rest fits e r =
    subst (IsStrictlySortedBy nat_cmp) (sym (ap numbers_or_none (counted_places bytes xs tail count rest e r))) (strictly 0 xs (ascending_format.takes bytes xs tail fits e).1.1)
