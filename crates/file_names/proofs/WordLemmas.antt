-- The order of names is that of the words in which they lie, zeros behind them.
use Rattle.std.proofs.Common.{◌≡◌, ◌⊎◌, ℕ, zero, suc, ◌+◌, ◌-◌, ◌*◌, ◌<◌, ◌≤◌, true, List, [], ◌∷◌, ◌++◌, length, get_or, take, drop, replicate, refl, sym, ap, ◌∙◌, inl, inr, arith}
use Rattle.std.specs.List.{list_all}
use Rattle.std.specs.Ordering.{nat_cmp, ordering_then}
use Rattle.std.specs.Cmp.Lexicographic.{slice_cmp}
use Rattle.std.specs.declared.cmp.Ordering.{Ordering}
use Rattle.std.specs.declared.cmp.Ordering.TheVariants.{Less, Equal, Greater}
use Rattle.std.proofs.lemmas.Bool.{and_parts}
use Rattle.std.proofs.lemmas.Bool.Decides.{nat_tests}
use Rattle.std.proofs.lemmas.List.{drop-drop, length-drop, length-take}
use Rattle.nrt_base.specs.Bytes.{is_between}
use Rattle.file_names.specs.Names.{is_name_byte, is_file_name}
use Rattle.file_names.specs.WordOrder.{word_after, word_of}

abbrev order : List ℕ → List ℕ → Ordering
order = slice_cmp nat_cmp

abbrev AreLow : List ℕ → Type 0
AreLow xs = (i : ℕ) → get_or xs i 0 < 256

-- ---- two numbers

cmp_less : (a b : ℕ) → a < b → nat_cmp a b ≡ Less
cmp_less a b lt = grind (arith, nat_tests, lt)

cmp_same : (a b : ℕ) → a ≡ b → nat_cmp a b ≡ Equal
cmp_same a b e = grind (arith, nat_tests, e)

cmp_more : (a b : ℕ) → b < a → nat_cmp a b ≡ Greater
cmp_more a b lt = grind (arith, nat_tests, lt)

three : (a b : ℕ) → (a < b) ⊎ ((a ≡ b) ⊎ (b < a))
three a b = grind arith

then_same : (r : Ordering) (o : Ordering) → r ≡ Equal → ordering_then r o ≡ o
then_same Less o e = absurd cc
then_same Equal o e = refl
then_same Greater o e = absurd cc

then_apart : (r : Ordering) (o : Ordering) → (r ≡ Equal → ⊥) → ordering_then r o ≡ r
then_apart Less o apart = refl
then_apart Equal o apart = absurd (apart refl)
then_apart Greater o apart = refl

then_then : (a b c : Ordering) → ordering_then a (ordering_then b c) ≡ ordering_then (ordering_then a b) c
then_then Less b c = refl
then_then Equal b c = refl
then_then Greater b c = refl

-- ---- bytes as numbers

word_less : (m n : ℕ) (xs ys : List ℕ) → length xs ≡ length ys → AreLow xs → m < n → word_after m xs < word_after n ys
word_less m n [] [] len low lt = lt
word_less m n [] (y ∷ ys) len low lt = absurd (omega (arith, len))
word_less m n (x ∷ xs) [] len low lt = absurd (omega (arith, len))
word_less m n (x ∷ xs) (y ∷ ys) len low lt =
    let here : x < 256 = low 0 in
    word_less (m * 256 + x) (n * 256 + y) xs ys (omega (arith, len)) (λ i. low (suc i)) (omega (arith, lt, here))

-- as many bytes stand in the order of their numbers
word_order : (n : ℕ) (xs ys : List ℕ) → length xs ≡ length ys → AreLow xs → AreLow ys → order xs ys ≡ nat_cmp (word_after n xs) (word_after n ys)
word_order n [] [] len a b = sym (cmp_same n n refl)
word_order n [] (y ∷ ys) len a b = absurd (omega (arith, len))
word_order n (x ∷ xs) [] len a b = absurd (omega (arith, len))
word_order n (x ∷ xs) (y ∷ ys) len a b =
    let long : length xs ≡ length ys = omega (arith, len) in
    elim (three x y) [
      | inl lt ↦
          ap (λ (r : Ordering). ordering_then r (order xs ys)) (cmp_less x y lt)
          ∙ sym (cmp_less (word_after (n * 256 + x) xs) (word_after (n * 256 + y) ys) (word_less (n * 256 + x) (n * 256 + y) xs ys long (λ i. a (suc i)) (omega (arith, lt))))
      | inr rest ↦ elim rest [
        | inl e ↦
            then_same (nat_cmp x y) (order xs ys) (cmp_same x y e)
            ∙ word_order (n * 256 + x) xs ys long (λ i. a (suc i)) (λ i. b (suc i))
            ∙ ap (λ (k : ℕ). nat_cmp (word_after (n * 256 + x) xs) (word_after (n * 256 + k) ys)) e
        | inr gt ↦
            ap (λ (r : Ordering). ordering_then r (order xs ys)) (cmp_more x y gt)
            ∙ sym (cmp_more (word_after (n * 256 + x) xs) (word_after (n * 256 + y) ys) (word_less (n * 256 + y) (n * 256 + x) ys xs (sym long) (λ i. b (suc i)) (omega (arith, gt))))
      ]
    ]

-- ---- word by word

cut_at : (k : ℕ) (xs ys : List ℕ) → length xs ≡ length ys → order xs ys ≡ ordering_then (order (take k xs) (take k ys)) (order (drop k xs) (drop k ys))
cut_at zero xs ys len = refl
cut_at (suc k) [] [] len = refl
cut_at (suc k) [] (y ∷ ys) len = absurd (omega (arith, len))
cut_at (suc k) (x ∷ xs) (y ∷ ys) len = ap (ordering_then (nat_cmp x y)) (cut_at k xs ys (omega (arith, len))) ∙ then_then (nat_cmp x y) (order (take k xs) (take k ys)) (order (drop k xs) (drop k ys))
cut_at (suc k) (x ∷ xs) [] len = absurd (omega (arith, len))

low_taken : (k : ℕ) (xs : List ℕ) → AreLow xs → AreLow (take k xs)
low_taken zero xs low i = omega arith
low_taken (suc k) [] low i = low i
low_taken (suc k) (x ∷ xs) low zero = low 0
low_taken (suc k) (x ∷ xs) low (suc i) = low_taken k xs (λ j. low (suc j)) i

low_dropped : (k : ℕ) (xs : List ℕ) → AreLow xs → AreLow (drop k xs)
low_dropped zero xs low = low
low_dropped (suc k) [] low = low
low_dropped (suc k) (x ∷ xs) low = low_dropped k xs (λ j. low (suc j))

module _ (at : ℕ) (xs ys : List ℕ) (len : length xs ≡ length ys) (a : AreLow xs) (b : AreLow ys) where
  dropped : length (drop at xs) ≡ length (drop at ys)
  dropped = omega (arith, len, length-drop at xs, length-drop at ys)

  taken : length (take 8 (drop at xs)) ≡ length (take 8 (drop at ys))
  taken = omega (arith, dropped, length-take 8 (drop at xs), length-take 8 (drop at ys))

  words : order (take 8 (drop at xs)) (take 8 (drop at ys)) ≡ nat_cmp (word_of (take 8 (drop at xs))) (word_of (take 8 (drop at ys)))
  words = word_order 0 (take 8 (drop at xs)) (take 8 (drop at ys)) taken (low_taken 8 (drop at xs) (low_dropped at xs a)) (low_taken 8 (drop at ys) (low_dropped at ys b))

  -- words that differ decide
  pub word_decides : (v w : ℕ) (r : Ordering) → v ≡ word_of (take 8 (drop at xs)) → w ≡ word_of (take 8 (drop at ys)) → (v ≡ w → ⊥) → r ≡ nat_cmp v w → order xs ys ≡ order (drop at xs) (drop at ys) → r ≡ order xs ys
  word_decides v w r ev ew apart is so_far =
      let told : order (take 8 (drop at xs)) (take 8 (drop at ys)) ≡ nat_cmp v w = words ∙ ap (λ (k : ℕ). nat_cmp k (word_of (take 8 (drop at ys)))) (sym ev) ∙ ap (nat_cmp v) (sym ew) in
      is ∙ sym told ∙ sym (then_apart _ (order (drop 8 (drop at xs)) (drop 8 (drop at ys))) (λ e. apart (same_number v w (sym told ∙ e)))) ∙ sym (cut_at 8 (drop at xs) (drop at ys) dropped) ∙ sym so_far
    where
      same_number : (v w : ℕ) → nat_cmp v w ≡ Equal → v ≡ w
      same_number v w e = grind (arith, nat_tests, e)

  -- words that are the same leave it to those behind
  pub word_passes : (v w : ℕ) → v ≡ word_of (take 8 (drop at xs)) → w ≡ word_of (take 8 (drop at ys)) → v ≡ w → order xs ys ≡ order (drop at xs) (drop at ys) → order xs ys ≡ order (drop (at + 8) xs) (drop (at + 8) ys)
  word_passes v w ev ew same so_far =
      let told : order (take 8 (drop at xs)) (take 8 (drop at ys)) ≡ Equal = words ∙ cmp_same _ _ (sym ev ∙ same ∙ ew) in
      so_far ∙ cut_at 8 (drop at xs) (drop at ys) dropped ∙ then_same _ (order (drop 8 (drop at xs)) (drop 8 (drop at ys))) told
      ∙ ap (λ (zs : List ℕ). order zs (drop 8 (drop at ys))) (drop-drop 8 at xs) ∙ ap (order (drop (at + 8) xs)) (drop-drop 8 at ys)

-- ---- zeros behind names

name_byte_some : (b : ℕ) → is_name_byte b ≡ true → 0 < b
name_byte_some b h = grind (arith, nat_tests, h)

zeros_same : (n : ℕ) → order (replicate n 0) (replicate n 0) ≡ Equal
zeros_same zero = refl
zeros_same (suc n) = then_same (nat_cmp 0 0) (order (replicate n 0) (replicate n 0)) (cmp_same 0 0 refl) ∙ zeros_same n

-- zeros behind names change nothing, where both are as long then
padded : (p q : List ℕ) (j k : ℕ) → list_all is_name_byte p ≡ true → list_all is_name_byte q ≡ true → length p + j ≡ length q + k → order (p ++ replicate j 0) (q ++ replicate k 0) ≡ order p q
padded [] [] j k a b len = ap (λ (n : ℕ). order (replicate j 0) (replicate n 0)) (let e : k ≡ j = omega (arith, len) in e) ∙ zeros_same j
padded [] (y ∷ q) zero k a b len = absurd (omega (arith, len))
padded [] (y ∷ q) (suc j) k a b len =
    ap (λ (r : Ordering). ordering_then r (order (replicate j 0) (q ++ replicate k 0))) (cmp_less 0 y (name_byte_some y (and_parts (is_name_byte y) (list_all is_name_byte q) b).0))
padded (x ∷ p) [] j zero a b len = absurd (omega (arith, len))
padded (x ∷ p) [] j (suc k) a b len =
    ap (λ (r : Ordering). ordering_then r (order (p ++ replicate j 0) (replicate k 0))) (cmp_more x 0 (name_byte_some x (and_parts (is_name_byte x) (list_all is_name_byte p) a).0))
padded (x ∷ p) (y ∷ q) j k a b len =
    ap (ordering_then (nat_cmp x y)) (padded p q j k (and_parts (is_name_byte x) (list_all is_name_byte p) a).1 (and_parts (is_name_byte y) (list_all is_name_byte q) b).1 (omega (arith, len)))

abbrev Lies : ℕ → List ℕ → Type 0
Lies n bytes = (length bytes ≡ 64) × (n ≤ 64) × (bytes ≡ take n bytes ++ replicate (64 - n) 0) × (is_file_name (take n bytes) ≡ true)

-- the order of names is that of the bytes in which they lie
pub lain_order : (m n : ℕ) (a b : List ℕ) → Lies m a → Lies n b → order a b ≡ order (take m a) (take n b)
lain_order m n a b x y =
    let front : length (take m a) ≡ m = omega (arith, x.0, x.1, length-take m a) in
    let back : length (take n b) ≡ n = omega (arith, y.0, y.1, length-take n b) in
    ap (λ (zs : List ℕ). order zs b) x.2 ∙ ap (order (take m a ++ replicate (64 - m) 0)) y.2
    ∙ padded (take m a) (take n b) (64 - m) (64 - n) (and_parts (is_between 1 64 (length (take m a))) (list_all is_name_byte (take m a)) x.3).1 (and_parts (is_between 1 64 (length (take n b))) (list_all is_name_byte (take n b)) y.3).1
    (omega (arith, x.1, y.1, front, back))
