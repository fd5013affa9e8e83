-- What cursors mark in a window, put together of what their parts mark.
use Rattle.std.proofs.Common.{◌≡◌, ℕ, ◌+◌, ◌-◌, ◌/◌, ◌%◌, ◌^◌, ◌<◌, ◌≤◌, List, Bool, true, false, Option, Some, None, refl, sym, ap, subst, ◌∙◌, inl, inr, max, min, arith}
use Rattle.std.specs.Prelude.{◌&&◌, ◌||◌, not, bit_and, bit_or}
use Rattle.std.specs.Int.{bit_at, bit_not, trailing_zeros, w64}
use Rattle.std.proofs.lemmas.Bool.{cases_lt, and_left, and_right}
use Rattle.std.proofs.lemmas.Nat.Bits.{bit_at_and, bit_at_or, bit_at_not, bit_at_ones, bit_at_ones_above, bit_at_above, bit_at-zero, bit_at-trailing_zeros, ones_shr}
use Rattle.std.proofs.lemmas.Nat.{shr-shr, shr_le}
use Rattle.query_eval.specs.Windows.{bit_of, IsMarked, AddsTimes, StaysFrom, IsBound, IsWindowStart, HasBound, HasMarked, AreFirstBits, both, either, others, sum_of, least_row, greater_row}

-- ---- marks

and_bits : (x y : Bool) → min (bit_of x) (bit_of y) ≡ bit_of (x && y)
and_bits true true = refl
and_bits true false = refl
and_bits false true = refl
and_bits false false = refl

or_bits : (x y : Bool) → max (bit_of x) (bit_of y) ≡ bit_of (x || y)
or_bits true true = refl
or_bits true false = refl
or_bits false true = refl
or_bits false false = refl

not_bit : (x : Bool) → 1 - bit_of x ≡ bit_of (not x)
not_bit true = refl
not_bit false = refl

marked_both : (p q : ℕ → Bool) (start a b : ℕ) → IsMarked p start a → IsMarked q start b → IsMarked (both p q) start (bit_and a b)
marked_both p q start a b m n i lt fits =
    bit_at_and a b i ∙ ap (λ (x : ℕ). min x (bit_at b i)) (m i lt fits) ∙ ap (min (bit_of (p (start + i)))) (n i lt fits) ∙ and_bits (p (start + i)) (q (start + i))

marked_either : (p q : ℕ → Bool) (start a b : ℕ) → IsMarked p start a → IsMarked q start b → IsMarked (either p q) start (bit_or a b)
marked_either p q start a b m n i lt fits =
    bit_at_or a b i ∙ ap (λ (x : ℕ). max x (bit_at b i)) (m i lt fits) ∙ ap (max (bit_of (p (start + i)))) (n i lt fits) ∙ or_bits (p (start + i)) (q (start + i))

pub marked_others : (p : ℕ → Bool) (start a : ℕ) → a < 2 ^ 64 → IsMarked p start a → IsMarked (others p) start (bit_not w64 a)
marked_others p start a wide m i lt fits = bit_at_not w64 a i wide lt ∙ ap (λ (x : ℕ). 1 - x) (m i lt fits) ∙ not_bit (p (start + i))

marked_none : (start : ℕ) → IsMarked (λ x. false) start 0
marked_none start i lt fits = bit_at-zero i

pub marked_every : (start : ℕ) → IsMarked (λ x. true) start (2 ^ 64 - 1)
marked_every start i lt fits = bit_at_ones 64 i lt

-- ---- times

adds_none : (start : ℕ) (times : List ℕ) → AddsTimes (λ x. 0) start times times
adds_none start times = record { len = refl; each = λ i lt fits. omega arith }

adds_both : (p q : ℕ → ℕ) (start : ℕ) (old mid new : List ℕ) → AddsTimes p start old mid → AddsTimes q start mid new → AddsTimes (sum_of p q) start old new
adds_both p q start old mid new m n = record {
  len = n.len ∙ m.len;
  each = λ i lt fits. let a = m.each i lt fits in let b = n.each i lt fits in omega (arith, a, b);
}

-- ---- what stays

stay_both : (row : ℕ) (p q p' q' : ℕ → Bool) → StaysFrom row p p' → StaysFrom row q q' → StaysFrom row (both p q) (both p' q')
stay_both row p q p' q' m n x le = ap (λ (b : Bool). b && q' x) (m x le) ∙ ap (λ (b : Bool). p x && b) (n x le)

stay_either : (row : ℕ) (p q p' q' : ℕ → Bool) → StaysFrom row p p' → StaysFrom row q q' → StaysFrom row (either p q) (either p' q')
stay_either row p q p' q' m n x le = ap (λ (b : Bool). b || q' x) (m x le) ∙ ap (λ (b : Bool). p x || b) (n x le)

pub stay_others : (row : ℕ) (p p' : ℕ → Bool) → StaysFrom row p p' → StaysFrom row (others p) (others p')
stay_others row p p' m x le = ap not (m x le)

stay_sum : (row : ℕ) (p q p' q' : ℕ → ℕ) → StaysFrom row p p' → StaysFrom row q q' → StaysFrom row (sum_of p q) (sum_of p' q')
stay_sum row p q p' q' m n x le = let a = m x le in let b = n x le in omega (arith, a, b)

-- ---- bounds

bound_both : (p q : ℕ → Bool) (row : ℕ) (a b : Option ℕ) → IsBound p row a → IsBound q row b → IsBound (both p q) row (greater_row a b)
bound_both p q row None b m n = λ x le. and_left (p x) (q x) (m x le)
bound_both p q row (Some a) None m n = λ x le. and_right (p x) (q x) (n x le)
bound_both p q row (Some a) (Some b) m n =
    let from = m.0 in (
      omega (arith, from),
      λ x le lt. elim (cases_lt x a) [
        | inl below ↦ and_left (p x) (q x) (m.1 x le below)
        | inr beyond ↦ and_right (p x) (q x) (n.1 x le (omega (arith, lt, beyond)))
      ],
    )

neither : (x y : Bool) → x ≡ false → y ≡ false → (x || y) ≡ false
neither x y e f = rw (e, f) refl

bound_either : (p q : ℕ → Bool) (row : ℕ) (a b : Option ℕ) → IsBound p row a → IsBound q row b → IsBound (either p q) row (least_row a b)
bound_either p q row None None m n = λ x le. neither (p x) (q x) (m x le) (n x le)
bound_either p q row None (Some b) m n = (n.0, λ x le lt. neither (p x) (q x) (m x le) (n.1 x le lt))
bound_either p q row (Some a) None m n = (m.0, λ x le lt. neither (p x) (q x) (m.1 x le lt) (n x le))
bound_either p q row (Some a) (Some b) m n =
    let first = m.0 in
    let second = n.0 in (
      omega (arith, first, second),
      λ x le lt. neither (p x) (q x) (m.1 x le (omega (arith, lt))) (n.1 x le (omega (arith, lt))),
    )

-- ---- both and either

pub has_both : (p p' q q' : ℕ → Bool) (r r' t t' : ℕ → ℕ) (start a b : ℕ) (old mid new : List ℕ) → HasMarked p p' r r' start a old mid → HasMarked q q' t t' start b mid new
    → HasMarked (both p q) (both p' q') (sum_of r t) (sum_of r' t') start (bit_and a b) old new
has_both p p' q q' r r' t t' start a b old mid new m n = record {
  rows = marked_both p q start a b m.rows n.rows;
  times = adds_both r t start old mid new m.times n.times;
  rows_stay = stay_both (start + 64) p q p' q' m.rows_stay n.rows_stay;
  times_stay = stay_sum (start + 64) r t r' t' m.times_stay n.times_stay;
}

pub has_either : (p p' q q' : ℕ → Bool) (r r' t t' : ℕ → ℕ) (start a b : ℕ) (old mid new : List ℕ) → HasMarked p p' r r' start a old mid → HasMarked q q' t t' start b mid new
    → HasMarked (either p q) (either p' q') (sum_of r t) (sum_of r' t') start (bit_or a b) old new
has_either p p' q q' r r' t t' start a b old mid new m n = record {
  rows = marked_either p q start a b m.rows n.rows;
  times = adds_both r t start old mid new m.times n.times;
  rows_stay = stay_either (start + 64) p q p' q' m.rows_stay n.rows_stay;
  times_stay = stay_sum (start + 64) r t r' t' m.times_stay n.times_stay;
}

-- nothing is counted
pub has_rest : (p p' : ℕ → Bool) (start marks : ℕ) (times : List ℕ) → IsMarked p start marks → StaysFrom (start + 64) p p' → HasMarked p p' (λ x. 0) (λ x. 0) start marks times times
has_rest p p' start marks times m stays = record { rows = m; times = adds_none start times; rows_stay = stays; times_stay = λ x le. refl }

pub bounds_both : (p p' q q' : ℕ → Bool) (r r' t t' : ℕ → ℕ) (row : ℕ) (a b bound : Option ℕ) → HasBound p p' r r' row a → HasBound q q' t t' row b → bound ≡ greater_row a b
    → HasBound (both p q) (both p' q') (sum_of r t) (sum_of r' t') row bound
bounds_both p p' q q' r r' t t' row a b bound m n e = record {
  bound = subst (IsBound (both p q) row) (sym e) (bound_both p q row a b m.bound n.bound);
  rows_stay = stay_both row p q p' q' m.rows_stay n.rows_stay;
  times_stay = stay_sum row r t r' t' m.times_stay n.times_stay;
}

pub bounds_either : (p p' q q' : ℕ → Bool) (r r' t t' : ℕ → ℕ) (row : ℕ) (a b bound : Option ℕ) → HasBound p p' r r' row a → HasBound q q' t t' row b → bound ≡ least_row a b
    → HasBound (either p q) (either p' q') (sum_of r t) (sum_of r' t') row bound
bounds_either p p' q q' r r' t t' row a b bound m n e = record {
  bound = subst (IsBound (either p q) row) (sym e) (bound_either p q row a b m.bound n.bound);
  rows_stay = stay_either row p q p' q' m.rows_stay n.rows_stay;
  times_stay = stay_sum row r t r' t' m.times_stay n.times_stay;
}

-- a row may be one that is answered
pub bound_here : (p : ℕ → Bool) (r : ℕ → ℕ) (row : ℕ) → HasBound p p r r row (Some row)
bound_here p r row = record { bound = (omega arith, λ x le lt. absurd (omega (arith, le, lt))); rows_stay = λ x le. refl; times_stay = λ x le. refl }

-- ---- the first row that may be answered

-- no row from the start on and below the least is answered, and those from the least on stay
pub record IsSeeking (answered after : ℕ → Bool) (ranks moved : ℕ → ℕ) (row least : ℕ) : Type 0 where
  pub from : row ≤ least
  pub between : (x : ℕ) → row ≤ x → x < least → answered x ≡ false
  pub stays : StaysFrom least answered after
  pub ranks_stay : StaysFrom least ranks moved

pub seeking_start : (answered : ℕ → Bool) (ranks : ℕ → ℕ) (row : ℕ) → IsSeeking answered answered ranks ranks row row
seeking_start answered ranks row = record { from = omega arith; between = λ x le lt. absurd (omega (arith, le, lt)); stays = λ x le. refl; ranks_stay = λ x le. refl }

pub seeking_more : (answered after next : ℕ → Bool) (ranks moved later : ℕ → ℕ) (row least bound : ℕ) → IsSeeking answered after ranks moved row least → HasBound after next moved later least (Some bound)
    → IsSeeking answered next ranks later row bound
seeking_more answered after next ranks moved later row least bound k b =
    let up = b.bound.0 in
    let from = k.from in
    record {
      from = omega (arith, up, from);
      between = λ x le lt. elim (cases_lt x least) [
        | inl below ↦ k.between x le below
        | inr beyond ↦ sym (k.stays x beyond) ∙ b.bound.1 x beyond lt
      ];
      stays = λ x le. b.rows_stay x (omega (arith, up, le)) ∙ k.stays x (omega (arith, up, le));
      ranks_stay = λ x le. b.times_stay x (omega (arith, up, le)) ∙ k.ranks_stay x (omega (arith, up, le));
    }

pub seeking_found : (answered after : ℕ → Bool) (ranks moved : ℕ → ℕ) (row rows least : ℕ) → IsSeeking answered after ranks moved row least → least < rows → IsWindowStart answered row rows least
seeking_found answered after ranks moved row rows least k lt = record { from = k.from; below = lt; between = k.between }

pub seeking_none : (answered after : ℕ → Bool) (ranks moved : ℕ → ℕ) (row rows least : ℕ) → IsSeeking answered after ranks moved row least → IsBound after least None
    → (x : ℕ) → row ≤ x → x < rows → answered x ≡ false
seeking_none answered after ranks moved row rows least k b x le lt = elim (cases_lt x least) [
  | inl below ↦ k.between x le below
  | inr beyond ↦ sym (k.stays x beyond) ∙ b x beyond
]

pub seeking_past : (answered after : ℕ → Bool) (ranks moved : ℕ → ℕ) (row rows least : ℕ) → IsSeeking answered after ranks moved row least → rows ≤ least
    → (x : ℕ) → row ≤ x → x < rows → answered x ≡ false
seeking_past answered after ranks moved row rows least k past x le lt = k.between x le (omega (arith, lt, past))

-- ---- the lowest bits

pub first_ones : (count least shift bits : ℕ) → least ≡ min count 64 → shift ≡ 64 - least → bits ≡ (2 ^ 64 - 1) / 2 ^ shift → AreFirstBits count bits
first_ones count least shift bits few back is =
    let up : 64 - shift ≡ least = omega (arith, few, back) in
    let ones : bits ≡ 2 ^ least - 1 = is ∙ ones_shr 64 shift (omega (arith, back)) ∙ ap (λ (n : ℕ). 2 ^ n - 1) up in
    record {
      set = λ i lt below. ap (λ (n : ℕ). bit_at n i) ones ∙ bit_at_ones least i (omega (arith, few, lt, below));
      clear = λ i lt beyond. ap (λ (n : ℕ). bit_at n i) ones ∙ bit_at_ones_above least i (omega (arith, few, beyond));
    }

-- ---- the bits from a place on

bit_behind : (marks place left j : ℕ) → left ≡ marks / 2 ^ place → bit_at left j ≡ bit_at marks (place + j)
bit_behind marks place left j e = ap (λ (n : ℕ). bit_at n j) e ∙ ap (λ (n : ℕ). n % 2) (shr-shr marks place j)

-- none is set
pub none_left : (marks place left : ℕ) → left ≡ marks / 2 ^ place → left ≡ 0 → (i : ℕ) → place ≤ i → bit_at marks i ≡ 0
none_left marks place left e none i le =
    let at : place + (i - place) ≡ i = omega (arith, le) in
    sym (ap (bit_at marks) at) ∙ sym (bit_behind marks place left (i - place) e) ∙ ap (λ (n : ℕ). bit_at n (i - place)) none ∙ bit_at-zero (i - place)

-- the first that is set
pub record IsFirstBit (marks place found : ℕ) : Type 0 where
  pub within : found < 64
  pub from : place ≤ found
  pub set : bit_at marks found ≡ 1
  pub clear : (i : ℕ) → place ≤ i → i < found → bit_at marks i ≡ 0

pub first_bit : (marks place : ℕ) → marks < 2 ^ 64 → (marks / 2 ^ place ≡ 0 → ⊥) → IsFirstBit marks place (place + trailing_zeros w64 (marks / 2 ^ place))
first_bit marks place wide some =
    let left : ℕ = marks / 2 ^ place in
    let low = shr_le marks place in
    let t = bit_at-trailing_zeros w64 left (omega (arith, some)) (omega (arith, low, wide)) in
    let here : bit_at marks (place + trailing_zeros w64 left) ≡ 1 = sym (bit_behind marks place left (trailing_zeros w64 left) refl) ∙ t.1 in
    record {
      within = elim (cases_lt (place + trailing_zeros w64 left) 64) [
        | inl lt ↦ lt
        | inr far ↦ absurd (let none = bit_at_above marks 64 (place + trailing_zeros w64 left) wide far in omega (arith, here, none))
      ];
      from = omega arith;
      set = here;
      clear = λ i le lt.
          let at : place + (i - place) ≡ i = omega (arith, le) in
          sym (ap (bit_at marks) at) ∙ sym (bit_behind marks place left (i - place) refl) ∙ t.2 (i - place) (omega (arith, le, lt));
    }
