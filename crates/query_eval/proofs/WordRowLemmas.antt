-- The rows of a word, as they are moved and marked.
use Rattle.std.proofs.Common.{◌≡◌, ℕ, zero, suc, ◌+◌, ◌-◌, ◌^◌, ◌<◌, ◌≤◌, List, [], ◌∷◌, length, Bool, true, false, Option, Some, None, refl, sym, ap, subst, ◌∙◌, inl, inr, max, min, arith}
use Rattle.std.specs.Prelude.{◌||◌, nat_eq, slice_index}
use Rattle.std.specs.Int.{bit_at}
use Rattle.std.specs.List.{All}
use Rattle.std.proofs.lemmas.Bool.{lt-ltb, le-ltb, cases_lt, cases_eq, ne_eqb, eq-eqb}
use Rattle.std.proofs.lemmas.List.Elements.{All-head, All-tail}
use Rattle.std.proofs.lemmas.Nat.Bits.{bit_at-zero, bit_at-lt}
use Rattle.std.proofs.lemmas.Option.{same_Some}
use Rattle.postings_plain.specs.Postings.{Hit, row_of, positions_in, above_hit, HitsFit, HitsFitFrom}
use Rattle.postings_plain.specs.Rows.{from_row, first_hit, after_first}
use Rattle.query_eval.specs.Phrases.{has_row, places_in}
use Rattle.query_eval.specs.Rows.{WordRow, rows_of_hits, RowsAscend, with_first, rows_from, first_row_of, has_row_at, times_at, TakesRow}
use Rattle.query_eval.specs.Windows.{bit_of, SetsBit, AddsAt, StaysFrom, IsBound, HasBound, HasMarked}

-- ---- the rows that are seen

-- of hits, the first of which was taken
pub rows_new : (hits behind : List Hit) (first : Option WordRow) → first ≡ first_hit hits → behind ≡ after_first hits → with_first first behind ≡ rows_of_hits hits
rows_new [] behind None f b = refl
rows_new [] behind (Some r) f b = absurd cc
rows_new (h ∷ hits) behind None f b = absurd cc
rows_new (h ∷ hits) behind (Some r) f b =
    ap (λ (x : WordRow). x ∷ rows_of_hits behind) (same_Some r (row_of h, length (positions_in h)) f)
    ∙ ap (λ (hs : List Hit). (row_of h, length (positions_in h)) ∷ rows_of_hits hs) b

rows_of_from : (row : ℕ) (hits : List Hit) → rows_of_hits (from_row row hits) ≡ rows_from row (rows_of_hits hits)
rows_of_from row [] = refl
rows_of_from row (h ∷ hits) = elim (cases_lt (row_of h) row) [
  | inl lt ↦ rw (lt-ltb (row_of h) row lt) (rows_of_from row hits)
  | inr ge ↦ rw (le-ltb (row_of h) row ge) refl
]

-- the first was below the row, so those behind it were moved
pub row_moved : (row : ℕ) (r : WordRow) (rows : List WordRow) (behind moved left : List Hit) (before first : Option WordRow) → with_first before behind ≡ rows → before ≡ Some r → r.0 < row → moved ≡ from_row row behind
    → first ≡ first_hit moved → left ≡ after_first moved → with_first first left ≡ rows_from row rows
row_moved row r rows behind moved left before first view is lt m f l =
    let was : rows ≡ r ∷ rows_of_hits behind = sym view ∙ ap (λ (o : Option WordRow). with_first o behind) is in
    let passed : rows_from row (r ∷ rows_of_hits behind) ≡ rows_from row (rows_of_hits behind) = rw (lt-ltb r.0 row lt) refl in
    rows_new moved left first f l ∙ ap rows_of_hits m ∙ rows_of_from row behind ∙ sym passed ∙ ap (rows_from row) (sym was)

rows_from_ascend : (row : ℕ) (rows : List WordRow) → RowsAscend rows → RowsAscend (rows_from row rows)
rows_from_ascend row [] up = tt
rows_from_ascend row (r ∷ rows) up = elim (cases_lt r.0 row) [
  | inl lt ↦ rw (lt-ltb r.0 row lt) (rows_from_ascend row rows up.1)
  | inr ge ↦ rw (le-ltb r.0 row ge) up
]

all_above : (row : ℕ) (r : WordRow) (rows : List WordRow) → row ≤ r.0 → RowsAscend (r ∷ rows) → All (λ s. row ≤ s.0) (r ∷ rows)
all_above row r rows le up zero d lt = le
all_above row r rows le up (suc i) d lt = let more = up.0 i d (omega (arith, lt)) in omega (arith, le, more)

-- all that are left are at or above the row
pub left_above : (row : ℕ) (rows left : List WordRow) → left ≡ rows_from row rows → RowsAscend left → All (λ s. row ≤ s.0) left
left_above row [] left e up = subst (All (λ (s : WordRow). row ≤ s.0)) (sym e) (λ i d lt. absurd (omega (arith, lt)))
left_above row (r ∷ rows) left e up = elim (cases_lt r.0 row) [
  | inl lt ↦ let passed : rows_from row (r ∷ rows) ≡ rows_from row rows = rw (lt-ltb r.0 row lt) refl in left_above row rows left (e ∙ passed) up
  | inr ge ↦
      let stays : rows_from row (r ∷ rows) ≡ r ∷ rows = rw (le-ltb r.0 row ge) refl in
      subst (All (λ (s : WordRow). row ≤ s.0)) (sym (e ∙ stays)) (all_above row r rows ge (subst RowsAscend (e ∙ stays) up))
]

-- those that are left ascend
pub moved_ascend : (row : ℕ) (rows left : List WordRow) → left ≡ rows_from row rows → RowsAscend rows → RowsAscend left
moved_ascend row rows left e up = subst RowsAscend (sym e) (rows_from_ascend row rows up)

from_first : (k : ℕ) (hits : List Hit) → HitsFitFrom 1 k hits → All (λ s. k ≤ s.0) (rows_of_hits hits)
from_first k [] fit i d lt = absurd (omega (arith, lt))
from_first k (h ∷ hits) fit zero d lt = fit.0.0.0
from_first k (h ∷ hits) fit (suc i) d lt = let least = fit.0.0.0 in let up = from_first (above_hit h) hits fit.1 i d (omega (arith, lt)) in omega (arith, least, up)

ascend_from : (k : ℕ) (hits : List Hit) → HitsFitFrom 1 k hits → RowsAscend (rows_of_hits hits)
ascend_from k [] fit = tt
ascend_from k (h ∷ hits) fit = (λ i d lt. let up = from_first (above_hit h) hits fit.1 i d lt in omega (arith, up), ascend_from (above_hit h) hits fit.1)

-- the rows of a word's entry ascend
pub rows_ascend : (hits : List Hit) → HitsFit 1 hits → RowsAscend (rows_of_hits hits)
rows_ascend hits fit = ascend_from 0 hits fit.1

-- ---- what is asked of them

pub same_rows_at : (hits : List Hit) (x : ℕ) → has_row_at (rows_of_hits hits) x ≡ has_row hits x
same_rows_at [] x = refl
same_rows_at (h ∷ hits) x = ap (λ (b : Bool). nat_eq (row_of h) x || b) (same_rows_at hits x)

pub same_times_at : (hits : List Hit) (x : ℕ) → times_at (rows_of_hits hits) x ≡ length (places_in x hits)
same_times_at [] x = refl
same_times_at (h ∷ hits) x = by_test (nat_eq (row_of h) x) refl (same_times_at hits x)
  where
    by_test : (b : Bool) → nat_eq (row_of h) x ≡ b → times_at (rows_of_hits hits) x ≡ length (places_in x hits) → times_at (rows_of_hits (h ∷ hits)) x ≡ length (places_in x (h ∷ hits))
    by_test true e rest = rw e refl
    by_test false e rest = rw e rest

-- a row that none of them is
pub record IsNone (rows : List WordRow) (x : ℕ) : Type 0 where
  pub lacks : has_row_at rows x ≡ false
  pub times : times_at rows x ≡ 0

is_none : (x : ℕ) (rows : List WordRow) → All (λ s. s.0 ≡ x → ⊥) rows → IsNone rows x
is_none x [] apart = record { lacks = refl; times = refl }
is_none x (r ∷ rows) apart =
    let here : nat_eq r.0 x ≡ false = ne_eqb r.0 x (All-head (λ (s : WordRow). s.0 ≡ x → ⊥) r rows apart) in
    let rest = is_none x rows (All-tail (λ (s : WordRow). s.0 ≡ x → ⊥) r rows apart) in
    record { lacks = rw here rest.lacks; times = rw here rest.times }

pub none_at : (x least : ℕ) (rows : List WordRow) → x < least → All (λ s. least ≤ s.0) rows → IsNone rows x
none_at x least rows lt above = is_none x rows (λ i d le e. let up = above i d le in omega (arith, up, e, lt))

other_at : (r : WordRow) (rows : List WordRow) (x : ℕ) → (r.0 ≡ x → ⊥) → (has_row_at (r ∷ rows) x ≡ has_row_at rows x) × (times_at (r ∷ rows) x ≡ times_at rows x)
other_at r rows x apart = (rw (ne_eqb r.0 x apart) refl, rw (ne_eqb r.0 x apart) refl)

here_at : (r : WordRow) (rows : List WordRow) (x : ℕ) → r.0 ≡ x → (has_row_at (r ∷ rows) x ≡ true) × (times_at (r ∷ rows) x ≡ r.1)
here_at r rows x same = (rw (eq-eqb r.0 x same) refl, rw (eq-eqb r.0 x same) refl)

-- from a row on, those that are left are asked as all are
pub rows_stay_at : (row x : ℕ) (rows : List WordRow) → row ≤ x → has_row_at (rows_from row rows) x ≡ has_row_at rows x
rows_stay_at row x [] le = refl
rows_stay_at row x (r ∷ rows) le = elim (cases_lt r.0 row) [
  | inl lt ↦ rw (lt-ltb r.0 row lt) (rows_stay_at row x rows le ∙ sym (other_at r rows x (λ e. omega (arith, e, lt, le))).0)
  | inr ge ↦ rw (le-ltb r.0 row ge) refl
]

pub times_stay_at : (row x : ℕ) (rows : List WordRow) → row ≤ x → times_at (rows_from row rows) x ≡ times_at rows x
times_stay_at row x [] le = refl
times_stay_at row x (r ∷ rows) le = elim (cases_lt r.0 row) [
  | inl lt ↦ rw (lt-ltb r.0 row lt) (times_stay_at row x rows le ∙ sym (other_at r rows x (λ e. omega (arith, e, lt, le))).1)
  | inr ge ↦ rw (le-ltb r.0 row ge) refl
]

-- the rows from a row on are none below the first of them
rows_bound : (row : ℕ) (rows left : List WordRow) (bound : Option ℕ) → left ≡ rows_from row rows → bound ≡ first_row_of left → All (λ s. row ≤ s.0) left → RowsAscend left → IsBound (has_row_at rows) row bound
rows_bound row rows [] None e b above up = λ x le. sym (rows_stay_at row x rows le) ∙ ap (λ (rs : List WordRow). has_row_at rs x) (sym e)
rows_bound row rows [] (Some bound) e b above up = absurd cc
rows_bound row rows (r ∷ left) None e b above up = absurd cc
rows_bound row rows (r ∷ left) (Some bound) e b above up =
    let at : bound ≡ r.0 = same_Some bound r.0 b in
    let from : row ≤ r.0 = All-head (λ (s : WordRow). row ≤ s.0) r left above in (
      omega (arith, at, from),
      λ x le lt. sym (rows_stay_at row x rows le) ∙ ap (λ (rs : List WordRow). has_row_at rs x) (sym e)
          ∙ (none_at x r.0 (r ∷ left) (omega (arith, at, lt)) (all_above r.0 r left (omega arith) up)).lacks,
    )

-- ---- a window

-- the rows that are left and the marks are together the rows at first, from the start on
pub record IsMarkingWord (start : ℕ) (first left : List WordRow) (old now : List ℕ) (marks : ℕ) : Type 0 where
  pub from : All (λ s. start ≤ s.0) left
  pub len : length now ≡ length old
  pub rows : (i : ℕ) → i < 64 → max (bit_at marks i) (bit_of (has_row_at left (start + i))) ≡ bit_of (has_row_at first (start + i))
  pub times : (i : ℕ) → i < 64 → min (slice_index now i + times_at left (start + i)) (2 ^ 32 - 1) ≡ min (slice_index old i + times_at first (start + i)) (2 ^ 32 - 1)
  pub rows_stay : StaysFrom (start + 64) (has_row_at first) (has_row_at left)
  pub times_stay : StaysFrom (start + 64) (times_at first) (times_at left)

bit_low : (b : Bool) → bit_of b ≤ 1
bit_low true = omega arith
bit_low false = omega arith

pub marking_start : (start : ℕ) (first left : List WordRow) (times : List ℕ) → left ≡ rows_from start first → All (λ s. start ≤ s.0) left → IsMarkingWord start first left times times 0
marking_start start first left times e above = record {
  from = above;
  len = refl;
  rows = λ i lt.
      let none : bit_at 0 i ≡ 0 = bit_at-zero i in
      let same : bit_of (has_row_at left (start + i)) ≡ bit_of (has_row_at first (start + i)) = ap bit_of (ap (λ (rs : List WordRow). has_row_at rs (start + i)) e ∙ rows_stay_at start (start + i) first (omega arith)) in
      omega (arith, none, same);
  times = λ i lt.
      let same : times_at left (start + i) ≡ times_at first (start + i) = ap (λ (rs : List WordRow). times_at rs (start + i)) e ∙ times_stay_at start (start + i) first (omega arith) in
      omega (arith, same);
  rows_stay = λ x le. ap (λ (rs : List WordRow). has_row_at rs x) e ∙ rows_stay_at start x first (omega (arith, le));
  times_stay = λ x le. ap (λ (rs : List WordRow). times_at rs x) e ∙ times_stay_at start x first (omega (arith, le));
}

-- the row that is taken is one of the window
pub taken_place : (start : ℕ) (first left next : List WordRow) (old now : List ℕ) (marks : ℕ) (r : WordRow) → IsMarkingWord start first left old now marks → TakesRow r (start + 64) left next → (start ≤ r.0) × (r.0 < start + 64)
taken_place start first left next old now marks r k t =
    (All-head (λ (s : WordRow). start ≤ s.0) r next (subst (All (λ (s : WordRow). start ≤ s.0)) t.first k.from), t.below)

step_rows : (start place : ℕ) (first next : List WordRow) (marks after i : ℕ) (r : WordRow) → place ≡ r.0 - start → start ≤ r.0 → SetsBit place marks after
    → max (bit_at marks i) (bit_of (has_row_at (r ∷ next) (start + i))) ≡ bit_of (has_row_at first (start + i))
    → max (bit_at after i) (bit_of (has_row_at next (start + i))) ≡ bit_of (has_row_at first (start + i))
step_rows start place first next marks after i r at le set was = elim (cases_eq i place) [
  | inl same ↦
      let here : bit_of (has_row_at (r ∷ next) (start + i)) ≡ 1 = ap bit_of (here_at r next (start + i) (omega (arith, same, at, le))).0 in
      let one : bit_at after i ≡ 1 = ap (bit_at after) same ∙ set.here in
      let low = bit_at-lt marks i in
      let few = bit_low (has_row_at next (start + i)) in
      omega (arith, was, here, one, low, few)
  | inr apart ↦
      let bit : bit_at after i ≡ bit_at marks i = set.others i apart in
      let row : bit_of (has_row_at (r ∷ next) (start + i)) ≡ bit_of (has_row_at next (start + i)) = ap bit_of (other_at r next (start + i) (λ e. apart (omega (arith, e, at, le)))).0 in
      omega (arith, was, bit, row)
]

step_times : (start place : ℕ) (first next : List WordRow) (old now grown : List ℕ) (i : ℕ) (r : WordRow) → place ≡ r.0 - start → start ≤ r.0 → All (λ s. r.0 < s.0) next → AddsAt place r.1 now grown
    → min (slice_index now i + times_at (r ∷ next) (start + i)) (2 ^ 32 - 1) ≡ min (slice_index old i + times_at first (start + i)) (2 ^ 32 - 1)
    → min (slice_index grown i + times_at next (start + i)) (2 ^ 32 - 1) ≡ min (slice_index old i + times_at first (start + i)) (2 ^ 32 - 1)
step_times start place first next old now grown i r at le above adds was = elim (cases_eq i place) [
  | inl same ↦
      let here : times_at (r ∷ next) (start + i) ≡ r.1 = (here_at r next (start + i) (omega (arith, same, at, le))).1 in
      let more : slice_index grown i ≡ min (slice_index now i + r.1) (2 ^ 32 - 1) = ap (slice_index grown) same ∙ adds.here ∙ ap (λ (j : ℕ). min (slice_index now j + r.1) (2 ^ 32 - 1)) (sym same) in
      let none : times_at next (start + i) ≡ 0 = (none_at (start + i) (r.0 + 1) next (omega (arith, same, at, le)) (λ j d lt. let up = above j d lt in omega (arith, up))).times in
      omega (arith, was, here, more, none)
  | inr apart ↦
      let number : slice_index grown i ≡ slice_index now i = adds.others i apart in
      let row : times_at (r ∷ next) (start + i) ≡ times_at next (start + i) = (other_at r next (start + i) (λ e. apart (omega (arith, e, at, le)))).1 in
      omega (arith, was, number, row)
]

pub marking_step : (start place : ℕ) (first left next : List WordRow) (old now grown : List ℕ) (marks after : ℕ) (r : WordRow) → IsMarkingWord start first left old now marks → TakesRow r (start + 64) left next
    → place ≡ r.0 - start → SetsBit place marks after → AddsAt place r.1 now grown → IsMarkingWord start first next old grown after
marking_step start place first left next old now grown marks after r k t at set adds =
    let within = taken_place start first left next old now marks r k t in
    let below : r.0 < start + 64 = within.1 in
    record {
      from = All-tail (λ (s : WordRow). start ≤ s.0) r next (subst (All (λ (s : WordRow). start ≤ s.0)) t.first k.from);
      len = adds.len ∙ k.len;
      rows = λ i lt. step_rows start place first next marks after i r at within.0 set
          (subst (λ (rs : List WordRow). max (bit_at marks i) (bit_of (has_row_at rs (start + i))) ≡ bit_of (has_row_at first (start + i))) t.first (k.rows i lt));
      times = λ i lt. step_times start place first next old now grown i r at within.0 t.above adds
          (subst (λ (rs : List WordRow). min (slice_index now i + times_at rs (start + i)) (2 ^ 32 - 1) ≡ min (slice_index old i + times_at first (start + i)) (2 ^ 32 - 1)) t.first (k.times i lt));
      rows_stay = λ x le. sym (other_at r next x (λ e. omega (arith, e, below, le))).0 ∙ ap (λ (rs : List WordRow). has_row_at rs x) (sym t.first) ∙ k.rows_stay x le;
      times_stay = λ x le. sym (other_at r next x (λ e. omega (arith, e, below, le))).1 ∙ ap (λ (rs : List WordRow). times_at rs x) (sym t.first) ∙ k.times_stay x le;
    }

-- no row of the window is left
pub marking_end : (start : ℕ) (first left next : List WordRow) (old now : List ℕ) (marks : ℕ) → IsMarkingWord start first left old now marks → All (λ s. start + 64 ≤ s.0) left → next ≡ left
    → HasMarked (has_row_at first) (has_row_at next) (times_at first) (times_at next) start marks old now
marking_end start first left next old now marks k beyond same = record {
  rows = λ i lt fits.
      let none : bit_of (has_row_at left (start + i)) ≡ 0 = ap bit_of (none_at (start + i) (start + 64) left (omega (arith, lt)) beyond).lacks in
      let was = k.rows i lt in
      omega (arith, none, was);
  times = record {
    len = k.len;
    each = λ i lt fits.
        let none : times_at left (start + i) ≡ 0 = (none_at (start + i) (start + 64) left (omega (arith, lt)) beyond).times in
        let was = k.times i lt in
        omega (arith, none, was);
  };
  rows_stay = λ x le. ap (λ (rs : List WordRow). has_row_at rs x) same ∙ k.rows_stay x le;
  times_stay = λ x le. ap (λ (rs : List WordRow). times_at rs x) same ∙ k.times_stay x le;
}

-- what moving the rows to a row finds
pub word_bound : (row : ℕ) (rows left : List WordRow) (bound : Option ℕ) → left ≡ rows_from row rows → bound ≡ first_row_of left → All (λ s. row ≤ s.0) left → RowsAscend left
    → HasBound (has_row_at rows) (has_row_at left) (times_at rows) (times_at left) row bound
word_bound row rows left bound e b above up = record {
  bound = rows_bound row rows left bound e b above up;
  rows_stay = λ x le. ap (λ (rs : List WordRow). has_row_at rs x) e ∙ rows_stay_at row x rows le;
  times_stay = λ x le. ap (λ (rs : List WordRow). times_at rs x) e ∙ times_stay_at row x rows le;
}
