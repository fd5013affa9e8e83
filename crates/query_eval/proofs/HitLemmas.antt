-- The rows of hits before and after they are moved.
use Rattle.std.proofs.Common.{◌≡◌, ℕ, ◌<◌, ◌≤◌, List, [], ◌∷◌, get_or, Bool, true, false, refl, inl, inr, arith}
use Rattle.std.specs.Prelude.{nat_eq}
use Rattle.std.specs.List.{All}
use Rattle.std.proofs.lemmas.Bool.{lt-ltb, le-ltb, cases_lt, ne_eqb, eq-eqb, or_parts}
use Rattle.std.proofs.lemmas.List.Folds.{list_any_none, list_any-from_Any}
use Rattle.postings_plain.specs.Postings.{Hit, row_of}
use Rattle.postings_plain.specs.Rows.{from_row, IsLeastFrom}
use Rattle.query_eval.specs.Phrases.{has_row, places_in, IsMoved}

-- the least row at or above this one that is answered
abbrev pub IsFirstAt : (ℕ → Bool) → (row at : ℕ) → Type 0
IsFirstAt answered row at = (row ≤ at) × (answered at ≡ true) × ((x : ℕ) → row ≤ x → x < at → answered x ≡ false)

other_row : (h : Hit) (x row : ℕ) → row_of h < row → row ≤ x → nat_eq (row_of h) x ≡ false
other_row h x row lt le = ne_eqb (row_of h) x (λ e. omega (arith, e, lt, le))

-- from a row on, the hits that are left have the rows that all have
pub rows_stay : (row x : ℕ) (hits : List Hit) → row ≤ x → has_row (from_row row hits) x ≡ has_row hits x
rows_stay row x [] le = refl
rows_stay row x (h ∷ hits) le = elim (cases_lt (row_of h) row) [
  | inl lt ↦ rw (lt-ltb (row_of h) row lt, other_row h x row lt le) (rows_stay row x hits le)
  | inr ge ↦ rw (le-ltb (row_of h) row ge) refl
]

pub places_stay : (row x : ℕ) (hits : List Hit) → row ≤ x → places_in x (from_row row hits) ≡ places_in x hits
places_stay row x [] le = refl
places_stay row x (h ∷ hits) le = elim (cases_lt (row_of h) row) [
  | inl lt ↦ rw (lt-ltb (row_of h) row lt, other_row h x row lt le) (places_stay row x hits le)
  | inr ge ↦ rw (le-ltb (row_of h) row ge) refl
]

pub rows_fewer : (row x : ℕ) (hits : List Hit) → has_row hits x ≡ false → has_row (from_row row hits) x ≡ false
rows_fewer row x [] e = refl
rows_fewer row x (h ∷ hits) e = elim (cases_lt (row_of h) row) [
  | inl lt ↦ rw (lt-ltb (row_of h) row lt) (rows_fewer row x hits (or_parts (nat_eq (row_of h) x) (has_row hits x) e).1)
  | inr ge ↦ rw (le-ltb (row_of h) row ge) e
]

pub is_moved : (row : ℕ) (hits : List Hit) → IsMoved row hits (from_row row hits)
is_moved row hits = record {
  rows = λ x le. rows_stay row x hits le;
  places = λ x le. places_stay row x hits le;
  fewer = λ x e. rows_fewer row x hits e;
}

pub not_there : (x : ℕ) (hits : List Hit) → All (λ h. row_of h ≡ x → ⊥) hits → has_row hits x ≡ false
not_there x hits none = list_any_none (λ h. nat_eq (row_of h) x) hits (λ k d lt. ne_eqb (row_of (get_or hits k d)) x (none k d lt))

pub word_none : (row : ℕ) (hits : List Hit) → All (λ h. row_of h < row) hits → (x : ℕ) → row ≤ x → has_row hits x ≡ false
word_none row hits below x le = not_there x hits (λ k d lt e. let b = below k d lt in omega (arith, b, e, le))

pub word_found : (row found : ℕ) (hits : List Hit) → IsLeastFrom row hits found → IsFirstAt (has_row hits) row found
word_found row found hits is = (
  is.from,
  list_any-from_Any (λ h. nat_eq (row_of h) found) hits (is.there.0, is.there.1, is.there.2, is.there.3, eq-eqb (row_of is.there.1) found is.there.4),
  λ x le lt. not_there x hits (λ k d lt' e. let b = is.least k d lt' (omega (arith, e, le)) in omega (arith, b, e, lt)),
)
