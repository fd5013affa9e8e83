-- How a pass moves the words of a phrase, one after the other.
use Rattle.std.proofs.Common.{◌≡◌, ℕ, zero, suc, ◌+◌, ◌<◌, ◌≤◌, List, [], ◌∷◌, length, map, take, drop, get_or, set, Bool, true, false, Some, None, refl, sym, ap, subst, ◌∙◌, inl, inr, arith, drop-cons}
use Rattle.std.specs.List.{All}
use Rattle.std.proofs.lemmas.Bool.{cases_lt, eq-eqb, and_left, and_right, and_from, and_parts}
use Rattle.std.proofs.lemmas.Option.{same_Some}
use Rattle.nrt_base.proofs.Plain.{cons_from, cons_parts, cons_first}
use Rattle.postings_plain.specs.Postings.{Hit, row_of}
use Rattle.postings_plain.specs.Rows.{from_row, IsLeastFrom, first_row, first_positions}
use Rattle.query_eval.specs.Phrases.{has_row, places_in, all_have, IsMoved, AreMoved, AreFewer, IsPass}
use Rattle.query_eval.proofs.HitLemmas.{is_moved, word_found, word_none}
use Rattle.query_eval.proofs.PhraseLemmas.{are_moved_not, are_moved_on}

-- a word that lacks the row, which stands at a place
lacking : (old : List (List Hit)) (i x : ℕ) (w : List Hit) (rest : List (List Hit)) → drop i old ≡ w ∷ rest → has_row w x ≡ false → all_have old x ≡ false
lacking [] zero x w rest e lacks = absurd cc
lacking [] (suc i) x w rest e lacks = absurd cc
lacking (h ∷ old) zero x w rest e lacks = and_left (has_row h x) (all_have old x) (ap (λ (hs : List Hit). has_row hs x) (cons_first h w old rest e) ∙ lacks)
lacking (h ∷ old) (suc i) x w rest e lacks = and_right (has_row h x) (all_have old x) (lacking old i x w rest e lacks)

drop_next : (xs : List (List Hit)) (i : ℕ) (w : List Hit) (rest : List (List Hit)) → drop i xs ≡ w ∷ rest → drop (suc i) xs ≡ rest
drop_next [] zero w rest e = absurd cc
drop_next [] (suc i) w rest e = absurd cc
drop_next (x ∷ xs) zero w rest e = cc
drop_next (x ∷ xs) (suc i) w rest e = drop_next xs i w rest e

all_more : (old : List (List Hit)) (i x : ℕ) (w : List Hit) (rest : List (List Hit)) → drop i old ≡ w ∷ rest → all_have (take i old) x ≡ true → has_row w x ≡ true → all_have (take (suc i) old) x ≡ true
all_more [] zero x w rest e all has = absurd cc
all_more [] (suc i) x w rest e all has = absurd cc
all_more (h ∷ old) zero x w rest e all has = and_from (has_row h x) (all_have (take zero old) x) (ap (λ (hs : List Hit). has_row hs x) (cons_first h w old rest e) ∙ has) refl
all_more (h ∷ old) (suc i) x w rest e all has =
    let parts = and_parts (has_row h x) (all_have (take i old) x) all in
    and_from (has_row h x) (all_have (take (suc i) old) x) parts.0 (all_more old i x w rest e parts.1 has)

stand_more : (now : List (List Hit)) (i row : ℕ) (w v : List Hit) (rest : List (List Hit)) → drop i now ≡ w ∷ rest → map first_positions (take i now) ≡ map (places_in row) (take i now)
    → first_positions v ≡ places_in row v → map first_positions (take (suc i) (set now i v)) ≡ map (places_in row) (take (suc i) (set now i v))
stand_more [] zero row w v rest e stand here = absurd cc
stand_more [] (suc i) row w v rest e stand here = absurd cc
stand_more (n ∷ now) zero row w v rest e stand here = cc
stand_more (n ∷ now) (suc i) row w v rest e stand here =
    let cells = cons_parts (first_positions n) (places_in row n) (map first_positions (take i now)) (map (places_in row) (take i now)) stand in
    cons_from (first_positions n) (places_in row n) (map first_positions (take (suc i) (set now i v))) (map (places_in row) (take (suc i) (set now i v)))
    cells.0 (stand_more now i row w v rest e cells.1 here)

set_moved : (at : ℕ) (now : List (List Hit)) (i : ℕ) (w v : List Hit) (rest : List (List Hit)) → drop i now ≡ w ∷ rest → IsMoved at w v → AreMoved at now (set now i v)
set_moved at [] zero w v rest e m = absurd cc
set_moved at [] (suc i) w v rest e m = absurd cc
set_moved at (n ∷ now) zero w v rest e m = (subst (λ (h : List Hit). IsMoved at h v) (sym (cons_first n w now rest e)) m, are_moved_not at now)
set_moved at (n ∷ now) (suc i) w v rest e m = (record { rows = λ x le. refl; places = λ x le. refl; fewer = λ x f. f }, set_moved at now i w v rest e m)

rest_set : (now : List (List Hit)) (i : ℕ) (w v : List Hit) (rest : List (List Hit)) → drop i now ≡ w ∷ rest → drop (suc i) (set now i v) ≡ rest
rest_set [] zero w v rest e = absurd cc
rest_set [] (suc i) w v rest e = absurd cc
rest_set (n ∷ now) zero w v rest e = cc
rest_set (n ∷ now) (suc i) w v rest e = rest_set now i w v rest e

pub stand_here : (hits : List Hit) (row : ℕ) → first_row hits ≡ Some row → first_positions hits ≡ places_in row hits
stand_here [] row e = absurd cc
stand_here (h ∷ hits) row e = rw (eq-eqb (row_of h) row (same_Some (row_of h) row e)) refl

-- what a pass keeps before the word at a place is moved, where the words before it stand at a row or below
pub record IsPassing (i : ℕ) (old now : List (List Hit)) (row at : ℕ) : Type 0 where
  pub from : row ≤ at
  pub moved : AreMoved at old now
  pub between : (x : ℕ) → row ≤ x → x < at → all_have old x ≡ false
  pub rest : drop i now ≡ drop i old
  pub all : row ≡ at → all_have (take i old) row ≡ true
  pub stand : row ≡ at → map first_positions (take i now) ≡ map (places_in row) (take i now)

pub pass_start : (words : List (List Hit)) (row : ℕ) → IsPassing 0 words words row row
pass_start words row = record {
  from = omega arith;
  moved = are_moved_not row words;
  between = λ x le lt. absurd (omega (arith, le, lt));
  rest = refl;
  all = λ e. refl;
  stand = λ e. refl;
}

-- the word at a place, moved: before the next one, and where it finds no row
pass_step : (i : ℕ) (old now : List (List Hit)) (row at found : ℕ) (w : List Hit) (rest : List (List Hit)) → IsPassing i old now row at → drop i now ≡ w ∷ rest
    → IsLeastFrom at w found → first_row (from_row at w) ≡ Some found → IsPassing (suc i) old (set now i (from_row at w)) row found
pass_step i old now row at found w rest k here is first =
    let f = word_found at found w is in
    let up : at ≤ found = is.from in
    let from : row ≤ at = k.from in
    let before : drop i old ≡ w ∷ rest = sym k.rest ∙ here in
    record {
      from = omega (arith, from, up);
      moved = are_moved_on at found old (set now i (from_row at w)) (set now i (from_row at w)) up
          (are_moved_on at at old now (set now i (from_row at w)) (omega arith) k.moved (set_moved at now i w (from_row at w) rest here (is_moved at w)))
          (are_moved_not found (set now i (from_row at w)));
      between = λ x le lt. elim (cases_lt x at) [
        | inl below ↦ k.between x le below
        | inr ge ↦ lacking old i x w rest before (f.2 x ge lt)
      ];
      rest = rest_set now i w (from_row at w) rest here ∙ sym (drop_next old i w rest before);
      all = λ e. let same : row ≡ at = omega (arith, from, up, e) in
          all_more old i row w rest before (k.all same) (ap (has_row w) e ∙ f.1);
      stand = λ e. let same : row ≡ at = omega (arith, from, up, e) in
          stand_more now i row w (from_row at w) rest here (k.stand same) (stand_here (from_row at w) row (first ∙ ap (λ (n : ℕ). Some n) (sym e)));
    }

pub pass_more : (i j : ℕ) (old now : List (List Hit)) (row at found : ℕ) (w v : List Hit) → IsPassing i old now row at → i < length now → w ≡ get_or now i w → j ≡ i + 1 → v ≡ from_row at w
    → IsLeastFrom at w found → first_row (from_row at w) ≡ Some found → IsPassing j old (set now i v) row found
pass_more i j old now row at found w v k lt item next left is first =
    let one : suc i ≡ j = omega (arith, next) in
    let here : drop i now ≡ w ∷ drop (suc i) now = drop-cons now i w lt ∙ ap (λ (x : List Hit). x ∷ drop (suc i) now) (sym item) in
    subst (λ (n : ℕ). IsPassing n old (set now i v) row found) one
    (subst (λ (x : List Hit). IsPassing (suc i) old (set now i x) row found) (sym left) (pass_step i old now row at found w (drop (suc i) now) k here is first))

are_fewer : (row : ℕ) (old now : List (List Hit)) → AreMoved row old now → AreFewer old now
are_fewer row [] [] m x e = e
are_fewer row [] (n ∷ now) m x e = absurd m
are_fewer row (o ∷ old) [] m x e = absurd m
are_fewer row (o ∷ old) (n ∷ now) m x e = by_test (has_row o x) refl e (are_fewer row old now m.1 x)
  where
    by_test : (b : Bool) → has_row o x ≡ b → all_have (o ∷ old) x ≡ false → (all_have old x ≡ false → all_have now x ≡ false) → all_have (n ∷ now) x ≡ false
    by_test true f g h = let rest = rw f at g in and_right (has_row n x) (all_have now x) (h rest)
    by_test false f g h = and_left (has_row n x) (all_have now x) (m.0.fewer x f)

-- the word at a place has no row left
pub pass_none : (i : ℕ) (old now : List (List Hit)) (row at : ℕ) (w : List Hit) → IsPassing i old now row at → i < length now → w ≡ get_or now i w
    → All (λ h. row_of h < at) w → IsPass old (set now i (from_row at w)) row None
pass_none i old now row at w k lt item none x le =
    let here : drop i now ≡ w ∷ drop (suc i) now = drop-cons now i w lt ∙ ap (λ (y : List Hit). y ∷ drop (suc i) now) (sym item) in
    elim (cases_lt x at) [
      | inl below ↦ k.between x le below
      | inr ge ↦ lacking old i x w (drop (suc i) now) (sym k.rest ∙ here) (word_none at w none x ge)
    ]

pub pass_fewer : (i : ℕ) (old now : List (List Hit)) (row at : ℕ) (w v : List Hit) → IsPassing i old now row at → i < length now → w ≡ get_or now i w → v ≡ from_row at w → AreFewer old (set now i v)
pass_fewer i old now row at w v k lt item left =
    let here : drop i now ≡ w ∷ drop (suc i) now = drop-cons now i w lt ∙ ap (λ (y : List Hit). y ∷ drop (suc i) now) (sym item) in
    subst (λ (x : List Hit). AreFewer old (set now i x)) (sym left)
    (are_fewer at old (set now i (from_row at w))
    (are_moved_on at at old now (set now i (from_row at w)) (omega arith) k.moved (set_moved at now i w (from_row at w) (drop (suc i) now) here (is_moved at w))))

pub pass_found_fewer : (n : ℕ) (old now : List (List Hit)) (row at : ℕ) → IsPassing n old now row at → AreFewer old now
pass_found_fewer n old now row at k = are_fewer at old now k.moved
