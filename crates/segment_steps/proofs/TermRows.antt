-- The rows of a term, found from the postings of a sound segment, and live rows as they are made dead one after the other.
use Rattle.std.proofs.Common.{◌≡◌, ℕ, zero, suc, ◌+◌, ◌<◌, ◌≤◌, Bool, true, false, not, ltb, List, [], ◌∷◌, length, get_or, set, map, ◌⊎◌, inl, inr, Option, refl, sym, ap, subst, ◌∙◌, arith}
use Rattle.std.specs.Prelude.{◌&&◌, nat_eq}
use Rattle.std.specs.List.{All, list_any, filter, enumerate_from}
use Rattle.std.proofs.lemmas.Bool.{ne_eqb, eq-eqb, lt-ltb, le-ltb, cases_lt, cases_eq, or_right}
use Rattle.std.proofs.lemmas.List.{same_lists, length-set, get_or-set_same, get_or-set_other, get_or_default}
use Rattle.std.proofs.lemmas.List.Folds.{list_any_none, list_any-from_Any}
use Rattle.std.proofs.lemmas.List.Elements.{All-tail}
use Rattle.nrt_base.specs.declared.doc.Doc.{Doc}
use Rattle.postings_plain.specs.declared.row.TermRow.{TermRow}
use Rattle.postings_plain.specs.Postings.{Hit, row_of}
use Rattle.postings_plain.specs.Body.{HasEntry, HasNoEntry}
use Rattle.postings_plain.specs.Rows.{from_row, IsLeastFrom}
use Rattle.postings_plain.specs.Inverting.{has_term, term_positions, rows_with}
use Rattle.seg_merge.specs.Given.{Shown, term_row, IsSound}
use Rattle.segment_steps.specs.Cut.{live_left}
use Rattle.segment_steps.specs.Segments.{changed}
use Rattle.segment_steps.specs.Killing.{HasAllRows, is_row_hit, KillsHits, KillsDocs}

-- ---- the rows of a term

module _ (field : ℕ) (term : List ℕ) where
  rows_at : ℕ → List Doc → List Hit
  rows_at n docs = map (λ (x : ℕ × TermRow). (x.0, term_positions field term x.1)) (filter (λ (x : ℕ × TermRow). has_term field term x.1) (enumerate_from n (map term_row docs)))

  none_before : (n : ℕ) (docs : List Doc) (x : ℕ) → x < n → is_row_hit (rows_at n docs) x ≡ false
  unfolding rows_at
  none_before n [] x lt = refl
  none_before n (d ∷ docs) x lt = by_test (has_term field term (term_row d)) refl (none_before (n + 1) docs x (omega (arith, lt)))
    where
      by_test : (b : Bool) → has_term field term (term_row d) ≡ b → is_row_hit (rows_at (n + 1) docs) x ≡ false → is_row_hit (rows_at n (d ∷ docs)) x ≡ false
      by_test true e h = rw (e, ne_eqb n x (λ f. omega (arith, f, lt))) h
      by_test false e h = rw e h

  row_found : (n i : ℕ) (docs : List Doc) (x : Doc) → i < length docs → is_row_hit (rows_at n docs) (n + i) ≡ has_term field term (term_row (get_or docs i x))
  unfolding rows_at
  row_found n i [] x lt = absurd (omega (arith, lt))
  row_found n zero (d ∷ docs) x lt = by_test (has_term field term (term_row d)) refl
    where
      by_test : (b : Bool) → has_term field term (term_row d) ≡ b → is_row_hit (rows_at n (d ∷ docs)) (n + zero) ≡ has_term field term (term_row d)
      by_test true f = rw (f, eq-eqb n (n + zero) (omega arith)) refl
      by_test false f = rw f (none_before (n + 1) docs (n + zero) (omega arith))
  row_found n (suc i) (d ∷ docs) x lt = by_test (has_term field term (term_row d)) refl (row_found (n + 1) i docs x (omega (arith, lt)))
    where
      by_test : (b : Bool) → has_term field term (term_row d) ≡ b → is_row_hit (rows_at (n + 1) docs) ((n + 1) + i) ≡ has_term field term (term_row (get_or docs i x))
          → is_row_hit (rows_at n (d ∷ docs)) (n + suc i) ≡ has_term field term (term_row (get_or docs i x))
      by_test true f h = let m : (n + 1) + i ≡ n + suc i = omega arith in rw (f, ne_eqb n (n + suc i) (λ g. omega (arith, g))) (ap (is_row_hit (rows_at (n + 1) docs)) (sym m) ∙ h)
      by_test false f h = let m : (n + 1) + i ≡ n + suc i = omega arith in rw f (ap (is_row_hit (rows_at (n + 1) docs)) (sym m) ∙ h)

  term_rows : (docs : List Doc) (i : ℕ) (x : Doc) → i < length docs → is_row_hit (rows_with field term (map term_row docs)) i ≡ has_term field term (term_row (get_or docs i x))
  unfolding rows_at
  term_rows docs i x lt =
      let m : 0 + i ≡ i = omega arith in
      ap (is_row_hit (rows_at 0 docs)) (sym m) ∙ row_found 0 i docs x lt

  -- the hits of a term in a sound segment are its rows
  pub entry_rows : (shown : Shown) (hits : List Hit) → IsSound shown → HasEntry shown.entries field term hits
      → (i : ℕ) (x : Doc) → i < length shown.docs → is_row_hit hits i ≡ has_term field term (term_row (get_or shown.docs i x))
  entry_rows shown hits sound has i x lt = ap (λ (hs : List Hit). is_row_hit hs i) ((sound.entries field term hits).0 has).hits_are ∙ term_rows shown.docs i x lt

  some_has : (docs : List Doc) (i : ℕ) (x : Doc) → i < length docs → has_term field term (term_row (get_or docs i x)) ≡ true → list_any (has_term field term) (map term_row docs) ≡ true
  some_has [] i x lt e = absurd (omega (arith, lt))
  some_has (d ∷ docs) zero x lt e = rw e refl
  some_has (d ∷ docs) (suc i) x lt e = or_right (has_term field term (term_row d)) (list_any (has_term field term) (map term_row docs)) (some_has docs i x (omega (arith, lt)) e)

  -- a term that a sound segment lacks is in no row
  pub no_entry_rows : (shown : Shown) → field < 2 → IsSound shown → HasNoEntry shown.entries field term
      → (i : ℕ) (x : Doc) → i < length shown.docs → has_term field term (term_row (get_or shown.docs i x)) ≡ false
  no_entry_rows shown kind sound none i x lt = by_test (has_term field term (term_row (get_or shown.docs i x))) refl
    where
      by_test : (b : Bool) → has_term field term (term_row (get_or shown.docs i x)) ≡ b → b ≡ false
      by_test false e = refl
      by_test true e =
          let hits = rows_with field term (map term_row shown.docs) in
          absurd (none hits ((sound.entries field term hits).1 (record { kind = kind; some = some_has shown.docs i x lt e; hits_are = refl })))

-- ---- live rows that are left, row by row

pub long_left : (gone : Doc → Bool) (docs : List Doc) (live : List Bool) → length (live_left gone docs live) ≡ length live
long_left gone [] live = refl
long_left gone (d ∷ docs) [] = refl
long_left gone (d ∷ docs) (row ∷ live) = omega (arith, long_left gone docs live)

left_at : (gone : Doc → Bool) (docs : List Doc) (live : List Bool) (i : ℕ) (x : Doc) (b : Bool) → length live ≡ length docs → i < length docs → get_or (live_left gone docs live) i b ≡ (get_or live i b && not (gone (get_or docs i x)))
left_at gone [] live i x b long lt = absurd (omega (arith, lt))
left_at gone (d ∷ docs) [] i x b long lt = absurd (omega (arith, long))
left_at gone (d ∷ docs) (row ∷ live) zero x b long lt = refl
left_at gone (d ∷ docs) (row ∷ live) (suc i) x b long lt = left_at gone docs live i x b (omega (arith, long)) (omega (arith, lt))

-- the live rows are those that are left where just these rows are gone
left_are : (gone : Doc → Bool) (docs : List Doc) (was now : List Bool) → length was ≡ length docs → length now ≡ length docs
    → ((i : ℕ) (x : Doc) (b : Bool) → i < length docs → get_or now i b ≡ (get_or was i b && not (gone (get_or docs i x)))) → now ≡ live_left gone docs was
left_are gone docs was now was_long long at =
    same_lists now (live_left gone docs was) (omega (arith, long, was_long, long_left gone docs was))
    (λ k b lt. at k no_doc b (omega (arith, lt, long)) ∙ sym (left_at gone docs was k no_doc b was_long (omega (arith, lt, long))))
  where
    no_doc : Doc
    no_doc = record { key = []; text = [] }

-- ---- hits from a row on

rows_stay : (row x : ℕ) (hits : List Hit) → row ≤ x → is_row_hit (from_row row hits) x ≡ is_row_hit hits x
rows_stay row x [] le = refl
rows_stay row x (h ∷ hits) le = elim (cases_lt (row_of h) row) [
  | inl lt ↦ rw (lt-ltb (row_of h) row lt, ne_eqb (row_of h) x (λ e. omega (arith, e, lt, le))) (rows_stay row x hits le)
  | inr ge ↦ rw (le-ltb (row_of h) row ge) refl
]

all_stay : (P : Hit → Type 0) (row : ℕ) (hits : List Hit) → All P hits → All P (from_row row hits)
all_stay P row [] all = all
all_stay P row (h ∷ hits) all = elim (cases_lt (row_of h) row) [
  | inl lt ↦ rw (lt-ltb (row_of h) row lt) (all_stay P row hits (All-tail P h hits all))
  | inr ge ↦ rw (le-ltb (row_of h) row ge) all
]

not_there : (x : ℕ) (hits : List Hit) → All (λ h. row_of h ≡ x → ⊥) hits → is_row_hit hits x ≡ false
not_there x hits none = list_any_none (λ (h : Hit). nat_eq (row_of h) x) hits (λ k d lt. ne_eqb (row_of (get_or hits k d)) x (none k d lt))

-- ---- the loop

-- Hits so far were looked at up to a row: their rows are dead, and all others as they were.
pub record AreKilledTo (count : ℕ) (hits left : List Hit) (was now : List Bool) (from : ℕ) : Type 0 where
  pub within : from ≤ count
  pub long : length now ≡ length was
  pub stay : (x : ℕ) → from ≤ x → is_row_hit left x ≡ is_row_hit hits x
  pub below : All (λ h. row_of h < count) left
  pub marks : (i : ℕ) (b : Bool) → i < length was → get_or now i b ≡ (get_or was i b && not (ltb i from && is_row_hit hits i))

pub none_killed : (count : ℕ) (hits : List Hit) (was : List Bool) → All (λ h. row_of h < count) hits → AreKilledTo count hits hits was was 0
none_killed count hits was below = record {
  within = omega arith;
  long = refl;
  stay = λ x le. refl;
  below = below;
  marks = λ i b lt. rw (le-ltb i 0 (omega arith)) (as_before (get_or was i b));
}
  where
    as_before : (a : Bool) → a ≡ (a && true)
    as_before true = refl
    as_before false = refl

pub row_below : (count row from : ℕ) (hits left : List Hit) (was now : List Bool) → AreKilledTo count hits left was now from → IsLeastFrom from left row → row < count
row_below count row from hits left was now is found =
    let k = found.there.0 in
    let h = found.there.1 in
    let below = is.below k h found.there.2 in
    let same : row_of (get_or left k h) ≡ row = ap row_of found.there.3 ∙ found.there.4 in
    omega (arith, below, same)

mark_at : (i row from : ℕ) (hits : List Hit) (a : Bool) → from ≤ row → is_row_hit hits row ≡ true → ((x : ℕ) → from ≤ x → x < row → is_row_hit hits x ≡ false) → (i ≡ row → ⊥)
    → (a && not (ltb i from && is_row_hit hits i)) ≡ (a && not (ltb i (row + 1) && is_row_hit hits i))
mark_at i row from hits a le here between other = elim (cases_lt i from) [
  | inl lt ↦ rw (lt-ltb i from lt, lt-ltb i (row + 1) (omega (arith, lt, le))) refl
  | inr ge ↦
      elim (cases_lt i row) [
        | inl lt ↦ rw (le-ltb i from ge, lt-ltb i (row + 1) (omega (arith, lt)), between i ge lt) refl
        | inr above ↦ rw (le-ltb i from ge, le-ltb i (row + 1) (above_it above)) refl
      ]
]
  where
    above_it : row ≤ i → row + 1 ≤ i
    above_it above = elim (cases_eq i row) [ inl e ↦ absurd (other e) | inr ne ↦ grind arith ]

pub one_killed : (count row from next : ℕ) (hits left rest : List Hit) (was now new : List Bool) → length was ≡ count → AreKilledTo count hits left was now from → rest ≡ from_row from left → IsLeastFrom from left row
    → new ≡ set now row false → next ≡ row + 1 → AreKilledTo count hits rest was new next
one_killed count row from next hits left rest was now new rows is moved found killed up =
    let lt = row_below count row from hits left was now is found in
    let below : All (λ (h : Hit). row_of h < count) rest = subst (All (λ (h : Hit). row_of h < count)) (sym moved) (all_stay (λ (h : Hit). row_of h < count) from left is.below) in
    let here : is_row_hit hits row ≡ true = sym (is.stay row found.from) ∙ list_any-from_Any (λ (h : Hit). nat_eq (row_of h) row) left (found.there.0, found.there.1, found.there.2, found.there.3, eq-eqb (row_of found.there.1) row found.there.4) in
    record {
      within = omega (arith, lt, up);
      long = ap length killed ∙ length-set now row false ∙ is.long;
      stay = λ x le. ap (λ (hs : List Hit). is_row_hit hs x) moved ∙ rows_stay from x left (past x le) ∙ is.stay x (past x le);
      below = below;
      marks = λ i b in'. ap (λ (xs : List Bool). get_or xs i b) killed ∙ at i b in' lt here (cases_eq i row) ∙ ap (λ (n : ℕ). get_or was i b && not (ltb i n && is_row_hit hits i)) (sym up);
    }
  where
    past : (x : ℕ) → next ≤ x → from ≤ x
    past x le = let low = found.from in omega (arith, le, low, up)

    between : (x : ℕ) → from ≤ x → x < row → is_row_hit hits x ≡ false
    between x le lt = sym (is.stay x le) ∙ not_there x left (λ k d in' e. let far = found.least k d in' (omega (arith, e, le)) in omega (arith, far, e, lt))

    at : (i : ℕ) (b : Bool) → i < length was → row < count → is_row_hit hits row ≡ true → (i ≡ row) ⊎ (i ≡ row → ⊥) → get_or (set now row false) i b ≡ (get_or was i b && not (ltb i (row + 1) && is_row_hit hits i))
    at i b in' lt here (inl e) =
        let in_now : row < length now = let long = is.long in omega (arith, long, rows, lt) in
        ap (λ (n : ℕ). get_or (set now row false) n b) e ∙ get_or-set_same now row false b in_now
        ∙ dead (get_or was i b) (ltb i (row + 1)) (is_row_hit hits i) (lt-ltb i (row + 1) (omega (arith, e))) (ap (is_row_hit hits) e ∙ here)
      where
        dead : (a l h : Bool) → l ≡ true → h ≡ true → false ≡ (a && not (l && h))
        dead true l h p q = rw (p, q) refl
        dead false l h p q = refl
    at i b in' lt here (inr ne) = get_or-set_other now row i false b ne ∙ is.marks i b in' ∙ mark_at i row from hits (get_or was i b) found.from here between ne

-- rows that are dead are passed with the hits before them
pub dead_passed : (count row from to : ℕ) (hits left rest : List Hit) (was now : List Bool) → length was ≡ count → AreKilledTo count hits left was now from → rest ≡ from_row from left → IsLeastFrom from left row
    → row ≤ to → to ≤ count → ((i : ℕ) → row ≤ i → i < to → get_or now i false ≡ false) → AreKilledTo count hits rest was now to
dead_passed count row from to hits left rest was now rows is moved found le within dead = record {
  within = within;
  long = is.long;
  stay = λ x past. ap (λ (hs : List Hit). is_row_hit hs x) moved ∙ rows_stay from x left (above x past) ∙ is.stay x (above x past);
  below = subst (All (λ (h : Hit). row_of h < count)) (sym moved) (all_stay (λ (h : Hit). row_of h < count) from left is.below);
  marks = λ i b lt. is.marks i b lt ∙ at i b lt (cases_lt i from) (cases_lt i row) (cases_lt i to);
}
  where
    above : (x : ℕ) → to ≤ x → from ≤ x
    above x past = let low = found.from in omega (arith, past, le, low)

    none : (a : Bool) (h k : Bool) → a ≡ false → (a && h) ≡ (a && k)
    none a h k e = rw e refl

    no_hit : (i : ℕ) → from ≤ i → i < row → is_row_hit hits i ≡ false
    no_hit i ge lt = sym (is.stay i ge) ∙ not_there i left (λ k d in' e. let far = found.least k d in' (omega (arith, e, ge)) in omega (arith, far, e, lt))

    was_dead : (i : ℕ) (b : Bool) → i < length was → from ≤ i → row ≤ i → i < to → get_or was i b ≡ false
    was_dead i b lt ge past low =
        let same : get_or now i b ≡ (get_or was i b && not (ltb i from && is_row_hit hits i)) = is.marks i b lt in
        let long = is.long in
        let here : get_or now i b ≡ false = get_or_default now i b false (omega (arith, lt, long)) ∙ dead i past low in
        let unkilled : (get_or was i b && not (ltb i from && is_row_hit hits i)) ≡ (get_or was i b && true) = ap (λ (t : Bool). get_or was i b && not (t && is_row_hit hits i)) (le-ltb i from ge) in
        let plain : (get_or was i b && true) ≡ get_or was i b = and_true (get_or was i b) in
        sym plain ∙ sym unkilled ∙ sym same ∙ here
      where
        and_true : (a : Bool) → (a && true) ≡ a
        and_true true = refl
        and_true false = refl

    at : (i : ℕ) (b : Bool) → i < length was → (i < from) ⊎ (from ≤ i) → (i < row) ⊎ (row ≤ i) → (i < to) ⊎ (to ≤ i)
        → (get_or was i b && not (ltb i from && is_row_hit hits i)) ≡ (get_or was i b && not (ltb i to && is_row_hit hits i))
    at i b lt (inl low) r t = let up = found.from in rw (lt-ltb i from low, lt-ltb i to (omega (arith, low, up, le))) refl
    at i b lt (inr ge) (inl before) t = rw (le-ltb i from ge, lt-ltb i to (omega (arith, before, le)), no_hit i ge before) refl
    at i b lt (inr ge) (inr past) (inl low) = none (get_or was i b) (not (ltb i from && is_row_hit hits i)) (not (ltb i to && is_row_hit hits i)) (was_dead i b lt ge past low)
    at i b lt (inr ge) (inr past) (inr high) = rw (le-ltb i from ge, le-ltb i to high) refl

-- when no hit is left, the rows of all of them are dead
pub hits_killed : (shown : Shown) (from : ℕ) (hits left : List Hit) (old new : Option (List Bool)) → HasAllRows shown new
    → AreKilledTo (length shown.docs) hits left (changed shown old).live (changed shown new).live from → All (λ h. row_of h < from) left → HasAllRows shown old
    → KillsHits shown hits old new
hits_killed shown from hits left old new rows is none long = record {
  rows = rows;
  each = λ i b lt. is.marks i b (omega (arith, lt, long)) ∙ ap (λ (h : Bool). get_or (changed shown old).live i b && not h) (same i (cases_lt i from));
}
  where
    same : (i : ℕ) → (i < from) ⊎ (from ≤ i) → (ltb i from && is_row_hit hits i) ≡ is_row_hit hits i
    same i (inl low) = rw (lt-ltb i from low) refl
    same i (inr high) =
        let gone : is_row_hit hits i ≡ false = sym (is.stay i high) ∙ not_there i left (λ k d in' e. let below = none k d in' in omega (arith, below, e, high)) in
        rw (le-ltb i from high) (sym gone)

-- the rows of a term are those of the documents that have it
pub docs_killed : (field : ℕ) (term : List ℕ) (gone : Doc → Bool) (shown : Shown) (hits : List Hit) (old new : Option (List Bool)) → ((d : Doc) → has_term field term (term_row d) ≡ gone d)
    → HasAllRows shown old → IsSound shown → HasEntry shown.entries field term hits → KillsHits shown hits old new → KillsDocs gone shown old new
docs_killed field term gone shown hits old new agree long sound has killed = record {
  rows = killed.rows;
  live =
      left_are gone shown.docs (changed shown old).live (changed shown new).live long killed.rows
      (λ i x b lt. killed.each i b lt ∙ ap (λ (h : Bool). get_or (changed shown old).live i b && not h) (entry_rows field term shown hits sound has i x lt ∙ agree (get_or shown.docs i x)));
}

-- where no row has the term, nothing changes
pub none_killed_by : (field : ℕ) (term : List ℕ) (gone : Doc → Bool) (shown : Shown) (old : Option (List Bool)) → field < 2 → ((d : Doc) → has_term field term (term_row d) ≡ gone d)
    → HasAllRows shown old → IsSound shown → HasNoEntry shown.entries field term → KillsDocs gone shown old old
none_killed_by field term gone shown old kind agree long sound none = record {
  rows = long;
  live =
      left_are gone shown.docs (changed shown old).live (changed shown old).live long long
      (λ i x b lt. stays (get_or (changed shown old).live i b) (gone (get_or shown.docs i x)) (sym (agree (get_or shown.docs i x)) ∙ no_entry_rows field term shown kind sound none i x lt));
}
  where
    stays : (a h : Bool) → h ≡ false → a ≡ (a && not h)
    stays true h e = rw e refl
    stays false h e = refl
