-- The words of a phrase, as they are moved together.
use Rattle.std.proofs.Common.{◌≡◌, ℕ, ◌+◌, ◌-◌, ◌^◌, ◌<◌, ◌≤◌, List, [], ◌∷◌, length, map, Bool, true, false, Option, Some, None, refl, sym, ap, subst, ◌∙◌, inl, inr, min, arith}
use Rattle.std.specs.Prelude.{nat_eq, nat_lt, count_by, slice_index, if◌then◌else◌}
use Rattle.std.specs.Int.{bit_at}
use Rattle.std.proofs.lemmas.Bool.{cases_lt, cases_eq, lt-ltb, and_right, or_parts}
use Rattle.std.proofs.lemmas.List.Sums.{sum_by-cons}
use Rattle.std.proofs.lemmas.Nat.Bits.{bit_at-zero}
use Rattle.query_eval.specs.Places.{has_place}
use Rattle.postings_plain.specs.Postings.{Hit}
use Rattle.postings_plain.specs.Rows.{first_positions}
use Rattle.query_eval.specs.Phrases.{has_row, places_in, follow, times_together, phrase_times, phrase_in, all_have, IsMoved, AreMoved, AreFewer, IsPass, AreAligned, StandAt}
use Rattle.query_eval.specs.Windows.{bit_of, SetsBit, AddsAt, MarksRow, IsBound, HasBound, HasMarked}

moved_not : (row : ℕ) (hits : List Hit) → IsMoved row hits hits
moved_not row hits = record { rows = λ x le. refl; places = λ x le. refl; fewer = λ x e. e }

moved_on : (row to : ℕ) (a b c : List Hit) → row ≤ to → IsMoved row a b → IsMoved to b c → IsMoved to a c
moved_on row to a b c le m n = record {
  rows = λ x ge. n.rows x ge ∙ m.rows x (omega (arith, le, ge));
  places = λ x ge. n.places x ge ∙ m.places x (omega (arith, le, ge));
  fewer = λ x e. n.fewer x (m.fewer x e);
}

pub are_moved_not : (row : ℕ) (words : List (List Hit)) → AreMoved row words words
are_moved_not row [] = tt
are_moved_not row (hits ∷ words) = (moved_not row hits, are_moved_not row words)

pub are_moved_on : (row to : ℕ) (a b c : List (List Hit)) → row ≤ to → AreMoved row a b → AreMoved to b c → AreMoved to a c
are_moved_on row to [] [] [] le m n = tt
are_moved_on row to [] [] (z ∷ c) le m n = n
are_moved_on row to [] (y ∷ b) c le m n = absurd m
are_moved_on row to (x ∷ a) [] c le m n = absurd m
are_moved_on row to (x ∷ a) (y ∷ b) [] le m n = absurd n
are_moved_on row to (x ∷ a) (y ∷ b) (z ∷ c) le m n = (moved_on row to x y z le m.0 n.0, are_moved_on row to a b c le m.1 n.1)

pub same_rows : (row x : ℕ) (a b : List (List Hit)) → AreMoved row a b → row ≤ x → all_have b x ≡ all_have a x
same_rows row x [] [] m le = refl
same_rows row x [] (h ∷ b) m le = absurd m
same_rows row x (g ∷ a) [] m le = absurd m
same_rows row x (g ∷ a) (h ∷ b) m le = let first = m.0.rows x le in let rest = same_rows row x a b m.1 le in cc

pub same_places : (row x : ℕ) (a b : List (List Hit)) → AreMoved row a b → row ≤ x → map (places_in x) b ≡ map (places_in x) a
same_places row x [] [] m le = refl
same_places row x [] (h ∷ b) m le = absurd m
same_places row x (g ∷ a) [] m le = absurd m
same_places row x (g ∷ a) (h ∷ b) m le = let first = m.0.places x le in let rest = same_places row x a b m.1 le in cc

-- where no hit is in the row there are no places
pub no_places : (x : ℕ) (hits : List Hit) → has_row hits x ≡ false → places_in x hits ≡ []
no_places x [] e = refl
no_places x (h ∷ hits) e =
    let none = or_parts (nat_eq h.0 x) (has_row hits x) e in
    rw none.0 (no_places x hits none.1)

-- words of which one lacks the row do not follow each other there
not_follow : (x place : ℕ) (words : List (List Hit)) → all_have words x ≡ false → follow place (map (places_in x) words) ≡ false
not_follow x place [] e = absurd cc
not_follow x place (h ∷ words) e = by_test (has_row h x) refl e (not_follow x (place + 1) words)
  where
    by_test : (b : Bool) → has_row h x ≡ b → all_have (h ∷ words) x ≡ false → (all_have words x ≡ false → follow (place + 1) (map (places_in x) words) ≡ false) → follow place (map (places_in x) (h ∷ words)) ≡ false
    by_test true f g k = let rest = rw f at g in and_right (has_place (places_in x h) place) _ (k rest)
    by_test false f g k = rw (no_places x h f) refl

count_none : (p : ℕ → Bool) (places : List ℕ) → ((x : ℕ) → p x ≡ false) → count_by p places ≡ 0
count_none p [] none = refl
count_none p (x ∷ places) none = let more = sum_by-cons (λ (y : ℕ). if p y then 1 else 0) x places in let rest = count_none p places none in let here : ◌≡◌ {A = ℕ} (if p x then 1 else 0) 0 = rw (none x) refl in omega (arith, more, rest, here)

-- they stand together nowhere in a row that one of them lacks
pub no_times : (x : ℕ) (words : List (List Hit)) → all_have words x ≡ false → phrase_times words x ≡ 0
no_times x [] e = absurd cc
no_times x (h ∷ words) e = by_test (has_row h x) refl e
  where
    by_test : (b : Bool) → has_row h x ≡ b → all_have (h ∷ words) x ≡ false → phrase_times (h ∷ words) x ≡ 0
    by_test true f g = let rest = rw f at g in count_none (λ p. follow (p + 1) (map (places_in x) words)) (places_in x h) (λ p. not_follow x (p + 1) words rest)
    by_test false f g = rw (no_places x h f) refl

pub no_phrase : (x : ℕ) (words : List (List Hit)) → all_have words x ≡ false → phrase_in words x ≡ false
no_phrase x words e = ap (nat_lt 0) (no_times x words e)

pub same_times : (row x : ℕ) (a b : List (List Hit)) → AreMoved row a b → row ≤ x → phrase_times b x ≡ phrase_times a x
same_times row x a b m le = ap times_together (same_places row x a b m le)

-- ---- the rows of a window in which a phrase stands

-- what aligning leaves, from the row on
aligned_times : (old new : List (List Hit)) (row : ℕ) (found : Option ℕ) → AreAligned old new row found → AreFewer old new → (x : ℕ) → row ≤ x → phrase_times new x ≡ phrase_times old x
aligned_times old new row None a fewer x le = no_times x new (fewer x (a x le)) ∙ sym (no_times x old (a x le))
aligned_times old new row (Some found) a fewer x le = elim (cases_lt x found) [
  | inl lt ↦ no_times x new (fewer x (a.2 x le lt)) ∙ sym (no_times x old (a.2 x le lt))
  | inr ge ↦ same_times found x old new a.1 ge
]

none_before : (old new : List (List Hit)) (row : ℕ) (found : Option ℕ) → AreAligned old new row found → IsBound (phrase_in old) row found
none_before old new row None a = λ x le. no_phrase x old (a x le)
none_before old new row (Some found) a = (a.0, λ x le lt. no_phrase x old (a.2 x le lt))

pub aligned_bound : (old new : List (List Hit)) (row : ℕ) (found : Option ℕ) → AreAligned old new row found → AreFewer old new → HasBound (phrase_in old) (phrase_in new) (phrase_times old) (phrase_times new) row found
aligned_bound old new row found a fewer = record {
  bound = none_before old new row found a;
  rows_stay = λ x le. ap (nat_lt 0) (aligned_times old new row found a fewer x le);
  times_stay = aligned_times old new row found a fewer;
}

-- the rows of the window below this one are marked and counted, those from it on are not, and in them the phrase stands as at first
pub record IsMarkingPhrase (start row : ℕ) (first now : List (List Hit)) (old times : List ℕ) (marks : ℕ) : Type 0 where
  pub from : start ≤ row
  pub stays : (x : ℕ) → row ≤ x → phrase_times now x ≡ phrase_times first x
  pub len : length times ≡ length old
  pub rows : (i : ℕ) → i < 64 → start + i < row → bit_at marks i ≡ bit_of (phrase_in first (start + i))
  pub clear : (i : ℕ) → row ≤ start + i → bit_at marks i ≡ 0
  pub counted : (i : ℕ) → i < 64 → start + i < row → min (slice_index times i) (2 ^ 32 - 1) ≡ min (slice_index old i + phrase_times first (start + i)) (2 ^ 32 - 1)
  pub same : (i : ℕ) → row ≤ start + i → slice_index times i ≡ slice_index old i

pub phrase_start : (start : ℕ) (words : List (List Hit)) (times : List ℕ) → IsMarkingPhrase start start words words times times 0
phrase_start start words times = record {
  from = omega arith;
  stays = λ x le. refl;
  len = refl;
  rows = λ i lt below. absurd (omega (arith, below));
  clear = λ i le. bit_at-zero i;
  counted = λ i lt below. absurd (omega (arith, below));
  same = λ i le. refl;
}

-- rows in which the phrase does not stand are passed
pub phrase_passed : (start row at : ℕ) (first now next : List (List Hit)) (old times : List ℕ) (marks : ℕ) → IsMarkingPhrase start row first now old times marks → row ≤ at
    → ((x : ℕ) → row ≤ x → x < at → phrase_times now x ≡ 0) → ((x : ℕ) → at ≤ x → phrase_times next x ≡ phrase_times now x) → IsMarkingPhrase start at first next old times marks
phrase_passed start row at first now next old times marks k up none stays =
    let from = k.from in
    let zero_at : (i : ℕ) → row ≤ start + i → start + i < at → phrase_times first (start + i) ≡ 0 = λ i ge lt. sym (k.stays (start + i) ge) ∙ none (start + i) ge lt in
    record {
      from = omega (arith, from, up);
      stays = λ x le. stays x le ∙ k.stays x (omega (arith, up, le));
      len = k.len;
      rows = λ i lt below. elim (cases_lt (start + i) row) [
        | inl before ↦ k.rows i lt before
        | inr beyond ↦ k.clear i beyond ∙ ap (λ (n : ℕ). bit_of (nat_lt 0 n)) (sym (zero_at i beyond below))
      ];
      clear = λ i le. k.clear i (omega (arith, up, le));
      counted = λ i lt below. elim (cases_lt (start + i) row) [
        | inl before ↦ k.counted i lt before
        | inr beyond ↦ let same = k.same i beyond in let none_here = zero_at i beyond below in omega (arith, same, none_here)
      ];
      same = λ i le. k.same i (omega (arith, up, le));
    }

-- the words were aligned at a row
pub phrase_aligned : (start row found : ℕ) (first now next : List (List Hit)) (old times : List ℕ) (marks : ℕ) → IsMarkingPhrase start row first now old times marks → AreAligned now next row (Some found) → AreFewer now next
    → IsMarkingPhrase start found first next old times marks
phrase_aligned start row found first now next old times marks k a fewer =
    let up = a.0 in
    phrase_passed start row found first now next old times marks k up (λ x le lt. no_times x now (a.2 x le lt)) (λ x le. aligned_times now next row (Some found) a fewer x (omega (arith, up, le)))

-- how often it stands there
phrase_here : (start row found count : ℕ) (first now next : List (List Hit)) (old times : List ℕ) (marks : ℕ) → IsMarkingPhrase start found first next old times marks → AreAligned now next row (Some found)
    → count ≡ times_together (map first_positions next) → count ≡ phrase_times first found
phrase_here start row found count first now next old times marks k a e = e ∙ ap times_together a.4 ∙ k.stays found (omega arith)

-- it stands there, and was marked and counted
phrase_marked : (start row found count place : ℕ) (first now next after : List (List Hit)) (old times grown : List ℕ) (marks set : ℕ) → IsMarkingPhrase start row first now old times marks
    → AreAligned now next row (Some found) → AreFewer now next → count ≡ times_together (map first_positions next) → after ≡ next → 0 < count → place ≡ found - start
    → SetsBit place marks set → AddsAt place count times grown → IsMarkingPhrase start (found + 1) first after old grown set
phrase_marked start row found count place first now next after old times grown marks set k a fewer e same some at bit adds =
    let here = phrase_aligned start row found first now next old times marks k a fewer in
    let from = here.from in
    let often : count ≡ phrase_times first found = phrase_here start row found count first now next old times marks here a e in
    let stands : phrase_in first found ≡ true = ap (nat_lt 0) (sym often) ∙ lt-ltb 0 count some in
    record {
      from = omega (arith, from);
      stays = λ x le. ap (λ (ws : List (List Hit)). phrase_times ws x) same ∙ here.stays x (omega (arith, le));
      len = adds.len ∙ here.len;
      rows = λ i lt below. elim (cases_eq i place) [
        | inl it ↦
            let row : found ≡ start + i = omega (arith, it, at, from) in
            ap (bit_at set) it ∙ bit.here ∙ ap bit_of (sym (ap (phrase_in first) (sym row) ∙ stands))
        | inr other ↦ bit.others i other ∙ here.rows i lt (before i below other)
      ];
      clear = λ i le. bit.others i (λ f. omega (arith, f, at, from, le)) ∙ here.clear i (omega (arith, le));
      counted = λ i lt below. elim (cases_eq i place) [
        | inl it ↦
            let row : phrase_times first found ≡ phrase_times first (start + i) = ap (phrase_times first) (omega (arith, it, at, from)) in
            let more : slice_index grown i ≡ min (slice_index times i + count) (2 ^ 32 - 1) = ap (slice_index grown) it ∙ adds.here ∙ ap (λ (j : ℕ). min (slice_index times j + count) (2 ^ 32 - 1)) (sym it) in
            let was = here.same i (omega (arith, it, at, from)) in
            omega (arith, row, more, was, often)
        | inr other ↦ ap (λ (n : ℕ). min n (2 ^ 32 - 1)) (adds.others i other) ∙ here.counted i lt (before i below other)
      ];
      same = λ i le. adds.others i (λ f. omega (arith, f, at, from, le)) ∙ here.same i (omega (arith, le));
    }
  where
    before : (i : ℕ) → start + i < found + 1 → (i ≡ place → ⊥) → start + i < found
    before i below other = elim (cases_lt (start + i) found) [
      | inl lt ↦ lt
      | inr ge ↦ absurd (other (omega (arith, below, ge, at)))
    ]

-- it does not stand there
phrase_apart : (start row found count : ℕ) (first now next after : List (List Hit)) (old times : List ℕ) (marks : ℕ) → IsMarkingPhrase start row first now old times marks
    → AreAligned now next row (Some found) → AreFewer now next → count ≡ times_together (map first_positions next) → after ≡ next → count ≡ 0 → IsMarkingPhrase start (found + 1) first after old times marks
phrase_apart start row found count first now next after old times marks k a fewer e same none =
    let here = phrase_aligned start row found first now next old times marks k a fewer in
    let often : count ≡ phrase_times first found = phrase_here start row found count first now next old times marks here a e in
    phrase_passed start found (found + 1) first next after old times marks here (omega arith)
    (λ x le lt. let at : found ≡ x = omega (arith, le, lt) in ap (phrase_times next) (sym at) ∙ here.stays found (omega arith) ∙ sym often ∙ none)
    (λ x le. ap (λ (ws : List (List Hit)). phrase_times ws x) same)

-- the row was marked and counted where the phrase stands in it
pub phrase_counted : (start row found count place more : ℕ) (first now next after : List (List Hit)) (old times grown : List ℕ) (marks set : ℕ) → IsMarkingPhrase start row first now old times marks
    → AreAligned now next row (Some found) → AreFewer now next → count ≡ times_together (map first_positions next) → after ≡ next → place ≡ found - start → MarksRow place count marks set times grown
    → more ≡ found + 1 → IsMarkingPhrase start more first after old grown set
phrase_counted start row found count place more first now next after old times grown marks set k a fewer e same at m up =
    subst (λ (n : ℕ). IsMarkingPhrase start n first after old grown set) (sym up) (elim (cases_lt 0 count) [
      | inl some ↦ phrase_marked start row found count place first now next after old times grown marks set k a fewer e same some at (m.some some).0 (m.some some).1
      | inr few ↦
          let none : count ≡ 0 = omega (arith, few) in
          subst (λ (n : ℕ). IsMarkingPhrase start (found + 1) first after old grown n) (sym (m.none none).0)
          (subst (λ (ns : List ℕ). IsMarkingPhrase start (found + 1) first after old ns marks) (sym (m.none none).1) (phrase_apart start row found count first now next after old times marks k a fewer e same none))
    ])

-- no row of the window is left
phrase_end : (start row : ℕ) (first now : List (List Hit)) (old times : List ℕ) (marks : ℕ) → IsMarkingPhrase start row first now old times marks
    → ((i : ℕ) → i < 64 → start + i < 2 ^ 32 → row ≤ start + i → phrase_times first (start + i) ≡ 0) → ((x : ℕ) → start + 64 ≤ x → phrase_times now x ≡ phrase_times first x)
    → HasMarked (phrase_in first) (phrase_in now) (phrase_times first) (phrase_times now) start marks old times
phrase_end start row first now old times marks k none stays = record {
  rows = λ i lt fits. elim (cases_lt (start + i) row) [
    | inl before ↦ k.rows i lt before
    | inr beyond ↦ k.clear i beyond ∙ ap (λ (n : ℕ). bit_of (nat_lt 0 n)) (sym (none i lt fits beyond))
  ];
  times = record {
    len = k.len;
    each = λ i lt fits. elim (cases_lt (start + i) row) [
      | inl before ↦ k.counted i lt before
      | inr beyond ↦ let same = k.same i beyond in let zeros = none i lt fits beyond in omega (arith, same, zeros)
    ];
  };
  rows_stay = λ x le. ap (nat_lt 0) (stays x le);
  times_stay = stays;
}

-- no row is left that all words have
pub phrase_none : (start row : ℕ) (first now next : List (List Hit)) (old times : List ℕ) (marks : ℕ) → IsMarkingPhrase start row first now old times marks → AreAligned now next row None → AreFewer now next
    → row ≤ start + 64 → HasMarked (phrase_in first) (phrase_in next) (phrase_times first) (phrase_times next) start marks old times
phrase_none start row first now next old times marks k a fewer near =
    let all =
    phrase_passed start row row first now next old times marks k (omega arith) (λ x le lt. absurd (omega (arith, le, lt))) (λ x le. aligned_times now next row None a fewer x le) in
    phrase_end start row first next old times marks all (λ i lt fits beyond. sym (k.stays (start + i) beyond) ∙ no_times (start + i) now (a (start + i) beyond))
    (λ x le. aligned_times now next row None a fewer x (omega (arith, le, near)) ∙ k.stays x (omega (arith, le, near)))

-- the next row that all words have is beyond the window
pub phrase_beyond : (start row found : ℕ) (first now next : List (List Hit)) (old times : List ℕ) (marks : ℕ) → IsMarkingPhrase start row first now old times marks → AreAligned now next row (Some found) → AreFewer now next
    → start + 64 ≤ found → row ≤ start + 64 → HasMarked (phrase_in first) (phrase_in next) (phrase_times first) (phrase_times next) start marks old times
phrase_beyond start row found first now next old times marks k a fewer far near =
    let here = phrase_aligned start row found first now next old times marks k a fewer in
    phrase_end start found first next old times marks here (λ i lt fits beyond. absurd (omega (arith, lt, beyond, far)))
    (λ x le. aligned_times now next row (Some found) a fewer x (omega (arith, le, near)) ∙ k.stays x (omega (arith, le, near)))

-- no row that a u32 can tell is left
pub phrase_last : (start row : ℕ) (first now : List (List Hit)) (old times : List ℕ) (marks : ℕ) → IsMarkingPhrase start row first now old times marks → 2 ^ 32 ≤ row → row ≤ start + 64 → HasMarked (phrase_in first) (phrase_in now) (phrase_times first) (phrase_times now) start marks old times
phrase_last start row first now old times marks k end near =
    phrase_end start row first now old times marks k (λ i lt fits beyond. absurd (omega (arith, fits, beyond, end))) (λ x le. k.stays x (omega (arith, le, near)))

-- what aligning keeps
pub record IsAligning (old now : List (List Hit)) (start least : ℕ) : Type 0 where
  pub from : start ≤ least
  pub moved : AreMoved least old now
  pub fewer : AreFewer old now
  pub between : (x : ℕ) → start ≤ x → x < least → all_have old x ≡ false

pub aligning_start : (words : List (List Hit)) (row : ℕ) → IsAligning words words row row
aligning_start words row = record { from = omega arith; moved = are_moved_not row words; fewer = λ x e. e; between = λ x le lt. absurd (omega (arith, le, lt)) }

pub aligning_more : (old now next : List (List Hit)) (start least found : ℕ) → IsAligning old now start least → IsPass now next least (Some found) → AreFewer now next → IsAligning old next start found
aligning_more old now next start least found k p fewer =
    let up : least ≤ found = p.0 in
    let from : start ≤ least = k.from in
    record {
      from = omega (arith, from, up);
      moved = are_moved_on least found old now next up k.moved p.1;
      fewer = λ x e. fewer x (k.fewer x e);
      between = λ x le lt. elim (cases_lt x least) [
        | inl below ↦ k.between x le below
        | inr ge ↦ sym (same_rows least x old now k.moved ge) ∙ p.2 x ge lt
      ];
    }

pub aligned_none : (old now next : List (List Hit)) (start least : ℕ) → IsAligning old now start least → IsPass now next least None → AreAligned old next start None
aligned_none old now next start least k p x le = elim (cases_lt x least) [
  | inl below ↦ k.between x le below
  | inr ge ↦ sym (same_rows least x old now k.moved ge) ∙ p x ge
]

pub aligned_found : (old now next : List (List Hit)) (start least found : ℕ) → IsAligning old now start least → IsPass now next least (Some found) → AreFewer now next → found ≡ least
    → AreAligned old next start (Some found)
aligned_found old now next start least found k p fewer e =
    let more = aligning_more old now next start least found k p fewer in
    let here = p.3 (sym e) in (
      more.from,
      more.moved,
      more.between,
      ap (all_have old) e ∙ sym (same_rows least least old now k.moved (omega arith)) ∙ here.0,
      subst (λ (n : ℕ). StandAt n next) (sym e) here.1,
    )
