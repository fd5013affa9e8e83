-- What is found of the terms of rows, as rows and words are added.
use Rattle.std.proofs.Common.{◌≡◌, ℕ, zero, suc, ◌+◌, ◌<◌, ◌≤◌, Bool, true, false, cond, ◌||◌, List, [], ◌∷◌, ◌++◌, length, map, Option, Some, refl, sym, ap, subst, ◌∙◌, arith}
use Rattle.std.specs.List.{filter, list_any, enumerate_from, All}
use Rattle.std.specs.Str.{bytes_eq}
use Rattle.std.specs.Option.{unwrap_or}
use Rattle.std.specs.Ordering.{nat_cmp}
use Rattle.std.specs.Cmp.Lexicographic.{slice_cmp, bytes_decides}
use Rattle.std.specs.BTreeMap.{BTreeMap, get, Updates, is_at}
use Rattle.std.proofs.lemmas.List.{append-nil}
use Rattle.std.proofs.Math.Bool.{or-false, or-true}
use Rattle.std.proofs.lemmas.Bool.{or_parts}
use Rattle.std.proofs.lemmas.List.Folds.{list_any-append}
use Rattle.std.proofs.lemmas.List.Elements.{All-nil, All-cons}
use Rattle.std.proofs.lemmas.Map.Text.{is_eq-slice_cmp}
use Rattle.postings_plain.specs.declared.row.TermRow.{TermRow}
use Rattle.postings_plain.specs.Postings.{Hit}
use Rattle.postings_plain.specs.Inverting.{positions_of, has_term, term_positions, rows_with}
use Rattle.postings_plain.specs.Gathering.{GainsPlace, Gathers, some_hits}

-- ---- the items that pass, each made from its place and itself
abbrev pub picked : {X Y : Type 0} → (X → Bool) → (ℕ × X → Y) → ℕ → List X → List Y
picked {X} test make n xs = map make (filter (λ (x : ℕ × X). test x.1) (enumerate_from n xs))

pub pick : {X Y : Type 0} (b : Bool) (make : ℕ × X → Y) (z : ℕ × X) (front whole : List (ℕ × X)) (last : List Y) → map make whole ≡ map make front ++ last → map make (cond b (z ∷ whole) whole) ≡ map make (cond b (z ∷ front) front) ++ last
pick true make z front whole last e = ap (λ ys. make z ∷ ys) e
pick false make z front whole last e = e

pick_one : {X Y : Type 0} (b : Bool) (make : ℕ × X → Y) (z w : ℕ × X) → z ≡ w → map make (cond b (z ∷ []) []) ≡ cond b (make w ∷ []) []
pick_one true make z w e = ap (λ v. make v ∷ []) e
pick_one false make z w e = refl

pub picked_more : {X Y : Type 0} (test : X → Bool) (make : ℕ × X → Y) (n at : ℕ) (xs : List X) (x : X) → n + length xs ≡ at → picked test make n (xs ++ x ∷ []) ≡ picked test make n xs ++ cond (test x) (make (at, x) ∷ []) []
picked_more test make n at [] x e = let z : n ≡ at = omega arith in pick_one (test x) make (n, x) (at, x) (ap (λ (k : ℕ). (k, x)) z)
picked_more {X} test make n at (y ∷ xs) x e =
    pick (test y) make (n, y) (filter (λ (v : ℕ × X). test v.1) (enumerate_from (n + 1) xs)) (filter (λ (v : ℕ × X). test v.1) (enumerate_from (n + 1) (xs ++ x ∷ []))) (cond (test x) (make (at, x) ∷ []) [])
    (picked_more test make (n + 1) at xs x (omega arith))

pub picked_none : {X Y : Type 0} (test : X → Bool) (make : ℕ × X → Y) (n : ℕ) (xs : List X) → list_any test xs ≡ false → picked test make n xs ≡ []
picked_none test make n [] e = refl
picked_none test make n (x ∷ xs) e = let p = or_parts (test x) (list_any test xs) e in rw p.0 (picked_none test make (n + 1) xs p.1)

below_pick : {X : Type 0} (b : Bool) (make : ℕ × X → Hit) (z : ℕ × X) (rest : List (ℕ × X)) (at : ℕ) → (make z).0 < at → All (λ (h : Hit). h.0 < at) (map make rest) → All (λ (h : Hit). h.0 < at) (map make (cond b (z ∷ rest) rest))
below_pick true make z rest at lt all = All-cons (λ (h : Hit). h.0 < at) (make z) (map make rest) lt all
below_pick false make z rest at lt all = all

-- all of the hits are in rows below the number of rows
pub picked_below : {X : Type 0} (test : X → Bool) (f : X → List ℕ) (n at : ℕ) (xs : List X) → n + length xs ≤ at → All (λ (h : Hit). h.0 < at) (picked test (λ (x : ℕ × X). (x.0, f x.1)) n xs)
picked_below test f n at [] le = All-nil (λ (h : Hit). h.0 < at)
picked_below {X} test f n at (x ∷ xs) le =
    below_pick (test x) (λ (x : ℕ × X). (x.0, f x.1)) (n, x) (filter (λ (v : ℕ × X). test v.1) (enumerate_from (n + 1) xs)) at (omega arith) (picked_below test f (n + 1) at xs (omega arith))

-- ---- one row more, one word more

pub rows_with_more : (field : ℕ) (term : List ℕ) (rows : List TermRow) (row : TermRow) (n : ℕ) → length rows ≡ n
    → rows_with field term (rows ++ row ∷ []) ≡ rows_with field term rows ++ cond (has_term field term row) ((n, term_positions field term row) ∷ []) []
rows_with_more field term rows row n len = picked_more (has_term field term) (λ (x : ℕ × TermRow). (x.0, term_positions field term x.1)) 0 n rows row (omega arith)

pub rows_with_below : (field : ℕ) (term : List ℕ) (rows : List TermRow) (n : ℕ) → length rows ≡ n → All (λ (h : Hit). h.0 < n) (rows_with field term rows)
rows_with_below field term rows n len = picked_below (has_term field term) (term_positions field term) 0 n rows (omega arith)

pub positions_more : (word : List ℕ) (words : List (List ℕ)) (w : List ℕ) (n : ℕ) → length words ≡ n → positions_of word (words ++ w ∷ []) ≡ positions_of word words ++ cond (bytes_eq w word) (n ∷ []) []
positions_more word words w n len = picked_more (λ (w : List ℕ). bytes_eq w word) (λ (x : ℕ × List ℕ). x.0) 0 n words w (omega arith)

pub positions_none : (word : List ℕ) (words : List (List ℕ)) → list_any (λ w. bytes_eq w word) words ≡ false → positions_of word words ≡ []
positions_none word words e = picked_none (λ (w : List ℕ). bytes_eq w word) (λ (x : ℕ × List ℕ). x.0) 0 words e

abbrev pub same_key : List ℕ → List ℕ → Bool
same_key a b = is_at (slice_cmp nat_cmp a) b

pub apart : (a b : List ℕ) → bytes_eq a b ≡ false → same_key a b ≡ false
apart a b e = is_eq-slice_cmp a b ∙ e

some_filled : (hs : List Hit) (h : Hit) → Some (hs ++ h ∷ []) ≡ some_hits (hs ++ h ∷ [])
some_filled [] h = refl
some_filled (x ∷ hs) h = refl

pub hits_back : (hs : List Hit) → unwrap_or (some_hits hs) [] ≡ hs
hits_back [] = refl
hits_back (h ∷ hs) = refl

abbrev Found : Type 0
Found = BTreeMap (List ℕ) (List Hit)

-- ---- a key is added

abbrev KeyAdded : Found → Found → ℕ → List ℕ → Type 0
KeyAdded old new n key = Updates (slice_cmp nat_cmp) old new (0 ∷ key) (Some (unwrap_or (get (slice_cmp nat_cmp) old (0 ∷ key)) [] ++ (n, []) ∷ []))

key_case : (old new : Found) (rows : List TermRow) (n : ℕ) (key term : List ℕ) (b : Bool) → bytes_eq key term ≡ b → Gathers old.entries rows → KeyAdded old new n key
    → get (slice_cmp nat_cmp) new (0 ∷ term) ≡ some_hits (rows_with 0 term rows ++ cond b ((n, []) ∷ []) [])
key_case old new rows n key term true e g u =
    let same : key ≡ term = (bytes_decides key term).0 e in
    let before = g.at 0 key (omega arith) in
    subst (λ (t : List ℕ). get (slice_cmp nat_cmp) new (0 ∷ t) ≡ some_hits (rows_with 0 t rows ++ (n, []) ∷ [])) same
    (u.1 ∙ ap (λ (o : Option (List Hit)). Some (unwrap_or o [] ++ (n, []) ∷ [])) before ∙ ap (λ (hs : List Hit). Some (hs ++ (n, []) ∷ [])) (hits_back (rows_with 0 key rows)) ∙ some_filled (rows_with 0 key rows) (n, []))
key_case old new rows n key term false e g u =
    u.2 (0 ∷ term) (apart (0 ∷ key) (0 ∷ term) e) ∙ g.at 0 term (omega arith) ∙ ap some_hits (sym (append-nil (rows_with 0 term rows)))

key_at : (old new : Found) (rows : List TermRow) (n : ℕ) (key : List ℕ) → length rows ≡ n → Gathers old.entries rows → KeyAdded old new n key → (field : ℕ) (term : List ℕ) → field < 2
    → get (slice_cmp nat_cmp) new (field ∷ term) ≡ some_hits (rows_with field term (rows ++ record { key = key; words = [] } ∷ []))
key_at old new rows n key len g u zero term lt =
    key_case old new rows n key term (bytes_eq key term) refl g u ∙ ap some_hits (sym (rows_with_more 0 term rows (record { key = key; words = [] }) n len))
key_at old new rows n key len g u (suc zero) term lt =
    u.2 (1 ∷ term) (apart (0 ∷ key) (1 ∷ term) refl) ∙ g.at 1 term lt
    ∙ ap some_hits (sym (rows_with_more 1 term rows (record { key = key; words = [] }) n len ∙ append-nil (rows_with 1 term rows)))
key_at old new rows n key len g u (suc (suc field)) term lt = absurd (omega arith)

pub key_added : (old new : Found) (rows : List TermRow) (n : ℕ) (key : List ℕ) → length rows ≡ n → Gathers old.entries rows → KeyAdded old new n key → Gathers new.entries (rows ++ record { key = key; words = [] } ∷ [])
key_added old new rows n key len g u = record { at = key_at old new rows n key len g u }

-- ---- a word is added

abbrev with_words : List ℕ → List (List ℕ) → TermRow
with_words key words = record { key = key; words = words }

no_more : (term w : List ℕ) (words : List (List ℕ)) → bytes_eq w term ≡ false → list_any (λ v. bytes_eq v term) (words ++ w ∷ []) ≡ list_any (λ v. bytes_eq v term) words
no_more term w words e = list_any-append (λ v. bytes_eq v term) words (w ∷ []) ∙ ap (λ b. list_any (λ v. bytes_eq v term) words || (b || false)) e ∙ or-false _

one_more : (term w : List ℕ) (words : List (List ℕ)) → bytes_eq w term ≡ true → list_any (λ v. bytes_eq v term) (words ++ w ∷ []) ≡ true
one_more term w words e = list_any-append (λ v. bytes_eq v term) words (w ∷ []) ∙ ap (λ b. list_any (λ v. bytes_eq v term) words || (b || false)) e ∙ or-true _

same_positions : (term w : List ℕ) (words : List (List ℕ)) → bytes_eq w term ≡ false → positions_of term (words ++ w ∷ []) ≡ positions_of term words
same_positions term w words e = positions_more term words w (length words) refl ∙ ap (λ b. positions_of term words ++ cond b (length words ∷ []) []) e ∙ append-nil (positions_of term words)

abbrev end_row : ℕ → List ℕ → List (List ℕ) → List Hit
end_row n term words = cond (list_any (λ v. bytes_eq v term) words) ((n, positions_of term words) ∷ []) []

same_end : (n : ℕ) (term w : List ℕ) (words : List (List ℕ)) → bytes_eq w term ≡ false → end_row n term (words ++ w ∷ []) ≡ end_row n term words
same_end n term w words e =
    ap (λ b. cond b ((n, positions_of term (words ++ w ∷ [])) ∷ []) []) (no_more term w words e) ∙ ap (λ ps. cond (list_any (λ v. bytes_eq v term) words) ((n, ps) ∷ []) []) (same_positions term w words e)

-- the word stood in the row before, or not
gained : (rows : List TermRow) (n at : ℕ) (w : List ℕ) (words : List (List ℕ)) (hits old : List Hit) (b : Bool) → list_any (λ v. bytes_eq v w) words ≡ b → length rows ≡ n
    → old ≡ rows_with 1 w rows ++ cond b ((n, positions_of w words) ∷ []) [] → GainsPlace old n at hits → hits ≡ rows_with 1 w rows ++ (n, positions_of w words ++ at ∷ []) ∷ []
gained rows n at w words hits old true e len is g = g.more (rows_with 1 w rows) (positions_of w words) is
gained rows n at w words hits old false e len is g =
    let front : old ≡ rows_with 1 w rows = is ∙ append-nil (rows_with 1 w rows) in
    g.first (subst (All (λ (h : Hit). h.0 < n)) (sym front) (rows_with_below 1 w rows n len)) ∙ ap (λ hs. hs ++ (n, at ∷ []) ∷ []) front
    ∙ ap (λ ps. rows_with 1 w rows ++ (n, ps ++ at ∷ []) ∷ []) (sym (positions_none w words e))

abbrev WordAdded : Found → Found → List ℕ → List Hit → Type 0
WordAdded old new w hits = Updates (slice_cmp nat_cmp) old new (1 ∷ w) (Some hits)

word_case : (old new : Found) (rows : List TermRow) (n at : ℕ) (key : List ℕ) (words : List (List ℕ)) (w term : List ℕ) (hits : List Hit) (b : Bool) → bytes_eq w term ≡ b → length rows ≡ n → length words ≡ at
    → Gathers old.entries (rows ++ with_words key words ∷ []) → GainsPlace (unwrap_or (get (slice_cmp nat_cmp) old (1 ∷ w)) []) n at hits → WordAdded old new w hits
    → get (slice_cmp nat_cmp) new (1 ∷ term) ≡ some_hits (rows_with 1 term (rows ++ with_words key (words ++ w ∷ []) ∷ []))
word_case old new rows n at key words w term hits true e len long g gains u =
    let same : w ≡ term = (bytes_decides w term).0 e in
    let is_itself : bytes_eq w w ≡ true = (bytes_decides w w).1 refl in
    let before = g.at 1 w (omega arith) in
    let whole = ap (λ (o : Option (List Hit)). unwrap_or o []) before ∙ hits_back (rows_with 1 w (rows ++ with_words key words ∷ [])) ∙ rows_with_more 1 w rows (with_words key words) n len in
    let now = gained rows n at w words hits (unwrap_or (get (slice_cmp nat_cmp) old (1 ∷ w)) []) (list_any (λ v. bytes_eq v w) words) refl len whole gains in
    let ends : end_row n w (words ++ w ∷ []) ≡ (n, positions_of w words ++ at ∷ []) ∷ [] =
    ap (λ b. cond b ((n, positions_of w (words ++ w ∷ [])) ∷ []) []) (one_more w w words is_itself) ∙ ap (λ ps. (n, ps) ∷ []) (positions_more w words w at long ∙ ap (λ b. positions_of w words ++ cond b (at ∷ []) []) is_itself) in
    subst (λ (t : List ℕ). get (slice_cmp nat_cmp) new (1 ∷ t) ≡ some_hits (rows_with 1 t (rows ++ with_words key (words ++ w ∷ []) ∷ []))) same
    (u.1 ∙ ap (λ (hs : List Hit). Some hs) now ∙ some_filled (rows_with 1 w rows) (n, positions_of w words ++ at ∷ [])
    ∙ ap (λ x. some_hits (rows_with 1 w rows ++ x)) (sym ends) ∙ ap some_hits (sym (rows_with_more 1 w rows (with_words key (words ++ w ∷ [])) n len)))
word_case old new rows n at key words w term hits false e len long g gains u =
    u.2 (1 ∷ term) (apart (1 ∷ w) (1 ∷ term) e) ∙ g.at 1 term (omega arith)
    ∙ ap some_hits (rows_with_more 1 term rows (with_words key words) n len ∙ ap (λ x. rows_with 1 term rows ++ x) (sym (same_end n term w words e)) ∙ sym (rows_with_more 1 term rows (with_words key (words ++ w ∷ [])) n len))

word_at : (old new : Found) (rows : List TermRow) (n at : ℕ) (key : List ℕ) (words : List (List ℕ)) (w : List ℕ) (hits : List Hit) → length rows ≡ n → length words ≡ at
    → Gathers old.entries (rows ++ with_words key words ∷ []) → GainsPlace (unwrap_or (get (slice_cmp nat_cmp) old (1 ∷ w)) []) n at hits → WordAdded old new w hits → (field : ℕ) (term : List ℕ) → field < 2
    → get (slice_cmp nat_cmp) new (field ∷ term) ≡ some_hits (rows_with field term (rows ++ with_words key (words ++ w ∷ []) ∷ []))
word_at old new rows n at key words w hits len long g gains u zero term lt =
    u.2 (0 ∷ term) (apart (1 ∷ w) (0 ∷ term) refl) ∙ g.at 0 term lt
    ∙ ap some_hits (rows_with_more 0 term rows (with_words key words) n len ∙ sym (rows_with_more 0 term rows (with_words key (words ++ w ∷ [])) n len))
word_at old new rows n at key words w hits len long g gains u (suc zero) term lt = word_case old new rows n at key words w term hits (bytes_eq w term) refl len long g gains u
word_at old new rows n at key words w hits len long g gains u (suc (suc field)) term lt = absurd (omega arith)

pub word_added : (old new : Found) (rows : List TermRow) (n at : ℕ) (key : List ℕ) (words : List (List ℕ)) (w : List ℕ) (hits : List Hit) → length rows ≡ n → length words ≡ at
    → Gathers old.entries (rows ++ with_words key words ∷ []) → GainsPlace (unwrap_or (get (slice_cmp nat_cmp) old (1 ∷ w)) []) n at hits → WordAdded old new w hits
    → Gathers new.entries (rows ++ with_words key (words ++ w ∷ []) ∷ [])
word_added old new rows n at key words w hits len long g gains u = record { at = word_at old new rows n at key words w hits len long g gains u }
