-- The words of a phrase, found from documents, stand together in a row as often as the phrase stands in its text.
use Rattle.std.proofs.Common.{◌≡◌, ℕ, zero, suc, ◌+◌, ◌<◌, ◌≤◌, List, [], ◌∷◌, ◌++◌, length, map, take, drop, Bool, true, false, Some, refl, sym, ap, ◌∙◌, arith}
use Rattle.std.specs.Prelude.{◌&&◌, nat_eq, nat_lt, slice_get, count_by, if◌then◌else◌}
use Rattle.std.specs.List.{list_any, filter, enumerate_from}
use Rattle.std.specs.Str.{bytes_eq}
use Rattle.std.proofs.lemmas.Bool.{ne_eqb, eq-eqb, lt-ltb, ltb-false, or_parts, and_left, and_right}
use Rattle.std.proofs.lemmas.Cmp.{nat_list_eq_equiv}
use Rattle.std.proofs.lemmas.List.Sums.{sum_by-cons}
use Rattle.std.proofs.lemmas.List.{map_push}
use Rattle.std.proofs.lemmas.Option.{same_Some}
use Rattle.nrt_base.specs.declared.doc.Doc.{Doc}
use Rattle.documents.specs.Words.{words_of, has_word}
use Rattle.documents.specs.Matching.{tails, stands_at_front, stands_in}
use Rattle.documents.specs.Ranking.{times_of_word, times_of_phrase}
use Rattle.postings_plain.specs.declared.row.TermRow.{TermRow}
use Rattle.postings_plain.specs.Postings.{Hit}
use Rattle.postings_plain.specs.Body.{HasEntry, HasNoEntry}
use Rattle.postings_plain.specs.Inverting.{has_term, positions_of}
use Rattle.seg_reader.specs.Shown.{Shown}
use Rattle.seg_reader.specs.Sound.{term_row, IsSound}
use Rattle.query_eval.specs.Phrases.{places_in, follow, times_together, phrase_times, phrase_in}
use Rattle.query_eval.proofs.RowLemmas.{rows_from, doc_row, no_entry_rows}

-- how many words are this one, where it is tested in turn
pub count_cons : {X : Type 0} (p : X → Bool) (x : X) (xs : List X) → count_by p (x ∷ xs) ≡ (if p x then 1 else 0) + count_by p xs
count_cons {X} p x xs = sum_by-cons (λ (y : X). if p y then 1 else 0) x xs

-- the places of a word, where the first word is numbered so
abbrev places_from : List ℕ → ℕ → List (List ℕ) → List ℕ
places_from word n words = map (λ x. x.0) (filter (λ x. bytes_eq x.1 word) (enumerate_from n words))

-- the word that stands first
abbrev is_first : List ℕ → List (List ℕ) → Bool
is_first word [] = false
is_first word (w ∷ words) = bytes_eq w word

none_below : (word : List ℕ) (n : ℕ) (words : List (List ℕ)) (x : ℕ) → x < n → list_any (λ p. nat_eq p x) (places_from word n words) ≡ false
none_below word n [] x lt = refl
none_below word n (w ∷ words) x lt = by_test (bytes_eq w word) refl (none_below word (n + 1) words x (omega (arith, lt)))
  where
    by_test : (b : Bool) → bytes_eq w word ≡ b → list_any (λ p. nat_eq p x) (places_from word (n + 1) words) ≡ false → list_any (λ p. nat_eq p x) (places_from word n (w ∷ words)) ≡ false
    by_test true e h = rw (e, ne_eqb n x (λ f. omega (arith, f, lt))) h
    by_test false e h = rw e h

-- a word has a place where it stands first from there on
has_place : (word : List ℕ) (n i m : ℕ) (words : List (List ℕ)) → m ≡ n + i → list_any (λ p. nat_eq p m) (places_from word n words) ≡ is_first word (drop i words)
has_place word n zero m [] e = refl
has_place word n (suc i) m [] e = refl
has_place word n zero m (w ∷ words) e = by_test (bytes_eq w word) refl
  where
    by_test : (b : Bool) → bytes_eq w word ≡ b → list_any (λ p. nat_eq p m) (places_from word n (w ∷ words)) ≡ bytes_eq w word
    by_test true f = rw (f, eq-eqb n m (omega (arith, e))) refl
    by_test false f = rw f (none_below word (n + 1) words m (omega (arith, e)))
has_place word n (suc i) m (w ∷ words) e = by_test (bytes_eq w word) refl (has_place word (n + 1) i m words (omega (arith, e)))
  where
    by_test : (b : Bool) → bytes_eq w word ≡ b → list_any (λ p. nat_eq p m) (places_from word (n + 1) words) ≡ is_first word (drop i words)
        → list_any (λ p. nat_eq p m) (places_from word n (w ∷ words)) ≡ is_first word (drop i words)
    by_test true f h = rw (f, ne_eqb n m (λ g. omega (arith, g, e))) h
    by_test false f h = rw f h

begins_at : (p : List ℕ) (phrase words : List (List ℕ)) (i : ℕ) → (is_first p (drop i words) && stands_at_front phrase (drop (suc i) words)) ≡ stands_at_front (p ∷ phrase) (drop i words)
begins_at p phrase [] zero = refl
begins_at p phrase [] (suc i) = refl
begins_at p phrase (w ∷ words) zero = ap (λ (b : Bool). b && stands_at_front phrase words) (nat_list_eq_equiv.symm w p)
begins_at p phrase (w ∷ words) (suc i) = begins_at p phrase words i

-- words follow each other from a place on where the phrase begins there
follow_begins : (phrase words : List (List ℕ)) (i m : ℕ) → m ≡ i → follow m (map (λ w. places_from w 0 words) phrase) ≡ stands_at_front phrase (drop i words)
follow_begins [] words i m e = refl
follow_begins (p ∷ phrase) words i m e =
    let first = has_place p 0 i m words (omega (arith, e)) in
    let rest = follow_begins phrase words (suc i) (m + 1) (omega (arith, e)) in
    both (list_any (λ q. nat_eq q m) (places_from p 0 words)) (is_first p (drop i words)) (follow (m + 1) (map (λ w. places_from w 0 words) phrase)) (stands_at_front phrase (drop (suc i) words)) first rest
    ∙ begins_at p phrase words i
  where
    both : (a b c d : Bool) → a ≡ b → c ≡ d → (a && c) ≡ (b && d)
    both a b c d f g = cc

-- as many places of the first word have the rest of the phrase behind them as the phrase has in the words
count_stands : (test : ℕ → Bool) (p : List ℕ) (phrase words : List (List ℕ)) (n : ℕ) → ((i m : ℕ) → m ≡ n + i → test m ≡ stands_at_front phrase (drop (suc i) words))
    → count_by test (places_from p n words) ≡ times_of_phrase (p ∷ phrase) words
count_stands test p phrase [] n is = refl
count_stands test p phrase (w ∷ words) n is =
    by_test (bytes_eq w p) refl (is 0 n (omega arith)) (count_stands test p phrase words (n + 1) (λ i m e. is (suc i) m (omega (arith, e))))
    ∙ sym (count_cons (stands_at_front (p ∷ phrase)) (w ∷ words) (tails words))
  where
    front : (b : Bool) → bytes_eq w p ≡ b → stands_at_front (p ∷ phrase) (w ∷ words) ≡ (b && stands_at_front phrase words)
    front b f = ap (λ (t : Bool). t && stands_at_front phrase words) (nat_list_eq_equiv.symm p w ∙ f)

    by_test : (b : Bool) → bytes_eq w p ≡ b → test n ≡ stands_at_front phrase words → count_by test (places_from p (n + 1) words) ≡ times_of_phrase (p ∷ phrase) words
        → count_by test (places_from p n (w ∷ words)) ≡ (if stands_at_front (p ∷ phrase) (w ∷ words) then 1 else 0) + times_of_phrase (p ∷ phrase) words
    by_test true f g h =
        let more = count_cons test n (places_from p (n + 1) words) in
        let same : ◌≡◌ {A = ℕ} (if test n then 1 else 0) (if stands_at_front phrase words then 1 else 0) = rw g refl in
        rw (front true f, f) (omega (arith, more, same, h))
    by_test false f g h = rw (front false f, f) (omega (arith, h))

-- how often a phrase stands in words
phrase_stands : (p : List ℕ) (phrase words : List (List ℕ)) → times_together (map (λ w. positions_of w words) (p ∷ phrase)) ≡ times_of_phrase (p ∷ phrase) words
phrase_stands p phrase words = count_stands (λ q. follow (q + 1) (map (λ w. places_from w 0 words) phrase)) p phrase words 0 (λ i m e. follow_begins phrase words (suc i) (m + 1) (omega (arith, e)))

-- a test is passed where it is passed at least once
any_counted : {X : Type 0} (p : X → Bool) (xs : List X) → list_any p xs ≡ nat_lt 0 (count_by p xs)
any_counted p [] = refl
any_counted {X} p (x ∷ xs) = by_test (p x) refl (any_counted p xs)
  where
    by_test : (b : Bool) → p x ≡ b → list_any p xs ≡ nat_lt 0 (count_by p xs) → list_any p (x ∷ xs) ≡ nat_lt 0 (count_by p (x ∷ xs))
    by_test true e rest =
        let has : list_any p (x ∷ xs) ≡ true = rw e refl in
        let one : ◌≡◌ {A = ℕ} (if p x then 1 else 0) 1 = rw e refl in
        let more = count_cons p x xs in
        has ∙ sym (lt-ltb 0 (count_by p (x ∷ xs)) (omega (arith, more, one)))
    by_test false e rest =
        let same : list_any p (x ∷ xs) ≡ list_any p xs = rw e refl in
        let none : ◌≡◌ {A = ℕ} (if p x then 1 else 0) 0 = rw e refl in
        let more = count_cons p x xs in
        same ∙ rest ∙ ap (nat_lt 0) (omega (arith, more, none))

-- how often a word stands in words
count_places : (word : List ℕ) (n : ℕ) (words : List (List ℕ)) → length (places_from word n words) ≡ times_of_word word words
count_places word n [] = refl
count_places word n (w ∷ words) = by_test (bytes_eq w word) refl (count_places word (n + 1) words) ∙ sym (count_cons (λ v. bytes_eq v word) w words)
  where
    by_test : (b : Bool) → bytes_eq w word ≡ b → length (places_from word (n + 1) words) ≡ times_of_word word words
        → length (places_from word n (w ∷ words)) ≡ (if bytes_eq w word then 1 else 0) + times_of_word word words
    by_test true f h = rw f (omega (arith, h))
    by_test false f h = rw f (omega (arith, h))

no_places_before : (word : List ℕ) (n : ℕ) (rows : List TermRow) (x : ℕ) → x < n → places_in x (rows_from word n rows) ≡ []
no_places_before word n [] x lt = refl
no_places_before word n (r ∷ rows) x lt = by_test (has_term 1 word r) refl (no_places_before word (n + 1) rows x (omega (arith, lt)))
  where
    by_test : (b : Bool) → has_term 1 word r ≡ b → places_in x (rows_from word (n + 1) rows) ≡ [] → places_in x (rows_from word n (r ∷ rows)) ≡ []
    by_test true e h = rw (e, ne_eqb n x (λ f. omega (arith, f, lt))) h
    by_test false e h = rw e h

none_placed : (word : List ℕ) (n : ℕ) (words : List (List ℕ)) → list_any (λ w. bytes_eq w word) words ≡ false → places_from word n words ≡ []
none_placed word n [] e = refl
none_placed word n (w ∷ words) e =
    let parts = or_parts (bytes_eq w word) (list_any (λ v. bytes_eq v word) words) e in
    step parts.0 (none_placed word (n + 1) words parts.1)
  where
    step : bytes_eq w word ≡ false → places_from word (n + 1) words ≡ [] → places_from word n (w ∷ words) ≡ []
    step f h = rw f h

-- the places in a row are those of the word there
places_found : (word : List ℕ) (n i m : ℕ) (rows : List TermRow) (row : TermRow) → m ≡ n + i → slice_get rows i ≡ Some row → places_in m (rows_from word n rows) ≡ positions_of word row.words
places_found word n i m [] row e is = absurd cc
places_found word n zero m (r ∷ rows) row e is = by_test (has_term 1 word r) refl ∙ ap (λ (x : TermRow). positions_of word x.words) (same_Some r row is)
  where
    by_test : (b : Bool) → has_term 1 word r ≡ b → places_in m (rows_from word n (r ∷ rows)) ≡ positions_of word r.words
    by_test true f = rw (f, eq-eqb n m (omega (arith, e))) refl
    by_test false f = rw f (no_places_before word (n + 1) rows m (omega (arith, e)) ∙ sym (none_placed word 0 r.words f))
places_found word n (suc i) m (r ∷ rows) row e is = by_test (has_term 1 word r) refl (places_found word (n + 1) i m rows row (omega (arith, e)) is)
  where
    by_test : (b : Bool) → has_term 1 word r ≡ b → places_in m (rows_from word (n + 1) rows) ≡ positions_of word row.words → places_in m (rows_from word n (r ∷ rows)) ≡ positions_of word row.words
    by_test true f h = rw (f, ne_eqb n m (λ g. omega (arith, g, e))) h
    by_test false f h = rw f h

-- the hits that a sound segment has for a word
pub entry_places : (shown : Shown) (word : List ℕ) (hits : List Hit) → IsSound shown → HasEntry shown.entries 1 word hits
    → (i : ℕ) (doc : Doc) → slice_get shown.docs i ≡ Some doc → places_in i hits ≡ positions_of word (words_of doc.text)
entry_places shown word hits sound has i doc e =
    let have = (sound.entries 1 word hits).0 has in
    ap (places_in i) have.hits_are ∙ places_found word 0 i i (map term_row shown.docs) (term_row doc) (omega arith) (doc_row shown.docs i doc e)

pub word_times : (shown : Shown) (word : List ℕ) (hits : List Hit) → IsSound shown → HasEntry shown.entries 1 word hits
    → (i : ℕ) (doc : Doc) → slice_get shown.docs i ≡ Some doc → length (places_in i hits) ≡ times_of_word word (words_of doc.text)
word_times shown word hits sound has i doc e = ap length (entry_places shown word hits sound has i doc e) ∙ count_places word 0 (words_of doc.text)

-- the words that were found have, in each row, the places of the words of the phrase so far
abbrev pub ArePlaced : List Doc → List (List Hit) → List (List ℕ) → Type 0
ArePlaced docs hits phrase = (row : ℕ) (doc : Doc) → slice_get docs row ≡ Some doc → map (places_in row) hits ≡ map (λ w. positions_of w (words_of doc.text)) phrase

take_one : (xs : List (List ℕ)) (i : ℕ) (x : List ℕ) → slice_get xs i ≡ Some x → take (suc i) xs ≡ take i xs ++ x ∷ []
take_one [] i x e = absurd cc
take_one (y ∷ xs) zero x e = cc
take_one (y ∷ xs) (suc i) x e = ap (λ (ys : List (List ℕ)). y ∷ ys) (take_one xs i x e)

more_cells : (as' bs : List (List ℕ)) (a b : List ℕ) → as' ≡ bs → a ≡ b → as' ++ a ∷ [] ≡ bs ++ b ∷ []
more_cells as' bs a b e f = cc

-- one more word that the segment has
pub placed_more : (shown : Shown) (words more : List (List Hit)) (phrase : List (List ℕ)) (i j : ℕ) (word same : List ℕ) (hits : List Hit) → IsSound shown → ArePlaced shown.docs words (take i phrase)
    → slice_get phrase i ≡ Some word → same ≡ word → HasEntry shown.entries 1 same hits → j ≡ i + 1 → more ≡ words ++ hits ∷ [] → ArePlaced shown.docs more (take j phrase)
placed_more shown words more phrase i j word same hits sound placed is spelt has next pushed row doc here =
    let of : List ℕ → List ℕ = λ w. positions_of w (words_of doc.text) in
    let one : j ≡ suc i = omega (arith, next) in
    ap (map (places_in row)) pushed
    ∙ map_push (places_in row) words hits
    ∙ more_cells (map (places_in row) words) (map of (take i phrase)) (places_in row hits) (of word) (placed row doc here) (entry_places shown same hits sound has row doc here ∙ ap of spelt)
    ∙ sym (map_push of (take i phrase) word)
    ∙ ap (map of) (sym (take_one phrase i word is))
    ∙ ap (λ (n : ℕ). map of (take n phrase)) (sym one)

-- ---- a word that the segment lacks

no_front : (phrase words : List (List ℕ)) (i : ℕ) (word : List ℕ) → slice_get phrase i ≡ Some word → has_word word words ≡ false → stands_at_front phrase words ≡ false
no_front [] words i word is lacks = absurd cc
no_front (p ∷ phrase) [] i word is lacks = refl
no_front (p ∷ phrase) (w ∷ words) zero word is lacks =
    let parts = or_parts (bytes_eq w word) (has_word word words) lacks in
    and_left (bytes_eq p w) (stands_at_front phrase words) (nat_list_eq_equiv.symm p w ∙ ap (bytes_eq w) (same_word p word is) ∙ parts.0)
  where
    same_word : (a b : List ℕ) → Some a ≡ Some b → a ≡ b
    same_word a b e = cc
no_front (p ∷ phrase) (w ∷ words) (suc i) word is lacks =
    let parts = or_parts (bytes_eq w word) (has_word word words) lacks in
    and_right (bytes_eq p w) (stands_at_front phrase words) (no_front phrase words i word is parts.1)

never_stands : (phrase words : List (List ℕ)) (i : ℕ) (word : List ℕ) → slice_get phrase i ≡ Some word → has_word word words ≡ false → times_of_phrase phrase words ≡ 0
never_stands phrase [] i word is lacks =
    let more = count_cons (stands_at_front phrase) [] [] in
    let none : ◌≡◌ {A = ℕ} (if stands_at_front phrase [] then 1 else 0) 0 = rw (no_front phrase [] i word is lacks) refl in
    let empty : count_by (stands_at_front phrase) [] ≡ 0 = refl in
    omega (arith, more, none, empty)
never_stands phrase (w ∷ words) i word is lacks =
    let parts = or_parts (bytes_eq w word) (has_word word words) lacks in
    let more = count_cons (stands_at_front phrase) (w ∷ words) (tails words) in
    let none : ◌≡◌ {A = ℕ} (if stands_at_front phrase (w ∷ words) then 1 else 0) 0 = rw (no_front phrase (w ∷ words) i word is lacks) refl in
    let rest = never_stands phrase words i word is parts.1 in
    omega (arith, more, none, rest)

-- a word that is among no words has no places in them
pub times_without : (shown : Shown) (word : List ℕ) → IsSound shown → HasNoEntry shown.entries 1 word
    → (row : ℕ) (doc : Doc) → slice_get shown.docs row ≡ Some doc → times_of_word word (words_of doc.text) ≡ 0
times_without shown word sound lacks row doc here =
    let none : nat_lt 0 (times_of_word word (words_of doc.text)) ≡ false = sym (any_counted (λ w. bytes_eq w word) (words_of doc.text)) ∙ no_entry_rows shown word sound lacks row doc here in
    let few = ltb-false 0 (times_of_word word (words_of doc.text)) none in
    omega (arith, few)

pub times_lacking : (shown : Shown) (phrase : List (List ℕ)) (i : ℕ) (word same : List ℕ) → IsSound shown → slice_get phrase i ≡ Some word → same ≡ word → HasNoEntry shown.entries 1 same
    → (row : ℕ) (doc : Doc) → slice_get shown.docs row ≡ Some doc → times_of_phrase phrase (words_of doc.text) ≡ 0
times_lacking shown phrase i word same sound is spelt lacks row doc here =
    never_stands phrase (words_of doc.text) i word is (ap (λ (w : List ℕ). has_word w (words_of doc.text)) (sym spelt) ∙ no_entry_rows shown same sound lacks row doc here)

pub phrase_lacks : (shown : Shown) (phrase : List (List ℕ)) (i : ℕ) (word same : List ℕ) → IsSound shown → slice_get phrase i ≡ Some word → same ≡ word → HasNoEntry shown.entries 1 same
    → (row : ℕ) (doc : Doc) → slice_get shown.docs row ≡ Some doc → false ≡ stands_in phrase (words_of doc.text)
phrase_lacks shown phrase i word same sound is spelt lacks row doc here =
    sym (any_counted (stands_at_front phrase) (tails (words_of doc.text)) ∙ ap (nat_lt 0) (times_lacking shown phrase i word same sound is spelt lacks row doc here))

-- ---- all words were found

pub whole : (n : ℕ) (xs : List (List ℕ)) → length xs ≤ n → take n xs ≡ xs
whole zero [] le = refl
whole zero (x ∷ xs) le = absurd (omega (arith, le))
whole (suc n) [] le = refl
whole (suc n) (x ∷ xs) le = ap (λ (ys : List (List ℕ)). x ∷ ys) (whole n xs (omega (arith, le)))

pub times_placed : (docs : List Doc) (hits : List (List Hit)) (phrase so_far : List (List ℕ)) → ArePlaced docs hits so_far → so_far ≡ phrase → 0 < length phrase
    → (row : ℕ) (doc : Doc) → slice_get docs row ≡ Some doc → phrase_times hits row ≡ times_of_phrase phrase (words_of doc.text)
times_placed docs hits [] so_far placed e some row doc here = absurd (omega (arith, some))
times_placed docs hits (p ∷ phrase) so_far placed e some row doc here =
    ap times_together (placed row doc here ∙ ap (map (λ w. positions_of w (words_of doc.text))) e) ∙ phrase_stands p phrase (words_of doc.text)

pub phrase_placed : (docs : List Doc) (hits : List (List Hit)) (phrase so_far : List (List ℕ)) → ArePlaced docs hits so_far → so_far ≡ phrase → 0 < length phrase
    → (row : ℕ) (doc : Doc) → slice_get docs row ≡ Some doc → phrase_in hits row ≡ stands_in phrase (words_of doc.text)
phrase_placed docs hits phrase so_far placed e some row doc here =
    ap (nat_lt 0) (times_placed docs hits phrase so_far placed e some row doc here)
    ∙ sym (any_counted (stands_at_front phrase) (tails (words_of doc.text)))
