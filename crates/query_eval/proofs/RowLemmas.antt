-- The rows of a word, found from documents, are those whose text has it, with its positions there.
use Rattle.std.proofs.Common.{◌≡◌, ℕ, zero, suc, ◌+◌, ◌<◌, List, [], ◌∷◌, map, Bool, true, false, Some, refl, sym, ap, ◌∙◌, arith}
use Rattle.std.specs.Prelude.{slice_get}
use Rattle.std.specs.List.{list_any, filter, enumerate_from}
use Rattle.std.proofs.lemmas.Bool.{ne_eqb, eq-eqb, or_right}
use Rattle.std.proofs.lemmas.Option.{same_Some}
use Rattle.nrt_base.specs.declared.doc.Doc.{Doc}
use Rattle.documents.specs.Words.{words_of, has_word}
use Rattle.postings_plain.specs.declared.row.TermRow.{TermRow}
use Rattle.postings_plain.specs.Postings.{Hit}
use Rattle.postings_plain.specs.Body.{HasEntry, HasNoEntry}
use Rattle.postings_plain.specs.Inverting.{has_term, positions_of, rows_with}
use Rattle.seg_reader.specs.Shown.{Shown}
use Rattle.seg_reader.specs.Sound.{term_row, IsSound}
use Rattle.query_eval.specs.Phrases.{has_row}

-- the rows that have a word, where the first of them is numbered so
abbrev pub rows_from : List ℕ → ℕ → List TermRow → List Hit
rows_from word n rows = map (λ x. (x.0, positions_of word x.1.words)) (filter (λ x. has_term 1 word x.1) (enumerate_from n rows))

none_before : (word : List ℕ) (n : ℕ) (rows : List TermRow) (x : ℕ) → x < n → has_row (rows_from word n rows) x ≡ false
none_before word n [] x lt = refl
none_before word n (r ∷ rows) x lt = by_test (has_term 1 word r) refl (none_before word (n + 1) rows x (omega (arith, lt)))
  where
    by_test : (b : Bool) → has_term 1 word r ≡ b → has_row (rows_from word (n + 1) rows) x ≡ false → has_row (rows_from word n (r ∷ rows)) x ≡ false
    by_test true e h = rw (e, ne_eqb n x (λ f. omega (arith, f, lt))) h
    by_test false e h = rw e h

row_found : (word : List ℕ) (n i : ℕ) (rows : List TermRow) (row : TermRow) → slice_get rows i ≡ Some row → has_row (rows_from word n rows) (n + i) ≡ has_term 1 word row
row_found word n i [] row e = absurd cc
row_found word n zero (r ∷ rows) row e = by_test (has_term 1 word r) refl ∙ ap (has_term 1 word) (same_Some r row e)
  where
    by_test : (b : Bool) → has_term 1 word r ≡ b → has_row (rows_from word n (r ∷ rows)) (n + zero) ≡ has_term 1 word r
    by_test true f = rw (f, eq-eqb n (n + zero) (omega arith)) refl
    by_test false f = rw f (none_before word (n + 1) rows (n + zero) (omega arith))
row_found word n (suc i) (r ∷ rows) row e = by_test (has_term 1 word r) refl (row_found word (n + 1) i rows row e)
  where
    by_test : (b : Bool) → has_term 1 word r ≡ b → has_row (rows_from word (n + 1) rows) ((n + 1) + i) ≡ has_term 1 word row → has_row (rows_from word n (r ∷ rows)) (n + suc i) ≡ has_term 1 word row
    by_test true f h = let m : (n + 1) + i ≡ n + suc i = omega arith in rw (f, ne_eqb n (n + suc i) (λ g. omega (arith, g))) (ap (has_row (rows_from word (n + 1) rows)) (sym m) ∙ h)
    by_test false f h = let m : (n + 1) + i ≡ n + suc i = omega arith in rw f (ap (has_row (rows_from word (n + 1) rows)) (sym m) ∙ h)

pub doc_row : (docs : List Doc) (i : ℕ) (doc : Doc) → slice_get docs i ≡ Some doc → slice_get (map term_row docs) i ≡ Some (term_row doc)
doc_row [] i doc e = absurd cc
doc_row (d ∷ docs) zero doc e = cc
doc_row (d ∷ docs) (suc i) doc e = doc_row docs i doc e

from_zero : (hits : List Hit) (i : ℕ) → has_row hits (0 + i) ≡ has_row hits i
from_zero hits i = let e : 0 + i ≡ i = omega arith in ap (has_row hits) e

-- the rows that have a word are those whose text has it
pub word_rows : (docs : List Doc) (word : List ℕ) (i : ℕ) (doc : Doc) → slice_get docs i ≡ Some doc
    → has_row (rows_with 1 word (map term_row docs)) i ≡ has_word word (words_of doc.text)
word_rows docs word i doc e =
    sym (from_zero (rows_with 1 word (map term_row docs)) i)
    ∙ row_found word 0 i (map term_row docs) (term_row doc) (doc_row docs i doc e)

-- the hits that a sound segment has for a word
pub entry_rows : (shown : Shown) (word : List ℕ) (hits : List Hit) → IsSound shown → HasEntry shown.entries 1 word hits
    → (i : ℕ) (doc : Doc) → slice_get shown.docs i ≡ Some doc → has_row hits i ≡ has_word word (words_of doc.text)
entry_rows shown word hits sound has i doc e =
    let have = (sound.entries 1 word hits).0 has in
    ap (λ hs. has_row hs i) have.hits_are ∙ word_rows shown.docs word i doc e

found_any : (word : List ℕ) (i : ℕ) (rows : List TermRow) (row : TermRow) → slice_get rows i ≡ Some row → has_term 1 word row ≡ true → list_any (has_term 1 word) rows ≡ true
found_any word i [] row e has = absurd cc
found_any word zero (r ∷ rows) row e has = rw (ap (has_term 1 word) (same_Some r row e) ∙ has) refl
found_any word (suc i) (r ∷ rows) row e has = or_right (has_term 1 word r) (list_any (has_term 1 word) rows) (found_any word i rows row e has)

-- a word that a sound segment lacks is in no text
pub no_entry_rows : (shown : Shown) (word : List ℕ) → IsSound shown → HasNoEntry shown.entries 1 word
    → (i : ℕ) (doc : Doc) → slice_get shown.docs i ≡ Some doc → has_word word (words_of doc.text) ≡ false
no_entry_rows shown word sound none i doc e = by_test (has_word word (words_of doc.text)) refl
  where
    by_test : (b : Bool) → has_word word (words_of doc.text) ≡ b → b ≡ false
    by_test false f = refl
    by_test true f =
        let some = found_any word i (map term_row shown.docs) (term_row doc) (doc_row shown.docs i doc e) f in
        absurd (none (rows_with 1 word (map term_row shown.docs)) ((sound.entries 1 word (rows_with 1 word (map term_row shown.docs))).1 (record { kind = omega arith; some = some; hits_are = refl })))
