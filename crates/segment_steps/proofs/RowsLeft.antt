-- Live rows that are left after one key or word and another.
use Rattle.std.proofs.Common.{◌≡◌, ℕ, Bool, true, false, not, List, [], ◌∷◌, ◌++◌, Option, Some, None, refl, sym, ap, ◌∙◌}
use Rattle.std.specs.Prelude.{◌&&◌, ◌||◌}
use Rattle.std.specs.List.{list_any}
use Rattle.std.proofs.lemmas.Bool.{eq-eqb}
use Rattle.std.proofs.lemmas.List.Folds.{list_any-append}
use Rattle.nrt_base.specs.declared.doc.Doc.{Doc}
use Rattle.live_bits.specs.LiveRows.{live_rows}
use Rattle.seg_merge.specs.Given.{Shown}
use Rattle.documents.specs.declared.operation.Op.TheVariants.{Delete, Drop}
use Rattle.documents.specs.Documents.{removes}
use Rattle.segment_steps.specs.Cut.{live_left, has_key_of, has_word_of}
use Rattle.segment_steps.specs.Segments.{live_change, changed}
use Rattle.segment_steps.specs.Killing.{where_fewer}

left_none : (docs : List Doc) (live : List Bool) → live_left (λ d. false) docs live ≡ live
left_none [] live = refl
left_none (d ∷ docs) [] = refl
left_none (d ∷ docs) (row ∷ live) = cells row (left_none docs live)
  where
    cells : (r : Bool) → live_left (λ x. false) docs live ≡ live → (r && true) ∷ live_left (λ x. false) docs live ≡ r ∷ live
    cells true e = ap (λ (ls : List Bool). true ∷ ls) e
    cells false e = ap (λ (ls : List Bool). false ∷ ls) e

left_twice : (a b : Doc → Bool) (docs : List Doc) (live : List Bool) → live_left b docs (live_left a docs live) ≡ live_left (λ d. a d || b d) docs live
left_twice a b [] live = refl
left_twice a b (d ∷ docs) [] = refl
left_twice a b (d ∷ docs) (row ∷ live) = cells row (a d) (b d) (left_twice a b docs live)
  where
    cells : (r s t : Bool) → live_left b docs (live_left a docs live) ≡ live_left (λ x. a x || b x) docs live
        → ((r && not s) && not t) ∷ live_left b docs (live_left a docs live) ≡ (r && not (s || t)) ∷ live_left (λ x. a x || b x) docs live
    cells true true t e = ap (λ (ls : List Bool). false ∷ ls) e
    cells true false t e = ap (λ (ls : List Bool). not t ∷ ls) e
    cells false s t e = ap (λ (ls : List Bool). false ∷ ls) e

pub left_agree : (a b : Doc → Bool) → ((d : Doc) → a d ≡ b d) → (docs : List Doc) (live : List Bool) → live_left a docs live ≡ live_left b docs live
left_agree a b same [] live = refl
left_agree a b same (d ∷ docs) [] = refl
left_agree a b same (d ∷ docs) (row ∷ live) = cells (a d) (b d) (live_left a docs live) (live_left b docs live) (same d) (left_agree a b same docs live)
  where
    cells : (s t : Bool) (xs ys : List Bool) → s ≡ t → xs ≡ ys → (row && not s) ∷ xs ≡ (row && not t) ∷ ys
    cells s t xs ys e f = cc

pub no_key : (docs : List Doc) (live : List Bool) → live ≡ live_left (has_key_of []) docs live
no_key docs live = sym (left_none docs live)

pub no_word : (docs : List Doc) (live : List Bool) → live ≡ live_left (has_word_of []) docs live
no_word docs live = sym (left_none docs live)

last_one : (test : List ℕ → Doc → Bool) (terms : List (List ℕ)) (term : List ℕ) (d : Doc) → (list_any (λ t. test t d) terms || test term d) ≡ list_any (λ t. test t d) (terms ++ term ∷ [])
last_one test terms term d = ap (λ (b : Bool). list_any (λ t. test t d) terms || b) (or_none (test term d)) ∙ sym (list_any-append (λ (t : List ℕ). test t d) terms (term ∷ []))
  where
    or_none : (b : Bool) → b ≡ (b || false)
    or_none true = refl
    or_none false = refl

one_more_of : (test : List ℕ → Doc → Bool) (docs : List Doc) (live now new : List Bool) (terms : List (List ℕ)) (term : List ℕ) → now ≡ live_left (λ d. list_any (λ t. test t d) terms) docs live
    → new ≡ live_left (test term) docs now → new ≡ live_left (λ d. list_any (λ t. test t d) (terms ++ term ∷ [])) docs live
one_more_of test docs live now new terms term so_far more =
    more ∙ ap (live_left (test term) docs) so_far ∙ left_twice (λ d. list_any (λ t. test t d) terms) (test term) docs live
    ∙ left_agree (λ d. list_any (λ t. test t d) terms || test term d) (λ d. list_any (λ t. test t d) (terms ++ term ∷ [])) (last_one test terms term) docs live

pub one_key_more : (docs : List Doc) (live now new : List Bool) (keys : List (List ℕ)) (key : List ℕ) → now ≡ live_left (has_key_of keys) docs live → new ≡ live_left (removes (Delete key)) docs now
    → new ≡ live_left (has_key_of (keys ++ key ∷ [])) docs live
one_key_more = one_more_of (λ key d. removes (Delete key) d)

pub one_word_more : (docs : List Doc) (live now new : List Bool) (words : List (List ℕ)) (word : List ℕ) → now ≡ live_left (has_word_of words) docs live → new ≡ live_left (removes (Drop word)) docs now
    → new ≡ live_left (has_word_of (words ++ word ∷ [])) docs live
one_word_more = one_more_of (λ word d. removes (Drop word) d)

-- after the keys the words
pub keys_and_words : (docs : List Doc) (live now new : List Bool) (keys words : List (List ℕ)) (gone : Doc → Bool) → ((d : Doc) → (has_key_of keys d || has_word_of words d) ≡ gone d)
    → now ≡ live_left (has_key_of keys) docs live → new ≡ live_left (has_word_of words) docs now → new ≡ live_left gone docs live
keys_and_words docs live now new keys words gone agree first more =
    more ∙ ap (live_left (has_word_of words) docs) first ∙ left_twice (has_key_of keys) (has_word_of words) docs live
    ∙ left_agree (λ d. has_key_of keys d || has_word_of words d) gone agree docs live

-- what is told of a change is what dies by it
pub change_told : (gone : Doc → Bool) (s : Shown) (change : Option (List Bool)) (before : ℕ) → (changed s change).live ≡ live_left gone s.docs s.live → before ≡ live_rows s.live → where_fewer before change ≡ live_change gone s
change_told gone s None before left count =
    let e : live_rows (live_left gone s.docs s.live) ≡ live_rows s.live = sym (ap live_rows left) in
    rw (eq-eqb (live_rows (live_left gone s.docs s.live)) (live_rows s.live) e) refl
change_told gone s (Some live) before left count =
    ap (λ (n : ℕ). where_fewer n (Some live)) count ∙ ap (λ (rows : List Bool). where_fewer (live_rows s.live) (Some rows)) left
