-- A search may leave out documents that lack a word which every match has.
use Rattle.std.proofs.Common.{◌≡◌, ℕ, suc, ◌+◌, ◌<◌, List, [], ◌∷◌, ◌++◌, length, get_or, drop, map, Bool, true, false, inl, inr, refl, sym, ap, ◌∙◌, append-nil, drop-cons, add-one, arith}
use Rattle.std.specs.Prelude.{◌&&◌, ◌||◌, ◌^◌, ◌⊎◌, bytes_eq, nat_le}
use Rattle.std.specs.List.{filter, list_any, list_all}
use Rattle.std.proofs.lemmas.Cmp.{nat_list_eq_equiv}
use Rattle.std.proofs.Math.Bool.{or-false}
use Rattle.std.proofs.lemmas.Bool.{and_parts, and_left, and_right, or_cases, or_left, or_right}
use Rattle.std.proofs.lemmas.List.{map-append, length-append}
use Rattle.std.proofs.lemmas.List.Elements.{filter-append}
use Rattle.std.proofs.lemmas.List.Folds.{list_any-append}
use Rattle.nrt_base.specs.Bytes.{is_text}
use Rattle.nrt_base.specs.declared.doc.Doc.{Doc}
use Rattle.documents.specs.declared.query.Query.{Query}
use Rattle.documents.specs.Documents.{document_of}
use Rattle.documents.specs.Matching.{stands_at_front, stands_in, matches_doc}
use Rattle.documents.specs.Ranking.{rank_of, hit_of, matching_hits, is_too_high}
use Rattle.documents.specs.Words.{words_of, has_word}
use Rattle.history_points.specs.Candidates.{HaveMatches}

-- where a phrase stands, its first word is among the words
pub front_word : (p : List ℕ) (phrase words : List (List ℕ)) → stands_in (p ∷ phrase) words ≡ true → has_word p words ≡ true
front_word p phrase [] stands = absurd cc
front_word p phrase (w ∷ words) stands = elim (or_cases (stands_at_front (p ∷ phrase) (w ∷ words)) (stands_in (p ∷ phrase) words) stands) [
  | inl here ↦ or_left (bytes_eq w p) (has_word p words) (sym (nat_list_eq_equiv.symm p w) ∙ (and_parts (bytes_eq p w) (stands_at_front phrase words) here).0)
  | inr later ↦ or_right (bytes_eq w p) (has_word p words) (front_word p phrase words later)
]

-- ---- the parts of a query

front_part : (parts : List Query) (i : ℕ) (part : Query) → i < length parts → part ≡ get_or parts i part → drop i parts ≡ part ∷ drop (i + 1) parts
front_part parts i part low is = rw add-one (drop-cons parts i part low ∙ ap (λ (q : Query). q ∷ drop (suc i) parts) (sym is))

-- where all parts from a place on pass, the one there does, and all behind it
pub all_from : (test : Query → Bool) (parts : List Query) (i : ℕ) (part : Query) → i < length parts → part ≡ get_or parts i part
    → list_all test (drop i parts) ≡ true → (test part ≡ true) × (list_all test (drop (i + 1) parts) ≡ true)
all_from test parts i part low is all =
    and_parts (test part) (list_all test (drop (i + 1) parts)) (sym (ap (list_all test) (front_part parts i part low is)) ∙ all)

-- where some part from a place on passes, the one there does, or some behind it
pub some_from : (test : Query → Bool) (parts : List Query) (i : ℕ) (part : Query) → i < length parts → part ≡ get_or parts i part
    → list_any test (drop i parts) ≡ true → (test part ≡ true) ⊎ (list_any test (drop (i + 1) parts) ≡ true)
some_from test parts i part low is some =
    or_cases (test part) (list_any test (drop (i + 1) parts)) (sym (ap (list_any test) (front_part parts i part low is)) ∙ some)

-- ---- the documents

hits-append : (query : Query) (docs more : List Doc) → matching_hits query (docs ++ more) ≡ matching_hits query docs ++ matching_hits query more
hits-append query docs more =
    ap (map (hit_of query)) (filter-append (matches_doc query) docs more) ∙ map-append (hit_of query) (filter (matches_doc query) docs) (filter (matches_doc query) more)

-- one more document is looked at
pub one_more : (query : Query) (all some new : List Doc) (doc : Doc) → new ≡ some ++ doc ∷ [] → HaveMatches query all some → HaveMatches query (all ++ doc ∷ []) new
one_more query all some new doc is h = rw is (record {
  hits =
      hits-append query some (doc ∷ []) ∙ ap (λ hs. hs ++ matching_hits query (doc ∷ [])) h.hits ∙ sym (hits-append query all (doc ∷ []));
  high =
      list_any-append (is_too_high query) some (doc ∷ []) ∙ ap (λ (b : Bool). b || list_any (is_too_high query) (doc ∷ [])) h.high
      ∙ sym (list_any-append (is_too_high query) all (doc ∷ []));
  few =
      let low = h.few in
      omega (arith, low, length-append some (doc ∷ []), length-append all (doc ∷ []));
})

-- a document that the query does not match is left out
pub one_less : (query : Query) (all some : List Doc) (doc : Doc) → matches_doc query doc ≡ false → HaveMatches query all some → HaveMatches query (all ++ doc ∷ []) some
one_less query all some doc other h =
    let none : matching_hits query (doc ∷ []) ≡ [] = rw other refl in
    let low : is_too_high query doc ≡ false =
    and_right (is_text doc.text) (matches_doc query doc && nat_le (2 ^ 32) (rank_of query (words_of doc.text)))
    (and_left (matches_doc query doc) (nat_le (2 ^ 32) (rank_of query (words_of doc.text))) other) in
    let below = h.few in
    record {
      hits = h.hits ∙ sym (append-nil (matching_hits query all)) ∙ ap (λ hs. matching_hits query all ++ hs) (sym none) ∙ sym (hits-append query all (doc ∷ []));
      high =
          h.high ∙ sym (or-false (list_any (is_too_high query) all)) ∙ ap (λ (b : Bool). list_any (is_too_high query) all || (b || false)) (sym low)
          ∙ sym (list_any-append (is_too_high query) all (doc ∷ []));
      few = omega (arith, below, length-append all (doc ∷ []));
    }

-- no document was looked at
pub none_yet : (query : Query) → HaveMatches query [] []
none_yet query = record { hits = refl; high = refl; few = omega arith }

-- the documents of entries that a walk has passed, with one more
pub documents_more : {X : Type 0} (pair : X → List ℕ × List ℕ) (passed : List X) (next : X)
    → map document_of (map pair (passed ++ next ∷ [])) ≡ map document_of (map pair passed) ++ document_of (pair next) ∷ []
documents_more pair passed next = ap (map document_of) (map-append pair passed (next ∷ [])) ∙ map-append document_of (map pair passed) (pair next ∷ [])
