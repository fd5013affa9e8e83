-- What was counted of the segments so far, and the answer that comes of it.
use Rattle.std.proofs.Common.{◌≡◌, ℕ, zero, suc, ◌+◌, ◌^◌, ◌<◌, ◌≤◌, List, [], ◌∷◌, ◌++◌, length, map, take, drop, get_or, set, append_assoc, Bool, true, false, refl, sym, ap, subst, ◌∙◌, arith, drop-cons}
use Rattle.std.specs.List.{filter, swap}
use Rattle.std.specs.List.Sorted.{IsPermutation}
use Rattle.std.proofs.lemmas.Grind.{flat_map-append}
use Rattle.std.proofs.lemmas.List.{append-nil, map-append, take_all}
use Rattle.std.proofs.lemmas.List.Elements.{filter-append}
use Rattle.std.proofs.lemmas.List.Sorted.{IsPermutation-refl, IsPermutation-keeps, IsPermutation-trans, IsPermutation-append_left, IsPermutation-append_right, IsPermutation-append_comm}
use Rattle.std.proofs.lemmas.List.Sums.{sum_by-cons}
use Rattle.nrt_base.specs.declared.doc.Doc.{Doc}
use Rattle.documents.specs.declared.answer.Answer.{Answer}
use Rattle.documents.specs.declared.answer.Hit.{Hit}
use Rattle.documents.specs.declared.query.Query.{Query}
use Rattle.documents.specs.Matching.{matches_doc}
use Rattle.documents.specs.Ranking.{hit_of, matching_hits, answer_of, scan_of}
use Rattle.seg_reader.specs.Shown.{Shown, live_documents, live_documents_of, AreLiveDocuments}
use Rattle.query_eval.specs.Matching.{CountsSegment, rows_of}
use Rattle.query_eval.proofs.SearchLemmas.{answer_same}

-- ---- documents in another turn

-- a relation that is reflexive and transitive, goes under a head and over two heads in turn holds along each permutation
module _ {X : Type 0} (R : List X → List X → Type 0) (same : (xs : List X) → R xs xs)
    (skip : (x : X) (xs ys : List X) → R xs ys → R (x ∷ xs) (x ∷ ys))
    (turn : (x y : X) (xs : List X) → R (x ∷ y ∷ xs) (y ∷ x ∷ xs))
    (chain : (xs ys zs : List X) → R xs ys → R ys zs → R xs zs) where
  to_head : (xs : List X) (j : ℕ) (x d : X) → j < length xs → R (x ∷ xs) (get_or xs j d ∷ set xs j x)
  to_head [] j x d lt = absurd (omega (arith, lt))
  to_head (y ∷ xs) zero x d lt = turn x y xs
  to_head (y ∷ xs) (suc j) x d lt =
      chain _ _ _ (turn x y xs) (chain _ _ _ (skip y _ _ (to_head xs j x d (omega (arith, lt)))) (turn y (get_or xs j d) (set xs j x)))

  exchanged : (xs : List X) (i j : ℕ) (d : X) → i < length xs → j < length xs → R xs (set (set xs i (get_or xs j d)) j (get_or xs i d))
  exchanged [] i j d p q = absurd (omega (arith, p))
  exchanged (x ∷ xs) zero zero d p q = same (x ∷ xs)
  exchanged (x ∷ xs) zero (suc j) d p q = to_head xs j x d (omega (arith, q))
  exchanged (x ∷ xs) (suc i) zero d p q = to_head xs i x d (omega (arith, p))
  exchanged (x ∷ xs) (suc i) (suc j) d p q = skip x _ _ (exchanged xs i j d (omega (arith, p)) (omega (arith, q)))

  swapped : (xs : List X) (i j : ℕ) → i < length xs → j < length xs → R xs (swap xs i j)
  swapped [] i j p q = same []
  swapped (x ∷ xs) i j p q = exchanged (x ∷ xs) i j x p q

  along_permutation : (xs ys : List X) → IsPermutation xs ys → R xs ys
  along_permutation xs = IsPermutation-keeps xs (R xs) (same xs) (λ l i j p q h. chain xs l _ h (swapped l i j p q))

-- a document that may match, before the hits of others
abbrev with_doc : Query → Doc → List Hit → List Hit
with_doc query doc hits = matching_hits query (doc ∷ []) ++ hits

matching_hits-cons : (query : Query) (doc : Doc) (docs : List Doc) → matching_hits query (doc ∷ docs) ≡ with_doc query doc (matching_hits query docs)
matching_hits-cons query doc docs = by_test (matches_doc query doc) refl
  where
    by_test : (b : Bool) → matches_doc query doc ≡ b → matching_hits query (doc ∷ docs) ≡ with_doc query doc (matching_hits query docs)
    by_test true e = rw e refl
    by_test false e = rw e refl

matching_hits-permutation : (query : Query) (docs others : List Doc) → IsPermutation docs others → IsPermutation (matching_hits query docs) (matching_hits query others)
matching_hits-permutation query = along_permutation (λ docs others. IsPermutation (matching_hits query docs) (matching_hits query others))
    (λ docs. IsPermutation-refl _)
    (λ doc docs others moved. moved_under doc docs others (IsPermutation-append_right (matching_hits query (doc ∷ [])) _ _ moved))
    (λ a b docs. turned a b docs)
    (λ docs others last. IsPermutation-trans _ _ _)
  where
    moved_under : (doc : Doc) (docs others : List Doc) → IsPermutation (with_doc query doc (matching_hits query docs)) (with_doc query doc (matching_hits query others))
        → IsPermutation (matching_hits query (doc ∷ docs)) (matching_hits query (doc ∷ others))
    moved_under doc docs others moved =
        subst (λ (hs : List Hit). IsPermutation hs (matching_hits query (doc ∷ others))) (sym (matching_hits-cons query doc docs))
        (subst (λ (hs : List Hit). IsPermutation (with_doc query doc (matching_hits query docs)) hs) (sym (matching_hits-cons query doc others)) moved)

    two : (a b : Doc) (docs : List Doc) → matching_hits query (a ∷ b ∷ docs) ≡ (matching_hits query (a ∷ []) ++ matching_hits query (b ∷ [])) ++ matching_hits query docs
    two a b docs =
        matching_hits-cons query a (b ∷ docs) ∙ ap (λ (hs : List Hit). matching_hits query (a ∷ []) ++ hs) (matching_hits-cons query b docs)
        ∙ sym (append_assoc (matching_hits query (a ∷ [])) (matching_hits query (b ∷ [])) (matching_hits query docs))

    turned : (a b : Doc) (docs : List Doc) → IsPermutation (matching_hits query (a ∷ b ∷ docs)) (matching_hits query (b ∷ a ∷ docs))
    turned a b docs =
        subst (λ (hs : List Hit). IsPermutation hs (matching_hits query (b ∷ a ∷ docs))) (sym (two a b docs))
        (subst (λ (hs : List Hit). IsPermutation ((matching_hits query (a ∷ []) ++ matching_hits query (b ∷ [])) ++ matching_hits query docs) hs) (sym (two b a docs))
        (IsPermutation-append_left (matching_hits query docs) _ _ (IsPermutation-append_comm (matching_hits query (a ∷ [])) (matching_hits query (b ∷ [])))))

-- ---- the segments so far

pub record AreCounted (query : Query) (so_far left : List Shown) (found : Answer) : Type 0 where
  pub room : found.total + rows_of left < 2 ^ 32
  pub is : found ≡ answer_of (matching_hits query (live_documents so_far))

pub counted_none : (query : Query) (segs : List Shown) (found : Answer) → found ≡ answer_of [] → rows_of segs < 2 ^ 32 → AreCounted query [] segs found
counted_none query segs found e few =
    let none : found.total ≡ 0 = ap (λ (a : Answer). a.total) e in
    record { room = omega (arith, none, few); is = e }

split : (segs : List Shown) (i : ℕ) (seg : Shown) → i < length segs → seg ≡ get_or segs i seg → drop i segs ≡ seg ∷ drop (suc i) segs
split segs i seg lt item = drop-cons segs i seg lt ∙ ap (λ (s : Shown). s ∷ drop (suc i) segs) (sym item)

rows_split : (segs : List Shown) (i : ℕ) (seg : Shown) → i < length segs → seg ≡ get_or segs i seg → rows_of (drop i segs) ≡ length seg.docs + rows_of (drop (suc i) segs)
rows_split segs i seg lt item = ap rows_of (split segs i seg lt item) ∙ sum_by-cons (λ (s : Shown). length s.docs) seg (drop (suc i) segs)

take_one : (segs : List Shown) (i : ℕ) (seg : Shown) → i < length segs → seg ≡ get_or segs i seg → take (suc i) segs ≡ take i segs ++ seg ∷ []
take_one [] i seg lt item = absurd (omega (arith, lt))
take_one (s ∷ segs) zero seg lt item = ap (λ (x : Shown). x ∷ []) (sym item)
take_one (s ∷ segs) (suc i) seg lt item = ap (λ (xs : List Shown). s ∷ xs) (take_one segs i seg (omega (arith, lt)) item)

-- there is room for the next segment
pub room_for : (query : Query) (segs : List Shown) (i : ℕ) (seg : Shown) (found : Answer) → AreCounted query (take i segs) (drop i segs) found → i < length segs → seg ≡ get_or segs i seg
    → found.total + length seg.docs < 2 ^ 32
room_for query segs i seg found k lt item =
    let room = k.room in
    let rows = rows_split segs i seg lt item in
    omega (arith, room, rows)

more_hits : (query : Query) (so_far : List Shown) (seg : Shown)
    → matching_hits query (live_documents (so_far ++ seg ∷ [])) ≡ matching_hits query (live_documents so_far) ++ matching_hits query (live_documents_of seg)
more_hits query so_far seg =
    ap (matching_hits query) (flat_map-append live_documents_of so_far (seg ∷ []) ∙ ap (λ (docs : List Doc). live_documents so_far ++ docs) (append-nil (live_documents_of seg)))
    ∙ ap (map (hit_of query)) (filter-append (matches_doc query) (live_documents so_far) (live_documents_of seg))
    ∙ map-append (hit_of query) (filter (matches_doc query) (live_documents so_far)) (filter (matches_doc query) (live_documents_of seg))

-- the next segment was counted
pub counted_next : (query : Query) (segs : List Shown) (i j : ℕ) (seg : Shown) (found next : Answer) → AreCounted query (take i segs) (drop i segs) found → i < length segs → seg ≡ get_or segs i seg
    → j ≡ i + 1 → CountsSegment query seg found next → AreCounted query (take j segs) (drop j segs) next
counted_next query segs i j seg found next k lt item up one =
    let room = k.room in
    let few = one.few in
    let rows = rows_split segs i seg lt item in
    let at : suc i ≡ j = omega (arith, up) in
    subst (λ (n : ℕ). AreCounted query (take n segs) (drop n segs) next) at (record {
      room = omega (arith, room, few, rows);
      is =
          one.all (matching_hits query (live_documents (take i segs))) k.is
          ∙ ap answer_of (sym (ap (λ (ss : List Shown). matching_hits query (live_documents ss)) (take_one segs i seg lt item) ∙ more_hits query (take i segs) seg));
    })

same_answer : (answer found : Answer) → answer.total ≡ found.total → answer.hits ≡ found.hits → answer ≡ found
same_answer answer found total hits = by_parts answer.total found.total answer.hits found.hits total hits
  where
    by_parts : (t u : ℕ) (hs ks : List Hit) → t ≡ u → hs ≡ ks → ◌≡◌ {A = Answer} (record { total = t; hits = hs }) (record { total = u; hits = ks })
    by_parts t u hs ks e f = cc

-- all were counted
pub answer_is : (query : Query) (segs : List Shown) (n : ℕ) (left : List Shown) (found answer : Answer) → AreCounted query (take n segs) left found → length segs ≤ n → answer.total ≡ found.total → answer.hits ≡ found.hits
    → (docs : List Doc) → AreLiveDocuments segs docs → answer ≡ scan_of docs query
answer_is query segs n left found answer k all total hits docs are =
    same_answer answer found total hits ∙ k.is ∙ ap (λ (ss : List Shown). answer_of (matching_hits query (live_documents ss))) (take_all n segs all)
    ∙ answer_same (matching_hits query (live_documents segs)) (matching_hits query docs) (matching_hits-permutation query (live_documents segs) docs are.same)
