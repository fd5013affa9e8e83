-- The hits of live rows that match, as rows are gone through.
use Rattle.std.proofs.Common.{◌≡◌, ℕ, zero, suc, ◌+◌, ◌-◌, ◌^◌, ◌<◌, ◌≤◌, List, [], ◌∷◌, ◌++◌, length, map, drop, replicate, min, Bool, true, false, Option, Some, None, refl, sym, ap, subst, ◌∙◌, inl, inr, arith}
use Rattle.std.specs.Prelude.{◌⊎◌, ◌&&◌, slice_get, slice_index, slice_index_or, bit_and, IfSome, IsTrue, MatchBool, if◌then◌else◌}
use Rattle.std.specs.Int.{bit_at}
use Rattle.std.specs.List.{All, filter, zip}
use Rattle.std.specs.List.Sorted.{IsPermutation}
use Rattle.std.proofs.Math.Seq.{drop-nil}
use Rattle.std.proofs.lemmas.Bool.{cases_lt, and_right}
use Rattle.std.proofs.lemmas.List.{append-nil}
use Rattle.std.proofs.lemmas.Nat.Bits.{bit_at_and, bit_at_above, bit_at-lt}
use Rattle.std.proofs.lemmas.List.Sorted.{IsPermutation-refl, IsPermutation-sym, IsPermutation-trans, IsPermutation-middle, length_permutation}
use Rattle.std.proofs.lemmas.Option.{same_Some, slice_get_cases, slice_get_within, get_or_from_slice_get}
use Rattle.nrt_base.specs.declared.doc.Doc.{Doc}
use Rattle.documents.specs.declared.answer.Answer.{Answer}
use Rattle.documents.specs.declared.answer.Hit.{Hit}
use Rattle.documents.specs.declared.query.Query.{Query}
use Rattle.documents.specs.Matching.{matches_doc, is_well_formed}
use Rattle.documents.specs.Ranking.{hit_of, matching_hits, rank_of, answer_of}
use Rattle.documents.specs.Words.{words_of}
use Rattle.documents.proofs.InOrderLemmas.{hits-permutation}
use Rattle.documents.proofs.RankLemmas.{rank_is_low}
use Rattle.docs_plain.specs.Documents.{IsRow}
use Rattle.seg_reader.specs.Shown.{Shown, live_documents_of}
use Rattle.query_eval.specs.Best.{hit_with, CountsHit}
use Rattle.query_eval.specs.Matching.{CountsMarked, CountsRow, CountsSegment}
use Rattle.query_eval.proofs.HitLemmas.{IsFirstAt}
use Rattle.query_eval.proofs.WindowLemmas.{IsFirstBit}
use Rattle.query_eval.specs.Windows.{bit_of, IsMarked, AddsTimes, StaysFrom, IsWindowStart, AreFirstBits}

-- ---- the hits that are left from a row on

abbrev hits_from : Query → List Doc → List Bool → ℕ → List Hit
hits_from query docs live row = matching_hits query (map (λ x. x.0) (filter (λ x. x.1) (drop row (zip docs live))))

-- those of a row and of the rows behind it
abbrev with_row : Query → Bool → Doc → List Hit → List Hit
with_row query live doc hits = if (live && matches_doc query doc) then hit_of query doc ∷ hits else hits

hits_at : (query : Query) (docs : List Doc) (live : List Bool) (row : ℕ) (doc : Doc) → slice_get docs row ≡ Some doc
    → hits_from query docs live row ≡ with_row query (slice_index_or live row false) doc (hits_from query docs live (suc row))
hits_at query [] live row doc is = absurd cc
hits_at query (d ∷ docs) [] row doc is = ap (λ (xs : List (Doc × Bool)). matching_hits query (map (λ x. x.0) (filter (λ x. x.1) xs))) (drop-nil row)
hits_at query (d ∷ docs) (false ∷ live) zero doc is = refl
hits_at query (d ∷ docs) (true ∷ live) zero doc is = by_test (matches_doc query d) refl ∙ ap (λ (x : Doc). with_row query true x (hits_from query docs live zero)) (same_Some d doc is)
  where
    by_test : (b : Bool) → matches_doc query d ≡ b → matching_hits query (d ∷ map (λ x. x.0) (filter (λ x. x.1) (zip docs live))) ≡ with_row query true d (hits_from query docs live zero)
    by_test true e = rw e refl
    by_test false e = rw e refl
hits_at query (d ∷ docs) (l ∷ live) (suc row) doc is = hits_at query docs live row doc is

-- rows that do not match have none
hits_skip : (query : Query) (docs : List Doc) (live : List Bool) (row n : ℕ) → row + n ≤ length docs
    → ((x : ℕ) (doc : Doc) → row ≤ x → x < row + n → slice_get docs x ≡ Some doc → matches_doc query doc ≡ false) → hits_from query docs live row ≡ hits_from query docs live (row + n)
hits_skip query docs live row zero fits none = let e : row ≡ row + zero = omega arith in ap (hits_from query docs live) e
hits_skip query docs live row (suc n) fits none =
    let e : suc (row + n) ≡ row + suc n = omega arith in
    hits_skip query docs live row n (omega (arith, fits)) (λ x doc le lt is. none x doc le (omega (arith, lt)) is)
    ∙ elim (slice_get_cases docs (row + n)).1 [
      | inl there ↦
          let no : (slice_index_or live (row + n) false && matches_doc query there.0) ≡ false = and_right (slice_index_or live (row + n) false) (matches_doc query there.0) (none (row + n) there.0 (omega arith) (omega arith) there.2) in
          hits_at query docs live (row + n) there.0 there.2 ∙ rw no refl
      | inr past ↦ absurd (let le = past.0 in omega (arith, le, fits))
    ]
    ∙ ap (hits_from query docs live) e

hits_end : (query : Query) (docs : List Doc) (live : List Bool) (row : ℕ) → length docs ≤ row → hits_from query docs live row ≡ []
hits_end query docs live row le = ap (λ (xs : List (Doc × Bool)). matching_hits query (map (λ x. x.0) (filter (λ x. x.1) xs))) (past docs live row le)
  where
    past : (docs : List Doc) (live : List Bool) (row : ℕ) → length docs ≤ row → drop row (zip docs live) ≡ []
    past [] live row le = drop-nil row
    past (d ∷ docs) [] row le = drop-nil row
    past (d ∷ docs) (l ∷ live) zero le = absurd (omega (arith, le))
    past (d ∷ docs) (l ∷ live) (suc row) le = past docs live row (omega (arith, le))

-- ---- what is counted of the rows below a number

-- the same hits in another turn make one answer
pub answer_same : (hits others : List Hit) → IsPermutation hits others → answer_of hits ≡ answer_of others
answer_same hits others moved = let total = length_permutation hits others moved in let first = hits-permutation hits others moved in cc

pub record IsCounted (query : Query) (seg : Shown) (before now : Answer) (row : ℕ) : Type 0 where
  pub few : now.total ≤ before.total + row
  pub is : (hits : List Hit) → before ≡ answer_of hits
      → (all : List Hit) × (now ≡ answer_of all) × IsPermutation (all ++ hits_from query seg.docs seg.live row) (hits ++ hits_from query seg.docs seg.live 0)

pub counted_none : (query : Query) (seg : Shown) (before : Answer) → IsCounted query seg before before 0
counted_none query seg before = record { few = omega arith; is = λ hits e. (hits, e, IsPermutation-refl _) }

-- rows that do not match were passed
counted_skip : (query : Query) (seg : Shown) (before now : Answer) (row at : ℕ) → IsCounted query seg before now row → row ≤ at → at ≤ length seg.docs
    → ((x : ℕ) (doc : Doc) → row ≤ x → x < at → slice_get seg.docs x ≡ Some doc → matches_doc query doc ≡ false) → IsCounted query seg before now at
counted_skip query seg before now row at k le fits none =
    let few = k.few in
    let sum : row + (at - row) ≡ at = omega (arith, le) in
    let same : hits_from query seg.docs seg.live row ≡ hits_from query seg.docs seg.live at =
    hits_skip query seg.docs seg.live row (at - row) (omega (arith, sum, fits)) (λ x doc ge lt is. none x doc ge (omega (arith, lt, sum)) is) ∙ ap (hits_from query seg.docs seg.live) sum in
    record {
      few = omega (arith, few, le);
      is = λ hits e. let k' = k.is hits e in (k'.0, k'.1, subst (λ (left : List Hit). IsPermutation (k'.0 ++ left) (hits ++ hits_from query seg.docs seg.live 0)) same k'.2);
    }

-- a row that matches was counted
counted_row : (query : Query) (seg : Shown) (before now next : Answer) (row : ℕ) (doc : Doc) → IsCounted query seg before now row → slice_get seg.docs row ≡ Some doc → matches_doc query doc ≡ true
    → MatchBool (slice_index_or seg.live row false) (CountsHit (hit_of query doc) now next) (next ≡ now) → IsCounted query seg before next (suc row)
counted_row query seg before now next row doc k is has counts = by_live (slice_index_or seg.live row false) refl counts
  where
    by_live : (b : Bool) → slice_index_or seg.live row false ≡ b → MatchBool b (CountsHit (hit_of query doc) now next) (next ≡ now) → IsCounted query seg before next (suc row)
    by_live true lives one =
        let few = k.few in
        let more = one.more in
        let left : hits_from query seg.docs seg.live row ≡ hit_of query doc ∷ hits_from query seg.docs seg.live (suc row) = hits_at query seg.docs seg.live row doc is ∙ rw (lives, has) refl in
        record {
          few = omega (arith, few, more);
          is = λ hits e. let k' = k.is hits e in (
            hit_of query doc ∷ k'.0,
            one.all k'.0 k'.1,
            IsPermutation-trans _ _ _ (IsPermutation-sym _ _ (IsPermutation-middle k'.0 (hit_of query doc) (hits_from query seg.docs seg.live (suc row))))
                (subst (λ (xs : List Hit). IsPermutation (k'.0 ++ xs) (hits ++ hits_from query seg.docs seg.live 0)) left k'.2),
          );
        }
    by_live false lives same =
        let few = k.few in
        let total : next.total ≡ now.total = ap (λ (a : Answer). a.total) same in
        let left : hits_from query seg.docs seg.live row ≡ hits_from query seg.docs seg.live (suc row) = hits_at query seg.docs seg.live row doc is ∙ rw lives refl in
        record {
          few = omega (arith, few, total);
          is = λ hits e. let k' = k.is hits e in (
            k'.0,
            same ∙ k'.1,
            subst (λ (xs : List Hit). IsPermutation (k'.0 ++ xs) (hits ++ hits_from query seg.docs seg.live 0)) left k'.2,
          );
        }

-- all rows were passed
counted_all : (query : Query) (seg : Shown) (before now : Answer) → IsCounted query seg before now (length seg.docs) → CountsSegment query seg before now
counted_all query seg before now k = record {
  few = k.few;
  all = λ hits e.
      let k' = k.is hits e in
      let none = hits_end query seg.docs seg.live (length seg.docs) (omega arith) in
      k'.1 ∙ answer_same k'.0 (hits ++ matching_hits query (live_documents_of seg))
      (subst (λ (xs : List Hit). IsPermutation xs (hits ++ matching_hits query (live_documents_of seg))) (ap (λ (xs : List Hit). k'.0 ++ xs) none ∙ append-nil k'.0) k'.2);
}

-- ---- the rows that are found

-- the rows from this one on are answered and ranked by their documents, and those below it are counted
pub record IsSearching (query : Query) (seg : Shown) (before : Answer) (answered : ℕ → Bool) (ranks : ℕ → ℕ) (now : Answer) (row : ℕ) : Type 0 where
  pub within : row ≤ length seg.docs
  pub matches : (x : ℕ) (doc : Doc) → row ≤ x → slice_get seg.docs x ≡ Some doc → answered x ≡ matches_doc query doc
  pub ranked : (x : ℕ) (doc : Doc) → row ≤ x → slice_get seg.docs x ≡ Some doc → ranks x ≡ rank_of query (words_of doc.text)
  pub counted : IsCounted query seg before now row

-- no row is passed at first
pub search_start : (query : Query) (seg : Shown) (before : Answer) (answered : ℕ → Bool) (ranks : ℕ → ℕ) → ((x : ℕ) (doc : Doc) → slice_get seg.docs x ≡ Some doc → answered x ≡ matches_doc query doc)
    → ((x : ℕ) (doc : Doc) → slice_get seg.docs x ≡ Some doc → ranks x ≡ rank_of query (words_of doc.text)) → IsSearching query seg before answered ranks before 0
search_start query seg before answered ranks are adds = record {
  within = omega arith;
  matches = λ x doc le is. are x doc is;
  ranked = λ x doc le is. adds x doc is;
  counted = counted_none query seg before;
}

by_rank : (docs : List Doc) (live : List Bool) (row rank least : ℕ) (doc : Doc) (now next : Answer) → slice_get docs row ≡ Some doc → least ≡ rank
    → IfSome (slice_get docs row) (λ doc. MatchBool (slice_index_or live row false) (CountsHit (hit_with doc.key least) now next) (next ≡ now))
    → MatchBool (slice_index_or live row false) (CountsHit (hit_with doc.key rank) now next) (next ≡ now)
by_rank docs live row rank least doc now next is e counts =
    subst (λ (n : ℕ). MatchBool (slice_index_or live row false) (CountsHit (hit_with doc.key n) now next) (next ≡ now)) e
    (subst (λ (o : Option Doc). IfSome o (λ doc. MatchBool (slice_index_or live row false) (CountsHit (hit_with doc.key least) now next) (next ≡ now))) is counts)

-- rows up to the one that is found do not match
none_before : (query : Query) (seg : Shown) (before now : Answer) (answered : ℕ → Bool) (ranks : ℕ → ℕ) (row at : ℕ) → IsSearching query seg before answered ranks now row → IsFirstAt answered row at
    → (x : ℕ) (doc : Doc) → row ≤ x → x < at → slice_get seg.docs x ≡ Some doc → matches_doc query doc ≡ false
none_before query seg before now answered ranks row at k first x doc le lt is = sym (k.matches x doc le is) ∙ first.2 x le lt

-- a row was found and counted; those behind it are answered and ranked as before
pub search_step : (query : Query) (seg : Shown) (before now next : Answer) (answered after : ℕ → Bool) (ranks moved : ℕ → ℕ) (row at rank : ℕ) → IsSearching query seg before answered ranks now row
    → IsFirstAt answered row at → at < length seg.docs → ((x : ℕ) → at < x → after x ≡ answered x) → ((x : ℕ) → at < x → moved x ≡ ranks x) → rank ≡ ranks at → CountsRow seg at rank now next
    → IsSearching query seg before after moved next (at + 1)
search_step query seg before now next answered after ranks moved row at rank k first lt stays keeps here counts = elim (slice_get_cases seg.docs at).1 [
  | inl there ↦
      let doc = there.0 in
      let is : slice_get seg.docs at ≡ Some doc = there.2 in
      let from : row ≤ at = first.0 in
      let has : matches_doc query doc ≡ true = sym (k.matches at doc from is) ∙ first.1 in
      let passed = counted_skip query seg before now row at k.counted from (omega (arith, lt)) (none_before query seg before now answered ranks row at k first) in
      let one : suc at ≡ at + 1 = omega arith in
      record {
        within = omega (arith, lt);
        matches = λ x doc' le is'. stays x (omega (arith, le)) ∙ k.matches x doc' (omega (arith, from, le)) is';
        ranked = λ x doc' le is'. keeps x (omega (arith, le)) ∙ k.ranked x doc' (omega (arith, from, le)) is';
        counted = subst (λ (n : ℕ). IsCounted query seg before next n) one
            (counted_row query seg before now next at doc passed is has (by_rank seg.docs seg.live at (rank_of query (words_of doc.text)) rank doc now next is (here ∙ k.ranked at doc from is) counts));
      }
  | inr past ↦ absurd (let le = past.0 in omega (arith, le, lt))
]

-- a row that is not answered is passed
pub search_skip : (query : Query) (seg : Shown) (before now : Answer) (answered : ℕ → Bool) (ranks : ℕ → ℕ) (row : ℕ) → IsSearching query seg before answered ranks now row → row < length seg.docs → answered row ≡ false
    → IsSearching query seg before answered ranks now (row + 1)
search_skip query seg before now answered ranks row k lt none = record {
  within = omega (arith, lt);
  matches = λ x doc le is. k.matches x doc (omega (arith, le)) is;
  ranked = λ x doc le is. k.ranked x doc (omega (arith, le)) is;
  counted = counted_skip query seg before now row (row + 1) k.counted (omega arith) (omega (arith, lt))
      (λ x doc le up is. let at : row ≡ x = omega (arith, le, up) in sym (k.matches x doc le is) ∙ ap answered (sym at) ∙ none);
}

-- no row is left
pub search_none : (query : Query) (seg : Shown) (before now : Answer) (answered : ℕ → Bool) (ranks : ℕ → ℕ) (row : ℕ) → IsSearching query seg before answered ranks now row
    → ((x : ℕ) → row ≤ x → x < length seg.docs → answered x ≡ false) → CountsSegment query seg before now
search_none query seg before now answered ranks row k none =
    counted_all query seg before now (counted_skip query seg before now row (length seg.docs) k.counted k.within (omega arith)
    (λ x doc le lt is. sym (k.matches x doc le is) ∙ none x le lt))

-- 32 bits tell the rank of a row
row_of_docs : (docs : List Doc) (row : ℕ) (doc : Doc) → All IsRow docs → slice_get docs row ≡ Some doc → IsRow doc
row_of_docs docs row doc rows is = subst IsRow (get_or_from_slice_get docs row doc doc is) (rows row doc (slice_get_within docs row doc is))

rank_fits : (query : Query) (seg : Shown) (before now : Answer) (answered : ℕ → Bool) (ranks : ℕ → ℕ) (row : ℕ) → IsTrue (is_well_formed query) → All IsRow seg.docs
    → IsSearching query seg before answered ranks now row → row < length seg.docs → min (ranks row) (2 ^ 32 - 1) ≡ ranks row
rank_fits query seg before now answered ranks row formed rows k lt = elim (slice_get_cases seg.docs row).1 [
  | inl there ↦
      let rank = k.ranked row there.0 (omega arith) there.2 in
      let low = rank_is_low query there.0.text formed (row_of_docs seg.docs row there.0 rows there.2).text in
      omega (arith, rank, low)
  | inr past ↦ absurd (let le = past.0 in omega (arith, le, lt))
]

-- ---- window by window

few_of : (o : Option Doc) (live : Bool) (rank : ℕ) (old new : Answer) (doc : Doc) → o ≡ Some doc → IfSome o (λ doc. MatchBool live (CountsHit (hit_with doc.key rank) old new) (new ≡ old)) → new.total ≤ old.total + 1
few_of None live rank old new doc is counts = absurd cc
few_of (Some d) true rank old new doc is counts = let more = counts.more in omega (arith, more)
few_of (Some d) false rank old new doc is same = let e : new.total ≡ old.total = ap (λ (a : Answer). a.total) same in omega (arith, e)

-- a row that was counted is one document more at most
row_few : (seg : Shown) (row rank : ℕ) (old new : Answer) → row < length seg.docs → CountsRow seg row rank old new → new.total ≤ old.total + 1
row_few seg row rank old new lt counts = elim (slice_get_cases seg.docs row).1 [
  | inl there ↦ few_of (slice_get seg.docs row) (slice_index_or seg.live row false) rank old new there.0 there.2 counts
  | inr past ↦ absurd (let le = past.0 in omega (arith, le, lt))
]

-- of a window's rows so many were counted
pub record IsCounting (seg : Shown) (start marks : ℕ) (times : List ℕ) (old now : Answer) (place : ℕ) : Type 0 where
  pub few : now.total ≤ old.total + place
  pub counts : CountsMarked seg start marks times place old now

pub counting_start : (seg : Shown) (start marks : ℕ) (times : List ℕ) (old : Answer) → IsCounting seg start marks times old old 0
counting_start seg start marks times old = record { few = omega arith; counts = refl }

-- rows whose bits are not set are passed
counting_skip : (seg : Shown) (start marks : ℕ) (times : List ℕ) (old now : Answer) (place n : ℕ) → IsCounting seg start marks times old now place
    → ((i : ℕ) → place ≤ i → i < place + n → bit_at marks i ≡ 0) → IsCounting seg start marks times old now (place + n)
counting_skip seg start marks times old now place zero k none = let e : place ≡ place + zero = omega arith in subst (IsCounting seg start marks times old now) e k
counting_skip seg start marks times old now place (suc n) k none =
    let before = counting_skip seg start marks times old now place n k (λ i le lt. none i le (omega (arith, lt))) in
    let few = before.few in
    let clear : bit_at marks (place + n) ≡ 0 = none (place + n) (omega arith) (omega arith) in
    let e : suc (place + n) ≡ place + suc n = omega arith in
    subst (IsCounting seg start marks times old now) e (record {
      few = omega (arith, few);
      counts = (now, before.counts, λ set. absurd (omega (arith, set, clear)), λ clear. refl);
    })

-- a row whose bit is set was counted
counting_row : (seg : Shown) (start marks : ℕ) (times : List ℕ) (old now next : Answer) (place : ℕ) → IsCounting seg start marks times old now place → bit_at marks place ≡ 1 → start + place < length seg.docs
    → CountsRow seg (start + place) (min (slice_index times place) (2 ^ 32 - 1)) now next → IsCounting seg start marks times old next (place + 1)
counting_row seg start marks times old now next place k set within row =
    let few = k.few in
    let more = row_few seg (start + place) (min (slice_index times place) (2 ^ 32 - 1)) now next within row in
    let e : suc place ≡ place + 1 = omega arith in
    subst (IsCounting seg start marks times old next) e (record {
      few = omega (arith, few, more);
      counts = (now, k.counts, λ one. row, λ clear. absurd (omega (arith, set, clear)));
    })

-- the next row whose bit is set was counted
pub counting_next : (seg : Shown) (start marks : ℕ) (times : List ℕ) (old now next : Answer) (place found more rank : ℕ) → IsCounting seg start marks times old now place → IsFirstBit marks place found → start + found < length seg.docs
    → rank ≡ min (slice_index times found) (2 ^ 32 - 1) → CountsRow seg (start + found) rank now next → more ≡ found + 1 → IsCounting seg start marks times old next more
counting_next seg start marks times old now next place found more rank k f within is row e =
    let from = f.from in
    let at : place + (found - place) ≡ found = omega (arith, from) in
    let here : IsCounting seg start marks times old now found =
    subst (IsCounting seg start marks times old now) at (counting_skip seg start marks times old now place (found - place) k (λ i le lt. f.clear i le (omega (arith, lt, at)))) in
    subst (IsCounting seg start marks times old next) (sym e) (counting_row seg start marks times old now next found here f.set within (subst (λ (n : ℕ). CountsRow seg (start + found) n now next) is row))

-- no bit is set any more
pub counting_end : (seg : Shown) (start marks : ℕ) (times : List ℕ) (old now : Answer) (place : ℕ) → IsCounting seg start marks times old now place → place ≤ 64 → ((i : ℕ) → place ≤ i → bit_at marks i ≡ 0)
    → CountsMarked seg start marks times 64 old now
counting_end seg start marks times old now place k few none =
    let at : place + (64 - place) ≡ 64 = omega (arith, few) in
    (subst (IsCounting seg start marks times old now) at (counting_skip seg start marks times old now place (64 - place) k (λ i le lt. none i le))).counts

-- all places were passed
pub counting_all : (seg : Shown) (start marks : ℕ) (times : List ℕ) (old now : Answer) (place : ℕ) → IsCounting seg start marks times old now place → place ≤ 64 → 64 ≤ place → CountsMarked seg start marks times 64 old now
counting_all seg start marks times old now place k few all =
    let at : place ≡ 64 = omega (arith, few, all) in
    (subst (IsCounting seg start marks times old now) at k).counts

-- the marks of a window tell of the rows of the segment in it whether they are answered, and no bit behind them is set
pub record IsWindow (answered : ℕ → Bool) (ranks : ℕ → ℕ) (rows start marks : ℕ) (times : List ℕ) : Type 0 where
  pub marks_are : (i : ℕ) → i < 64 → start + i < rows → bit_at marks i ≡ bit_of (answered (start + i))
  pub beyond : (i : ℕ) → rows ≤ start + i → bit_at marks i ≡ 0
  pub times_are : (i : ℕ) → i < 64 → start + i < rows → min (slice_index times i) (2 ^ 32 - 1) ≡ min (ranks (start + i)) (2 ^ 32 - 1)

one_or_none : (b : Bool) (n : ℕ) → n ≡ bit_of b → (n ≡ 1) ⊎ (n ≡ 0)
one_or_none true n e = inl e
one_or_none false n e = inr e

-- so many of its rows were counted
window_rows : (query : Query) (seg : Shown) (before now next : Answer) (answered : ℕ → Bool) (ranks : ℕ → ℕ) (start marks n : ℕ) (times : List ℕ) → IsTrue (is_well_formed query) → All IsRow seg.docs
    → IsSearching query seg before answered ranks now start → IsWindow answered ranks (length seg.docs) start marks times → n ≤ 64 → start + n ≤ length seg.docs
    → CountsMarked seg start marks times n now next → IsSearching query seg before answered ranks next (start + n)
window_rows query seg before now next answered ranks start marks zero times formed texts k w few within same =
    let e : start ≡ start + zero = omega arith in
    subst (λ (a : Answer). IsSearching query seg before answered ranks a (start + zero)) (sym same) (subst (IsSearching query seg before answered ranks now) e k)
window_rows query seg before now next answered ranks start marks (suc n) times formed texts k w few within counts =
    let mid = counts.0 in
    let so_far = window_rows query seg before now mid answered ranks start marks n times formed texts k w (omega (arith, few)) (omega (arith, within)) counts.1 in
    let at : start + n < length seg.docs = omega (arith, within) in
    let e : start + n + 1 ≡ start + suc n = omega arith in
    let bit = w.marks_are n (omega (arith, few)) at in
    subst (IsSearching query seg before answered ranks next) e (elim (one_or_none (answered (start + n)) (bit_at marks n) bit) [
      | inl one ↦
          let yes : answered (start + n) ≡ true = is_set (answered (start + n)) (sym bit ∙ one) in
          let rank : min (slice_index times n) (2 ^ 32 - 1) ≡ ranks (start + n) = w.times_are n (omega (arith, few)) at ∙ rank_fits query seg before mid answered ranks (start + n) formed texts so_far at in
          search_step query seg before mid next answered answered ranks ranks (start + n) (start + n) (min (slice_index times n) (2 ^ 32 - 1)) so_far (omega arith, yes, λ x le lt. absurd (omega (arith, le, lt))) at
          (λ x up. refl) (λ x up. refl) rank (counts.2 one)
      | inr none ↦
          subst (λ (a : Answer). IsSearching query seg before answered ranks a (start + n + 1)) (sym (counts.3 none))
          (search_skip query seg before mid answered ranks (start + n) so_far at (is_clear (answered (start + n)) (sym bit ∙ none)))
    ])
  where
    is_set : (b : Bool) → bit_of b ≡ 1 → b ≡ true
    is_set true e = refl
    is_set false e = absurd (omega (arith, e))

    is_clear : (b : Bool) → bit_of b ≡ 0 → b ≡ false
    is_clear true e = absurd (omega (arith, e))
    is_clear false e = refl

-- rows behind those of the segment are not counted
rows_behind : (seg : Shown) (start marks m n : ℕ) (times : List ℕ) (old new : Answer) → ((i : ℕ) → m ≤ i → bit_at marks i ≡ 0) → CountsMarked seg start marks times (m + n) old new → CountsMarked seg start marks times m old new
rows_behind seg start marks m zero times old new none counts = let e : m + zero ≡ m = omega arith in subst (λ (k : ℕ). CountsMarked seg start marks times k old new) e counts
rows_behind seg start marks m (suc n) times old new none counts =
    let e : m + suc n ≡ suc (m + n) = omega arith in
    let last : CountsMarked seg start marks times (suc (m + n)) old new = subst (λ (k : ℕ). CountsMarked seg start marks times k old new) e counts in
    rows_behind seg start marks m n times old new none (subst (CountsMarked seg start marks times (m + n) old) (sym (last.3 (none (m + n) (omega arith)))) last.1)

-- a window that ends within the segment was counted; the rows behind it are answered and ranked as before
pub window_step : (query : Query) (seg : Shown) (before now next : Answer) (answered after : ℕ → Bool) (ranks moved : ℕ → ℕ) (start marks : ℕ) (times : List ℕ) → IsTrue (is_well_formed query) → All IsRow seg.docs
    → IsSearching query seg before answered ranks now start → IsWindow answered ranks (length seg.docs) start marks times → CountsMarked seg start marks times 64 now next → start + 64 < length seg.docs
    → StaysFrom (start + 64) answered after → StaysFrom (start + 64) ranks moved → IsSearching query seg before after moved next (start + 64)
window_step query seg before now next answered after ranks moved start marks times formed texts k w counts within stays keeps =
    let all = window_rows query seg before now next answered ranks start marks 64 times formed texts k w (omega arith) (omega (arith, within)) counts in
    record {
      within = all.within;
      matches = λ x doc le is. stays x le ∙ all.matches x doc le is;
      ranked = λ x doc le is. keeps x le ∙ all.ranked x doc le is;
      counted = all.counted;
    }

-- the last window was counted
pub window_end : (query : Query) (seg : Shown) (before now next : Answer) (answered : ℕ → Bool) (ranks : ℕ → ℕ) (start marks : ℕ) (times : List ℕ) → IsTrue (is_well_formed query) → All IsRow seg.docs
    → IsSearching query seg before answered ranks now start → IsWindow answered ranks (length seg.docs) start marks times → CountsMarked seg start marks times 64 now next → start ≤ length seg.docs
    → length seg.docs ≤ start + 64 → CountsSegment query seg before next
window_end query seg before now next answered ranks start marks times formed texts k w counts from near =
    let m : ℕ = length seg.docs - start in
    let sum : start + m ≡ length seg.docs = omega (arith, from) in
    let all : m + (64 - m) ≡ 64 = omega (arith, near, from) in
    let rows : CountsMarked seg start marks times m now next = rows_behind seg start marks m (64 - m) times now next (λ i le. w.beyond i (omega (arith, le, sum))) (subst (λ (n : ℕ). CountsMarked seg start marks times n now next) (sym all) counts) in
    search_none query seg before next answered ranks (start + m) (window_rows query seg before now next answered ranks start marks m times formed texts k w (omega (arith, near, from)) (omega (arith, sum)) rows)
    (λ x le lt. absurd (omega (arith, le, lt, sum)))

-- rows that are not answered were passed
pub window_seek : (query : Query) (seg : Shown) (before now : Answer) (answered after : ℕ → Bool) (ranks moved : ℕ → ℕ) (row start : ℕ) → IsSearching query seg before answered ranks now row
    → IsWindowStart answered row (length seg.docs) start → StaysFrom start answered after → StaysFrom start ranks moved → IsSearching query seg before after moved now start
window_seek query seg before now answered after ranks moved row start k s stays keeps =
    let from = s.from in
    let below = s.below in
    record {
      within = omega (arith, below);
      matches = λ x doc le is. stays x le ∙ k.matches x doc (omega (arith, le, from)) is;
      ranked = λ x doc le is. keeps x le ∙ k.ranked x doc (omega (arith, le, from)) is;
      counted = counted_skip query seg before now row start k.counted from (omega (arith, below)) (λ x doc le lt is. sym (k.matches x doc le is) ∙ s.between x le lt);
    }

-- the marks of the cursor and the bits of the rows that there are
pub window_of : (answered : ℕ → Bool) (ranks : ℕ → ℕ) (rows start marks bits : ℕ) (none times : List ℕ) → rows < 2 ^ 32 → start ≤ rows → IsMarked answered start marks → AreFirstBits (rows - start) bits
    → bits < 2 ^ 64 → ((i : ℕ) → slice_index none i ≡ 0) → AddsTimes ranks start none times
    → IsWindow answered ranks rows start (bit_and marks bits) times
window_of answered ranks rows start marks bits none times fits from marked first small empty adds = record {
  marks_are = λ i lt below.
      let one = first.set i lt (omega (arith, below, from)) in
      let mark = marked i lt (omega (arith, below, fits)) in
      let few = bit_at-lt marks i in
      let both = bit_at_and marks bits i in
      omega (arith, one, mark, few, both);
  beyond = λ i le.
      let both = bit_at_and marks bits i in
      let clear : bit_at bits i ≡ 0 = elim (cases_lt i 64) [
        | inl lt ↦ first.clear i lt (omega (arith, le, from))
        | inr far ↦ bit_at_above bits 64 i small far
      ] in
      omega (arith, both, clear);
  times_are = λ i lt below.
      let sum = adds.each i lt (omega (arith, below, fits)) in
      let zero_there = empty i in
      omega (arith, sum, zero_there);
}

-- no number of a new window is above 0
pub all_zero : (n i : ℕ) → slice_index (replicate n 0) i ≡ 0
all_zero zero i = refl
all_zero (suc n) zero = refl
all_zero (suc n) (suc i) = all_zero n i

-- the rows that are marked are rows of the segment
pub window_within : (answered : ℕ → Bool) (ranks : ℕ → ℕ) (rows start marks : ℕ) (times : List ℕ) → IsWindow answered ranks rows start marks times → (i : ℕ) → bit_at marks i ≡ 1 → start + i < rows
window_within answered ranks rows start marks times w i set = elim (cases_lt (start + i) rows) [
  | inl lt ↦ lt
  | inr beyond ↦ absurd (let clear = w.beyond i beyond in omega (arith, set, clear))
]

-- there is room for those of the segment from the window's start on
pub window_room : (query : Query) (seg : Shown) (before now : Answer) (answered : ℕ → Bool) (ranks : ℕ → ℕ) (row start : ℕ) → IsSearching query seg before answered ranks now row → row ≤ start → start ≤ length seg.docs
    → before.total + length seg.docs < 2 ^ 32 → now.total + (length seg.docs - start) < 2 ^ 32
window_room query seg before now answered ranks row start k up within room = let few = k.counted.few in omega (arith, few, up, within, room)

-- there is room for one more of them
pub counting_room : (seg : Shown) (start marks : ℕ) (times : List ℕ) (old now : Answer) (place found : ℕ) → IsCounting seg start marks times old now place → IsFirstBit marks place found → start + found < length seg.docs
    → old.total + (length seg.docs - start) < 2 ^ 32 → now.total + 1 < 2 ^ 32
counting_room seg start marks times old now place found k f within room = let few = k.few in let from = f.from in omega (arith, few, from, within, room)

-- a window that is begun: the rows before it are passed, and its marks and times tell of its rows
pub record IsBegun (query : Query) (seg : Shown) (before now : Answer) (answered : ℕ → Bool) (ranks : ℕ → ℕ) (start marks : ℕ) (times : List ℕ) : Type 0 where
  pub within : start < length seg.docs
  pub searching : IsSearching query seg before answered ranks now start
  pub window : IsWindow answered ranks (length seg.docs) start marks times

pub window_begun : (query : Query) (seg : Shown) (before now : Answer) (answered after : ℕ → Bool) (ranks moved : ℕ → ℕ) (row rows start marks bits : ℕ) (times : List ℕ) → rows ≡ length seg.docs → rows < 2 ^ 32
    → IsSearching query seg before answered ranks now row → IsWindowStart answered row rows start → StaysFrom start answered after → StaysFrom start ranks moved → IsMarked after start marks → AreFirstBits (rows - start) bits
    → bits < 2 ^ 64 → AddsTimes moved start (replicate 64 0) times → IsBegun query seg before now after moved start (bit_and marks bits) times
window_begun query seg before now answered after ranks moved row rows start marks bits times all fits k s stays keeps marked first small adds =
    let below = s.below in
    record {
      within = omega (arith, below, all);
      searching = window_seek query seg before now answered after ranks moved row start k (subst (λ (n : ℕ). IsWindowStart answered row n start) all s) stays keeps;
      window = subst (λ (n : ℕ). IsWindow after moved n start (bit_and marks bits) times) all
          (window_of after moved rows start marks bits (replicate 64 0) times fits (omega (arith, below)) marked first small (all_zero 64) adds);
    }
