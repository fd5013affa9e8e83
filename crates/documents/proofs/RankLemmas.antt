-- How high a query ranks, from how high its parts do, and that no well-formed query ranks too high for 32 bits.
use Rattle.std.proofs.Common.{◌≡◌, ℕ, ◌+◌, ◌-◌, ◌*◌, ◌^◌, ◌<◌, ◌≤◌, List, [], ◌∷◌, length, take, drop, Bool, true, false, Some, ltb, inl, inr, refl, ap, ◌∙◌, sym, arith}
use denote.Hole.Carrier.{hidden}
use Rattle.std.specs.Prelude.{◌&&◌, nat_le, IsTrue, ◌==◌, ◌⊎◌, sum_by, count_by, bytes_eq, if◌then◌else◌}
use Rattle.std.specs.List.{list_any, filter}
use Rattle.std.specs.Ordering.{is_lt}
use Rattle.std.proofs.lemmas.Bool.{and_parts, leb-true, ltb-false, lt-ltb, ltb-true, eqb-true, or_cases}
use Rattle.std.proofs.lemmas.List.{length-map}
use Rattle.std.proofs.lemmas.List.Sums.{sum_by-cons, count_by-le-length, length-filter}
use Rattle.std.proofs.Math.Nat.{add-mul}
use Rattle.std.proofs.lemmas.Nat.{mul-le}
use Rattle.std.proofs.Math.ListN.{drop_of_length-le}
use Rattle.nrt_base.specs.Bytes.{is_text}
use Rattle.nrt_base.specs.declared.doc.Doc.{Doc}
use Rattle.documents.specs.declared.answer.Hit.{Hit}
use Rattle.documents.specs.declared.query.Query.{Query, Word, Phrase, All, Any, Not, All', Any', Not', Row_of-Query, end_of-Query, more_of-Query, items-the_row-Query, items_hidden-the_row-Query-0}
use Rattle.documents.specs.declared.query.Query.TheBlock.{hidden-the_row-Query-1}
use Rattle.documents.specs.InOrder.{with_item, in_order}
use Rattle.documents.specs.Matching.{tails, stands_at_front, matches_doc, depth_of, leaves_of, all_leaves, has_form, all_have_form, is_well_formed}
use Rattle.documents.specs.Ranking.{times_of_phrase, rank_of, sum_of_ranks, matching_hits, hit_of, hit_cmp, fitting, first_rank, is_too_high}
use Rattle.documents.specs.Words.{words_of}
use Rattle.documents.proofs.MatchingLemmas.{row_of, all_from, tails_from}
use Rattle.documents.proofs.WordLemmas.{length-words_of-le}

-- ---- the parts of a query

sum_of_ranks-row : (words : List (List ℕ)) (n : _) (row : Row_of-Query n) → sum_of_ranks row words ≡ sum_by (λ part. rank_of part words) (items-the_row-Query n row)
sum_of_ranks-row words n end_of-Query = refl
sum_of_ranks-row words n (more_of-Query part parts) =
    ap (λ (k : ℕ). rank_of part words + k) (sum_of_ranks-row words _ parts)
    ∙ sym (sum_by-cons (λ (q : Query). rank_of q words) part (items-the_row-Query _ parts))

pub rank_all : (parts : List Query) (words : List (List ℕ)) → rank_of (All parts) words ≡ sum_by (λ part. rank_of part words) parts
rank_all parts words =
    let row = row_of (All parts) in
    sum_of_ranks-row words row.0 row.1 ∙ ap (sum_by (λ part. rank_of part words)) (items_hidden-the_row-Query-0 parts)

pub rank_any : (parts : List Query) (words : List (List ℕ)) → rank_of (Any parts) words ≡ sum_by (λ part. rank_of part words) parts
rank_any parts words =
    let row = row_of (Any parts) in
    sum_of_ranks-row words row.0 row.1 ∙ ap (sum_by (λ part. rank_of part words)) (items_hidden-the_row-Query-0 parts)

pub rank_not : (part : Query) (words : List (List ℕ)) → rank_of (Not part) words ≡ 0
unfolding hidden-the_row-Query-1 hidden
rank_not part words = refl

-- ---- the places of a phrase

-- one more place was looked at
pub times_behind : (phrase words : List (List ℕ)) (i : ℕ) → i < length words
    → times_of_phrase phrase (drop i words)
    ≡ (if stands_at_front phrase (take (length words - i) (drop i words)) then 1 else 0) + times_of_phrase phrase (drop (i + 1) words)
times_behind phrase words i less =
    ap (count_by (stands_at_front phrase)) (tails_from words i less)
    ∙ sum_by-cons (λ (ws : List (List ℕ)). if stands_at_front phrase ws then 1 else 0) (drop i words) (tails (drop (i + 1) words))
    ∙ ap (λ (ws : List (List ℕ)). (if stands_at_front phrase ws then 1 else 0) + times_of_phrase phrase (drop (i + 1) words)) (sym (all_from words i))

-- a place was looked at
pub one_place : (phrase words : List (List ℕ)) (i times now total : ℕ) (b : Bool) → i < length words
    → b ≡ stands_at_front phrase (take (length words - i) (drop i words)) → now ≡ times + (if b then 1 else 0)
    → times + times_of_phrase phrase (drop i words) ≡ total → now + times_of_phrase phrase (drop (i + 1) words) ≡ total
one_place phrase words i times now total b less is counted told =
    let rest = times_of_phrase phrase (drop (i + 1) words) in
    let here = times_behind phrase words i less ∙ ap (λ (t : Bool). (if t then 1 else 0) + rest) (sym is) in
    omega (arith, here, counted, told)

-- ---- a sum of ranks

-- a sum of all items, where 32 bits tell it
pub whole_sum : (f : Query → ℕ) (items : List Query) (i sum total : ℕ) → length items ≤ i → sum < 2 ^ 32 → sum + sum_by f (drop i items) ≡ total
    → Some sum ≡ fitting total
whole_sum f items i sum total all small told =
    let none : sum_by f (drop i items) ≡ 0 = ap (sum_by f) (drop_of_length-le items all) in
    let same : sum ≡ total = omega (arith, none, told) in
    rw (lt-ltb total (2 ^ 32) (omega (arith, same, small))) (ap Some same)

-- ---- the greatest rank

length-tails : (words : List (List ℕ)) → length (tails words) ≡ length words + 1
length-tails [] = refl
length-tails (w ∷ words) = let rest = length-tails words in omega (arith, rest)

times_few : (p : List ℕ) (phrase words : List (List ℕ)) → times_of_phrase (p ∷ phrase) words ≤ length words
times_few p phrase [] = omega arith
times_few p phrase (w ∷ words) =
    let here = sum_by-cons (λ (ws : List (List ℕ)). if stands_at_front (p ∷ phrase) ws then 1 else 0) (w ∷ words) (tails words) in
    omega (arith, here, times_few p phrase words, one (stands_at_front (p ∷ phrase) (w ∷ words)))
  where
    one : (b : Bool) → (if b then 1 else 0) ≤ 1
    one true = omega arith
    one false = omega arith

phrase_few : (phrase words : List (List ℕ)) → nat_le 2 (length phrase) ≡ true → times_of_phrase phrase words ≤ 1 * length words
phrase_few [] words form = absurd cc
phrase_few (p ∷ phrase) words form = omega (arith, times_few p phrase words)

share : (a b r s n : ℕ) → r ≤ a * n → s ≤ b * n → r + s ≤ (a + b) * n
share a b r s n low few = omega (arith, low, few, add-mul a b n)

mutual
  rank_shared : (query : Query) (words : List (List ℕ)) → has_form query ≡ true → rank_of query words ≤ leaves_of query * length words
  rank_shared (Word w) words form = omega (arith, count_by-le-length (λ (x : List ℕ). bytes_eq x w) words)
  rank_shared (Phrase phrase) words form = phrase_few phrase words form
  rank_shared (All' shape parts) words form = ranks_shared _ parts words (and_parts _ (all_have_form parts) form).1
  rank_shared (Any' shape parts) words form = ranks_shared _ parts words (and_parts _ (all_have_form parts) form).1
  rank_shared (Not' shape parts) words form = omega arith

  ranks_shared : (n : _) (row : Row_of-Query n) (words : List (List ℕ)) → all_have_form row ≡ true → sum_of_ranks row words ≤ all_leaves row * length words
  ranks_shared n end_of-Query words form = omega arith
  ranks_shared n (more_of-Query part parts) words form =
      let both = and_parts (has_form part) (all_have_form parts) form in
      share (leaves_of part) (all_leaves parts) (rank_of part words) (sum_of_ranks parts words) (length words)
      (rank_shared part words both.0) (ranks_shared _ parts words both.1)

most : (a b r : ℕ) → a ≤ 64 → b ≤ 2048 → r ≤ a * b → r ≤ 131072
most a b r few short low = omega (arith, low, mul-le a b 64 2048 few short)

-- a well-formed query ranks a text at 131,072 at most
pub rank_is_low : (query : Query) (text : List ℕ) → IsTrue (is_well_formed query) → IsTrue (is_text text) → rank_of query (words_of text) ≤ 131072
rank_is_low query text formed kind =
    let outer = and_parts (has_form query && nat_le (depth_of query) 32) (nat_le (leaves_of query) 64) formed in
    let form = (and_parts (has_form query) (nat_le (depth_of query) 32) outer.0).0 in
    most (leaves_of query) (length (words_of text)) (rank_of query (words_of text)) (leb-true (leaves_of query) 64 outer.1)
    (length-words_of-le text kind) (rank_shared query (words_of text) form)

-- ---- ranks too high for 32 bits

-- no document ranks too high for a well-formed query
pub never_too_high : (query : Query) (docs : List Doc) → IsTrue (is_well_formed query) → list_any (is_too_high query) docs ≡ true → ⊥
never_too_high query [] formed high = absurd cc
never_too_high query (d ∷ docs) formed high = elim (or_cases (is_too_high query d) (list_any (is_too_high query) docs) high) [
  | inl here ↦ too_high here
  | inr later ↦ never_too_high query docs formed later
]
  where
    too_high : is_too_high query d ≡ true → ⊥
    too_high here =
        let rank = rank_of query (words_of d.text) in
        let text = and_parts (is_text d.text) (matches_doc query d && nat_le (2 ^ 32) rank) here in
        let above = leb-true (2 ^ 32) rank (and_parts (matches_doc query d) (nat_le (2 ^ 32) rank) text.1).1 in
        absurd (omega (arith, rank_is_low query d.text formed text.0, above))

rank_before : (a b : Hit) → is_lt (hit_cmp a b) ≡ true → b.rank ≤ a.rank
rank_before a b before = by_less (ltb b.rank a.rank) refl
  where
    by_same : (t : Bool) → (b.rank == a.rank) ≡ t → ltb b.rank a.rank ≡ false → b.rank ≤ a.rank
    by_same true e f = omega (arith, eqb-true b.rank a.rank e)
    by_same false e f = let bad : false ≡ true = sym (rw (f, e) refl) ∙ before in absurd cc

    by_less : (t : Bool) → ltb b.rank a.rank ≡ t → b.rank ≤ a.rank
    by_less true e = omega (arith, ltb-true b.rank a.rank e)
    by_less false e = by_same (b.rank == a.rank) refl e

rank_behind : (a b : Hit) → is_lt (hit_cmp a b) ≡ false → a.rank ≤ b.rank
rank_behind a b behind = by_less (ltb b.rank a.rank) refl
  where
    by_less : (t : Bool) → ltb b.rank a.rank ≡ t → a.rank ≤ b.rank
    by_less true e = let bad : true ≡ false = sym (rw e refl) ∙ behind in absurd cc
    by_less false e = ltb-false b.rank a.rank e

first_rank-with : (hits : List Hit) (hit : Hit) → (first_rank hits ≤ first_rank (with_item hit_cmp hits hit)) × (hit.rank ≤ first_rank (with_item hit_cmp hits hit))
first_rank-with [] hit = (omega arith, omega arith)
first_rank-with (h ∷ hits) hit = by_test (is_lt (hit_cmp h hit)) refl
  where
    by_test : (b : Bool) → is_lt (hit_cmp h hit) ≡ b
        → (h.rank ≤ first_rank (if b then h ∷ with_item hit_cmp hits hit else hit ∷ h ∷ hits)) × (hit.rank ≤ first_rank (if b then h ∷ with_item hit_cmp hits hit else hit ∷ h ∷ hits))
    by_test true e = (omega arith, rank_before h hit e)
    by_test false e = (rank_behind h hit e, omega arith)

-- where a document ranks too high, the first hit does
first_too_high : (query : Query) (docs : List Doc) → list_any (is_too_high query) docs ≡ true → 2 ^ 32 ≤ first_rank (in_order hit_cmp (matching_hits query docs))
first_too_high query [] high = absurd cc
first_too_high query (d ∷ docs) high =
    by_match (λ later. first_too_high query docs later) (matches_doc query d) refl (or_cases (is_too_high query d) (list_any (is_too_high query) docs) high)
  where
    rank : ℕ
    rank = rank_of query (words_of d.text)

    rest : List Hit
    rest = in_order hit_cmp (matching_hits query docs)

    high_match : is_too_high query d ≡ true → (matches_doc query d ≡ true) × (nat_le (2 ^ 32) rank ≡ true)
    high_match here = and_parts (matches_doc query d) (nat_le (2 ^ 32) rank) (and_parts (is_text d.text) (matches_doc query d && nat_le (2 ^ 32) rank) here).1

    by_match : (list_any (is_too_high query) docs ≡ true → 2 ^ 32 ≤ first_rank rest) → (b : Bool) → matches_doc query d ≡ b → (is_too_high query d ≡ true) ⊎ (list_any (is_too_high query) docs ≡ true)
        → 2 ^ 32 ≤ first_rank (in_order hit_cmp (matching_hits query (d ∷ docs)))
    by_match before true e (inl here) =
        let both = first_rank-with rest (hit_of query d) in
        rw e (omega (arith, leb-true (2 ^ 32) rank (high_match here).1, both.1))
    by_match before true e (inr later) =
        let both = first_rank-with rest (hit_of query d) in
        rw e (omega (arith, before later, both.0))
    by_match before false e (inl here) = let bad : false ≡ true = sym e ∙ (high_match here).0 in absurd cc
    by_match before false e (inr later) = rw e (before later)

first_rank-take : (hits : List Hit) → first_rank (take 20 hits) ≡ first_rank hits
first_rank-take [] = refl
first_rank-take (hit ∷ hits) = refl

-- where a document ranks too high, no hits that 32 bits tell are those of the answer
pub not_told : (query : Query) (docs : List Doc) (hits : List Hit) → first_rank hits < 2 ^ 32 → list_any (is_too_high query) docs ≡ true
    → hits ≡ take 20 (in_order hit_cmp (matching_hits query docs)) → ⊥
not_told query docs hits told high same =
    let first = ap first_rank same ∙ first_rank-take (in_order hit_cmp (matching_hits query docs)) in
    absurd (omega (arith, told, first, first_too_high query docs high))

-- no more hits than documents
pub few_hits : (docs : List Doc) (query : Query) (hits : List Hit) → length docs < 2 ^ 32 → hits ≡ matching_hits query docs → length hits < 2 ^ 32
few_hits docs query hits few is =
    let same = ap length is ∙ length-map (filter (matches_doc query) docs) (hit_of query) ∙ length-filter (matches_doc query) docs in
    omega (arith, few, same, count_by-le-length (matches_doc query) docs)
