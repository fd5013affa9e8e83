-- What is answered by a cursor that is put together of those of parts.
use Rattle.std.proofs.Common.{◌≡◌, ℕ, suc, ◌+◌, ◌<◌, ◌≤◌, List, ◌∷◌, length, drop, get_or, Bool, Result, Ok, Err, Option, Some, None, refl, sym, ap, ◌∙◌, arith, drop-cons}
use Rattle.std.specs.Prelude.{◌&&◌, ◌||◌, not, slice_get, IfOk}
use Rattle.std.specs.List.{list_any, list_all, sum_by}
use Rattle.std.specs.Option.{unwrap_or}
use Rattle.std.proofs.Math.Bool.{and_assoc, or_assoc, and-true, or-false}
use Rattle.std.proofs.lemmas.List.Sums.{sum_by-cons}
use Rattle.std.proofs.lemmas.List.{drop_all}
use Rattle.nrt_base.specs.declared.doc.Doc.{Doc}
use Rattle.documents.specs.Words.{words_of}
use Rattle.documents.specs.declared.query.Query.{Query, All, Any, Not}
use Rattle.documents.specs.Matching.{matches, matches_doc}
use Rattle.documents.specs.Ranking.{rank_of}
use Rattle.documents.proofs.MatchingLemmas.{matches_all, matches_any, matches_not}
use Rattle.documents.proofs.RankLemmas.{rank_all, rank_any, rank_not}
use Rattle.query_eval.specs.declared.cursor.Cursor.{Cursor}
use Rattle.query_eval.specs.declared.cursor.Cursor.TheVariants.{Nothing, Every}
use Rattle.query_eval.specs.Cursor.{answers, all_answer, any_answers, rank_in, rank_of_any}
use Rattle.query_eval.specs.Matching.{AnswersQuery, AnswersAll, AnswersAny, RanksTest}

pub all_query : {E : Type 0} (docs : List Doc) (query : Query) (parts : List Query) → query ≡ All parts → (r : Result Cursor E) → IfOk r (AnswersAll docs parts) → IfOk r (AnswersQuery docs query)
all_query docs query parts e (Ok cursor) h = λ row doc is. h row doc is ∙ sym (matches_all parts (words_of doc.text)) ∙ ap (λ (q : Query). matches q (words_of doc.text)) (sym e)
all_query docs query parts e (Err none) h = tt

pub any_query : {E : Type 0} (docs : List Doc) (query : Query) (parts : List Query) → query ≡ Any parts → (r : Result Cursor E) → IfOk r (AnswersAny docs parts) → IfOk r (AnswersQuery docs query)
any_query docs query parts e (Ok cursor) h = λ row doc is. h row doc is ∙ sym (matches_any parts (words_of doc.text)) ∙ ap (λ (q : Query). matches q (words_of doc.text)) (sym e)
any_query docs query parts e (Err none) h = tt

pub not_query : (docs : List Doc) (query part same : Query) (cursor boxed : Cursor) → query ≡ Not part → same ≡ part → boxed ≡ cursor → AnswersQuery docs same cursor
    → (row : ℕ) (doc : Doc) → slice_get docs row ≡ Some doc → not (answers boxed row) ≡ matches_doc query doc
not_query docs query part same cursor boxed e s b h row doc is =
    ap not (ap (λ (k : Cursor). answers k row) b ∙ h row doc is ∙ ap (λ (q : Query). matches q (words_of doc.text)) s)
    ∙ sym (matches_not part (words_of doc.text))
    ∙ ap (λ (q : Query). matches q (words_of doc.text)) (sym e)

split : (items : List Query) (i j : ℕ) (part : Query) → i < length items → part ≡ get_or items i part → j ≡ i + 1 → drop i items ≡ part ∷ drop j items
split items i j part lt item next =
    let up : suc i ≡ j = omega (arith, next) in
    drop-cons items i part lt ∙ ap (λ (p : Query). p ∷ drop (suc i) items) (sym item) ∙ ap (λ (n : ℕ). part ∷ drop n items) up

-- what the cursor so far and the parts that are left answer together
abbrev pub AllSoFar : List Doc → List Query → List Query → (ℕ → Bool) → Type 0
AllSoFar docs parts left all = (row : ℕ) (doc : Doc) → slice_get docs row ≡ Some doc → (all row && list_all (λ part. matches_doc part doc) left) ≡ list_all (λ part. matches_doc part doc) parts

abbrev pub AnySoFar : List Doc → List Query → List Query → (ℕ → Bool) → Type 0
AnySoFar docs parts left any = (row : ℕ) (doc : Doc) → slice_get docs row ≡ Some doc → (any row || list_any (λ part. matches_doc part doc) left) ≡ list_any (λ part. matches_doc part doc) parts

-- one more part
pub all_more : (docs : List Doc) (items parts : List Query) (i j : ℕ) (part : Query) (all next joined : ℕ → Bool) → i < length items → part ≡ get_or items i part → j ≡ i + 1
    → ((row : ℕ) → joined row ≡ (all row && next row)) → ((row : ℕ) (doc : Doc) → slice_get docs row ≡ Some doc → next row ≡ matches_doc part doc)
    → AllSoFar docs parts (drop i items) all → AllSoFar docs parts (drop j items) joined
all_more docs items parts i j part all next joined lt item up both one so_far row doc is =
    ap (λ (b : Bool). b && list_all (λ q. matches_doc q doc) (drop j items)) (both row ∙ ap (λ (b : Bool). all row && b) (one row doc is))
    ∙ and_assoc (all row) (matches_doc part doc) (list_all (λ q. matches_doc q doc) (drop j items))
    ∙ ap (λ (qs : List Query). all row && list_all (λ q. matches_doc q doc) qs) (sym (split items i j part lt item up))
    ∙ so_far row doc is

pub any_more : (docs : List Doc) (items parts : List Query) (i j : ℕ) (part : Query) (any next joined : ℕ → Bool) → i < length items → part ≡ get_or items i part → j ≡ i + 1
    → ((row : ℕ) → joined row ≡ (any row || next row)) → ((row : ℕ) (doc : Doc) → slice_get docs row ≡ Some doc → next row ≡ matches_doc part doc)
    → AnySoFar docs parts (drop i items) any → AnySoFar docs parts (drop j items) joined
any_more docs items parts i j part any next joined lt item up either one so_far row doc is =
    ap (λ (b : Bool). b || list_any (λ q. matches_doc q doc) (drop j items)) (either row ∙ ap (λ (b : Bool). any row || b) (one row doc is))
    ∙ or_assoc (any row) (matches_doc part doc) (list_any (λ q. matches_doc q doc) (drop j items))
    ∙ ap (λ (qs : List Query). any row || list_any (λ q. matches_doc q doc) qs) (sym (split items i j part lt item up))
    ∙ so_far row doc is

-- no part is left
pub all_end : (docs : List Doc) (items parts : List Query) (i : ℕ) (all : Option Cursor) → length items ≤ i → AllSoFar docs parts (drop i items) (all_answer all) → AnswersAll docs parts (unwrap_or all Every)
all_end docs items parts i all le so_far row doc is =
    same all row
    ∙ sym (and-true (all_answer all row))
    ∙ ap (λ (qs : List Query). all_answer all row && list_all (λ q. matches_doc q doc) qs) (sym (drop_all i items le))
    ∙ so_far row doc is
  where
    same : (all : Option Cursor) (row : ℕ) → answers (unwrap_or all Every) row ≡ all_answer all row
    same None row = refl
    same (Some cursor) row = refl

pub any_end : (docs : List Doc) (items parts : List Query) (i : ℕ) (any : Option Cursor) → length items ≤ i → AnySoFar docs parts (drop i items) (any_answers any) → AnswersAny docs parts (unwrap_or any Nothing)
any_end docs items parts i any le so_far row doc is =
    same any row
    ∙ sym (or-false (any_answers any row))
    ∙ ap (λ (qs : List Query). any_answers any row || list_any (λ q. matches_doc q doc) qs) (sym (drop_all i items le))
    ∙ so_far row doc is
  where
    same : (any : Option Cursor) (row : ℕ) → answers (unwrap_or any Nothing) row ≡ any_answers any row
    same None row = refl
    same (Some cursor) row = refl

-- ---- what is counted

-- what the cursor so far and the parts that are left count together
abbrev pub RanksSoFar : List Doc → List Query → List Query → (ℕ → ℕ) → Type 0
RanksSoFar docs parts left ranks =
    (row : ℕ) (doc : Doc) → slice_get docs row ≡ Some doc
    → ranks row + sum_by (λ part. rank_of part (words_of doc.text)) left ≡ sum_by (λ part. rank_of part (words_of doc.text)) parts

pub ranks_more : (docs : List Doc) (items parts : List Query) (i j : ℕ) (part : Query) (before next joined : ℕ → ℕ) → i < length items → part ≡ get_or items i part → j ≡ i + 1
    → ((row : ℕ) → joined row ≡ before row + next row) → ((row : ℕ) (doc : Doc) → slice_get docs row ≡ Some doc → next row ≡ rank_of part (words_of doc.text))
    → RanksSoFar docs parts (drop i items) before → RanksSoFar docs parts (drop j items) joined
ranks_more docs items parts i j part before next joined lt item up both one so_far row doc is =
    let f : Query → ℕ = λ q. rank_of q (words_of doc.text) in
    let here = one row doc is in
    let together = both row in
    let all : sum_by f (drop i items) ≡ f part + sum_by f (drop j items) = ap (sum_by f) (split items i j part lt item up) ∙ sum_by-cons f part (drop j items) in
    let sum = so_far row doc is in
    omega (arith, here, together, all, sum)

ranks_end : (docs : List Doc) (items parts : List Query) (i : ℕ) (ranks : ℕ → ℕ) → length items ≤ i → RanksSoFar docs parts (drop i items) ranks
    → (row : ℕ) (doc : Doc) → slice_get docs row ≡ Some doc → ranks row ≡ sum_by (λ part. rank_of part (words_of doc.text)) parts
ranks_end docs items parts i ranks le so_far row doc is =
    let f : Query → ℕ = λ q. rank_of q (words_of doc.text) in
    let none : sum_by f (drop i items) ≡ 0 = ap (sum_by f) (drop_all i items le) in
    let sum = so_far row doc is in
    omega (arith, none, sum)

pub all_ranks_end : (docs : List Doc) (items parts : List Query) (i : ℕ) (all : Option Cursor) → length items ≤ i → RanksSoFar docs parts (drop i items) (rank_of_any all)
    → RanksTest docs (λ doc. sum_by (λ part. rank_of part (words_of doc.text)) parts) (unwrap_or all Every)
all_ranks_end docs items parts i all le so_far row doc is = same all row ∙ ranks_end docs items parts i (rank_of_any all) le so_far row doc is
  where
    same : (all : Option Cursor) (row : ℕ) → rank_in (unwrap_or all Every) row ≡ rank_of_any all row
    same None row = refl
    same (Some cursor) row = refl

pub any_ranks_end : (docs : List Doc) (items parts : List Query) (i : ℕ) (any : Option Cursor) → length items ≤ i → RanksSoFar docs parts (drop i items) (rank_of_any any)
    → RanksTest docs (λ doc. sum_by (λ part. rank_of part (words_of doc.text)) parts) (unwrap_or any Nothing)
any_ranks_end docs items parts i any le so_far row doc is = same any row ∙ ranks_end docs items parts i (rank_of_any any) le so_far row doc is
  where
    same : (any : Option Cursor) (row : ℕ) → rank_in (unwrap_or any Nothing) row ≡ rank_of_any any row
    same None row = refl
    same (Some cursor) row = refl

pub all_ranks : {E : Type 0} (docs : List Doc) (query : Query) (parts : List Query) → query ≡ All parts → (r : Result Cursor E)
    → IfOk r (RanksTest docs (λ doc. sum_by (λ part. rank_of part (words_of doc.text)) parts)) → IfOk r (RanksTest docs (λ doc. rank_of query (words_of doc.text)))
all_ranks docs query parts e (Ok cursor) h = λ row doc is. h row doc is ∙ sym (rank_all parts (words_of doc.text)) ∙ ap (λ (q : Query). rank_of q (words_of doc.text)) (sym e)
all_ranks docs query parts e (Err none) h = tt

pub any_ranks : {E : Type 0} (docs : List Doc) (query : Query) (parts : List Query) → query ≡ Any parts → (r : Result Cursor E)
    → IfOk r (RanksTest docs (λ doc. sum_by (λ part. rank_of part (words_of doc.text)) parts)) → IfOk r (RanksTest docs (λ doc. rank_of query (words_of doc.text)))
any_ranks docs query parts e (Ok cursor) h = λ row doc is. h row doc is ∙ sym (rank_any parts (words_of doc.text)) ∙ ap (λ (q : Query). rank_of q (words_of doc.text)) (sym e)
any_ranks docs query parts e (Err none) h = tt

-- what is not to match counts nothing
pub not_ranks : (query part : Query) → query ≡ Not part → (words : List (List ℕ)) → 0 ≡ rank_of query words
not_ranks query part e words = sym (rank_not part words) ∙ ap (λ (q : Query). rank_of q words) (sym e)
