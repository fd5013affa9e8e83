-- Each text has one answer, and a query that is answered is well-formed.
use Rattle.std.proofs.Common.{◌≡◌, ℕ, zero, suc, ◌+◌, ◌≤◌, List, [], ◌∷◌, ◌++◌, length, Bool, true, false, cond, IsTrue, refl, ap, ◌∙◌, sym, arith}
use Rattle.std.specs.Prelude.{◌&&◌, ◌==◌, nat_le, nat_lt, nat_eq, codes, map}
use Rattle.std.specs.List.{list_all, count_by}
use Rattle.std.proofs.lemmas.List.Sums.{sum_by-cons}
use Rattle.std.specs.Cmp.Lexicographic.{pointwise}
use Rattle.std.proofs.lemmas.List.Folds.{list_all-append}
use Rattle.std.proofs.lemmas.Bool.{false≢true, and_from}
use Rattle.std.proofs.lemmas.Bool.Decides.{nat_tests}
use Rattle.documents.specs.declared.query.Query as tree
use Rattle.documents.specs.Matching.{depth_of, leaves_of, has_form, is_well_formed}
use Rattle.documents.specs.Words.{is_alphanumeric, lower, words_of}
use Rattle.text_query.specs.declared.token.Token.{Token}
use Rattle.text_query.specs.declared.token.Token.TheVariants as token
use Rattle.text_query.specs.declared.token.Placed.{Placed}
use Rattle.text_query.specs.Tokens.{is_leaf, is_quote, is_space, token_of_words, token_of_run, token_of_quote, token_of_byte, token_at, run_of, quoted_of, bytes_behind, tokens_from, tokens_of, kinds_of}
use Rattle.text_query.specs.Grammar.{QueryReading, ConjReading, UnaryReading, last_conj, conj_or, last_unary, unary_and, not_unary, word, phrase, parenthesised, query_tokens, conj_tokens, unary_tokens, query_parts, conj_parts, unary_tree, query_tree, all_of, any_of, ReadsAs, SpellsQuery}
use Rattle.text_query.proofs.TreeLemmas.{leaves_in, leaves_all, leaves_any, leaves_not, form_all, form_any, form_not}
use Rattle.text_query.proofs.ReadingLemmas.{tree_of, whole_tree}

-- tokens that are read as a query are read as one tree
pub reads_only : (tokens : List Token) (query : tree.Query) → ReadsAs tokens query → query ≡ tree_of tokens
reads_only tokens query (q, e, t) = sym t ∙ (sym (whole_tree q) ∙ ap tree_of e)

-- the leaves of what parts are joined to
leaves_any_of : (parts : List tree.Query) → leaves_of (any_of parts) ≡ leaves_in parts
leaves_any_of [] = leaves_any []
leaves_any_of (part ∷ []) = let n = leaves_of part in let e : n ≡ n + 0 = omega arith in e
leaves_any_of (part ∷ next ∷ parts) = leaves_any (part ∷ next ∷ parts)

leaves_all_of : (parts : List tree.Query) → leaves_of (all_of parts) ≡ leaves_in parts
leaves_all_of [] = leaves_all []
leaves_all_of (part ∷ []) = let n = leaves_of part in let e : n ≡ n + 0 = omega arith in e
leaves_all_of (part ∷ next ∷ parts) = leaves_all (part ∷ next ∷ parts)

-- how many tokens are leaves
abbrev leaf_tokens : List Token → ℕ
leaf_tokens [] = 0
leaf_tokens (t ∷ ts) = cond (is_leaf t) 1 0 + leaf_tokens ts

leaf_tokens-append : (xs ys : List Token) → leaf_tokens (xs ++ ys) ≡ leaf_tokens xs + leaf_tokens ys
leaf_tokens-append [] ys = omega arith
leaf_tokens-append (x ∷ xs) ys = let e = leaf_tokens-append xs ys in omega arith

mutual
  query_leaves : (q : QueryReading) → leaf_tokens (query_tokens q) ≡ leaves_in (query_parts q)
  query_leaves (last_conj c) = omega (arith, conj_leaves c, leaves_all_of (conj_parts c))
  query_leaves (conj_or c q) = omega (arith, leaf_tokens-append (conj_tokens c) (token.Or ∷ query_tokens q), conj_leaves c, leaves_all_of (conj_parts c), query_leaves q)

  conj_leaves : (c : ConjReading) → leaf_tokens (conj_tokens c) ≡ leaves_in (conj_parts c)
  conj_leaves (last_unary u) = omega (arith, unary_leaves u)
  conj_leaves (unary_and u c) = omega (arith, leaf_tokens-append (unary_tokens u) (token.And ∷ conj_tokens c), unary_leaves u, conj_leaves c)

  unary_leaves : (u : UnaryReading) → leaf_tokens (unary_tokens u) ≡ leaves_of (unary_tree u)
  unary_leaves (not_unary u) = omega (arith, unary_leaves u, leaves_not (unary_tree u))
  unary_leaves (word w) = refl
  unary_leaves (phrase words) = refl
  unary_leaves (parenthesised q) = omega (arith, leaf_tokens-append (query_tokens q) (token.Close ∷ []), query_leaves q, leaves_any_of (query_parts q))

count-leaf_tokens : (tokens : List Token) → count_by is_leaf tokens ≡ leaf_tokens tokens
count-leaf_tokens [] = refl
count-leaf_tokens (t ∷ ts) =
    sum_by-cons (λ (x : Token). cond (is_leaf x) 1 0) t ts ∙ ap (λ (n : ℕ). cond (is_leaf t) 1 0 + n) (count-leaf_tokens ts)

-- the tree has as many leaves as the tokens
pub leaves-tree_of : (tokens : List Token) (query : tree.Query) → ReadsAs tokens query → leaves_of query ≡ count_by is_leaf tokens
leaves-tree_of tokens query (q, e, t) =
    ap leaves_of (sym t) ∙ (leaves_any_of (query_parts q) ∙ (sym (query_leaves q) ∙ (ap leaf_tokens e ∙ sym (count-leaf_tokens tokens))))

-- a phrase has two words or more
abbrev is_full : Token → Bool
is_full (token.Phrase words) = nat_le 2 (length words)
is_full t = true

full_words : (words : List (List ℕ)) → is_full (token_of_words words) ≡ true
full_words [] = refl
full_words (w ∷ []) = refl
full_words (w ∷ v ∷ words) = grind (arith, nat_tests)

run_case : (a b c : Bool) (other : Token) → is_full other ≡ true → is_full (cond a token.And (cond b token.Or (cond c token.Not other))) ≡ true
run_case true b c other e = refl
run_case false true c other e = refl
run_case false false true other e = refl
run_case false false false other e = e

full_run : (run : List ℕ) → is_full (token_of_run run) ≡ true
full_run run =
    run_case (pointwise nat_eq run (codes "AND")) (pointwise nat_eq run (codes "OR")) (pointwise nat_eq run (codes "NOT")) (token.Word (map lower run)) refl

quote_case : (a : Bool) (t : Token) → is_full t ≡ true → is_full (cond a t token.Stray) ≡ true
quote_case true t e = e
quote_case false t e = refl

full_quote : (text : List ℕ) → is_full (token_of_quote text) ≡ true
full_quote text =
    quote_case (nat_lt (length (quoted_of text)) (length text)) (token_of_words (words_of (quoted_of text))) (full_words (words_of (quoted_of text)))

byte_case : (a b : Bool) → is_full (cond a token.Open (cond b token.Close token.Stray)) ≡ true
byte_case true b = refl
byte_case false true = refl
byte_case false false = refl

at_case : (a b : Bool) (run quote mark : Token) → is_full run ≡ true → is_full quote ≡ true → is_full mark ≡ true → is_full (cond a run (cond b quote mark)) ≡ true
at_case true b run quote mark e f g = e
at_case false true run quote mark e f g = f
at_case false false run quote mark e f g = g

full_at : (b : ℕ) (text : List ℕ) → is_full (token_at (b ∷ text)) ≡ true
full_at b text =
    at_case (is_alphanumeric b) (is_quote b) (token_of_run (run_of (b ∷ text))) (token_of_quote text) (token_of_byte b)
    (full_run (run_of (b ∷ text))) (full_quote text) (byte_case (b == 40) (b == 41))

full_tokens : (taken at : ℕ) (text : List ℕ) → list_all is_full (kinds_of (tokens_from taken at text)) ≡ true
full_tokens taken at [] = refl
full_tokens zero at (b ∷ text) =
    full_case (is_space b) (record { at = at; token = token_at (b ∷ text) }) (tokens_from zero (at + 1) text) (tokens_from (bytes_behind (b ∷ text)) (at + 1) text)
    (full_at b text) (full_tokens zero (at + 1) text) (full_tokens (bytes_behind (b ∷ text)) (at + 1) text)
  where
    full_case : (c : Bool) (first : Placed) (more others : List Placed) → is_full first.token ≡ true → list_all is_full (kinds_of more) ≡ true → list_all is_full (kinds_of others) ≡ true
        → list_all is_full (kinds_of (cond c more (first ∷ others))) ≡ true
    full_case true first more others f m o = m
    full_case false first more others f m o = and_from _ _ f o
full_tokens (suc taken) at (b ∷ text) = full_tokens taken (at + 1) text

-- a phrase of a text has two words or more
text_is_full : (text : List ℕ) → list_all is_full (kinds_of (tokens_of text)) ≡ true
text_is_full text = full_tokens zero zero text

first_holds : (a b : Bool) → (a && b) ≡ true → a ≡ true
first_holds true b e = refl
first_holds false b e = e

second_holds : (a b : Bool) → (a && b) ≡ true → b ≡ true
second_holds true b e = e
second_holds false b e = absurd (false≢true e)

front_full : (xs ys : List Token) → list_all is_full (xs ++ ys) ≡ true → list_all is_full xs ≡ true
front_full xs ys e = first_holds (list_all is_full xs) (list_all is_full ys) (sym (list_all-append is_full xs ys) ∙ e)

rest_full : (xs ys : List Token) → list_all is_full (xs ++ ys) ≡ true → list_all is_full ys ≡ true
rest_full xs ys e = second_holds (list_all is_full xs) (list_all is_full ys) (sym (list_all-append is_full xs ys) ∙ e)

several_le : (n : ℕ) → nat_le 2 (suc (suc n)) ≡ true
several_le n = grind (arith, nat_tests)

form_all_of : (part : tree.Query) (parts : List tree.Query) → list_all has_form (part ∷ parts) ≡ true → has_form (all_of (part ∷ parts)) ≡ true
form_all_of part [] e = first_holds (has_form part) true e
form_all_of part (next ∷ parts) e = form_all (part ∷ next ∷ parts) ∙ and_from _ _ (several_le (length parts)) e

form_any_of : (part : tree.Query) (parts : List tree.Query) → list_all has_form (part ∷ parts) ≡ true → has_form (any_of (part ∷ parts)) ≡ true
form_any_of part [] e = first_holds (has_form part) true e
form_any_of part (next ∷ parts) e = form_any (part ∷ next ∷ parts) ∙ and_from _ _ (several_le (length parts)) e

form_conj : (c : ConjReading) → list_all has_form (conj_parts c) ≡ true → has_form (all_of (conj_parts c)) ≡ true
form_conj (last_unary u) e = form_all_of (unary_tree u) [] e
form_conj (unary_and u c) e = form_all_of (unary_tree u) (conj_parts c) e

form_query : (q : QueryReading) → list_all has_form (query_parts q) ≡ true → has_form (query_tree q) ≡ true
form_query (last_conj c) e = form_any_of (all_of (conj_parts c)) [] e
form_query (conj_or c q) e = form_any_of (all_of (conj_parts c)) (query_parts q) e

mutual
  query_form : (q : QueryReading) → list_all is_full (query_tokens q) ≡ true → list_all has_form (query_parts q) ≡ true
  query_form (last_conj c) e = and_from _ true (form_conj c (conj_form c e)) refl
  query_form (conj_or c q) e =
      and_from _ _ (form_conj c (conj_form c (front_full (conj_tokens c) (token.Or ∷ query_tokens q) e))) (query_form q (rest_full (conj_tokens c) (token.Or ∷ query_tokens q) e))

  conj_form : (c : ConjReading) → list_all is_full (conj_tokens c) ≡ true → list_all has_form (conj_parts c) ≡ true
  conj_form (last_unary u) e = and_from _ true (unary_form u e) refl
  conj_form (unary_and u c) e =
      and_from _ _ (unary_form u (front_full (unary_tokens u) (token.And ∷ conj_tokens c) e)) (conj_form c (rest_full (unary_tokens u) (token.And ∷ conj_tokens c) e))

  unary_form : (u : UnaryReading) → list_all is_full (unary_tokens u) ≡ true → has_form (unary_tree u) ≡ true
  unary_form (not_unary u) e = form_not (unary_tree u) ∙ unary_form u e
  unary_form (word w) e = refl
  unary_form (phrase words) e = first_holds (nat_le 2 (length words)) true e
  unary_form (parenthesised q) e = form_query q (query_form q (front_full (query_tokens q) (token.Close ∷ []) e))

-- a query that a text spells has the form of queries
pub spelled_form : (text : List ℕ) (query : tree.Query) → SpellsQuery text query → has_form query ≡ true
spelled_form text query (q, e, t) =
    ap has_form (sym t) ∙ form_query q (query_form q (ap (list_all is_full) e ∙ text_is_full text))

-- a query within the bounds is well-formed
pub well_formed : (text : List ℕ) (query : tree.Query) → SpellsQuery text query → depth_of query ≤ 32 → leaves_of query ≤ 64 → IsTrue (is_well_formed query)
well_formed text query spells depth leaves =
    let d : nat_le (depth_of query) 32 ≡ true = within (depth_of query) 32 depth in
    let l : nat_le (leaves_of query) 64 ≡ true = within (leaves_of query) 64 leaves in
    and_from _ _ (and_from _ _ (spelled_form text query spells) d) l
  where
    within : (n m : ℕ) → n ≤ m → nat_le n m ≡ true
    within n m h = grind (arith, nat_tests)
