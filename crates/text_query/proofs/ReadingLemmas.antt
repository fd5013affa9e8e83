-- What is put together from the tokens of a query is its tree.
use Rattle.std.proofs.Common.{◌≡◌, ℕ, zero, suc, ◌+◌, ◌<◌, ◌≤◌, max, List, [], ◌∷◌, ◌++◌, Bool, true, false, Option, Some, None, refl, ap, ◌∙◌, sym, append_assoc, add-one, arith}
use Rattle.std.proofs.Math.Nat.{le_trans}
use Rattle.std.proofs.lemmas.List.{append-nil}
use Rattle.documents.specs.declared.query.Query.{Query, Word, Phrase, Not}
use Rattle.documents.specs.Matching.{depth_of}
use Rattle.text_query.specs.declared.build.Level.{Level}
use Rattle.text_query.specs.declared.token.Token.{Token}
use Rattle.text_query.specs.declared.token.Token.TheVariants as token
use Rattle.text_query.specs.Grammar.{QueryReading, ConjReading, UnaryReading, last_conj, conj_or, last_unary, unary_and, not_unary, word, phrase, parenthesised, query_tokens, conj_tokens, unary_tokens, query_parts, conj_parts, unary_tree, query_tree, all_of, any_of, ReadsAs}
use Rattle.text_query.specs.Syntax.{IsQuery}
use Rattle.text_query.specs.declared.syntax.SyntaxState.{SyntaxState}
use Rattle.std.specs.Prelude.{option_and_then}
use Rattle.text_query.proofs.SyntaxLemmas.{state_from_query}
use Rattle.text_query.specs.declared.build.Join.TheVariants as join
use Rattle.text_query.specs.States.{state, state_behind, state_after}
use Rattle.text_query.proofs.LevelLemmas.{depth_negated, deepest_in-append, deepest_in-joined, operand_depth, negated_depth}
use Rattle.text_query.specs.Levels.{Levels, negated_of, empty_level, with_operand, with_or, level_tree, closed_level, levels_behind, levels_after, level_depth, levels_depth}

not-negated : (times : ℕ) (query : Query) → Not (negated_of times query) ≡ negated_of times (Not query)
not-negated zero query = refl
not-negated (suc times) query = ap Not (not-negated times query)

-- a level with these parts before, behind a query
abbrev level_behind : List Query → QueryReading → Level
level_behind any (last_conj c) = record { any = any; all = conj_parts c; nots = 0 }
level_behind any (conj_or c q) = level_behind (any ++ all_of (conj_parts c) ∷ []) q

tree-level_behind : (any : List Query) (q : QueryReading) → level_tree (level_behind any q) ≡ any_of (any ++ query_parts q)
tree-level_behind any (last_conj c) = refl
tree-level_behind any (conj_or c q) =
    tree-level_behind (any ++ all_of (conj_parts c) ∷ []) q ∙ ap any_of (append_assoc any (all_of (conj_parts c) ∷ []) (query_parts q))

operand_under_not : (level : Level) (query : Query) → with_operand (record { any = level.any; all = level.all; nots = level.nots + 1 }) query ≡ with_operand level (Not query)
operand_under_not level query =
    ap (λ (one : Query). record { any = level.any; all = level.all ++ one ∷ []; nots = 0 })
    (ap (λ (n : ℕ). negated_of n query) (add-one level.nots) ∙ not-negated level.nots query)

mutual
  query_levels : (q : QueryReading) (any : List Query) (outer : List Level) (rest : List Token)
      → levels_after (record { any = any; all = []; nots = 0 }, outer) (query_tokens q ++ rest) ≡ levels_after (level_behind any q, outer) rest
  query_levels (last_conj c) any outer rest = conj_levels c any [] outer rest
  query_levels (conj_or c q) any outer rest =
      ap (levels_after (record { any = any; all = []; nots = 0 }, outer)) (append_assoc (conj_tokens c) (token.Or ∷ query_tokens q) rest)
      ∙ (conj_levels c any [] outer (token.Or ∷ query_tokens q ++ rest) ∙ query_levels q (any ++ all_of (conj_parts c) ∷ []) outer rest)

  conj_levels : (c : ConjReading) (any all : List Query) (outer : List Level) (rest : List Token)
      → levels_after (record { any = any; all = all; nots = 0 }, outer) (conj_tokens c ++ rest) ≡ levels_after (record { any = any; all = all ++ conj_parts c; nots = 0 }, outer) rest
  conj_levels (last_unary u) any all outer rest = unary_levels u (record { any = any; all = all; nots = 0 }) outer rest
  conj_levels (unary_and u c) any all outer rest =
      ap (levels_after (record { any = any; all = all; nots = 0 }, outer)) (append_assoc (unary_tokens u) (token.And ∷ conj_tokens c) rest)
      ∙ (unary_levels u (record { any = any; all = all; nots = 0 }) outer (token.And ∷ conj_tokens c ++ rest)
      ∙ (conj_levels c any (all ++ unary_tree u ∷ []) outer rest
      ∙ ap (λ (parts : List Query). levels_after (record { any = any; all = parts; nots = 0 }, outer) rest) (append_assoc all (unary_tree u ∷ []) (conj_parts c))))

  unary_levels : (u : UnaryReading) (level : Level) (outer : List Level) (rest : List Token)
      → levels_after (level, outer) (unary_tokens u ++ rest) ≡ levels_after (with_operand level (unary_tree u), outer) rest
  unary_levels (not_unary u) level outer rest =
      unary_levels u (record { any = level.any; all = level.all; nots = level.nots + 1 }) outer rest
      ∙ ap (λ (l : Level). levels_after (l, outer) rest) (operand_under_not level (unary_tree u))
  unary_levels (word w) level outer rest = refl
  unary_levels (phrase words) level outer rest = refl
  unary_levels (parenthesised q) level outer rest =
      ap (levels_after (empty_level, level ∷ outer)) (append_assoc (query_tokens q) (token.Close ∷ []) rest)
      ∙ (query_levels q [] (level ∷ outer) (token.Close ∷ rest)
      ∙ ap (λ (tree : Query). levels_after (with_operand level tree, outer) rest) (tree-level_behind [] q))

-- the levels behind a whole query
pub whole_levels : (q : QueryReading) → levels_after (empty_level, []) (query_tokens q) ≡ (level_behind [] q, [])
whole_levels q = ap (levels_after (empty_level, [])) (sym (append-nil (query_tokens q))) ∙ query_levels q [] [] []

-- what was put together from a query is its tree
pub whole_tree : (q : QueryReading) → level_tree (levels_after (empty_level, []) (query_tokens q)).0 ≡ query_tree q
whole_tree q = ap (λ (l : Levels). level_tree l.0) (whole_levels q) ∙ tree-level_behind [] q

-- a level becomes no less deep by an operand, or by OR
operand_grows : (level : Level) (query : Query) → level_depth level ≤ level_depth (with_operand level query)
operand_grows level query =
    let one = negated_of level.nots query in
    omega (arith, deepest_in-append level.all (one ∷ []), depth_negated level.nots query)

or_grows : (level : Level) → level_depth level ≤ level_depth (with_or level)
or_grows level =
    let part = all_of level.all in
    omega (arith, deepest_in-append level.any (part ∷ []), deepest_in-joined join.And level.all)

-- the tree of a level is as deep as the level
tree_grows : (level : Level) → level.nots ≡ 0 → level_depth level ≤ depth_of (level_tree level)
tree_grows level e =
    let part = all_of level.all in
    let parts = level.any ++ part ∷ [] in
    omega (arith, deepest_in-append level.any (part ∷ []), deepest_in-joined join.And level.all, deepest_in-joined join.Or parts)

close_grows : (level : Level) (outer : List Level) → level.nots ≡ 0 → levels_depth (level, outer) ≤ levels_depth (closed_level level outer)
close_grows level [] e = omega arith
close_grows level (around ∷ outer) e =
    let tree = level_tree level in
    omega (arith, tree_grows level e, operand_grows around tree, operand_depth around tree, negated_depth around.nots tree)

-- no NOT waits for its operand where an operator is expected
abbrev pub IsPending : Bool → ℕ → Type 0
IsPending true n = Unit {0}
IsPending false n = n ≡ 0

no_state : {P : Type 0} (n : ℕ) → None ≡ Some (state false n) → P
no_state n e = cc

leaf_grows : (levels : Levels) (leaf : Query) → levels_depth levels ≤ levels_depth (with_operand levels.0 leaf, levels.1)
leaf_grows levels leaf = omega (arith, operand_grows levels.0 leaf)

open_grows : (levels : Levels) → levels_depth levels ≤ levels_depth (empty_level, levels.0 ∷ levels.1)
open_grows levels = omega arith

or_step : (levels : Levels) → levels_depth levels ≤ levels_depth (with_or levels.0, levels.1)
or_step levels = omega (arith, or_grows levels.0)

not_grows : (levels : Levels) → levels_depth levels ≤ levels_depth (levels_behind levels token.Not)
not_grows levels = omega arith

closed_pending : (level : Level) (outer : List Level) → level.nots ≡ 0 → (closed_level level outer).0.nots ≡ 0
closed_pending level [] e = e
closed_pending level (around ∷ outer) e = refl

-- what is put together becomes no less deep by the tokens that end a query
pub depth_grows : (tokens : List Token) (expects : Bool) (n : ℕ) (levels : Levels) → IsPending expects levels.0.nots
    → state_after (state expects n) tokens ≡ Some (state false zero) → levels_depth levels ≤ levels_depth (levels_after levels tokens)
depth_grows [] expects n levels pending e = omega arith
depth_grows (token.Word w ∷ ts) true n levels pending e =
    le_trans (leaf_grows levels (Word w)) (depth_grows ts false n (with_operand levels.0 (Word w), levels.1) refl e)
depth_grows (token.Word w ∷ ts) false n levels pending e = no_state zero e
depth_grows (token.Phrase words ∷ ts) true n levels pending e =
    le_trans (leaf_grows levels (Phrase words)) (depth_grows ts false n (with_operand levels.0 (Phrase words), levels.1) refl e)
depth_grows (token.Phrase words ∷ ts) false n levels pending e = no_state zero e
depth_grows (token.Open ∷ ts) true n levels pending e =
    le_trans (open_grows levels) (depth_grows ts true (suc n) (empty_level, levels.0 ∷ levels.1) tt e)
depth_grows (token.Open ∷ ts) false n levels pending e = no_state zero e
depth_grows (token.Close ∷ ts) true n levels pending e = no_state zero e
depth_grows (token.Close ∷ ts) false zero levels pending e = no_state zero e
depth_grows (token.Close ∷ ts) false (suc n) levels pending e =
    le_trans (close_grows levels.0 levels.1 pending) (depth_grows ts false n (closed_level levels.0 levels.1) (closed_pending levels.0 levels.1 pending) e)
depth_grows (token.And ∷ ts) true n levels pending e = no_state zero e
depth_grows (token.And ∷ ts) false n levels pending e = depth_grows ts true n levels tt e
depth_grows (token.Or ∷ ts) true n levels pending e = no_state zero e
depth_grows (token.Or ∷ ts) false n levels pending e =
    le_trans (or_step levels) (depth_grows ts true n (with_or levels.0, levels.1) tt e)
depth_grows (token.Not ∷ ts) true n levels pending e =
    le_trans (not_grows levels) (depth_grows ts true n (levels_behind levels token.Not) tt e)
depth_grows (token.Not ∷ ts) false n levels pending e = no_state zero e
depth_grows (token.Stray ∷ ts) expects n levels pending e = no_state zero e

-- the same behind one token
abbrev IsPendingIn : Option SyntaxState → ℕ → Type 0
IsPendingIn None n = Unit {0}
IsPendingIn (Some s) n = IsPending s.expects_operand n

pending_behind : (token : Token) (expects : Bool) (n : ℕ) (levels : Levels) → IsPending expects levels.0.nots
    → IsPendingIn (state_behind (state expects n) token) (levels_behind levels token).0.nots
pending_behind (token.Word w) true n levels p = refl
pending_behind (token.Word w) false n levels p = tt
pending_behind (token.Phrase words) true n levels p = refl
pending_behind (token.Phrase words) false n levels p = tt
pending_behind token.Open true n levels p = tt
pending_behind token.Open false n levels p = tt
pending_behind token.Close true n levels p = tt
pending_behind token.Close false zero levels p = tt
pending_behind token.Close false (suc n) levels p = closed_pending levels.0 levels.1 p
pending_behind token.And true n levels p = tt
pending_behind token.And false n levels p = tt
pending_behind token.Or true n levels p = tt
pending_behind token.Or false n levels p = tt
pending_behind token.Not true n levels p = tt
pending_behind token.Not false n levels p = tt
pending_behind token.Stray expects n levels p = tt

-- the tokens that end a query from a state go on from what they were read to
grows_from : (before rest : List Token) (s : SyntaxState) (levels : Levels) → IsPending s.expects_operand levels.0.nots
    → state_after s (before ++ rest) ≡ Some (state false zero) → levels_depth (levels_after levels before) ≤ levels_depth (levels_after levels (before ++ rest))
grows_from [] rest s levels p e = depth_grows rest s.expects_operand s.opened levels p e
grows_from (token ∷ before) rest s levels p e =
    grows_step (state_behind s token) (pending_behind token s.expects_operand s.opened levels p) e (λ r. grows_from before rest r (levels_behind levels token))
  where
    grows_step : (o : Option SyntaxState) → IsPendingIn o (levels_behind levels token).0.nots → option_and_then (λ r. state_after r (before ++ rest)) o ≡ Some (state false zero)
        → ((r : SyntaxState) → IsPending r.expects_operand (levels_behind levels token).0.nots → state_after r (before ++ rest) ≡ Some (state false zero)
        → levels_depth (levels_after (levels_behind levels token) before) ≤ levels_depth (levels_after (levels_behind levels token) (before ++ rest)))
        → levels_depth (levels_after (levels_behind levels token) before) ≤ levels_depth (levels_after (levels_behind levels token) (before ++ rest))
    grows_step None q h each = no_state zero h
    grows_step (Some r) q h each = each r q h

level_nots : (any : List Query) (q : QueryReading) → (level_behind any q).nots ≡ 0
level_nots any (last_conj c) = refl
level_nots any (conj_or c q) = level_nots (any ++ all_of (conj_parts c) ∷ []) q

-- what is put together from the tokens of a query
abbrev pub tree_of : List Token → Query
tree_of tokens = level_tree (levels_after (empty_level, []) tokens).0

pub reads_as_tree : (tokens : List Token) → IsQuery tokens → ReadsAs tokens (tree_of tokens)
reads_as_tree tokens (q, e) = (q, e, sym (whole_tree q) ∙ ap tree_of e)

-- where a front of a query is too deep, so is its tree
pub deep_tree : (tokens before rest : List Token) → IsQuery tokens → tokens ≡ before ++ rest → 32 < levels_depth (levels_after (empty_level, []) before)
    → 32 < depth_of (tree_of tokens)
deep_tree tokens before rest (q, e) split deep =
    let whole : query_tokens q ≡ before ++ rest = e ∙ split in
    let ended : state_after (state true zero) (before ++ rest) ≡ Some (state false zero) = state_from_query (before ++ rest) (q, whole) in
    let grown = grows_from before rest (state true zero) (empty_level, []) tt ended in
    let levels : levels_after (empty_level, []) (before ++ rest) ≡ (level_behind [] q, []) = ap (levels_after (empty_level, [])) (sym whole) ∙ whole_levels q in
    let last = tree_grows (level_behind [] q) (level_nots [] q) in
    let tree : depth_of (level_tree (level_behind [] q)) ≡ depth_of (tree_of tokens) =
    ap (λ (l : Levels). depth_of (level_tree l.0)) (sym (whole_levels q)) ∙ ap (λ (ts : List Token). depth_of (tree_of ts)) e in
    deep_chain _ _ (level_depth (level_behind [] q)) _ _ deep grown (ap levels_depth levels) last tree
  where
    deep_chain : (a b c d t : ℕ) → 32 < a → a ≤ b → b ≡ max c 0 → c ≤ d → d ≡ t → 32 < t
    deep_chain a b c d t h p e q f = omega arith
