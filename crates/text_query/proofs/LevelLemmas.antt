-- How deep a tree is while it is put together.
use Rattle.std.proofs.Common.{◌≡◌, ◌≢◌, ℕ, zero, suc, ◌+◌, ◌<◌, ◌≤◌, max, List, [], ◌∷◌, ◌++◌, length, reverse, refl, ap, ◌∙◌, sym, subst, arith}
use Rattle.std.proofs.lemmas.List.{reverse-append}
use Rattle.documents.specs.declared.query.Query.{Query, All, Any}
use Rattle.documents.specs.Matching.{depth_of}
use Rattle.text_query.specs.declared.build.Join.{Join}
use Rattle.text_query.specs.declared.build.Join.TheVariants.{And, Or}
use Rattle.text_query.specs.Depths.{deepest_in}
use Rattle.text_query.specs.Grammar.{all_of}
use Rattle.text_query.specs.declared.build.Level.{Level}
use Rattle.text_query.specs.Levels.{negated_of, joined_of, with_operand, with_or, level_tree, level_depth, levels_depth, closed_level}
use Rattle.text_query.proofs.TreeLemmas.{depth_all, depth_any, depth_not}

pub depth_negated : (times : ℕ) (query : Query) → depth_of (negated_of times query) ≡ times + depth_of query
depth_negated zero query = let n = depth_of query in let e : n ≡ 0 + n = omega arith in e
depth_negated (suc times) query = let e = depth_not (negated_of times query) in omega (arith, e, depth_negated times query)

pub deepest_in-append : (xs ys : List Query) → deepest_in (xs ++ ys) ≡ max (deepest_in xs) (deepest_in ys)
deepest_in-append [] ys = let n = deepest_in ys in let e : n ≡ max 0 n = omega arith in e
deepest_in-append (x ∷ xs) ys = omega (arith, deepest_in-append xs ys)

-- several parts, or none, are one deeper than the deepest
pub depth_joined : (join : Join) (parts : List Query) → length parts ≢ 1 → depth_of (joined_of join parts) ≡ 1 + deepest_in parts
depth_joined And [] many = depth_all []
depth_joined And (part ∷ []) many = absurd (many refl)
depth_joined And (part ∷ next ∷ parts) many = depth_all (part ∷ next ∷ parts)
depth_joined Or [] many = depth_any []
depth_joined Or (part ∷ []) many = absurd (many refl)
depth_joined Or (part ∷ next ∷ parts) many = depth_any (part ∷ next ∷ parts)

pub ruleset deepest = (deepest_in-append)

pub joined_and : (parts : List Query) → length parts ≢ 1 → joined_of And parts ≡ All parts
joined_and [] many = refl
joined_and (part ∷ []) many = absurd (many refl)
joined_and (part ∷ next ∷ parts) many = refl

pub joined_or : (parts : List Query) → length parts ≢ 1 → joined_of Or parts ≡ Any parts
joined_or [] many = refl
joined_or (part ∷ []) many = absurd (many refl)
joined_or (part ∷ next ∷ parts) many = refl

pub ruleset several = (joined_and, joined_or)

-- parts are no deeper than what they are joined to
pub deepest_in-joined : (join : Join) (parts : List Query) → deepest_in parts ≤ depth_of (joined_of join parts)
deepest_in-joined And [] = omega (arith, depth_all [])
deepest_in-joined And (part ∷ []) = omega arith
deepest_in-joined And (part ∷ next ∷ parts) = let e = depth_all (part ∷ next ∷ parts) in omega (arith, e)
deepest_in-joined Or [] = omega (arith, depth_any [])
deepest_in-joined Or (part ∷ []) = omega arith
deepest_in-joined Or (part ∷ next ∷ parts) = let e = depth_any (part ∷ next ∷ parts) in omega (arith, e)

-- a level is as deep as the operand that it takes
pub operand_depth : (level : Level) (query : Query) → depth_of (negated_of level.nots query) ≤ level_depth (with_operand level query)
operand_depth level query =
    let one = negated_of level.nots query in
    let e = deepest_in-append level.all (one ∷ []) in
    omega (arith, e)

-- a level is as deep as the parts that OR ends
pub or_depth : (level : Level) → depth_of (all_of level.all) ≤ level_depth (with_or level)
or_depth level = let e = deepest_in-append level.any (all_of level.all ∷ []) in omega (arith, e)

-- the tree of a level is as deep as its last part
pub last_depth : (level : Level) → depth_of (all_of level.all) ≤ depth_of (level_tree level)
last_depth level =
    let parts = level.any ++ all_of level.all ∷ [] in
    let e = deepest_in-append level.any (all_of level.all ∷ []) in
    omega (arith, e, deepest_in-joined Or parts)

-- a tree under NOT is as deep as the tree
pub negated_depth : (times : ℕ) (query : Query) → depth_of query ≤ depth_of (negated_of times query)
negated_depth times query = omega (arith, depth_negated times query)

-- where the tree of a parenthesis is too deep, the level around it is, too
pub closed_depth : (level : Level) (outer rest : List Level) (around : Level) → outer ≡ rest ++ around ∷ [] → 32 < depth_of (level_tree level)
    → 32 < levels_depth (closed_level level (reverse outer))
closed_depth level outer rest around e deep =
    let tree = level_tree level in
    let nearest : reverse outer ≡ around ∷ reverse rest = ap reverse e ∙ reverse-append rest (around ∷ []) in
    let here : 32 < levels_depth (closed_level level (around ∷ reverse rest)) = omega (arith, operand_depth around tree, negated_depth around.nots tree) in
    subst (λ (ls : List Level). 32 < levels_depth (closed_level level ls)) (sym nearest) here
