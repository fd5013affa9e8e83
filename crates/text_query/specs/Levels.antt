-- The tree of a query that is put together token by token.
use Rattle.std.specs.Prelude.{ℕ, zero, suc, ◌+◌, max, List, [], ◌∷◌, ◌++◌, reverse}
use Rattle.documents.specs.declared.query.Query.{Query, Word, Phrase, Not}
use Rattle.text_query.specs.declared.build.Join.{Join}
use Rattle.text_query.specs.declared.build.Join.TheVariants.{And, Or}
use Rattle.text_query.specs.declared.build.Level.{Level}
use Rattle.text_query.specs.declared.build.Builder.{Builder}
use Rattle.text_query.specs.declared.token.Token.{Token}
use Rattle.text_query.specs.declared.token.Token.TheVariants as token
use Rattle.text_query.specs.Depths.{deepest_in}
use Rattle.text_query.specs.Grammar.{all_of, any_of}

-- a query under so many NOT
abbrev pub negated_of : ℕ → Query → Query
negated_of zero query = query
negated_of (suc times) query = Not (negated_of times query)

-- several parts as one
abbrev pub joined_of : Join → List Query → Query
joined_of And parts = all_of parts
joined_of Or parts = any_of parts

-- nothing was read yet within a parenthesis
abbrev pub empty_level : Level
empty_level = record { any = []; all = []; nots = 0 }

-- an operand was read
abbrev pub with_operand : Level → Query → Level
with_operand level query = record { any = level.any; all = level.all ++ negated_of level.nots query ∷ []; nots = 0 }

-- OR was read
abbrev pub with_or : Level → Level
with_or level = record { any = level.any ++ all_of level.all ∷ []; all = []; nots = level.nots }

-- the tree of what was read within a parenthesis
abbrev pub level_tree : Level → Query
level_tree level = any_of (level.any ++ all_of level.all ∷ [])

-- the level of the innermost parenthesis that is open, and those around it, the nearest first
abbrev pub Levels : Type 0
Levels = Level × List Level

abbrev pub levels_of : Builder → Levels
levels_of builder = (builder.inner, reverse builder.outer.items)

-- the tree of a parenthesis is an operand of the level around it
abbrev pub closed_level : Level → List Level → Levels
closed_level level [] = (level, [])
closed_level level (around ∷ outer) = (with_operand around (level_tree level), outer)

-- the levels behind a token
abbrev pub levels_behind : Levels → Token → Levels
levels_behind levels (token.Word w) = (with_operand levels.0 (Word w), levels.1)
levels_behind levels (token.Phrase words) = (with_operand levels.0 (Phrase words), levels.1)
levels_behind levels token.Not = (record { any = levels.0.any; all = levels.0.all; nots = levels.0.nots + 1 }, levels.1)
levels_behind levels token.Or = (with_or levels.0, levels.1)
levels_behind levels token.Open = (empty_level, levels.0 ∷ levels.1)
levels_behind levels token.Close = closed_level levels.0 levels.1
levels_behind levels token.And = levels
levels_behind levels token.Stray = levels

-- the levels behind some tokens
abbrev pub levels_after : Levels → List Token → Levels
levels_after levels [] = levels
levels_after levels (token ∷ tokens) = levels_after (levels_behind levels token) tokens

-- how deep what was read of a level is, or will be
abbrev pub level_depth : Level → ℕ
level_depth level = max (deepest_in level.any) (max (deepest_in level.all) level.nots)

abbrev pub outer_depth : List Level → ℕ
outer_depth [] = 0
outer_depth (level ∷ levels) = max (level_depth level) (outer_depth levels)

-- how deep what was read is, or will be
abbrev pub levels_depth : Levels → ℕ
levels_depth levels = max (level_depth levels.0) (outer_depth levels.1)
