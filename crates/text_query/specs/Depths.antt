-- How deep several queries are.
use Rattle.std.specs.Prelude.{ℕ, max, List, [], ◌∷◌}
use Rattle.documents.specs.declared.query.Query.{Query}
use Rattle.documents.specs.Matching.{depth_of}

-- the depth of the deepest, or 0 where there is none
abbrev pub deepest_in : List Query → ℕ
deepest_in [] = 0
deepest_in (query ∷ queries) = max (depth_of query) (deepest_in queries)
