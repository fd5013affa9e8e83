-- The grammar of queries: how tokens are read, and the tree that a reading gives.
use Rattle.std.specs.Prelude.{◌≡◌, ℕ, List, [], ◌∷◌, ◌++◌}
use Rattle.documents.specs.declared.query.Query as tree
use Rattle.text_query.specs.declared.token.Token.{Token}
use Rattle.text_query.specs.declared.token.Token.TheVariants as token
use Rattle.text_query.specs.Tokens.{tokens_of, kinds_of}

mutual
  -- query = conj { "OR" conj }
  pub data QueryReading : Type 0 where
    last_conj : ConjReading → QueryReading
    conj_or : ConjReading → QueryReading → QueryReading

  -- conj = unary { "AND" unary }
  pub data ConjReading : Type 0 where
    last_unary : UnaryReading → ConjReading
    unary_and : UnaryReading → ConjReading → ConjReading

  -- unary = "NOT" unary | WORD | quoted text | "(" query ")"
  pub data UnaryReading : Type 0 where
    not_unary : UnaryReading → UnaryReading
    word : List ℕ → UnaryReading
    phrase : List (List ℕ) → UnaryReading
    parenthesised : QueryReading → UnaryReading

abbrev mutual
  -- the tokens that are read so
  pub query_tokens : QueryReading → List Token
  query_tokens (last_conj c) = conj_tokens c
  query_tokens (conj_or c q) = conj_tokens c ++ token.Or ∷ query_tokens q

  pub conj_tokens : ConjReading → List Token
  conj_tokens (last_unary u) = unary_tokens u
  conj_tokens (unary_and u c) = unary_tokens u ++ token.And ∷ conj_tokens c

  pub unary_tokens : UnaryReading → List Token
  unary_tokens (not_unary u) = token.Not ∷ unary_tokens u
  unary_tokens (word w) = token.Word w ∷ []
  unary_tokens (phrase words) = token.Phrase words ∷ []
  unary_tokens (parenthesised q) = token.Open ∷ query_tokens q ++ token.Close ∷ []

-- two or more parts of a conj are one All, and a single part stands by itself
abbrev pub all_of : List tree.Query → tree.Query
all_of [] = tree.All []
all_of (part ∷ []) = part
all_of (part ∷ next ∷ parts) = tree.All (part ∷ next ∷ parts)

-- two or more parts of a query are one Any, and a single part stands by itself
abbrev pub any_of : List tree.Query → tree.Query
any_of [] = tree.Any []
any_of (part ∷ []) = part
any_of (part ∷ next ∷ parts) = tree.Any (part ∷ next ∷ parts)

abbrev mutual
  -- the trees of the parts
  pub query_parts : QueryReading → List tree.Query
  query_parts (last_conj c) = all_of (conj_parts c) ∷ []
  query_parts (conj_or c q) = all_of (conj_parts c) ∷ query_parts q

  pub conj_parts : ConjReading → List tree.Query
  conj_parts (last_unary u) = unary_tree u ∷ []
  conj_parts (unary_and u c) = unary_tree u ∷ conj_parts c

  pub unary_tree : UnaryReading → tree.Query
  unary_tree (not_unary u) = tree.Not (unary_tree u)
  unary_tree (word w) = tree.Word w
  unary_tree (phrase words) = tree.Phrase words
  unary_tree (parenthesised q) = any_of (query_parts q)

-- the tree of a reading
abbrev pub query_tree : QueryReading → tree.Query
query_tree q = any_of (query_parts q)

-- the tokens are read as a query with this tree
abbrev pub ReadsAs : List Token → tree.Query → Type 0
ReadsAs tokens query = (q : QueryReading) × (query_tokens q ≡ tokens) × (query_tree q ≡ query)

-- the text spells the query
abbrev pub SpellsQuery : List ℕ → tree.Query → Type 0
SpellsQuery text query = ReadsAs (kinds_of (tokens_of text)) query
