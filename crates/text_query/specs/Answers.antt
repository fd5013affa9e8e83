-- What is answered to the text of a query.
use Rattle.std.specs.Prelude.{ℕ, ◌+◌, ◌-◌, ◌<◌, ◌≤◌, max, List, [], ◌∷◌, Bool, IsTrue, not, Result, Ok, Err}
use Rattle.std.specs.List.{list_all}
use Rattle.documents.specs.declared.query.Query.{Query}
use Rattle.documents.specs.Matching.{depth_of, leaves_of}
use Rattle.text_query.specs.declared.fault.QueryFault.{QueryFault}
use Rattle.text_query.specs.declared.fault.QueryFault.TheVariants.{Memory, Empty, Syntax, TooDeep, TooMany}
use Rattle.text_query.specs.declared.token.Token.{Token}
use Rattle.text_query.specs.declared.token.Token.TheVariants.{Open, Close}
use Rattle.text_query.specs.Tokens.{is_space, tokens_of, kinds_of}
use Rattle.text_query.specs.Grammar.{SpellsQuery}
use Rattle.text_query.specs.Syntax.{IsFirstBadToken}

-- nothing but spaces
abbrev pub is_blank : List ℕ → Bool
is_blank text = list_all is_space text

-- how many parentheses are open behind a token, where so many are open before it
abbrev pub open_behind : ℕ → Token → ℕ
open_behind level Open = level + 1
open_behind level Close = level - 1
open_behind level token = level

-- the most parentheses that are open at once, where so many are open before the tokens
abbrev pub most_open : ℕ → List Token → ℕ
most_open level [] = level
most_open level (token ∷ tokens) = max level (most_open (open_behind level token) tokens)

-- how deep a text with this tree goes: by its parentheses or by its tree, whichever is more
abbrev pub depth_with : List ℕ → Query → ℕ
depth_with text query = max (most_open 0 (kinds_of (tokens_of text))) (depth_of query)

-- the text spells the query, which is neither too deep nor has too many leaves
abbrev pub Parses : List ℕ → Query → Type 0
Parses text query = SpellsQuery text query × (depth_with text query ≤ 32) × (leaves_of query ≤ 64)

-- the fault of a text
abbrev pub IsFault : List ℕ → QueryFault → Type 0
IsFault text Empty = IsTrue (is_blank text)
IsFault text (Syntax at) = IsTrue (not (is_blank text)) × IsFirstBadToken text at
IsFault text TooDeep = (query : Query) × SpellsQuery text query × (32 < depth_with text query)
IsFault text TooMany =
    (query : Query) × SpellsQuery text query × (depth_with text query ≤ 32) × (64 < leaves_of query)
IsFault text Memory = ⊥

-- what is answered to a text: the reader may always be out of memory
abbrev pub IsQueryAnswer : List ℕ → Result Query QueryFault → Type 0
IsQueryAnswer text (Ok query) = Parses text query
IsQueryAnswer text (Err Memory) = Unit {0}
IsQueryAnswer text (Err Empty) = IsFault text Empty
IsQueryAnswer text (Err (Syntax at)) = IsFault text (Syntax at)
IsQueryAnswer text (Err TooDeep) = IsFault text TooDeep
IsQueryAnswer text (Err TooMany) = IsFault text TooMany
