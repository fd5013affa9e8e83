-- Where a text stops being a query.
use Rattle.std.specs.Prelude.{◌≡◌, ℕ, List, [], ◌∷◌, ◌++◌, ◌⊎◌, length}
use Rattle.text_query.specs.declared.token.Token.{Token}
use Rattle.text_query.specs.declared.token.Placed.{Placed}
use Rattle.text_query.specs.Tokens.{tokens_of, kinds_of}
use Rattle.text_query.specs.Grammar.{QueryReading, query_tokens}

-- the tokens are those of a query
abbrev pub IsQuery : List Token → Type 0
IsQuery tokens = (q : QueryReading) × (query_tokens q ≡ tokens)

-- the tokens begin a query: with some more behind them they are those of one
abbrev pub BeginsQuery : List Token → Type 0
BeginsQuery tokens = (more : List Token) × IsQuery (tokens ++ more)

-- a query goes on up to the token at this place, and not with it
pub record IsBadToken (tokens : List Placed) (at : ℕ) : Type 0 where
  pub before : List Placed
  pub bad : Placed
  pub behind : List Placed
  pub split : tokens ≡ before ++ bad ∷ behind
  pub goes_on : BeginsQuery (kinds_of before)
  pub stops : BeginsQuery (kinds_of before ++ bad.token ∷ []) → ⊥
  pub place : at ≡ bad.at

-- a query goes on from all the tokens, and they are none: a token is missing at the end
pub record IsMissingToken (tokens : List Placed) (end : ℕ) (at : ℕ) : Type 0 where
  pub goes_on : BeginsQuery (kinds_of tokens)
  pub stops : IsQuery (kinds_of tokens) → ⊥
  pub place : at ≡ end

-- the place of the first of these tokens with which no query goes on, or the end where a token is missing
abbrev pub IsFirstBadPlace : List Placed → ℕ → ℕ → Type 0
IsFirstBadPlace tokens end at = IsBadToken tokens at ⊎ IsMissingToken tokens end at

-- the place of the first token of a text with which no query goes on, or its length where a token is missing
abbrev pub IsFirstBadToken : List ℕ → ℕ → Type 0
IsFirstBadToken text at = IsFirstBadPlace (tokens_of text) (length text) at
