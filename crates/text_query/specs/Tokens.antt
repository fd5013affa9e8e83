-- The tokens of a text.
use Rattle.std.specs.Prelude.{ℕ, ◌+◌, zero, suc, List, [], ◌∷◌, length, map, take_while, codes, Bool, true, false, not, ◌==◌, nat_eq, nat_lt, if◌then◌else◌}
use Rattle.std.specs.Cmp.Lexicographic.{pointwise}
use Rattle.documents.specs.Words.{is_alphanumeric, lower, words_of}
use Rattle.text_query.specs.declared.token.Token.{Token}
use Rattle.text_query.specs.declared.token.Token.TheVariants.{Word, Phrase, Open, Close, And, Or, Not, Stray}
use Rattle.text_query.specs.declared.token.Placed.{Placed}

-- a space is the one byte that may stand between tokens
abbrev pub is_space : ℕ → Bool
is_space b = b == 32

abbrev pub is_quote : ℕ → Bool
is_quote b = b == 34

-- the letters and digits that a text begins with, as many as there are
abbrev pub run_of : List ℕ → List ℕ
run_of text = take_while is_alphanumeric text

-- what stands before the next quote
abbrev pub quoted_of : List ℕ → List ℕ
quoted_of text = take_while (λ b. not (is_quote b)) text

-- a run is an operator where it is exactly its name, and else a word with capitals made small
abbrev pub token_of_run : List ℕ → Token
token_of_run run =
    if pointwise nat_eq run (codes "AND") then And
    else if pointwise nat_eq run (codes "OR") then Or
    else if pointwise nat_eq run (codes "NOT") then Not
    else Word (map lower run)

-- a quoted text with one word is that word, with more a phrase, and without a word no token
abbrev pub token_of_words : List (List ℕ) → Token
token_of_words [] = Stray
token_of_words (w ∷ []) = Word w
token_of_words (w ∷ v ∷ words) = Phrase (w ∷ v ∷ words)

-- the token that begins with a quote, before this text: where no other quote ends it, it is none
abbrev pub token_of_quote : List ℕ → Token
token_of_quote text =
    if nat_lt (length (quoted_of text)) (length text) then token_of_words (words_of (quoted_of text)) else Stray

-- a parenthesis, or what no token begins with
abbrev pub token_of_byte : ℕ → Token
token_of_byte b = if b == 40 then Open else if b == 41 then Close else Stray

-- the token that a text begins with
abbrev pub token_at : List ℕ → Token
token_at [] = Stray
token_at (b ∷ text) =
    if is_alphanumeric b then token_of_run (run_of (b ∷ text)) else if is_quote b then token_of_quote text else token_of_byte b

-- how many bytes that token takes behind its first
abbrev pub bytes_behind : List ℕ → ℕ
bytes_behind [] = 0
bytes_behind (b ∷ text) =
    if is_alphanumeric b then length (run_of text) else if is_quote b then length (quoted_of text) + 1 else 0

-- the tokens of what stands from the place `at` on, without the bytes that a token before it takes
abbrev pub tokens_from : ℕ → ℕ → List ℕ → List Placed
tokens_from taken at [] = []
tokens_from zero at (b ∷ text) =
    if is_space b then tokens_from zero (at + 1) text
    else record { at = at; token = token_at (b ∷ text) } ∷ tokens_from (bytes_behind (b ∷ text)) (at + 1) text
tokens_from (suc taken) at (b ∷ text) = tokens_from taken (at + 1) text

-- the tokens of a text, each with the place of its first byte
abbrev pub tokens_of : List ℕ → List Placed
tokens_of text = tokens_from 0 0 text

-- the tokens without their places
abbrev pub kinds_of : List Placed → List Token
kinds_of tokens = map (λ placed. placed.token) tokens

-- a word or a phrase, which is a leaf of the tree
abbrev pub is_leaf : Token → Bool
is_leaf (Word w) = true
is_leaf (Phrase words) = true
is_leaf token = false
