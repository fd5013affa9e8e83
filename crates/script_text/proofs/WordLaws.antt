-- The words of a line, what stands behind them, and when a line of printable words is printable.
use Rattle.text_query.specs.Tokens.{is_space}
use Rattle.std.proofs.Common.{◌≡◌, ℕ, zero, suc, List, [], ◌∷◌, true, false, refl, ap, ◌∙◌, sym, arith, inl, inr}
use Rattle.std.specs.Prelude.{◌&&◌, if◌then◌else◌}
use Rattle.std.specs.List.{list_all}
use Rattle.std.proofs.lemmas.Bool.Decides.{nat_tests}
use Rattle.std.proofs.lemmas.Bool.{cases_Bool, and_from, and_parts}
use Rattle.nrt_base.specs.Bytes.{is_text_byte}
use Rattle.script_text.specs.Grammar.{join_word, words_in, without_spaces, without_end, behind_word, rest_behind}
use Rattle.script_text.specs.Refused.{is_printable}
use Rattle.std.specs.List.{onto_first}

-- the words without the first
abbrev pub words_behind : List (List ℕ) → List (List ℕ)
words_behind [] = []
words_behind (word ∷ words) = words

-- the words without the first n
abbrev pub words_after : ℕ → List (List ℕ) → List (List ℕ)
words_after zero words = words
words_after (suc n) words = words_after n (words_behind words)

behind-with_first : (b : ℕ) (words : List (List ℕ)) → words_behind (onto_first b words) ≡ words_behind words
behind-with_first b [] = refl
behind-with_first b (word ∷ words) = refl

behind-join_word : (b : ℕ) (line : List ℕ) → words_behind (join_word b line (words_in line)) ≡ words_in (behind_word line)
behind-join_word b [] = refl
behind-join_word b (c ∷ rest) =
    elim (cases_Bool (is_space c)) [
      | inl here ↦ simp here
      | inr apart ↦ simp apart (behind-with_first b (join_word c rest (words_in rest)) ∙ behind-join_word c rest)
    ]

-- behind the first word stand the others
words_in-behind : (line : List ℕ) → words_in (behind_word (without_spaces line)) ≡ words_behind (words_in line)
words_in-behind [] = refl
words_in-behind (b ∷ line) =
    elim (cases_Bool (is_space b)) [
      | inl here ↦ simp here (words_in-behind line)
      | inr apart ↦ simp apart (sym (behind-join_word b line))
    ]

some_joined : (b : ℕ) (line : List ℕ) (words : List (List ℕ)) → join_word b line words ≡ [] → ⊥
some_joined b [] words e = cc
some_joined b (c ∷ rest) words e =
    elim (is_space c) as (λ t. (if t then (b ∷ []) ∷ words else onto_first b words) ≡ [] → ⊥) [
      | true ↦ λ none. cc
      | false ↦ some_first b words
    ] e
  where
    some_first : (b : ℕ) (words : List (List ℕ)) → onto_first b words ≡ [] → ⊥
    some_first b [] e = cc
    some_first b (word ∷ words) e = cc

-- a line without words has only spaces
no_words : (line : List ℕ) → words_in line ≡ [] → without_spaces line ≡ []
no_words [] e = refl
no_words (b ∷ line) e =
    elim (cases_Bool (is_space b)) [
      | inl here ↦ simp here (no_words line (simp here at e))
      | inr apart ↦ absurd (some_joined b line (words_in line) (simp apart at e))
    ]

-- where a line has n words at most, nothing stands behind n words
pub nothing_behind : (n : ℕ) (line : List ℕ) → words_after n (words_in line) ≡ [] → rest_behind n line ≡ []
nothing_behind zero line e = ap without_end (no_words line e)
nothing_behind (suc n) line e = nothing_behind n (behind_word (without_spaces line)) (ap (words_after n) (words_in-behind line) ∙ e)

printable_space : (b : ℕ) → is_space b ≡ true → is_text_byte b ≡ true
printable_space b h = grind (arith, nat_tests)

-- a first byte and the words that it stands before are printable
record ArePrintable (b : ℕ) (words : List (List ℕ)) : Type 0 where
  byte : is_text_byte b ≡ true
  each : list_all is_printable words ≡ true

printable_word : (b : ℕ) (word : List ℕ) (words : List (List ℕ)) → list_all is_printable ((b ∷ word) ∷ words) ≡ true → ArePrintable b (word ∷ words)
printable_word b word words all =
    let parts = and_parts (is_text_byte b && list_all is_text_byte word) (list_all is_printable words) all in
    let bytes = and_parts (is_text_byte b) (list_all is_text_byte word) parts.0 in
    record { byte = bytes.0; each = and_from (is_printable word) (list_all is_printable words) bytes.1 parts.1 }

printable-with_first : (b : ℕ) (words : List (List ℕ)) → list_all is_printable (onto_first b words) ≡ true → ArePrintable b words
printable-with_first b [] all =
    let parts = printable_word b [] [] all in
    record { byte = parts.byte; each = refl }
printable-with_first b (word ∷ words) all = printable_word b word words all

printable_alone : (b : ℕ) (words : List (List ℕ)) → list_all is_printable ((b ∷ []) ∷ words) ≡ true → ArePrintable b words
printable_alone b words all =
    let parts = printable_word b [] words all in
    record { byte = parts.byte; each = (and_parts (is_printable []) (list_all is_printable words) parts.each).1 }

printable-join_word : (b : ℕ) (line : List ℕ) (words : List (List ℕ)) → list_all is_printable (join_word b line words) ≡ true → ArePrintable b words
printable-join_word b [] words all = printable_alone b words all
printable-join_word b (c ∷ rest) words all =
    elim (is_space c) as (λ t. list_all is_printable (if t then (b ∷ []) ∷ words else onto_first b words) ≡ true → ArePrintable b words) [
      | true ↦ printable_alone b words
      | false ↦ printable-with_first b words
    ] all

-- a line is printable where its words are
pub printable_line : (line : List ℕ) → list_all is_printable (words_in line) ≡ true → is_printable line ≡ true
printable_line [] all = refl
printable_line (b ∷ line) all =
    elim (cases_Bool (is_space b)) [
      | inl here ↦ and_from (is_text_byte b) (is_printable line) (printable_space b here) (printable_line line (simp here at all))
      | inr apart ↦
          let joined : list_all is_printable (join_word b line (words_in line)) ≡ true = simp apart at all in
          let parts = printable-join_word b line (words_in line) joined in
          and_from (is_text_byte b) (is_printable line) parts.byte (printable_line line parts.each)
    ]
