-- The lines of a text, one after the other, and which of them are statements.
use Rattle.text_query.specs.Tokens.{is_space}
use Rattle.std.proofs.Common.{◌≡◌, ◌<◌, ◌≤◌, ◌+◌, ◌-◌, ℕ, zero, suc, Bool, true, false, List, [], ◌∷◌, ◌==◌, not, length, take, drop, refl, ap, ◌∙◌, sym, arith}
use Rattle.std.specs.Prelude.{take_while, ◌&&◌, Some, None}
use Rattle.std.specs.List.{prefix_len, slice_get}
use Rattle.std.proofs.lemmas.Option.{none-some, same_Some}
use Rattle.std.proofs.lemmas.List.{take_rest}
use Rattle.std.proofs.lemmas.List.Folds.{length-prefix_len}
use Rattle.script_text.proofs.WordLemmas.{words_without, first_is_none}
use Rattle.script_text.specs.Reading.{IsNextStatement, is_line_feed}
use Rattle.script_text.specs.Grammar.{statements_from, lines_of_text, is_statement, without_spaces, words_in, join_word, has_words, is_comment}
use Rattle.std.specs.List.{onto_first}

-- how many bytes stand before the first line feed
abbrev front : List ℕ → ℕ
front text = prefix_len (λ b. not (is_line_feed b)) text

splits : (text : List ℕ) (n k : ℕ) → front text ≡ n → n < length text → k ≡ n + 1 → lines_of_text text ≡ take n text ∷ lines_of_text (drop k text)
splits [] n k e h s = absurd (omega arith)
splits (b ∷ text) n zero e h s = absurd (omega arith)
splits (b ∷ text) zero (suc k) e h s = by_test (is_line_feed b) refl
  where
    by_test : (t : Bool) → is_line_feed b ≡ t → lines_of_text (b ∷ text) ≡ [] ∷ lines_of_text (drop k text)
    by_test true f = let z : k ≡ 0 = omega arith in rw (f, z) refl
    by_test false f = let z : 1 + front text ≡ 0 = rw f at e in absurd (omega arith)
splits (b ∷ text) (suc n) (suc k) e h s = by_test (is_line_feed b) refl (splits text n k)
  where
    by_test : (t : Bool) → is_line_feed b ≡ t → (front text ≡ n → n < length text → k ≡ n + 1 → lines_of_text text ≡ take n text ∷ lines_of_text (drop k text))
        → lines_of_text (b ∷ text) ≡ (b ∷ take n text) ∷ lines_of_text (drop k text)
    by_test true f ih = let z : 0 ≡ suc n = rw f at e in absurd (omega arith)
    by_test false f ih =
        let z : 1 + front text ≡ suc n = rw f at e in
        let i : lines_of_text text ≡ take n text ∷ lines_of_text (drop k text) = ih (omega arith) (omega arith) (omega arith) in
        rw (f, i) refl

whole : (text : List ℕ) (n : ℕ) → front text ≡ n → length text ≤ n → 0 < length text → lines_of_text text ≡ text ∷ []
whole [] n e h some = absurd (omega arith)
whole (b ∷ text) n e h some = by_test (is_line_feed b) refl text refl (whole text)
  where
    by_test : (t : Bool) → is_line_feed b ≡ t → (rest : List ℕ) → rest ≡ text → ((n : ℕ) → front text ≡ n → length text ≤ n → 0 < length text → lines_of_text text ≡ text ∷ [])
        → lines_of_text (b ∷ text) ≡ (b ∷ text) ∷ []
    by_test true f rest r ih = let z : 0 ≡ n = rw f at e in absurd (omega arith)
    by_test false f [] r ih = rw (f, sym r) refl
    by_test false f (c ∷ rest) r ih =
        let z : 1 + front text ≡ n = rw f at e in
        let longer : length text ≡ suc (length rest) = ap length (sym r) in
        let i : lines_of_text text ≡ text ∷ [] = ih (front text) refl (omega arith) (omega arith) in
        rw (f, i) refl

-- a text with a line feed begins with the bytes before it
pub first_line : (text : List ℕ) (at : ℕ) → at ≡ length (take_while (λ b. not (is_line_feed b)) text) → at < length text
    → lines_of_text text ≡ take at text ∷ lines_of_text (take (length text - (at + 1)) (drop (at + 1) text))
first_line text at e h = rw (take_rest text (at + 1)) (splits text at (at + 1) (sym (length-prefix_len (λ b. not (is_line_feed b)) text) ∙ sym e) h refl)

-- a text without a line feed is one line
pub only_line : (text : List ℕ) (at : ℕ) → at ≡ length (take_while (λ b. not (is_line_feed b)) text) → length text ≤ at → 0 < length text
    → lines_of_text text ≡ text ∷ []
only_line text at e h some = whole text at (sym (length-prefix_len (λ b. not (is_line_feed b)) text) ∙ sym e) h some

some_front : (b : ℕ) (words : List (List ℕ)) → (has_words (onto_first b words) && not (is_comment (onto_first b words))) ≡ not (b == 35)
some_front b [] = refl
some_front b (word ∷ words) = refl

-- a line's first word begins with its first byte that is no space
comment_by_first : (b : ℕ) (line : List ℕ) → is_space b ≡ false → is_statement (b ∷ line) ≡ not (b == 35)
comment_by_first b [] f = rw f refl
comment_by_first b (c ∷ line) f = by_test (is_space c) refl
  where
    by_test : (t : Bool) → is_space c ≡ t → is_statement (b ∷ c ∷ line) ≡ not (b == 35)
    by_test true g = rw f (rw g refl)
    by_test false g = rw f (rw g (some_front b (join_word c line (words_in line))))

at_front : (rest : List ℕ) (b : ℕ) → slice_get rest 0 ≡ Some b → rest ≡ b ∷ drop 1 rest
at_front [] b e = absurd (none-some b e)
at_front (c ∷ rest) b e = let same : c ≡ b = same_Some c b e in ap (λ (x : ℕ). x ∷ rest) same

-- a line is a statement by its first byte that is no space
pub statement_by_first : (line : List ℕ) (b : ℕ) → slice_get (without_spaces line) 0 ≡ Some b → is_statement line ≡ not (b == 35)
statement_by_first line b e =
    let e' : without_spaces line ≡ b ∷ drop 1 (without_spaces line) = at_front (without_spaces line) b e in
    ap (λ words. has_words words && not (is_comment words)) (words_without line ∙ ap words_in e')
    ∙ comment_by_first b (drop 1 (without_spaces line)) (first_is_none line b (drop 1 (without_spaces line)) e')

no_front : (rest : List ℕ) → slice_get rest 0 ≡ None → rest ≡ []
no_front [] e = refl
no_front (c ∷ rest) e = absurd (none-some c (sym e))

-- a line of spaces is no statement
pub no_statement : (line : List ℕ) → slice_get (without_spaces line) 0 ≡ None → is_statement line ≡ false
no_statement line e = ap (λ words. has_words words && not (is_comment words)) (words_without line ∙ ap words_in (no_front (without_spaces line) e))

-- the next line is a statement
pub goes_on : (from n : ℕ) (text left line rest : List ℕ) → statements_from n (lines_of_text left) ≡ statements_from from (lines_of_text text)
    → n + length left ≤ from + length text → length left ≤ length text → lines_of_text left ≡ line ∷ lines_of_text rest → length rest < length left
    → is_statement line ≡ true → IsNextStatement from text n line rest
goes_on from n text left line rest e bounded shorter split less is = record {
  statements = sym e ∙ (ap (statements_from n) split ∙ here);
  bounded = omega arith;
  shorter = omega arith;
}
  where
    here : statements_from n (line ∷ lines_of_text rest) ≡ record { number = n; line = line } ∷ statements_from (n + 1) (lines_of_text rest)
    here = rw is refl
