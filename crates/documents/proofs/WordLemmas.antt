-- A word is found among the words of a text by its runs of letters and digits.
use Rattle.std.proofs.Common.{◌≡◌, ℕ, ◌+◌, List, [], ◌∷◌, ◌++◌, map, Bool, true, false, ltb, leb, refl, sym, ap, ◌∙◌, arith, append_assoc, append-nil, length, ◌*◌, ◌≤◌}
use Rattle.std.specs.Prelude.{◌||◌, ◌↔◌, not, IsTrue, bytes_eq}
use Rattle.std.specs.List.{list_any, list_all, slice_split, onto_first}
use Rattle.std.specs.Char.{to_ascii_lowercase}
use Rattle.std.proofs.lemmas.Bool.{and_parts, ltb-true, ltb-false, leb-true, lt-leb, le-leb}
use Rattle.std.proofs.lemmas.Slice.Eq.{bytes_eq-Decides}
use Rattle.nrt_base.specs.Bytes.{is_word, is_word_byte, is_text, is_text_byte}
use Rattle.documents.specs.Words.{is_alphanumeric, is_capital, lower, with_run, words_after, words_of, has_word}

-- ---- a run, whatever its capitals

lowered : (b : ℕ) → to_ascii_lowercase b ≡ lower b
lowered b = below (ltb b 65) refl
  where
    above : (t : Bool) → ltb b 91 ≡ t → ltb b 65 ≡ false → to_ascii_lowercase b ≡ lower b
    above true e f = rw (f, e, le-leb 65 b (ltb-false b 65 f), le-leb b 90 (omega (arith, ltb-true b 91 e))) refl
    above false e f = rw (f, e, le-leb 65 b (ltb-false b 65 f), lt-leb b 90 (omega (arith, ltb-false b 91 e))) refl

    below : (t : Bool) → ltb b 65 ≡ t → to_ascii_lowercase b ≡ lower b
    below true e = rw (e, lt-leb 65 b (ltb-true b 65 e)) refl
    below false e = above (ltb b 91) refl e

run_lowered : (run : List ℕ) → map to_ascii_lowercase run ≡ map lower run
run_lowered [] = refl
run_lowered (b ∷ run) = rw (lowered b, run_lowered run) refl

low_already : (b : ℕ) → is_word_byte b ≡ true → lower b ≡ b
low_already b word = by_capital (is_capital b) refl
  where
    by_capital : (t : Bool) → is_capital b ≡ t → lower b ≡ b
    by_capital false e = rw e refl
    by_capital true e =
        let within = and_parts (leb 65 b) (leb b 90) e in
        absurd (no_capital (leb-true 65 b within.0) (leb-true b 90 within.1))
      where
        no_capital : 65 ≤ b → b ≤ 90 → ⊥
        no_capital low high = let clash : false ≡ true = sym (rw (lt-leb 97 b (omega (arith, high)), le-leb 48 b (omega (arith, low)), lt-leb b 57 (omega (arith, low))) refl) ∙ word in cc

word_low : (word : List ℕ) → list_all is_word_byte word ≡ true → map lower word ≡ word
word_low [] word = refl
word_low (b ∷ rest) word =
    let both = and_parts (is_word_byte b) (list_all is_word_byte rest) word in
    rw (low_already b both.0, word_low rest both.1) refl

-- a run is a word where both are the same without capitals
pub run_is_word : (r : Bool) (run word : List ℕ) → IsTrue r ↔ (map to_ascii_lowercase run ≡ map to_ascii_lowercase word) → IsTrue (is_word word)
    → r ≡ bytes_eq (map lower run) word
run_is_word r run word test kind = by_answer r test
  where
    kept : map to_ascii_lowercase word ≡ word
    kept = run_lowered word ∙ word_low word (and_parts (leb 1 (length word)) (list_all is_word_byte word) kind).1

    by_answer : (r : Bool) → IsTrue r ↔ (map to_ascii_lowercase run ≡ map to_ascii_lowercase word) → r ≡ bytes_eq (map lower run) word
    by_answer true test = sym ((bytes_eq-Decides (map lower run) word).1 (sym (run_lowered run) ∙ test.0 refl ∙ kept))
    by_answer false test = by_bytes (bytes_eq (map lower run) word) refl
      where
        by_bytes : (b : Bool) → bytes_eq (map lower run) word ≡ b → false ≡ bytes_eq (map lower run) word
        by_bytes false e = sym e
        by_bytes true e = let bad : false ≡ true = test.1 (run_lowered run ∙ (bytes_eq-Decides (map lower run) word).0 e ∙ sym kept) in absurd cc

-- ---- the runs of a text

abbrev is_gap : ℕ → Bool
is_gap b = not (is_alphanumeric b)

-- a run is the word
abbrev is_run : List ℕ → List ℕ → Bool
is_run word run = bytes_eq (map lower run) word

-- the word is among runs of which the first was read so far
abbrev among_runs : List ℕ → List ℕ → List (List ℕ) → Bool
among_runs word read [] = bytes_eq read word
among_runs word read (run ∷ runs) = bytes_eq (read ++ map lower run) word || list_any (is_run word) runs

module _ (word : List ℕ) (some : bytes_eq [] word ≡ false) where
  or_false : (b : Bool) → (b || false) ≡ b
  or_false true = refl
  or_false false = refl

  one_more : (read : List ℕ) (b : ℕ) (runs : List (List ℕ)) → among_runs word (read ++ lower b ∷ []) runs ≡ among_runs word read (onto_first b runs)
  one_more read b [] = sym (or_false (bytes_eq (read ++ lower b ∷ []) word))
  one_more read b (run ∷ runs) =
      ap (λ (bytes : List ℕ). bytes_eq bytes word || list_any (is_run word) runs) (append_assoc read (lower b ∷ []) (map lower run))

  begun : (runs : List (List ℕ)) → among_runs word [] runs ≡ list_any (is_run word) runs
  begun [] = some
  begun (run ∷ runs) = refl

  ended : (read : List ℕ) (words : List (List ℕ)) → has_word word (with_run read words) ≡ (bytes_eq (read ++ []) word || has_word word words)
  ended [] words = rw some refl
  ended (b ∷ read) words = ap (λ (bytes : List ℕ). bytes_eq bytes word || has_word word words) (sym (append-nil (b ∷ read)))

  words_are_runs : (read text : List ℕ) → has_word word (words_after read text) ≡ among_runs word read (slice_split is_gap text)
  words_are_runs read [] = ended read []
  words_are_runs read (b ∷ text) = by_kind (is_alphanumeric b) refl (words_are_runs (read ++ lower b ∷ []) text) (words_are_runs [] text)
    where
      by_kind : (t : Bool) → is_alphanumeric b ≡ t
          → has_word word (words_after (read ++ lower b ∷ []) text) ≡ among_runs word (read ++ lower b ∷ []) (slice_split is_gap text)
          → has_word word (words_after [] text) ≡ among_runs word [] (slice_split is_gap text)
          → has_word word (words_after read (b ∷ text)) ≡ among_runs word read (slice_split is_gap (b ∷ text))
      by_kind true e inside behind = rw e (inside ∙ one_more read b (slice_split is_gap text))
      by_kind false e inside behind =
          rw e (ended read (words_after [] text)
          ∙ ap (λ (t : Bool). bytes_eq (read ++ []) word || t) (behind ∙ begun (slice_split is_gap text)))

-- a word is among the words of a text where it is one of its runs
pub word_among_runs : (word text : List ℕ) → IsTrue (is_word word) → list_any (λ run. bytes_eq (map lower run) word) (slice_split (λ b. not (is_alphanumeric b)) text) ≡ has_word word (words_of text)
word_among_runs [] text kind = absurd cc
word_among_runs (b ∷ word) text kind = sym (words_are_runs (b ∷ word) refl [] text ∙ begun (b ∷ word) refl (slice_split is_gap text))

-- ---- how many words a text has

-- what the end of a text may add to twice its words
abbrev room : List ℕ → ℕ
room [] = 1
room (b ∷ read) = 2

few_words : (read text : List ℕ) → 2 * length (words_after read text) ≤ length text + room read
few_words [] [] = omega arith
few_words (a ∷ read) [] = omega arith
few_words read (b ∷ text) = by_kind (is_alphanumeric b) refl (few_words (read ++ lower b ∷ []) text) (few_words [] text)
  where
    more : (read : List ℕ) → room (read ++ lower b ∷ []) ≡ 2
    more [] = refl
    more (a ∷ read) = refl

    enough : (read : List ℕ) → 1 ≤ room read
    enough [] = omega arith
    enough (a ∷ read) = omega arith

    gap : (read : List ℕ) → 2 * length (words_after [] text) ≤ length text + 1
        → 2 * length (with_run read (words_after [] text)) ≤ length (b ∷ text) + room read
    gap [] few = omega (arith, few)
    gap (a ∷ read) few = omega (arith, few)

    by_kind : (t : Bool) → is_alphanumeric b ≡ t
        → 2 * length (words_after (read ++ lower b ∷ []) text) ≤ length text + room (read ++ lower b ∷ [])
        → 2 * length (words_after [] text) ≤ length text + 1
        → 2 * length (words_after read (b ∷ text)) ≤ length (b ∷ text) + room read
    by_kind true e inside behind = rw e (omega (arith, inside, more read, enough read))
    by_kind false e inside behind = rw e (gap read behind)

-- a text has at most 2,048 words
pub length-words_of-le : (text : List ℕ) → IsTrue (is_text text) → length (words_of text) ≤ 2048
length-words_of-le text kind =
    let short = leb-true (length text) 4096 (and_parts (leb (length text) 4096) (list_all is_text_byte text) kind).0 in
    omega (arith, few_words [] text, short)
