-- The words of a line, one after the other, and what stands behind them.
use Rattle.text_query.specs.Tokens.{is_space}
use Rattle.std.proofs.Common.{◌≡◌, ◌<◌, ◌≤◌, ◌+◌, ◌-◌, ℕ, zero, suc, Bool, true, false, List, [], ◌∷◌, ◌++◌, not, length, take, drop, refl, ap, ◌∙◌, sym, arith}
use Rattle.std.specs.Prelude.{take_while, ◌&&◌, nat_lt, nat_le, if◌then◌else◌}
use Rattle.std.specs.List.{prefix_len, list_all}
use Rattle.nrt_base.specs.Bytes.{is_text_byte, is_key_byte, is_text}
use Rattle.std.proofs.lemmas.Bool.{and_parts}
use Rattle.std.proofs.lemmas.List.{take_rest, length-drop}
use Rattle.std.proofs.lemmas.List.Folds.{length-prefix_len}
use Rattle.std.proofs.lemmas.Bool.Decides.{nat_tests}
use Rattle.script_text.specs.Grammar.{words_in, join_word, without_spaces, without_end, unless_space, behind_word, rest_behind, word_at}
use Rattle.script_text.specs.Refused.{is_printable}
use Rattle.std.specs.List.{onto_first}
use Rattle.script_text.specs.Reading.{is_key_word}

spaces_dropped : (line : List ℕ) (n : ℕ) → prefix_len is_space line ≡ n → drop n line ≡ without_spaces line
spaces_dropped [] zero e = refl
spaces_dropped [] (suc n) e = refl
spaces_dropped (b ∷ line) zero e = by_test (is_space b) refl
  where
    by_test : (t : Bool) → is_space b ≡ t → b ∷ line ≡ without_spaces (b ∷ line)
    by_test true f = let z : 1 + prefix_len is_space line ≡ 0 = rw f at e in absurd (omega arith)
    by_test false f = rw f refl
spaces_dropped (b ∷ line) (suc n) e = by_test (is_space b) refl (spaces_dropped line n)
  where
    by_test : (t : Bool) → is_space b ≡ t → (prefix_len is_space line ≡ n → drop n line ≡ without_spaces line) → drop n line ≡ without_spaces (b ∷ line)
    by_test true f ih = let z : 1 + prefix_len is_space line ≡ suc n = rw f at e in rw f (ih (omega arith))
    by_test false f ih = let z : 0 ≡ suc n = rw f at e in absurd (omega arith)

pub dropped_spaces : (line : List ℕ) (at : ℕ) → at ≡ length (take_while is_space line) → take (length line - at) (drop at line) ≡ without_spaces line
dropped_spaces line at e = take_rest line at ∙ spaces_dropped line at (sym (length-prefix_len is_space line) ∙ sym e)

-- how many bytes stand before the first space
abbrev front : List ℕ → ℕ
front line = prefix_len (λ b. not (is_space b)) line

word_dropped : (line : List ℕ) (n : ℕ) → front line ≡ n → drop n line ≡ behind_word line
word_dropped [] zero e = refl
word_dropped [] (suc n) e = refl
word_dropped (b ∷ line) zero e = by_test (is_space b) refl
  where
    by_test : (t : Bool) → is_space b ≡ t → b ∷ line ≡ behind_word (b ∷ line)
    by_test true f = rw f refl
    by_test false f = let z : 1 + front line ≡ 0 = rw f at e in absurd (omega arith)
word_dropped (b ∷ line) (suc n) e = by_test (is_space b) refl (word_dropped line n)
  where
    by_test : (t : Bool) → is_space b ≡ t → (front line ≡ n → drop n line ≡ behind_word line) → drop n line ≡ behind_word (b ∷ line)
    by_test true f ih = let z : 0 ≡ suc n = rw f at e in absurd (omega arith)
    by_test false f ih = let z : 1 + front line ≡ suc n = rw f at e in rw f (ih (omega arith))

pub dropped_word : (line : List ℕ) (at : ℕ) → at ≡ length (take_while (λ b. not (is_space b)) line) → take (length line - at) (drop at line) ≡ behind_word line
dropped_word line at e = take_rest line at ∙ word_dropped line at (sym (length-prefix_len (λ b. not (is_space b)) line) ∙ sym e)

-- what the words of a line are, where its first byte is the end of one
joined : (b : ℕ) (line : List ℕ) → is_space b ≡ false → words_in (b ∷ line) ≡ join_word b line (words_in line)
joined b line f = rw f refl

-- a line that begins with no space begins with its first word
word_split : (b : ℕ) (line : List ℕ) (n : ℕ) → is_space b ≡ false → front line ≡ n → words_in (b ∷ line) ≡ (b ∷ take n line) ∷ words_in (drop n line)
word_split b [] zero f e = rw f refl
word_split b [] (suc n) f e = absurd (omega arith)
word_split b (c ∷ line) zero f e = by_test (is_space c) refl
  where
    by_test : (t : Bool) → is_space c ≡ t → words_in (b ∷ c ∷ line) ≡ (b ∷ []) ∷ words_in (c ∷ line)
    by_test true g = rw f (rw g refl)
    by_test false g = let z : 1 + front line ≡ 0 = rw g at e in absurd (omega arith)
word_split b (c ∷ line) (suc n) f e = by_test (is_space c) refl (word_split c line n)
  where
    by_test : (t : Bool) → is_space c ≡ t → (is_space c ≡ false → front line ≡ n → words_in (c ∷ line) ≡ (c ∷ take n line) ∷ words_in (drop n line))
        → words_in (b ∷ c ∷ line) ≡ (b ∷ c ∷ take n line) ∷ words_in (drop n line)
    by_test true g ih = let z : 0 ≡ suc n = rw g at e in absurd (omega arith)
    by_test false g ih =
        let z : 1 + front line ≡ suc n = rw g at e in
        let i : words_in (c ∷ line) ≡ (c ∷ take n line) ∷ words_in (drop n line) = ih g (omega arith) in
        joined b (c ∷ line) f ∙ (joins g ∙ ap (onto_first b) i)
      where
        joins : is_space c ≡ false → join_word b (c ∷ line) (words_in (c ∷ line)) ≡ onto_first b (words_in (c ∷ line))
        joins h = ap (λ (u : Bool). if u then (b ∷ []) ∷ words_in (c ∷ line) else onto_first b (words_in (c ∷ line))) h

-- the spaces at the front are in no word
pub words_without : (line : List ℕ) → words_in line ≡ words_in (without_spaces line)
words_without [] = refl
words_without (b ∷ line) = by_test (is_space b) refl (words_without line)
  where
    by_test : (t : Bool) → is_space b ≡ t → words_in line ≡ words_in (without_spaces line) → words_in (b ∷ line) ≡ words_in (without_spaces (b ∷ line))
    by_test true f ih = rw f ih
    by_test false f ih = rw f (rw f refl)

-- what has no spaces at its front is empty, or begins with no space
pub first_is_none : (line : List ℕ) (b : ℕ) (rest : List ℕ) → without_spaces line ≡ b ∷ rest → is_space b ≡ false
first_is_none [] b rest e = cc
first_is_none (c ∷ line) b rest e = by_test (is_space c) refl (first_is_none line b rest)
  where
    by_test : (t : Bool) → is_space c ≡ t → (without_spaces line ≡ b ∷ rest → is_space b ≡ false) → is_space b ≡ false
    by_test true f ih = let z : without_spaces line ≡ b ∷ rest = rw f at e in ih z
    by_test false f ih = let z : c ∷ line ≡ b ∷ rest = rw f at e in let same : c ≡ b = cc in ap is_space (sym same) ∙ f

-- a line whose first byte is no space has its first word at its front
front_word : (line : List ℕ) (at : ℕ) → ((b : ℕ) (rest : List ℕ) → line ≡ b ∷ rest → is_space b ≡ false) → front line ≡ at → 0 < length line
    → words_in line ≡ take at line ∷ words_in (drop at line)
front_word [] at first e some = absurd (omega arith)
front_word (b ∷ line) zero first e some = let f = first b line refl in let z : 1 + front line ≡ 0 = rw f at e in absurd (omega arith)
front_word (b ∷ line) (suc n) first e some =
    let f = first b line refl in
    let z : 1 + front line ≡ suc n = rw f at e in
    word_split b line n f (omega arith)

pub split_word : (line : List ℕ) (at : ℕ) → at ≡ length (take_while (λ b. not (is_space b)) (without_spaces line)) → 0 < length (without_spaces line)
    → words_in line ≡ take at (without_spaces line) ∷ words_in (take (length (without_spaces line) - at) (drop at (without_spaces line)))
split_word line at e some =
    rw (take_rest (without_spaces line) at)
    (words_without line ∙ front_word (without_spaces line) at (first_is_none line) (sym (length-prefix_len (λ b. not (is_space b)) (without_spaces line)) ∙ sym e) some)

without_spaces_shorter : (line : List ℕ) → length (without_spaces line) ≤ length line
without_spaces_shorter [] = omega arith
without_spaces_shorter (b ∷ line) = by_test (is_space b) refl (without_spaces_shorter line)
  where
    by_test : (t : Bool) → is_space b ≡ t → length (without_spaces line) ≤ length line → length (without_spaces (b ∷ line)) ≤ length (b ∷ line)
    by_test true f ih = rw f (omega arith)
    by_test false f ih = rw f (omega arith)

some_word : (line : List ℕ) → ((b : ℕ) (rest : List ℕ) → line ≡ b ∷ rest → is_space b ≡ false) → 0 < length line → 0 < front line
some_word [] first some = absurd (omega arith)
some_word (b ∷ line) first some = rw (first b line refl) (omega arith)

-- what follows the first word is shorter than the line
pub rest_shorter : (line rest : List ℕ) (at : ℕ) → rest ≡ without_spaces line → at ≡ length (take_while (λ b. not (is_space b)) rest) → 0 < length rest
    → length (take (length rest - at) (drop at rest)) < length line
rest_shorter line rest at is e some =
    let w : 0 < front rest = some_word rest (λ b more h. first_is_none line b more (sym is ∙ h)) some in
    let z : at ≡ front rest = e ∙ length-prefix_len (λ b. not (is_space b)) rest in
    let short : length (drop at rest) ≡ length rest - at = length-drop at rest in
    let same : length rest ≡ length (without_spaces line) = ap length is in
    rw (take_rest rest at, short) (omega (arith, without_spaces_shorter line))

pub no_word : (line : List ℕ) → length (without_spaces line) ≡ 0 → words_in line ≡ []
no_word line e = words_without line ∙ none (without_spaces line) e
  where
    none : (rest : List ℕ) → length rest ≡ 0 → words_in rest ≡ []
    none [] h = refl
    none (b ∷ rest) h = absurd (omega arith)

pub later_word : (words : List (List ℕ)) (n : ℕ) → word_at n (drop 1 words) ≡ word_at (n + 1) words
later_word [] n = refl
later_word (word ∷ words) n = let e : n + 1 ≡ suc n = omega arith in rw e refl

pub end_cut : (line : List ℕ) → without_end (line ++ (32 ∷ [])) ≡ without_end line
end_cut [] = refl
end_cut (b ∷ line) = ap (unless_space b) (end_cut line)

pub end_kept : (line : List ℕ) (b : ℕ) → is_space b ≡ false → without_end (line ++ (b ∷ [])) ≡ line ++ (b ∷ [])
end_kept [] b f = rw f refl
end_kept (c ∷ line) b f = ap (unless_space c) (end_kept line b f) ∙ more line
  where
    more : (front : List ℕ) → unless_space c (front ++ (b ∷ [])) ≡ c ∷ (front ++ (b ∷ []))
    more [] = refl
    more (d ∷ front) = refl

-- a space at the end is cut
pub cut_at : (line front : List ℕ) (b : ℕ) → line ≡ front ++ (b ∷ []) → b ≡ 32 → without_end front ≡ without_end line
cut_at line front b e f = sym (ap without_end e ∙ (ap (λ (x : ℕ). without_end (front ++ (x ∷ []))) f ∙ end_cut front))

-- another byte at the end stays
pub kept_at : (line front : List ℕ) (b : ℕ) → line ≡ front ++ (b ∷ []) → (b ≡ 32 → ⊥) → line ≡ without_end line
kept_at line front b e f =
    let other : is_space b ≡ false = grind (arith, nat_tests) in
    e ∙ (sym (end_kept front b other) ∙ ap without_end (sym e))

printable_without : (line : List ℕ) → is_printable line ≡ true → is_printable (without_spaces line) ≡ true
printable_without [] p = refl
printable_without (b ∷ line) p = by_test (is_space b) refl (printable_without line (and_parts (is_text_byte b) (is_printable line) p).1)
  where
    by_test : (t : Bool) → is_space b ≡ t → is_printable (without_spaces line) ≡ true → is_printable (without_spaces (b ∷ line)) ≡ true
    by_test true f ih = rw f ih
    by_test false f ih = rw f p

printable_behind : (line : List ℕ) → is_printable line ≡ true → is_printable (behind_word line) ≡ true
printable_behind [] p = refl
printable_behind (b ∷ line) p = by_test (is_space b) refl (printable_behind line (and_parts (is_text_byte b) (is_printable line) p).1)
  where
    by_test : (t : Bool) → is_space b ≡ t → is_printable (behind_word line) ≡ true → is_printable (behind_word (b ∷ line)) ≡ true
    by_test true f ih = rw f p
    by_test false f ih = rw f ih

printable_end : (line : List ℕ) → is_printable line ≡ true → is_printable (without_end line) ≡ true
printable_end [] p = refl
printable_end (b ∷ line) p =
    let h = and_parts (is_text_byte b) (is_printable line) p in
    unless b (without_end line) h.0 (printable_end line h.1)
  where
    unless : (b : ℕ) (rest : List ℕ) → is_text_byte b ≡ true → is_printable rest ≡ true → is_printable (unless_space b rest) ≡ true
    unless b [] f g = by_test (is_space b) refl
      where
        by_test : (t : Bool) → is_space b ≡ t → is_printable (unless_space b []) ≡ true
        by_test true e = rw e refl
        by_test false e = rw (e, f) refl
    unless b (c ∷ rest) f g = rw (f, g) refl

-- what stands behind the words of a printable line is printable
pub printable_rest : (n : ℕ) (line : List ℕ) → is_printable line ≡ true → is_printable (rest_behind n line) ≡ true
printable_rest zero line p = printable_end (without_spaces line) (printable_without line p)
printable_rest (suc n) line p = printable_rest n (behind_word (without_spaces line)) (printable_behind (without_spaces line) (printable_without line p))

-- the text behind the words of a printable line is a text, where it is short
pub rest_is_text : (line rest : List ℕ) → is_printable line ≡ true → rest ≡ rest_behind 3 line → length rest ≤ 4096 → is_text rest ≡ true
rest_is_text line rest p e short =
    let all : is_printable rest ≡ true = ap is_printable e ∙ printable_rest 3 line p in
    let few : nat_le (length rest) 4096 ≡ true = grind (arith, nat_tests) in
    rw (few, all) refl

-- a byte of a word of a printable line may stand in a key
key_byte : (b : ℕ) → is_space b ≡ false → is_text_byte b ≡ true → is_key_byte b ≡ true
key_byte b f p = grind (arith, nat_tests)

words_are_full : (line : List ℕ) → is_printable line ≡ true → list_all is_key_word (words_in line) ≡ true
words_are_full [] p = refl
words_are_full (b ∷ line) p =
    let h = and_parts (is_text_byte b) (is_printable line) p in
    by_test (is_space b) refl (words_are_full line h.1) h.0
  where
    front_full : (b : ℕ) (words : List (List ℕ)) → is_key_byte b ≡ true → list_all is_key_word words ≡ true → list_all is_key_word (onto_first b words) ≡ true
    front_full b [] f g = rw f refl
    front_full b (word ∷ words) f g =
        let h = and_parts (is_key_word word) (list_all is_key_word words) g in
        let k = and_parts (nat_lt 0 (length word)) (list_all is_key_byte word) h.0 in
        let some : nat_lt 0 (suc (length word)) ≡ true = grind (arith, nat_tests) in
        rw (some, f, k.1, h.1) refl

    alone_full : (b : ℕ) (words : List (List ℕ)) → is_key_byte b ≡ true → list_all is_key_word words ≡ true → list_all is_key_word ((b ∷ []) ∷ words) ≡ true
    alone_full b words f g = rw (f, g) refl

    join_full : (b : ℕ) (line : List ℕ) (words : List (List ℕ)) → is_key_byte b ≡ true → list_all is_key_word words ≡ true → list_all is_key_word (join_word b line words) ≡ true
    join_full b [] words f g = alone_full b words f g
    join_full b (c ∷ rest) words f g = by_next (is_space c) refl
      where
        by_next : (t : Bool) → is_space c ≡ t → list_all is_key_word (join_word b (c ∷ rest) words) ≡ true
        by_next true e = rw e (alone_full b words f g)
        by_next false e = rw e (front_full b words f g)

    by_test : (t : Bool) → is_space b ≡ t → list_all is_key_word (words_in line) ≡ true → is_text_byte b ≡ true → list_all is_key_word (words_in (b ∷ line)) ≡ true
    by_test true f ih q = rw f ih
    by_test false f ih q = rw f (join_full b line (words_in line) (key_byte b f q) ih)

-- the words behind the name of a command are full
pub word_is_full : (line : List ℕ) (front words : List (List ℕ)) (word : List ℕ) → is_printable line ≡ true → drop 1 (words_in line) ≡ front ++ words
    → word ≡ word_at 0 words → 0 < length words → is_key_word word ≡ true
word_is_full line front words word p e is some = ap is_key_word is ∙ (at_front words some (behind front words (ap (list_all is_key_word) (sym e) ∙ dropped (words_in line) (words_are_full line p))))
  where
    dropped : (all : List (List ℕ)) → list_all is_key_word all ≡ true → list_all is_key_word (drop 1 all) ≡ true
    dropped [] h = refl
    dropped (w ∷ all) h = (and_parts (is_key_word w) (list_all is_key_word all) h).1

    behind : (front words : List (List ℕ)) → list_all is_key_word (front ++ words) ≡ true → list_all is_key_word words ≡ true
    behind [] words h = h
    behind (w ∷ front) words h = behind front words ((and_parts (is_key_word w) (list_all is_key_word (front ++ words)) h).1)

    at_front : (words : List (List ℕ)) → 0 < length words → list_all is_key_word words ≡ true → is_key_word (word_at 0 words) ≡ true
    at_front [] some h = absurd (omega arith)
    at_front (w ∷ words) some h = (and_parts (is_key_word w) (list_all is_key_word words) h).0
