-- A run of letters and digits is one word.
use Rattle.std.proofs.Common.{◌≡◌, ℕ, ◌≤◌, ◌+◌, Bool, false, List, [], ◌∷◌, ◌++◌, length, map, true, refl, ap, ◌∙◌, sym, arith, append_assoc, append-nil}
use Rattle.std.specs.Prelude.{◌&&◌, nat_le, if◌then◌else◌}
use Rattle.std.specs.List.{list_all}
use Rattle.std.proofs.lemmas.Bool.{and_parts, and_from, leb-true, le-leb}
use Rattle.std.proofs.lemmas.Bool.Decides.{nat_tests}
use Rattle.std.proofs.lemmas.List.{length-map}
use Rattle.nrt_base.specs.Bytes.{is_between, is_word, is_word_byte}
use Rattle.documents.specs.Words.{is_alphanumeric, is_capital, lower, with_run, words_after, words_of}
use Rattle.script_text.specs.Refused.{letters, is_kind}

run_goes_on : (run text : List ℕ) → list_all is_alphanumeric text ≡ true → words_after run text ≡ with_run (run ++ map lower text) []
run_goes_on run [] all = ap (λ (r : List ℕ). with_run r []) (sym (append-nil run))
run_goes_on run (b ∷ text) all =
    let parts = and_parts (is_alphanumeric b) (list_all is_alphanumeric text) all in
    let here : (if is_alphanumeric b then words_after (run ++ lower b ∷ []) text else with_run run (words_after [] text)) ≡ words_after (run ++ lower b ∷ []) text = rw parts.0 refl in
    here ∙ (run_goes_on (run ++ lower b ∷ []) text parts.1 ∙ ap (λ (r : List ℕ). with_run r []) (append_assoc run (lower b ∷ []) (map lower text)))

-- letters and digits are one word, as long as they are
pub one_word : (written : List ℕ) → 1 ≤ length written → list_all is_alphanumeric written ≡ true → words_of written ≡ map lower written ∷ []
one_word [] some all = absurd (omega arith)
one_word (b ∷ text) some all = run_goes_on [] (b ∷ text) all

no_words : (word : List ℕ) → words_of [] ≡ word ∷ [] → ⊥
no_words word e = cc

-- the only word of letters and digits is as long as they are
pub word_length : (written word : List ℕ) → list_all is_alphanumeric written ≡ true → words_of written ≡ word ∷ [] → length word ≡ length written
word_length [] word all only = absurd (no_words word only)
word_length (b ∷ text) word all only =
    let same : map lower (b ∷ text) ∷ [] ≡ word ∷ [] = sym (one_word (b ∷ text) (omega arith) all) ∙ only in
    let is : map lower (b ∷ text) ≡ word = cc in
    ap length (sym is) ∙ length-map (b ∷ text) lower

-- a word that may be dropped is written so
pub letters_written : (size : ℕ) (written word : List ℕ) → list_all is_alphanumeric written ≡ true → words_of written ≡ word ∷ [] → is_between 1 64 (length word) ≡ true
    → is_kind size letters written ≡ true
letters_written size written word all only range =
    and_from (is_between 1 64 (length written)) (list_all is_alphanumeric written) (ap (is_between 1 64) (sym (word_length written word all only)) ∙ range) all

lower_letter : (b : ℕ) → is_alphanumeric b ≡ true → is_word_byte (lower b) ≡ true
lower_letter b e = by_test (is_capital b) refl e
  where
    by_test : (t : Bool) → is_capital b ≡ t → is_alphanumeric b ≡ true → is_word_byte (if is_capital b then b + 32 else b) ≡ true
    by_test true f g = rw f (grind (arith, nat_tests))
    by_test false f g = rw f (grind (arith, nat_tests))

lower_letters : (written : List ℕ) → list_all is_alphanumeric written ≡ true → list_all is_word_byte (map lower written) ≡ true
lower_letters [] all = refl
lower_letters (b ∷ written) all =
    let parts = and_parts (is_alphanumeric b) (list_all is_alphanumeric written) all in
    and_from (is_word_byte (lower b)) (list_all is_word_byte (map lower written)) (lower_letter b parts.0) (lower_letters written parts.1)

-- what was taken from the words of letters and digits is their only word
pub taken_word : (written word : List ℕ) (words more : List (List ℕ)) → is_kind 0 letters written ≡ true → words ≡ words_of written → words ≡ more ++ word ∷ []
    → (is_kind 0 letters written ≡ true) × (words_of written ≡ word ∷ []) × (is_word word ≡ true)
taken_word written word words more is all split =
    let parts = and_parts (is_between 1 64 (length written)) (list_all is_alphanumeric written) is in
    let some : 1 ≤ length written = leb-true 1 (length written) (and_parts (nat_le 1 (length written)) (nat_le (length written) 64) parts.0).0 in
    let one : map lower written ∷ [] ≡ more ++ word ∷ [] = sym (one_word written some parts.1) ∙ (sym all ∙ split) in
    let last : map lower written ≡ word = single more one in (
      is,
      one_word written some parts.1 ∙ ap (λ (w : List ℕ). w ∷ []) last,
      and_from (nat_le 1 (length word)) (list_all is_word_byte word)
          (ap (λ (w : List ℕ). nat_le 1 (length w)) (sym last) ∙ (ap (nat_le 1) (length-map written lower) ∙ le-leb 1 (length written) some))
          (ap (list_all is_word_byte) (sym last) ∙ lower_letters written parts.1),
    )
  where
    single : (more : List (List ℕ)) → map lower written ∷ [] ≡ more ++ word ∷ [] → map lower written ≡ word
    single [] e = cc
    single (w ∷ []) e = cc
    single (w ∷ v ∷ more) e = cc

-- letters and digits have a word
pub never_taken : (written : List ℕ) (n : ℕ) (words : List (List ℕ)) → is_kind 0 letters written ≡ true → words ≡ words_of written → length words ≡ n → n ≡ 0 → ⊥
never_taken written n words is all size none =
    let parts = and_parts (is_between 1 64 (length written)) (list_all is_alphanumeric written) is in
    let some : 1 ≤ length written = leb-true 1 (length written) (and_parts (nat_le 1 (length written)) (nat_le (length written) 64) parts.0).0 in
    let one : length words ≡ 1 = ap length (all ∙ one_word written some parts.1) in
    absurd (omega (arith, one, size, none))
