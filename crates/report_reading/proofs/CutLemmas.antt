-- How far the first line and the first word of a text go.
use Rattle.std.proofs.Common.{◌≡◌, ℕ, ◌+◌, ◌<◌, ◌≤◌, suc, Bool, true, false, not, ◌==◌, List, [], ◌∷◌, take, drop, length, refl, sym, ap, subst, ◌∙◌, arith, inl, inr}
use Rattle.std.specs.Prelude.{take_while, if◌then◌else◌}
use Rattle.std.specs.List.{onto_first, prefix_len}
use Rattle.std.proofs.lemmas.Bool.{cases_Bool}
use Rattle.std.proofs.lemmas.List.Folds.{length-prefix_len}
use Rattle.report_reading.specs.Cuts.{is_end, first_line, behind_line, cut_words, later_words, are_none}

-- how many bytes stand before the first that passes
abbrev before : (ℕ → Bool) → List ℕ → ℕ
before p [] = 0
before p (b ∷ text) = if p b then 0 else suc (before p text)

before_is : (p : ℕ → Bool) (text : List ℕ) → prefix_len (λ b. not (p b)) text ≡ before p text
before_is p [] = refl
before_is p (b ∷ text) = by_test (p b) refl (before_is p text)
  where
    by_test : (q : Bool) → p b ≡ q → prefix_len (λ c. not (p c)) text ≡ before p text → prefix_len (λ c. not (p c)) (b ∷ text) ≡ before p (b ∷ text)
    by_test true e ih = rw e refl
    by_test false e ih = rw e (rw ih (omega arith))

length_is : (p : ℕ → Bool) (text : List ℕ) → length (take_while (λ b. not (p b)) text) ≡ before p text
length_is p text = length-prefix_len (λ (b : ℕ). not (p b)) text ∙ before_is p text

abbrev is_feed : ℕ → Bool
is_feed b = b == 10

to_feed : (text : List ℕ) → before is_feed text < length text → (take (before is_feed text + 1) text ≡ first_line text) × (drop (before is_feed text + 1) text ≡ behind_line text)
to_feed [] h = absurd (omega (arith, h))
to_feed (b ∷ text) h = by_test (b == 10) refl (to_feed text)
  where
    more : (take (before is_feed text + 1) text ≡ first_line text) × (drop (before is_feed text + 1) text ≡ behind_line text)
        → (take (suc (before is_feed text) + 1) (b ∷ text) ≡ b ∷ first_line text) × (drop (suc (before is_feed text) + 1) (b ∷ text) ≡ behind_line text)
    more ih = let e : suc (before is_feed text) + 1 ≡ suc (before is_feed text + 1) = omega arith in rw e (ap (λ (t : List ℕ). b ∷ t) ih.0, ih.1)

    less : suc (before is_feed text) < suc (length text) → before is_feed text < length text
    less k = omega (arith, k)

    by_test : (q : Bool) → (b == 10) ≡ q
        → (before is_feed text < length text → (take (before is_feed text + 1) text ≡ first_line text) × (drop (before is_feed text + 1) text ≡ behind_line text))
        → (take (before is_feed (b ∷ text) + 1) (b ∷ text) ≡ first_line (b ∷ text)) × (drop (before is_feed (b ∷ text) + 1) (b ∷ text) ≡ behind_line (b ∷ text))
    by_test true e ih = rw e (refl, refl)
    by_test false e ih = rw e (more (ih (less (rw e at h))))

to_end : (text : List ℕ) → length text ≤ before is_feed text → (take (before is_feed text) text ≡ first_line text) × (drop (before is_feed text) text ≡ behind_line text)
to_end [] h = (refl, refl)
to_end (b ∷ text) h = by_test (b == 10) refl (to_end text)
  where
    none : suc (length text) ≤ 0 → ⊥
    none k = omega (arith, k)

    more : (take (before is_feed text) text ≡ first_line text) × (drop (before is_feed text) text ≡ behind_line text)
        → (b ∷ take (before is_feed text) text ≡ b ∷ first_line text) × (drop (before is_feed text) text ≡ behind_line text)
    more ih = (ap (λ (t : List ℕ). b ∷ t) ih.0, ih.1)

    less : suc (length text) ≤ suc (before is_feed text) → length text ≤ before is_feed text
    less k = omega (arith, k)

    by_test : (q : Bool) → (b == 10) ≡ q
        → (length text ≤ before is_feed text → (take (before is_feed text) text ≡ first_line text) × (drop (before is_feed text) text ≡ behind_line text))
        → (take (before is_feed (b ∷ text)) (b ∷ text) ≡ first_line (b ∷ text)) × (drop (before is_feed (b ∷ text)) (b ∷ text) ≡ behind_line (b ∷ text))
    by_test true e ih = absurd (none (rw e at h))
    by_test false e ih = rw e (more (ih (less (rw e at h))))

-- where a line feed stands in the text, the first line ends with it
pub cut_line : (text : List ℕ) (n : ℕ) → n ≡ length (take_while (λ b. not (b == 10)) text) → n < length text → (take (n + 1) text ≡ first_line text) × (drop (n + 1) text ≡ behind_line text)
cut_line text n e h =
    let same : n ≡ before is_feed text = e ∙ length_is is_feed text in
    subst (λ (k : ℕ). k < length text → (take (k + 1) text ≡ first_line text) × (drop (k + 1) text ≡ behind_line text)) (sym same) (to_feed text) h

-- where none does, all is one line
pub cut_last_line : (text : List ℕ) (n : ℕ) → n ≡ length (take_while (λ b. not (b == 10)) text) → length text ≤ n → (take n text ≡ first_line text) × (drop n text ≡ behind_line text)
cut_last_line text n e h =
    let same : n ≡ before is_feed text = e ∙ length_is is_feed text in
    subst (λ (k : ℕ). length text ≤ k → (take k text ≡ first_line text) × (drop k text ≡ behind_line text)) (sym same) (to_end text) h

to_word : (text : List ℕ) → cut_words text ≡ take (before is_end text) text ∷ later_words (drop (before is_end text) text)
to_word [] = refl
to_word (b ∷ text) = by_tests (b == 10) (b == 32) refl refl (to_word text)
  where
    more : cut_words text ≡ take (before is_end text) text ∷ later_words (drop (before is_end text) text)
        → onto_first b (cut_words text) ≡ (b ∷ take (before is_end text) text) ∷ later_words (drop (before is_end text) text)
    more ih = ap (onto_first b) ih

    by_tests : (p q : Bool) → (b == 10) ≡ p → (b == 32) ≡ q → cut_words text ≡ take (before is_end text) text ∷ later_words (drop (before is_end text) text)
        → cut_words (b ∷ text) ≡ take (before is_end (b ∷ text)) (b ∷ text) ∷ later_words (drop (before is_end (b ∷ text)) (b ∷ text))
    by_tests true q h k ih = rw h (rw h refl)
    by_tests false true h k ih = rw h (rw k (rw h refl))
    by_tests false false h k ih = rw h (rw k (more ih))

-- the first word goes to the first space or line feed
pub cut_word : (text : List ℕ) (n : ℕ) → n ≡ length (take_while (λ b. not (is_end b)) text) → cut_words text ≡ take n text ∷ later_words (drop n text)
cut_word text n e = subst (λ (k : ℕ). cut_words text ≡ take k text ∷ later_words (drop k text)) (sym (e ∙ length_is is_end text)) (to_word text)

some_words : (text : List ℕ) → cut_words text ≡ [] → ⊥
some_words text e = none (take (before is_end text) text) (later_words (drop (before is_end text) text)) (sym (to_word text) ∙ e)
  where
    none : (w : List ℕ) (ws : List (List ℕ)) → w ∷ ws ≡ [] → ⊥
    none w ws e = cc

-- behind a space there is a word
pub none_behind : (b : ℕ) (text : List ℕ) → (b == 10) ≡ are_none (later_words (b ∷ text))
none_behind b text = elim (cases_Bool (b == 10)) [ inl here ↦ rw here refl | inr apart ↦ rw apart (sym (some_is (cut_words text) (some_words text))) ]
  where
    some_is : (ws : List (List ℕ)) → (ws ≡ [] → ⊥) → are_none ws ≡ false
    some_is [] some = absurd (some refl)
    some_is (w ∷ ws) some = refl
