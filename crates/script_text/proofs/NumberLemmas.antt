-- The numbers that decimal digits spell.
use Rattle.std.proofs.Common.{◌≡◌, ◌<◌, ◌≤◌, ◌+◌, ◌-◌, ◌*◌, ◌^◌, ℕ, zero, suc, Bool, true, false, List, [], ◌∷◌, length, drop, get_or, refl, ◌∙◌, sym, arith, rules, Option, Some, None}
use Rattle.std.specs.Prelude.{◌&&◌, not, ◌==◌}
use Rattle.std.specs.Fmt.{decimal}
use Rattle.std.specs.List.{list_all}
use Rattle.std.proofs.lemmas.Bool.{false≢true}
use Rattle.std.proofs.lemmas.Bool.Decides.{nat_tests}
use Rattle.std.proofs.lemmas.Fmt.{decimal-digits_value}
use Rattle.std.proofs.lemmas.Str.Parse.{IsNumeralModel, numerals_by_fold}
use Rattle.nrt_base.specs.Bytes.{is_between}
use Rattle.script_text.specs.Refused.{is_digit, is_number, is_number_in, value_from, value_of}
use Rattle.script_text.specs.Reading.{number_within}

-- the first digit of those that are left is taken in
pub value_from-drop : (digits : List ℕ) (i n : ℕ) → i < length digits
    → value_from n (drop i digits) ≡ value_from (n * 10 + (get_or digits i 0 - 48)) (drop (i + 1) digits)
value_from-drop [] i n h = absurd (omega arith)
value_from-drop (b ∷ digits) zero n h = refl
value_from-drop (b ∷ digits) (suc i) n h = let e : suc i + 1 ≡ suc (i + 1) = omega arith in rw e (value_from-drop digits i n (omega arith))

-- further digits make a number no smaller
pub value_from-ge : (digits : List ℕ) (n : ℕ) → n ≤ value_from n digits
value_from-ge [] n = omega arith
value_from-ge (b ∷ digits) n = omega (arith, value_from-ge digits (n * 10 + (b - 48)))

-- the number is no smaller than what was taken in with the next digit
pub next_value : (digits : List ℕ) (i n : ℕ) → i < length digits → value_from n (drop i digits) ≡ value_of digits → n * 10 + (get_or digits i 0 - 48) ≤ value_of digits
next_value digits i n h e =
    let m = n * 10 + (get_or digits i 0 - 48) in
    let same : value_from m (drop (i + 1) digits) ≡ value_of digits = sym (value_from-drop digits i n h) ∙ e in
    omega (arith, value_from-ge (drop (i + 1) digits) m, same)

-- digits are what the library's numerals are
own : IsNumeralModel (λ ds. list_all is_digit ds ≡ true) (value_from 0)
own = numerals_by_fold (λ ds. list_all is_digit ds ≡ true) (search rules) value_from (search rules)

-- a number is spelled as its value
pub decimal-value_of : (word : List ℕ) → is_number word ≡ true → value_of word < 2 ^ 64 → decimal (value_of word) ≡ word
decimal-value_of word is small = decimal-digits_value own word (all word is) (some word is) (lead word is) small
  where
    all : (word : List ℕ) → is_number word ≡ true → list_all is_digit word ≡ true
    all [] e = absurd (false≢true e)
    all (b ∷ []) e = rw e refl
    all (b ∷ c ∷ digits) e = second (not (b == 48)) (list_all is_digit (b ∷ c ∷ digits)) e
      where
        second : (x y : Bool) → (x && y) ≡ true → y ≡ true
        second true y h = h
        second false y h = absurd (false≢true h)

    some : (word : List ℕ) → is_number word ≡ true → 0 < length word
    some [] e = absurd (false≢true e)
    some (b ∷ word) e = omega arith

    lead : (word : List ℕ) → is_number word ≡ true → get_or word 0 0 ≡ 48 → length word ≡ 1
    lead [] e z = absurd (false≢true e)
    lead (b ∷ []) e z = refl
    lead (b ∷ c ∷ digits) e z = absurd (grind (arith, nat_tests))

-- the two cases of a word: a number in the range, or none
pub number_case : (low high : ℕ) (word : List ℕ) → high < 2 ^ 64 → (P : Option ℕ → Type 0)
    → ((n : ℕ) → is_number_in low high word ≡ true → decimal n ≡ word → is_between low high n ≡ true → P (Some n))
    → (is_number_in low high word ≡ false → P None) → P (number_within low high word)
number_case low high word small P held other = by_test (is_number_in low high word) refl
  where
    by_test : (t : Bool) → is_number_in low high word ≡ t → P (number_within low high word)
    by_test true e =
        let parts = both (is_number word) (is_between low high (value_of word)) e in
        let fits : value_of word < 2 ^ 64 = let w = parts.1 in grind (arith, nat_tests) in
        rw e (held (value_of word) e (decimal-value_of word parts.0 fits) parts.1)
      where
        both : (a b : Bool) → (a && b) ≡ true → (a ≡ true) × (b ≡ true)
        both true b h = (refl, h)
        both false b h = absurd (false≢true h)
    by_test false e = rw e (other e)
