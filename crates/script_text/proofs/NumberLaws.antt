-- The decimal digits of a number are a number of the text, and have its value.
use Rattle.std.proofs.Common.{◌≡◌, ℕ, ◌+◌, ◌*◌, ◌-◌, ◌/◌, ◌%◌, ◌^◌, ◌<◌, ◌≤◌, List, [], ◌∷◌, ◌++◌, length, Bool, true, false, refl, ap, ◌∙◌, arith}
use Rattle.std.specs.Prelude.{◌==◌, not, nat_lt, nat_eq, bytes_eq}
use Rattle.std.specs.List.{list_all}
use Rattle.std.specs.Fmt.{decimal}
use Rattle.std.proofs.lemmas.Fmt.{decimal_by_steps}
use Rattle.std.proofs.lemmas.List.Folds.{list_all-append}
use Rattle.std.proofs.lemmas.Bool.Decides.{nat_tests}
use Rattle.std.proofs.lemmas.Bool.{false≢true, lt-ltb, and_from, and_parts}
use Rattle.nrt_base.specs.Bytes.{is_between, is_text_byte}
use Rattle.nrt_base.proofs.Plain.{digit_is}
use Rattle.script_text.specs.Refused.{is_digit, is_digits, is_number, value_from, value_of, is_number_in}

abbrev is_zero_digit : ℕ → Bool
is_zero_digit b = b == 48

-- there is a first digit, and it is not `0`
abbrev starts_above_zero : List ℕ → Bool
starts_above_zero [] = false
starts_above_zero (b ∷ digits) = not (b == 48)

-- the digits are a number of the text, with this value
record IsNumeral (n : ℕ) (digits : List ℕ) : Type 0 where
  each : list_all is_digit digits ≡ true
  value : value_of digits ≡ n
  number : is_number digits ≡ true
  front : 1 ≤ n → starts_above_zero digits ≡ true

value-append : (m : ℕ) (digits : List ℕ) (b : ℕ) → value_from m (digits ++ b ∷ []) ≡ value_from m digits * 10 + (b - 48)
value-append m [] b = refl
value-append m (c ∷ digits) b = value-append (m * 10 + (c - 48)) digits b

-- two digits or more are a number where the first is not `0`
number_of_two : (b : ℕ) (digits : List ℕ) (c : ℕ) → not (b == 48) ≡ true → list_all is_digit (b ∷ (digits ++ c ∷ [])) ≡ true → is_number (b ∷ (digits ++ c ∷ [])) ≡ true
number_of_two b [] c h all = and_from (not (b == 48)) (list_all is_digit (b ∷ c ∷ [])) h all
number_of_two b (d ∷ digits) c h all = and_from (not (b == 48)) (list_all is_digit (b ∷ d ∷ (digits ++ c ∷ []))) h all

number-append : (digits : List ℕ) (c : ℕ) → starts_above_zero digits ≡ true → list_all is_digit (digits ++ c ∷ []) ≡ true → is_number (digits ++ c ∷ []) ≡ true
number-append [] c h all = absurd (false≢true h)
number-append (b ∷ digits) c h all = number_of_two b digits c h all

front-append : (digits : List ℕ) (c : ℕ) → starts_above_zero digits ≡ true → starts_above_zero (digits ++ c ∷ []) ≡ true
front-append [] c h = absurd (false≢true h)
front-append (b ∷ digits) c h = h

one_digit : (n : ℕ) → n < 10 → IsNumeral n ((48 + n) ∷ [])
one_digit n h =
    let digit : is_digit (48 + n) ≡ true = digit_is n h in
    record {
      each = and_from (is_digit (48 + n)) true digit refl;
      value = omega arith;
      number = digit;
      front = λ some. grind (arith, nat_tests);
    }

more_digits : (n : ℕ) (digits : List ℕ) → 10 ≤ n → IsNumeral (n / 10) digits → IsNumeral n (digits ++ (48 + n % 10) ∷ [])
more_digits n digits big numeral =
    let some : 1 ≤ n / 10 = omega arith in
    let digit : is_digit (48 + n % 10) ≡ true = digit_is (n % 10) (omega arith) in
    let last : list_all is_digit ((48 + n % 10) ∷ []) ≡ true = and_from (is_digit (48 + n % 10)) true digit refl in
    let all : list_all is_digit (digits ++ (48 + n % 10) ∷ []) ≡ true =
    list_all-append is_digit digits ((48 + n % 10) ∷ []) ∙ and_from (list_all is_digit digits) (list_all is_digit ((48 + n % 10) ∷ [])) numeral.each last in
    let value : value_from 0 digits ≡ n / 10 = numeral.value in
    record {
      each = all;
      value = value-append 0 digits (48 + n % 10) ∙ omega (arith, value);
      number = number-append digits (48 + n % 10) (numeral.front some) all;
      front = λ h. front-append digits (48 + n % 10) (numeral.front some);
    }

numeral_of : (n : ℕ) → n < 2 ^ 64 → IsNumeral n (decimal n)
numeral_of n h = decimal_by_steps IsNumeral one_digit more_digits n h

pub value_of-decimal : (n : ℕ) → n < 2 ^ 64 → value_of (decimal n) ≡ n
value_of-decimal n h = (numeral_of n h).value

pub digits_of-decimal : (n : ℕ) → n < 2 ^ 64 → list_all is_digit (decimal n) ≡ true
digits_of-decimal n h = (numeral_of n h).each

-- a number in its range is spelled by a word in that range
pub number_in : (low high n : ℕ) → n < 2 ^ 64 → is_between low high n ≡ true → is_number_in low high (decimal n) ≡ true
number_in low high n h between =
    and_from (is_number (decimal n)) (is_between low high (value_of (decimal n))) (numeral_of n h).number (ap (is_between low high) (value_of-decimal n h) ∙ between)

some_number : (digits : List ℕ) → is_number digits ≡ true → nat_lt 0 (length digits) ≡ true
some_number [] h = absurd (false≢true h)
some_number (b ∷ digits) h = lt-ltb 0 (length (b ∷ digits)) (omega arith)

pub is_digits-decimal : (n : ℕ) → n < 2 ^ 64 → is_digits (decimal n) ≡ true
is_digits-decimal n h =
    and_from (nat_lt 0 (length (decimal n))) (list_all is_digit (decimal n)) (some_number (decimal n) (numeral_of n h).number) (numeral_of n h).each

not_same : (b c : ℕ) → is_digit b ≡ false → is_digit c ≡ true → nat_eq b c ≡ false
not_same b c h k = grind (arith, nat_tests)

-- digits are no word that begins otherwise
pub other_word : (b : ℕ) (name digits : List ℕ) → is_digit b ≡ false → list_all is_digit digits ≡ true → bytes_eq (b ∷ name) digits ≡ false
other_word b name [] h all = refl
other_word b name (c ∷ digits) h all =
    let digit : is_digit c ≡ true = (and_parts (is_digit c) (list_all is_digit digits) all).0 in
    let apart : nat_eq b c ≡ false = not_same b c h digit in
    rw apart refl

printable_digit : (b : ℕ) → is_digit b ≡ true → is_text_byte b ≡ true
printable_digit b h = grind (arith, nat_tests)

-- digits are printable
pub printable_digits : (digits : List ℕ) → list_all is_digit digits ≡ true → list_all is_text_byte digits ≡ true
printable_digits [] all = refl
printable_digits (b ∷ digits) all =
    let parts = and_parts (is_digit b) (list_all is_digit digits) all in
    and_from (is_text_byte b) (list_all is_text_byte digits) (printable_digit b parts.0) (printable_digits digits parts.1)
