-- The spelling of a number in base 36 spells it, and nothing else does.
use Rattle.std.proofs.Common.{◌≡◌, ℕ, zero, suc, ◌+◌, ◌*◌, ◌/◌, ◌%◌, ◌^◌, ◌<◌, ◌≤◌, ◌≢◌, Bool, true, false, List, [], ◌∷◌, ◌++◌, length, get_or, refl, sym, ap, subst, ◌∙◌, arith, inl, inr}
use Rattle.std.specs.List.{list_all}
use Rattle.std.proofs.Math.Nat.{pow-suc, mul-le-mul_left}
use Rattle.std.proofs.lemmas.Bool.{cases_lt, cases_eq, lt-ltb, le-ltb, and_parts, and_from}
use Rattle.std.proofs.lemmas.Bool.Decides.{nat_tests}
use Rattle.std.proofs.lemmas.List.{append_assoc, length-append}
use Rattle.file_names.specs.Base36.{is_base36_digit, digit_value, digit_of, value_after, base36_value, has_leading_zero, SpellsBase36, base36_within, base36_of, is_base36}

-- ---- digits

pub digit_value-digit_of : (d : ℕ) → d < 36 → digit_value (digit_of d) ≡ d
digit_value-digit_of d h = grind (arith, nat_tests)

pub is_digit-digit_of : (d : ℕ) → d < 36 → is_base36_digit (digit_of d) ≡ true
is_digit-digit_of d h = grind (arith, nat_tests)

pub digit_of-digit_value : (b : ℕ) → is_base36_digit b ≡ true → digit_of (digit_value b) ≡ b
digit_of-digit_value b h = grind (arith, nat_tests)

pub digit_value_below : (b : ℕ) → is_base36_digit b ≡ true → digit_value b < 36
digit_value_below b h = grind (arith, nat_tests)

pub digit_of_zero : (d : ℕ) → d < 36 → digit_of d ≡ 48 → d ≡ 0
digit_of_zero d h e = grind (arith, nat_tests)

pub digit_value_some : (b : ℕ) → is_base36_digit b ≡ true → b ≢ 48 → 0 < digit_value b
digit_value_some b h e = grind (arith, nat_tests)

-- ---- values

pub value_after-append : (n : ℕ) (xs ys : List ℕ) → value_after n (xs ++ ys) ≡ value_after (value_after n xs) ys
value_after-append n [] ys = refl
value_after-append n (b ∷ xs) ys = value_after-append (n * 36 + digit_value b) xs ys

-- digits alone spell what they spell behind their first
pub value-first : (b : ℕ) (digits : List ℕ) → base36_value (b ∷ digits) ≡ value_after (digit_value b) digits
value-first b digits = let e : 0 * 36 + digit_value b ≡ digit_value b = omega arith in ap (λ (k : ℕ). value_after k digits) e

pub value_grows : (n : ℕ) (digits : List ℕ) → n ≤ value_after n digits
value_grows n [] = omega arith
value_grows n (b ∷ digits) = omega (arith, value_grows (n * 36 + digit_value b) digits)

pub list_all-append : (p : ℕ → Bool) (xs ys : List ℕ) → list_all p xs ≡ true → list_all p ys ≡ true → list_all p (xs ++ ys) ≡ true
list_all-append p [] ys h k = k
list_all-append p (x ∷ xs) ys h k = let e = and_parts (p x) (list_all p xs) h in and_from (p x) (list_all p (xs ++ ys)) e.0 (list_all-append p xs ys e.1 k)

-- the value of digits is below a power of 36
value_after_below : (n : ℕ) (digits : List ℕ) → list_all is_base36_digit digits ≡ true → value_after n digits < (n + 1) * 36 ^ length digits
value_after_below n [] h = omega arith
value_after_below n (b ∷ digits) h =
    let e = and_parts (is_base36_digit b) (list_all is_base36_digit digits) h in
    let d : digit_value b < 36 = digit_value_below b e.0 in
    let power : ℕ = 36 ^ length digits in
    let ih : value_after (n * 36 + digit_value b) digits < (n * 36 + digit_value b + 1) * power = value_after_below (n * 36 + digit_value b) digits e.1 in
    let room : n * 36 + digit_value b + 1 ≤ (n + 1) * 36 = omega arith in
    let wide : power * (n * 36 + digit_value b + 1) ≤ power * ((n + 1) * 36) = mul-le-mul_left power room in
    let next : 36 ^ suc (length digits) ≡ power * 36 = pow-suc 36 (length digits) in
    rw next (omega (arith, ih, wide))

-- ---- the spelling

pub within-small : (more n : ℕ) → n < 36 → base36_within more n ≡ digit_of n ∷ []
unfolding base36_within
within-small zero n h = refl
within-small (suc more) n h = rw (lt-ltb n 36 h) refl

pub within-large : (more n : ℕ) → 36 ≤ n → base36_within (suc more) n ≡ base36_within more (n / 36) ++ digit_of (n % 36) ∷ []
unfolding base36_within
within-large more n h = rw (le-ltb n 36 h) refl

-- a spelling begins with a zero only where the number is 0
pub record IsSpelling (bytes : List ℕ) (n most : ℕ) : Type 0 where
  pub some : 0 < length bytes
  pub few : length bytes ≤ most
  pub digits : list_all is_base36_digit bytes ≡ true
  pub first : get_or bytes 0 0 ≡ 48 → n ≡ 0
  pub single : n < 36 → length bytes ≡ 1
  pub value : base36_value bytes ≡ n

spelling_small : (n most : ℕ) → n < 36 → IsSpelling (digit_of n ∷ []) n (suc most)
spelling_small n most h = record {
  some = omega arith;
  few = omega arith;
  digits = and_from (is_base36_digit (digit_of n)) true (is_digit-digit_of n h) refl;
  first = λ e. digit_of_zero n h e;
  single = λ _. refl;
  value = value-first (digit_of n) [] ∙ digit_value-digit_of n h;
}

first-push : (xs : List ℕ) (x : ℕ) → 0 < length xs → get_or (xs ++ x ∷ []) 0 0 ≡ get_or xs 0 0
first-push [] x h = absurd (omega arith)
first-push (y ∷ xs) x h = refl

spelling_push : (front : List ℕ) (n most : ℕ) → 36 ≤ n → IsSpelling front (n / 36) most → IsSpelling (front ++ digit_of (n % 36) ∷ []) n (suc most)
spelling_push front n most h s =
    let d : n % 36 < 36 = omega arith in
    record {
      some = omega (arith, length-append front (digit_of (n % 36) ∷ []));
      few = omega (arith, length-append front (digit_of (n % 36) ∷ []), s.few);
      digits = list_all-append is_base36_digit front (digit_of (n % 36) ∷ []) s.digits (and_from (is_base36_digit (digit_of (n % 36))) true (is_digit-digit_of (n % 36) d) refl);
      first = λ e. omega (arith, s.first (sym (first-push front (digit_of (n % 36)) s.some) ∙ e));
      single = λ lt. absurd (omega arith);
      value = value_after-append 0 front (digit_of (n % 36) ∷ []) ∙ omega (arith, s.value, digit_value-digit_of (n % 36) d);
    }

pub spelling : (more n : ℕ) → n < 36 ^ suc more → IsSpelling (base36_within more n) n (suc more)
spelling zero n h =
    let lt : n < 36 = omega (arith, pow-suc 36 0) in
    subst (λ (x : List ℕ). IsSpelling x n 1) (sym (within-small 0 n lt)) (spelling_small n 0 lt)
spelling (suc more) n h =
    elim (cases_lt n 36) [
      | inl lt ↦ subst (λ (x : List ℕ). IsSpelling x n (suc (suc more))) (sym (within-small (suc more) n lt)) (spelling_small n (suc more) lt)
      | inr le ↦
          let high : n / 36 < 36 ^ suc more = omega (arith, pow-suc 36 (suc more)) in
          subst (λ (x : List ℕ). IsSpelling x n (suc (suc more))) (sym (within-large more n le)) (spelling_push (base36_within more (n / 36)) n (suc more) le (spelling more (n / 36) high))
    ]

-- digits whose first is no zero have no leading zero
no_leading : (bytes : List ℕ) (n most : ℕ) → IsSpelling bytes n most → has_leading_zero bytes ≡ false
no_leading bytes n most s =
    elim (cases_lt 1 (length bytes)) [
      | inl lt ↦ grind (arith, nat_tests, s.first, s.single, lt)
      | inr le ↦ grind (arith, nat_tests, le)
    ]

below_thirteen : (n : ℕ) → n < 2 ^ 64 → n < 36 ^ 13
below_thirteen n h = omega arith

pub spelling_of : (n : ℕ) → n < 2 ^ 64 → IsSpelling (base36_of n) n 13
spelling_of n h = spelling 12 n (below_thirteen n h)

-- what is written is read back
pub base36_spells : (n : ℕ) → n < 2 ^ 64 → SpellsBase36 (base36_of n) n
base36_spells n h =
    let s = spelling_of n h in
    record { some = s.some; digits = s.digits; leading = no_leading (base36_of n) n 13 s; value = s.value }

pub base36_is : (n : ℕ) → n < 2 ^ 64 → is_base36 (base36_of n) ≡ true
base36_is n h =
    let s = spelling_of n h in
    grind (arith, nat_tests, s.some, s.few, s.digits)

-- ---- nothing else spells it

-- how many digits may be written does not matter where they are enough
within_same : (j k n : ℕ) → n < 36 ^ suc j → n < 36 ^ suc k → base36_within j n ≡ base36_within k n
within_same zero k n h e = let lt : n < 36 = omega (arith, pow-suc 36 0) in within-small 0 n lt ∙ sym (within-small k n lt)
within_same (suc j) zero n h e = let lt : n < 36 = omega (arith, pow-suc 36 0) in within-small (suc j) n lt ∙ sym (within-small 0 n lt)
within_same (suc j) (suc k) n h e =
    elim (cases_lt n 36) [
      | inl lt ↦ within-small (suc j) n lt ∙ sym (within-small (suc k) n lt)
      | inr le ↦
          let high_j : n / 36 < 36 ^ suc j = omega (arith, pow-suc 36 (suc j)) in
          let high_k : n / 36 < 36 ^ suc k = omega (arith, pow-suc 36 (suc k)) in
          within-large j n le ∙ ap (λ (x : List ℕ). x ++ digit_of (n % 36) ∷ []) (within_same j k (n / 36) high_j high_k) ∙ sym (within-large k n le)
    ]

-- digits behind a number are the end of the spelling of the whole
spelled_behind : (more n : ℕ) (digits : List ℕ) → 0 < n → list_all is_base36_digit digits ≡ true
    → base36_within (more + length digits) (value_after n digits) ≡ base36_within more n ++ digits
spelled_behind more n [] some h = let e : more + 0 ≡ more = omega arith in rw e (sym (append-nil-of (base36_within more n)))
  where
    append-nil-of : (xs : List ℕ) → xs ++ [] ≡ xs
    append-nil-of [] = refl
    append-nil-of (x ∷ xs) = ap (λ (t : List ℕ). x ∷ t) (append-nil-of xs)
spelled_behind more n (b ∷ digits) some h =
    let e = and_parts (is_base36_digit b) (list_all is_base36_digit digits) h in
    let d : digit_value b < 36 = digit_value_below b e.0 in
    let m : ℕ = n * 36 + digit_value b in
    let turns : more + suc (length digits) ≡ suc more + length digits = omega arith in
    let quotient : m / 36 ≡ n = omega arith in
    let rest : m % 36 ≡ digit_value b = omega arith in
    ap (λ (k : ℕ). base36_within k (value_after m digits)) turns
    ∙ spelled_behind (suc more) m digits (omega arith) e.1
    ∙ ap (λ (x : List ℕ). x ++ digits) (within-large more m (omega arith)
    ∙ ap (λ (k : ℕ). base36_within more k ++ digit_of (m % 36) ∷ []) quotient
    ∙ ap (λ (k : ℕ). base36_within more n ++ k ∷ []) (ap digit_of rest ∙ digit_of-digit_value b e.0))
    ∙ append_assoc (base36_within more n) (b ∷ []) digits

pub only_first : (b : ℕ) (digits : List ℕ) → has_leading_zero (b ∷ digits) ≡ false → b ≡ 48 → digits ≡ []
only_first b [] h e = refl
only_first b (c ∷ digits) h e = absurd (grind (arith, nat_tests, h, e))

value_below : (b : ℕ) (digits : List ℕ) → is_base36_digit b ≡ true → list_all is_base36_digit digits ≡ true → value_after (digit_value b) digits < 36 ^ suc (length digits)
value_below b digits h k =
    let d : digit_value b < 36 = digit_value_below b h in
    grind (arith, pow-suc 36 (length digits), value_after_below (digit_value b) digits k, d)

only_from : (b : ℕ) (digits : List ℕ) (n : ℕ) → n < 2 ^ 64 → SpellsBase36 (b ∷ digits) n → b ≢ 48 → b ∷ digits ≡ base36_of n
only_from b digits n h s some =
    let e = and_parts (is_base36_digit b) (list_all is_base36_digit digits) s.digits in
    let d : digit_value b < 36 = digit_value_below b e.0 in
    let spelled = spelled_behind 0 (digit_value b) digits (digit_value_some b e.0 some) e.1 in
    let front : base36_within 0 (digit_value b) ≡ b ∷ [] = within-small 0 (digit_value b) d ∙ ap (λ (k : ℕ). k ∷ []) (digit_of-digit_value b e.0) in
    let value_is : value_after (digit_value b) digits ≡ n = sym (value-first b digits) ∙ s.value in
    let below : n < 36 ^ suc (length digits) = subst (λ (k : ℕ). k < 36 ^ suc (length digits)) value_is (value_below b digits e.0 e.1) in
    let turns : 0 + length digits ≡ length digits = omega arith in
    sym (ap (λ (x : List ℕ). x ++ digits) front) ∙ sym spelled
    ∙ ap (λ (k : ℕ). base36_within k (value_after (digit_value b) digits)) turns
    ∙ ap (base36_within (length digits)) value_is
    ∙ within_same (length digits) 12 n below (below_thirteen n h)

-- the bytes that spell a number are its spelling
pub only_spelling : (bytes : List ℕ) (n : ℕ) → n < 2 ^ 64 → SpellsBase36 bytes n → bytes ≡ base36_of n
only_spelling [] n h s = absurd (omega (arith, s.some))
only_spelling (b ∷ digits) n h s =
    elim (cases_eq b 48) [
      | inl e ↦
          let none : digits ≡ [] = only_first b digits s.leading e in
          let zero_is : n ≡ 0 = sym s.value ∙ ap (λ (x : List ℕ). base36_value (b ∷ x)) none ∙ value-first b [] ∙ ap digit_value e in
          ap (λ (x : List ℕ). b ∷ x) none ∙ ap (λ (k : ℕ). k ∷ []) e ∙ sym (within-small 12 0 (omega arith)) ∙ ap base36_of (sym zero_is)
      | inr ne ↦ only_from b digits n h s ne
    ]

-- two numbers have two spellings
pub base36_apart : (m n : ℕ) → m < 2 ^ 64 → n < 2 ^ 64 → base36_of m ≡ base36_of n → m ≡ n
base36_apart m n h k e = sym (spelling_of m h).value ∙ ap base36_value e ∙ (spelling_of n k).value
