-- What reading a number answers, and why nothing else is answered.
use Rattle.std.proofs.Common.{◌≡◌, ℕ, suc, ◌+◌, ◌*◌, ◌^◌, ◌<◌, ◌≤◌, Bool, true, false, cond, not, nat_lt, List, [], ◌∷◌, length, get_or, drop, None, Some, Result, Ok, Err, ◌↔◌, nat_eq, refl, sym, ap, subst, ◌∙◌, arith}
use Rattle.std.specs.List.{list_all, position, position_or_len}
use Rattle.std.proofs.lemmas.Bool.Decides.{nat_tests}
use Rattle.std.proofs.lemmas.List.{drop_more, drop_all}
use Rattle.file_names.specs.declared.radix.Base36Fault.{Base36Fault}
use Rattle.file_names.specs.declared.radix.Base36Fault.TheVariants.{TooLarge}
use Rattle.file_names.specs.Base36.{is_base36_digit, value_after, digit_value, base36_value, has_leading_zero, SpellsBase36}
use Rattle.file_names.proofs.NameLemmas.{all_pass}
use Rattle.file_names.proofs.SpellingLemmas.{too_large}

passing_first : (p : ℕ → Bool) (x : ℕ) (bytes : List ℕ) (t : Bool) → p x ≡ t → list_all p (x ∷ bytes) ≡ true → (list_all p bytes ≡ true → position_or_len (λ b. not (p b)) bytes ≡ length bytes)
    → position_or_len (λ b. not (p b)) (x ∷ bytes) ≡ suc (length bytes)
passing_first p x bytes true e h rest = let step : 1 + length bytes ≡ suc (length bytes) = omega arith in rw e (ap (λ (k : ℕ). 1 + k) (rest (rw e at h)) ∙ step)
passing_first p x bytes false e h rest = absurd (let f : false ≡ true = rw e at h in cc)

passing_len : (p : ℕ → Bool) (bytes : List ℕ) → list_all p bytes ≡ true → position_or_len (λ b. not (p b)) bytes ≡ length bytes
passing_len p [] h = refl
passing_len p (x ∷ bytes) h = passing_first p x bytes (p x) refl h (passing_len p bytes)

-- where each byte passes, none is refused
pub none_refused : (p : ℕ → Bool) (bytes : List ℕ) (at : ℕ) → list_all p bytes ≡ true → position (λ b. not (p b)) bytes ≡ Some at → ⊥
none_refused p bytes at h e =
    let same : position_or_len (λ b. not (p b)) bytes ≡ length bytes = passing_len p bytes h in
    let found : cond (nat_lt (length bytes) (length bytes)) (Some (length bytes)) None ≡ Some at = rw same at e in
    grind (arith, nat_tests, found)

value_once : (bytes : List ℕ) (m n : ℕ) → SpellsBase36 bytes m → SpellsBase36 bytes n → m ≡ n
value_once bytes m n s t = sym s.value ∙ t.value

-- a number that grows past 2^64 before the end is at least that at the end
pub not_below : (value i : ℕ) (digits : List ℕ) → i < length digits → value_after value (drop i digits) ≡ base36_value digits
    → 2 ^ 64 ≤ value * 36 + digit_value (get_or digits i 0) → base36_value digits < 2 ^ 64 → ⊥
not_below value i digits h whole large below =
    let cut : value_after value (get_or digits i 0 ∷ drop (i + 1) digits) ≡ base36_value digits = sym (ap (value_after value) (drop_more digits i 0 h)) ∙ whole in
    omega (arith, too_large value (get_or digits i 0) (drop (i + 1) digits) large, cut)

pub at_end : (value i : ℕ) (digits : List ℕ) → length digits ≤ i → value_after value (drop i digits) ≡ base36_value digits → value ≡ base36_value digits
at_end value i digits h whole = sym (ap (value_after value) (drop_all i digits h)) ∙ whole

is_spelled : (bytes : List ℕ) → 0 < length bytes → list_all is_base36_digit bytes ≡ true → has_leading_zero bytes ≡ false → SpellsBase36 bytes (base36_value bytes)
is_spelled bytes some all none = record { some = some; digits = all; leading = none; value = refl }

some_length : (bytes : List ℕ) (t : Bool) → t ≡ false → t ≡ nat_eq (length bytes) 0 → 0 < length bytes
some_length bytes t h e = grind (arith, nat_tests, h, e)

-- bytes that pass every test spell a number
pub passing_spelled : (bytes : List ℕ) (t : Bool) → t ≡ false → t ≡ nat_eq (length bytes) 0 → position (λ b. not (is_base36_digit b)) bytes ≡ None → has_leading_zero bytes ≡ false → SpellsBase36 bytes (base36_value bytes)
passing_spelled bytes t h e none leading = is_spelled bytes (some_length bytes t h e) (all_pass is_base36_digit bytes none) leading

read_parts : (m n : ℕ) → ◌≡◌ {A = Result ℕ Base36Fault} (Ok m) (Ok n) → m ≡ n
read_parts m n e = cc

-- a number is answered exactly where the bytes spell it
pub number_read : (bytes : List ℕ) (m : ℕ) → SpellsBase36 bytes (base36_value bytes) → base36_value bytes < 2 ^ 64 → m ≡ base36_value bytes
    → (n : ℕ) → (◌≡◌ {A = Result ℕ Base36Fault} (Ok m) (Ok n)) ↔ (SpellsBase36 bytes n × (n < 2 ^ 64))
number_read bytes m s below e n = (
  (λ f. let same : base36_value bytes ≡ n = sym e ∙ read_parts m n f in (subst (SpellsBase36 bytes) same s, omega (arith, same))),
  (λ g. ap answered (e ∙ value_once bytes (base36_value bytes) n s g.0)),
)
  where
    answered : ℕ → Result ℕ Base36Fault
    answered k = Ok k

-- it is too large exactly where they spell one of 2^64 or above
pub large_read : (bytes : List ℕ) → SpellsBase36 bytes (base36_value bytes) → (base36_value bytes < 2 ^ 64 → ⊥)
    → (◌≡◌ {A = Result ℕ Base36Fault} (Err TooLarge) (Err TooLarge)) ↔ ((n : ℕ) × SpellsBase36 bytes n × (2 ^ 64 ≤ n))
large_read bytes s h = ((λ _. (base36_value bytes, s, omega (arith, h))), (λ _. refl))
