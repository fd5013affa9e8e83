-- When bytes are no name of a file, and when they are no number of base 36.
use Rattle.std.proofs.Common.{◌≡◌, ℕ, ◌^◌, ◌<◌, Bool, true, false, not, nat_lt, List, [], length, get_or, Some, None, Result, Ok, Err, ◌↔◌, refl, sym, ap, ◌∙◌, inl, inr, arith}
use Rattle.std.specs.Prelude.{◌&&◌, if◌then◌else◌, IsErrOf}
use Rattle.std.specs.List.{list_all}
use Rattle.std.proofs.lemmas.Bool.{and_left, and_right, and_parts, and_from, cases_Bool, lt-ltb, ltb-true, false≢true}
use Rattle.std.proofs.lemmas.Bool.Decides.{nat_tests}
use Rattle.std.proofs.lemmas.List.Folds.{list_all_at}
use Rattle.std.proofs.lemmas.List.Quantifiers.{position-Some}
use Rattle.nrt_base.specs.Bytes.{is_between}
use Rattle.nrt_base.proofs.Plain.{ok_never_err}
use Rattle.file_names.specs.Names.{is_name_byte, is_file_name, IsTooLong, IsRefusedByte}
use Rattle.file_names.specs.Base36.{is_base36_digit, base36_value, has_leading_zero, SpellsBase36}
use Rattle.file_names.specs.declared.names.NameFault.{NameFault}
use Rattle.file_names.specs.declared.names.NameFault.TheVariants.{Empty, Long, Byte}
use Rattle.file_names.specs.declared.radix.Base36Fault.{Base36Fault}
use Rattle.report_reading.specs.Readings.{is_base36_number}

-- what is not passed fails the test
refused : {X : Type 0} (p : X → Bool) (x : X) → not (p x) ≡ true → p x ≡ false
refused p x e = by_test (p x) e
  where
    by_test : (b : Bool) → not b ≡ true → b ≡ false
    by_test true h = absurd (false≢true h)
    by_test false h = refl

too_long : (bytes : List ℕ) → 64 < length bytes → is_between 1 64 (length bytes) ≡ false
too_long bytes h = grind (arith, nat_tests)

-- bytes that are refused as the name of a file are none
pub no_name : (bytes : List ℕ) (fault : NameFault)
    → (IsErrOf {T = List ℕ} (Err fault) Empty → bytes ≡ []) → ((n : ℕ) → IsErrOf {T = List ℕ} (Err fault) (Long n) → IsTooLong n bytes)
    → ((at : ℕ) → IsErrOf {T = List ℕ} (Err fault) (Byte at) → IsRefusedByte at bytes) → is_file_name bytes ≡ false
no_name bytes Empty empty long byte = let none : bytes ≡ [] = empty refl in rw none refl
no_name bytes (Long n) empty long byte = and_left (is_between 1 64 (length bytes)) (list_all is_name_byte bytes) (too_long bytes (long n refl).0)
no_name bytes (Byte at) empty long byte =
    let found = position-Some (λ (b : ℕ). not (is_name_byte b)) bytes at 0 (byte at refl).1 in
    and_right (is_between 1 64 (length bytes)) (list_all is_name_byte bytes) (list_all_at is_name_byte bytes at 0 found.0 (refused is_name_byte (get_or bytes at 0) found.1))

-- ---- base 36

module _ (digits : List ℕ) (r : Result ℕ Base36Fault) (number : (n : ℕ) → (r ≡ Ok n) ↔ (SpellsBase36 digits n × (n < 2 ^ 64))) where
  -- what is read is the number of the digits
  pub base36_number : (n : ℕ) → r ≡ Ok n → (if is_base36_number digits then Some (base36_value digits) else None) ≡ Some n
  base36_number n e =
      let spelled = (number n).0 e in
      let value : base36_value digits ≡ n = spelled.0.value in
      let low : nat_lt (base36_value digits) (2 ^ 64) ≡ true = rw value (lt-ltb n (2 ^ 64) spelled.1) in
      let unled : not (has_leading_zero digits) ≡ true = rw spelled.0.leading refl in
      let is : is_base36_number digits ≡ true =
      and_from (nat_lt 0 (length digits)) (list_all is_base36_digit digits && (not (has_leading_zero digits) && nat_lt (base36_value digits) (2 ^ 64))) (lt-ltb 0 (length digits) spelled.0.some)
      (and_from (list_all is_base36_digit digits) (not (has_leading_zero digits) && nat_lt (base36_value digits) (2 ^ 64)) spelled.0.digits
      (and_from (not (has_leading_zero digits)) (nat_lt (base36_value digits) (2 ^ 64)) unled low)) in
      rw is (ap Some value)

  -- where nothing is read there is none
  pub no_base36_number : (fault : Base36Fault) → r ≡ Err fault → (if is_base36_number digits then Some (base36_value digits) else None) ≡ None
  no_base36_number fault e = elim (cases_Bool (is_base36_number digits)) [ inl is ↦ absurd (read is) | inr other ↦ rw other refl ]
    where
      read : is_base36_number digits ≡ true → ⊥
      read is =
          let a = and_parts (nat_lt 0 (length digits)) (list_all is_base36_digit digits && (not (has_leading_zero digits) && nat_lt (base36_value digits) (2 ^ 64))) is in
          let b = and_parts (list_all is_base36_digit digits) (not (has_leading_zero digits) && nat_lt (base36_value digits) (2 ^ 64)) a.1 in
          let c = and_parts (not (has_leading_zero digits)) (nat_lt (base36_value digits) (2 ^ 64)) b.1 in
          let spelled : SpellsBase36 digits (base36_value digits) = record {
            some = ltb-true 0 (length digits) a.0;
            digits = b.0;
            leading = refused has_leading_zero digits c.0;
            value = refl;
          } in
          ok_never_err (base36_value digits) fault (sym ((number (base36_value digits)).1 (spelled, ltb-true (base36_value digits) (2 ^ 64) c.1)) ∙ e)
