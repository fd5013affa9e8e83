-- Bytes that are refused as a file's name are none.
use Rattle.std.proofs.Common.{◌≡◌, ℕ, ◌<◌, Bool, true, false, List, [], length, get_or, Some, refl, sym, ap, arith, true≢false}
use Rattle.std.specs.Prelude.{◌&&◌, not, nat_le}
use Rattle.std.specs.List.{list_all, position}
use Rattle.std.proofs.lemmas.Bool.{and_parts}
use Rattle.std.proofs.lemmas.Bool.Decides.{nat_tests}
use Rattle.std.proofs.lemmas.List.Quantifiers.{position-Some}
use Rattle.std.proofs.lemmas.List.Sums.{AllPass-from_list_all}
use Rattle.nrt_base.specs.Bytes.{is_between}
use Rattle.file_names.specs.Names.{is_name_byte, is_file_name}
use Rattle.file_names.specs.declared.names.NameFault.{NameFault}
use Rattle.file_names.specs.declared.names.NameFault.TheVariants.{Empty, Long, Byte}

pub refused : (bytes : List ℕ) (e : NameFault) → (e ≡ Empty → bytes ≡ []) → ((n : ℕ) → e ≡ Long n → 64 < length bytes)
    → ((at : ℕ) → e ≡ Byte at → position (λ b. not (is_name_byte b)) bytes ≡ Some at) → is_file_name bytes ≡ false
refused bytes Empty empty long byte = ap is_file_name (empty refl)
refused bytes (Long n) empty long byte = too_long (length bytes) (list_all is_name_byte bytes) (long n refl)
  where
    too_long : (n : ℕ) (b : Bool) → 64 < n → (is_between 1 64 n && b) ≡ false
    too_long n b lt = let e : nat_le n 64 ≡ false = grind (arith, nat_tests) in rw e (and_none (nat_le 1 n) b)
      where
        and_none : (a b : Bool) → ((a && false) && b) ≡ false
        and_none true b = refl
        and_none false b = refl
refused bytes (Byte at) empty long byte = by (is_file_name bytes) refl
  where
    by : (t : Bool) → is_file_name bytes ≡ t → t ≡ false
    by false e = refl
    by true e =
        let all = (and_parts (is_between 1 64 (length bytes)) (list_all is_name_byte bytes) e).1 in
        let first = position-Some (λ b. not (is_name_byte b)) bytes at 0 (byte at refl) in
        absurd (both (is_name_byte (get_or bytes at 0)) (AllPass-from_list_all is_name_byte bytes all at 0 first.0) first.1)
      where
        both : (b : Bool) → b ≡ true → not b ≡ true → ⊥
        both true e f = true≢false (sym f)
        both false e f = true≢false (sym e)
