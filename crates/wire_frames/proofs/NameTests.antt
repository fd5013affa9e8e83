-- Bytes that are refused as a name of a file are none.
use Rattle.std.proofs.Common.{◌≡◌, ℕ, ◌<◌, ◌≤◌, Bool, true, false, List, [], ◌∷◌, length, get_or, Option, Some, None, Result, Ok, Err, refl, sym, ap, ◌∙◌, arith}
use Rattle.std.specs.Prelude.{◌↔◌, ◌&&◌, nat_le, not, position, IsErrOf}
use Rattle.std.specs.List.{list_all}
use Rattle.std.proofs.lemmas.Bool.Decides.{nat_tests}
use Rattle.std.proofs.lemmas.List.Quantifiers.{position-Some}
use Rattle.std.proofs.lemmas.List.Folds.{list_all_at}
use Rattle.std.proofs.lemmas.Bool.{not-true, and_right, and_left}
use Rattle.nrt_base.specs.Bytes.{is_between}
use Rattle.file_names.specs.Names.{is_name_byte, is_file_name}
use Rattle.file_names.specs.declared.names.NameFault.{NameFault}
use Rattle.file_names.specs.declared.names.NameFault.TheVariants.{Empty, Long, Byte}

too_long : (n : ℕ) → 64 < n → is_between 1 64 n ≡ false
too_long n h = grind (arith, nat_tests)

one_refused : (bytes : List ℕ) (at : ℕ) → position (λ b. not (is_name_byte b)) bytes ≡ Some at → list_all is_name_byte bytes ≡ false
one_refused bytes at e =
    let h = position-Some (λ b. not (is_name_byte b)) bytes at 0 e in
    list_all_at is_name_byte bytes at 0 h.0 (not-true (is_name_byte (get_or bytes at 0)) h.1)

pub refused_name : {X : Type 0} (text : List ℕ) (fault : NameFault) (result : Result X NameFault) → result ≡ Err fault
    → (IsErrOf result Empty → text ≡ [])
    → ((n : ℕ) → IsErrOf result (Long n) → 64 < length text)
    → ((at : ℕ) → IsErrOf result (Byte at) → position (λ b. not (is_name_byte b)) text ≡ Some at)
    → is_file_name text ≡ false
refused_name text Empty result e empty long byte = ap is_file_name (empty e)
refused_name text (Long n) result e empty long byte = and_left (is_between 1 64 (length text)) (list_all is_name_byte text) (too_long (length text) (long n e))
refused_name text (Byte at) result e empty long byte = and_right (is_between 1 64 (length text)) (list_all is_name_byte text) (one_refused text at (byte at e))
