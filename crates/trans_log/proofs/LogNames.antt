-- The names of the log are names of files, and no two are one.
use Rattle.std.proofs.Common.{◌≡◌, ℕ, suc, zero, ◌≤◌, ◌<◌, ◌^◌, Bool, true, false, not, List, [], ◌∷◌, ◌++◌, length, get_or, Some, Result, Err, refl, sym, ap, subst, ◌∙◌, arith}
use Rattle.std.specs.Prelude.{codes, ◌↔◌, position, IsErrOf}
use Rattle.std.specs.List.{list_all}
use Rattle.std.proofs.lemmas.Bool.{and_parts, leb-true}
use Rattle.std.proofs.lemmas.List.Quantifiers.{position-Some}
use Rattle.std.proofs.lemmas.Bool.Decides.{nat_tests}
use Rattle.std.proofs.lemmas.List.{length-append, append_cancel_left}
use Rattle.file_names.specs.Names.{is_name_byte, is_file_name}
use Rattle.file_names.specs.Base36.{base36_of}
use Rattle.file_names.specs.declared.names.NameFault.{NameFault}
use Rattle.file_names.specs.declared.names.NameFault.TheVariants.{Empty, Long, Byte}
use Rattle.file_names.proofs.Base36Lemmas.{spelling_of, list_all-append, base36_apart}
use Rattle.file_names.proofs.NameLaws.{digits_are_name_bytes}
use Rattle.trans_log.specs.Names.{log_name_of, pending_log_name_of}

-- letters and a number are a name
pub numbered_is : (letters : List ℕ) (n : ℕ) → 0 < length letters → length letters ≤ 40 → list_all is_name_byte letters ≡ true → n < 2 ^ 64 → is_file_name (letters ++ base36_of n) ≡ true
numbered_is letters n some few names h =
    let s = spelling_of n h in
    let all : list_all is_name_byte (letters ++ base36_of n) ≡ true = list_all-append is_name_byte letters (base36_of n) names (digits_are_name_bytes (base36_of n) s.digits) in
    let least : 1 ≤ length (letters ++ base36_of n) = omega (arith, length-append letters (base36_of n), some) in
    let most : length (letters ++ base36_of n) ≤ 64 = omega (arith, length-append letters (base36_of n), few, s.few) in
    grind (arith, nat_tests, all, least, most)

pub log_name_is : (n : ℕ) → n < 2 ^ 64 → is_file_name (log_name_of n) ≡ true
log_name_is n h = numbered_is (codes "log_") n (omega arith) (omega arith) refl h

pub pending_log_name_is : (n : ℕ) → n < 2 ^ 64 → is_file_name (pending_log_name_of n) ≡ true
pending_log_name_is n h = numbered_is (codes "pending_log_") n (omega arith) (omega arith) refl h

-- no two numbers have one name
pub log_name_apart : (m n : ℕ) → m < 2 ^ 64 → n < 2 ^ 64 → log_name_of m ≡ log_name_of n → m ≡ n
log_name_apart m n hm hn e = base36_apart m n hm hn (append_cancel_left (codes "log_") (base36_of m) (base36_of n) e)

pub pending_log_name_apart : (m n : ℕ) → m < 2 ^ 64 → n < 2 ^ 64 → pending_log_name_of m ≡ pending_log_name_of n → m ≡ n
pending_log_name_apart m n hm hn e = base36_apart m n hm hn (append_cancel_left (codes "pending_log_") (base36_of m) (base36_of n) e)

pub log_not_pending : (m n : ℕ) → log_name_of m ≡ pending_log_name_of n → ⊥
log_not_pending m n e = let first : get_or (log_name_of m) 0 0 ≡ get_or (pending_log_name_of n) 0 0 = ap (λ (x : List ℕ). get_or x 0 0) e in absurd (omega (arith, first))

-- a name is not refused
each_passes : (p : ℕ → Bool) (bytes : List ℕ) (i d : ℕ) → list_all p bytes ≡ true → i < length bytes → p (get_or bytes i d) ≡ true
each_passes p [] i d h lt = absurd (omega arith)
each_passes p (b ∷ bytes) zero d h lt = (and_parts (p b) (list_all p bytes) h).0
each_passes p (b ∷ bytes) (suc i) d h lt = each_passes p bytes i d (and_parts (p b) (list_all p bytes) h).1 (omega arith)

abbrev Named : Type 0
Named = Result (List ℕ) NameFault

pub not_refused : (bytes : List ℕ) (r : Named) (fault : NameFault) → is_file_name bytes ≡ true → r ≡ Err fault → (IsErrOf r Empty ↔ (bytes ≡ []))
    → ((n : ℕ) → IsErrOf r (Long n) ↔ ((64 < length bytes) × (n ≡ length bytes)))
    → ((at : ℕ) → IsErrOf r (Byte at) ↔ ((length bytes ≤ 64) × (position (λ b. not (is_name_byte b)) bytes ≡ Some at))) → ⊥
not_refused bytes r Empty is e empty long byte =
    let none : bytes ≡ [] = empty.0 (subst (λ (x : Named). IsErrOf x Empty) (sym e) refl) in
    let bad = sym (ap is_file_name none) ∙ is in cc
not_refused bytes r (Long n) is e empty long byte =
    let more : 64 < length bytes = ((long n).0 (subst (λ (x : Named). IsErrOf x (Long n)) (sym e) refl)).0 in
    let few : length bytes ≤ 64 = leb-true (length bytes) 64 (and_parts _ _ (and_parts _ _ is).0).1 in
    omega (arith, more, few)
not_refused bytes r (Byte at) is e empty long byte =
    let found : position (λ b. not (is_name_byte b)) bytes ≡ Some at = ((byte at).0 (subst (λ (x : Named). IsErrOf x (Byte at)) (sym e) refl)).1 in
    let p = position-Some (λ b. not (is_name_byte b)) bytes at 0 found in
    let good : is_name_byte (get_or bytes at 0) ≡ true = each_passes is_name_byte bytes at 0 (and_parts _ (list_all is_name_byte bytes) is).1 p.0 in
    let bad : false ≡ true = sym (ap not good) ∙ p.1 in cc
