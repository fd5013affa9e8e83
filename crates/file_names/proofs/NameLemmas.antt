-- Bytes of which none is refused are the bytes of a file's name, and how they lie in 64 bytes.
use Rattle.std.proofs.Common.{◌≡◌, ℕ, ◌-◌, ◌≤◌, ◌<◌, Bool, true, false, not, cond, nat_lt, nat_eq, List, ◌++◌, length, take, drop, get_or, replicate, None, Some, sym, ap, ◌∙◌, arith}
use Rattle.std.specs.List.{list_all, position, position_or_len}
use Rattle.std.specs.Str.{IsUtf8}
use Rattle.file_names.specs.Names.{is_name_byte, is_file_name}
use Rattle.nrt_base.specs.Bytes.{is_between}
use Rattle.nrt_base.proofs.Plain.{text_from_test}
use Rattle.std.proofs.lemmas.Grind.{common_steps}
use Rattle.std.proofs.lemmas.List.{drop-replicate}
use Rattle.std.proofs.lemmas.List.Sums.{list_all-from_AllPass, fails_before_first}
use Rattle.std.proofs.lemmas.Bool.{not-false, and_parts}
use Rattle.std.proofs.lemmas.Bool.Decides.{nat_tests}

past_end : (n m : ℕ) → cond (nat_lt n m) (Some n) None ≡ None → m ≤ n
past_end n m h = grind arith

-- where no byte is refused, each passes
pub all_pass : (p : ℕ → Bool) (bytes : List ℕ) → position (λ b. not (p b)) bytes ≡ None → list_all p bytes ≡ true
all_pass p bytes h =
    let whole : length bytes ≤ position_or_len (λ b. not (p b)) bytes = past_end (position_or_len (λ b. not (p b)) bytes) (length bytes) h in
    list_all-from_AllPass p bytes (λ k d lt. not-false (p (get_or bytes k d)) (fails_before_first (λ b. not (p b)) bytes k d (omega (arith, lt, whole))))

-- bytes that are neither too few nor too many, none of them refused, are a file's name
pub is_name : (bytes : List ℕ) → nat_eq (length bytes) 0 ≡ false → length bytes ≤ 64 → position (λ b. not (is_name_byte b)) bytes ≡ None → is_file_name bytes ≡ true
is_name bytes some few h = grind (arith, some, few, all_pass is_name_byte bytes h)

-- what lies in 64 bytes is a name's bytes and then zeros
pub is_padded : (bytes : List ℕ) (lain : List ℕ) → is_file_name bytes ≡ true → lain ≡ bytes ++ replicate (64 - length bytes) 0
    → (length lain ≡ 64) × (length bytes ≤ 64) × (lain ≡ take (length bytes) lain ++ replicate (64 - length bytes) 0) × (is_file_name (take (length bytes) lain) ≡ true)
is_padded bytes lain named is =
    let few : length bytes ≤ 64 = grind (arith, named) in
    let front : take (length bytes) lain ≡ bytes = grind (arith, common_steps, is) in
    (grind (arith, common_steps, is, few), few, is ∙ ap (λ xs. xs ++ replicate (64 - length bytes) 0) (sym front), ap is_file_name front ∙ named)

-- zeros whose front is written over
pub over_zeros : (written bytes : List ℕ) → written ≡ bytes → written ++ drop (length bytes) (replicate 64 0) ≡ bytes ++ replicate (64 - length bytes) 0
over_zeros written bytes same = ap (λ xs. xs ++ drop (length bytes) (replicate 64 0)) same ∙ ap (λ zs. bytes ++ zs) (drop-replicate (length bytes) 64 0)

is_ascii-name_byte : (b : ℕ) → is_name_byte b ≡ true → b < 128
is_ascii-name_byte b h = grind (arith, nat_tests, h)

-- the bytes of a file's name are text
pub name_is_text : (bytes : List ℕ) → is_file_name bytes ≡ true → IsUtf8 bytes
name_is_text bytes h = text_from_test is_name_byte is_ascii-name_byte bytes (and_parts (is_between 1 64 (length bytes)) (list_all is_name_byte bytes) h).1
