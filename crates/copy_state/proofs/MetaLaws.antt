-- Metadata is one, and that of a framed file is read.
use Rattle.std.proofs.Common.{◌≡◌, ℕ, suc, ◌+◌, ◌-◌, ◌^◌, ◌<◌, ◌≤◌, ◌==◌, true, false, None, List, ◌∷◌, length, get_or, take, drop, refl, sym, ap, ◌∙◌, arith, drop-cons, eq-eqb}
use Rattle.std.specs.Prelude.{slice_range, nat_lt}
use Rattle.std.proofs.lemmas.Bool.Decides.{nat_tests}
use Rattle.codec_frame.specs.Bytes.{AreBytes}
use Rattle.codec_frame.specs.Frame.{Wanted, IsFramed, header_magic, footer_magic, header_length}
use Rattle.codec_frame.specs.Checking.{be32_at}
use Rattle.codec_frame.proofs.FrameLaws.{framed_header, framed_footer, framed-length}
use Rattle.copy_state.specs.declared.meta.FileMetaData.{FileMetaData}
use Rattle.copy_state.specs.Meta.{name_length, suffix_length, told_header, meta_fault, IsMetaOf}

pub one_meta : (bytes : List ℕ) (m n : FileMetaData) → IsMetaOf bytes m → IsMetaOf bytes n → m ≡ n
one_meta bytes m n a b =
    let header : m.header ≡ n.header = a.header ∙ sym b.header in
    let footer : m.footer ≡ n.footer = a.footer ∙ sym b.footer in
    let long : m.length ≡ n.length = a.length_is ∙ sym b.length_is in
    let sum : m.checksum ≡ n.checksum = a.checksum ∙ sym b.checksum in
    λ i. record { header = header i; footer = footer i; length = long i; checksum = sum i }

-- the byte before a string is its length
first_byte : (bytes text : List ℕ) (at n x : ℕ) → at < length bytes → slice_range bytes at (at + (1 + n)) ≡ x ∷ text → get_or bytes at 0 ≡ x
first_byte bytes text at n x here e =
    let count : at + (1 + n) - at ≡ suc n = omega arith in
    let parts : take (suc n) (drop at bytes) ≡ get_or bytes at 0 ∷ take n (drop (suc at) bytes) = ap (take (suc n)) (drop-cons bytes at 0 here) in
    let both : get_or bytes at 0 ∷ take n (drop (suc at) bytes) ≡ x ∷ text = sym parts ∙ ap (λ k. take k (drop at bytes)) (sym count) ∙ e in
    cc

-- where each test fails there is no fault
no_fault_told : (bytes : List ℕ) (name suffix : ℕ) → name_length bytes ≡ name → suffix_length bytes ≡ suffix → name < 128 → 42 + name + suffix ≤ length bytes
    → be32_at bytes 0 ≡ header_magic → be32_at bytes (length bytes - 16) ≡ footer_magic → be32_at bytes (length bytes - 12) ≡ 0 → meta_fault bytes ≡ None
no_fault_told bytes name suffix n s short long magic footer algorithm =
    let one : nat_lt (length bytes) 42 ≡ false = grind (arith, nat_tests) in
    let two : (be32_at bytes 0 == header_magic) ≡ true = eq-eqb _ _ magic in
    let three : nat_lt 127 (name_length bytes) ≡ false = grind (arith, nat_tests) in
    let four : nat_lt (length bytes) (42 + name_length bytes) ≡ false = grind (arith, nat_tests) in
    let five : nat_lt (length bytes) (told_header bytes + 16) ≡ false = grind (arith, nat_tests) in
    let six : (be32_at bytes (length bytes - 16) == footer_magic) ≡ true = eq-eqb _ _ footer in
    let seven : (be32_at bytes (length bytes - 12) == 0) ≡ true = eq-eqb _ _ algorithm in
    rw (one, two, three, four, five, six, seven) refl

pub framed_readable : (want : Wanted) (version : ℕ) (id body bytes : List ℕ) → want.max < 2 ^ 32 → length want.name < 128 → length want.suffix < 256 → AreBytes bytes
    → IsFramed want version id body bytes → meta_fault bytes ≡ None
framed_readable want version id body bytes small name suffix fits framed =
    let h = framed_header want version id body bytes small framed in
    let f = framed_footer want version id body bytes fits framed in
    let long : length bytes ≡ header_length want + length body + 16 = framed-length want version id body bytes framed in
    let n : name_length bytes ≡ length want.name = first_byte bytes want.name 4 (length want.name) (length want.name) (omega arith) h.name in
    let place : 25 + length want.name ≡ 25 + name_length bytes = ap (λ k. 25 + k) (sym n) in
    let s : suffix_length bytes ≡ length want.suffix =
    ap (λ k. get_or bytes k 0) (sym place) ∙ first_byte bytes want.suffix (25 + length want.name) (length want.suffix) (length want.suffix) (omega arith) h.suffix in
    no_fault_told bytes (length want.name) (length want.suffix) n s name (omega arith) h.magic f.magic f.algorithm
