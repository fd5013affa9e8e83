-- What is framed has the fields of a frame, and what has them is framed.
use Rattle.std.proofs.Common.{◌≡◌, ℕ, ◌+◌, ◌-◌, ◌^◌, ◌<◌, ◌≤◌, List, ◌++◌, length, take, refl, sym, ap, subst, ◌∙◌, arith}
use Rattle.std.specs.Prelude.{slice_range}
use Rattle.std.specs.Int.{w32, w64, to_be_bytes, from_be_bytes}
use Rattle.std.proofs.lemmas.Nat.{be_bytes_4, be_bytes_8, from_be_bytes-to_be_bytes_4, from_be_bytes-to_be_bytes_8}
use Rattle.std.proofs.lemmas.List.{take_at, length-append}
use Rattle.codec_frame.specs.Bytes.{AreBytes}
use Rattle.codec_frame.specs.Division.{crc_of}
use Rattle.codec_frame.specs.Frame.{header_magic, footer_magic, Wanted, IsFramed, header, index_header, with_footer, framed, short_string, header_length}
use Rattle.codec_frame.specs.Checking.{HasHeader, HasFooter, be32_at, be64_at, version_place, id_place}
use Rattle.codec_frame.proofs.ByteLaws.{AreBytes-front, AreBytes-slice_range, length-slice_range}
use Rattle.codec_frame.proofs.Remainder.{crc_of-lt}
use Rattle.codec_frame.proofs.Fields.{in_order, in_order-left, FrameLengths, AreFields, fields_of, in_fields}

-- what the checksum covers
abbrev covered : (name : List ℕ) (version : ℕ) (id suffix body : List ℕ) → List ℕ
covered name version id suffix body = ((index_header name version id suffix ++ body) ++ to_be_bytes w32 footer_magic) ++ to_be_bytes w32 0

abbrev fields : (name : List ℕ) (version : ℕ) (id suffix body checksum : List ℕ) → List ℕ
fields name version id suffix body checksum =
    in_order (to_be_bytes w32 header_magic) (short_string name) (to_be_bytes w32 version) id (short_string suffix) body (to_be_bytes w32 footer_magic) (to_be_bytes w32 0) checksum

covered-in_order : (name : List ℕ) (version : ℕ) (id suffix body checksum : List ℕ) → covered name version id suffix body ++ checksum ≡ fields name version id suffix body checksum
unfolding index_header header
covered-in_order name version id suffix body checksum =
    in_order-left (to_be_bytes w32 header_magic) (short_string name) (to_be_bytes w32 version) id (short_string suffix) body (to_be_bytes w32 footer_magic) (to_be_bytes w32 0) checksum

framed-parts : (name : List ℕ) (version : ℕ) (id suffix body : List ℕ)
    → framed name version id suffix body ≡ covered name version id suffix body ++ to_be_bytes w64 (crc_of (covered name version id suffix body))
unfolding with_footer
framed-parts name version id suffix body = refl

-- the checksum that a file of this body has
abbrev seal : (want : Wanted) (version : ℕ) (id body : List ℕ) → List ℕ
seal want version id body = to_be_bytes w64 (crc_of (covered want.name version id want.suffix body))

lengths : (want : Wanted) (version : ℕ) (id checksum : List ℕ) → length id ≡ 16 → length checksum ≡ 8
    → FrameLengths (length want.name) (length want.suffix) (to_be_bytes w32 header_magic) (short_string want.name) (to_be_bytes w32 version) id (short_string want.suffix) (to_be_bytes w32 footer_magic) (to_be_bytes w32 0) checksum
lengths want version id checksum li lc = record { magic = refl; name_length = omega arith; version = refl; id = li; suffix_length = omega arith; footer = refl; algorithm = refl; checksum = lc }

whole-in_order : (want : Wanted) (version : ℕ) (id body bytes : List ℕ) → IsFramed want version id body bytes → bytes ≡ fields want.name version id want.suffix body (seal want version id body)
whole-in_order want version id body bytes f =
    f.whole ∙ framed-parts want.name version id want.suffix body ∙ covered-in_order want.name version id want.suffix body (seal want version id body)

framed-fields : (want : Wanted) (version : ℕ) (id body bytes : List ℕ) → IsFramed want version id body bytes
    → AreFields (length want.name) (length want.suffix) bytes (to_be_bytes w32 header_magic) (short_string want.name) (to_be_bytes w32 version) id (short_string want.suffix) body (to_be_bytes w32 footer_magic) (to_be_bytes w32 0) (seal want version id body)
framed-fields want version id body bytes f =
    fields_of (length want.name) (length want.suffix) bytes _ _ _ _ _ _ _ _ _ (lengths want version id (seal want version id body) f.id_length refl) (whole-in_order want version id body bytes f)

pub framed-length : (want : Wanted) (version : ℕ) (id body bytes : List ℕ) → IsFramed want version id body bytes → length bytes ≡ header_length want + length body + 16
framed-length want version id body bytes f = (framed-fields want version id body bytes f).long

pub framed-body : (want : Wanted) (version : ℕ) (id body bytes : List ℕ) → IsFramed want version id body bytes
    → slice_range bytes (header_length want) (length bytes - 16) ≡ body
framed-body want version id body bytes f = (framed-fields want version id body bytes f).body

pub framed_header : (want : Wanted) (version : ℕ) (id body bytes : List ℕ) → want.max < 2 ^ 32 → IsFramed want version id body bytes → HasHeader want bytes version id
framed_header want version id body bytes small f =
    let parts = framed-fields want version id body bytes f in
    let newest : version ≤ want.max = f.not_newer in
    record {
      magic = ap (from_be_bytes w32) parts.magic;
      name = parts.name_field;
      version_field = ap (from_be_bytes w32) parts.version ∙ from_be_bytes-to_be_bytes_4 version (omega arith);
      not_older = f.not_older;
      not_newer = f.not_newer;
      id_field = parts.id;
      id_wanted = f.id_wanted;
      suffix = parts.suffix_field;
    }

-- where a file is cut into what is covered and eight bytes more
covered_before : (front back bytes : List ℕ) → bytes ≡ front ++ back → length back ≡ 8 → take (length bytes - 8) bytes ≡ front
covered_before front back bytes e len =
    let long : length bytes ≡ length front + length back = ap length e ∙ length-append front back in
    ap (take (length bytes - 8)) e ∙ take_at front back (length bytes - 8) (omega arith)

pub framed_footer : (want : Wanted) (version : ℕ) (id body bytes : List ℕ) → AreBytes bytes → IsFramed want version id body bytes → HasFooter bytes
framed_footer want version id body bytes fits f =
    let parts = framed-fields want version id body bytes f in
    let front : List ℕ = covered want.name version id want.suffix body in
    let whole : bytes ≡ front ++ to_be_bytes w64 (crc_of front) = f.whole ∙ framed-parts want.name version id want.suffix body in
    let before : take (length bytes - 8) bytes ≡ front = covered_before front (to_be_bytes w64 (crc_of front)) bytes whole refl in
    let small : crc_of front < 2 ^ 32 = crc_of-lt front (AreBytes-front front (to_be_bytes w64 (crc_of front)) (subst AreBytes whole fits)) in
    record {
      magic = ap (from_be_bytes w32) parts.footer;
      algorithm = ap (from_be_bytes w32) parts.algorithm;
      checksum = ap (from_be_bytes w64) parts.checksum ∙ from_be_bytes-to_be_bytes_8 (crc_of front) (omega arith) ∙ ap crc_of (sym before);
    }

-- four bytes that read as a number are its bytes
four_bytes : (bytes : List ℕ) (at n : ℕ) → AreBytes bytes → at + 4 ≤ length bytes → be32_at bytes at ≡ n → slice_range bytes at (at + 4) ≡ to_be_bytes w32 n
four_bytes bytes at n fits h e =
    sym (be_bytes_4 (slice_range bytes at (at + 4)) n (length-slice_range bytes at 4 h) (AreBytes-slice_range bytes at (at + 4) fits) (sym e))

eight_bytes : (bytes : List ℕ) (at n : ℕ) → AreBytes bytes → at + 8 ≤ length bytes → be64_at bytes at ≡ n → slice_range bytes at (at + 8) ≡ to_be_bytes w64 n
eight_bytes bytes at n fits h e =
    sym (be_bytes_8 (slice_range bytes at (at + 8)) n (length-slice_range bytes at 8 h) (AreBytes-slice_range bytes at (at + 8) fits) (sym e))

same_order : (m m' n n' v v' i i' s s' b f f' a a' c : List ℕ) → m ≡ m' → n ≡ n' → v ≡ v' → i ≡ i' → s ≡ s' → f ≡ f' → a ≡ a' → in_order m n v i s b f a c ≡ in_order m' n' v' i' s' b f' a' c
same_order m m' n n' v v' i i' s s' b f f' a a' c em en ev ei es ef ea = cc

pub is_framed : (want : Wanted) (version : ℕ) (id bytes : List ℕ) → AreBytes bytes → header_length want + 16 ≤ length bytes → HasHeader want bytes version id → HasFooter bytes
    → IsFramed want version id (slice_range bytes (header_length want) (length bytes - 16)) bytes
is_framed want version id bytes fits long h f =
    let n : ℕ = length bytes in
    let body : List ℕ = slice_range bytes (header_length want) (n - 16) in
    let last : List ℕ = slice_range bytes (n - 8) (n - 8 + 8) in
    let front : List ℕ = covered want.name version id want.suffix body in
    let parts : bytes ≡ front ++ last =
    in_fields (length want.name) (length want.suffix) bytes long
    ∙ same_order _ _ _ _ _ _ _ _ _ _ _ _ _ _ _ _ (four_bytes bytes 0 header_magic fits (omega arith) h.magic) h.name
    (four_bytes bytes (version_place want) version fits (omega arith) h.version_field) h.id_field h.suffix
    (four_bytes bytes (n - 16) footer_magic fits (omega arith) f.magic) (four_bytes bytes (n - 12) 0 fits (omega arith) f.algorithm)
    ∙ sym (covered-in_order want.name version id want.suffix body last) in
    let before : take (n - 8) bytes ≡ front = covered_before front last bytes parts (length-slice_range bytes (n - 8) 8 (omega arith)) in
    let sealed : last ≡ to_be_bytes w64 (crc_of front) = eight_bytes bytes (n - 8) (crc_of front) fits (omega arith) (f.checksum ∙ ap crc_of before) in
    record {
      whole = parts ∙ ap (λ (x : List ℕ). front ++ x) sealed ∙ sym (framed-parts want.name version id want.suffix body);
      not_older = h.not_older;
      not_newer = h.not_newer;
      id_length = ap length (sym h.id_field) ∙ length-slice_range bytes (id_place want) 16 (omega arith);
      id_wanted = h.id_wanted;
    }

-- a framed file ends in the CRC-32 of what stands before it
pub framed_sealed : (want : Wanted) (version : ℕ) (id body bytes : List ℕ) → IsFramed want version id body bytes → (front : List ℕ) × (bytes ≡ front ++ to_be_bytes w64 (crc_of front))
framed_sealed want version id body bytes f = (covered want.name version id want.suffix body, f.whole ∙ framed-parts want.name version id want.suffix body)
