-- The infos of a point are short: they have at most 256 segments.
use Rattle.std.proofs.Common.{◌≡◌, ℕ, ◌+◌, ◌*◌, ◌^◌, ◌<◌, ◌≤◌, List, [], ◌∷◌, ◌++◌, length, refl, ap, arith}
use Rattle.std.specs.Prelude.{codes}
use Rattle.std.specs.List.{flat_map}
use Rattle.std.specs.Fmt.{decimal}
use Rattle.std.proofs.lemmas.Fmt.{length-decimal-le}
use Rattle.std.proofs.lemmas.List.{length-append}
use Rattle.body_forms.specs.VInts.{vint}
use Rattle.body_forms.specs.Numbers.{u32_bytes, string}
use Rattle.codec_frame.proofs.FrameLaws.{framed-length}
use Rattle.segment_infos.specs.declared.infos.Infos.{Infos}
use Rattle.segment_infos.specs.declared.infos.SegRecord.{SegRecord}
use Rattle.segment_infos.specs.Infos.{record_bytes, user_data, infos_body, infos_wanted, infos_id, IsInfosFile}
use Rattle.wire_frames.specs.Wire.{longest_infos}
use Rattle.wire_frames.proofs.MessageLaws.{vint_short}

string_short : (text : List ℕ) → length (string text) ≤ 5 + length text
string_short text = omega (arith, vint_short (length text), length-append (vint (length text)) text)

record_long : (r : SegRecord) → length (record_bytes r) ≡ 24
unfolding record_bytes
record_long r = refl

records_long : (segs : List SegRecord) → length (flat_map record_bytes segs) ≡ 24 * length segs
records_long [] = refl
records_long (r ∷ segs) =
    let both = length-append (record_bytes r) (flat_map record_bytes segs) in
    let first = record_long r in
    let others = records_long segs in
    omega (arith, both, first, others)

data_short : (generation version : ℕ) → generation < 2 ^ 64 → version < 2 ^ 64 → length (user_data generation version) ≤ 85
unfolding user_data
data_short generation version fits fits_too =
    let g : length (decimal generation) ≤ 20 = length-decimal-le 20 generation (omega arith) (omega (arith, fits)) fits in
    let v : length (decimal version) ≤ 20 = length-decimal-le 20 version (omega arith) (omega (arith, fits_too)) fits_too in
    let one = string_short (codes "__primaryGen") in
    let two = string_short (decimal generation) in
    let three = string_short (codes "__version") in
    let four = string_short (decimal version) in
    let a = length-append (u32_bytes 2) (string (codes "__primaryGen") ++ (string (decimal generation) ++ (string (codes "__version") ++ string (decimal version)))) in
    let b = length-append (string (codes "__primaryGen")) (string (decimal generation) ++ (string (codes "__version") ++ string (decimal version))) in
    let c = length-append (string (decimal generation)) (string (codes "__version") ++ string (decimal version)) in
    let d = length-append (string (codes "__version")) (string (decimal version)) in
    let e : length (u32_bytes 2) ≡ 4 = refl in
    omega (arith, a, b, c, d, e, one, two, three, four, g, v)

-- the file of infos fits into the frame of a state
pub infos_short : (infos : Infos) (bytes : List ℕ) → IsInfosFile infos bytes → length bytes ≤ longest_infos
unfolding infos_body
infos_short infos bytes file =
    let whole = ap length file.spelled.whole in
    let few = file.spelled.can.few in
    let records = records_long infos.segs in
    let told = data_short infos.generation.0 infos.version.0 file.spelled.fit.generation file.spelled.fit.version in
    let body = length-append (flat_map record_bytes infos.segs) (user_data infos.generation.0 infos.version.0) in
    let frame = framed-length infos_wanted 1 (infos_id infos) file.body bytes file.framed in
    omega (arith, whole, few, records, told, body, frame)
