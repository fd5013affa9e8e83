-- What has been written of infos.
use Rattle.std.proofs.Common.{◌≡◌, ℕ, ◌+◌, ◌<◌, ◌≤◌, List, [], ◌∷◌, ◌++◌, length, get_or, take, refl, sym, ap, subst, ◌∙◌, arith}
use Rattle.std.specs.Prelude.{◌^◌, codes}
use Rattle.std.specs.List.{flat_map, All}
use Rattle.std.specs.Fmt.{decimal}
use Rattle.std.proofs.lemmas.List.{take_all, take_more, append-nil, flat_map_more}
use Rattle.std.proofs.lemmas.List.Elements.{All-more}
use Rattle.segment_infos.specs.declared.infos.SegRecord.{SegRecord}
use Rattle.body_forms.specs.Numbers.{u32_bytes, u64_bytes, string}
use Rattle.segment_infos.specs.declared.infos.Infos.{Infos}
use Rattle.segment_infos.specs.Infos.{record_bytes, RecordFits, user_data, infos_body, CanSpell, SpellsInfos}
use Rattle.segment_infos.proofs.Appends.{joined}

-- the record of a segment behind the bytes that were there before
pub adds_record : (before one two three four : List ℕ) (r : SegRecord) → one ≡ before ++ u64_bytes r.seg.0 → two ≡ one ++ u32_bytes r.rows → three ≡ two ++ u64_bytes r.live_gen → four ≡ three ++ u32_bytes r.live
    → four ≡ before ++ record_bytes r
unfolding record_bytes
adds_record before one two three four r e1 e2 e3 e4 =
    joined before one four (u64_bytes r.seg.0) (u32_bytes r.rows ++ (u64_bytes r.live_gen ++ u32_bytes r.live)) e1
    (joined one two four (u32_bytes r.rows) (u64_bytes r.live_gen ++ u32_bytes r.live) e2 (joined two three four (u64_bytes r.live_gen) (u32_bytes r.live) e3 e4))

-- the records of the first n segments are written behind `before`
pub record HasRecords (before : List ℕ) (segs : List SegRecord) (n : ℕ) (out : List ℕ) : Type 0 where
  pub written : out ≡ before ++ flat_map record_bytes (take n segs)
  pub fit : All RecordFits (take n segs)

none_taken : (segs : List SegRecord) → take 0 segs ≡ []
none_taken [] = refl
none_taken (r ∷ segs) = refl

pub records_start : (before : List ℕ) (segs : List SegRecord) → HasRecords before segs 0 before
records_start before segs = record {
  written = sym (ap (λ (x : List SegRecord). before ++ flat_map record_bytes x) (none_taken segs) ∙ append-nil before);
  fit = subst (All RecordFits) (sym (none_taken segs)) (λ k d lt. absurd (omega arith));
}

pub records_next : (before : List ℕ) (segs : List SegRecord) (n : ℕ) (out : List ℕ) (r d : SegRecord) (more : List ℕ) → n < length segs → r ≡ get_or segs n d → RecordFits r
    → HasRecords before segs n out → more ≡ out ++ record_bytes r → HasRecords before segs (n + 1) more
records_next before segs n out r d more lt is fit h w =
    let more_taken : take (n + 1) segs ≡ take n segs ++ r ∷ [] = take_more segs n d lt ∙ ap (λ (x : SegRecord). take n segs ++ x ∷ []) (sym is) in
    record {
      written = w ∙ ap (λ (x : List ℕ). x ++ record_bytes r) h.written ∙ flat_map_more record_bytes before (take n segs) r
          ∙ ap (λ (x : List SegRecord). before ++ flat_map record_bytes x) (sym more_taken);
      fit = All-more RecordFits segs n d lt h.fit (subst RecordFits is fit);
    }

-- all records are written
pub record HasAll (before : List ℕ) (segs : List SegRecord) (out : List ℕ) : Type 0 where
  pub written : out ≡ before ++ flat_map record_bytes segs
  pub fit : All RecordFits segs

pub records_end : (before : List ℕ) (segs : List SegRecord) (n : ℕ) (out : List ℕ) → length segs ≤ n → HasRecords before segs n out → HasAll before segs out
records_end before segs n out le h =
    let all = take_all n segs le in
    record { written = h.written ∙ ap (λ (x : List SegRecord). before ++ flat_map record_bytes x) all; fit = subst (All RecordFits) all h.fit }

-- a body of infos behind the bytes that were there before
pub record AddsBody (before : List ℕ) (infos : Infos) (out : List ℕ) : Type 0 where
  pub whole : out ≡ before ++ infos_body infos
  pub spelled : SpellsInfos (infos_body infos) infos

pub adds_body : (before one two three four five six : List ℕ) (infos : Infos) (segs : List SegRecord) (n count : ℕ) → CanSpell infos → segs ≡ infos.segs → count ≡ length segs
    → infos.generation.0 < 2 ^ 64 → infos.version.0 < 2 ^ 64 → infos.counter < 2 ^ 32
    → one ≡ before ++ u64_bytes infos.generation.0 → two ≡ one ++ u64_bytes infos.version.0 → three ≡ two ++ u32_bytes infos.counter → four ≡ three ++ u32_bytes count
    → length segs ≤ n → HasRecords four segs n five → six ≡ five ++ user_data infos.generation.0 infos.version.0 → AddsBody before infos six
unfolding infos_body
adds_body before one two three four five six infos segs n count can same number g v c e1 e2 e3 e4 le h e6 =
    let all = records_end four segs n five le h in
    let records = flat_map record_bytes infos.segs in
    let told = user_data infos.generation.0 infos.version.0 in
    let e4' : four ≡ three ++ u32_bytes (length infos.segs) = e4 ∙ ap (λ (k : ℕ). three ++ u32_bytes k) (number ∙ ap length same) in
    let e5 : five ≡ four ++ records = all.written ∙ ap (λ (x : List SegRecord). four ++ flat_map record_bytes x) same in
    let from_five = joined four five six records told e5 e6 in
    let from_four = joined three four six (u32_bytes (length infos.segs)) (records ++ told) e4' from_five in
    let from_three = joined two three six (u32_bytes infos.counter) (u32_bytes (length infos.segs) ++ (records ++ told)) e3 from_four in
    let from_two = joined one two six (u64_bytes infos.version.0) (u32_bytes infos.counter ++ (u32_bytes (length infos.segs) ++ (records ++ told))) e2 from_three in
    record {
      whole = joined before one six (u64_bytes infos.generation.0) (u64_bytes infos.version.0 ++ (u32_bytes infos.counter ++ (u32_bytes (length infos.segs) ++ (records ++ told)))) e1 from_two;
      spelled = record { can = can; fit = record { generation = g; version = v; counter = c; records = subst (All RecordFits) same all.fit }; whole = refl };
    }

-- the user data behind the bytes that were there before
pub adds_user_data : (before one two three four five : List ℕ) (generation version : ℕ) → one ≡ before ++ u32_bytes 2 → two ≡ one ++ string (codes "__primaryGen") → three ≡ two ++ string (decimal generation)
    → four ≡ three ++ string (codes "__version") → five ≡ four ++ string (decimal version) → five ≡ before ++ user_data generation version
unfolding user_data
adds_user_data before one two three four five generation version e1 e2 e3 e4 e5 =
    let a = string (decimal version) in
    let b = string (codes "__version") ++ a in
    let c = string (decimal generation) ++ b in
    let d = string (codes "__primaryGen") ++ c in
    joined before one five (u32_bytes 2) d e1
    (joined one two five (string (codes "__primaryGen")) c e2 (joined two three five (string (decimal generation)) b e3 (joined three four five (string (codes "__version")) a e4 e5)))
