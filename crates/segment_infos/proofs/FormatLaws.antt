-- The formats of the head of infos and of the records of segments.
use Rattle.std.proofs.Common.{◌≡◌, ℕ, suc, ◌^◌, ◌<◌, ◌≤◌, Bool, true, false, cond, List, [], ◌∷◌, ◌++◌, length, Some, None, refl, sym, ap, subst, ◌∙◌, arith, inl, inr}
use Rattle.std.specs.Prelude.{◌&&◌, ◌||◌, ◌==◌, nat_lt, nat_le}
use Rattle.std.specs.List.{flat_map, All}
use Rattle.std.proofs.lemmas.Bool.{cases_lt, ltb-true, leb-true, eqb-true, lt-ltb, eq-eqb, and_parts, or_cases}
use Rattle.std.proofs.lemmas.Bool.Decides.{nat_tests}
use Rattle.std.proofs.lemmas.List.Elements.{All-cons, All-nil}
use Rattle.body_forms.specs.Given.{AreBytes}
use Rattle.body_forms.specs.Format.{Read, ◌>>=◌, Takes, IsFormat, chain, ChainFits, then_at}
use Rattle.body_forms.specs.Numbers.{u32_bytes, u32_at, u64_bytes, u64_at}
use Rattle.body_forms.proofs.Formats.{bind_some, passed, read_is, pair_of, then_format, chain_format}
use Rattle.body_forms.proofs.NumberLaws.{u32_format, u64_format, Small, Large, two_large_then_two}
use Rattle.segment_infos.specs.declared.infos.SegRecord.{SegRecord}
use Rattle.segment_infos.specs.declared.reading.Head.{Head}
use Rattle.segment_infos.specs.Infos.{record_bytes, IsRecord, RecordFits}
use Rattle.segment_infos.specs.Reading.{Four, head_from, is_head, head_at, record_from, is_record, record_at, records_at}

-- a format whose values are made into others, which are tested besides
made_format : {X Y : Type 0} (s : X → List ℕ) (F : X → Type 0) (r : List ℕ → Read X) (to : X → Y) (from : Y → X) (test : Y → Bool) (P : Y → Type 0)
    → IsFormat s F r → ((y : Y) → to (from y) ≡ y) → ((x : X) → from (to x) ≡ x) → ((y : Y) → test y ≡ true → P y) → ((y : Y) → P y → test y ≡ true)
    → IsFormat (λ y. s (from y)) (λ y. P y × F (from y)) (λ bytes. r bytes >>= λ x. cond (test (to x.0)) (Some (to x.0, x.1)) None)
made_format {X} {Y} s F r to from test P a there back true_is is_true = record {
  again = λ y rest h.
      let e : test (to (from y)) ≡ true = ap test (there y) ∙ is_true y h.0 in
      ap (λ (z : Read X). z >>= λ x. cond (test (to x.0)) (Some (to x.0, x.1)) None) (a.again (from y) rest h.1) ∙ rw e (ap (λ (v : Y). Some (v, rest)) (there y));
  takes = λ bytes y rest fits e.
      let f = bind_some (r bytes) (λ x. cond (test (to x.0)) (Some (to x.0, x.1)) None) (y, rest) e in
      let p = passed (test (to f.0.0)) (Some (to f.0.0, f.0.1)) (y, rest) f.2 in
      let q = read_is (to f.0.0) y f.0.1 rest p.1 in
      let t = a.takes bytes f.0.0 f.0.1 fits f.1 in
      let same : f.0.0 ≡ from y = sym (back f.0.0) ∙ ap from q.0 in
      let whole : Takes bytes (s (from y)) rest × F (from y) = subst (λ (z : X × List ℕ). Takes bytes (s z.0) z.1 × F z.0) (pair_of f.0.0 (from y) f.0.1 rest same q.1) (t.0, t.1) in
      (whole.0, (subst P q.0 (true_is (to f.0.0) p.0), whole.1));
}

-- ---- the head

abbrev pub head_parts : Head → Four
head_parts head = (head.generation.0, (head.version.0, (head.counter, head.count)))

abbrev pub head_bytes : Head → List ℕ
head_bytes head = u64_bytes head.generation.0 ++ (u64_bytes head.version.0 ++ (u32_bytes head.counter ++ u32_bytes head.count))

pub record IsHead (head : Head) : Type 0 where
  pub generation : 0 < head.generation.0
  pub version : 0 < head.version.0
  pub few : head.count ≤ 256

le_true : (m n : ℕ) → m ≤ n → nat_le m n ≡ true
le_true m n h = grind (arith, nat_tests)

head_from_test : (head : Head) → is_head head ≡ true → IsHead head
head_from_test head h =
    let p = and_parts (nat_lt 0 head.generation.0) (nat_lt 0 head.version.0 && nat_le head.count 256) h in
    let q = and_parts (nat_lt 0 head.version.0) (nat_le head.count 256) p.1 in
    record { generation = ltb-true 0 head.generation.0 p.0; version = ltb-true 0 head.version.0 q.0; few = leb-true head.count 256 q.1 }

head_passes : (head : Head) → IsHead head → is_head head ≡ true
head_passes head h =
    let g : nat_lt 0 head.generation.0 ≡ true = lt-ltb 0 head.generation.0 h.generation in
    let v : nat_lt 0 head.version.0 ≡ true = lt-ltb 0 head.version.0 h.version in
    let f : nat_le head.count 256 ≡ true = le_true head.count 256 h.few in
    rw (g, v, f) refl

abbrev pub HeadFits : Head → Type 0
HeadFits head = (head.generation.0 < 2 ^ 64) × ((head.version.0 < 2 ^ 64) × ((head.counter < 2 ^ 32) × (head.count < 2 ^ 32)))

pub head_format : IsFormat head_bytes (λ head. IsHead head × HeadFits head) head_at
unfolding head_at
head_format =
    made_format (λ (p : Four). u64_bytes p.0 ++ (u64_bytes p.1.0 ++ (u32_bytes p.1.1.0 ++ u32_bytes p.1.1.1))) (λ p. Large p.0 × (Large p.1.0 × (Small p.1.1.0 × Small p.1.1.1)))
    (then_at u64_at (λ _. then_at u64_at (λ _. then_at u32_at (λ _. u32_at)))) head_from head_parts is_head IsHead two_large_then_two (λ _. refl) (λ _. refl) head_from_test head_passes

-- ---- records

abbrev record_parts : SegRecord → Four
record_parts r = (r.seg.0, (r.rows, (r.live_gen, r.live)))

record_from_test : (r : SegRecord) → is_record r ≡ true → IsRecord r
record_from_test r h =
    elim (or_cases (r.live == r.rows) (nat_lt r.live r.rows && nat_lt 0 r.live_gen) h) [
      | inl e ↦ let same : r.live ≡ r.rows = eqb-true r.live r.rows e in record { most = omega (arith, same); all = λ _. same }
      | inr e ↦
          let p = and_parts (nat_lt r.live r.rows) (nat_lt 0 r.live_gen) e in
          let less : r.live < r.rows = ltb-true r.live r.rows p.0 in
          let some : 0 < r.live_gen = ltb-true 0 r.live_gen p.1 in
          record { most = omega (arith, less); all = λ z. absurd (omega (arith, z, some)) }
    ]

record_passes : (r : SegRecord) → IsRecord r → is_record r ≡ true
record_passes r h = elim (cases_lt r.live r.rows) [
  | inl lt ↦
      elim (cases_lt 0 r.live_gen) [
        | inl some ↦ let a : nat_lt r.live r.rows ≡ true = lt-ltb r.live r.rows lt in let b : nat_lt 0 r.live_gen ≡ true = lt-ltb 0 r.live_gen some in rw (a, b) (or_true (r.live == r.rows))
        | inr none ↦ absurd (omega (arith, lt, h.all (omega (arith, none))))
      ]
  | inr ge ↦ let a : (r.live == r.rows) ≡ true = eq-eqb r.live r.rows (omega (arith, ge, h.most)) in rw a refl
]
  where
    or_true : (b : Bool) → (b || true) ≡ true
    or_true true = refl
    or_true false = refl

three_of_record : IsFormat (λ (p : ℕ × (ℕ × ℕ)). u32_bytes p.0 ++ (u64_bytes p.1.0 ++ u32_bytes p.1.1)) (λ p. Small p.0 × (Large p.1.0 × Small p.1.1)) (then_at u32_at (λ _. then_at u64_at (λ _. u32_at)))
three_of_record =
    then_format u32_bytes Small u32_at (λ _ p. u64_bytes p.0 ++ u32_bytes p.1) (λ _ p. Large p.0 × Small p.1) (λ _. then_at u64_at (λ _. u32_at)) u32_format
    (λ _ _. then_format u64_bytes Large u64_at (λ _. u32_bytes) (λ _. Small) (λ _. u32_at) u64_format (λ _ _. u32_format))

four_of_record : IsFormat (λ (p : Four). u64_bytes p.0 ++ (u32_bytes p.1.0 ++ (u64_bytes p.1.1.0 ++ u32_bytes p.1.1.1))) (λ p. Large p.0 × (Small p.1.0 × (Large p.1.1.0 × Small p.1.1.1)))
    (then_at u64_at (λ _. then_at u32_at (λ _. then_at u64_at (λ _. u32_at))))
four_of_record =
    then_format u64_bytes Large u64_at (λ _ p. u32_bytes p.0 ++ (u64_bytes p.1.0 ++ u32_bytes p.1.1)) (λ _ p. Small p.0 × (Large p.1.0 × Small p.1.1))
    (λ _. then_at u32_at (λ _. then_at u64_at (λ _. u32_at))) u64_format (λ _ _. three_of_record)

abbrev PartsFit : SegRecord → Type 0
PartsFit r = (r.seg.0 < 2 ^ 64) × ((r.rows < 2 ^ 32) × ((r.live_gen < 2 ^ 64) × (r.live < 2 ^ 32)))

record_format : IsFormat record_bytes (λ r. IsRecord r × PartsFit r) record_at
unfolding record_at record_bytes
record_format =
    made_format (λ (p : Four). u64_bytes p.0 ++ (u32_bytes p.1.0 ++ (u64_bytes p.1.1.0 ++ u32_bytes p.1.1.1))) (λ p. Large p.0 × (Small p.1.0 × (Large p.1.1.0 × Small p.1.1.1)))
    (then_at u64_at (λ _. then_at u32_at (λ _. then_at u64_at (λ _. u32_at)))) record_from record_parts is_record IsRecord four_of_record (λ _. refl) (λ _. refl) record_from_test record_passes

abbrev records_bytes : List SegRecord → List ℕ
records_bytes segs = chain (λ (_ : Unit {0}). record_bytes) (λ _. tt) tt segs

abbrev AllFit : List SegRecord → Type 0
AllFit segs = ChainFits (λ (_ : Unit {0}) r. IsRecord r × PartsFit r) (λ _. tt) tt segs

chained : (count : ℕ) → IsFormat records_bytes (λ segs. (length segs ≡ count) × AllFit segs) (records_at count)
unfolding records_at
chained count = chain_format (λ (_ : Unit {0}). record_bytes) (λ _ r. IsRecord r × PartsFit r) (λ _. record_at) (λ _. tt) (λ _. record_format) count tt

one_after_another : (segs : List SegRecord) → records_bytes segs ≡ flat_map record_bytes segs
one_after_another [] = refl
one_after_another (r ∷ segs) = ap (λ (x : List ℕ). record_bytes r ++ x) (one_after_another segs)

all_records : (segs : List SegRecord) → AllFit segs → All IsRecord segs
all_records [] h = All-nil IsRecord
all_records (r ∷ segs) h = All-cons IsRecord r segs h.0.0 (all_records segs h.1)

all_fitting : (segs : List SegRecord) → AllFit segs → All RecordFits segs
all_fitting [] h = All-nil RecordFits
all_fitting (r ∷ segs) h = All-cons RecordFits r segs (record { seg = h.0.1.0; rows = h.0.1.1.0; live_gen = h.0.1.1.1.0; live = h.0.1.1.1.1 }) (all_fitting segs h.1)

all_fit : (segs : List SegRecord) → All IsRecord segs → All RecordFits segs → AllFit segs
all_fit [] h k = tt
all_fit (r ∷ segs) h k =
    let f = k 0 r (omega arith) in
    ((h 0 r (omega arith), (f.seg, (f.rows, (f.live_gen, f.live)))), all_fit segs (λ i d lt. h (suc i) d (omega arith)) (λ i d lt. k (suc i) d (omega arith)))

-- records that were read
pub record AreRead (bytes : List ℕ) (count : ℕ) (segs : List SegRecord) (rest : List ℕ) : Type 0 where
  pub parts : bytes ≡ flat_map record_bytes segs ++ rest
  pub number : length segs ≡ count
  pub records : All IsRecord segs
  pub fit : All RecordFits segs

pub records_taken : (count : ℕ) (bytes : List ℕ) (segs : List SegRecord) (rest : List ℕ) → AreBytes bytes → records_at count bytes ≡ Some (segs, rest) → AreRead bytes count segs rest
records_taken count bytes segs rest fits e =
    let t = (chained count).takes bytes segs rest fits e in
    record { parts = t.0.parts ∙ ap (λ (x : List ℕ). x ++ rest) (one_after_another segs); number = t.1.0; records = all_records segs t.1.1; fit = all_fitting segs t.1.1 }

pub records_again : (segs : List SegRecord) (rest : List ℕ) → All IsRecord segs → All RecordFits segs → records_at (length segs) (flat_map record_bytes segs ++ rest) ≡ Some (segs, rest)
records_again segs rest h k = ap (λ (x : List ℕ). records_at (length segs) (x ++ rest)) (sym (one_after_another segs)) ∙ (chained (length segs)).again segs rest (refl, all_fit segs h k)
