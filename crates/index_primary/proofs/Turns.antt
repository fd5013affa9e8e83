-- The turns of a publish give the names that it writes and the records after it.
use Rattle.std.proofs.Common.{◌≡◌, ◌≢◌, ◌≤◌, ◌==◌, not, if◌then◌else◌, ◌<◌, ℕ, zero, suc, Bool, true, false, cond, List, [], ◌∷◌, Option, Some, None, refl, sym, ap, ◌∙◌, arith, inl, inr, map, length, true≢false}
use Rattle.std.specs.List.{AllByRecursion, AllZip, AllPairs, filter, zip, Contains}
use Rattle.std.proofs.lemmas.List.Elements.{recursion_from_All, All-contains_itself}
use Rattle.std.proofs.lemmas.Bool.Decides.{nat_tests}
use Rattle.file_names.specs.declared.composed.SegPart.TheVariants.{Docs, Post, Info}
use Rattle.nrt_base.specs.declared.numbers.SegNo.{SegNo}
use Rattle.live_bits.specs.LiveRows.{live_rows}
use Rattle.segment_infos.specs.Files.{files_of_segment}
use Rattle.seg_build.specs.Built.{record_of, File}
use Rattle.file_names.specs.Names.{part_name_of, live_name_of}
use Rattle.disk_model.specs.Disk.{Name}
use Rattle.segment_infos.specs.declared.infos.SegRecord.{SegRecord}
use Rattle.seg_reader.specs.Shown.{Shown}
use Rattle.index_primary.specs.Written.{names_of}
use Rattle.segment_steps.specs.Next.{Turn, record_after, is_changed, IsLiveFileAfter, next_live_gen}
use Rattle.index_primary.specs.NextNames.{Kept, IsIn, gen_after, raised_names, new_names, AreApart}
use Rattle.index_primary.specs.NextRecords.{IsNextRecord, IsFreshRecord}
use Rattle.index_primary.specs.Turns.{kept_of, SomeDie, SomeDieIn}

-- the live files are named as those that stay and change
pub raised_are : (g : ℕ) (ts : List Turn) (files : List File) → AllZip (IsLiveFileAfter g) (filter is_changed ts) files → names_of files ≡ raised_names g (map kept_of ts)
raised_are g [] [] zip = refl
raised_are g [] (f ∷ files) zip = absurd zip
raised_are g ((r, (s, None)) ∷ ts) files zip = raised_are g ts files zip
raised_are g ((r, (s, Some live)) ∷ ts) [] zip = absurd zip
raised_are g ((r, (s, Some live)) ∷ ts) (f ∷ files) zip = ap (λ (n : Name). n ∷ names_of files) zip.0.0 ∙ ap (λ (ns : List Name). live_name_of r.seg.0 (next_live_gen g r) ∷ ns) (raised_are g ts files zip.1)

one_after : (g : ℕ) (r : SegRecord) (s : Shown) (change : Option (List Bool)) → SomeDie r change → IsNextRecord g (kept_of (r, (s, change))) (record_after g (r, (s, change)))
one_after g r s None die = record { seg = refl; rows = refl; live_gen = refl; fell = λ e. absurd (true≢false (sym e)); same = λ e. refl }
one_after g r s (Some live) die = record { seg = refl; rows = refl; live_gen = refl; fell = λ e. die; same = λ e. absurd (true≢false e) }

-- the records after it are those of the segments that stay
pub kept_are : (g : ℕ) (ts : List Turn) → AllByRecursion SomeDieIn ts → AllZip (IsNextRecord g) (map kept_of ts) (map (record_after g) ts)
kept_are g [] die = tt
kept_are g ((r, (s, change)) ∷ ts) die = (one_after g r s change die.0, kept_are g ts die.1)

-- each record is that of one that stays
pub each_is : (g : ℕ) (ks : List Kept) (rs : List SegRecord) → AllZip (IsNextRecord g) ks rs → (r : SegRecord) → Contains rs r → (k : Kept) × (IsIn k ks × (r.seg.0 ≡ k.0.seg.0) × (r.live_gen ≡ gen_after g k))
each_is g [] [] zip r (k, lt, e) = absurd (omega (arith, lt))
each_is g [] (x ∷ rs) zip r c = absurd zip
each_is g (k ∷ ks) [] zip r (i, lt, e) = absurd (omega (arith, lt))
each_is g (k ∷ ks) (x ∷ rs) zip r (zero, lt, e) = (k, (inl refl, ap (λ (y : SegRecord). y.seg.0) (sym e) ∙ zip.0.seg, ap (λ (y : SegRecord). y.live_gen) (sym e) ∙ zip.0.live_gen))
each_is g (k ∷ ks) (x ∷ rs) zip r (suc i, lt, e) = let m = each_is g ks rs zip.1 r (i, omega (arith, lt), e) in (m.0, (inr m.1.0, m.1.1, m.1.2))

-- ---- the turns that stay are some of those of the infos
pub through : (P : SegRecord → Type 0) (p : Turn → Bool) (rs : List SegRecord) (ss : List Shown) (cs : List (Option (List Bool))) → AllByRecursion P rs → AllByRecursion (λ (k : Kept). P k.0) (map kept_of (filter p (zip rs (zip ss cs))))
through P p [] ss cs all = tt
through P p (r ∷ rs) [] cs all = tt
through P p (r ∷ rs) (s ∷ ss) [] all = tt
through P p (r ∷ rs) (s ∷ ss) (c ∷ cs) all = by (p (r, (s, c))) (through P p rs ss cs all.1)
  where
    by : (b : Bool) → AllByRecursion (λ (k : Kept). P k.0) (map kept_of (filter p (zip rs (zip ss cs)))) → AllByRecursion (λ (k : Kept). P k.0) (map kept_of (cond b ((r, (s, c)) ∷ filter p (zip rs (zip ss cs))) (filter p (zip rs (zip ss cs)))))
    by true more = (all.0, more)
    by false more = more

pub of_turns : (p : Turn → Bool) (rs : List SegRecord) (ss : List Shown) (cs : List (Option (List Bool))) → AllByRecursion (λ (k : Kept). Contains rs k.0) (map kept_of (filter p (zip rs (zip ss cs))))
of_turns p rs ss cs = through (Contains rs) p rs ss cs (recursion_from_All (Contains rs) rs (All-contains_itself rs))

abbrev Distinct : List SegRecord → Type 0
Distinct [] = Unit {0}
Distinct (r ∷ rs) = AllByRecursion (λ (s : SegRecord). r.seg.0 ≢ s.seg.0) rs × Distinct rs

distinct : (rs : List SegRecord) → AllPairs (λ r s. r.seg.0 ≢ s.seg.0) rs → Distinct rs
distinct [] pairs = tt
distinct (r ∷ rs) pairs = (
  recursion_from_All (λ (s : SegRecord). r.seg.0 ≢ s.seg.0) rs (λ k d lt. pairs zero (suc k) d (omega arith) (omega (arith, lt))),
  distinct rs (λ i j d lt in'. pairs (suc i) (suc j) d (omega (arith, lt)) (omega (arith, in'))),
)

apart_through : (p : Turn → Bool) (rs : List SegRecord) (ss : List Shown) (cs : List (Option (List Bool))) → Distinct rs → AreApart (map kept_of (filter p (zip rs (zip ss cs))))
apart_through p [] ss cs d = tt
apart_through p (r ∷ rs) [] cs d = tt
apart_through p (r ∷ rs) (s ∷ ss) [] d = tt
apart_through p (r ∷ rs) (s ∷ ss) (c ∷ cs) d = by (p (r, (s, c))) (apart_through p rs ss cs d.1)
  where
    by : (b : Bool) → AreApart (map kept_of (filter p (zip rs (zip ss cs)))) → AreApart (map kept_of (cond b ((r, (s, c)) ∷ filter p (zip rs (zip ss cs))) (filter p (zip rs (zip ss cs)))))
    by true more = (through (λ (x : SegRecord). r.seg.0 ≢ x.seg.0) p rs ss cs d.0, more)
    by false more = more

pub apart_turns : (p : Turn → Bool) (rs : List SegRecord) (ss : List Shown) (cs : List (Option (List Bool))) → AllPairs (λ r s. r.seg.0 ≢ s.seg.0) rs → AreApart (map kept_of (filter p (zip rs (zip ss cs))))
apart_turns p rs ss cs pairs = apart_through p rs ss cs (distinct rs pairs)

-- ---- the new segment
pub new_named : (seg : SegNo) (live : List Bool) → files_of_segment (record_of seg live) ≡ new_names (Some (seg.0, not (live_rows live == length live)))
new_named seg live = by (live_rows live == length live)
  where
    by : (b : Bool) → part_name_of seg.0 Docs ∷ part_name_of seg.0 Post ∷ part_name_of seg.0 Info ∷ (if (if b then 0 else 1) == 0 then [] else live_name_of seg.0 (if b then 0 else 1) ∷ [])
        ≡ part_name_of seg.0 Docs ∷ part_name_of seg.0 Post ∷ part_name_of seg.0 Info ∷ (if not b then live_name_of seg.0 1 ∷ [] else [])
    by true = refl
    by false = refl

pub new_record : (seg : SegNo) (live : List Bool) → live_rows live ≤ length live → IsFreshRecord (seg.0, not (live_rows live == length live)) (record_of seg live)
new_record seg live most = record { seg = refl; live_gen = gen (live_rows live == length live); fewer = fewer (live_rows live == length live) refl; all = all (live_rows live == length live) refl }
  where
    gen : (b : Bool) → ◌≡◌ {A = ℕ} (if b then 0 else 1) (if not b then 1 else 0)
    gen true = refl
    gen false = refl

    fewer : (b : Bool) → (live_rows live == length live) ≡ b → not b ≡ true → live_rows live < length live
    fewer true e h = absurd (true≢false (sym h))
    fewer false e h = less (live_rows live) (length live) most e
      where
        less : (m n : ℕ) → m ≤ n → (m == n) ≡ false → m < n
        less m n le apart = grind (arith, nat_tests, le, apart)

    all : (b : Bool) → (live_rows live == length live) ≡ b → not b ≡ false → live_rows live ≡ length live
    all true e h = same (live_rows live) (length live) e
      where
        same : (m n : ℕ) → (m == n) ≡ true → m ≡ n
        same m n e = grind (arith, nat_tests, e)
    all false e h = absurd (true≢false h)
