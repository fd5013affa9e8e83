-- The next infos can be spelled, and no name is written twice.
use Rattle.std.proofs.Common.{◌≡◌, ◌≢◌, ℕ, zero, suc, ◌+◌, ◌^◌, ◌<◌, ◌≤◌, Bool, true, false, cond, List, [], ◌∷◌, ◌++◌, length, get_or, map, Option, Some, None, refl, sym, ap, subst, ◌∙◌, arith}
use Rattle.std.specs.Prelude.{◌==◌}
use Rattle.std.specs.List.{AllZip, AllPairs, AllByRecursion, filter, Contains}
use Rattle.std.specs.List.Sorted.{IsStrictlySortedBy}
use Rattle.std.specs.Ordering.{nat_cmp}
use Rattle.std.specs.Cmp.Lexicographic.{slice_cmp}
use Rattle.std.specs.declared.cmp.Ordering.TheVariants.{Less}
use Rattle.std.proofs.lemmas.Map.Keys.{sorted_head, sorted_tail}
use Rattle.std.proofs.lemmas.List.{length-append, length-map, append-nil}
use Rattle.std.proofs.lemmas.List.Elements.{All-from_recursion}
use Rattle.std.proofs.lemmas.List.Kept.{AllPairs-cons}
use Rattle.file_names.specs.Names.{part_name_of, live_name_of}
use Rattle.file_names.specs.declared.composed.SegPart.{SegPart}
use Rattle.file_names.specs.declared.composed.SegPart.TheVariants.{Docs, Post, Info}
use Rattle.nrt_base.specs.declared.doc.Doc.{Doc}
use Rattle.nrt_base.specs.declared.numbers.SegNo.{SegNo}
use Rattle.file_names.proofs.NameLaws.{live_name_apart, part_name_not_live}
use Rattle.disk_model.specs.Disk.{Name}
use Rattle.disk_model.proofs.CellLemmas.{never_less}
use Rattle.live_bits.specs.LiveRows.{live_rows}
use Rattle.segment_infos.specs.declared.infos.SegRecord.{SegRecord}
use Rattle.seg_merge.specs.Given.{Shown, SegFiles, File, record_of, live_file_of, IsBuilt}
use Rattle.seg_merge.proofs.Given.{names_ascend, names_are}
use Rattle.segment_steps.specs.declared.flushing.FlushWork.{FlushWork}
use Rattle.segment_steps.specs.declared.next.NextSegments.{NextSegments}
use Rattle.segment_steps.specs.Next.{Turn, turns, next_live_gen, record_after, stays, staying, is_changed, IsLiveFileAfter, new_records, new_files, IsBuiltWork, IsNextOf}
use Rattle.segment_steps.proofs.NextNames.{IsRaised, live_files_raised}

-- ---- what holds of each record's number holds of each next one's

abbrev EachNumber : (ℕ → Type 0) → List SegRecord → Type 0
EachNumber P rs = AllByRecursion (λ (r : SegRecord). P r.seg.0) rs

number_step : (P : ℕ → Type 0) (g : ℕ) (b : Bool) (r : SegRecord) (s : Shown) (c : Option (List Bool)) (ts : List Turn) → P r.seg.0 → EachNumber P (map (record_after g) ts) → EachNumber P (map (record_after g) (cond b ((r, (s, c)) ∷ ts) ts))
number_step P g false r s c ts p all = all
number_step P g true r s None ts p all = (p, all)
number_step P g true r s (Some live) ts p all = (p, all)

each_number : (P : ℕ → Type 0) (g : ℕ) (held : List SegNo) (rs : List SegRecord) (ss : List Shown) (cs : List (Option (List Bool))) → EachNumber P rs → EachNumber P (map (record_after g) (staying g held (turns rs ss cs)))
each_number P g held [] ss cs all = tt
each_number P g held (r ∷ rs) [] cs all = tt
each_number P g held (r ∷ rs) (s ∷ ss) [] all = tt
each_number P g held (r ∷ rs) (s ∷ ss) (c ∷ cs) all = number_step P g (stays g held (r, (s, c))) r s c (staying g held (turns rs ss cs)) all.0 (each_number P g held rs ss cs all.1)

-- no two records have one number
abbrev pub HaveOwnNumbers : List SegRecord → Type 0
HaveOwnNumbers [] = Unit {0}
HaveOwnNumbers (r ∷ rs) = EachNumber (λ n. r.seg.0 ≢ n) rs × HaveOwnNumbers rs

own_step : (g : ℕ) (b : Bool) (r : SegRecord) (s : Shown) (c : Option (List Bool)) (ts : List Turn) → EachNumber (λ n. r.seg.0 ≢ n) (map (record_after g) ts) → HaveOwnNumbers (map (record_after g) ts) → HaveOwnNumbers (map (record_after g) (cond b ((r, (s, c)) ∷ ts) ts))
own_step g false r s c ts apart own = own
own_step g true r s None ts apart own = (apart, own)
own_step g true r s (Some live) ts apart own = (apart, own)

own_kept : (g : ℕ) (held : List SegNo) (rs : List SegRecord) (ss : List Shown) (cs : List (Option (List Bool))) → HaveOwnNumbers rs → HaveOwnNumbers (map (record_after g) (staying g held (turns rs ss cs)))
own_kept g held [] ss cs own = tt
own_kept g held (r ∷ rs) [] cs own = tt
own_kept g held (r ∷ rs) (s ∷ ss) [] own = tt
own_kept g held (r ∷ rs) (s ∷ ss) (c ∷ cs) own =
    own_step g (stays g held (r, (s, c))) r s c (staying g held (turns rs ss cs)) (each_number (λ n. r.seg.0 ≢ n) g held rs ss cs own.0) (own_kept g held rs ss cs own.1)

own_last : (rs : List SegRecord) (last : SegRecord) → HaveOwnNumbers rs → EachNumber (λ n. n ≢ last.seg.0) rs → HaveOwnNumbers (rs ++ last ∷ [])
own_last [] last own other = (tt, tt)
own_last (r ∷ rs) last own other = (both rs own.0, own_last rs last own.1 other.1)
  where
    both : (qs : List SegRecord) → EachNumber (λ n. r.seg.0 ≢ n) qs → EachNumber (λ n. r.seg.0 ≢ n) (qs ++ last ∷ [])
    both [] all = (other.0, tt)
    both (q ∷ qs) all = (all.0, both qs all.1)

-- the new segment's number is none of the infos'
abbrev pub IsUnused : List SegRecord → Option SegFiles → Type 0
IsUnused rs None = Unit {0}
IsUnused rs (Some built) = EachNumber (λ n. n ≢ built.seg.0) rs

next_own : (g : ℕ) (held : List SegNo) (rs : List SegRecord) (ss : List Shown) (cs : List (Option (List Bool))) (new : Option SegFiles) → HaveOwnNumbers rs → IsUnused rs new → HaveOwnNumbers (map (record_after g) (staying g held (turns rs ss cs)) ++ new_records new)
next_own g held rs ss cs None own unused =
    let kept = map (record_after g) (staying g held (turns rs ss cs)) in
    subst HaveOwnNumbers (sym (append-nil kept)) (own_kept g held rs ss cs own)
next_own g held rs ss cs (Some built) own unused =
    own_last (map (record_after g) (staying g held (turns rs ss cs))) (record_of built.seg built.live) (own_kept g held rs ss cs own) (each_number (λ n. n ≢ built.seg.0) g held rs ss cs unused)

-- ---- between the two forms

pub own_pairs : (rs : List SegRecord) → HaveOwnNumbers rs → AllPairs (λ r s. r.seg.0 ≢ s.seg.0) rs
own_pairs [] own = λ i j d lt in'. absurd (omega (arith, in'))
own_pairs (r ∷ rs) own = AllPairs-cons (λ (a b : SegRecord). a.seg.0 ≢ b.seg.0) r rs (All-from_recursion (λ (s : SegRecord). r.seg.0 ≢ s.seg.0) rs own.0) (own_pairs rs own.1)

pub pairs_own : (rs : List SegRecord) → AllPairs (λ r s. r.seg.0 ≢ s.seg.0) rs → HaveOwnNumbers rs
pairs_own [] all = tt
pairs_own (r ∷ rs) all = (apart rs (λ i d lt. all 0 (suc i) d (omega arith) (omega (arith, lt))), pairs_own rs (λ i j d lt in'. all (suc i) (suc j) d (omega (arith, lt)) (omega (arith, in'))))
  where
    apart : (qs : List SegRecord) → ((i : ℕ) (d : SegRecord) → i < length qs → r.seg.0 ≢ (get_or qs i d).seg.0) → EachNumber (λ n. r.seg.0 ≢ n) qs
    apart [] all = tt
    apart (q ∷ qs) all = (all 0 q (omega arith), apart qs (λ i d lt. all (suc i) d (omega (arith, lt))))

-- THE NEXT RECORDS have numbers of their own
pub next_apart : (g : ℕ) (held : List SegNo) (rs : List SegRecord) (ss : List Shown) (work : FlushWork) (made : NextSegments) → IsNextOf g rs ss work held made → AllPairs (λ r s. r.seg.0 ≢ s.seg.0) rs → IsUnused rs work.files
    → AllPairs (λ r s. r.seg.0 ≢ s.seg.0) made.records
next_apart g held rs ss work made is apart unused =
    own_pairs made.records (subst HaveOwnNumbers (sym is.records_are) (next_own g held rs ss work.live work.files (pairs_own rs apart) unused))

-- ---- how many

kept_few : (p : Turn → Bool) (ts : List Turn) → length (filter p ts) ≤ length ts
kept_few p [] = omega arith
kept_few p (t ∷ ts) = by_test (p t) (kept_few p ts)
  where
    by_test : (b : Bool) → length (filter p ts) ≤ length ts → length (cond b (t ∷ filter p ts) (filter p ts)) ≤ length (t ∷ ts)
    by_test true le = omega (arith, le)
    by_test false le = omega (arith, le)

turns_few : (rs : List SegRecord) (ss : List Shown) (cs : List (Option (List Bool))) → length (turns rs ss cs) ≤ length rs
turns_few [] ss cs = omega arith
turns_few (r ∷ rs) [] cs = omega arith
turns_few (r ∷ rs) (s ∷ ss) [] = omega arith
turns_few (r ∷ rs) (s ∷ ss) (c ∷ cs) = omega (arith, turns_few rs ss cs)

-- AT MOST one record more, and none more where there is no new segment
pub next_few : (g : ℕ) (held : List SegNo) (rs : List SegRecord) (ss : List Shown) (work : FlushWork) (made : NextSegments) → IsNextOf g rs ss work held made → length made.records ≤ length rs + length (new_records work.files)
next_few g held rs ss work made is =
    let ts = turns rs ss work.live in
    omega (arith, ap length is.records_are, length-append (map (record_after g) (staying g held ts)) (new_records work.files), length-map (staying g held ts) (record_after g), kept_few (stays g held) ts, turns_few rs ss work.live)

-- ---- no name is written twice

-- a number and a live generation of 64 bits
pub record IsSmall (g : ℕ) (r : SegRecord) : Type 0 where
  pub seg : r.seg.0 < 2 ^ 64
  pub live_gen : next_live_gen g r < 2 ^ 64

abbrev pub AreAllOther : Name → List File → Type 0
AreAllOther name files = AllByRecursion (λ (f : File). name ≢ f.0) files

-- no two files have one name
abbrev pub HaveOwnNames : List File → Type 0
HaveOwnNames [] = Unit {0}
HaveOwnNames (f ∷ files) = AreAllOther f.0 files × HaveOwnNames files

number_at : (P : ℕ → Type 0) (rs : List SegRecord) (r : SegRecord) → EachNumber P rs → Contains rs r → P r.seg.0
number_at P [] r all (k, lt, e) = absurd (omega (arith, lt))
number_at P (q ∷ rs) r all (zero, lt, e) = subst (λ (x : SegRecord). P x.seg.0) e all.0
number_at P (q ∷ rs) r all (suc k, lt, e) = number_at P rs r all.1 (k, omega (arith, lt), e)

small_at : (g : ℕ) (rs : List SegRecord) (r : SegRecord) → AllByRecursion (IsSmall g) rs → Contains rs r → IsSmall g r
small_at g [] r all (k, lt, e) = absurd (omega (arith, lt))
small_at g (q ∷ rs) r all (zero, lt, e) = subst (IsSmall g) e all.0
small_at g (q ∷ rs) r all (suc k, lt, e) = small_at g rs r all.1 (k, omega (arith, lt), e)

-- a live file of another number than each of the infos' is none of their next ones
other_live : (g seg live_gen : ℕ) (rs : List SegRecord) (files : List File) (name : Name) → name ≡ live_name_of seg live_gen → seg < 2 ^ 64 → live_gen < 2 ^ 64 → EachNumber (λ n. seg ≢ n) rs → AllByRecursion (IsSmall g) rs
    → AllByRecursion (λ (f : File). IsRaised g rs f.0) files → AreAllOther name files
other_live g seg live_gen rs [] name e small gen_small apart all raised = tt
other_live g seg live_gen rs (f ∷ files) name e small gen_small apart all raised = (
  λ same. number_at (λ n. seg ≢ n) rs raised.0.of apart raised.0.there
      (live_name_apart seg raised.0.of.seg.0 live_gen (next_live_gen g raised.0.of) small (small_at g rs raised.0.of all raised.0.there).seg gen_small (small_at g rs raised.0.of all raised.0.there).live_gen (sym e ∙ same ∙ raised.0.is)).0,
  other_live g seg live_gen rs files name e small gen_small apart all raised.1,
)

other_part : (g seg : ℕ) (part : SegPart) (rs : List SegRecord) (files : List File) (name : Name) → name ≡ part_name_of seg part → seg < 2 ^ 64 → AllByRecursion (IsSmall g) rs → AllByRecursion (λ (f : File). IsRaised g rs f.0) files → AreAllOther name files
other_part g seg part rs [] name e small all raised = tt
other_part g seg part rs (f ∷ files) name e small all raised = (
  λ same. part_name_not_live seg raised.0.of.seg.0 (next_live_gen g raised.0.of) part small (small_at g rs raised.0.of all raised.0.there).seg (small_at g rs raised.0.of all raised.0.there).live_gen (sym e ∙ same ∙ raised.0.is),
  other_part g seg part rs files name e small all raised.1,
)

own_names_step : (g : ℕ) (b : Bool) (r : SegRecord) (rs : List SegRecord) (s : Shown) (c : Option (List Bool)) (ts : List Turn) (files : List File) → IsSmall g r → AllByRecursion (IsSmall g) rs → EachNumber (λ n. r.seg.0 ≢ n) rs
    → AllZip (IsLiveFileAfter g) (filter is_changed (cond b ((r, (s, c)) ∷ ts) ts)) files
    → ((others : List File) → AllZip (IsLiveFileAfter g) (filter is_changed ts) others → HaveOwnNames others × AllByRecursion (λ (f : File). IsRaised g rs f.0) others) → HaveOwnNames files
own_names_step g false r rs s c ts files small all apart zip more = (more files zip).0
own_names_step g true r rs s None ts files small all apart zip more = (more files zip).0
own_names_step g true r rs s (Some live) ts [] small all apart zip more = tt
own_names_step g true r rs s (Some live) ts (f ∷ files) small all apart zip more =
    let rest = more files zip.1 in
    (other_live g r.seg.0 (next_live_gen g r) rs files f.0 zip.0.0 small.seg small.live_gen apart all rest.1, rest.0)

pub own_live_names : (g : ℕ) (held : List SegNo) (rs : List SegRecord) (ss : List Shown) (cs : List (Option (List Bool))) (files : List File) → HaveOwnNumbers rs → AllByRecursion (IsSmall g) rs
    → AllZip (IsLiveFileAfter g) (filter is_changed (staying g held (turns rs ss cs))) files → HaveOwnNames files
own_live_names g held [] ss cs [] own all zip = tt
own_live_names g held [] ss cs (f ∷ files) own all zip = absurd zip
own_live_names g held (r ∷ rs) [] cs [] own all zip = tt
own_live_names g held (r ∷ rs) [] cs (f ∷ files) own all zip = absurd zip
own_live_names g held (r ∷ rs) (s ∷ ss) [] [] own all zip = tt
own_live_names g held (r ∷ rs) (s ∷ ss) [] (f ∷ files) own all zip = absurd zip
own_live_names g held (r ∷ rs) (s ∷ ss) (c ∷ cs) files own all zip =
    own_names_step g (stays g held (r, (s, c))) r rs s c (staying g held (turns rs ss cs)) files all.0 all.1 own.0 zip
    (λ others more. (own_live_names g held rs ss cs others own.1 all.1 more, live_files_raised g held rs ss cs others more))

-- ---- with the files of the new segment

abbrev names_in : List File → List Name
names_in files = map (λ (f : File). f.0) files

sorted_own : (files : List File) → IsStrictlySortedBy (slice_cmp nat_cmp) (names_in files) → HaveOwnNames files
sorted_own [] up = tt
sorted_own (f ∷ files) up = (apart files (sorted_head (slice_cmp nat_cmp) f.0 (names_in files) up), sorted_own files (sorted_tail (slice_cmp nat_cmp) f.0 (names_in files) up))
  where
    apart : (others : List File) → AllByRecursion (λ (y : Name). slice_cmp nat_cmp f.0 y ≡ Less) (names_in others) → AreAllOther f.0 others
    apart [] all = tt
    apart (o ∷ others) all = (λ same. never_less f.0 (subst (λ (y : Name). slice_cmp nat_cmp f.0 y ≡ Less) (sym same) all.0), apart others all.1)

both_own : (a b : List File) → HaveOwnNames a → HaveOwnNames b → AllByRecursion (λ (f : File). AreAllOther f.0 b) a → HaveOwnNames (a ++ b)
both_own [] b p q cross = q
both_own (f ∷ a) b p q cross = (others a p.0, both_own a b p.1 q cross.1)
  where
    others : (xs : List File) → AreAllOther f.0 xs → AreAllOther f.0 (xs ++ b)
    others [] all = cross.0
    others (x ∷ xs) all = (all.0, others xs all.1)

flipped : (n : ℕ) (rs : List SegRecord) → EachNumber (λ m. m ≢ n) rs → EachNumber (λ m. n ≢ m) rs
flipped n [] all = tt
flipped n (r ∷ rs) all = (λ e. all.0 (sym e), flipped n rs all.1)

new_cross : (g : ℕ) (rs : List SegRecord) (live_files : List File) (built : SegFiles) (docs : List Doc) → IsBuilt (record_of built.seg built.live) built.files docs built.live → built.seg.0 < 2 ^ 64 → IsUnused rs (Some built) → AllByRecursion (IsSmall g) rs
    → AllByRecursion (λ (f : File). IsRaised g rs f.0) live_files → AllByRecursion (λ (f : File). AreAllOther f.0 live_files) built.files
new_cross g rs live_files built docs is small unused all raised =
    subst (AllByRecursion (λ (f : File). AreAllOther f.0 live_files)) (sym is.named) (
      other_part g n Docs rs live_files (part_name_of n Docs) refl small all raised,
      (
        other_part g n Post rs live_files (part_name_of n Post) refl small all raised,
        (other_part g n Info rs live_files (part_name_of n Info) refl small all raised, last is.parts.live),
      ),
    )
  where
    n : ℕ
    n = built.seg.0

    first_fits : (b : Bool) → cond b 0 1 < 2 ^ 64
    first_fits true = omega arith
    first_fits false = omega arith

    last : (live : Option (List ℕ)) → AllByRecursion (λ (f : File). AreAllOther f.0 live_files) (live_file_of (record_of built.seg built.live) live)
    last None = tt
    last (Some bytes) = (
      other_live g built.seg.0 (record_of built.seg built.live).live_gen rs live_files (live_name_of built.seg.0 (record_of built.seg built.live).live_gen) refl small (first_fits (live_rows built.live == length built.live))
          (flipped built.seg.0 rs unused) all raised,
      tt,
    )

new_own : (built : SegFiles) (docs : List Doc) → IsBuilt (record_of built.seg built.live) built.files docs built.live → HaveOwnNames built.files
new_own built docs is =
    let r = record_of built.seg built.live in
    sorted_own built.files (subst (IsStrictlySortedBy (slice_cmp nat_cmp)) (sym (ap names_in is.named ∙ names_are r is.parts is.reads.live_file)) (names_ascend r))

abbrev pub IsSmallNew : Option SegFiles → Type 0
IsSmallNew None = Unit {0}
IsSmallNew (Some built) = built.seg.0 < 2 ^ 64

all_own : (g : ℕ) (rs : List SegRecord) (live_files : List File) (new : Option SegFiles) → IsBuiltWork new → IsSmallNew new → IsUnused rs new → AllByRecursion (IsSmall g) rs → AllByRecursion (λ (f : File). IsRaised g rs f.0) live_files → HaveOwnNames live_files
    → HaveOwnNames (new_files new ++ live_files)
all_own g rs live_files None built small unused all raised own = own
all_own g rs live_files (Some new) built small unused all raised own = both_own new.files live_files (new_own new built.0 built.1) own (new_cross g rs live_files new built.0 built.1 small unused all raised)

-- NO NAME is written twice
pub next_once : (g : ℕ) (held : List SegNo) (rs : List SegRecord) (ss : List Shown) (work : FlushWork) (made : NextSegments) → IsNextOf g rs ss work held made → IsBuiltWork work.files → IsSmallNew work.files → IsUnused rs work.files
    → AllPairs (λ r s. r.seg.0 ≢ s.seg.0) rs → AllByRecursion (IsSmall g) rs → HaveOwnNames made.files
next_once g held rs ss work made is built small unused apart all =
    subst HaveOwnNames (sym is.files_are)
    (all_own g rs is.live_files work.files built small unused all (live_files_raised g held rs ss work.live is.live_files is.changes) (own_live_names g held rs ss work.live is.live_files (pairs_own rs apart) all is.changes))
