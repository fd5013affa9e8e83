-- Reading a segment.
use Rattle.std.proofs.Common.{◌≡◌, ℕ, zero, suc, ◌+◌, ◌<◌, ◌≤◌, Bool, List, [], ◌∷◌, length, Option, Some, None, is_some, refl, sym, ap, subst, ◌∙◌, arith, ◌⊎◌, inl, inr, Result, Ok, Err, ◌++◌, take, drop, get_or, drop-cons, add-one}
use Rattle.std.specs.Prelude.{slice_get}
use Rattle.seg_reader.specs.declared.parts.SegFault.{SegFault}
use Rattle.seg_reader.specs.declared.parts.SegFault.TheVariants.{Memory as SegMemory, File, Disagrees}
use Rattle.seg_reader.specs.Faults.{IsSegmentFault}
use Rattle.replica_opening.specs.declared.reading.LoadFault.{LoadFault}
use Rattle.replica_opening.specs.declared.reading.LoadFault.TheVariants.{Refused}
use Rattle.nrt_base.specs.declared.numbers.SegNo.{SegNo}
use Rattle.replica_opening.specs.Reading.{IsReadCutOff, IsReadRefusal, IsReadCutOffOr, refusal_of}
use Rattle.std.specs.List.{AllZip, Contains, flat_map}
use Rattle.std.proofs.lemmas.List.{take-append-drop, take_more}
use Rattle.std.proofs.lemmas.List.Elements.{Contains-append_left, Contains-append_right}
use Rattle.segment_infos.specs.Files.{files_of_segment}
use Rattle.disk_model.specs.Disk.{reads_of, Name, Content, Cells}
use Rattle.replica_opening.specs.declared.fault.StartFault.{StartFault}
use Rattle.replica_opening.specs.declared.fault.StartFault.TheVariants.{Memory, Recover, Segment, Failed}
use Rattle.replica_opening.specs.Readers.{AreReaders, IsRefusedIn, IsFirstRefusedSegment}
use Rattle.replica_opening.specs.Opening.{IsReadNext, IsRefusedNext, IsRefusedAmong, IsStartCutOff, IsCutOffOr}
use Rattle.file_deleter.specs.Holdings.{IsThere}
use Rattle.seg_reader.specs.Given.{live_rows}
use Rattle.segment_infos.specs.declared.infos.SegRecord.{SegRecord}
use Rattle.segment_infos.specs.Infos.{IsRecord}
use Rattle.seg_reader.specs.declared.parts.SegParts.{SegParts}
use Rattle.seg_reader.specs.Shown.{Shown}
use Rattle.seg_reader.specs.Files.{AreLiveRowsOf, IsSegmentOf}
use Rattle.seg_reader.proofs.StandingLaws.{one_parts}
use Rattle.seg_reader.proofs.Given.{all_live}
use Rattle.nrt_base.proofs.Plain.{ok_never_err, same_err}
use Rattle.seg_reader.specs.Stands.{IsLiveFileIn, ArePartsIn, IsSegmentIn}

pub there_along : (a b : Cells) (name q : Name) → b ≡ a → name ≡ q → IsThere a q → IsThere b name
there_along a b name q e f h = ap (λ (c : Cells). is_some (c name).now) e ∙ ap (λ (n : Name). is_some (a n).now) f ∙ h

live_is : (reads : Name → Content) (r : SegRecord) (live : Option (List ℕ)) (rows : List Bool) → IsRecord r → IsLiveFileIn reads r live → AreLiveRowsOf live r rows → live_rows rows ≡ r.live
live_is reads r None rows is none all = ap live_rows all ∙ all_live r.rows ∙ sym (is.all none)
live_is reads r (Some bytes) rows is there file = file.2

pub segment_is : (reads : Name → Content) (r : SegRecord) (parts : SegParts) (shown : Shown) → IsRecord r → ArePartsIn reads r parts → IsSegmentOf parts r shown → IsSegmentIn reads r shown
segment_is reads r parts shown is files segment = record { parts = parts; files = files; segment = segment; live = live_is reads r parts.live shown.live is files.live segment.live }

-- ---- the segments of a point
pub files_among : (records : List SegRecord) (i : ℕ) (d : SegRecord) (q : Name) → i < length records → Contains (files_of_segment (get_or records i d)) q → Contains (flat_map files_of_segment records) q
files_among [] i d q lt h = absurd (omega (arith, lt))
files_among (r ∷ rs) zero d q lt h = Contains-append_left (files_of_segment r) (flat_map files_of_segment rs) q h
files_among (r ∷ rs) (suc i) d q lt h = Contains-append_right (files_of_segment r) (flat_map files_of_segment rs) q (files_among rs i d q (omega (arith, lt)) h)

zip_more : {A B : Type 0} (R : A → B → Type 0) (xs : List A) (ys : List B) (x : A) (y : B) → AllZip R xs ys → R x y → AllZip R (xs ++ x ∷ []) (ys ++ y ∷ [])
zip_more R [] [] x y h here = (here, tt)
zip_more R [] (b ∷ ys) x y h here = absurd h
zip_more R (a ∷ xs) [] x y h here = absurd h
zip_more R (a ∷ xs) (b ∷ ys) x y h here = (h.0, zip_more R xs ys x y h.1 here)

pub read_more : (a b : Cells) (records : List SegRecord) (i : ℕ) (d : SegRecord) (old new : List Shown) → b ≡ a → i < length records → AreReaders (reads_of a) (take i records) old
    → IsReadNext (reads_of b) (get_or records i d) old new → AreReaders (reads_of a) (take (i + 1) records) new
read_more a b records i d old new same lt was h =
    subst (λ (rs : List SegRecord). AreReaders (reads_of a) rs new) (sym (take_more records i d lt))
    (subst (λ (ss : List Shown). AreReaders (reads_of a) (take i records ++ get_or records i d ∷ []) ss) (sym h.more)
    (zip_more (IsSegmentIn (reads_of a)) (take i records) old (get_or records i d) h.shown was (subst (λ (c : Cells). IsSegmentIn (reads_of c) (get_or records i d) h.shown) same h.segment)))

pub first_refused : (a b : Cells) (records : List SegRecord) (i : ℕ) (d : SegRecord) (old : List Shown) (fault : StartFault) → b ≡ a → i < length records → AreReaders (reads_of a) (take i records) old
    → IsRefusedNext (reads_of b) (get_or records i d) fault → IsRefusedAmong (reads_of a) records fault
first_refused a b records i d old Memory same lt was h = tt
first_refused a b records i d old Failed same lt was h = tt
first_refused a b records i d old (Recover fault) same lt was h = absurd h
first_refused a b records i d old (Segment seg fault) same lt was h = (
  get_or records i d,
  h.0,
  record {
    front = take i records;
    rest = drop (i + 1) records;
    are = sym (take-append-drop i records) ∙ ap (λ (t : List SegRecord). take i records ++ t) (drop-cons records i d lt ∙ ap (λ n. get_or records i d ∷ drop n records) (sym (add-one i)));
    segs = old;
    read = was;
    refused = subst (λ (c : Cells). IsRefusedIn (reads_of c) (get_or records i d) fault) same h.1;
  },
)

-- ---- a segment that is not read
pub refused_is : (reads : Name → Content) (r : SegRecord) (parts : SegParts) (fault : SegFault) (why : LoadFault) → ArePartsIn reads r parts → (fault ≡ SegMemory) ⊎ IsSegmentFault parts r fault → why ≡ refusal_of fault → IsReadRefusal reads r why
refused_is reads r parts fault why files is e = subst (IsReadRefusal reads r) (sym e) (by fault is)
  where
    by : (f : SegFault) → (f ≡ SegMemory) ⊎ IsSegmentFault parts r f → IsReadRefusal reads r (refusal_of f)
    by SegMemory h = tt
    by (File part f) (inl h) = cc
    by (File part f) (inr h) = record { parts = parts; files = files; refused = h }
    by (Disagrees part want found) (inl h) = cc
    by (Disagrees part want found) (inr h) = record { parts = parts; files = files; refused = h }

-- where files are those of a segment, only want of memory and a failure of the disk come
pub cut_off : (reads : Name → Content) (r : SegRecord) (parts : SegParts) (shown : Shown) (fault : SegFault) (why : LoadFault) → ArePartsIn reads r parts → IsSegmentIn reads r shown
    → (IsSegmentOf parts r shown → ◌⊎◌ (◌≡◌ {A = Result Shown SegFault} (Err fault) (Err SegMemory)) (◌≡◌ {A = Result Shown SegFault} (Err fault) (Ok shown))) → why ≡ refusal_of fault → IsReadCutOff why
cut_off reads r parts shown fault why files is each e =
    subst IsReadCutOff (sym e) (by fault (each (subst (λ (p : SegParts). IsSegmentOf p r shown) (one_parts reads r is.parts parts is.files files) is.segment)))
  where
    by : (f : SegFault) → ◌⊎◌ (◌≡◌ {A = Result Shown SegFault} (Err f) (Err SegMemory)) (◌≡◌ {A = Result Shown SegFault} (Err f) (Ok shown)) → IsReadCutOff (refusal_of f)
    by SegMemory h = tt
    by (File part f) (inl h) = cc
    by (File part f) (inr h) = cc
    by (Disagrees part want found) (inl h) = cc
    by (Disagrees part want found) (inr h) = cc

-- where files are refused, the refusal is answered, or the reading was cut off
pub refused_so : (reads : Name → Content) (r : SegRecord) (parts : SegParts) (due given : SegFault) (why : LoadFault) → ArePartsIn reads r parts → IsRefusedIn reads r due
    → (IsSegmentFault parts r due → ◌⊎◌ (◌≡◌ {A = Result Shown SegFault} (Err given) (Err SegMemory)) (◌≡◌ {A = Result Shown SegFault} (Err given) (Err due))) → why ≡ refusal_of given → IsReadCutOffOr due why
refused_so reads r parts due given why files is each e =
    let refused : IsSegmentFault parts r due = subst (λ (p : SegParts). IsSegmentFault p r due) (one_parts reads r is.parts parts is.files files) is.refused in
    subst (IsReadCutOffOr due) (sym e) (by due refused (each refused))
  where
    by : (f : SegFault) → IsSegmentFault parts r f → ◌⊎◌ (◌≡◌ {A = Result Shown SegFault} (Err given) (Err SegMemory)) (◌≡◌ {A = Result Shown SegFault} (Err given) (Err f)) → IsReadCutOffOr f (refusal_of given)
    by SegMemory h both = absurd h
    by (File part f) h (inl m) = inl (subst (λ (g : SegFault). IsReadCutOff (refusal_of g)) (sym (same_err _ _ m)) tt)
    by (File part f) h (inr m) = inr (ap refusal_of (same_err _ _ m))
    by (Disagrees part want found) h (inl m) = inl (subst (λ (g : SegFault). IsReadCutOff (refusal_of g)) (sym (same_err _ _ m)) tt)
    by (Disagrees part want found) h (inr m) = inr (ap refusal_of (same_err _ _ m))

-- a segment is not answered where its files are refused
pub not_read : (reads : Name → Content) (r : SegRecord) (parts : SegParts) (due : SegFault) (shown : Shown) → ArePartsIn reads r parts → IsRefusedIn reads r due
    → (IsSegmentFault parts r due → ◌⊎◌ (◌≡◌ {A = Result Shown SegFault} (Ok shown) (Err SegMemory)) (◌≡◌ {A = Result Shown SegFault} (Ok shown) (Err due))) → ⊥
not_read reads r parts due shown files is each = by (each (subst (λ (p : SegParts). IsSegmentFault p r due) (one_parts reads r is.parts parts is.files files) is.refused))
  where
    by : ◌⊎◌ (◌≡◌ {A = Result Shown SegFault} (Ok shown) (Err SegMemory)) (◌≡◌ {A = Result Shown SegFault} (Ok shown) (Err due)) → ⊥
    by (inl e) = ok_never_err shown SegMemory e
    by (inr e) = ok_never_err shown due e

-- ---- place by place
pub zip_some : {A B : Type 0} (R : A → B → Type 0) (xs : List A) (ys : List B) (i : ℕ) (d : A) → AllZip R xs ys → i < length xs → (y : B) × R (get_or xs i d) y
zip_some R [] ys i d h lt = absurd (omega (arith, lt))
zip_some R (x ∷ xs) [] i d h lt = absurd h
zip_some R (x ∷ xs) (y ∷ ys) zero d h lt = (y, h.0)
zip_some R (x ∷ xs) (y ∷ ys) (suc i) d h lt = zip_some R xs ys i d h.1 (omega (arith, lt))

pub zip_within : {A B : Type 0} (R : A → B → Type 0) (xs : List A) (ys : List B) (i : ℕ) (x : A) → AllZip R xs ys → slice_get xs i ≡ Some x → i < length ys
zip_within R [] ys i x h at = cc
zip_within R (a ∷ xs) [] i x h at = absurd h
zip_within R (a ∷ xs) (b ∷ ys) zero x h at = omega arith
zip_within R (a ∷ xs) (b ∷ ys) (suc i) x h at = let lt : i < length ys = zip_within R xs ys i x h.1 at in omega (arith, lt)

pub zip_at : {A B : Type 0} (R : A → B → Type 0) (xs : List A) (ys : List B) (i : ℕ) (x : A) (y : B) → AllZip R xs ys → slice_get xs i ≡ Some x → slice_get ys i ≡ Some y → R x y
zip_at R [] ys i x y h at there = cc
zip_at R (a ∷ xs) [] i x y h at there = absurd h
zip_at R (a ∷ xs) (b ∷ ys) zero x y h at there = let e : a ≡ x = cc in let f : b ≡ y = cc in subst (λ v. R x v) f (subst (λ u. R u b) e h.0)
zip_at R (a ∷ xs) (b ∷ ys) (suc i) x y h at there = zip_at R xs ys i x y h.1 at there

pub got_at : {R : Type 0} (xs : List R) (i : ℕ) (t : R) → i < length xs → t ≡ get_or xs i t → slice_get xs i ≡ Some t
got_at [] i t lt is = absurd (omega (arith, lt))
got_at (x ∷ xs) zero t lt is = ap Some (sym is)
got_at (x ∷ xs) (suc i) t lt is = got_at xs i t (omega (arith, lt)) is

pub stands_next : (a b : Cells) (records : List SegRecord) (segs : List Shown) (i : ℕ) (d : SegRecord) → b ≡ a → AreReaders (reads_of a) records segs → i < length records
    → (shown : Shown) × IsSegmentIn (reads_of b) (get_or records i d) shown
stands_next a b records segs i d same h lt =
    let some = zip_some (IsSegmentIn (reads_of a)) records segs i d h lt in
    (some.0, subst (λ (c : Cells). IsSegmentIn (reads_of c) (get_or records i d) some.0) (sym same) some.1)

pub next_refused : (seg : SegNo) (due given : SegFault) → IsReadCutOffOr due (Refused given) → IsCutOffOr (Segment seg due) (Segment seg given)
next_refused seg due given (inl h) = absurd h
next_refused seg due given (inr e) = inr (same_segment e)
  where
    same_segment : ◌≡◌ {A = LoadFault} (Refused given) (Refused due) → ◌≡◌ {A = StartFault} (Segment seg given) (Segment seg due)
    same_segment same = cc

-- ---- the first refused segment, place by place
front_at : (front rest : List SegRecord) (r : SegRecord) (segs : List Shown) (reads : Name → Content) (i : ℕ) (d : SegRecord) → AreReaders reads front segs → i < length front
    → (shown : Shown) × IsSegmentIn reads (get_or (front ++ r ∷ rest) i d) shown
front_at [] rest r segs reads i d h lt = absurd (omega (arith, lt))
front_at (x ∷ xs) rest r [] reads i d h lt = absurd h
front_at (x ∷ xs) rest r (s ∷ ss) reads zero d h lt = (s, h.0)
front_at (x ∷ xs) rest r (s ∷ ss) reads (suc i) d h lt = front_at xs rest r ss reads i d h.1 (omega (arith, lt))

there_at : (front rest : List SegRecord) (r d : SegRecord) → get_or (front ++ r ∷ rest) (length front) d ≡ r
there_at [] rest r d = refl
there_at (x ∷ xs) rest r d = there_at xs rest r d

long_at : (front rest : List SegRecord) (r : SegRecord) → length front < length (front ++ r ∷ rest)
long_at [] rest r = omega arith
long_at (x ∷ xs) rest r = let lt : length xs < length (xs ++ r ∷ rest) = long_at xs rest r in omega (arith, lt)

module _ (reads : Name → Content) (records : List SegRecord) (i : ℕ) (d : SegRecord) (lt : i < length records) (r : SegRecord) (fault : SegFault) (h : IsFirstRefusedSegment reads records r fault) (le : i ≤ length h.front) where
  same_at : (k : ℕ) → get_or records k d ≡ get_or (h.front ++ r ∷ h.rest) k d
  same_at k = ap (λ (rs : List SegRecord). get_or rs k d) h.are

  -- this segment is before the first refused one, or is that one
  pub before_or_at : ((shown : Shown) × IsSegmentIn reads (get_or records i d) shown × (i < length h.front)) ⊎ (get_or records i d ≡ r)
  before_or_at = by (split i (length h.front) le)
    where
      split : (m n : ℕ) → m ≤ n → (m < n) ⊎ (m ≡ n)
      split m n less = grind arith

      by : (i < length h.front) ⊎ (i ≡ length h.front) → ((shown : Shown) × IsSegmentIn reads (get_or records i d) shown × (i < length h.front)) ⊎ (get_or records i d ≡ r)
      by (inl less) = let some = front_at h.front h.rest r h.segs reads i d h.read less in inl (some.0, subst (λ (x : SegRecord). IsSegmentIn reads x some.0) (sym (same_at i)) some.1, less)
      by (inr same) = inr (same_at i ∙ ap (λ k. get_or (h.front ++ r ∷ h.rest) k d) same ∙ there_at h.front h.rest r d)

-- a segment that was read is before the first refused one
pub still_before : (a b : Cells) (records : List SegRecord) (i : ℕ) (d : SegRecord) → b ≡ a → i < length records → ((r : SegRecord) (fault : SegFault) (h : IsFirstRefusedSegment (reads_of a) records r fault) → i ≤ length h.front)
    → ((fault : SegFault) → IsRefusedIn (reads_of b) (get_or records i d) fault → ⊥) → (r : SegRecord) (fault : SegFault) (h : IsFirstRefusedSegment (reads_of a) records r fault) → i + 1 ≤ length h.front
still_before a b records i d same lt behind read r fault h =
    by (before_or_at (reads_of a) records i d lt r fault h (behind r fault h))
  where
    by : ((shown : Shown) × IsSegmentIn (reads_of a) (get_or records i d) shown × (i < length h.front)) ⊎ (get_or records i d ≡ r) → i + 1 ≤ length h.front
    by (inl some) = omega (arith, some.2)
    by (inr here) = absurd (read fault (subst (λ (x : SegRecord). IsRefusedIn (reads_of b) x fault) (sym here) (subst (λ (k : Cells). IsRefusedIn (reads_of k) r fault) (sym same) h.refused)))

-- the segment that was not read is the first refused one, unless its reading was cut off
pub refused_among : (a b : Cells) (records : List SegRecord) (i : ℕ) (d : SegRecord) (given : StartFault) → b ≡ a → i < length records → ((r : SegRecord) (fault : SegFault) (h : IsFirstRefusedSegment (reads_of a) records r fault) → i ≤ length h.front)
    → ((shown : Shown) → IsSegmentIn (reads_of b) (get_or records i d) shown → IsStartCutOff given) → ((fault : SegFault) → IsRefusedIn (reads_of b) (get_or records i d) fault → IsCutOffOr (Segment (get_or records i d).seg fault) given)
    → (r : SegRecord) (fault : SegFault) → IsFirstRefusedSegment (reads_of a) records r fault → IsCutOffOr (Segment r.seg fault) given
refused_among a b records i d given same lt behind shown refused r fault h = by (before_or_at (reads_of a) records i d lt r fault h (behind r fault h))
  where
    by : ((shown : Shown) × IsSegmentIn (reads_of a) (get_or records i d) shown × (i < length h.front)) ⊎ (get_or records i d ≡ r) → IsCutOffOr (Segment r.seg fault) given
    by (inl some) = inl (shown some.0 (subst (λ (k : Cells). IsSegmentIn (reads_of k) (get_or records i d) some.0) (sym same) some.1))
    by (inr here) = subst (λ (x : SegRecord). IsCutOffOr (Segment x.seg fault) given) here
        (refused fault (subst (λ (x : SegRecord). IsRefusedIn (reads_of b) x fault) (sym here) (subst (λ (k : Cells). IsRefusedIn (reads_of k) r fault) (sym same) h.refused)))

-- where each segment reads, the reading was cut off
pub cut_off_among : (a b : Cells) (records : List SegRecord) (i : ℕ) (d : SegRecord) (given : StartFault) → b ≡ a → i < length records
    → ((shown : Shown) → IsSegmentIn (reads_of b) (get_or records i d) shown → IsStartCutOff given) → (segs : List Shown) → AreReaders (reads_of a) records segs → IsStartCutOff given
cut_off_among a b records i d given same lt shown segs read =
    let some = stands_next a b records segs i d same read lt in
    shown some.0 some.1

-- where all were read, none is refused
pub none_refused : (reads : Name → Content) (records : List SegRecord) (i : ℕ) → length records ≤ i → ((r : SegRecord) (fault : SegFault) (h : IsFirstRefusedSegment reads records r fault) → i ≤ length h.front)
    → (r : SegRecord) (fault : SegFault) → IsFirstRefusedSegment reads records r fault → ⊥
none_refused reads records i le behind r fault h =
    let short : length h.front < length records = subst (λ (rs : List SegRecord). length h.front < length rs) (sym h.are) (long_at h.front h.rest r) in
    let more : i ≤ length h.front = behind r fault h in
    omega (arith, short, more, le)
