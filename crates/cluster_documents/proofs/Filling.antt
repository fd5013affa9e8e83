-- How many segments a publish leaves, and that each has a live row; when there may be as many as there may be.
use Rattle.std.proofs.Common.{◌≡◌, ◌≤◌, ◌<◌, ◌+◌, ◌||◌, ◌&&◌, nat_lt, nat_le, ℕ, zero, suc, Bool, true, false, cond, if◌then◌else◌, List, [], ◌∷◌, length, map, Option, Some, None, refl, ap, ◌∙◌, sym, subst, arith, length-append}
use Rattle.std.specs.List.{All, AllZip, filter, zip, list_any}
use Rattle.std.proofs.lemmas.Bool.{ltb-true, lt-ltb}
use Rattle.std.proofs.lemmas.Bool.Decides.{nat_tests}
use Rattle.std.proofs.lemmas.List.{length-replicate}
use Rattle.std.proofs.lemmas.List.Elements.{All-nil, All-cons, All-head, All-tail, All-append}
use Rattle.std.proofs.lemmas.List.Sorted.{length_permutation}
use Rattle.nrt_base.specs.declared.doc.Doc.{Doc}
use Rattle.nrt_base.specs.declared.numbers.SegNo.{SegNo}
use Rattle.disk_model.specs.Disk.{Name, Content}
use Rattle.documents.specs.declared.operation.Op.{Op}
use Rattle.documents.specs.declared.operation.Op.TheVariants.{Put, Delete, Drop}
use Rattle.documents.specs.Documents.{is_put}
use Rattle.live_bits.specs.LiveRows.{live_rows}
use Rattle.segment_infos.specs.declared.infos.SegRecord.{SegRecord}
use Rattle.seg_reader.specs.Shown.{Shown, live_documents, live_documents_of}
use Rattle.seg_reader.specs.Files.{AreLiveRowsOf}
use Rattle.seg_reader.specs.Stands.{IsSegmentIn, AreSegmentsOf}
use Rattle.seg_build.specs.declared.files.SegFiles.{SegFiles}
use Rattle.segment_steps.specs.declared.flushing.FlushTask.{FlushTask}
use Rattle.segment_steps.specs.declared.flushing.FlushWork.{FlushWork}
use Rattle.segment_steps.specs.declared.next.NextSegments.{NextSegments}
use Rattle.segment_steps.specs.Cut.{puts_live}
use Rattle.segment_steps.specs.Next.{IsNewOf, IsFlushOf, turns, Turn, record_after, stays, staying, new_records, IsNextOf}
use Rattle.history_rules.specs.Nodes.{Past, newest_version}
use Rattle.history_rules.specs.Points.{documents_at}
use Rattle.history_rules.specs.Tasks.{merge_count}
use Rattle.script_serving.specs.Refusals.{put_publishes, may_be_full}

-- the segment of a record has a live row
abbrev pub IsLive : SegRecord → Type 0
IsLive r = 0 < r.live

-- ---- the records of the next point

module _ (g : ℕ) where
  stays_live : (t : Turn) → stays g [] t ≡ true → IsLive (record_after g t)
  stays_live t h = ltb-true 0 (record_after g t).live (front (nat_lt 0 (record_after g t).live) h)
    where
      front : (b : Bool) → (b || false) ≡ true → b ≡ true
      front true h = refl
      front false h = h

  -- those that stay are live
  staying_live : (ts : List Turn) → All IsLive (map (record_after g) (staying g [] ts))
  staying_live [] = All-nil IsLive
  staying_live (t ∷ ts) = go (stays g [] t) (stays_live t) (staying_live ts)
    where
      go : (b : Bool) → (b ≡ true → IsLive (record_after g t)) → All IsLive (map (record_after g) (staying g [] ts)) → All IsLive (map (record_after g) (cond b (t ∷ staying g [] ts) (staying g [] ts)))
      go true live more = All-cons IsLive (record_after g t) (map (record_after g) (staying g [] ts)) (live refl) more
      go false live more = more

  staying_few : (held : List SegNo) (ts : List Turn) → length (map (record_after g) (staying g held ts)) ≤ length ts
  staying_few held [] = omega arith
  staying_few held (t ∷ ts) = go (stays g held t) (staying_few held ts)
    where
      go : (b : Bool) → length (map (record_after g) (staying g held ts)) ≤ length ts → length (map (record_after g) (cond b (t ∷ staying g held ts) (staying g held ts))) ≤ suc (length ts)
      go true more = omega (arith, more)
      go false more = omega (arith, more)

zip_few : {A B : Type 0} (xs : List A) (ys : List B) → length (zip xs ys) ≤ length xs
zip_few [] ys = omega arith
zip_few (x ∷ xs) [] = omega arith
zip_few (x ∷ xs) (y ∷ ys) = omega (arith, zip_few xs ys)

-- ---- the new one

-- a cut that leaves a live row has a put
put_there : (ops : List Op) → 0 < live_rows (puts_live ops) → list_any is_put ops ≡ true
put_there [] live = absurd (omega (arith, live))
put_there (Put doc ∷ ops) live = refl
put_there (Delete key ∷ ops) live = put_there ops live
put_there (Drop word ∷ ops) live = put_there ops live

new_live : (seg : Option SegNo) (ops : List Op) (files : Option SegFiles) → IsNewOf seg ops files → All IsLive (new_records files)
new_live seg ops None is = All-nil IsLive
new_live None ops (Some built) is = absurd is
new_live (Some seg) ops (Some built) is = All-cons IsLive _ [] is.some (All-nil IsLive)

new_few : (seg : Option SegNo) (ops : List Op) (files : Option SegFiles) → IsNewOf seg ops files → length (new_records files) ≤ (if list_any is_put ops then 1 else 0)
new_few seg ops None is = omega arith
new_few None ops (Some built) is = absurd is
new_few (Some seg) ops (Some built) is =
    subst (λ (b : Bool). 1 ≤ (if b then 1 else 0)) (sym (put_there ops (subst (λ (rows : List Bool). 0 < live_rows rows) is.rows is.some))) (omega arith)

-- ---- both

pub next_live : (g : ℕ) (records : List SegRecord) (segs : List Shown) (task : FlushTask) (work : FlushWork) (held : List SegNo) (made : NextSegments) → held ≡ [] → IsFlushOf task work
    → IsNextOf g records segs work held made → All IsLive made.records
next_live g records segs task work held made none flushed next =
    subst (λ (rs : List SegRecord). All IsLive rs) (sym next.records_are)
    (All-append IsLive (map (record_after g) (staying g held (turns records segs work.live))) (new_records work.files)
    (subst (λ (h : List SegNo). All IsLive (map (record_after g) (staying g h (turns records segs work.live)))) (sym none) (staying_live g (turns records segs work.live)))
    (new_live task.seg task.ops work.files flushed.files))

pub next_few : (g : ℕ) (records : List SegRecord) (segs : List Shown) (task : FlushTask) (work : FlushWork) (held : List SegNo) (made : NextSegments) (puts : ℕ) → IsFlushOf task work
    → IsNextOf g records segs work held made → length records ≤ puts → length made.records ≤ (if list_any is_put task.ops then puts + 1 else puts)
next_few g records segs task work held made puts flushed next few =
    go (list_any is_put task.ops) (new_few task.seg task.ops work.files flushed.files)
  where
    old : length (map (record_after g) (staying g held (turns records segs work.live))) ≤ length records
    old = omega (arith, staying_few g held (turns records segs work.live), zip_few records (zip segs work.live))

    all : length made.records ≡ length (map (record_after g) (staying g held (turns records segs work.live))) + length (new_records work.files)
    all = ap length next.records_are ∙ length-append (map (record_after g) (staying g held (turns records segs work.live))) (new_records work.files)

    go : (b : Bool) → length (new_records work.files) ≤ (if b then 1 else 0) → length made.records ≤ (if b then puts + 1 else puts)
    go true new = omega (arith, old, all, new, few)
    go false new = omega (arith, old, all, new, few)

-- ---- as many segments as there may be

-- a segment with a live row has a document
some_document : (docs : List Doc) (live : List Bool) → length live ≡ length docs → 0 < live_rows live → 1 ≤ length (map (λ (x : Doc × Bool). x.0) (filter (λ (x : Doc × Bool). x.1) (zip docs live)))
some_document docs [] same live = absurd (omega (arith, live))
some_document [] (row ∷ rows) same live = absurd (omega (arith, same))
some_document (doc ∷ docs) (true ∷ rows) same live = omega arith
some_document (doc ∷ docs) (false ∷ rows) same live = some_document docs rows (omega (arith, same)) (omega (arith, live))

rows_same : (live : Option (List ℕ)) (r : SegRecord) (rows : List Bool) → AreLiveRowsOf live r rows → length rows ≡ r.rows
rows_same None r rows is = ap length is ∙ length-replicate r.rows true
rows_same (Some bytes) r rows is = is.1

segment_document : (reads : Name → Content) (r : SegRecord) (s : Shown) → IsSegmentIn reads r s → IsLive r → 1 ≤ length (live_documents_of s)
segment_document reads r s is live =
    some_document s.docs s.live (rows_same is.parts.live r s.live is.segment.live ∙ sym is.segment.docs_rows) (subst (λ (k : ℕ). 0 < k) (sym is.live) live)

pub as_many : (reads : Name → Content) (records : List SegRecord) (segs : List Shown) → AllZip (IsSegmentIn reads) records segs → length segs ≡ length records
as_many reads [] [] each = refl
as_many reads [] (s ∷ segs) each = absurd each
as_many reads (r ∷ records) [] each = absurd each
as_many reads (r ∷ records) (s ∷ segs) each = ap suc (as_many reads records segs each.1)

segments_few : (reads : Name → Content) (records : List SegRecord) (segs : List Shown) → AllZip (IsSegmentIn reads) records segs → All IsLive records
    → (length segs ≡ length records) × (length segs ≤ length (live_documents segs))
segments_few reads [] [] each live = (refl, omega arith)
segments_few reads [] (s ∷ segs) each live = absurd each
segments_few reads (r ∷ records) [] each live = absurd each
segments_few reads (r ∷ records) (s ∷ segs) each live =
    let more = segments_few reads records segs each.1 (All-tail IsLive r records live) in
    let one = segment_document reads r s each.0 (All-head IsLive r records live) in
    (ap suc more.0, omega (arith, more.1, one, length-append (live_documents_of s) (live_documents segs)))

-- there are as many segments as there may be: as many publishes had a put, and where no merge was started there are as many documents
pub is_full : (past : Past) (reads : Name → Content) (records : List SegRecord) (segs : List Shown) → AllZip (IsSegmentIn reads) records segs → (merge_count past ≡ 0 → All IsLive records) → length records ≤ put_publishes past
    → AreSegmentsOf (documents_at past (newest_version past)) segs → 256 ≤ length segs → may_be_full past ≡ true
is_full past reads records segs each live few are many = by (merge_count past) refl
  where
    same : length segs ≡ length records
    same = as_many reads records segs each

    made : nat_le 256 (put_publishes past) ≡ true
    made = let all : 256 ≤ put_publishes past = omega (arith, few, same, many) in grind (arith, nat_tests)

    there : merge_count past ≡ 0 → nat_le 256 (length (documents_at past (newest_version past))) ≡ true
    there none =
        let docs : length (documents_at past (newest_version past)) ≡ length (live_documents segs) = length_permutation (live_documents segs) (documents_at past (newest_version past)) are.documents.same in
        let f = segments_few reads records segs each (live none) in
        let all : 256 ≤ length (documents_at past (newest_version past)) = omega (arith, docs, f.1, many) in
        grind (arith, nat_tests)

    both : (a b c : Bool) → a ≡ true → (b || c) ≡ true → (a && (b || c)) ≡ true
    both true b c x y = y
    both false b c x y = x

    by : (k : ℕ) → merge_count past ≡ k → may_be_full past ≡ true
    by zero none = both (nat_le 256 (put_publishes past)) (nat_lt 0 (merge_count past)) (nat_le 256 (length (documents_at past (newest_version past)))) made (ap (λ (b : Bool). nat_lt 0 (merge_count past) || b) (there none) ∙ ends (nat_lt 0 (merge_count past)))
      where
        ends : (b : Bool) → (b || true) ≡ true
        ends true = refl
        ends false = refl
    by (suc k) some = both (nat_le 256 (put_publishes past)) (nat_lt 0 (merge_count past)) (nat_le 256 (length (documents_at past (newest_version past)))) made (ap (λ (b : Bool). b || nat_le 256 (length (documents_at past (newest_version past)))) (lt-ltb 0 (merge_count past) (omega (arith, some))))
