-- A merge that starts is one in flight, and has a live row.
use Rattle.std.proofs.Common.{◌≡◌, ◌≢◌, ℕ, zero, suc, ◌+◌, ◌<◌, ◌≤◌, Bool, true, false, cond, List, [], ◌∷◌, ◌++◌, length, get_or, map, take, drop, Option, Some, None, refl, sym, ap, subst, ◌∙◌, arith}
use Rattle.std.specs.Prelude.{◌==◌, ◌||◌}
use Rattle.std.specs.List.{AllZip, AllPairs, AllByRecursion, zip, list_any}
use Rattle.std.specs.Option.{IsSomeAnd}
use Rattle.std.proofs.lemmas.Bool.{ne_eqb, eqb-false, eqb-true}
use Rattle.std.proofs.lemmas.List.{length-append, take-append-drop, take-map, drop-map, length-map, length-take-le, length-drop}
use Rattle.std.proofs.lemmas.Slice.Zip.{AllZip-long, length-zip, seconds-zip}
use Rattle.nrt_base.specs.declared.doc.Doc.{Doc}
use Rattle.nrt_base.specs.declared.numbers.SegNo.{SegNo}
use Rattle.disk_model.specs.Disk.{Name, Content}
use Rattle.segment_infos.specs.declared.infos.SegRecord.{SegRecord}
use Rattle.seg_merge.specs.Given.{Shown, IsSegmentIn}
use Rattle.live_bits.specs.LiveRows.{live_rows}
use Rattle.seg_merge.specs.Merging.{docs_by_input, all_live_docs, live_docs, HasAsManyRows}
use Rattle.seg_merge.proofs.JoinLaws.{length-live_docs}
use Rattle.merge_choice.specs.Choice.{IsClass}
use Rattle.segment_steps.specs.declared.starting.MergeStart.{MergeStart}
use Rattle.segment_steps.specs.CutOver.{Part, IsMergeOf, documents_of, lives_of}
use Rattle.segment_steps.specs.Starting.{size_by, neighbours, IsStart}
use Rattle.segment_steps.proofs.Merges.{AreApart, merge_starts}
use Rattle.segment_steps.proofs.NextSpelling.{HaveOwnNumbers, pairs_own}
use Rattle.segment_steps.proofs.AfterPublish.{own_rows}

-- parts of infos are apart where their numbers are
parts_apart : (rs : List SegRecord) (ss : List Shown) → HaveOwnNumbers rs → AreApart (zip rs ss)
parts_apart [] ss own = tt
parts_apart (r ∷ rs) [] own = tt
parts_apart (r ∷ rs) (s ∷ ss) own = (others rs ss own.0, parts_apart rs ss own.1)
  where
    others : (qs : List SegRecord) (us : List Shown) → AllByRecursion (λ (q : SegRecord). r.seg.0 ≢ q.seg.0) qs → AllByRecursion (λ (p : Part). (r.seg.0 == p.0.seg.0) ≡ false) (zip qs us)
    others [] us all = tt
    others (q ∷ qs) [] all = tt
    others (q ∷ qs) (u ∷ us) all = (ne_eqb r.seg.0 q.seg.0 all.0, others qs us all.1)

-- R gives each document a mark
module _ (R : SegRecord → Shown → Type 0) (own : (r : SegRecord) (s : Shown) → R r s → length s.live ≡ length s.docs) where
  rows_as_long : (ps : List Part) → AllByRecursion (λ (p : Part). length p.1.docs ≡ length p.1.live) ps → AllZip (λ (ds : List Doc) (rows : List Bool). length ds ≡ length rows) (documents_of ps) (lives_of ps)
  rows_as_long [] all = tt
  rows_as_long (p ∷ ps) all = (all.0, rows_as_long ps all.1)

  each_long : (rs : List SegRecord) (ss : List Shown) → AllZip R rs ss → AllByRecursion (λ (p : Part). length p.1.docs ≡ length p.1.live) (zip rs ss)
  each_long [] [] each = tt
  each_long [] (s ∷ ss) each = absurd each
  each_long (r ∷ rs) [] each = absurd each
  each_long (r ∷ rs) (s ∷ ss) each = (sym (own r s each.0), each_long rs ss each.1)

  dropped : (P : Part → Type 0) (n : ℕ) (ps : List Part) → AllByRecursion P ps → AllByRecursion P (drop n ps)
  dropped P zero ps all = all
  dropped P (suc n) [] all = tt
  dropped P (suc n) (p ∷ ps) all = dropped P n ps all.1

  taken : (P : Part → Type 0) (n : ℕ) (ps : List Part) → AllByRecursion P ps → AllByRecursion P (take n ps)
  taken P zero ps all = tt
  taken P (suc n) [] all = tt
  taken P (suc n) (p ∷ ps) all = (all.0, taken P n ps all.1)

  mapped : {X : Type 0} (f : Part → X) (from count : ℕ) (ps : List Part) → map f (neighbours from count ps) ≡ neighbours from count (map f ps)
  mapped f from count ps = sym (take-map f count (drop from ps)) ∙ ap (take count) (sym (drop-map f from ps))

  -- A MERGE THAT STARTS is one in flight
  pub merge_begins : (seg : SegNo) (factor : ℕ) (held : List SegNo) (rs : List SegRecord) (ss : List Shown) (start : MergeStart) → IsStart seg factor held rs ss start → 2 ≤ factor → AllZip R rs ss → AllPairs (λ r s. r.seg.0 ≢ s.seg.0) rs
      → IsMergeOf (zip rs ss) start.inputs (docs_by_input start.task.inputs) start.task.live
  merge_begins seg factor held rs ss start is some each apart =
      let ps = zip rs ss in
      let from = is.from in
      let front = take from ps in
      let mid = neighbours from factor ps in
      let back = drop factor (drop from ps) in
      let whole : front ++ (mid ++ back) ≡ ps = ap (λ (qs : List Part). front ++ qs) (take-append-drop factor (drop from ps)) ∙ take-append-drop from ps in
      let long = AllZip-long R rs ss each in
      let within = is.first.is.within in
      let enough : 0 < length mid = omega (arith, length-take-le factor (drop from ps) (omega (arith, length-drop from ps, length-zip rs ss, long, within, length-map rs (size_by held))), some) in
      let numbers : start.inputs ≡ map (λ (p : Part). p.0.seg) mid =
      is.inputs_are ∙ sym (take-map (λ (r : SegRecord). r.seg) factor (drop from rs)) ∙ sym (ap (take factor) (drop-map (λ (r : SegRecord). r.seg) from rs))
      ∙ sym (ap (neighbours from factor) (map_map rs ss long)) ∙ sym (mapped (λ (p : Part). p.0.seg) from factor ps) in
      let shown : start.task.inputs ≡ map (λ (p : Part). p.1) mid = is.segs_are ∙ sym (ap (neighbours from factor) (seconds-zip rs ss long)) ∙ sym (mapped (λ (p : Part). p.1) from factor ps) in
      let docs : docs_by_input start.task.inputs ≡ documents_of mid = ap docs_by_input shown ∙ twice mid in
      let lives : start.task.live ≡ lives_of mid =
      is.live_are ∙ ap (map (λ (s : Shown). s.live)) (sym (ap (neighbours from factor) (seconds-zip rs ss long)) ∙ sym (mapped (λ (p : Part). p.1) from factor ps)) ∙ twice_live mid in
      let rows = rows_as_long mid (taken (λ (p : Part). length p.1.docs ≡ length p.1.live) factor (drop from ps) (dropped (λ (p : Part). length p.1.docs ≡ length p.1.live) from ps (each_long rs ss each))) in
      let flight : IsMergeOf (front ++ (mid ++ back)) (map (λ (p : Part). p.0.seg) mid) (documents_of mid) (lives_of mid) =
      merge_starts front mid back (subst AreApart (sym whole) (parts_apart rs ss (pairs_own rs apart))) enough rows in
      subst (λ (qs : List Part). IsMergeOf qs start.inputs (docs_by_input start.task.inputs) start.task.live) whole
      (subst (λ (ns : List SegNo). IsMergeOf (front ++ (mid ++ back)) ns (docs_by_input start.task.inputs) start.task.live) (sym numbers)
      (subst (λ (ds : List (List Doc)). IsMergeOf (front ++ (mid ++ back)) (map (λ (p : Part). p.0.seg) mid) ds start.task.live) (sym docs)
      (subst (IsMergeOf (front ++ (mid ++ back)) (map (λ (p : Part). p.0.seg) mid) (documents_of mid)) (sym lives) flight)))
    where
      map_map : (rs : List SegRecord) (ss : List Shown) → length ss ≡ length rs → map (λ (p : Part). p.0.seg) (zip rs ss) ≡ map (λ (r : SegRecord). r.seg) rs
      map_map [] ss long = refl
      map_map (r ∷ rs) [] long = absurd (omega (arith, long))
      map_map (r ∷ rs) (s ∷ ss) long = ap (λ (ns : List SegNo). r.seg ∷ ns) (map_map rs ss (omega (arith, long)))

      twice : (qs : List Part) → docs_by_input (map (λ (p : Part). p.1) qs) ≡ documents_of qs
      twice [] = refl
      twice (q ∷ qs) = ap (λ (ds : List (List Doc)). q.1.docs ∷ ds) (twice qs)

      twice_live : (qs : List Part) → map (λ (s : Shown). s.live) (map (λ (p : Part). p.1) qs) ≡ lives_of qs
      twice_live [] = refl
      twice_live (q ∷ qs) = ap (λ (ls : List (List Bool)). q.1.live ∷ ls) (twice_live qs)

-- ---- what merge asks, and that no input is another merge's

run_all : (P : ℕ → Type 0) (from count : ℕ) (xs : List (Option ℕ)) → from + count ≤ length xs → ((k : ℕ) (d : Option ℕ) → from ≤ k → k < from + count → IsSomeAnd (get_or xs k d) P) → AllByRecursion (λ (o : Option ℕ). IsSomeAnd o P) (take count (drop from xs))
run_all P zero zero xs fits each = tt
run_all P zero (suc count) [] fits each = absurd (omega (arith, fits))
run_all P zero (suc count) (x ∷ xs) fits each = (each 0 x (omega arith) (omega arith), run_all P zero count xs (omega (arith, fits)) (λ k d low lt. each (suc k) d (omega (arith, low)) (omega (arith, lt))))
run_all P (suc from) count [] fits each = run_none count
  where
    run_none : (n : ℕ) → AllByRecursion (λ (o : Option ℕ). IsSomeAnd o P) (take n [])
    run_none zero = tt
    run_none (suc n) = tt
run_all P (suc from) count (x ∷ xs) fits each = run_all P from count xs (omega (arith, fits)) (λ k d low lt. each (suc k) d (omega (arith, low)) (omega (arith, lt)))

-- it has a live row, and no merge in flight has it
pub record IsFree (held : List SegNo) (r : SegRecord) : Type 0 where
  pub live : 0 < r.live
  pub other : list_any (λ (seg : SegNo). seg.0 == r.seg.0) held ≡ false

sized : (held : List SegNo) (r : SegRecord) (P : ℕ → Type 0) → IsSomeAnd (size_by held r) P → IsFree held r
sized held r P is = by_test (r.live == 0) (list_any (λ (seg : SegNo). seg.0 == r.seg.0) held) refl refl is
  where
    by_test : (a b : Bool) → (r.live == 0) ≡ a → list_any (λ (seg : SegNo). seg.0 == r.seg.0) held ≡ b → IsSomeAnd (cond (a || b) None (Some r.live)) P → IsFree held r
    by_test true b e f s = absurd s
    by_test false true e f s = absurd s
    by_test false false e f s = let ne = eqb-false r.live 0 e in record { live = above r.live ne; other = f }
      where
        above : (n : ℕ) → (n ≡ 0 → ⊥) → 0 < n
        above zero ne = absurd (ne refl)
        above (suc n) ne = omega arith

all_sized : (held : List SegNo) (P : ℕ → Type 0) (rs : List SegRecord) → AllByRecursion (λ (o : Option ℕ). IsSomeAnd o P) (map (size_by held) rs) → AllByRecursion (IsFree held) rs
all_sized held P [] all = tt
all_sized held P (r ∷ rs) all = (sized held r P all.0, all_sized held P rs all.1)

pub inputs_free : (seg : SegNo) (factor : ℕ) (held : List SegNo) (rs : List SegRecord) (ss : List Shown) (start : MergeStart) (is : IsStart seg factor held rs ss start) → AllByRecursion (IsFree held) (neighbours is.from factor rs)
inputs_free seg factor held rs ss start is =
    let run = is.first.is in
    let all = run_all (λ size. IsClass factor size run.class) is.from factor (map (size_by held) rs) run.within run.each in
    all_sized held (λ size. IsClass factor size run.class) (neighbours is.from factor rs)
    (subst (AllByRecursion (λ (o : Option ℕ). IsSomeAnd o (λ size. IsClass factor size run.class))) (ap (take factor) (drop-map (size_by held) is.from rs) ∙ take-map (size_by held) factor (drop is.from rs)) all)

found : (n : ℕ) (held : List SegNo) (qs : List SegRecord) → AllByRecursion (IsFree held) qs → list_any (λ (s : SegNo). s.0 == n) (map (λ (r : SegRecord). r.seg) qs) ≡ true → list_any (λ (s : SegNo). s.0 == n) held ≡ false
found n held [] all e = absurd cc
found n held (q ∷ qs) all e = by_test (q.seg.0 == n) refl e (λ f. found n held qs all.1 f)
  where
    by_test : (b : Bool) → (q.seg.0 == n) ≡ b → (b || list_any (λ (s : SegNo). s.0 == n) (map (λ (r : SegRecord). r.seg) qs)) ≡ true
        → (list_any (λ (s : SegNo). s.0 == n) (map (λ (r : SegRecord). r.seg) qs) ≡ true → list_any (λ (s : SegNo). s.0 == n) held ≡ false) → list_any (λ (s : SegNo). s.0 == n) held ≡ false
    by_test true same f more = subst (λ (m : ℕ). list_any (λ (s : SegNo). s.0 == m) held ≡ false) (eqb-true q.seg.0 n same) all.0.other
    by_test false same f more = more f

-- NO INPUT of a merge that starts is one of those that are held
pub start_apart : (seg : SegNo) (factor : ℕ) (held : List SegNo) (rs : List SegRecord) (ss : List Shown) (start : MergeStart) → IsStart seg factor held rs ss start → (n : ℕ) → list_any (λ (s : SegNo). s.0 == n) start.inputs ≡ true
    → list_any (λ (s : SegNo). s.0 == n) held ≡ false
start_apart seg factor held rs ss start is n there = found n held (neighbours is.from factor rs) (inputs_free seg factor held rs ss start is) (sym (ap (list_any (λ (s : SegNo). s.0 == n)) is.inputs_are) ∙ there)

-- ---- the rows of the task

-- R gives each document a mark, and as many rows are live as the record says
module _ (R : SegRecord → Shown → Type 0) (own : (r : SegRecord) (s : Shown) → R r s → length s.live ≡ length s.docs) (count : (r : SegRecord) (s : Shown) → R r s → live_rows s.live ≡ r.live) where
  each_from : (from : ℕ) (rs : List SegRecord) (ss : List Shown) → AllZip R rs ss → AllZip R (drop from rs) (drop from ss)
  each_from zero rs ss each = each
  each_from (suc from) [] [] each = tt
  each_from (suc from) [] (s ∷ ss) each = absurd each
  each_from (suc from) (r ∷ rs) [] each = absurd each
  each_from (suc from) (r ∷ rs) (s ∷ ss) each = each_from from rs ss each.1

  each_to : (count : ℕ) (rs : List SegRecord) (ss : List Shown) → AllZip R rs ss → AllZip R (take count rs) (take count ss)
  each_to zero rs ss each = tt
  each_to (suc count) [] [] each = tt
  each_to (suc count) [] (s ∷ ss) each = absurd each
  each_to (suc count) (r ∷ rs) [] each = absurd each
  each_to (suc count) (r ∷ rs) (s ∷ ss) each = (each.0, each_to count rs ss each.1)

  rows_fit : (rs : List SegRecord) (ss : List Shown) → AllZip R rs ss → AllZip HasAsManyRows ss (map (λ (s : Shown). s.live) ss)
  rows_fit [] [] each = tt
  rows_fit [] (s ∷ ss) each = absurd each
  rows_fit (r ∷ rs) [] each = absurd each
  rows_fit (r ∷ rs) (s ∷ ss) each = (own r s each.0, rows_fit rs ss each.1)

  some_rows : (held : List SegNo) (rs : List SegRecord) (ss : List Shown) → AllZip R rs ss → AllByRecursion (IsFree held) rs → 0 < length rs → 0 < length (all_live_docs (docs_by_input ss) (map (λ (s : Shown). s.live) ss))
  some_rows held [] ss each free some = absurd (omega (arith, some))
  some_rows held (r ∷ rs) [] each free some = absurd each
  some_rows held (r ∷ rs) (s ∷ ss) each free some =
      let live = free.0.live in
      omega (arith, live, count r s each.0, length-live_docs s.docs s.live (own r s each.0), length-append (live_docs s.docs s.live) (all_live_docs (docs_by_input ss) (map (λ (u : Shown). u.live) ss)))

  -- THE TASK is fit to be merged
  pub task_fits : (seg : SegNo) (factor : ℕ) (held : List SegNo) (rs : List SegRecord) (ss : List Shown) (start : MergeStart) → IsStart seg factor held rs ss start → 2 ≤ factor → AllZip R rs ss
      → AllZip HasAsManyRows start.task.inputs start.task.live × (0 < length (all_live_docs (docs_by_input start.task.inputs) start.task.live))
  task_fits seg factor held rs ss start is some each =
      let us = neighbours is.from factor ss in
      let qs = neighbours is.from factor rs in
      let these = each_to factor (drop is.from rs) (drop is.from ss) (each_from is.from rs ss each) in
      let within = is.first.is.within in
      let enough : 0 < length qs = omega (arith, length-take-le factor (drop is.from rs) (omega (arith, length-drop is.from rs, within, length-map rs (size_by held))), some) in
      let live : start.task.live ≡ map (λ (s : Shown). s.live) us = is.live_are in (
        subst (λ (xs : List Shown). AllZip HasAsManyRows xs start.task.live) (sym is.segs_are) (subst (AllZip HasAsManyRows us) (sym live) (rows_fit qs us these)),
        subst (λ (xs : List Shown). 0 < length (all_live_docs (docs_by_input xs) start.task.live)) (sym is.segs_are)
            (subst (λ (ls : List (List Bool)). 0 < length (all_live_docs (docs_by_input us) ls)) (sym live) (some_rows held qs us these (inputs_free seg factor held rs ss start is) enough)),
      )

-- ---- where the segments are in a directory

module _ (reads : Name → Content) where
  pub start_is_merge : (seg : SegNo) (factor : ℕ) (held : List SegNo) (rs : List SegRecord) (ss : List Shown) (start : MergeStart) → IsStart seg factor held rs ss start → 2 ≤ factor → AllZip (IsSegmentIn reads) rs ss → AllPairs (λ r s. r.seg.0 ≢ s.seg.0) rs
      → IsMergeOf (zip rs ss) start.inputs (docs_by_input start.task.inputs) start.task.live
  start_is_merge = merge_begins (IsSegmentIn reads) (own_rows reads)

  pub start_fits : (seg : SegNo) (factor : ℕ) (held : List SegNo) (rs : List SegRecord) (ss : List Shown) (start : MergeStart) → IsStart seg factor held rs ss start → 2 ≤ factor → AllZip (IsSegmentIn reads) rs ss
      → AllZip HasAsManyRows start.task.inputs start.task.live × (0 < length (all_live_docs (docs_by_input start.task.inputs) start.task.live))
  start_fits = task_fits (IsSegmentIn reads) (own_rows reads) (λ r s is. is.live)
