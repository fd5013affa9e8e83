-- The pure step of a publish is a step of the primary.
use Rattle.std.proofs.Common.{◌≡◌, ◌≢◌, ◌==◌, not, ◌⊎◌, ◌<◌, ◌≤◌, ◌+◌, ◌-◌, ◌*◌, ◌/◌, ◌^◌, max, ◌++◌, ℕ, zero, suc, Bool, true, false, cond, List, [], ◌∷◌, Option, Some, None, refl, sym, ap, subst, ◌∙◌, arith, inl, inr, map, length, length-append}
use Rattle.std.specs.Prelude.{IfSome, IsSomeAnd, is_some}
use Rattle.std.specs.List.{AllByRecursion, AllZip, filter, zip, Contains, flat_map}
use Rattle.std.proofs.lemmas.List.{map-append, append-nil}
use Rattle.std.proofs.lemmas.List.Elements.{recursion_from_All, All-from_recursion, All-contains, Contains-append_cases}
use Rattle.std.proofs.lemmas.List.Sums.{count_by-le-length}
use Rattle.std.proofs.lemmas.Bool.{eqb-false}
use Rattle.nrt_base.specs.declared.numbers.SegNo.{SegNo}
use Rattle.nrt_base.specs.declared.doc.Doc.{Doc}
use Rattle.disk_model.specs.Disk.{Name, Content, is_among, same}
use Rattle.commit_steps.proofs.Safe.{among_of}
use Rattle.documents.specs.Documents.{after_ops}
use Rattle.live_bits.specs.LiveRows.{live_rows}
use Rattle.segment_infos.specs.declared.infos.SegRecord.{SegRecord}
use Rattle.segment_infos.specs.declared.infos.Infos.{Infos}
use Rattle.segment_infos.specs.Infos.{CanSpell}
use Rattle.segment_infos.specs.Files.{files_of_segment}
use Rattle.seg_reader.specs.Shown.{Shown}
use Rattle.seg_reader.specs.Stands.{IsSegmentIn, AreSegmentsOf}
use Rattle.seg_build.specs.declared.files.SegFiles.{SegFiles}
use Rattle.seg_build.specs.Built.{record_of, File}
use Rattle.segment_steps.specs.declared.flushing.FlushTask.{FlushTask}
use Rattle.segment_steps.specs.declared.flushing.FlushWork.{FlushWork}
use Rattle.segment_steps.specs.declared.next.NextSegments.{NextSegments}
use Rattle.segment_steps.specs.Cut.{removed_by, live_left}
use Rattle.segment_steps.specs.Segments.{live_change}
use Rattle.segment_steps.specs.Next.{Turn, turns, stays, staying, record_after, IsNewOf, IsFlushOf, IsBuiltWork, IsNextOf, new_records, new_files, next_live_gen}
use Rattle.segment_steps.proofs.Segments.{fewer}
use Rattle.segment_steps.proofs.PublishLaws.{publish_stand, publish_stands}
use Rattle.segment_steps.proofs.NextNames.{names_in, names_are_there}
use Rattle.segment_steps.proofs.NextNames as steps_names
use Rattle.segment_steps.proofs.NextSpelling.{next_few}
use Rattle.segment_steps.specs.CutOver.{IsMergeOf}
use Rattle.segment_steps.proofs.AfterPublish.{IsOther, flush_fits, publish_keeps_merge}
use Rattle.index_primary.proofs.MergeLists.{no_input}
use Rattle.index_primary.specs.Held.{drawn_to, IsDrawnRecord, AreNumbered, next_infos}
use Rattle.index_primary.specs.Written.{names_of}
use Rattle.index_primary.specs.Publishing.{IsStep}
use Rattle.index_primary.specs.NextNames.{Kept, New, IsIn, gen_after, new_gen, raised_names, new_names, AreApart, IsDrawn, AreNextNames}
use Rattle.index_primary.specs.NextRecords.{IsNextRecord, IsFreshRecord, AreFresh, AreNextRecords}
use Rattle.index_primary.proofs.NextNames.{written_undrawn, written_own, written_once, still_undrawn}
use Rattle.index_primary.proofs.NextRecords.{next_spelled, next_numbered}
use Rattle.index_primary.specs.Turns.{kept_of, SomeDie, SomeDieIn}
use Rattle.index_primary.proofs.Turns.{raised_are, kept_are, each_is, through, of_turns, apart_turns, new_named, new_record}

-- ---- where the live rows change, some die
die_one : (gone : Doc → Bool) (r : SegRecord) (s : Shown) → live_rows s.live ≡ r.live → SomeDie r (live_change gone s)
die_one gone r s count = by (live_rows (live_left gone s.docs s.live) == live_rows s.live) refl (fewer gone s.docs s.live)
  where
    by : (b : Bool) → (live_rows (live_left gone s.docs s.live) == live_rows s.live) ≡ b → live_rows (live_left gone s.docs s.live) ≤ live_rows s.live → SomeDie r (cond b None (Some (live_left gone s.docs s.live)))
    by true e le = tt
    by false e le = less (live_rows (live_left gone s.docs s.live)) (eqb-false (live_rows (live_left gone s.docs s.live)) (live_rows s.live) e) le
      where
        less : (n : ℕ) → (n ≡ live_rows s.live → ⊥) → n ≤ live_rows s.live → n < r.live
        less n ne le = grind (arith, count)

die_kept : (reads : Name → Content) (gone : Doc → Bool) (p : Turn → Bool) (rs : List SegRecord) (ss : List Shown) → AllZip (IsSegmentIn reads) rs ss → AllByRecursion SomeDieIn (filter p (turns rs ss (map (live_change gone) ss)))
die_kept reads gone p [] ss each = tt
die_kept reads gone p (r ∷ rs) [] each = tt
die_kept reads gone p (r ∷ rs) (s ∷ ss) each = by (p (r, (s, live_change gone s))) (die_one gone r s each.0.live) (die_kept reads gone p rs ss each.1)
  where
    by : (b : Bool) → SomeDie r (live_change gone s) → AllByRecursion SomeDieIn (filter p (turns rs ss (map (live_change gone) ss)))
        → AllByRecursion SomeDieIn (cond b ((r, (s, live_change gone s)) ∷ filter p (turns rs ss (map (live_change gone) ss))) (filter p (turns rs ss (map (live_change gone) ss))))
    by true one all = (one, all)
    by false one all = all

-- ---- rows are fewer than 2^32, so a next live generation fits
rows_fit : (reads : Name → Content) (rs : List SegRecord) (ss : List Shown) → AllZip (IsSegmentIn reads) rs ss → AllByRecursion (λ (r : SegRecord). r.rows < 2 ^ 32) rs
rows_fit reads [] ss each = tt
rows_fit reads (r ∷ rs) [] each = absurd each
rows_fit reads (r ∷ rs) (s ∷ ss) each = (each.0.segment.info.spelled.rows_fit, rows_fit reads rs ss each.1)

pub as_many : (reads : Name → Content) (rs : List SegRecord) (ss : List Shown) → AllZip (IsSegmentIn reads) rs ss → length rs ≡ length ss
as_many reads [] [] each = refl
as_many reads [] (s ∷ ss) each = absurd each
as_many reads (r ∷ rs) [] each = absurd each
as_many reads (r ∷ rs) (s ∷ ss) each = ap suc (as_many reads rs ss each.1)

gen_fits : (g s own live rows : ℕ) → g < 2 ^ 31 → rows < 2 ^ 32 → own + live ≤ (g - s) * 4294967296 + rows → max own ((g - s) * 4294967296) + 1 < 2 ^ 64
gen_fits g s own live rows few small bound = fits (g - s) own live rows (omega (arith, few)) small bound
  where
    fits : (d own live rows : ℕ) → d < 2 ^ 31 → rows < 2 ^ 32 → own + live ≤ d * 4294967296 + rows → max own (d * 4294967296) + 1 < 2 ^ 64
    fits d own live rows few small bound = omega (arith, few, small, bound)

drawn_fits : (g counter : ℕ) → g < 2 ^ 31 → counter ≤ 1679616 → g * 1679616 + counter < 2 ^ 64
drawn_fits g counter few most = omega (arith, few, most)

abbrev Fits : Infos → SegRecord → Type 0
Fits infos r = (r.seg.0 < drawn_to infos) × (next_live_gen infos.generation.0 r < 2 ^ 64)

all_fit : (infos : Infos) (rs : List SegRecord) → infos.generation.0 < 2 ^ 31 → AllByRecursion (IsDrawnRecord infos) rs → AllByRecursion (λ (r : SegRecord). r.rows < 2 ^ 32) rs → AllByRecursion (Fits infos) rs
all_fit infos [] few bounded small = tt
all_fit infos (r ∷ rs) few bounded small =
    ((bounded.0.below, gen_fits infos.generation.0 (r.seg.0 / 1679616) r.live_gen r.live r.rows few small.0 bounded.0.live_gen), all_fit infos rs few bounded.1 small.1)

-- ---- names
-- ---- the new segment in the words of the primary
abbrev pub new_of : Option SegFiles → Option New
new_of None = None
new_of (Some built) = Some (built.seg.0, not (live_rows built.live == length built.live))

fresh_are : (new : Option SegFiles) → AreFresh (new_of new) (new_records new)
fresh_are None = tt
fresh_are (Some built) = new_record built.seg built.live (count_by-le-length (λ (row : Bool). row) built.live)

new_names_are : (new : Option SegFiles) → IsBuiltWork new → names_of (new_files new) ≡ new_names (new_of new)
new_names_are None is = refl
new_names_are (Some built) is = sym (steps_names.new_names (Some built) is) ∙ append-nil (files_of_segment (record_of built.seg built.live)) ∙ new_named built.seg built.live

each_fresh : (new : Option SegFiles) (r : SegRecord) → Contains (new_records new) r → IsSomeAnd (new_of new) (λ n. (r.seg.0 ≡ n.0) × (r.live_gen ≡ new_gen n))
each_fresh None r (k, lt, e) = absurd (omega (arith, lt))
each_fresh (Some built) r (zero, lt, e) =
    let is : IsFreshRecord (built.seg.0, not (live_rows built.live == length built.live)) (record_of built.seg built.live) = new_record built.seg built.live (count_by-le-length (λ (row : Bool). row) built.live) in
    (ap (λ (y : SegRecord). y.seg.0) (sym e) ∙ is.seg, ap (λ (y : SegRecord). y.live_gen) (sym e) ∙ is.live_gen)
each_fresh (Some built) r (suc k, lt, e) = absurd (omega (arith, lt))

-- ---- all
module _ (reads : Name → Content) (infos : Infos) (segs : List Shown) (docs : List Doc) (loose still : List ℕ) (task : FlushTask) (work : FlushWork) (held : List SegNo) (made : NextSegments)
    (spelled : CanSpell infos) (each : AllZip (IsSegmentIn reads) infos.segs segs) (stand : AreSegmentsOf docs segs) (numbered : AreNumbered infos loose)
    (same_segs : task.segs ≡ segs) (flushed : IsFlushOf task work) (is : IsNextOf infos.generation.0 infos.segs segs work held made)
    (drawn : IfSome task.seg (λ (seg : SegNo). Contains loose seg.0)) (few : is_some task.seg ≡ true → length segs < 256)
    (still_loose : (n : ℕ) → Contains still n → Contains loose n × IfSome task.seg (λ (seg : SegNo). seg.0 ≢ n))
    (filled : List ℕ) (unfilled : IfSome task.seg (λ (seg : SegNo). Contains filled seg.0 → ⊥)) where
  abbrev gone : Doc → Bool
  gone = removed_by task.ops

  abbrev ts : List Turn
  ts = staying infos.generation.0 held (turns infos.segs segs work.live)

  abbrev kept : List Kept
  kept = map kept_of ts

  abbrev older : List SegRecord
  older = map (record_after infos.generation.0) ts

  built : IsBuiltWork work.files
  built = (flush_fits reads infos.segs segs task work each same_segs flushed).0

  live_is : work.live ≡ map (live_change gone) segs
  live_is = flushed.live ∙ ap (map (live_change gone)) same_segs

  die : AllByRecursion SomeDieIn ts
  die = subst (λ (cs : List (Option (List Bool))). AllByRecursion SomeDieIn (staying infos.generation.0 held (turns infos.segs segs cs))) (sym live_is) (die_kept reads gone (stays infos.generation.0 held) infos.segs segs each)

  through_kept : (P : SegRecord → Type 0) → AllByRecursion P infos.segs → AllByRecursion (λ (k : Kept). P k.0) kept
  through_kept P all = through P (stays infos.generation.0 held) infos.segs segs work.live all

  drawn_of : (seg : Option SegNo) (new : Option SegFiles) → IsNewOf seg task.ops new → IfSome seg (λ (s : SegNo). Contains loose s.0) → IfSome (new_of new) (IsDrawn infos loose kept)
  drawn_of seg None n d = tt
  drawn_of None (Some b) n d = absurd n
  drawn_of (Some seg) (Some b) n d =
      let c : Contains loose b.seg.0 = subst (λ (s : SegNo). Contains loose s.0) (sym n.number) d in
      record { there = c; below = numbered.loose_below b.seg.0 c; apart = through_kept (λ (r : SegRecord). r.seg.0 ≢ b.seg.0) (recursion_from_All (λ (r : SegRecord). r.seg.0 ≢ b.seg.0) infos.segs (numbered.loose_apart b.seg.0 c)) }

  still_new : (seg : Option SegNo) (new : Option SegFiles) (m : ℕ) → IsNewOf seg task.ops new → IfSome seg (λ (s : SegNo). s.0 ≢ m) → IfSome (new_of new) (λ n. n.0 ≢ m)
  still_new seg None m n d = tt
  still_new None (Some b) m n d = absurd n
  still_new (Some seg) (Some b) m n d = λ e. d (ap (λ (s : SegNo). s.0) (sym n.number) ∙ e)

  unfilled_of : (seg : Option SegNo) (new : Option SegFiles) → IsNewOf seg task.ops new → IfSome seg (λ (s : SegNo). Contains filled s.0 → ⊥) → IfSome (new_of new) (λ n. Contains filled n.0 → ⊥)
  unfilled_of seg None n d = tt
  unfilled_of None (Some b) n d = absurd n
  unfilled_of (Some seg) (Some b) n d = λ c. d (subst (λ (s : SegNo). Contains filled s.0) n.number c)

  -- the new number is no input of a merge in flight
  other_of : (seg : Option SegNo) (new : Option SegFiles) → IsNewOf seg task.ops new → IfSome seg (λ (s : SegNo). Contains loose s.0) → (inputs : List SegNo) (ds : List (List Doc)) (noted : List (List Bool))
      → IsMergeOf (zip infos.segs segs) inputs ds noted → IsOther inputs new
  other_of seg None n d inputs ds noted flight = tt
  other_of None (Some b) n d inputs ds noted flight = absurd n
  other_of (Some seg) (Some b) n d inputs ds noted flight = no_input b.seg.0 infos.segs segs inputs ds noted flight
      (recursion_from_All (λ (r : SegRecord). r.seg.0 ≢ b.seg.0) infos.segs (numbered.loose_apart b.seg.0 (subst (λ (s : SegNo). Contains loose s.0) (sym n.number) d)))

  few_of : (seg : Option SegNo) (new : Option SegFiles) → IsNewOf seg task.ops new → (is_some seg ≡ true → length segs < 256) → length segs ≤ 256 → length segs + length (new_records new) ≤ 256
  few_of seg None n f le = omega (arith, le)
  few_of None (Some b) n f le = absurd n
  few_of (Some seg) (Some b) n f le = let lt : length segs < 256 = f refl in omega (arith, lt)

  of_kept : AllByRecursion (λ (k : Kept). Contains infos.segs k.0) kept
  of_kept = of_turns (stays infos.generation.0 held) infos.segs segs work.live

  apart_kept : AreApart kept
  apart_kept = apart_turns (stays infos.generation.0 held) infos.segs segs work.live spelled.apart

  drawn_new : IfSome (new_of work.files) (IsDrawn infos loose kept)
  drawn_new = drawn_of task.seg work.files flushed.files drawn

  still_apart : (n : ℕ) → Contains still n → Contains loose n × IfSome (new_of work.files) (λ m. m.0 ≢ n) × AllByRecursion (λ (k : Kept). k.0.seg.0 ≢ n) kept
  still_apart n c = ((still_loose n c).0, still_new task.seg work.files n flushed.files (still_loose n c).1, through_kept (λ (r : SegRecord). r.seg.0 ≢ n) (recursion_from_All (λ (r : SegRecord). r.seg.0 ≢ n) infos.segs (numbered.loose_apart n (still_loose n c).0)))

  older_are : AllZip (IsNextRecord infos.generation.0) kept older
  older_are = kept_are infos.generation.0 ts die

  written_are : names_of made.files ≡ new_names (new_of work.files) ++ raised_names infos.generation.0 kept
  written_are = ap names_of is.files_are ∙ map-append (λ (f : File). f.0) (new_files work.files) is.live_files
      ∙ ap (λ (ns : List Name). ns ++ names_of is.live_files) (new_names_are work.files built)
      ∙ ap (λ (ns : List Name). new_names (new_of work.files) ++ ns) (raised_are infos.generation.0 ts is.live_files is.changes)

  each_record : (r : SegRecord) → Contains made.records r
      → ((k : Kept) × (IsIn k kept × (r.seg.0 ≡ k.0.seg.0) × (r.live_gen ≡ gen_after infos.generation.0 k))) ⊎ IsSomeAnd (new_of work.files) (λ n. (r.seg.0 ≡ n.0) × (r.live_gen ≡ new_gen n))
  each_record r c = elim (Contains-append_cases older (new_records work.files) r (subst (λ (rs : List SegRecord). Contains rs r) is.records_are c)) [
    | inl a ↦ inl (each_is infos.generation.0 kept older older_are r a)
    | inr b ↦ inr (each_fresh work.files r b)
  ]

  -- THE NAMES of the pure step
  pub next_names_are : AreNextNames infos loose still kept (new_of work.files) made.records (names_of made.files)
  next_names_are = record {
    of = of_kept;
    bounded = through_kept (Fits infos) (all_fit infos infos.segs numbered.generation (recursion_from_All (IsDrawnRecord infos) infos.segs numbered.segs) (rows_fit reads infos.segs segs each));
    small = drawn_fits infos.generation.0 infos.counter numbered.generation numbered.counter;
    apart = apart_kept;
    drawn = drawn_new;
    still_apart = still_apart;
    each = each_record;
    written_are = written_are;
  }

  few_next : length older + length (new_records work.files) ≤ 256
  few_next =
      let many : length infos.segs ≡ length segs = as_many reads infos.segs segs each in
      let most : length segs ≤ 256 = subst (λ (n : ℕ). n ≤ 256) many spelled.few in
      let le : length segs + length (new_records work.files) ≤ 256 = few_of task.seg work.files flushed.files few most in
      omega (arith, many, le, next_few infos.generation.0 held infos.segs segs work made is, ap (λ (rs : List SegRecord). length rs) is.records_are, length-append older (new_records work.files))

  -- THE RECORDS of the pure step
  pub next_records_are : AreNextRecords infos loose still kept (new_of work.files) made.records
  next_records_are = record {
    older = older;
    fresh = new_records work.files;
    records_are = is.records_are;
    kept_are = older_are;
    fresh_are = fresh_are work.files;
    of = of_kept;
    apart = apart_kept;
    drawn = drawn_new;
    still_apart = still_apart;
    few = few_next;
  }

  stand_next : AreSegmentsOf (after_ops docs task.ops) made.segs
  stand_next = publish_stand reads infos.generation.0 infos.segs segs docs task work held made each stand same_segs flushed is

  named_next : (q : Name) → Contains (flat_map files_of_segment made.records) q → Contains (flat_map files_of_segment infos.segs) q ⊎ (is_among (names_of made.files) q ≡ true)
  named_next q c = elim (All-contains (λ (n : Name). Contains (flat_map files_of_segment infos.segs) n ⊎ Contains (names_in made.files) n) (flat_map files_of_segment made.records) q
      (All-from_recursion (λ (n : Name). Contains (flat_map files_of_segment infos.segs) n ⊎ Contains (names_in made.files) n) (flat_map files_of_segment made.records) (names_are_there infos.generation.0 held infos.segs segs work made built is)) c) [
        | inl a ↦ inl a
        | inr b ↦ inr (among_of (names_of made.files) q b)
      ]

  unfilled_next : IfSome (new_of work.files) (λ n. Contains filled n.0 → ⊥)
  unfilled_next = unfilled_of task.seg work.files flushed.files unfilled

  -- THE PURE STEP IS A STEP OF THE PRIMARY
  pub step_of : IsStep infos segs loose still filled held made.records made.segs made.files
  step_of = record {
    spelled = next_spelled infos loose still kept (new_of work.files) made.records next_records_are spelled numbered;
    numbered = next_numbered infos loose still kept (new_of work.files) made.records next_records_are spelled numbered;
    docs = after_ops docs task.ops;
    stand = stand_next;
    stands = λ before after there same all. (publish_stands before after infos (next_infos infos made.records) segs docs task work held made (record { each = there; stand = stand }) same_segs flushed is refl same all).each;
    named = named_next;
    once = written_once infos loose still kept (new_of work.files) made.records (names_of made.files) next_names_are filled unfilled_next;
    undrawn = written_undrawn infos loose still kept (new_of work.files) made.records (names_of made.files) next_names_are filled unfilled_next;
    own = written_own infos loose still kept (new_of work.files) made.records (names_of made.files) next_names_are filled unfilled_next;
    rest = still_undrawn infos loose still kept (new_of work.files) made.records (names_of made.files) next_names_are filled unfilled_next;
    flights = λ inputs ds noted needed flight. publish_keeps_merge infos.generation.0 infos.segs segs task work held inputs made ds noted flushed same_segs is (other_of task.seg work.files flushed.files drawn inputs ds noted flight) needed flight;
  }
