-- A cut-over in the words of the primary: its records, the name that it writes, and what is not written yet afterwards.
use Rattle.std.proofs.Common.{◌≡◌, ◌≢◌, ◌<◌, ◌≤◌, ◌+◌, ◌-◌, ◌*◌, ◌/◌, ◌^◌, max, ◌==◌, cond, ℕ, suc, Bool, true, false, List, [], ◌∷◌, ◌++◌, ◌⊎◌, inl, inr, Option, Some, None, length, map, refl, sym, ap, subst, ◌∙◌, arith, All, true≢false}
use Rattle.std.specs.List.{AllByRecursion, AllZip, Contains, filter, flat_map, list_any, zip}
use Rattle.std.proofs.lemmas.Bool.{or_cases}
use Rattle.std.proofs.lemmas.List.Elements.{All-contains, All-contains_itself, All-from_recursion, recursion_from_All, Contains-append_cases}
use Rattle.std.proofs.lemmas.Slice.Zip.{AllZip-long}
use Rattle.nrt_base.specs.declared.doc.Doc.{Doc}
use Rattle.nrt_base.specs.declared.numbers.SegNo.{SegNo}
use Rattle.disk_model.specs.Disk.{Name, Content, Cells, is_among, same, reads_of}
use Rattle.disk_model.proofs.CellLemmas.{same_true}
use Rattle.file_names.specs.Names.{part_name_of, live_name_of}
use Rattle.file_names.specs.declared.composed.SegPart.{SegPart}
use Rattle.file_names.proofs.NameLaws.{live_name_apart, part_name_not_live}
use Rattle.live_bits.specs.LiveRows.{live_rows}
use Rattle.segment_infos.specs.declared.infos.SegRecord.{SegRecord}
use Rattle.segment_infos.specs.declared.infos.Infos.{Infos}
use Rattle.segment_infos.specs.Infos.{CanSpell, IsRecord}
use Rattle.segment_infos.specs.Files.{files_of_segment}
use Rattle.seg_reader.specs.Shown.{Shown}
use Rattle.seg_reader.specs.Stands.{IsSegmentIn, AreSegmentsOf, StandsWith}
use Rattle.segment_steps.specs.Given.{File, record_of}
use Rattle.seg_merge.specs.declared.task.Merged.{Merged}
use Rattle.seg_merge.specs.Merging.{docs_by_input}
use Rattle.file_deleter.specs.Holdings.{times}
use Rattle.file_deleter.proofs.NameLemmas.{times-cons}
use Rattle.commit_steps.proofs.Safe.{among_of}
use Rattle.segment_steps.specs.declared.next.NextSegments.{NextSegments}
use Rattle.segment_steps.specs.Next.{Turn, record_by, record_after, stays, is_changed, next_live_gen, live_base, record_generation, IsLiveFileAfter, IsReadBack}
use Rattle.segment_steps.specs.CutOver.{Part, is_one_of, inputs_in, in_place, part_after, merged_turn, merged_turns, IsMergeOf, IsCutOf}
use Rattle.segment_steps.proofs.Merges.{cut_over_keeps}
use Rattle.segment_steps.proofs.CuttingOver.{Each, each_in_place, now_in, cut_over_stands, cut_over_stand}
use Rattle.segment_steps.proofs.AfterPublish.{IsFine}
use Rattle.segment_steps.proofs.AfterCutOver.{cut_fine, cut_named}
use Rattle.segment_steps.proofs.CutNumbers.{cut_apart, cut_few, IsOneLiveFile, cut_written}
use Rattle.index_primary.specs.declared.parts.PrimaryParts.{PrimaryParts}
use Rattle.index_primary.specs.declared.states.Merging.{Merging}
use Rattle.index_primary.specs.Held.{IsUndrawn, IsUnused, part, live, next_live, IsDrawnRecord, IsOwnFile, AreNumbered, drawn_to}
use Rattle.index_primary.specs.Merges.{merge_of, merges_without, IsMade, IsMadeBy, IsMerging, AreOtherMerges}
use Rattle.index_primary.specs.Primary.{loose_of, IsUnwritten, IsPrimary}
use Rattle.index_primary.specs.Written.{names_of}
use Rattle.index_primary.proofs.Drawing.{drawn_small}
use Rattle.index_primary.proofs.MergeLists.{number_of, all_at, all_without, others_at, parts_of, no_input}
use Rattle.index_primary.specs.MergeCalls.{loose_left, filled_left}
use Rattle.index_primary.specs.CutOverCalls.{infos_of}
use Rattle.index_primary.proofs.Abandoned.{loose_within, is_loose, not_left, unused_within, outs_within}

-- ---- parts
parts_out : (P : SegRecord → Type 0) (ps : List Part) → Each (λ p. P p.0) ps → AllByRecursion P (map (λ (p : Part). p.0) ps)
parts_out P [] all = tt
parts_out P (p ∷ ps) all = (all.0, parts_out P ps all.1)

unzipped : (ps : List Part) → zip (map (λ (p : Part). p.0) ps) (map (λ (p : Part). p.1) ps) ≡ ps
unzipped [] = refl
unzipped (p ∷ ps) = ap (λ (l : List Part). p ∷ l) (unzipped ps)

weaker_records : (P Q : SegRecord → Type 0) → ((r : SegRecord) → P r → Q r) → (rs : List SegRecord) → AllByRecursion P rs → AllByRecursion Q rs
weaker_records P Q f [] all = tt
weaker_records P Q f (r ∷ rs) all = (f r all.0, weaker_records P Q f rs all.1)

-- ---- what is written
named_by : (files : List File) (q : Name) → is_among (names_of files) q ≡ true → (f : File) × (Contains files f × (f.0 ≡ q))
named_by [] q h = absurd (true≢false (sym h))
named_by (x ∷ files) q h = elim (or_cases (same x.0 q) (is_among (names_of files) q) h) [
  | inl here ↦ (x, ((0, omega arith, refl), same_true x.0 q here))
  | inr rest ↦ (let m = named_by files q rest in (m.0, ((suc m.1.0.0, (let lt = m.1.0.1 in omega (arith, lt)), m.1.0.2), m.1.1)))
]

one_once : (files : List File) (q : Name) → length files ≤ 1 → times (names_of files) q ≤ 1
one_once [] q few = let e : times [] q ≡ 0 = refl in omega (arith, e)
one_once (x ∷ []) q few = by (same x.0 q) (times-cons x.0 [] q)
  where
    by : (b : Bool) → times (x.0 ∷ []) q ≡ cond b 1 0 + times [] q → times (x.0 ∷ []) q ≤ 1
    by true e = let z : times [] q ≡ 0 = refl in omega (arith, e, z)
    by false e = let z : times [] q ≡ 0 = refl in omega (arith, e, z)
one_once (x ∷ y ∷ files) q few = absurd (omega (arith, few))

-- where a file is written, the record has its live generation
written_gen : (g : ℕ) (b : Bool) (r : SegRecord) (s : Shown) (c : Option (List Bool)) (files : List File) → AllZip (IsLiveFileAfter g) (filter is_changed (cond b ((r, (s, c)) ∷ []) [])) files → (f : File) → Contains files f
    → (record_by g r c).live_gen ≡ next_live_gen g r
written_gen g b r s c [] zip f at = absurd (omega (arith, at.1))
written_gen g false r s c (x ∷ files) zip f at = absurd zip
written_gen g true r s None (x ∷ files) zip f at = absurd zip
written_gen g true r s (Some rows) (x ∷ files) zip f at = refl

same_number : (g : ℕ) (r : SegRecord) (c : Option (List Bool)) → (record_by g r c).seg ≡ r.seg
same_number g r None = refl
same_number g r (Some rows) = refl

not_among : (names : List Name) (q : Name) → (is_among names q ≡ true → ⊥) → is_among names q ≡ false
not_among names q never = by (is_among names q) refl
  where
    by : (b : Bool) → is_among names q ≡ b → is_among names q ≡ false
    by true e = absurd (never e)
    by false e = e

-- ---- all
module _ {D : Type 0} (cells : D → Cells) (p : PrimaryParts D) (is : IsPrimary cells p) (seg : SegNo) (m : Merging) (found : merge_of seg.0 p.merges ≡ Some m) (merged : Merged) (is_merged : m.merged ≡ Some merged)
    (shown : Shown) (back : IsReadBack merged.files shown) (made : NextSegments) (cut : IsCutOf p.infos.generation.0 (zip p.infos.segs p.segs) m.inputs merged shown made) where
  abbrev g : ℕ
  g = p.infos.generation.0

  abbrev rs : List SegRecord
  rs = p.infos.segs

  abbrev ps : List Part
  ps = zip p.infos.segs p.segs

  abbrev r0 : SegRecord
  r0 = record_of merged.files.seg merged.files.live

  abbrev t : Turn
  t = merged_turn merged shown (now_in m.inputs ps)

  abbrev new : List Part
  new = map (part_after g) (merged_turns g merged shown (now_in m.inputs ps))

  abbrev pub next : Infos
  next = infos_of p.infos made.records

  mine : IsMerging (reads_of (cells p.dir)) rs p.segs m
  mine = all_at (IsMerging (reads_of (cells p.dir)) rs p.segs) seg.0 p.merges m is.merging found

  pub is_made : IsMade (reads_of (cells p.dir)) m merged
  is_made = subst (λ (o : Option Merged). IsMadeBy (reads_of (cells p.dir)) m o) is_merged mine.made

  number : merged.files.seg.0 ≡ seg.0
  number = ap (λ (s : SegNo). s.0) is_made.of.number ∙ number_of seg.0 p.merges m found

  below : seg.0 < drawn_to p.infos
  below = is.numbered.loose_below seg.0 (is_loose cells p is seg m found)

  small : seg.0 < 2 ^ 64
  small = drawn_small p.infos (loose_of p) seg.0 is.numbered below

  -- no segment of the infos has its number
  no_segment : AllByRecursion (λ (r : SegRecord). r.seg.0 ≢ seg.0) rs
  no_segment = recursion_from_All (λ (r : SegRecord). r.seg.0 ≢ seg.0) rs (is.numbered.loose_apart seg.0 (is_loose cells p is seg m found))

  other_segment : (r : SegRecord) → Contains rs r → r.seg.0 ≢ seg.0
  other_segment r c = All-contains (λ (x : SegRecord). x.seg.0 ≢ seg.0) rs r (is.numbered.loose_apart seg.0 (is_loose cells p is seg m found)) c

  -- ---- records
  made_by : (n counter generation : ℕ) → n < generation * 1679616 + counter → counter ≤ 1679616 → n / 1679616 ≤ generation
  made_by n counter generation lt most = omega (arith, lt, most)

  all_fine : AllByRecursion (IsFine g) rs
  all_fine = recursion_from_All (IsFine g) rs
      (λ k d lt. let b = is.numbered.segs k d lt in let r = is.writer.spelled.records k d lt in (record { made = b.made; live_gen = b.live_gen; live = r.most }, r))

  fine : AllByRecursion (IsFine g) made.records
  fine = cut_fine g rs p.segs m.inputs m.task merged shown made is_made.of cut
      (subst (λ (k : ℕ). k / 1679616 ≤ g) (sym number) (made_by seg.0 p.infos.counter g below is.numbered.counter)) all_fine

  -- each is one of the infos', or that of the merged segment
  abbrev IsOldOrNew : SegRecord → Type 0
  IsOldOrNew r = Contains rs r ⊎ (r ≡ record_after g t)

  old_or_new : AllByRecursion IsOldOrNew made.records
  old_or_new = subst (AllByRecursion IsOldOrNew) (sym cut.records_are) (parts_out IsOldOrNew (in_place m.inputs new ps)
      (each_in_place (λ (q : Part). IsOldOrNew q.0) m.inputs new ps (fresh (stays g [] t))
      (parts_of IsOldOrNew rs p.segs (weaker_records (Contains rs) IsOldOrNew (λ r c. inl c) rs (recursion_from_All (Contains rs) rs (All-contains_itself rs))))))
    where
      fresh : (b : Bool) → Each (λ (q : Part). IsOldOrNew q.0) (map (part_after g) (cond b (t ∷ []) []))
      fresh true = (inr refl, tt)
      fresh false = tt

  record_is : (r : SegRecord) → Contains made.records r → IsOldOrNew r
  record_is r c = All-contains IsOldOrNew made.records r (All-from_recursion IsOldOrNew made.records old_or_new) c

  new_number : (r : SegRecord) → r ≡ record_after g t → r.seg.0 ≡ seg.0
  new_number r e = ap (λ (x : SegRecord). x.seg.0) e ∙ ap (λ (s : SegNo). s.0) (same_number g t.0 t.1.1) ∙ number

  pub cut_spelled : CanSpell next
  cut_spelled = record {
    generation = is.writer.spelled.generation;
    version = is.writer.spelled.version;
    few = omega (arith, cut_few g rs p.segs m.inputs merged shown made cut, is.writer.spelled.few);
    records = All-from_recursion IsRecord made.records (weaker_records (IsFine g) IsRecord (λ r f. f.1) made.records fine);
    apart = cut_apart g rs p.segs m.inputs merged shown made cut is.writer.spelled.apart
        (parts_of (λ (r : SegRecord). merged.files.seg.0 ≢ r.seg.0) rs p.segs (weaker_records (λ (r : SegRecord). r.seg.0 ≢ seg.0) (λ (r : SegRecord). merged.files.seg.0 ≢ r.seg.0) (λ r apart e. apart (sym e ∙ number)) rs no_segment));
  }

  drawn_each : (r : SegRecord) → IsOldOrNew r → IsFine g r → IsDrawnRecord next r
  drawn_each r (inl c) f = record { below = (All-contains (IsDrawnRecord p.infos) rs r is.numbered.segs c).below; made = f.0.made; live_gen = f.0.live_gen }
  drawn_each r (inr e) f = record { below = omega (arith, new_number r e, below); made = f.0.made; live_gen = f.0.live_gen }

  drawn_all : (qs : List SegRecord) → AllByRecursion IsOldOrNew qs → AllByRecursion (IsFine g) qs → AllByRecursion (IsDrawnRecord next) qs
  drawn_all [] a b = tt
  drawn_all (q ∷ qs) a b = (drawn_each q a.0 b.0, drawn_all qs a.1 b.1)

  pub cut_numbered : AreNumbered next (loose_left p seg)
  cut_numbered = record {
    generation = is.numbered.generation;
    counter = is.numbered.counter;
    segs = All-from_recursion (IsDrawnRecord next) made.records (drawn_all made.records old_or_new fine);
    loose_below = λ k c. is.numbered.loose_below k (loose_within cells p is seg m found k c);
    loose_apart = λ k c. All-from_recursion (λ (r : SegRecord). r.seg.0 ≢ k) made.records (weaker_records IsOldOrNew (λ (r : SegRecord). r.seg.0 ≢ k) (apart k c) made.records old_or_new);
  }
    where
      apart : (k : ℕ) → Contains (loose_left p seg) k → (r : SegRecord) → IsOldOrNew r → r.seg.0 ≢ k
      apart k c r (inl old) = All-contains (λ (x : SegRecord). x.seg.0 ≢ k) rs r (is.numbered.loose_apart k (loose_within cells p is seg m found k c)) old
      apart k c r (inr e) = λ same. not_left cells p is seg m found (subst (Contains (loose_left p seg)) (sym same ∙ new_number r e) c)

  -- ---- names
  one : IsOneLiveFile g r0 made.files
  one = cut_written g ps m.inputs merged shown made cut

  -- the one written name is that of the merged segment's live file, which its record then has
  record WritesLive (q : Name) : Type 0 where
    name : q ≡ live_name_of seg.0 (next_live_gen g r0)
    gen : (record_after g t).live_gen ≡ next_live_gen g r0

  writes : (q : Name) → is_among (names_of made.files) q ≡ true → WritesLive q
  writes q there =
      let f = named_by made.files q there in
      record {
        name = sym f.1.1 ∙ one.named f.0 f.1.0 ∙ ap (λ (k : ℕ). live_name_of k (next_live_gen g r0)) number;
        gen = written_gen g (stays g [] t) t.0 t.1.0 t.1.1 made.files cut.changes f.0 f.1.0;
      }

  pub cut_once : (q : Name) → times (names_of made.files) q ≤ 1
  cut_once q = one_once made.files q one.few

  -- its live generation takes 64 bits
  gen_small : next_live_gen g r0 < 2 ^ 64
  gen_small = fits (live_base g r0) base_is
    where
      -- it was made in this generation or before
      base_is : live_base g r0 ≤ g * 4294967296
      base_is = base g (record_generation r0)
        where
          base : (a b : ℕ) → (a - b) * 4294967296 ≤ a * 4294967296
          base a b = omega arith

      fits : (base : ℕ) → base ≤ g * 4294967296 → max r0.live_gen base + 1 < 2 ^ 64
      fits base le = most r0.live_gen base (no_more (live_rows merged.files.live == length merged.files.live)) le
        where
          no_more : (b : Bool) → cond b 0 1 ≤ 1
          no_more true = omega arith
          no_more false = omega arith

          most : (own base : ℕ) → own ≤ 1 → base ≤ g * 4294967296 → max own base + 1 < 2 ^ 64
          most own base few le = let h = is.numbered.generation in omega (arith, few, le, h)

  pub cut_unwritten : (q : Name) → is_among (names_of made.files) q ≡ true → IsUnwritten p q
  cut_unwritten q there = let w = writes q there in live seg.0 (next_live_gen g r0) (small, inr (is_loose cells p is seg m found)) gen_small w.name

  pub cut_own : (q : Name) → is_among (names_of made.files) q ≡ true → IsOwnFile p.infos (loose_of p) q
  cut_own q there = let w = writes q there in (seg.0, inl (is_loose cells p is seg m found), (small, inr (next_live_gen g r0, gen_small, w.name)))

  -- each name is one of the infos' or of the merged segment's files, or is written
  abbrev IsNamed : Name → Type 0
  IsNamed n = Contains (flat_map files_of_segment rs ++ names_of merged.files.files) n ⊎ Contains (names_of made.files) n

  pub cut_names : (q : Name) → Contains (flat_map files_of_segment made.records) q → (Contains (flat_map files_of_segment rs) q ⊎ (is_among (names_of merged.files.files) q ≡ true)) ⊎ (is_among (names_of made.files) q ≡ true)
  cut_names q c = elim (All-contains IsNamed (flat_map files_of_segment made.records) q (All-from_recursion IsNamed (flat_map files_of_segment made.records) (cut_named g rs p.segs m.inputs m.task merged shown made is_made.of cut)) c) [
    | inl old ↦ (elim (Contains-append_cases (flat_map files_of_segment rs) (names_of merged.files.files) q old) [ inl a ↦ inl (inl a) | inr b ↦ inl (inr (among_of (names_of merged.files.files) q b)) ])
    | inr written ↦ inr (among_of (names_of made.files) q written)
  ]

  -- ---- what is not written yet afterwards was not before, and is not what is written
  old_small : (r : SegRecord) → Contains rs r → r.seg.0 < 2 ^ 64
  old_small r c = drawn_small p.infos (loose_of p) r.seg.0 is.numbered (All-contains (IsDrawnRecord p.infos) rs r is.numbered.segs c).below

  part_out : (k : ℕ) (which : SegPart) (q : Name) → k < 2 ^ 64 → q ≡ part_name_of k which → is_among (names_of made.files) q ≡ true → ⊥
  part_out k which q fits e there = let w = writes q there in part_name_not_live k seg.0 (next_live_gen g r0) which fits small gen_small (sym e ∙ w.name)

  live_out : (k live_gen : ℕ) (q : Name) → k < 2 ^ 64 → live_gen < 2 ^ 64 → k ≢ seg.0 → q ≡ live_name_of k live_gen → is_among (names_of made.files) q ≡ true → ⊥
  live_out k live_gen q fits gen_fits other e there = let w = writes q there in other (live_name_apart k seg.0 live_gen (next_live_gen g r0) fits small gen_fits gen_small (sym e ∙ w.name)).0

  not_unused : (k : ℕ) → IsUnused p.infos (loose_left p seg) k → k ≢ seg.0
  not_unused k (fits, inl le) = λ e. omega (arith, e, le, below)
  not_unused k (fits, inr c) = λ e. not_left cells p is seg m found (subst (Contains (loose_left p seg)) e c)

  pub cut_rest : (q : Name) → IsUndrawn next (loose_left p seg) (filled_left p seg) q → IsUnwritten p q × (is_among (names_of made.files) q ≡ false)
  cut_rest q (part k which unused out e) = (
    part k which (unused_within cells p is seg m found k unused) (outs_within cells p is seg m found k unused out) e,
    not_among (names_of made.files) q (part_out k which q unused.0 e),
  )
  cut_rest q (live k live_gen unused fits e) = (
    live k live_gen (unused_within cells p is seg m found k unused) fits e,
    not_among (names_of made.files) q (live_out k live_gen q unused.0 fits (not_unused k unused) e),
  )
  cut_rest q (next_live r live_gen h e) = by (record_is r h.of)
    where
      by : IsOldOrNew r → IsUnwritten p q × (is_among (names_of made.files) q ≡ false)
      by (inl old) = (
        next_live r live_gen (record { of = old; above = h.above; apart = h.apart; small = h.small }) e,
        not_among (names_of made.files) q (live_out r.seg.0 live_gen q (old_small r old) h.small (other_segment r old) e),
      )
      by (inr same) = (
        live seg.0 live_gen (small, inr (is_loose cells p is seg m found)) h.small (e ∙ ap (λ (k : ℕ). live_name_of k live_gen) (new_number r same)),
        not_among (names_of made.files) q (λ there.
            let w = writes q there in
            let e' : q ≡ live_name_of seg.0 live_gen = e ∙ ap (λ (k : ℕ). live_name_of k live_gen) (new_number r same) in
            let gens : live_gen ≡ next_live_gen g r0 = (live_name_apart seg.0 seg.0 live_gen (next_live_gen g r0) small small h.small gen_small (sym e' ∙ w.name)).1 in
            later live_gen (next_live_gen g r0) gens (subst (λ (k : ℕ). k < live_gen) (ap (λ (x : SegRecord). x.live_gen) same ∙ w.gen) h.above)),
      )
        where
          later : (a b : ℕ) → a ≡ b → b < a → ⊥
          later a b e lt = omega (arith, e, lt)

  -- ---- documents
  pub cut_stands : (after : Name → Content) (docs : List Doc) → AreSegmentsOf docs p.segs → ((q : Name) → Contains (flat_map files_of_segment rs) q → after q ≡ reads_of (cells p.dir) q)
      → All (λ (f : File). after f.0 ≡ Some f.1) merged.files.files → All (λ (f : File). after f.0 ≡ Some f.1) made.files → StandsWith after next made.segs docs
  cut_stands after docs stand same reads_merged reads =
      cut_over_stands (reads_of (cells p.dir)) after p.infos next p.segs docs m.inputs m.task merged shown made (record { each = is.writer.stands.each; stand = stand }) mine.flight is_made.of back cut refl same reads_merged reads

  pub cut_documents : (docs : List Doc) → AreSegmentsOf docs p.segs → AreSegmentsOf docs made.segs
  cut_documents docs stand = cut_over_stand g rs p.segs docs m.inputs m.task merged shown made (AllZip-long (IsSegmentIn (reads_of (cells p.dir))) rs p.segs is.writer.stands.each) stand mine.flight is_made.of back cut

  -- ---- the other merges
  these : zip made.records made.segs ≡ in_place m.inputs new ps
  these = ap (λ (l : List SegRecord). zip l made.segs) cut.records_are ∙ ap (zip (map (λ (q : Part). q.0) (in_place m.inputs new ps))) cut.segs_are ∙ unzipped (in_place m.inputs new ps)

  none_of_new : (inputs : List SegNo) → list_any (λ (s : SegNo). s.0 == seg.0) inputs ≡ false → inputs_in inputs new ≡ []
  none_of_new inputs none = by (stays g [] t)
    where
      has : is_one_of inputs (part_after g t) ≡ false
      has = ap (λ (k : ℕ). list_any (λ (s : SegNo). s.0 == k) inputs) (new_number (record_after g t) refl) ∙ none

      by : (b : Bool) → inputs_in inputs (map (part_after g) (cond b (t ∷ []) [])) ≡ []
      by true = ap (λ (b : Bool). cond b (part_after g t ∷ []) []) has
      by false = refl

  kept : (x : Merging) → AreOtherMerges x m → IsMerging (reads_of (cells p.dir)) rs p.segs x → IsMerging (reads_of (cells p.dir)) made.records made.segs x
  kept x other h = record {
    flight = subst (λ (qs : List Part). IsMergeOf qs x.inputs (docs_by_input x.task.inputs) x.task.live) (sym these)
        (cut_over_keeps x.inputs m.inputs (λ q there. other.inputs q.0.seg.0 there) new ps (docs_by_input x.task.inputs) x.task.live h.flight
        (none_of_new x.inputs (no_input seg.0 rs p.segs x.inputs (docs_by_input x.task.inputs) x.task.live h.flight no_segment)));
    made = h.made;
  }

  kept_all : (ms : List Merging) → AllByRecursion (λ x. AreOtherMerges x m) ms → AllByRecursion (IsMerging (reads_of (cells p.dir)) rs p.segs) ms → AllByRecursion (IsMerging (reads_of (cells p.dir)) made.records made.segs) ms
  kept_all [] others all = tt
  kept_all (x ∷ ms) others all = (kept x others.0 all.0, kept_all ms others.1 all.1)

  pub cut_keeps : AllByRecursion (IsMerging (reads_of (cells p.dir)) made.records made.segs) (merges_without seg.0 p.merges)
  cut_keeps = kept_all (merges_without seg.0 p.merges) (others_at seg.0 p.merges m is.merges_apart found) (all_without (IsMerging (reads_of (cells p.dir)) rs p.segs) seg.0 p.merges is.merging)
