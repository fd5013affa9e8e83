-- The files that infos hold are framed, and their names are short.
use Rattle.std.proofs.Common.{◌≡◌, ◌⊎◌, ◌==◌, if◌then◌else◌, ◌<◌, ◌≤◌, ◌^◌, ℕ, zero, suc, Bool, true, false, List, [], ◌∷◌, Option, Some, None, refl, sym, subst, arith, inl, inr, length, get_or, codes, All}
use Rattle.std.specs.List.{AllZip, Contains, flat_map}
use Rattle.std.specs.List.Sorted.{IsStrictlySortedBy}
use Rattle.std.proofs.lemmas.List.Elements.{Contains-append_cases, Contains-get_or}
use Rattle.segment_infos.specs.Given.{IsFile}
use Rattle.codec_frame.specs.Frame.{Wanted}
use Rattle.disk_model.specs.Disk.{Name, Content}
use Rattle.file_names.specs.Names.{part_name_of, live_name_of}
use Rattle.file_names.specs.declared.composed.SegPart.TheVariants.{Docs, Post, Info}
use Rattle.file_names.proofs.NameLaws.{length-part_name-le, length-live_name-le}
use Rattle.segment_infos.specs.declared.infos.SegRecord.{SegRecord}
use Rattle.segment_infos.specs.declared.infos.Infos.{Infos}
use Rattle.segment_infos.specs.Infos.{RecordFits}
use Rattle.segment_infos.specs.Files.{files_of_segment}
use Rattle.segment_steps.specs.Given.{Shown, AreLiveRowsOf, IsLiveFileIn, IsSegmentIn}
use Rattle.std.proofs.lemmas.Bool.Decides.{nat_tests}
use Rattle.file_names.specs.Base36.{base36_of}
use Rattle.file_names.proofs.Base36Lemmas.{spelling_of}
use Rattle.copy_state.specs.States.{AreShortNames}
use Rattle.index_primary.specs.Held.{IsHeld}
use Rattle.index_primary.specs.States.{IsFramedIn}

of_file : (reads : Name → Content) (q : Name) {X : Type 0} (Spells : List ℕ → X → Type 0) (want : Wanted) (id : List ℕ) (x : X) (bytes : List ℕ) → reads q ≡ Some bytes → IsFile Spells want id x bytes
    → want.max < 2 ^ 32 → length want.name < 128 → length want.suffix < 256 → IsFramedIn reads q
of_file reads q Spells want id x bytes there file small name suffix =
    record { bytes = bytes; there = there; file = record { want = want; version = want.min; id = id; body = file.body; framed = file.framed; small = small; short_name = name; short_suffix = suffix } }

-- ---- one segment
module _ (reads : Name → Content) (r : SegRecord) (shown : Shown) (fits : RecordFits r) (h : IsSegmentIn reads r shown) where
  framed_docs : IsFramedIn reads (part_name_of r.seg.0 Docs)
  framed_docs = let n : length (codes "NrtDocs") ≡ 7 = refl in
      of_file reads (part_name_of r.seg.0 Docs) _ _ _ _ h.parts.docs h.files.docs h.segment.docs (omega arith) (omega (arith, n)) (omega arith)

  framed_post : IsFramedIn reads (part_name_of r.seg.0 Post)
  framed_post = let n : length (codes "NrtPostings") ≡ 11 = refl in
      of_file reads (part_name_of r.seg.0 Post) _ _ _ _ h.parts.post h.files.post h.segment.post (omega arith) (omega (arith, n)) (omega arith)

  framed_info : IsFramedIn reads (part_name_of r.seg.0 Info)
  framed_info = let n : length (codes "NrtSegmentInfo") ≡ 14 = refl in
      of_file reads (part_name_of r.seg.0 Info) _ _ _ _ h.parts.info h.files.info h.segment.info (omega arith) (omega (arith, n)) (omega arith)

  framed_live : (0 < r.live_gen) → IsFramedIn reads (live_name_of r.seg.0 r.live_gen)
  framed_live some = by h.parts.live h.files.live h.segment.live
    where
      by : (live : Option (List ℕ)) → IsLiveFileIn reads r live → AreLiveRowsOf live r shown.live → IsFramedIn reads (live_name_of r.seg.0 r.live_gen)
      by None none rows = absurd (omega (arith, some, none))
      by (Some bytes) there rows = let n : length (codes "NrtLive") ≡ 7 = refl in let few : length (base36_of r.live_gen) ≤ 13 = (spelling_of r.live_gen fits.live_gen).few in
          of_file reads (live_name_of r.seg.0 r.live_gen) _ _ _ _ bytes there.1 rows.0 (omega arith) (omega (arith, n)) (omega (arith, few))

  at_live : (test : Bool) → (r.live_gen == 0) ≡ test → (i : ℕ) (q : Name) → i < length (if test then [] else live_name_of r.seg.0 r.live_gen ∷ [])
      → get_or (if test then [] else live_name_of r.seg.0 r.live_gen ∷ []) i q ≡ q → IsFramedIn reads q
  at_live true e i q lt is = absurd (omega (arith, lt))
  at_live false e zero q lt is = subst (IsFramedIn reads) is (framed_live (grind (arith, nat_tests, e)))
  at_live false e (suc i) q lt is = absurd (omega (arith, lt))

  at_file : (i : ℕ) (q : Name) → i < length (files_of_segment r) → get_or (files_of_segment r) i q ≡ q → IsFramedIn reads q
  at_file zero q lt is = subst (IsFramedIn reads) is framed_docs
  at_file (suc zero) q lt is = subst (IsFramedIn reads) is framed_post
  at_file (suc (suc zero)) q lt is = subst (IsFramedIn reads) is framed_info
  at_file (suc (suc (suc i))) q lt is = at_live (r.live_gen == 0) refl i q (omega (arith, lt)) is

  -- the names of its files are short
  short_live : (test : Bool) (i : ℕ) (q : Name) → i < length (if test then [] else live_name_of r.seg.0 r.live_gen ∷ [])
      → get_or (if test then [] else live_name_of r.seg.0 r.live_gen ∷ []) i q ≡ q → length q ≤ 46
  short_live true i q lt is = absurd (omega (arith, lt))
  short_live false zero q lt is = subst (λ (x : Name). length x ≤ 46) is (omega (arith, length-live_name-le r.seg.0 r.live_gen fits.seg fits.live_gen))
  short_live false (suc i) q lt is = absurd (omega (arith, lt))

  short_file : (i : ℕ) (q : Name) → i < length (files_of_segment r) → get_or (files_of_segment r) i q ≡ q → length q ≤ 46
  short_file zero q lt is = subst (λ (x : Name). length x ≤ 46) is (omega (arith, length-part_name-le r.seg.0 Docs fits.seg))
  short_file (suc zero) q lt is = subst (λ (x : Name). length x ≤ 46) is (omega (arith, length-part_name-le r.seg.0 Post fits.seg))
  short_file (suc (suc zero)) q lt is = subst (λ (x : Name). length x ≤ 46) is (omega (arith, length-part_name-le r.seg.0 Info fits.seg))
  short_file (suc (suc (suc i))) q lt is = short_live (r.live_gen == 0) i q (omega (arith, lt)) is

-- ---- the segments of infos
framed_in : (reads : Name → Content) (records : List SegRecord) (segs : List Shown) → All RecordFits records → AllZip (IsSegmentIn reads) records segs
    → (q : Name) → Contains (flat_map files_of_segment records) q → IsFramedIn reads q × (length q ≤ 46)
framed_in reads [] [] fits h q c = absurd (omega (arith, c.1))
framed_in reads [] (s ∷ ss) fits h q c = absurd h
framed_in reads (r ∷ rs) [] fits h q c = absurd h
framed_in reads (r ∷ rs) (s ∷ ss) fits h q c = by (framed_in reads rs ss (λ k d lt. fits (suc k) d (omega (arith, lt))) h.1 q) (Contains-append_cases (files_of_segment r) (flat_map files_of_segment rs) q c)
  where
    by : (Contains (flat_map files_of_segment rs) q → IsFramedIn reads q × (length q ≤ 46)) → Contains (files_of_segment r) q ⊎ Contains (flat_map files_of_segment rs) q → IsFramedIn reads q × (length q ≤ 46)
    by more (inl here) = (at_file reads r s (fits 0 r (omega arith)) h.0 here.0 q here.1 here.2, short_file reads r s (fits 0 r (omega arith)) h.0 here.0 q here.1 here.2)
    by more (inr there) = more there

-- ---- the files of infos that are held
module _ (reads : Name → Content) (infos : Infos) (segs : List Shown) (names : List Name) (h : IsHeld reads infos segs names) (fits : All RecordFits infos.segs) where
  each_of : (q : Name) → Contains names q → IsFramedIn reads q × (length q ≤ 46)
  each_of q c = framed_in reads infos.segs segs fits h.stands.each q ((h.files.named q).0 c)

  pub held_framed : All (IsFramedIn reads) names
  held_framed = λ k d lt. (each_of (get_or names k d) (Contains-get_or names k d lt)).0

  pub held_short : AreShortNames names
  held_short = record { ascending = h.files.ascending; short = λ k d lt. (each_of (get_or names k d) (Contains-get_or names k d lt)).1 }

no_name : AreShortNames []
unfolding IsStrictlySortedBy
no_name = record { ascending = tt; short = λ k d lt. absurd (omega (arith, lt)) }

pub none_short : (names : List Name) → names ≡ [] → AreShortNames names
none_short names e = subst AreShortNames (sym e) no_name
