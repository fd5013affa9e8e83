-- The live generations that a primary's segments have: no later generation gives them.
use Rattle.std.proofs.Common.{◌≡◌, ◌⊎◌, ◌==◌, ◌<◌, ◌≤◌, ◌+◌, ◌-◌, ◌*◌, ◌^◌, if◌then◌else◌, inl, inr, ℕ, zero, suc, Bool, true, false, List, [], ◌∷◌, length, get_or, subst, ◌∙◌, arith}
use Rattle.std.specs.List.{All, AllZip, Contains, flat_map}
use Rattle.std.proofs.lemmas.List.Elements.{All-head, All-tail, Contains-append_cases}
use Rattle.nrt_base.specs.SegNumbers.{segments_of_generation, segment_generation}
use Rattle.disk_model.specs.Disk.{Name, Content}
use Rattle.file_names.specs.Names.{live_name_of}
use Rattle.file_names.specs.declared.composed.SegPart.TheVariants.{Docs, Post, Info}
use Rattle.file_names.proofs.NameLaws.{live_name_apart, part_name_not_live}
use Rattle.segment_infos.specs.declared.infos.SegRecord.{SegRecord}
use Rattle.segment_infos.specs.declared.infos.Infos.{Infos}
use Rattle.segment_infos.specs.Files.{files_of_segment}
use Rattle.segment_steps.specs.Next.{live_base}
use Rattle.seg_reader.specs.Shown.{Shown}
use Rattle.seg_reader.specs.Stands.{IsSegmentIn}
use Rattle.index_primary.specs.Held.{drawn_to, IsDrawnRecord}

-- a number that is drawn is one that a file can name
pub drawn_small : (infos : Infos) (seg : ℕ) → infos.generation.0 < 2 ^ 31 → infos.counter ≤ segments_of_generation → seg < drawn_to infos → seg < 2 ^ 64
drawn_small infos seg low few below = omega (arith, low, few, below)

live_fits : (g made own live rows : ℕ) → g < 2 ^ 31 → rows < 2 ^ 32 → own + live ≤ (g - made) * 4294967296 + rows → own < 2 ^ 64
live_fits g made own live rows low few bound = fits (g - made) own live rows (omega (arith, low)) few bound
  where
    fits : (d own live rows : ℕ) → d < 2 ^ 31 → rows < 2 ^ 32 → own + live ≤ d * 4294967296 + rows → own < 2 ^ 64
    fits d own live rows low few bound = omega (arith, low, few, bound)

below_next : (g made own live rows : ℕ) → made ≤ g → rows < 2 ^ 32 → own + live ≤ (g - made) * 4294967296 + rows → own < (g + 1 - made) * 4294967296
below_next g made own live rows low few bound = fits (g - made) (g + 1 - made) own live rows (omega (arith, low)) few bound
  where
    fits : (d e own live rows : ℕ) → e ≡ d + 1 → rows < 2 ^ 32 → own + live ≤ d * 4294967296 + rows → own < e * 4294967296
    fits d e own live rows next few bound = omega (arith, next, few, bound)

module _ (infos : Infos) (low : infos.generation.0 < 2 ^ 31) (most : infos.counter ≤ segments_of_generation) (r : SegRecord) (live_gen : ℕ) (small : r.seg.0 < 2 ^ 64) (fits : live_gen < 2 ^ 64) (name : Name) (is_name : name ≡ live_name_of r.seg.0 live_gen) where
  abbrev IsBelow : Type 0
  IsBelow = live_gen < live_base (infos.generation.0 + 1) r

  -- the name is that of the live file of a segment
  its_own : (s : SegRecord) → IsDrawnRecord infos s → s.rows < 2 ^ 32 → live_name_of s.seg.0 s.live_gen ≡ name → IsBelow
  its_own s drawn rows is =
      let own = live_fits infos.generation.0 (segment_generation s.seg.0) s.live_gen s.live s.rows low rows drawn.live_gen in
      let same = live_name_apart s.seg.0 r.seg.0 s.live_gen live_gen (drawn_small infos s.seg.0 low most drawn.below) small own fits (is ∙ is_name) in
      let below = below_next infos.generation.0 (segment_generation s.seg.0) s.live_gen s.live s.rows drawn.made rows drawn.live_gen in
      subst (λ (x : ℕ × ℕ). x.1 < (infos.generation.0 + 1 - segment_generation x.0) * 4294967296) (λ i. (same.0 i, same.1 i)) below

  -- or of another file
  its_live : (s : SegRecord) → IsDrawnRecord infos s → s.rows < 2 ^ 32 → (test : Bool) (i : ℕ) → i < length (if test then [] else live_name_of s.seg.0 s.live_gen ∷ [])
      → get_or (if test then [] else live_name_of s.seg.0 s.live_gen ∷ []) i name ≡ name → IsBelow
  its_live s drawn rows true i lt is = absurd (omega (arith, lt))
  its_live s drawn rows false zero lt is = its_own s drawn rows is
  its_live s drawn rows false (suc i) lt is = absurd (omega (arith, lt))

  its_file : (s : SegRecord) → IsDrawnRecord infos s → s.rows < 2 ^ 32 → (i : ℕ) → i < length (files_of_segment s) → get_or (files_of_segment s) i name ≡ name → IsBelow
  its_file s drawn rows zero lt is = absurd (part_name_not_live s.seg.0 r.seg.0 live_gen Docs (drawn_small infos s.seg.0 low most drawn.below) small fits (is ∙ is_name))
  its_file s drawn rows (suc zero) lt is = absurd (part_name_not_live s.seg.0 r.seg.0 live_gen Post (drawn_small infos s.seg.0 low most drawn.below) small fits (is ∙ is_name))
  its_file s drawn rows (suc (suc zero)) lt is = absurd (part_name_not_live s.seg.0 r.seg.0 live_gen Info (drawn_small infos s.seg.0 low most drawn.below) small fits (is ∙ is_name))
  its_file s drawn rows (suc (suc (suc i))) lt is = its_live s drawn rows (s.live_gen == 0) i (omega (arith, lt)) is

  -- the name is that of a file of these segments
  pub live_low : (reads : Name → Content) (records : List SegRecord) (segs : List Shown) → All (IsDrawnRecord infos) records → AllZip (IsSegmentIn reads) records segs → Contains (flat_map files_of_segment records) name → IsBelow
  live_low reads [] segs drawn each named = absurd (omega (arith, named.1))
  live_low reads (s ∷ rs) [] drawn each named = absurd each
  live_low reads (s ∷ rs) (t ∷ ts) drawn each named =
      by (live_low reads rs ts (All-tail (IsDrawnRecord infos) s rs drawn) each.1) (Contains-append_cases (files_of_segment s) (flat_map files_of_segment rs) name named)
    where
      by : (Contains (flat_map files_of_segment rs) name → IsBelow) → Contains (files_of_segment s) name ⊎ Contains (flat_map files_of_segment rs) name → IsBelow
      by more (inl here) = its_file s (All-head (IsDrawnRecord infos) s rs drawn) each.0.segment.info.spelled.rows_fit here.0 here.1 here.2
      by more (inr there) = more there
